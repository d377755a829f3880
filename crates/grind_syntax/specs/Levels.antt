-- The levels of the grammar, as the code names them.
use Rattle.std.specs.Prelude.{ℕ, Option, None}
use Rattle.grind_tokens.specs.declared.tokens.Sym.{Sym}
use Rattle.grind_grammar.specs.declared.syntax.Binary.{Binary}
use Rattle.grind_grammar.specs.Terms.{Term}
use Rattle.grind_grammar.specs.Reading as reading
use Rattle.grind_grammar.specs.Reading.{Reader}
use Rattle.grind_grammar.specs.Files.{depth_limit}
use Rattle.grind_syntax.specs.declared.levels.Level.{Level}
use Rattle.grind_syntax.specs.declared.levels.Level.TheVariants as levels

-- the place of a level, from the innermost
abbrev pub place : Level → ℕ
place levels.Atom = 0
place levels.Minus = 1
place levels.Product = 2
place levels.Sum = 3
place levels.Relation = 4
place levels.Negation = 5
place levels.Conj = 6
place levels.Disj = 7
place levels.Impl = 8
place levels.Formula = 9

-- the reader of a level, over the reader of what stands in parentheses
unfoldable pub level_over : Level → Reader (Option Term) → Reader (Option Term)
level_over levels.Atom inner = reading.atom depth_limit inner
level_over levels.Minus inner = reading.minus depth_limit inner
level_over levels.Product inner = reading.product depth_limit inner
level_over levels.Sum inner = reading.sum depth_limit inner
level_over levels.Relation inner = reading.relation depth_limit inner
level_over levels.Negation inner = reading.negation depth_limit inner
level_over levels.Conj inner = reading.conj depth_limit inner
level_over levels.Disj inner = reading.disj depth_limit inner
level_over levels.Impl inner = reading.impl depth_limit inner
level_over levels.Formula inner = reading.formula_over depth_limit inner

-- the reader of a level, where so many pairs of parentheses may stand in one another
abbrev pub level : Level → ℕ → Reader (Option Term)
level l room = level_over l (reading.formula depth_limit room)

-- the operators of a level
abbrev pub ops_of : Level → Sym → Option Binary
ops_of levels.Product sym = reading.product_op sym
ops_of levels.Sum sym = reading.sum_op sym
ops_of levels.Relation sym = reading.relation_op sym
ops_of levels.Conj sym = reading.conj_op sym
ops_of levels.Disj sym = reading.disj_op sym
ops_of levels.Impl sym = reading.impl_op sym
ops_of levels.Formula sym = reading.formula_op sym
ops_of _ sym = None
