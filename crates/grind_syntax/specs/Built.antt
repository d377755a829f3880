-- What the code keeps of the terms that it reads.
use Rattle.std.specs.Prelude.{◌≡◌, ◌<◌, length, ℕ, zero, suc, List, [], ◌∷◌, ◌++◌, Option, Some, None, map, All, if◌then◌else◌}
use Rattle.grind_grammar.specs.declared.syntax.Unary.{Unary}
use Rattle.grind_grammar.specs.declared.syntax.Binary.{Binary}
use Rattle.grind_grammar.specs.declared.syntax.Tree.{Tree}
use Rattle.grind_grammar.specs.Terms.{Term}
use Rattle.grind_grammar.specs.Keeps.{term_of, IsPlacedTree}
use Rattle.grind_grammar.specs.Reading.{Reader, read_map, signed, one, two, left_joined, left_chain, right_chain}
use Rattle.grind_grammar.specs.Lexemes.{Lexeme}
use Rattle.grind_tokens.specs.declared.tokens.Sym.{Sym}
use Rattle.grind_syntax.specs.declared.built.Built.{Built}
use Rattle.grind_syntax.specs.declared.parts.Parts.{Parts}
use Rattle.grind_syntax.specs.declared.sides.Side.{Side}

-- the term of what was built, if it was
abbrev pub term_given : List ℕ → Option Built → Option Term
term_given text None = None
term_given text (Some b) = Some (term_of text b.tree)

-- the names of what was built stand in the text
abbrev pub IsPlacedBuilt : List ℕ → Option Built → Type 0
IsPlacedBuilt text None = Unit {0}
IsPlacedBuilt text (Some b) = IsPlacedTree text b.tree

-- the terms of parts, where each was built
abbrev pub terms_given : List ℕ → Parts → Option (List Term)
terms_given text parts = if parts.complete then Some (map (term_of text) parts.trees.items) else None

abbrev pub IsPlacedParts : List ℕ → Parts → Type 0
IsPlacedParts text parts = All (IsPlacedTree text) parts.trees.items

-- one more term after those that are there
abbrev pub with_last : Option (List Term) → Option Term → Option (List Term)
with_last None t = None
with_last (Some ts) None = None
with_last (Some ts) (Some t) = Some (ts ++ t ∷ [])

-- so many signs before a term
unfoldable pub one_times : ℕ → Unary → ℕ → Option Term → Option Term
one_times limit op zero t = t
one_times limit op (suc n) t = one limit op (one_times limit op n t)

-- the sides of right-associative operators, with the last one after them
unfoldable pub sides_joined : ℕ → List ℕ → List Side → Option Term → Option Term
sides_joined limit text [] t = t
sides_joined limit text (s ∷ sides) t = two limit s.op (term_given text s.side) (sides_joined limit text sides t)

abbrev pub AreSidesPlaced : List ℕ → List Side → Type 0
AreSidesPlaced text = All (λ s. IsPlacedBuilt text s.side)

-- the names of trees stand in the text, if the trees were kept
abbrev pub AreTreesPlaced : List ℕ → Option (List Tree) → Type 0
AreTreesPlaced text None = Unit {0}
AreTreesPlaced text (Some trees) = All (IsPlacedTree text) trees

-- so many signs stand at the front, and no more: what a reader of signs and of a part gives is the part with the signs before it
abbrev pub Signed : Sym → List Lexeme → ℕ → List Lexeme → Type 0
Signed sym ls count rest =
    (limit : ℕ) (op : Unary) (part : Reader (Option Term)) → signed limit sym op part ls ≡ read_map (one_times limit op count) (part rest)

-- what is joined to the left so far, and what the rest joins to it, make the whole
pub record LeftSoFar (limit : ℕ) (ops : Sym → Option Binary) (part : Reader (Option Term)) (all : List Lexeme) (made : Option Term) (rest : List Lexeme) (count : ℕ) : Type 0 where
  pub fuel : ℕ
  pub enough : count < fuel
  pub same : left_joined limit ops part all ≡ left_chain limit ops part fuel made rest

-- the sides that stand before the rest, and what the rest gives, make the whole
pub record RightSoFar (limit : ℕ) (ops : Sym → Option Binary) (part : Reader (Option Term)) (text : List ℕ) (all : List Lexeme) (sides : List Side) (rest : List Lexeme) (count : ℕ) : Type 0 where
  pub fuel : ℕ
  pub enough : count < fuel
  pub same : right_chain limit ops part (suc (length all)) all ≡ read_map (sides_joined limit text sides) (right_chain limit ops part fuel rest)

-- the terms of trees, if they were kept
abbrev pub trees_given : List ℕ → Option (List Tree) → Option (List Term)
trees_given text None = None
trees_given text (Some trees) = Some (map (term_of text) trees)
