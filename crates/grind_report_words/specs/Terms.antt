-- The lines of terms.
use Rattle.std.specs.Prelude.{◌≡◌, [], ◌∷◌, map, All, codes, decimal}
use Rattle.std.specs.Fmt.{signed_decimal}
use Rattle.grind_schemes.specs.Labels.{IsLabel}
use Rattle.grind_report_words.specs.declared.term.RawTerm.{RawTerm}
use Rattle.grind_report_words.specs.declared.term.RawTerm.TheVariants.{True, False, Const, Fun, Int, Not, And, Or, Implies, Eq, Le, Add, Neg, Mul}
use Rattle.grind_report_words.specs.Words.{Words, IsShort, IsWide, IsRow}

-- the words say this term: its kind, and then its name, its number or the numbers of its arguments
abbrev pub IsTerm : Words → RawTerm → Type 0
IsTerm words True = IsRow words (codes "true") []
IsTerm words False = IsRow words (codes "false") []
IsTerm words (Const name) = (words ≡ codes "const" ∷ name ∷ []) × IsLabel name
IsTerm words (Fun name args) = (words ≡ codes "fun" ∷ name ∷ map decimal args) × IsLabel name × All IsShort args
IsTerm words (Int value) = (words ≡ codes "int" ∷ signed_decimal value ∷ []) × IsWide value
IsTerm words (Not a) = IsRow words (codes "not") (a ∷ [])
IsTerm words (And a b) = IsRow words (codes "and") (a ∷ b ∷ [])
IsTerm words (Or a b) = IsRow words (codes "or") (a ∷ b ∷ [])
IsTerm words (Implies a b) = IsRow words (codes "implies") (a ∷ b ∷ [])
IsTerm words (Eq a b) = IsRow words (codes "eq") (a ∷ b ∷ [])
IsTerm words (Le a b) = IsRow words (codes "le") (a ∷ b ∷ [])
IsTerm words (Add a b) = IsRow words (codes "add") (a ∷ b ∷ [])
IsTerm words (Neg a) = IsRow words (codes "neg") (a ∷ [])
IsTerm words (Mul a b) = IsRow words (codes "mul") (a ∷ b ∷ [])
