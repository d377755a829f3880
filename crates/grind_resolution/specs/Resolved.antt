-- Which scheme a term stands for: its names by what they stand for, and its operators by the heads of schemes.
use Rattle.std.specs.Prelude.{◌≡◌, ℕ, List, [], ◌∷◌, Vec}
use Rattle.std.specs.Global.{Global}
use Rattle.grind_term_graph.specs.declared.head.Head.{Head}
use Rattle.grind_term_graph.specs.declared.head.Head.TheVariants as heads
use Rattle.grind_term_graph.specs.Terms.{prop, int}
use Rattle.grind_schemes.specs.declared.scheme.Scheme.{Scheme}
use Rattle.grind_schemes.specs.declared.scheme.Scheme as schemes
use Rattle.grind_grammar.specs.declared.syntax.Unary.{Unary}
use Rattle.grind_grammar.specs.declared.syntax.Unary.TheVariants as unaries
use Rattle.grind_grammar.specs.declared.syntax.Binary.{Binary}
use Rattle.grind_grammar.specs.declared.syntax.Binary.TheVariants as binaries
use Rattle.grind_grammar.specs.Terms.{Term, Row, True, False, Number, Apply, One, Two, none, more}
use Rattle.grind_resolution.specs.declared.meaning.Meaning.{Meaning}
use Rattle.grind_resolution.specs.declared.meaning.Meaning.TheVariants as meanings
use Rattle.grind_resolution.specs.Scopes.{Given}

-- the scheme is this head, of this sort, at these parts
abbrev pub IsMade : Head → ℕ → List Scheme → Scheme → Type 0
IsMade head sort parts scheme = (args : Vec Scheme Global) × (args.items ≡ parts) × (scheme ≡ schemes.Apply head sort args)

-- the scheme of what a name stands for, at these parts
abbrev pub IsMeant : Meaning → ℕ → List Scheme → Scheme → Type 0
IsMeant (meanings.Variable i) sort parts scheme = (parts ≡ []) × (scheme ≡ schemes.Var i)
IsMeant (meanings.Headed head) sort parts scheme = IsMade head sort parts scheme

-- the negation of a scheme, the order of two, the equation of two, and a whole number with its sign turned
abbrev pub IsNegation : Scheme → Scheme → Type 0
IsNegation a scheme = IsMade heads.Not prop (a ∷ []) scheme

abbrev pub IsOrder : Scheme → Scheme → Scheme → Type 0
IsOrder a b scheme = IsMade heads.Le prop (a ∷ b ∷ []) scheme

abbrev pub IsEquation : Scheme → Scheme → Scheme → Type 0
IsEquation a b scheme = IsMade heads.Eq prop (a ∷ b ∷ []) scheme

abbrev pub IsOpposite : Scheme → Scheme → Type 0
IsOpposite a scheme = IsMade heads.Neg int (a ∷ []) scheme

-- the scheme of an operator at a part
abbrev pub IsUnary : Unary → Scheme → Scheme → Type 0
IsUnary unaries.Not a scheme = IsNegation a scheme
IsUnary unaries.Neg a scheme = IsOpposite a scheme

-- the scheme of an operator at its sides. An equivalence is an equation of formulas, a `!=` a negated equation; the four
-- orders are one, turned or negated; and a difference is a sum
abbrev pub IsBinary : Binary → Scheme → Scheme → Scheme → Type 0
IsBinary binaries.Iff a b scheme = IsEquation a b scheme
IsBinary binaries.Implies a b scheme = IsMade heads.Implies prop (a ∷ b ∷ []) scheme
IsBinary binaries.Or a b scheme = IsMade heads.Or prop (a ∷ b ∷ []) scheme
IsBinary binaries.And a b scheme = IsMade heads.And prop (a ∷ b ∷ []) scheme
IsBinary binaries.Eq a b scheme = IsEquation a b scheme
IsBinary binaries.Ne a b scheme = (same : Scheme) × IsEquation a b same × IsNegation same scheme
IsBinary binaries.Lt a b scheme = (turned : Scheme) × IsOrder b a turned × IsNegation turned scheme
IsBinary binaries.Le a b scheme = IsOrder a b scheme
IsBinary binaries.Gt a b scheme = (order : Scheme) × IsOrder a b order × IsNegation order scheme
IsBinary binaries.Ge a b scheme = IsOrder b a scheme
IsBinary binaries.Add a b scheme = IsMade heads.Add int (a ∷ b ∷ []) scheme
IsBinary binaries.Sub a b scheme = (opposite : Scheme) × IsOpposite b opposite × IsMade heads.Add int (a ∷ opposite ∷ []) scheme
IsBinary binaries.Mul a b scheme = IsMade heads.Mul int (a ∷ b ∷ []) scheme

module _ (gives : List ℕ → Given → Type 0) where
  abbrev mutual
    -- the term stands for this scheme
    pub StandsFor : Term → Scheme → Type 0
    StandsFor True scheme = IsMade heads.True prop [] scheme
    StandsFor False scheme = IsMade heads.False prop [] scheme
    StandsFor (Number value) scheme = IsMade (heads.Int value) int [] scheme
    StandsFor (Apply name row) scheme =
        (given : Given) × (parts : List Scheme) × gives name given × StandForRow row parts
        × IsMeant given.meaning given.sort parts scheme
    StandsFor (One op a) scheme = (part : Scheme) × StandsFor a part × IsUnary op part scheme
    StandsFor (Two op a b) scheme =
        (left : Scheme) × (right : Scheme) × StandsFor a left × StandsFor b right × IsBinary op left right scheme

    -- the parts stand for these schemes, one each
    pub StandForRow : Row → List Scheme → Type 0
    StandForRow none [] = Unit {0}
    StandForRow none (scheme ∷ parts) = ⊥
    StandForRow (more t row) [] = ⊥
    StandForRow (more t row) (scheme ∷ parts) = StandsFor t scheme × StandForRow row parts
