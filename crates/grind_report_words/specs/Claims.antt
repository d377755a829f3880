-- The words of forms, polynomials and claims.
use Rattle.std.specs.Prelude.{◌≡◌, List, [], ◌∷◌, length, map, flat_map, All, codes, decimal}
use Rattle.std.specs.Fmt.{signed_decimal}
use Rattle.grind_linear_forms.specs.declared.form.Part.{Part}
use Rattle.grind_linear_forms.specs.Forms.{FormData, IsForm}
use Rattle.grind_polynomials.specs.declared.poly.Term.{Term}
use Rattle.grind_polynomials.specs.Polynomials.{IsPoly}
use Rattle.grind_claims.specs.declared.claim.Claim.{Claim}
use Rattle.grind_claims.specs.declared.claim.Claim.TheVariants.{Holds, Fails, Same, Differ, AtMost, Zero, Absurd}
use Rattle.grind_report_words.specs.Words.{Words, IsShort, IsWide, IsRow}

-- the words of a node with its coefficient
abbrev pub part_words : Part → Words
part_words part = signed_decimal part.coefficient ∷ decimal part.node ∷ []

-- the words of a linear form: its constant, and then each node after its coefficient
abbrev pub form_words : FormData → Words
form_words form = signed_decimal form.constant ∷ flat_map part_words form.parts

-- the words of a monomial with its coefficient: the coefficient, the degree, and the nodes
abbrev pub monomial_words : Term → Words
monomial_words term = signed_decimal term.coefficient ∷ decimal (length term.monomial) ∷ map decimal term.monomial

-- the words of a polynomial: how many monomials it has, and then each with its coefficient
abbrev pub poly_words : List Term → Words
poly_words poly = decimal (length poly) ∷ flat_map monomial_words poly

-- a node with its coefficient that a report may hold
pub record PartFits (part : Part) : Type 0 where
  pub coefficient : IsWide part.coefficient
  pub node : IsShort part.node

-- a linear form that it may hold: the nodes rise, and no coefficient is 0
pub record FormFits (form : FormData) : Type 0 where
  pub constant : IsWide form.constant
  pub parts : All PartFits form.parts
  pub rises : IsForm form

-- a monomial with its coefficient that it may hold
pub record MonomialFits (term : Term) : Type 0 where
  pub coefficient : IsWide term.coefficient
  pub degree : IsShort (length term.monomial)
  pub nodes : All IsShort term.monomial

-- a polynomial that it may hold: the monomials fall, the nodes of each never do, and no coefficient is 0
pub record PolyFits (poly : List Term) : Type 0 where
  pub count : IsShort (length poly)
  pub terms : All MonomialFits poly
  pub falls : IsPoly poly

-- the words say this linear form
abbrev pub IsFormRow : Words → FormData → Type 0
IsFormRow words form = (words ≡ form_words form) × FormFits form

-- the words say this claim
abbrev pub IsClaim : Words → Claim → Type 0
IsClaim words (Holds n) = IsRow words (codes "holds") (n ∷ [])
IsClaim words (Fails n) = IsRow words (codes "fails") (n ∷ [])
IsClaim words (Same a b) = IsRow words (codes "same") (a ∷ b ∷ [])
IsClaim words (Differ a b) = IsRow words (codes "differ") (a ∷ b ∷ [])
IsClaim words (AtMost form) = (words ≡ codes "atmost" ∷ form_words form) × FormFits form
IsClaim words (Zero poly) = (words ≡ codes "zero" ∷ poly_words poly) × PolyFits poly
IsClaim words Absurd = IsRow words (codes "absurd") []
