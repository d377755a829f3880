-- The factors to which a reduction leads, over whole numbers without bound.
use Rattle.std.specs.Prelude.{◌≡◌, ◌⊎◌, ℕ, List, [], ◌∷◌, None, Ok, Err, Bool, if◌then◌else◌, ⊤, ℤ, pos, ◌*ℤ◌}
use Rattle.grind_monomials.specs.Monomials.{quotient}
use Rattle.grind_polynomials.specs.declared.poly.Term.{Term}
use Rattle.grind_polynomials.specs.declared.poly.PolyRefusal.TheVariants.{Overflow}
use Rattle.grind_normal_forms.specs.declared.reduction.Reduced.{Reduced}
use Rattle.grind_normal_forms.specs.declared.factors.Factors.{Factors}
use Rattle.grind_polynomials.specs.Polynomials.{term_of, IsPoly, fit_or_refuse}
use Rattle.grind_polynomials.specs.Sums.{signed}
use Rattle.grind_normal_forms.specs.Pairs.{lead_monomial}
use Rattle.grind_normal_forms.specs.Reduction.{reduced_of, is_one, target, Steps, Reduces, IsContent}
use Rattle.grind_normal_forms.specs.Gathering.{Move, move_of, has_terms, factors_by}

-- one step, and its move
pub record MovesBy (minus : Bool) (basis : List (List Term)) (now : Reduced) (move : Move) (next : Reduced) : Type 0 where
  pub steps : Steps basis now next
  pub move_is : move ≡ move_of minus steps.found steps.step_is.divisor

-- the moves of a reduction, from the first step to the last
pub data Moves : List (List Term) → Bool → Reduced → List Move → Type 0 where
  none_left : {basis : List (List Term)} {minus : Bool} {now : Reduced} → target basis now.rest ≡ None → Moves basis minus now []
  one_more : {basis : List (List Term)} {minus : Bool} {now next : Reduced} {move : Move} {later : List Move}
      → MovesBy minus basis now move next → Moves basis minus next later → Moves basis minus now (move ∷ later)

-- the product of what the rest was multiplied by in each move
abbrev pub units : List Move → ℤ
units [] = pos 1
units (move ∷ later) = move.unit *ℤ units later

-- the monomials that were reduced, each as often as it was taken: the units of the later moves times the weight
abbrev pub reduced_terms : List Move → List Term
reduced_terms [] = []
reduced_terms (move ∷ later) = term_of (units later *ℤ signed move.minus move.weight) move.monomial ∷ reduced_terms later

-- the leading monomial of the element divides that of the term
abbrev pub divides_term : List Term → Term → Bool
divides_term b term = is_one (quotient (lead_monomial b) term.monomial)

-- the terms that the leading monomial of the element divides, each divided by it
unfoldable pub shares : List Term → List Term → List Term
shares b [] = []
shares b (term ∷ rest) =
    if divides_term b term then term_of term.coefficient (quotient term.monomial (lead_monomial b)) ∷ shares b rest else shares b rest

-- the other terms
unfoldable pub left_by : List Term → List Term → List Term
left_by b [] = []
left_by b (term ∷ rest) = if divides_term b term then left_by b rest else term ∷ left_by b rest

-- each term goes to the first element whose leading monomial divides it
abbrev pub shared_out : List (List Term) → List Term → List (List Term)
shared_out [] terms = []
shared_out (b ∷ bs) terms = shares b terms ∷ shared_out bs (left_by b terms)

-- the factors, over whole numbers without bound
pub record IsFinal (basis : List (List Term)) (p : List Term) (factors : Factors) : Type 0 where
  pub made : Reduced
  pub content : ℕ
  pub moves : List Move
  pub made_is : Reduces basis (reduced_of (pos 1) p) (Ok made)
  pub content_is : IsContent made content
  pub moves_are : Moves basis (has_terms made.rest) (reduced_of (pos 1) p) moves
  pub factors_are : factors ≡ factors_by made content (shared_out basis (reduced_terms moves)) (has_terms made.rest)

-- each coefficient fits
abbrev pub EachFits : List Term → Type 0
EachFits [] = ⊤
EachFits (term ∷ rest) = (fit_or_refuse term.coefficient ≡ Ok term.coefficient) × EachFits rest

-- and so it is in each of the lists
abbrev pub AllFit : List (List Term) → Type 0
AllFit [] = ⊤
AllFit (q ∷ qs) = EachFits q × AllFit qs

-- each number in the factors fits
pub record FactorNumbersFit (factors : Factors) : Type 0 where
  pub divisor : fit_or_refuse factors.divisor ≡ Ok factors.divisor
  pub own : fit_or_refuse factors.own ≡ Ok factors.own
  pub list : AllFit factors.list

-- the reduction ends, and a number in its factors does not fit
pub record Exceeds (basis : List (List Term)) (p : List Term) : Type 0 where
  pub factors : Factors
  pub final_is : IsFinal basis p factors
  pub over : FactorNumbersFit factors → ⊥

-- a coefficient on the way to the normal form does not fit, or a number in the final factors does not
abbrev pub FactorsOverflow : List (List Term) → List Term → Type 0
FactorsOverflow basis p = Reduces basis (reduced_of (pos 1) p) (Err Overflow) ⊎ Exceeds basis p

-- each element is a polynomial
abbrev pub ArePolys : List (List Term) → Type 0
ArePolys [] = ⊤
ArePolys (b ∷ bs) = IsPoly b × ArePolys bs
