-- The factors by which a multiple of a polynomial is its normal form and a sum of multiples of the basis.
use Rattle.std.specs.Prelude.{◌≡◌, ◌⊎◌, ℕ, ◌<◌, List, [], ◌∷◌, ◌++◌, None, Result, Ok, Err, Bool, true, false, not, ◌&&◌, ℤ, pos, ◌+ℤ◌, ◌*ℤ◌}
use Rattle.grind_monomials.specs.Monomials.{quotient}
use Rattle.grind_polynomials.specs.declared.poly.Term.{Term}
use Rattle.grind_polynomials.specs.declared.poly.PolyRefusal.{PolyRefusal}
use Rattle.grind_polynomials.specs.declared.poly.PolyRefusal.TheVariants.{Overflow}
use Rattle.grind_normal_forms.specs.declared.reduction.Reduced.{Reduced}
use Rattle.grind_normal_forms.specs.declared.factors.Factors.{Factors}
use Rattle.grind_normal_forms.specs.declared.gathering.Moving.{Moving}
use Rattle.grind_polynomials.specs.Polynomials.{fit_or_refuse}
use Rattle.grind_polynomials.specs.Sums.{and_then, signed, with_more}
use Rattle.grind_normal_forms.specs.Pairs.{lead_monomial}
use Rattle.grind_polynomials.specs.Values.{poly_value}
use Rattle.grind_normal_forms.specs.Reduction.{reduced_of, is_one, Target, target, unit, weight, scaled, Steps, Reduces, IsContent}

-- how the target is reduced: by which numbers, and which monomial
pub record Move : Type 0 where
  pub minus : Bool
  pub unit : ℤ
  pub weight : ℤ
  pub monomial : List ℕ

abbrev pub move_by : Bool → ℤ → ℤ → List ℕ → Move
move_by minus unit weight monomial = record { minus = minus; unit = unit; weight = weight; monomial = monomial }

-- the move with these parts
abbrev pub move_with : Moving → Move
move_with moving = move_by moving.minus moving.unit moving.weight moving.monomial.now

-- the move of a step
abbrev pub move_of : Bool → Target → ℕ → Move
move_of minus found h = move_by minus (unit found h) (weight found h) found.term.monomial

-- the factor of an element after a move: the unit times what it was, and the weight and the monomial's quotient more, or
-- less, where the element is the one that reduces
abbrev pub factor_moved : Move → Bool → List Term → List Term → Result (List Term) PolyRefusal
factor_moved move true b q =
    and_then (with_more (signed move.minus move.weight) (quotient move.monomial (lead_monomial b))) (scaled move.unit q)
factor_moved move false b q = scaled move.unit q

-- a factor before others, where all are defined
abbrev pub before : Result (List Term) PolyRefusal → Result (List (List Term)) PolyRefusal → Result (List (List Term)) PolyRefusal
before q rest = and_then (λ first. and_then (λ all. Ok (first ∷ all)) rest) q

-- further factors after those that are done
abbrev pub behind_all : List (List Term) → Result (List (List Term)) PolyRefusal → Result (List (List Term)) PolyRefusal
behind_all done rest = and_then (λ all. Ok (done ++ all)) rest

-- whether the element is the first that reduces the monomial, where none before it is
abbrev pub hits : List ℕ → Bool → List Term → Bool
hits monomial free b = free && is_one (quotient (lead_monomial b) monomial)

-- the factors of basis elements after a move, where the element that reduces stands among them if `free`
unfoldable pub factors_moved : Move → Bool → List (List Term) → List (List Term) → Result (List (List Term)) PolyRefusal
factors_moved move free [] qs = Ok []
factors_moved move free (b ∷ bs) [] = Ok []
factors_moved move free (b ∷ bs) (q ∷ qs) =
    before (factor_moved move (hits move.monomial free b) b q) (factors_moved move (free && not (hits move.monomial free b)) bs qs)

-- no multiple of any element
abbrev pub no_factors : List (List Term) → List (List Term)
no_factors [] = []
no_factors (b ∷ bs) = [] ∷ no_factors bs

-- one step leads from factors to others
pub record StepsWith (minus : Bool) (basis : List (List Term)) (now : Reduced) (qs : List (List Term)) (next : Reduced)
    (more : List (List Term)) : Type 0 where
  pub steps : Steps basis now next
  pub more_is : factors_moved (move_of minus steps.found steps.step_is.divisor) true basis qs ≡ Ok more

-- in one step a number in a factor does not fit
pub record SpillsWith (minus : Bool) (basis : List (List Term)) (now : Reduced) (qs : List (List Term)) : Type 0 where
  pub next : Reduced
  pub steps : Steps basis now next
  pub refused : factors_moved (move_of minus steps.found steps.step_is.divisor) true basis qs ≡ Err Overflow

-- steps lead to factors, or to a number in a factor that does not fit
pub data Gathers : List (List Term) → Bool → Reduced → List (List Term) → Result (List (List Term)) PolyRefusal → Type 0 where
  ended : {basis : List (List Term)} {minus : Bool} {now : Reduced} {qs : List (List Term)}
      → target basis now.rest ≡ None → Gathers basis minus now qs (Ok qs)
  moved : {basis : List (List Term)} {minus : Bool} {now next : Reduced} {qs more : List (List Term)}
      {answer : Result (List (List Term)) PolyRefusal} → StepsWith minus basis now qs next more
      → Gathers basis minus next more answer → Gathers basis minus now qs answer
  spilt : {basis : List (List Term)} {minus : Bool} {now : Reduced} {qs : List (List Term)}
      → SpillsWith minus basis now qs → Gathers basis minus now qs (Err Overflow)

-- whether there are terms
abbrev pub has_terms : List Term → Bool
has_terms [] = false
has_terms (term ∷ rest) = true

-- the factors with these parts
abbrev pub factors_of_parts : ℤ → ℤ → List (List Term) → Factors
factors_of_parts divisor own list = record { divisor = divisor; own = own; list = list }

-- where there is a rest: its divisor, how often the polynomial is taken, and the factors with their signs turned; else how
-- often the polynomial is taken, and the factors
abbrev pub factors_by : Reduced → ℕ → List (List Term) → Bool → Factors
factors_by made content gathered true = factors_of_parts (pos content) made.factor gathered
factors_by made content gathered false = factors_of_parts made.factor (pos 0) gathered

-- the factors of a reduction
pub record IsFactors (basis : List (List Term)) (p : List Term) (factors : Factors) : Type 0 where
  pub made : Reduced
  pub content : ℕ
  pub gathered : List (List Term)
  pub made_is : Reduces basis (reduced_of (pos 1) p) (Ok made)
  pub content_is : IsContent made content
  pub content_positive : 0 < content
  pub gathered_is : Gathers basis (has_terms made.rest) (reduced_of (pos 1) p) (no_factors basis) (Ok gathered)
  pub factors_are : factors ≡ factors_by made content gathered (has_terms made.rest)

-- a number in the factors does not fit
pub record Spills (basis : List (List Term)) (p : List Term) : Type 0 where
  pub made : Reduced
  pub content : ℕ
  pub made_is : Reduces basis (reduced_of (pos 1) p) (Ok made)
  pub content_is : IsContent made content
  pub refused : Gathers basis (has_terms made.rest) (reduced_of (pos 1) p) (no_factors basis) (Err Overflow)
      ⊎ ((has_terms made.rest ≡ true) × (fit_or_refuse (pos content) ≡ Err Overflow))

-- the sum of the factors, each times its basis element, at a table of values
abbrev pub products_value : (ℕ → ℤ) → List (List Term) → List (List Term) → ℤ
products_value v [] qs = pos 0
products_value v (b ∷ bs) [] = pos 0
products_value v (b ∷ bs) (q ∷ qs) = (poly_value v q *ℤ poly_value v b) +ℤ products_value v bs qs
