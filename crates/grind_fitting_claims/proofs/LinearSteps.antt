-- Each step by which a term is read as a linear form is defined exactly where its numbers fit, and it is that step.
use Rattle.std.proofs.Common.{◌≡◌, ◌≢◌, inl, inr, ℕ, List, [], ◌∷◌, ℤ, pos, ◌+ℤ◌, ◌*ℤ◌, FitsSigned, Option, Some, None, length, refl, sym, ap, ◌∙◌, subst, lit<, arith}
use Rattle.std.specs.Prelude.{if◌then◌else◌}
use Rattle.std.specs.Int.{w128}
use Rattle.std.specs.Option.{option_and_then}
use Rattle.std.proofs.lemmas.Option.{same_Some}
use lib.IntN.{+ℤ_idr, *ℤ-zero}
use Rattle.grind_monomials.proofs.ValueLemmas.{unit_left}
use Rattle.grind_linear_forms.specs.declared.form.Part.{Part}
use Rattle.grind_linear_forms.specs.Forms.{FormData, number_form, node_form, IsForm, fit}
use Rattle.grind_linear_forms.specs.Sums.{multiple, combination, both, scaled_form, scaled_sum}
use Rattle.grind_linear_forms.specs.Coefficients.{coefficient_at}
use Rattle.grind_linear_forms.specs.Readings.{is_number, product_form}
use Rattle.grind_linear_forms.proofs.Fits.{multiple_is}
use Rattle.grind_linear_forms.proofs.Merging.{merged-left}
use Rattle.grind_fitting_claims.specs.Results.{IsSumOf, CombinationFits}
use Rattle.grind_fitting_claims.specs.LinearReadings.{AdditionFits, AdditionsFit, IsFittingMultiple, IsProductOf}
use Rattle.grind_fitting_claims.proofs.SumsExactly.{sum_is, sum_fits, sum_there}

abbrev Fit : ℤ → Type 0
Fit number = FitsSigned w128 number

-- ---- sums
from_combination : (x y : ℤ) → CombinationFits (pos 1) x (pos 1) y → AdditionFits Fit x y
from_combination x y fits = (
  subst Fit (unit_left x) fits.0,
  subst Fit (unit_left y) fits.1,
  subst Fit (λ i. unit_left x i +ℤ unit_left y i) fits.2,
)

to_combination : (x y : ℤ) → AdditionFits Fit x y → CombinationFits (pos 1) x (pos 1) y
to_combination x y fits = (
  subst Fit (sym (unit_left x)) fits.0,
  subst Fit (sym (unit_left y)) fits.1,
  subst Fit (λ i. sym (unit_left x) i +ℤ sym (unit_left y) i) fits.2,
)

module _ (a b : FormData) (left : IsForm a) (right : IsForm b) where
  pub from_sum : (form : FormData) → scaled_sum a (pos 1) b (pos 1) ≡ Some form → AdditionsFit Fit a b × IsSumOf (pos 1) a (pos 1) b form
  from_sum form e =
      let fits = sum_fits a b (pos 1) (pos 1) left right form e in (
        (
          λ n. from_combination (coefficient_at n a.parts) (coefficient_at n b.parts) (fits.0 n),
          from_combination a.constant b.constant fits.1,
        ),
        sum_is a b (pos 1) (pos 1) left right form e,
      )

  pub to_sum : (form : FormData) → AdditionsFit Fit a b → IsSumOf (pos 1) a (pos 1) b form → scaled_sum a (pos 1) b (pos 1) ≡ Some form
  to_sum form fits is =
      sum_there a b (pos 1) (pos 1) left right form is (
        λ n. to_combination (coefficient_at n a.parts) (coefficient_at n b.parts) (fits.0 n),
        to_combination a.constant b.constant fits.1,
      )

-- ---- multiples, as sums with nothing
abbrev nothing : FormData
nothing = number_form (pos 0)

alone : (m x : ℤ) → combination m x (pos 1) (pos 0) ≡ multiple m x
unfolding combination fit multiple
alone m x = at_product (multiple m x) refl
  where
    at_product : (product : Option ℤ) → multiple m x ≡ product → option_and_then (λ p. fit (p +ℤ pos 0)) product ≡ product
    at_product None e = refl
    at_product (Some p) e = ap fit (+ℤ_idr p ∙ multiple_is m x p e) ∙ e

as_sum : (m : ℤ) (a : FormData) → scaled_sum a m nothing (pos 1) ≡ scaled_form m a
as_sum m a = λ i. both (merged-left m (pos 1) a.parts i) (alone m a.constant i)

nothing_more : (z : ℤ) → z +ℤ pos 1 *ℤ pos 0 ≡ z
nothing_more z = ap (λ (c : ℤ). z +ℤ c) (*ℤ-zero (pos 1)) ∙ +ℤ_idr z

zero_fits : FitsSigned w128 (pos 1 *ℤ pos 0)
zero_fits = record { sfits = lit< tt }

with_nothing : (m x : ℤ) → Fit (m *ℤ x) → CombinationFits m x (pos 1) (pos 0)
with_nothing m x fits = (fits, zero_fits, subst Fit (sym (nothing_more (m *ℤ x))) fits)

module _ (m : ℤ) (a : FormData) (left : IsForm a) where
  pub from_multiple : (form : FormData) → scaled_form m a ≡ Some form → IsFittingMultiple Fit m a form
  from_multiple form e =
      let there = as_sum m a ∙ e in
      let fits = sum_fits a nothing m (pos 1) left tt form there in
      let is = sum_is a nothing m (pos 1) left tt form there in (
        (λ n. (fits.0 n).0, fits.1.0),
        record {
          is_form = is.is_form;
          nodes = λ n. is.nodes n ∙ nothing_more (m *ℤ coefficient_at n a.parts);
          constants = is.constants ∙ nothing_more (m *ℤ a.constant);
        },
      )

  pub to_multiple : (form : FormData) → IsFittingMultiple Fit m a form → scaled_form m a ≡ Some form
  to_multiple form h =
      let is : IsSumOf m a (pos 1) nothing form = record {
        is_form = h.1.is_form;
        nodes = λ n. h.1.nodes n ∙ sym (nothing_more (m *ℤ coefficient_at n a.parts));
        constants = h.1.constants ∙ sym (nothing_more (m *ℤ a.constant));
      } in
      sym (as_sum m a)
      ∙ sum_there a nothing m (pos 1) left tt form is
      (λ n. with_nothing m (coefficient_at n a.parts) (h.0.0 n), with_nothing m a.constant h.0.1)

-- ---- products
pub some_parts : (x : Part) (xs : List Part) → x ∷ xs ≢ []
some_parts x xs e = let size = ap length e in omega (arith, size)

module _ (n : ℕ) (a b : FormData) (left : IsForm a) (right : IsForm b) where
  abbrev made_of : List Part → List Part → Option FormData
  made_of xs ys =
      if is_number xs then scaled_form a.constant b else if is_number ys then scaled_form b.constant a else Some (node_form n)

  from_parts : (form : FormData) (xs ys : List Part) → a.parts ≡ xs → b.parts ≡ ys → made_of xs ys ≡ Some form → IsProductOf Fit n a b form
  from_parts form [] ys is also e = inl (is, from_multiple a.constant b right form e)
  from_parts form (x ∷ xs) [] is also e =
      inr (inl ((λ none. some_parts x xs (sym is ∙ none)), also, from_multiple b.constant a left form e))
  from_parts form (x ∷ xs) (y ∷ ys) is also e =
      inr (inr ((λ none. some_parts x xs (sym is ∙ none)), (λ none. some_parts y ys (sym also ∙ none)), sym (same_Some (node_form n) form e)))

  pub from_product : (form : FormData) → product_form n a b ≡ Some form → IsProductOf Fit n a b form
  from_product form e = from_parts form a.parts b.parts refl refl e

  to_parts : (form : FormData) (xs ys : List Part) → a.parts ≡ xs → b.parts ≡ ys → IsProductOf Fit n a b form → made_of xs ys ≡ Some form
  to_parts form [] ys is also (inl h) = to_multiple a.constant b right form h.1
  to_parts form [] ys is also (inr (inl h)) = absurd (h.0 is)
  to_parts form [] ys is also (inr (inr h)) = absurd (h.0 is)
  to_parts form (x ∷ xs) [] is also (inl h) = absurd (some_parts x xs (sym is ∙ h.0))
  to_parts form (x ∷ xs) [] is also (inr (inl h)) = to_multiple b.constant a left form h.2
  to_parts form (x ∷ xs) [] is also (inr (inr h)) = absurd (h.1 also)
  to_parts form (x ∷ xs) (y ∷ ys) is also (inl h) = absurd (some_parts x xs (sym is ∙ h.0))
  to_parts form (x ∷ xs) (y ∷ ys) is also (inr (inl h)) = absurd (some_parts y ys (sym also ∙ h.1))
  to_parts form (x ∷ xs) (y ∷ ys) is also (inr (inr h)) = ap (λ (f : FormData). Some f) (sym h.2)

  pub to_product : (form : FormData) → IsProductOf Fit n a b form → product_form n a b ≡ Some form
  to_product form h = to_parts form a.parts b.parts refl refl h
