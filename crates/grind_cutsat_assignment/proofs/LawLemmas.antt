-- What the assignment makes true.
use Rattle.std.proofs.Common.{◌≡◌, ◌≢◌, inl, ℕ, ◌≤◌, List, [], ◌∷◌, ℤ, pos, ◌+ℤ◌, ◌*ℤ◌, ◌≤ℤ◌, Option, Some, None, arith, refl, sym, ap, ◌∙◌, subst}
use Rattle.std.specs.Option.{option_and_then}
use Rattle.std.proofs.lemmas.Option.{none-some, same_Some}
use Rattle.grind_lemmas.proofs.Rings.{linear}
use Rattle.grind_linear_forms.specs.declared.form.Part.{Part}
use Rattle.grind_linear_forms.specs.Forms.{FormData, form_data, fit}
use Rattle.grind_linear_forms.specs.Readings.{linear as linear_reading}
use Rattle.grind_linear_forms.specs.Values.{parts_value, form_value}
use Rattle.grind_linear_forms.proofs.Fits.{fit_is}
use Rattle.grind_claims.specs.declared.claim.Claim.TheVariants.{AtMost}
use Rattle.grind_cutsat_facts.specs.Facts.{IsSaid}
use Rattle.grind_cutsat_facts.proofs.FactLemmas.{at_first}
use Rattle.grind_cutsat_bounds.specs.Evaluations.{with_part, evaluated}
use Rattle.grind_cutsat_assignment.specs.declared.outcome.Chosen.{Chosen}
use Rattle.grind_cutsat_assignment.specs.Given.{Given}
use Rattle.grind_cutsat_assignment.specs.Assignments.{chosen_value, read_value, IsAssignment}
use Rattle.grind_cutsat_assignment.specs.Laws.{BoundsHold, DifferencesHold}

-- a step that is defined, and what comes of it
chained : (f : ℤ → Option ℤ) (first : Option ℤ) (result : ℤ) → option_and_then f first ≡ Some result
    → (next : ℤ) × (first ≡ Some next) × (f next ≡ Some result)
chained f None result e = absurd (none-some result e)
chained f (Some next) result e = (next, refl, e)

module _ (v : ℕ → ℤ) where
  -- what a number and parts come to is the number and the value of the parts
  evaluated_is : (parts : List Part) (sum result : ℤ) → evaluated v sum parts ≡ Some result → result ≡ sum +ℤ parts_value v parts
  evaluated_is [] sum result e = let same = same_Some sum result e in omega (arith, linear)
  evaluated_is (part ∷ parts) sum result e =
      let w = chained (λ next. evaluated v next parts) (with_part v sum part) result e in
      let p = chained (λ product. fit (sum +ℤ product)) (fit (part.coefficient *ℤ v part.node)) w.0 w.1 in
      let product = fit_is (part.coefficient *ℤ v part.node) p.0 p.1 in
      let next = fit_is (sum +ℤ p.0) w.0 p.2 in
      let rest = evaluated_is parts w.0 result w.2 in omega (arith, linear)

module _ (it : Given) (list : List Chosen) (is : IsAssignment it list) where
  bound_holds : (post : ℕ) (form : FormData) (part : Part) (tail : List Part) → form.parts ≡ part ∷ tail
      → IsSaid it.facts post (AtMost form) → form_value (chosen_value list) form ≤ℤ pos 0
  bound_holds post form part tail parts said =
      let allowed = (is.values.right part.node (low part.node) (inl (
        post,
        form_data (part ∷ tail) form.constant,
        said_bound,
        (part.coefficient, at_first part tail),
      ))).within post
      (record { coefficient = part.coefficient; greater = tail; constant = form.constant }) said_bound in
      subst (λ (these : FormData). form_value (chosen_value list) these ≤ℤ pos 0) (sym whole)
      (at_most part.coefficient allowed.0 (evaluated_is (chosen_value list) tail form.constant allowed.0 allowed.1) allowed.2)
    where
      whole : form ≡ form_data (part ∷ tail) form.constant
      whole = ap (λ (these : List Part). form_data these form.constant) parts

      said_bound : IsSaid it.facts post (AtMost (form_data (part ∷ tail) form.constant))
      said_bound = subst (λ (these : FormData). IsSaid it.facts post (AtMost these)) whole said

      low : (n : ℕ) → 0 ≤ n
      low n = omega arith

      at_most : (c rest : ℤ) → rest ≡ form.constant +ℤ parts_value (chosen_value list) tail
          → (c *ℤ chosen_value list part.node +ℤ rest) ≤ℤ pos 0
          → ((c *ℤ chosen_value list part.node +ℤ parts_value (chosen_value list) tail) +ℤ form.constant) ≤ℤ pos 0
      at_most c rest e h = omega (arith, linear)

  by_parts : (post : ℕ) (form : FormData) (parts : List Part) → form.parts ≡ parts → form.parts ≢ []
      → IsSaid it.facts post (AtMost form) → form_value (chosen_value list) form ≤ℤ pos 0
  by_parts post form [] e some said = absurd (some e)
  by_parts post form (part ∷ tail) e some said = bound_holds post form part tail e said

pub bounds_hold : BoundsHold
bounds_hold it list post form is said some = by_parts it list is post form form.parts refl some said

pub differences_hold : DifferencesHold
differences_hold it list post a b one other is says first second same =
    let v = chosen_value list in
    let kept = is.values.apart post a b says in
    let left = evaluated_is v one.parts one.constant kept.0 (read a one first ∙ kept.2) in
    let right = evaluated_is v other.parts other.constant kept.1 (read b other second ∙ kept.3) in
    kept.4 (one_value one.constant (parts_value v one.parts) other.constant (parts_value v other.parts) kept.0 kept.1 left right same)
  where
    read : (n : ℕ) (form : FormData) → linear_reading it.nodes n ≡ Some form
        → evaluated (chosen_value list) form.constant form.parts ≡ read_value it.nodes (chosen_value list) n
    read n form e = sym (ap (option_and_then (λ (these : FormData). evaluated (chosen_value list) these.constant these.parts)) e)

    one_value : (c p d q left right : ℤ) → left ≡ c +ℤ p → right ≡ d +ℤ q → p +ℤ c ≡ q +ℤ d → left ≡ right
    one_value c p d q left right e f same = omega (arith, linear)
