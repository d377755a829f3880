-- Forms worked out step by step.
use Rattle.std.proofs.Common.{◌≡◌, ℕ, List, [], ◌∷◌, length, ℤ, Option, Some, None, arith, sym, ap, ◌∙◌}
use Rattle.std.specs.Option.{option_and_then}
use Rattle.grind_linear_forms.specs.declared.form.Part.{Part}
use Rattle.grind_cutsat_bounds.specs.Evaluations.{with_part, evaluated}

-- a step that is defined, and one that is not
module _ (v : ℕ → ℤ) (sum : ℤ) (rest tail : List Part) (part : Part) (is : rest ≡ part ∷ tail) where
  pub step_on : (next : ℤ) (whole : Option ℤ) → with_part v sum part ≡ Some next → evaluated v sum rest ≡ whole
      → evaluated v next tail ≡ whole
  step_on next whole e so_far = sym (ap (option_and_then (λ (it : ℤ). evaluated v it tail)) e) ∙ sym (ap (evaluated v sum) is) ∙ so_far

  pub step_off : (whole : Option ℤ) → with_part v sum part ≡ None → evaluated v sum rest ≡ whole → None ≡ whole
  step_off whole e so_far = sym (ap (option_and_then (λ (it : ℤ). evaluated v it tail)) e) ∙ sym (ap (evaluated v sum) is) ∙ so_far

pub step_end : (v : ℕ → ℤ) (sum : ℤ) (rest : List Part) (whole : Option ℤ) → length rest ≡ 0 → evaluated v sum rest ≡ whole
    → Some sum ≡ whole
step_end v sum [] whole e so_far = so_far
step_end v sum (part ∷ rest) whole e so_far = absurd (omega arith)
