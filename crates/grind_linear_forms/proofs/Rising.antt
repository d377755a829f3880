-- What is made of parts that rise strictly, without 0, is so too.
use Rattle.std.proofs.Common.{◌≡◌, ◌≢◌, inl, inr, ℕ, zero, suc, ◌≤◌, List, [], ◌∷◌, ℤ, pos, negsuc, ◌*ℤ◌, Option, Some, None, arith, sym, ap, ◌∙◌, refl, subst}
use Rattle.std.proofs.lemmas.Bool.{cases_order}
use Rattle.std.proofs.lemmas.Option.{none-some, same_Some}
use lib.IntN.{*ℤ-zero}
use Rattle.grind_linear_forms.specs.declared.form.Part.{Part}
use Rattle.grind_linear_forms.specs.Forms.{RisesFrom}
use Rattle.grind_linear_forms.specs.Sums.{multiple, combination, in_front, front, multiplied, merged}
use Rattle.grind_linear_forms.specs.Cuts.{times}
use Rattle.grind_linear_forms.proofs.Merging.{multiplied-nil, multiplied-cons, merged-nil, merged-left, merged-less, merged-more, merged-same}

-- what rises from a number on rises from a lower one on
pub rises-lower : (low high : ℕ) (parts : List Part) → low ≤ high → RisesFrom high parts → RisesFrom low parts
rises-lower low high [] h rises = tt
rises-lower low high (part ∷ rest) h rises = let least = rises.0 in (omega arith, rises.1, rises.2)

not_zero : (n : ℕ) → pos (suc n) ≡ pos 0 → ⊥
not_zero n e = cc

not_zero_either : (n : ℕ) → negsuc n ≡ pos 0 → ⊥
not_zero_either n e = cc

rises-in_front : (low node : ℕ) (c : ℤ) (rest : List Part) → low ≤ node → RisesFrom (suc node) rest
    → RisesFrom low (in_front node c rest)
rises-in_front low node (pos zero) rest h rises = rises-lower low (suc node) rest (omega arith) rises
rises-in_front low node (pos (suc n)) rest h rises = (h, not_zero n, rises)
rises-in_front low node (negsuc n) rest h rises = (h, not_zero_either n, rises)

rises-front : (low node : ℕ) (c : Option ℤ) (rest : Option (List Part)) (all : List Part) → low ≤ node
    → front node c rest ≡ Some all → ((parts : List Part) → rest ≡ Some parts → RisesFrom (suc node) parts)
    → RisesFrom low all
rises-front low node None rest all h e rises = absurd (none-some all e)
rises-front low node (Some c) None all h e rises = absurd (none-some all e)
rises-front low node (Some c) (Some parts) all h e rises =
    subst (RisesFrom low) (same_Some _ _ e) (rises-in_front low node c parts h (rises parts refl))

pub rises-multiplied : (m : ℤ) (parts : List Part) (low : ℕ) (all : List Part) → RisesFrom low parts
    → multiplied m parts ≡ Some all → RisesFrom low all
rises-multiplied m [] low all rises e = subst (RisesFrom low) (same_Some _ _ (sym (multiplied-nil m) ∙ e)) tt
rises-multiplied m (x ∷ xs) low all rises e =
    rises-front low x.node (multiple m x.coefficient) (multiplied m xs) all rises.0 (sym (multiplied-cons m x xs) ∙ e)
    (λ parts f. rises-multiplied m xs (suc x.node) parts rises.2 f)

module _ (m k : ℤ) (x : Part) (xs : List Part) (nonzero : x.coefficient ≢ pos 0) (first : RisesFrom (suc x.node) xs)
    (below : (ys all : List Part) → RisesFrom (suc x.node) ys → merged m xs k ys ≡ Some all → RisesFrom (suc x.node) all) where
  rises-merged_from : (ys : List Part) (low : ℕ) (all : List Part) → low ≤ x.node → RisesFrom low ys
      → merged m (x ∷ xs) k ys ≡ Some all → RisesFrom low all
  rises-merged_from [] low all h rises e =
      rises-multiplied m (x ∷ xs) low all (h, nonzero, first) (sym (merged-left m k (x ∷ xs)) ∙ e)
  rises-merged_from (y ∷ ys) low all h rises e = elim (cases_order x.node y.node) [
    | inl same ↦ rises-front low x.node (combination m x.coefficient k y.coefficient) (merged m xs k ys) all h
        (sym (merged-same m k x y xs ys (omega arith) (omega arith)) ∙ e)
        (λ parts f. below ys parts (rises-lower (suc x.node) (suc y.node) ys (omega arith) rises.2) f)
    | inr (inl less) ↦ rises-front low x.node (multiple m x.coefficient) (merged m xs k (y ∷ ys)) all h
        (sym (merged-less m k x y xs ys less) ∙ e)
        (λ parts f. below (y ∷ ys) parts (omega arith, rises.1, rises.2) f)
    | inr (inr more) ↦ rises-front low y.node (multiple k y.coefficient) (merged m (x ∷ xs) k ys) all rises.0
        (sym (merged-more m k x y xs ys more) ∙ e)
        (λ parts f. rises-merged_from ys (suc y.node) parts (omega arith) rises.2 f)
  ]

pub rises-merged : (m k : ℤ) (xs ys : List Part) (low : ℕ) (all : List Part) → RisesFrom low xs → RisesFrom low ys
    → merged m xs k ys ≡ Some all → RisesFrom low all
rises-merged m k [] ys low all left right e = rises-multiplied k ys low all right (sym (merged-nil m k ys) ∙ e)
rises-merged m k (x ∷ xs) ys low all left right e =
    rises-merged_from m k x xs left.1 left.2
    (λ others parts rises f. rises-merged m k xs others (suc x.node) parts left.2 rises f) ys low all left.0 right e

-- and so are the quotients of its coefficients
pub rises-times : (g : ℤ) (low : ℕ) (quotients : List Part) → RisesFrom low (times g quotients) → RisesFrom low quotients
rises-times g low [] rises = tt
rises-times g low (part ∷ rest) rises =
    (rises.0, λ e. rises.1 (ap (λ (z : ℤ). g *ℤ z) e ∙ *ℤ-zero g), rises-times g (suc part.node) rest rises.2)
