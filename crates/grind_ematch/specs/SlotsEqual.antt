-- Lists of slots that compare as equal are one, and so are hashed alike.
use Rattle.std.specs.Prelude.{◌≡◌, ℕ, true, List, [], ◌∷◌, Option, Some, None, nat_eq, refl}
use Rattle.std.proofs.Common.{ap, sym, ◌∙◌, true≢false, eqb-true}
use Rattle.std.proofs.lemmas.Bool.{and_parts}
use Rattle.std.specs.Option.{option_eq}
use Rattle.std.specs.Cmp.Lexicographic.{pointwise}
use Rattle.std.specs.Hash.{Alike, items_Alike, slice, option, u32}

-- slots that compare as equal are one
pub slot_same : (one other : Option ℕ) → option_eq nat_eq one other ≡ true → one ≡ other
slot_same None None e = refl
slot_same None (Some n) e = absurd (true≢false (sym e))
slot_same (Some n) None e = absurd (true≢false (sym e))
slot_same (Some n) (Some m) e = ap (λ (k : ℕ). Some k) (eqb-true n m e)

-- lists of slots that compare as equal are one
pub slots_same : (xs ys : List (Option ℕ)) → pointwise (option_eq nat_eq) xs ys ≡ true → xs ≡ ys
slots_same [] [] e = refl
slots_same [] (y ∷ ys) e = absurd (true≢false (sym e))
slots_same (x ∷ xs) [] e = absurd (true≢false (sym e))
slots_same (x ∷ xs) (y ∷ ys) e =
    let parts = and_parts (option_eq nat_eq x y) (pointwise (option_eq nat_eq) xs ys) e in
    ap (λ (slot : Option ℕ). slot ∷ xs) (slot_same x y parts.0)
    ∙ ap (λ (slots : List (Option ℕ)). y ∷ slots) (slots_same xs ys parts.1)

slot_fed : Alike (option_eq nat_eq) (option u32)
slot_fed = record { fed = λ one other e. ap (option u32) (slot_same one other e) }

-- lists of slots that compare as equal are hashed alike
pub slots_fed_alike : (xs ys : List (Option ℕ)) → pointwise (option_eq nat_eq) xs ys ≡ true
    → slice (option u32) xs ≡ slice (option u32) ys
slots_fed_alike = (items_Alike slot_fed).fed
