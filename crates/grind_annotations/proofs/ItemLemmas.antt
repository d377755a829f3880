-- What holds of each item of a list.
use Rattle.std.specs.Prelude.{◌≡◌, ◌↔◌, ℕ, Bool, true, false, IsTrue, List, [], ◌∷◌, All, length, map, refl}
use Rattle.std.specs.List.{AllByRecursion}
use Rattle.std.proofs.Common.{arith, sym, true≢false, ◌∙◌}
use Rattle.std.proofs.lemmas.List.Elements.{All-cons, All-head, All-tail}

-- a list without items
pub no_items : {A : Type 0} (xs : List A) → length xs ≡ 0 → xs ≡ []
no_items [] e = refl
no_items (x ∷ xs) e = absurd (omega arith)

-- what holds of each item holds of each by recursion, mapped or not
pub All-map : {A B : Type 0} (f : A → B) (P : B → Type 0) (xs : List A) → All (λ x. P (f x)) xs → AllByRecursion P (map f xs)
All-map f P [] h = tt
All-map f P (x ∷ xs) h = (All-head (λ x. P (f x)) x xs h, All-map f P xs (All-tail (λ x. P (f x)) x xs h))

pub map-All : {A B : Type 0} (f : A → B) (P : B → Type 0) (xs : List A) → AllByRecursion P (map f xs) → All (λ x. P (f x)) xs
map-All f P [] h = λ k d l. absurd (omega arith)
map-All f P (x ∷ xs) h = All-cons (λ x. P (f x)) x xs h.0 (map-All f P xs h.1)

-- several and one more: where the several fail, and where they hold
pub none_of_both : {A B : Type 0} (f : A → B) (P : B → Type 0) (xs : List A) (Q : Type 0) (b : Bool) → IsTrue b ↔ All (λ x. P (f x)) xs → b ≡ false
    → IsTrue false ↔ (AllByRecursion P (map f xs) × Q)
none_of_both f P xs Q b h e = (λ t. absurd (true≢false (sym t)), λ w. absurd (true≢false (sym (h.1 (map-All f P xs w.0)) ∙ e)))

pub all_of_both : {A B : Type 0} (f : A → B) (P : B → Type 0) (xs : List A) (Q : Type 0) (b : Bool) → IsTrue b ↔ All (λ x. P (f x)) xs → b ≡ true
    → (r : Bool) → IsTrue r ↔ Q → IsTrue r ↔ (AllByRecursion P (map f xs) × Q)
all_of_both f P xs Q b h e r g = (λ t. (All-map f P xs (h.0 e), g.0 t), λ w. g.1 w.1)

-- the same with the one before the several
pub none_behind : {A B : Type 0} (f : A → B) (P : B → Type 0) (xs : List A) (Q : Type 0) (b : Bool) → IsTrue b ↔ All (λ x. P (f x)) xs → b ≡ false
    → IsTrue false ↔ (Q × AllByRecursion P (map f xs))
none_behind f P xs Q b h e = (λ t. absurd (true≢false (sym t)), λ w. absurd (true≢false (sym (h.1 (map-All f P xs w.1)) ∙ e)))

pub all_behind : {A B : Type 0} (f : A → B) (P : B → Type 0) (xs : List A) (Q : Type 0) (b : Bool) → IsTrue b ↔ All (λ x. P (f x)) xs → b ≡ true
    → (r : Bool) → IsTrue r ↔ Q → IsTrue r ↔ (Q × AllByRecursion P (map f xs))
all_behind f P xs Q b h e r g = (λ t. (g.0 t, All-map f P xs (h.0 e)), λ w. g.1 w.0)

-- and one more before
pub false_with : (P Q R : Type 0) → IsTrue false ↔ (Q × R) → IsTrue false ↔ (P × Q × R)
false_with P Q R h = (λ t. absurd (true≢false (sym t)), λ w. h.1 (w.1, w.2))

pub also : (P Q R : Type 0) (r : Bool) → P → IsTrue r ↔ (Q × R) → IsTrue r ↔ (P × Q × R)
also P Q R r p h = (λ t. let x = h.0 t in (p, x.0, x.1), λ w. h.1 (w.1, w.2))

pub only_all : {A B : Type 0} (f : A → B) (P : B → Type 0) (xs : List A) (r : Bool) → IsTrue r ↔ All (λ x. P (f x)) xs → IsTrue r ↔ AllByRecursion P (map f xs)
only_all f P xs r h = (λ t. All-map f P xs (h.0 t), λ w. h.1 (map-All f P xs w))
