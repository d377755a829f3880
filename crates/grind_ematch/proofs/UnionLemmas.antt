-- A walk down two lists of slots that makes what they have together.
use Rattle.std.proofs.Common.{◌≡◌, ℕ, arith, List, [], ◌∷◌, ◌++◌, Option, length, refl, sym, ap, ◌∙◌, subst, append_assoc}
use Rattle.grind_ematch.specs.Partials.{IsUnion, AreUnion, HasNoUnion}

union_along : (xs zs ys ws both : List (Option ℕ)) → xs ≡ zs → ys ≡ ws → AreUnion xs ys both → AreUnion zs ws both
union_along xs zs ys ws both e f u =
    let here = subst (λ (l : List (Option ℕ)). AreUnion l ys both) e u in
    subst (λ (l : List (Option ℕ)). AreUnion zs l both) f here

-- what is made, and what is left
pub record IsHalfUnion (left right made rest others : List (Option ℕ)) : Type 0 where
  pub whole : (both : List (Option ℕ)) → AreUnion rest others both → AreUnion left right (made ++ both)
  pub part : (both : List (Option ℕ)) → AreUnion left right both → (tail : List (Option ℕ)) × AreUnion rest others tail

pub IsHalfUnion-first : (left right made : List (Option ℕ)) → made ≡ [] → IsHalfUnion left right made left right
IsHalfUnion-first left right made e = record {
  whole = λ both u. subst (λ (m : List (Option ℕ)). AreUnion left right (m ++ both)) (sym e) u;
  part = λ both u. (both, u);
}

pub IsHalfUnion-next : (left right made rest others xs ys more : List (Option ℕ)) (x y z : Option ℕ) → rest ≡ x ∷ xs
    → others ≡ y ∷ ys → IsUnion x y z → more ≡ made ++ z ∷ [] → IsHalfUnion left right made rest others
    → IsHalfUnion left right more xs ys
IsHalfUnion-next left right made rest others xs ys more x y z e f u g h = record {
  whole = λ both us.
      let here : AreUnion (x ∷ xs) (y ∷ ys) (z ∷ both) = (z, both, refl, u, us) in
      let there : AreUnion rest others (z ∷ both) = union_along (x ∷ xs) rest (y ∷ ys) others (z ∷ both) (sym e) (sym f) here in
      let is : made ++ (z ∷ both) ≡ more ++ both = sym (append_assoc made (z ∷ []) both) ∙ ap (λ m. m ++ both) (sym g) in
      subst (AreUnion left right) is (h.whole (z ∷ both) there);
  part = λ both us.
      let there = h.part both us in
      let here = union_along rest (x ∷ xs) others (y ∷ ys) there.0 e f there.1 in
      (here.1, here.4);
}

empty_is : (xs : List (Option ℕ)) → length xs ≡ 0 → xs ≡ []
empty_is [] e = refl
empty_is (x ∷ xs) e = absurd (omega arith)

both_empty : (xs ys both : List (Option ℕ)) → length xs ≡ 0 → ys ≡ [] → both ≡ [] → AreUnion xs ys both
both_empty xs ys both e f g =
    let first : xs ≡ [] = empty_is xs e in
    subst (λ l. AreUnion l ys both) (sym first) (subst (λ l. AreUnion [] l both) (sym f) g)

append_none : (xs : List (Option ℕ)) → xs ++ [] ≡ xs
append_none [] = refl
append_none (x ∷ xs) = ap (λ ys. x ∷ ys) (append_none xs)

pub IsHalfUnion-last : (left right made rest others : List (Option ℕ)) → length rest ≡ 0 → length others ≡ 0
    → IsHalfUnion left right made rest others → AreUnion left right made
IsHalfUnion-last left right made rest others e f h =
    subst (AreUnion left right) (append_none made) (h.whole [] (both_empty rest others [] e (empty_is others f) refl))

module _ (left right made rest others : List (Option ℕ)) (h : IsHalfUnion left right made rest others) where
  pub none_by_others : (x : Option ℕ) (xs : List (Option ℕ)) → rest ≡ x ∷ xs → length others ≡ 0 → HasNoUnion left right
  none_by_others x xs e f = λ both us.
      let there = h.part both us in
      let is : others ≡ [] = empty_is others f in
      let here = union_along rest (x ∷ xs) others [] there.0 e is there.1 in
      here

  pub none_by_slot : (x y : Option ℕ) (xs ys : List (Option ℕ)) → rest ≡ x ∷ xs → others ≡ y ∷ ys
      → ((both : Option ℕ) → ¬ IsUnion x y both) → HasNoUnion left right
  none_by_slot x y xs ys e f never = λ both us.
      let there = h.part both us in
      let here = union_along rest (x ∷ xs) others (y ∷ ys) there.0 e f there.1 in
      never here.0 here.3

  pub none_by_rest : length rest ≡ 0 → (length others ≡ 0 → ⊥) → HasNoUnion left right
  none_by_rest e some = λ both us.
      let there = h.part both us in
      let is : rest ≡ [] = empty_is rest e in
      let here = union_along rest [] others others there.0 is refl there.1 in
      longer others there.0 some here
    where
      longer : (ys both : List (Option ℕ)) → (length ys ≡ 0 → ⊥) → AreUnion [] ys both → ⊥
      longer [] both some u = some refl
      longer (y ∷ ys) both some u = u
