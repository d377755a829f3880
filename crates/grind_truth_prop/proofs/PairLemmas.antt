-- Where pairs stand in a list.
use Rattle.std.specs.Prelude.{◌≡◌, ℕ, zero, suc, ◌≤◌, ◌+◌, true, false, cond, List, [], ◌∷◌, ◌++◌, Option, Some, None, IsSome, IsNone, IfSome, Contains, length, take, slice_get, nat_eq, refl}
use Rattle.std.specs.List.{AllZip}
use Rattle.std.proofs.Common.{arith, sym, ap, subst, ◌∙◌, inl, inr, rules, add-one}
use Rattle.std.proofs.lemmas.Bool.{cases_eq, cases_Bool, cond-true, cond-false, and_parts, both_ways}
use Rattle.std.proofs.lemmas.Option.{slice_get_within, same_Some, slice_get-get_or, get_or_from_slice_get}
use Rattle.grind_classes.specs.Classes.{IsIn, IsPartition}
use Rattle.grind_truth_prop.specs.Given.{couple}
use Rattle.grind_truth_prop.specs.Equations.{AreNotParted}
use Rattle.grind_truth_prop.specs.Pairs.{couple_eq, FindsFirst, Finds, AreRoots, FindsParted, IsPartedPlace}
use Rattle.grind_truth_prop.specs.declared.types.Couple.{Couple}
use Rattle.grind_truth_prop.specs.declared.types.Known.{Known}

-- two pairs with the same nodes are one
pub same_couple : (p q : Couple) → p.left ≡ q.left → p.right ≡ q.right → p ≡ q
same_couple p q e f = λ i. record { left = e i; right = f i }

nat_eq-same : (a b : ℕ) → nat_eq a b ≡ true → a ≡ b
nat_eq-same a b e = search rules

-- two pairs that compare as equal are one
couple_eq-same : (p q : Couple) → couple_eq p q ≡ true → p ≡ q
couple_eq-same p q e =
    let parts = and_parts (nat_eq p.left q.left) (nat_eq p.right q.right) e in
    same_couple p q (nat_eq-same p.left q.left parts.0) (nat_eq-same p.right q.right parts.1)

-- each pair compares as equal to itself
couple_eq-refl : (p : Couple) → couple_eq p p ≡ true
couple_eq-refl p = search rules

is_some_of : (o : Option ℕ) (n : ℕ) → o ≡ Some n → IsSome o
is_some_of o n e = subst (λ (it : Option ℕ). IsSome it) (sym e) refl

not_none : (o : Option ℕ) → o ≡ None → IsSome o → ⊥
not_none o e h = let wrong = subst (λ (it : Option ℕ). IsSome it) e h in absurd cc

module _ (find next : Couple → Option ℕ) (pairs : List Couple) (i : ℕ) (pair : Couple)
    (stands : slice_get pairs i ≡ Some pair) (updates : (q : Couple) → next q ≡ cond (couple_eq pair q) (Some i) (find q)) where
  at_pair : (q : Couple) → couple_eq pair q ≡ true → next q ≡ Some i
  at_pair q same = updates q ∙ cond-true (couple_eq pair q) (Some i) (find q) same

  elsewhere : (q : Couple) → couple_eq pair q ≡ false → next q ≡ find q
  elsewhere q other = updates q ∙ cond-false (couple_eq pair q) (Some i) (find q) other

  -- what finds the first pairs and is told the place of the next one finds that too
  pub finds_next : FindsFirst find pairs i → FindsFirst next pairs (i + 1)
  finds_next before = record {
    sound = λ q place found. elim (cases_Bool (couple_eq pair q)) [
      | inl same ↦
          let is = couple_eq-same pair q same in
          let number = same_Some i place (sym (at_pair q same) ∙ found) in
          ap (λ k. slice_get pairs k) (sym number) ∙ stands ∙ ap (λ (p : Couple). Some p) is
      | inr other ↦ before.sound q place (sym (elsewhere q other) ∙ found)
    ];
    whole = λ q place below there. elim (cases_Bool (couple_eq pair q)) [
      | inl same ↦ is_some_of (next q) i (at_pair q same)
      | inr other ↦ elim (cases_eq place i) [
        | inl is ↦
            let p : pair ≡ q = same_Some pair q (sym stands ∙ ap (λ k. slice_get pairs k) (sym is) ∙ there) in
            absurd (both_ways (couple_eq pair q) other (ap (λ r. couple_eq pair r) (sym p) ∙ couple_eq-refl pair))
        | inr less ↦ subst (λ (it : Option ℕ). IsSome it) (sym (elsewhere q other)) (before.whole q place (omega (arith, below, less)) there)
      ]
    ];
  }

-- what finds nothing finds no pair
pub finds_none : (find : Couple → Option ℕ) (pairs : List Couple) → ((q : Couple) → find q ≡ None) → FindsFirst find pairs 0
finds_none find pairs none = record {
  sound = λ q place found. let wrong : None ≡ Some place = sym (none q) ∙ found in absurd cc;
  whole = λ q place below there. absurd (omega (arith, below));
}

-- what finds as many first pairs as there are finds all
pub finds_all : (find : Couple → Option ℕ) (pairs : List Couple) (count : ℕ) → length pairs ≤ count → FindsFirst find pairs count → Finds find pairs
finds_all find pairs count all first = record {
  sound = first.sound;
  whole = λ q place there. let within = slice_get_within pairs place q there in first.whole q place (omega (arith, within, all)) there;
}

-- a pair that is found stands in the list
pub found_stands : (find : Couple → Option ℕ) (pairs : List Couple) (pair : Couple) (place : ℕ) → Finds find pairs → find pair ≡ Some place → Contains pairs pair
found_stands find pairs pair place finds found =
    let there = finds.sound pair place found in
    (place, slice_get_within pairs place pair there, get_or_from_slice_get pairs place pair pair there)

-- and one that is not does not
pub none_stands : (find : Couple → Option ℕ) (pairs : List Couple) (pair : Couple) → Finds find pairs → find pair ≡ None → ¬ Contains pairs pair
none_stands find pairs pair finds none has =
    not_none (find pair) none (finds.whole pair has.0 (slice_get-get_or pairs has.0 pair has.1 ∙ ap (λ (p : Couple). Some p) has.2))

-- along two lists, what stands at one place of the second belongs to what stands there in the first
zip_back : (R : Couple → Couple → Type 0) (xs ys : List Couple) (k : ℕ) (y : Couple) → AllZip R xs ys → slice_get ys k ≡ Some y
    → (x : Couple) × (slice_get xs k ≡ Some x) × R x y
zip_back R [] [] k y zip e = absurd cc
zip_back R [] (b ∷ ys) k y zip e = absurd zip
zip_back R (a ∷ xs) [] k y zip e = absurd zip
zip_back R (a ∷ xs) (b ∷ ys) zero y zip e = (a, refl, subst (λ (it : Couple). R a it) (same_Some b y e) zip.0)
zip_back R (a ∷ xs) (b ∷ ys) (suc k) y zip e = zip_back R xs ys k y zip.1 e

-- and the other way round
zip_on : (R : Couple → Couple → Type 0) (xs ys : List Couple) (k : ℕ) (x : Couple) → AllZip R xs ys → slice_get xs k ≡ Some x
    → (y : Couple) × (slice_get ys k ≡ Some y) × R x y
zip_on R [] [] k x zip e = absurd cc
zip_on R [] (b ∷ ys) k x zip e = absurd zip
zip_on R (a ∷ xs) [] k x zip e = absurd zip
zip_on R (a ∷ xs) (b ∷ ys) zero x zip e = (b, refl, subst (λ (it : Couple). R it b) (same_Some a x e) zip.0)
zip_on R (a ∷ xs) (b ∷ ys) (suc k) x zip e = zip_on R xs ys k x zip.1 e

zip_next : (R : Couple → Couple → Type 0) (xs ys : List Couple) (i : ℕ) (x y : Couple) → slice_get xs i ≡ Some x
    → AllZip R (take i xs) ys → R x y → AllZip R (take (suc i) xs) (ys ++ y ∷ [])
zip_next R [] ys i x y there zip r = absurd cc
zip_next R (a ∷ xs) [] zero x y there zip r = (subst (λ (it : Couple). R it y) (sym (same_Some a x there)) r, tt)
zip_next R (a ∷ xs) (b ∷ ys) zero x y there zip r = absurd zip
zip_next R (a ∷ xs) [] (suc i) x y there zip r = absurd zip
zip_next R (a ∷ xs) (b ∷ ys) (suc i) x y there zip r = (zip.0, zip_next R xs ys i x y there zip.1 r)

-- two lists go on together
pub zip_more : (R : Couple → Couple → Type 0) (xs ys more : List Couple) (i : ℕ) (x y : Couple) → slice_get xs i ≡ Some x
    → AllZip R (take i xs) ys → R x y → more ≡ ys ++ y ∷ [] → AllZip R (take (i + 1) xs) more
zip_more R xs ys more i x y there zip r is =
    rw add-one (subst (λ (zs : List Couple). AllZip R (take (suc i) xs) zs) (sym is) (zip_next R xs ys i x y there zip r))

-- a pair has one pair of roots
roots_once : (lists : List (List ℕ)) (pair p q : Couple) → IsPartition lists → AreRoots lists pair p → AreRoots lists pair q → p ≡ q
roots_once lists pair p q classes one other =
    same_couple p q (classes.in_one p.left q.left pair.left one.left other.left) (classes.in_one p.right q.right pair.right one.right other.right)

-- what finds the pairs of roots finds the places of the pairs up to class
pub finds_parted : (known : Known) (lists : List (List ℕ)) (roots : List Couple) (find : Couple → Option ℕ) → IsPartition lists
    → AllZip (AreRoots lists) known.apart roots → Finds find roots → FindsParted known lists find
finds_parted known lists roots find classes zip finds = record {
  sound = λ root place found. zip_back (AreRoots lists) known.apart roots place root zip (finds.sound root place found);
  whole = λ root pair place there are.
      let on = zip_on (AreRoots lists) known.apart roots place pair zip there in
      let is : on.0 ≡ root = roots_once lists pair on.0 root classes on.2 are in
      finds.whole root place (on.1 ∙ ap (λ (p : Couple). Some p) is);
}

module _ (known : Known) (lists : List (List ℕ)) (find : Couple → Option ℕ) (a b : ℕ) (roots : Couple)
    (classes : IsPartition lists) (parted : FindsParted known lists find)
    (left : IsIn lists roots.left a) (right : IsIn lists roots.right b) where
  -- where the roots are found, the two are parted
  pub parted_along : (place : ℕ) → find roots ≡ Some place → IsPartedPlace known lists a b place
  parted_along place found =
      let at = parted.sound roots place found in
      (at.0, at.1, inl ((roots.left, left, at.2.left), (roots.right, right, at.2.right)))

  -- also where they are found in the other order
  pub parted_across : (place : ℕ) → find (couple roots.right roots.left) ≡ Some place → IsPartedPlace known lists a b place
  parted_across place found =
      let at = parted.sound (couple roots.right roots.left) place found in
      (at.0, at.1, inr ((roots.right, right, at.2.left), (roots.left, left, at.2.right)))

  -- where they are found in neither, the two are not parted
  pub not_parted : find roots ≡ None → find (couple roots.right roots.left) ≡ None → AreNotParted known lists a b
  not_parted none also place pair there (inl along) = not_none (find roots) none
      (parted.whole roots pair place there (record {
        left = subst (λ (r : ℕ). IsIn lists r pair.left) (classes.in_one along.0.0 roots.left a along.0.1 left) along.0.2;
        right = subst (λ (r : ℕ). IsIn lists r pair.right) (classes.in_one along.1.0 roots.right b along.1.1 right) along.1.2;
      }))
  not_parted none also place pair there (inr across) = not_none (find (couple roots.right roots.left)) also
      (parted.whole (couple roots.right roots.left) pair place there (record {
        left = subst (λ (r : ℕ). IsIn lists r pair.left) (classes.in_one across.0.0 roots.right b across.0.1 right) across.0.2;
        right = subst (λ (r : ℕ). IsIn lists r pair.right) (classes.in_one across.1.0 roots.left a across.1.1 left) across.1.2;
      }))

-- ---- options

pub if_found : (o : Option ℕ) (P : ℕ → Type 0) → ((n : ℕ) → o ≡ Some n → P n) → IfSome o P
if_found None P h = tt
if_found (Some n) P h = h n refl

pub if_some_of : (o : Option ℕ) {P : ℕ → Type 0} → IfSome o P → (Q : ℕ → Type 0) → ((n : ℕ) → P n → Q n) → IfSome o Q
if_some_of None {P} has Q h = tt
if_some_of (Some n) {P} has Q h = h n has

pub is_none_of : (o : Option ℕ) → IsNone o → o ≡ None
is_none_of None none = refl
is_none_of (Some n) none = absurd cc
