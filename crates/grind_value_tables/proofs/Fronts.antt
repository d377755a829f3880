-- The items of a list, and of its front.
use Rattle.std.specs.Prelude.{◌≡◌, ℕ, zero, suc, ◌<◌, ◌↔◌, List, [], ◌∷◌, Option, Some, All, length, map, take, slice_get, ℤ, refl}
use Rattle.std.specs.Option.{IsSomeAnd}
use Rattle.std.proofs.Common.{arith, sym, ap, subst, ◌∙◌}
use Rattle.std.proofs.lemmas.List.Elements.{All-tail}
use Rattle.std.proofs.lemmas.Option.{none-some}

module _ {X : Type 0} where
  -- what holds of the item holds of it by its name
  pub IsSomeAnd-at : (o : Option X) (P : X → Type 0) (x : X) → o ≡ Some x → IsSomeAnd o P → P x
  IsSomeAnd-at o P x e h = let Q : Option X → Type 0 = λ p. IsSomeAnd p P in subst Q e h

  -- and back
  pub IsSomeAnd-from : (o : Option X) (P : X → Type 0) (x : X) → o ≡ Some x → P x → IsSomeAnd o P
  IsSomeAnd-from o P x e h = let Q : Option X → Type 0 = λ p. IsSomeAnd p P in subst Q (sym e) h

  -- an item of which something holds stands in the list
  pub IsSomeAnd-within : (xs : List X) (n : ℕ) (P : X → Type 0) → IsSomeAnd (slice_get xs n) P → n < length xs
  IsSomeAnd-within [] n P h = absurd h
  IsSomeAnd-within (x ∷ xs) zero P h = omega arith
  IsSomeAnd-within (x ∷ xs) (suc n) P h = let r = IsSomeAnd-within xs n P h in omega arith

  -- below the length there is an item
  pub item_below : (xs : List X) (n : ℕ) → n < length xs → (x : X) × (slice_get xs n ≡ Some x)
  item_below [] n below = absurd (omega arith)
  item_below (x ∷ xs) zero below = (x, refl)
  item_below (x ∷ xs) (suc n) below = item_below xs n (omega arith)

  -- an item of the front is an item of the whole
  pub of_front : (count : ℕ) (xs : List X) (n : ℕ) (x : X) → slice_get (take count xs) n ≡ Some x
      → (n < count) × (slice_get xs n ≡ Some x)
  of_front zero xs n x e = absurd (none-some x e)
  of_front (suc count) [] n x e = absurd (none-some x e)
  of_front (suc count) (y ∷ xs) zero x e = (omega arith, e)
  of_front (suc count) (y ∷ xs) (suc n) x e = let r = of_front count xs n x e in (omega (arith, r.0), r.1)

  -- and an item below the count is one of the front
  pub in_front : (count : ℕ) (xs : List X) (n : ℕ) (x : X) → n < count → slice_get xs n ≡ Some x
      → slice_get (take count xs) n ≡ Some x
  in_front zero xs n x below e = absurd (omega arith)
  in_front (suc count) [] n x below e = e
  in_front (suc count) (y ∷ xs) zero x below e = e
  in_front (suc count) (y ∷ xs) (suc n) x below e = in_front count xs n x (omega arith) e

  -- the front of all is the whole
  pub whole_front : (xs : List X) → take (length xs) xs ≡ xs
  whole_front [] = refl
  whole_front (x ∷ xs) = ap (λ ys. x ∷ ys) (whole_front xs)

consed : (x y : ℤ) (xs ys : List ℤ) → x ≡ y → xs ≡ ys → x ∷ xs ≡ y ∷ ys
consed x y xs ys p q = cc

unconsed : (x y : ℤ) (xs ys : List ℤ) → x ∷ xs ≡ y ∷ ys → xs ≡ ys
unconsed x y xs ys e = cc

-- two lists of numbers with the same values, each after a first number of the same value
module _ (value : ℕ → ℤ) (limit : ℕ) where
  pub same_behind : (a b : ℕ) (more further rest others : List ℕ) (P : Type 0) → rest ≡ a ∷ more → others ≡ b ∷ further
      → value a ≡ value b → All (λ n. n < limit) rest → All (λ n. n < limit) others
      → ((map value rest ≡ map value others) ↔ P)
      → All (λ n. n < limit) more × All (λ n. n < limit) further × ((map value more ≡ map value further) ↔ P)
  same_behind a b more further rest others P r o equal below under same = (
    All-tail (λ n. n < limit) a more (subst (All (λ n. n < limit)) r below),
    All-tail (λ n. n < limit) b further (subst (All (λ n. n < limit)) o under),
    (
      λ e. let both : map value rest ≡ map value others =
          ap (map value) r ∙ consed (value a) (value b) (map value more) (map value further) equal e ∙ sym (ap (map value) o) in same.0 both,
      λ p. unconsed (value a) (value b) (map value more) (map value further) (sym (ap (map value) r) ∙ same.1 p ∙ ap (map value) o),
    ),
  )
