-- A name in a list: as a look-up finds it, and as the list has it.
use Rattle.std.specs.Prelude.{◌≡◌, ℕ, ◌+◌, ◌<◌, ◌≤◌, Bool, true, false, ◌||◌, cond, not, List, [], ◌∷◌, ◌++◌, Option, Some, None, is_some, Contains, length, map, slice_get, position, refl, if◌then◌else◌}
use Rattle.std.specs.List.{list_any, prefix_len, position_or_len, IsDistinct, AllByRecursion}
use Rattle.std.specs.Bool.{Decides}
use Rattle.std.specs.Str.{bytes_eq}
use Rattle.std.proofs.Common.{arith, sym, ap, subst, ◌∙◌, get_or, true≢false}
use Rattle.std.proofs.lemmas.Bool.{false_from_ne_true}
use Rattle.std.proofs.lemmas.List.{length-map, map-append}
use Rattle.std.proofs.lemmas.List.Quantifiers.{position-Some}
use Rattle.std.proofs.lemmas.Map.Made.{is_member-Decides}
use Rattle.std.proofs.lemmas.Option.{slice_get-get_or, get_or_from_slice_get, slice_get_within}
use Rattle.std.proofs.lemmas.Slice.Eq.{bytes_eq-Decides}
use Rattle.std.proofs.lemmas.Grind.{common_steps}
use Rattle.std.proofs.lemmas.Bool.Decides.{nat_tests}
use Rattle.std.proofs.lemmas.List.Sums.{fails_before_first}

-- a look-up by bytes decides whether the list has the name
pub list_any-decides : (names : List (List ℕ)) (name : List ℕ) → Decides (list_any (bytes_eq name) names) (Contains names name)
list_any-decides names name = is_member-Decides bytes_eq-Decides names name

module _ {K : Type 0} (f : K → List ℕ) where
  -- a look-up among keys is one among their names
  pub list_any-names : (name : List ℕ) (keys : List K) → list_any (λ k. bytes_eq name (f k)) keys ≡ list_any (bytes_eq name) (map f keys)
  list_any-names name [] = refl
  list_any-names name (k ∷ keys) = ap (λ b. bytes_eq name (f k) || b) (list_any-names name keys)

  prefix_len-names : (name : List ℕ) (keys : List K) → prefix_len (λ k. not (bytes_eq name (f k))) keys ≡ prefix_len (λ n. not (bytes_eq name n)) (map f keys)
  prefix_len-names name [] = refl
  prefix_len-names name (k ∷ keys) = ap (λ n. cond (not (bytes_eq name (f k))) (1 + n) 0) (prefix_len-names name keys)

  -- the first key of a name is at the name's first place
  pub position-names : (name : List ℕ) (keys : List K) → position (λ k. bytes_eq name (f k)) keys ≡ position (bytes_eq name) (map f keys)
  position-names name keys = rw (prefix_len-names name keys, length-map keys f) refl

  apart : (eq : K → K → Bool) → ((a b : K) → eq a b ≡ bytes_eq (f a) (f b)) → (k : K) (keys : List K)
      → AllByRecursion (λ y. eq k y ≡ false) keys → AllByRecursion (λ n. bytes_eq (f k) n ≡ false) (map f keys)
  apart eq same k [] h = tt
  apart eq same k (x ∷ keys) h = (sym (same k x) ∙ h.0, apart eq same k keys h.1)

  -- different keys have different names, where the keys are compared by their names
  pub names_differ : (eq : K → K → Bool) → ((a b : K) → eq a b ≡ bytes_eq (f a) (f b)) → (keys : List K)
      → IsDistinct eq keys → IsDistinct bytes_eq (map f keys)
  unfolding IsDistinct
  names_differ eq same [] h = tt
  names_differ eq same (k ∷ keys) h = (apart eq same k keys h.0, names_differ eq same keys h.1)

  insert_own : (keys : List K) (k : K) → ¬ Contains (map f keys) (f k)
      → map f (if list_any (λ y. bytes_eq (f k) (f y)) keys then keys else (keys ++ k ∷ [])) ≡ map f keys ++ f k ∷ []
  insert_own keys k new =
      let absent : list_any (λ y. bytes_eq (f k) (f y)) keys ≡ false =
      list_any-names (f k) keys ∙ false_from_ne_true (list_any (bytes_eq (f k)) (map f keys)) (λ t. new ((list_any-decides (map f keys) (f k)).0 t)) in
      rw absent (map-append f keys (k ∷ []))

  -- a key of a new name is put last
  pub insert_names : (keys : List K) (k : K) (names : List (List ℕ)) (name : List ℕ) → map f keys ≡ names → f k ≡ name → ¬ Contains names name
      → (after : List K) → after ≡ (if list_any (λ y. bytes_eq (f k) (f y)) keys then keys else (keys ++ k ∷ [])) → map f after ≡ names ++ name ∷ []
  insert_names keys k names name p q new after e =
      ap (map f) e
      ∙ insert_own keys k (λ has. new (subst (λ ns. Contains ns name) p (subst (λ n. Contains (map f keys) n) q has)))
      ∙ (λ i. p i ++ q i ∷ [])

-- the place of a name holds it
pub slice_get-position : (names : List (List ℕ)) (name : List ℕ) (n : ℕ) → position (bytes_eq name) names ≡ Some n → slice_get names n ≡ Some name
slice_get-position names name n e =
    let found = position-Some (bytes_eq name) names n name e in
    let is = (bytes_eq-Decides name (get_or names n name)).0 found.1 in
    slice_get-get_or names n name found.0 ∙ ap Some (sym is)

-- a name with a place is in the list
pub Contains-slice_get : (names : List (List ℕ)) (name : List ℕ) (n : ℕ) → slice_get names n ≡ Some name → Contains names name
Contains-slice_get names name n e = (n, slice_get_within names n name e, get_or_from_slice_get names n name name e)

not_before : (names : List (List ℕ)) (name : List ℕ) → position (bytes_eq name) names ≡ None → length names ≤ position_or_len (bytes_eq name) names
not_before names name e = grind (arith, common_steps, nat_tests)

-- a name without a place is not in the list
pub absent-position : (names : List (List ℕ)) (name : List ℕ) → position (bytes_eq name) names ≡ None → ¬ Contains names name
absent-position names name e has =
    let past = not_before names name e in
    let k : has.0 < position_or_len (bytes_eq name) names = omega arith in
    let unlike = fails_before_first (bytes_eq name) names has.0 name k in
    let like : bytes_eq name (get_or names has.0 name) ≡ true = (bytes_eq-Decides name (get_or names has.0 name)).1 (sym has.2) in
    true≢false (sym like ∙ unlike)

-- whether a look-up finds the name is whether the list has it
pub position-is_some : (names : List (List ℕ)) (name : List ℕ) (p : Option ℕ) → p ≡ position (bytes_eq name) names → is_some p ≡ true → Contains names name
position-is_some names name (Some n) e is = Contains-slice_get names name n (slice_get-position names name n (sym e))
position-is_some names name None e is = absurd cc

pub position-is_none : (names : List (List ℕ)) (name : List ℕ) (p : Option ℕ) → p ≡ position (bytes_eq name) names → is_some p ≡ false → ¬ Contains names name
position-is_none names name (Some n) e is = absurd cc
position-is_none names name None e is = absent-position names name (sym e)
