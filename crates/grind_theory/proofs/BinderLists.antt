-- Binders that are read one after another.
use Rattle.std.specs.Prelude.{◌≡◌, ◌≢◌, ℕ, List, [], ◌∷◌, ◌++◌, Contains, position, Some, None, refl}
use Rattle.std.specs.List.{AllByRecursion, AllPairs}
use Rattle.std.specs.Str.{bytes_eq}
use Rattle.std.proofs.lemmas.List.Elements.{All-from_recursion, All-contains}
use Rattle.grind_resolution.specs.declared.meaning.BinderKind.{BinderKind}
use Rattle.std.proofs.Common.{arith, sym, ap, subst, ◌∙◌, append_assoc}
use Rattle.std.proofs.lemmas.List.{append-nil, map-append}
use Rattle.grind_schemes.specs.declared.goal.Constant.{Constant}
use Rattle.grind_grammar.specs.Terms.{Bound}
use Rattle.grind_signature.specs.Signatures.{SignatureData, IsHeld}
use Rattle.grind_signature.proofs.SignatureLaws.{differ_push}
use Rattle.grind_resolution.specs.Scopes.{binder_names, AreDistinct, AreApart}
use Rattle.grind_theory.specs.States.{bound_names, bound_sorts, constant_of, constants_of, scope_of}
use Rattle.grind_theory.specs.Faults.{AreNewAfter, AreSorts}
use Rattle.grind_theory.proofs.SortLists.{found_number, found_sort, no_sort}

-- some names are new, and these are left
pub record IsNewSoFar (s : SignatureData) (all rest done : List (List ℕ)) : Type 0 where
  pub onward : AreNewAfter s done rest → AreNewAfter s [] all
  pub back : AreNewAfter s [] all → AreNewAfter s done rest

pub new-start : (s : SignatureData) (all : List (List ℕ)) → IsNewSoFar s all all []
new-start s all = record { onward = λ h. h; back = λ h. h }

module _ (s : SignatureData) (all rest tail : List (List ℕ)) (name bytes : List ℕ) (done : List (List ℕ)) (p : rest ≡ name ∷ tail) (e : bytes ≡ name) (h : IsNewSoFar s all rest done) where
  pub new-next : (longer : List (List ℕ)) → ¬ IsHeld s bytes → ¬ Contains done bytes → longer ≡ done ++ bytes ∷ [] → IsNewSoFar s all tail longer
  new-next longer free new l =
      let same : longer ≡ done ++ name ∷ [] = l ∙ ap (λ b. done ++ b ∷ []) e in record {
        onward = λ g. h.onward (subst (AreNewAfter s done) (sym p)
            (subst (λ b. ¬ IsHeld s b) e free, subst (λ b. ¬ Contains done b) e new, subst (λ d. AreNewAfter s d tail) same g));
        back = λ g. subst (λ d. AreNewAfter s d tail) (sym same) (subst (AreNewAfter s done) p (h.back g)).2;
      }

  pub new-held : IsHeld s bytes → ¬ AreNewAfter s [] all
  new-held held g = (subst (AreNewAfter s done) p (h.back g)).0 (subst (IsHeld s) e held)

  pub new-twice : Contains done bytes → ¬ AreNewAfter s [] all
  new-twice has g = (subst (AreNewAfter s done) p (h.back g)).1 (subst (Contains done) e has)

pub new-end : (s : SignatureData) (all rest done : List (List ℕ)) → rest ≡ [] → IsNewSoFar s all rest done → AreNewAfter s [] all
new-end s all rest done p h = h.onward (subst (AreNewAfter s done) (sym p) tt)

-- some binders are in the scope, and these are left
pub record IsScoping (s : SignatureData) (all rest : List Bound) (done : List Constant) : Type 0 where
  pub onward : AreSorts s (bound_sorts rest) → AreSorts s (bound_sorts all)
  pub back : AreSorts s (bound_sorts all) → AreSorts s (bound_sorts rest)
  pub constants : done ++ constants_of s rest ≡ constants_of s all
  pub fresh : AreNewAfter s (binder_names done) (bound_names rest)

pub scoping-start : (s : SignatureData) (all : List Bound) → AreNewAfter s [] (bound_names all) → IsScoping s all all []
scoping-start s all h = record { onward = λ h. h; back = λ h. h; constants = refl; fresh = h }

module _ (s : SignatureData) (all rest tail : List Bound) (b : Bound) (done : List Constant) (p : rest ≡ b ∷ tail) (h : IsScoping s all rest done) where
  first_fresh : AreNewAfter s (binder_names done) (bound_names (b ∷ tail))
  first_fresh = subst (λ r. AreNewAfter s (binder_names done) (bound_names r)) p h.fresh

  pub scoping-new : ¬ Contains (binder_names done) b.name
  scoping-new = first_fresh.1

  pub scoping-none : (bytes : List ℕ) → bytes ≡ b.sort → position (bytes_eq bytes) s.sorts ≡ None → ¬ AreSorts s (bound_sorts all)
  scoping-none bytes e none g = no_sort s b.sort bytes e none (subst (λ r. AreSorts s (bound_sorts r)) p (h.back g)).0

  pub scoping-next : (longer : List Constant) (name bytes : List ℕ) (sort : ℕ) → name ≡ b.name → bytes ≡ b.sort → position (bytes_eq bytes) s.sorts ≡ Some sort
      → longer ≡ done ++ record { name = name; sort = sort } ∷ [] → IsScoping s all tail longer
  scoping-next longer name bytes sort n e at l =
      let number = found_number s b.sort bytes sort e at in
      let one : record { name = name; sort = sort } ≡ constant_of s b = λ i. record { name = n i; sort = (sym number) i } in
      let same : longer ≡ done ++ constant_of s b ∷ [] = l ∙ ap (λ k. done ++ k ∷ []) one in
      let names : binder_names longer ≡ binder_names done ++ b.name ∷ [] =
      ap binder_names same ∙ map-append (λ (k : Constant). k.name) done (constant_of s b ∷ []) in record {
        onward = λ g. h.onward (subst (λ r. AreSorts s (bound_sorts r)) (sym p) (found_sort s b.sort bytes sort e at, g));
        back = λ g. (subst (λ r. AreSorts s (bound_sorts r)) p (h.back g)).1;
        constants = ap (λ d. d ++ constants_of s tail) same ∙ append_assoc done (constant_of s b ∷ []) (constants_of s tail)
            ∙ ap (λ r. done ++ constants_of s r) (sym p) ∙ h.constants;
        fresh = subst (λ d. AreNewAfter s d (bound_names tail)) (sym names) first_fresh.2;
      }

pub scoping-end : (s : SignatureData) (all rest : List Bound) (done : List Constant) → rest ≡ [] → IsScoping s all rest done
    → AreSorts s (bound_sorts all) × (done ≡ constants_of s all)
scoping-end s all rest done p h = (
  h.onward (subst (λ r. AreSorts s (bound_sorts r)) (sym p) tt),
  sym (append-nil done) ∙ ap (λ r. done ++ constants_of s r) (sym p) ∙ h.constants,
)

-- the names of the constants are those of the binders
pub names_same : (s : SignatureData) (bounds : List Bound) → binder_names (constants_of s bounds) ≡ bound_names bounds
names_same s [] = refl
names_same s (b ∷ bounds) = ap (λ names. b.name ∷ names) (names_same s bounds)

fresh_all : (s : SignatureData) (names before : List (List ℕ)) → AreNewAfter s before names → AllByRecursion (λ name. ¬ IsHeld s name) names
fresh_all s [] before h = tt
fresh_all s (name ∷ names) before h = (h.0, fresh_all s names (before ++ name ∷ []) h.2)

-- no two of them are the same
distinct_after : (s : SignatureData) (names before : List (List ℕ)) → AllPairs (λ a b. a ≢ b) before → AreNewAfter s before names
    → AllPairs (λ a b. a ≢ b) (before ++ names)
distinct_after s [] before h new = subst (AllPairs (λ a b. a ≢ b)) (sym (append-nil before)) h
distinct_after s (name ∷ names) before h new =
    subst (AllPairs (λ a b. a ≢ b)) (append_assoc before (name ∷ []) names)
    (distinct_after s names (before ++ name ∷ []) (differ_push before name h new.1) new.2)

pub fresh-distinct : (kind : BinderKind) (s : SignatureData) (bounds : List Bound) → AreNewAfter s [] (bound_names bounds) → AreDistinct (scope_of kind s bounds)
fresh-distinct kind s bounds h =
    subst (AllPairs (λ a b. a ≢ b)) (sym (names_same s bounds)) (distinct_after s (bound_names bounds) [] (λ i j d e l m. absurd (omega arith)) h)

-- the signature holds none of them
pub fresh-apart : (kind : BinderKind) (s : SignatureData) (bounds : List Bound) → AreNewAfter s [] (bound_names bounds) → AreApart s (scope_of kind s bounds)
fresh-apart kind s bounds h name has =
    All-contains (λ n. ¬ IsHeld s n) (bound_names bounds) name (All-from_recursion (λ n. ¬ IsHeld s n) (bound_names bounds) (fresh_all s (bound_names bounds) [] h))
    (subst (λ names. Contains names name) (names_same s bounds) has)
