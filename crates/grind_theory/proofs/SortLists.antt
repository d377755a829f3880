-- Names of sorts that are looked up one after another.
use Rattle.std.specs.Prelude.{◌≡◌, ◌≢◌, ℕ, List, [], ◌∷◌, ◌++◌, Contains, position, unwrap_or, Option, Some, None, refl}
use Rattle.std.specs.Str.{bytes_eq}
use Rattle.std.proofs.Common.{sym, ap, subst, ◌∙◌, append_assoc}
use Rattle.std.proofs.lemmas.List.{append-nil}
use Rattle.grind_signature.specs.Signatures.{SignatureData}
use Rattle.grind_signature.proofs.NameLists.{slice_get-position, Contains-slice_get, absent-position}
use Rattle.grind_theory.specs.States.{sort_number, sort_numbers}
use Rattle.grind_theory.specs.Faults.{AreSorts}

-- what is found is the number of the sort
pub found_number : (s : SignatureData) (name bytes : List ℕ) (sort : ℕ) → bytes ≡ name → position (bytes_eq bytes) s.sorts ≡ Some sort → sort_number s name ≡ sort
found_number s name bytes sort e at = ap (λ (p : Option ℕ). unwrap_or p 0) (ap (λ b. position (bytes_eq b) s.sorts) (sym e) ∙ at)

pub found_sort : (s : SignatureData) (name bytes : List ℕ) (sort : ℕ) → bytes ≡ name → position (bytes_eq bytes) s.sorts ≡ Some sort → Contains s.sorts name
found_sort s name bytes sort e at = subst (Contains s.sorts) e (Contains-slice_get s.sorts bytes sort (slice_get-position s.sorts bytes sort at))

pub no_sort : (s : SignatureData) (name bytes : List ℕ) → bytes ≡ name → position (bytes_eq bytes) s.sorts ≡ None → ¬ Contains s.sorts name
no_sort s name bytes e none has = absent-position s.sorts bytes none (subst (Contains s.sorts) (sym e) has)

-- some are found, and these are left
pub record IsFinding (s : SignatureData) (all rest : List (List ℕ)) (done : List ℕ) : Type 0 where
  pub onward : AreSorts s rest → AreSorts s all
  pub back : AreSorts s all → AreSorts s rest
  pub sorts : done ++ sort_numbers s rest ≡ sort_numbers s all

pub finding-start : (s : SignatureData) (all : List (List ℕ)) → IsFinding s all all []
finding-start s all = record { onward = λ h. h; back = λ h. h; sorts = refl }

module _ (s : SignatureData) (all rest tail : List (List ℕ)) (name bytes : List ℕ) (done : List ℕ) (p : rest ≡ name ∷ tail) (e : bytes ≡ name) (h : IsFinding s all rest done) where
  pub finding-next : (longer : List ℕ) (sort : ℕ) → position (bytes_eq bytes) s.sorts ≡ Some sort → longer ≡ done ++ sort ∷ [] → IsFinding s all tail longer
  finding-next longer sort at l = record {
    onward = λ g. h.onward (subst (AreSorts s) (sym p) (found_sort s name bytes sort e at, g));
    back = λ g. (subst (AreSorts s) p (h.back g)).1;
    sorts = ap (λ d. d ++ sort_numbers s tail) l ∙ append_assoc done (sort ∷ []) (sort_numbers s tail)
        ∙ ap (λ n. done ++ n ∷ sort_numbers s tail) (sym (found_number s name bytes sort e at)) ∙ ap (λ r. done ++ sort_numbers s r) (sym p) ∙ h.sorts;
  }

  pub finding-none : position (bytes_eq bytes) s.sorts ≡ None → ¬ AreSorts s all
  finding-none none g = no_sort s name bytes e none (subst (AreSorts s) p (h.back g)).0

  pub finding-sort : AreSorts s all → position (bytes_eq bytes) s.sorts ≢ None
  finding-sort g none = finding-none none g

pub finding-end : (s : SignatureData) (all rest : List (List ℕ)) (done : List ℕ) → rest ≡ [] → IsFinding s all rest done → AreSorts s all × (done ≡ sort_numbers s all)
finding-end s all rest done p h = (
  h.onward (subst (AreSorts s) (sym p) tt),
  sym (append-nil done) ∙ ap (λ r. done ++ sort_numbers s r) (sym p) ∙ h.sorts,
)
