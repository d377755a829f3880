-- The declaration of a function: what it adds, and which fault it has.
use Rattle.std.specs.Prelude.{◌≡◌, ◌≢◌, ◌↔◌, ℕ, ◌<◌, ◌≤◌, List, [], ◌∷◌, Bool, All, Contains, IsTrue, length, position, Result, Err, Option, Some, None, refl}
use Rattle.std.specs.Str.{bytes_eq}
use Rattle.std.proofs.Common.{arith, sym, ap, subst, ◌∙◌}
use Rattle.std.proofs.lemmas.List.Elements.{All-cons, All-from_recursion, recursion_from_All}
use Rattle.std.proofs.lemmas.Option.{slice_get_within}
use Rattle.grind_term_graph.specs.Terms.{prop}
use Rattle.grind_grammar.specs.Terms.{Declaration, Fun}
use Rattle.grind_signature.specs.Signatures.{SignatureData, IsHeld, with_function}
use Rattle.grind_signature.proofs.NameLists.{slice_get-position, absent-position}
use Rattle.grind_theory.specs.declared.theory.Fault.{Fault}
use Rattle.grind_theory.specs.declared.theory.Fault.TheVariants as faults
use Rattle.grind_theory.specs.declared.theory.DeclRefusal.{DeclRefusal}
use Rattle.grind_theory.specs.declared.theory.DeclRefusal.TheVariants.{Faulty}
use Rattle.grind_theory.specs.States.{state_data, sort_number, sort_numbers}
use Rattle.grind_theory.specs.Faults.{AreSorts, AreNoFormulas}
use Rattle.grind_theory.specs.Declaring.{HasFault, IsAdded}
use Rattle.grind_theory.proofs.SortLists.{found_number, found_sort, no_sort}

pub same_Err : {A E : Type 0} (x y : E) → ◌≡◌ {A = Result A E} (Err x) (Err y) → x ≡ y
same_Err x y e = cc

pub same_Faulty : (x y : Fault) → Faulty x ≡ Faulty y → x ≡ y
same_Faulty x y e = cc

-- the fault that is answered
pub answered : {A : Type 0} (s : SignatureData) (d : Declaration) (x y : Fault) → HasFault s d x → ◌≡◌ {A = Result A DeclRefusal} (Err (Faulty x)) (Err (Faulty y)) → HasFault s d y
answered s d x y h e = subst (HasFault s d) (same_Faulty x y (same_Err (Faulty x) (Faulty y) e)) h

-- numbers of sorts are within the sorts
within : (s : SignatureData) (name : List ℕ) → Contains s.sorts name → (p : Option ℕ) → position (bytes_eq name) s.sorts ≡ p → sort_number s name < length s.sorts
within s name has None e = absurd (absent-position s.sorts name e has)
within s name has (Some n) e =
    let l = slice_get_within s.sorts n name (slice_get-position s.sorts name n e) in
    let same = found_number s name name n refl e in
    omega arith

pub sort_within : (s : SignatureData) (name : List ℕ) → Contains s.sorts name → sort_number s name < length s.sorts
sort_within s name has = within s name has (position (bytes_eq name) s.sorts) refl

pub sorts_within : (s : SignatureData) (names : List (List ℕ)) → AreSorts s names → All (λ sort. sort < length s.sorts) (sort_numbers s names)
sorts_within s [] h = λ k d l. absurd (omega arith)
sorts_within s (name ∷ names) h = All-cons (λ sort. sort < length s.sorts) (sort_number s name) (sort_numbers s names) (sort_within s name h.0) (sorts_within s names h.1)

module _ (s : SignatureData) (name result own bytes : List ℕ) (names : List (List ℕ)) (is : own ≡ name) (is_result : bytes ≡ result) (new : ¬ IsHeld s own) where
  free : ¬ IsHeld s name
  free = subst (λ b. ¬ IsHeld s b) is new

  pub fun-no_own : position (bytes_eq bytes) s.sorts ≡ None → HasFault s (Fun name names result) faults.Unknown
  fun-no_own none theorems limits set goals = (free, λ k. no_sort s result bytes is_result none k.1)

  module _ (sort : ℕ) (at : position (bytes_eq bytes) s.sorts ≡ Some sort) (known : AreSorts s names) (sorts : List ℕ) (are : sorts ≡ sort_numbers s names) where
    pub fun-formulas : (b : Bool) → IsTrue b ↔ All (λ (x : ℕ). x ≢ prop) sorts → ¬ IsTrue b → HasFault s (Fun name names result) faults.Sort
    fun-formulas b h fails theorems limits set goals = (
      free,
      (known, found_sort s result bytes sort is_result at),
      tt,
      λ w. fails (h.1 (subst (All (λ (x : ℕ). x ≢ prop)) (sym are) (All-from_recursion (λ (x : ℕ). x ≢ prop) (sort_numbers s names) w))),
    )

    module _ (b : Bool) (h : IsTrue b ↔ All (λ (x : ℕ). x ≢ prop) sorts) (none : IsTrue b) where
      no_formulas : AreNoFormulas s names
      no_formulas = recursion_from_All (λ (x : ℕ). x ≢ prop) (sort_numbers s names) (subst (All (λ (x : ℕ). x ≢ prop)) are (h.0 none))

      pub fun-many : ¬ length names ≤ 16 → HasFault s (Fun name names result) faults.Size
      fun-many many theorems limits set goals = (free, (known, found_sort s result bytes sort is_result at), tt, no_formulas, tt, many)

      pub fun-taken : (t : SignatureData) → length names ≤ 16 → t ≡ with_function s (record { name = own; args = sorts; result = sort }) → IsAdded s (Fun name names result) t
      fun-taken t few e theorems limits set goals =
          let number = sym (found_number s result bytes sort is_result at) in
          record {
            fresh = free;
            known = (known, found_sort s result bytes sort is_result at);
            counted = tt;
            sorted = no_formulas;
            patterned = tt;
            small = few;
            adds = ap (λ x. state_data x theorems limits set goals)
                (e ∙ (λ i. with_function s (record { name = is i; args = are i; result = number i })));
          }
