-- The places at which a node is an argument.
use Rattle.std.specs.Prelude.{◌≡◌, ℕ, ◌<◌, List, [], ◌∷◌, ◌++◌, Some, Contains, length, set, slice_get, take}
use Rattle.std.proofs.Common.{arith, sym, ◌∙◌, subst, inl, inr}
use Rattle.std.proofs.lemmas.Bool.{cases_eq}
use Rattle.std.proofs.lemmas.List.{length-set, get_or-set_same, get_or-set_other}
use Rattle.std.proofs.lemmas.List.Elements.{Contains-append_left, Contains-append_right}
use Rattle.std.proofs.lemmas.Option.{slice_get_within, get_or_from_slice_get}
use Rattle.grind_classes.proofs.ListLemmas.{Contains-nil, Contains-cases}
use Rattle.grind_term_graph.specs.declared.node.Node.{Node}
use Rattle.grind_congruence.specs.declared.application.Application.{Application}
use Rattle.grind_congruence.specs.Congruence.{application_of}
use Rattle.grind_congruence.specs.Table.{uses_of, uses_of_all, AreNoted, KeepsUses, HasUsers}
use Rattle.grind_congruence.proofs.ForestLemmas.{last_or, get_front}

-- a list of places that was taken out, and put back with more
pub note_keeps : (old mid new : List (List ℕ)) (n : ℕ) (places later : List ℕ) → ((m : ℕ) → uses_of mid m ≡ uses_of old m)
    → slice_get mid n ≡ Some places → new ≡ set (set mid n []) n later → ((i : ℕ) → Contains places i → Contains later i)
    → KeepsUses old new
note_keeps old mid new n places later same stood is more x i has = elim (cases_eq x n) [
  | inl e ↦
      let within : n < length mid = slice_get_within mid n places stood in
      let still : n < length (set mid n []) = omega (arith, within, length-set mid n []) in
      let was : uses_of old n ≡ places = sym (same n) ∙ get_or_from_slice_get mid n places [] stood in
      let now : uses_of new n ≡ later = subst (λ (us : List (List ℕ)). uses_of us n ≡ later) (sym is) (get_or-set_same (set mid n []) n later [] still) in
      let here : Contains places i = subst (λ (xs : List ℕ). Contains xs i) was (subst (λ (k : ℕ). Contains (uses_of old k) i) e has) in
      subst (λ (k : ℕ). Contains (uses_of new k) i) (sym e) (subst (λ (xs : List ℕ). Contains xs i) (sym now) (more i here))
  | inr other ↦
      let now : uses_of new x ≡ uses_of old x = subst (λ (us : List (List ℕ)). uses_of us x ≡ uses_of old x) (sym is)
      (get_or-set_other (set mid n []) n x later [] other ∙ get_or-set_other mid n x [] [] other ∙ same x) in
      subst (λ (xs : List ℕ). Contains xs i) (sym now) has
]

-- each place of a node is among those of all
pub uses_among : (uses : List (List ℕ)) (nodes : List ℕ) (x i : ℕ) → Contains nodes x → Contains (uses_of uses x) i
    → Contains (uses_of_all uses nodes) i
uses_among uses [] x i has at = absurd (Contains-nil x has)
uses_among uses (n ∷ nodes) x i has at = elim (Contains-cases n nodes x has) [
  | inl e ↦ Contains-append_left (uses_of uses n) (uses_of_all uses nodes) i (subst (λ (k : ℕ). Contains (uses_of uses k) i) (sym e) at)
  | inr later ↦ Contains-append_right (uses_of uses n) (uses_of_all uses nodes) i (uses_among uses nodes x i later at)
]

-- so all that have one of these nodes as an argument are
pub has_users : (applications : List Application) (uses : List (List ℕ)) (nodes : List ℕ) → AreNoted applications uses
    → HasUsers applications nodes (uses_of_all uses nodes)
has_users applications uses nodes noted x place it has at arg = uses_among uses nodes x place has (noted place it at x arg)

-- one more node with arguments
pub AreNoted-push : (applications : List Application) (old new : List (List ℕ)) (it : Application) → AreNoted applications old
    → KeepsUses old new → ((x : ℕ) → Contains it.term.args x → Contains (uses_of new x) (length applications))
    → AreNoted (applications ++ it ∷ []) new
AreNoted-push applications old new it noted keeps own place i at x arg = elim (last_or applications it place i at) [
  | inl before ↦ keeps x place (noted place i before x arg)
  | inr last ↦
      subst (λ (k : ℕ). Contains (uses_of new x) k) (sym last.0) (own x (subst (λ (j : Application). Contains j.term.args x) last.1 arg))
]

-- the first of them
pub AreNoted-take : (applications : List Application) (uses : List (List ℕ)) (count : ℕ) → AreNoted applications uses
    → AreNoted (take count applications) uses
AreNoted-take applications uses count noted place it at = noted place it (get_front applications count place it at).1

-- what was noted before is noted after more was
pub AreNoted-keeps : (applications : List Application) (old new : List (List ℕ)) → AreNoted applications old → KeepsUses old new
    → AreNoted applications new
AreNoted-keeps applications old new noted keeps place it at x arg = keeps x place (noted place it at x arg)

-- a node that was taken in, with a copy of its term
pub AreNoted-taken : (applications : List Application) (old new : List (List ℕ)) (n place : ℕ) (term node : Node) (nodes : List ℕ)
    → AreNoted applications old → KeepsUses old new → place ≡ length applications → term ≡ node → nodes ≡ node.args
    → ((x : ℕ) → Contains nodes x → Contains (uses_of new x) place) → AreNoted (applications ++ application_of n term ∷ []) new
AreNoted-taken applications old new n place term node nodes noted keeps last copy same own =
    AreNoted-push applications old new (application_of n term) noted keeps
    (λ x arg. subst (λ (k : ℕ). Contains (uses_of new x) k) last
    (own x (subst (λ (xs : List ℕ). Contains xs x) (sym same) (subst (λ (t : Node). Contains t.args x) copy arg))))
