-- Which pairs need not be looked at again stays true where the basis grows.
use Rattle.std.proofs.Common.{◌≡◌, ◌⊎◌, inl, inr, ℕ, zero, suc, ◌<◌, List, [], ◌∷◌, ◌++◌, length, slice_get, Contains, Some, length-append, arith, sym, subst}
use Rattle.std.proofs.lemmas.Option.{none-some}
use Rattle.grind_term_graph.specs.declared.node.Node.{Node}
use Rattle.grind_polynomials.specs.declared.poly.Term.{Term}
use Rattle.grind_claims.specs.declared.claim.Claim.{Claim}
use Rattle.grind_claims.specs.declared.claim.Claim.TheVariants.{Holds, Fails, Same, Differ, AtMost, Zero, Absurd}
use Rattle.grind_ring_basis.specs.declared.types.Basis.{Basis}
use Rattle.grind_ring_basis.specs.declared.types.Fact.{Fact}
use Rattle.grind_ring_basis.specs.declared.types.Places.{Places}
use Rattle.grind_ring_basis.specs.Pairs.{IsPairAt}
use Rattle.grind_ring_basis.proofs.TypedLemmas.{zeros_stay}
use Rattle.grind_ring_units.specs.declared.types.Agenda.{Agenda}
use Rattle.grind_ring_units.specs.declared.types.State.{State}
use Rattle.grind_ring_units.specs.Agendas.{IsPairTooHigh, IsPairZeroed, IsPairSettled, IsAgenda}
use Rattle.grind_ring_solver.specs.declared.types.RingStep.{RingStep}
use Rattle.grind_ring_solver.specs.declared.types.RingStep.TheVariants as steps
use Rattle.grind_ring_solver.specs.Given.{IsState, no_agenda, IsTaken}
use Rattle.grind_ring_solver.specs.Steps.{with_element, IsStep}
use Rattle.grind_ring_solver.proofs.StateLemmas.{both}
use Rattle.grind_ring_units.proofs.ListLemmas.{none_listed}

-- an item of a list stands at the same place of a longer one
still_at : {X : Type 0} → (xs more : List X) (place : ℕ) (x : X) → slice_get xs place ≡ Some x → slice_get (xs ++ more) place ≡ Some x
still_at [] more place x e = absurd (none-some x e)
still_at (y ∷ ys) more zero x e = e
still_at (y ∷ ys) more (suc place) x e = still_at ys more place x e

-- at the beginning each pair is still to be entered
pub none_entered : (basis : Basis) (agenda : Agenda) → agenda ≡ no_agenda → IsAgenda basis agenda
none_entered basis agenda is =
    subst (IsAgenda basis) (sym is) (record {
      rising = λ k there. absurd (none_listed k there);
      within = λ k there. absurd (none_listed k there);
      each = λ k rising low. absurd (omega (arith, low));
    })

module _ (state : State) (is : IsState state) (it : Fact) where
  high_still : (k : Places) → IsPairTooHigh state.basis k → IsPairTooHigh (with_element state.basis it) k
  high_still k high = record {
    first = high.first;
    second = high.second;
    first_is = still_at state.basis.elements (it.poly ∷ []) k.first high.first high.first_is;
    second_is = still_at state.basis.elements (it.poly ∷ []) k.second high.second high.second_is;
    high = high.high;
  }

  zeroed_still : (k : Places) → IsPairZeroed state.basis k → IsPairZeroed (with_element state.basis it) k
  zeroed_still k old = record {
    pair = old.pair;
    pair_is = record {
      first = old.pair_is.first;
      second = old.pair_is.second;
      first_is = still_at state.basis.elements (it.poly ∷ []) k.first old.pair_is.first old.pair_is.first_is;
      second_is = still_at state.basis.elements (it.poly ∷ []) k.second old.pair_is.second old.pair_is.second_is;
      pair_is = old.pair_is.pair_is;
    };
    poly = old.poly;
    zero =
        zeros_stay state.basis (it.post ∷ []) (it.poly ∷ []) old.pair.poly (both state.basis.elements is.polys is.basis.nonzero) old.poly old.zero;
  }

  settled_still : (k : Places) → IsPairSettled state.basis k → IsPairSettled (with_element state.basis it) k
  settled_still k old = (
    old.0,
    elim old.1 [
      | inl high ↦ inl (high_still k high)
      | inr zeroed ↦ inr (zeroed_still k zeroed)
    ],
  )

  pub agenda_with : (agenda : Agenda) → IsAgenda state.basis agenda → IsAgenda (with_element state.basis it) agenda
  agenda_with agenda old = record {
    rising = λ k there. old.rising k there;
    within = λ k there.
        let low = old.within k there in
        let more = length-append state.basis.elements (it.poly ∷ []) in omega arith;
    each = λ k rising low. elim (old.each k rising low) [
      | inl settled ↦ inl (settled_still k settled)
      | inr there ↦ inr there
    ];
  }

module _ (state new : State) (agenda : Agenda) (old : IsAgenda state.basis agenda) where
  same_agenda : new ≡ state → IsAgenda new.basis agenda
  same_agenda same = subst (λ (s : State). IsAgenda s.basis agenda) (sym same) old

  -- after an answer
  pub agenda_after : (nodes : List Node) (lists : List (List ℕ)) (next : ℕ) (step : RingStep) → IsState state → IsStep state nodes lists next step new
      → IsAgenda new.basis agenda
  agenda_after nodes lists next (steps.Zeroed post) is after = same_agenda after.1
  agenda_after nodes lists next (steps.Joins post) is after =
      subst (λ (s : State). IsAgenda s.basis agenda) (sym after.5) (agenda_with state is after.1 agenda old)
  agenda_after nodes lists next (steps.Added rest rule from) is after =
      subst (λ (s : State). IsAgenda s.basis agenda) (sym after.6) (agenda_with state is (record { post = next; poly = rest }) agenda old)
  agenda_after nodes lists next (steps.Conflict post) is after = same_agenda after.3
  agenda_after nodes lists next (steps.Equal left right rest rule from) is after = elim after.4 [
    | inl one ↦ same_agenda one.1
    | inr other ↦ subst (λ (s : State). IsAgenda s.basis agenda) (sym other.2) old
  ]
  agenda_after nodes lists next (steps.Overflow first second) is after = same_agenda after.2
  agenda_after nodes lists next (steps.AtLimit first second) is after = same_agenda after.4
  agenda_after nodes lists next steps.Rest is after = same_agenda after.1

  -- after a claim was taken
  pub agenda_taken : (post : ℕ) (claim : Claim) → IsTaken state post claim new → IsAgenda new.basis agenda
  agenda_taken post (Same left right) after = subst (λ (s : State). IsAgenda s.basis agenda) (sym after) old
  agenda_taken post (Zero poly) after = subst (λ (s : State). IsAgenda s.basis agenda) (sym after) old
  agenda_taken post (Holds node) after = same_agenda after
  agenda_taken post (Fails node) after = same_agenda after
  agenda_taken post (Differ left right) after = same_agenda after
  agenda_taken post (AtMost form) after = same_agenda after
  agenda_taken post Absurd after = same_agenda after
