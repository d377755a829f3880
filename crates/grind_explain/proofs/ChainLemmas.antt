-- Chains of equalities along ways of edges.
use Rattle.std.specs.Prelude.{◌≡◌, ℕ, List, [], ◌∷◌, All, Contains, length, get_or, ◌⊎◌, refl}
use Rattle.std.proofs.Common.{arith, sym, subst, inl, inr}
use Rattle.std.proofs.lemmas.List.Elements.{All-head, All-tail, All-same, All-weaker}
use Rattle.std.proofs.lemmas.Option.{get_or_from_slice_get}
use Rattle.grind_schemes.specs.Goals.{GoalData}
use Rattle.grind_schemes.specs.declared.lemmas.Lemmas.{Lemmas}
use Rattle.grind_claims.specs.declared.claim.Claim.TheVariants.{Same}
use Rattle.grind_claims.specs.declared.proof.Proof.{Proof}
use Rattle.grind_congruence.specs.declared.edge.Edge.{Edge}
use Rattle.grind_congruence.specs.Edges.{Passes, Leads}
use Rattle.grind_proof_writer.specs.Lines.{IsReady, Tells, Appends}
use Rattle.grind_needed_edges.specs.declared.pairs.Pair.{Pair}
use Rattle.grind_needed_edges.specs.Needed.{PassesAt, IsAlong, IsOfWay}
use Rattle.grind_needed_edges.specs.Numbered.{pair_of, HasNumber, KeepsNumbers}
use Rattle.grind_explain.specs.Deriving.{AreLines, Goes, IsKnown, IsOnWay}
use Rattle.grind_proof_writer.proofs.LineLemmas.{Appends-none, Appends-through}
use Rattle.grind_explain.proofs.NotedLemmas.{Goes-none, Goes-through, Goes-weaker}

-- what is known stays known
pub IsKnown-stays : (edges : List Edge) (told later : List (Pair × ℕ)) (place : ℕ) → KeepsNumbers told later → IsKnown edges told place →
    IsKnown edges later place
IsKnown-stays edges told later place keeps h = (h.0, h.1, (h.2.0, keeps (pair_of h.0.left h.0.right) h.2.0 h.2.1))

-- the first place of those that are known
pub known_here : (edges : List Edge) (told : List (Pair × ℕ)) (rest tail : List ℕ) (place : ℕ) → rest ≡ place ∷ tail →
    All (IsKnown edges told) rest → IsKnown edges told place
known_here edges told rest tail place is all =
    All-head (IsKnown edges told) place tail (All-same (IsKnown edges told) (place ∷ tail) rest (sym is) all)

-- the other places stay known
pub known_after : (edges : List Edge) (told later : List (Pair × ℕ)) (rest tail : List ℕ) (place : ℕ) → rest ≡ place ∷ tail →
    KeepsNumbers told later → All (IsKnown edges told) rest → All (IsKnown edges later) tail
known_after edges told later rest tail place is keeps all =
    All-weaker (IsKnown edges told) (IsKnown edges later) (λ p. IsKnown-stays edges told later p keeps) tail
    (All-tail (IsKnown edges told) place tail (All-same (IsKnown edges told) (place ∷ tail) rest (sym is) all))

-- what the edge at a place leads to, and the rest from there
pub way_on : (edges : List Edge) (rest tail : List ℕ) (place here b : ℕ) → rest ≡ place ∷ tail → Leads edges rest here b →
    (mid : ℕ) × PassesAt edges place here mid × Leads edges tail mid b
way_on edges rest tail place here b whole leads =
    let on : Leads edges (place ∷ tail) here b = subst (λ (places : List ℕ). Leads edges places here b) whole leads in
    (on.1, (on.0, on.2, on.3), on.4)

-- the edge that is read at a place passes where the one there does
pub passes_read : (edges : List Edge) (place here next : ℕ) (d : Edge) → PassesAt edges place here next → Passes (get_or edges place d) here next
passes_read edges place here next d at =
    subst (λ (e : Edge). Passes e here next) (sym (get_or_from_slice_get edges place at.0 d at.1)) at.2

either_of : (told : List (Pair × ℕ)) (edge : Edge) (here next : ℕ) → HasNumber told edge.left edge.right → Passes edge here next →
    HasNumber told here next ⊎ HasNumber told next here
either_of told edge here next has (inl is) =
    inl (subst (λ (x : ℕ). HasNumber told x next) is.0 (subst (λ (y : ℕ). HasNumber told edge.left y) is.1 has))
either_of told edge here next has (inr is) =
    inr (subst (λ (x : ℕ). HasNumber told x here) is.1 (subst (λ (y : ℕ). HasNumber told edge.left y) is.0 has))

-- a line is noted for the ends of a known edge, in one of both directions
pub either_read : (edges : List Edge) (told : List (Pair × ℕ)) (place here next : ℕ) (d : Edge) → IsKnown edges told place →
    Passes (get_or edges place d) here next → HasNumber told here next ⊎ HasNumber told next here
either_read edges told place here next d known passes =
    either_of told known.0 here next known.2
    (subst (λ (e : Edge). Passes e here next) (get_or_from_slice_get edges place known.0 d known.1) passes)

-- the one of two that is left
pub other_way : (told : List (Pair × ℕ)) (a b : ℕ) → ((n : ℕ) → ¬ Contains told (pair_of a b, n)) → HasNumber told a b ⊎ HasNumber told b a →
    HasNumber told b a
other_way told a b none (inl has) = absurd (none has.0 has.1)
other_way told a b none (inr has) = has

-- and the way leads on from the node that was passed to
pub leads_after : (edges : List Edge) (rest tail : List ℕ) (place here there b : ℕ) → rest ≡ place ∷ tail →
    ((mid : ℕ) → PassesAt edges place here mid → there ≡ mid) → Leads edges rest here b → Leads edges tail there b
leads_after edges rest tail place here there b whole only leads =
    let on = way_on edges rest tail place here b whole leads in
    subst (λ (n : ℕ). Leads edges tail n b) (sym (only on.0 on.1)) on.2

-- a chain on its way
pub IsOnWay-start : (lemmas : Lemmas) (goal : GoalData) (old : Proof) (told : List (Pair × ℕ)) (branch : ℕ) (edges : List Edge) (places : List ℕ)
    (number a from : ℕ) → IsReady lemmas goal old branch → AreLines old branch told → Tells old branch number (Same a from) →
    All (IsKnown edges told) places →
    IsOnWay (IsAlong edges a from places) lemmas goal old old told told branch edges places from places number a from
IsOnWay-start lemmas goal old told branch edges places number a from ready lines tells all = record {
  appends = Appends-none lemmas goal old branch ready.typed;
  goes = Goes-none old told;
  along = λ x y on. on;
  ready = ready;
  lines = lines;
  tells = tells;
  leads = λ b on. on;
  edges_known = all;
}

-- an equality of the first edge is one of the way
along_first : (edges : List Edge) (rest tail : List ℕ) (a here place x y : ℕ) → rest ≡ place ∷ tail → IsAlong edges a here (place ∷ []) x y
    → IsAlong edges a here rest x y
along_first edges rest tail a here place x y whole (next, at, inl ends) =
    subst (λ (places : List ℕ). IsAlong edges a here places x y) (sym whole) (next, at, inl ends)
along_first edges rest tail a here place x y whole (next, at, inr none) = absurd none

-- and so is one of the rest
pub along_after : (edges : List Edge) (rest tail : List ℕ) (a here there place mid x y : ℕ) → rest ≡ place ∷ tail → PassesAt edges place here mid
    → there ≡ mid → IsAlong edges a there tail x y → IsAlong edges a here rest x y
along_after edges rest tail a here there place mid x y whole at is on =
    subst (λ (places : List ℕ). IsAlong edges a here places x y) (sym whole)
    (mid, at, inr (subst (λ (n : ℕ). IsAlong edges a n tail x y) is on))

-- what a way of no edge tells
pub of_way_none : (edges : List Edge) (places : List ℕ) (a x y : ℕ) → length places ≡ 0 → (x ≡ a) × (y ≡ a) → IsOfWay edges a places x y
of_way_none edges [] a x y none is = is
of_way_none edges (place ∷ places) a x y none is = absurd (omega arith)

-- and of an edge and those after it
of_way : (edges : List Edge) (places tail : List ℕ) (place a x y : ℕ) → places ≡ place ∷ tail → IsAlong edges a a (place ∷ tail) x y
    → IsOfWay edges a places x y
of_way edges places tail place a x y whole on = subst (λ (ps : List ℕ). IsOfWay edges a ps x y) (sym whole) on

pub of_way_first : (edges : List Edge) (places tail : List ℕ) (place a x y : ℕ) → places ≡ place ∷ tail → (x ≡ a) × PassesAt edges place a y
    → IsOfWay edges a places x y
of_way_first edges places tail place a x y whole is = of_way edges places tail place a x y whole (y, is.1, inl (refl, inl is.0))

pub of_way_after : (edges : List Edge) (places tail : List ℕ) (place a mid first there x y : ℕ) → places ≡ place ∷ tail → PassesAt edges place a mid
    → first ≡ a → there ≡ mid → IsAlong edges first there tail x y → IsOfWay edges a places x y
of_way_after edges places tail place a mid first there x y whole at first_is is on =
    let from : IsAlong edges a there tail x y = subst (λ (n : ℕ). IsAlong edges n there tail x y) first_is on in
    of_way edges places tail place a x y whole (along_after edges (place ∷ tail) tail a a there place mid x y refl at is from)

-- and goes on by one edge
pub IsOnWay-step : {Q : ℕ → ℕ → Type 0} (lemmas : Lemmas) (goal : GoalData) (old now new : Proof) (told between later : List (Pair × ℕ)) (branch : ℕ)
    (edges : List Edge) (places : List ℕ) (from last : ℕ) (rest tail : List ℕ) (number next a here there place : ℕ) → Leads edges places from last →
    rest ≡ place ∷ tail → ((mid : ℕ) → PassesAt edges place here mid → there ≡ mid) →
    IsOnWay Q lemmas goal old now told between branch edges places from rest number a here →
    Appends lemmas goal now new branch → IsReady lemmas goal new branch → Goes (IsAlong edges a here (place ∷ [])) now between new later →
    AreLines new branch later → Tells new branch next (Same a there) →
    IsOnWay Q lemmas goal old new told later branch edges places from tail next a there
IsOnWay-step lemmas goal old now new told between later branch edges places from last rest tail number next a here there place whole is only way
    grown ready goes lines tells = record {
      appends = Appends-through lemmas goal old now new branch way.appends grown;
      goes = Goes-through old now new told between later way.goes
          (Goes-weaker now new between later (λ x y on. way.along x y (along_first edges rest tail a here place x y is on)) goes);
      along = λ x y on. let at = way_on edges rest tail place here last is (way.leads last whole) in
          way.along x y (along_after edges rest tail a here there place at.0 x y is at.1 (only at.0 at.1) on);
      ready = ready;
      lines = lines;
      tells = tells;
      leads = λ b leads. leads_after edges rest tail place here there b is only (way.leads b leads);
      edges_known = known_after edges between later rest tail place is goes.keeps way.edges_known;
    }

-- a way without edges ends where it begins
pub no_way_on : (edges : List Edge) (rest : List ℕ) (a b : ℕ) → length rest ≡ 0 → Leads edges rest a b → a ≡ b
no_way_on edges [] a b none e = e
no_way_on edges (place ∷ rest) a b none e = absurd (omega arith)
