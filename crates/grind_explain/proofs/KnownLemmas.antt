-- Lines that tell the edges which an equality needs.
use Rattle.std.specs.Prelude.{◌≡◌, ◌≢◌, ℕ, ◌+◌, ◌<◌, Bool, List, [], ◌∷◌, ◌++◌, Some, All, Contains, length, slice_get, get_or, refl}
use Rattle.std.specs.List.{AllZip}
use Rattle.std.proofs.Common.{arith, sym, ap, ◌∙◌, subst, inl, inr, append_assoc}
use Rattle.std.proofs.lemmas.Bool.{cases_eq}
use Rattle.std.proofs.lemmas.List.{append-nil}
use Rattle.std.proofs.lemmas.List.Elements.{All-nil, All-cons, All-head, All-tail}
use Rattle.std.proofs.lemmas.Option.{get_or_from_slice_get}
use Rattle.grind_term_graph.specs.declared.node.Node.{Node}
use Rattle.grind_term_graph.specs.Terms.{Terms}
use Rattle.grind_schemes.specs.Goals.{GoalData}
use Rattle.grind_schemes.specs.declared.lemmas.Lemmas.{Lemmas}
use Rattle.grind_claims.proofs.Growth.{some_and_then}
use Rattle.grind_claims.specs.declared.claim.Claim.{Claim}
use Rattle.grind_claims.specs.declared.claim.Claim.TheVariants.{Same}
use Rattle.grind_claims.specs.declared.proof.Proof.{Proof}
use Rattle.grind_claims.specs.Claims.{AreClaimsAt}
use Rattle.grind_rules.specs.Rules.{SayEqual, IsCong}
use Rattle.grind_classes.specs.Classes.{IsActive, AreTogether}
use Rattle.grind_congruence.specs.declared.edge.Edge.{Edge}
use Rattle.grind_congruence.specs.Congruence.{Congruence, Fits}
use Rattle.grind_congruence.specs.Edges.{Joins}
use Rattle.grind_needed_edges.specs.declared.pairs.Pair.{Pair}
use Rattle.grind_needed_edges.specs.declared.plan.Plan.{Plan}
use Rattle.grind_needed_edges.specs.declared.why.Why.{Why}
use Rattle.grind_needed_edges.specs.declared.why.Why.TheVariants as why
use Rattle.grind_proof_writer.specs.Lines.{IsReady, IsUsable, Tells, Appends}
use Rattle.grind_needed_edges.specs.Needed.{IsGround, AreGrounds, AreJoinedWithin, IsOfWay}
use Rattle.grind_explain.specs.Explained.{IsReason, HasReasons}
use Rattle.grind_needed_edges.specs.Numbered.{pair_of, HasNumber, KeepsNumbers}
use Rattle.grind_needed_edges.specs.Plans.{IsNeeded, IsCovered, AreWays, IsOnPlan, IsPlanned}
use Rattle.grind_explain.specs.Deriving.{AreLines, Goes, IsKnown, AreKnown, IsGiven, AreTold, AreHalfTold, AreKnownSoFar}
use Rattle.grind_proof_writer.proofs.LineLemmas.{Appends-none, Appends-through, Tells-stays, IsUsable-tells, claim_at-tells}
use Rattle.grind_explain.proofs.ChainLemmas.{IsKnown-stays}
use Rattle.grind_needed_edges.proofs.JoinLemmas.{All-others, zip_others}
use Rattle.grind_explain.proofs.NotedLemmas.{Goes-none, Goes-through}

-- the same terms, after lines were appended to a proof
pub Fits-appends : (lemmas : Lemmas) (goal : GoalData) (old new : Proof) (branch : ℕ) (closure : Congruence) →
    Appends lemmas goal old new branch → Fits closure old.terms.nodes → Fits closure new.terms.nodes
Fits-appends lemmas goal old new branch closure grown fits =
    subst (λ (terms : Terms). Fits closure terms.nodes) (sym grown.terms) fits

IsReason-stays : (lemmas : Lemmas) (goal : GoalData) (old new : Proof) (branch : ℕ) (edges : List Edge) (place : ℕ) (edge : Edge) (reason : Why) →
    Appends lemmas goal old new branch → IsReason old branch edges place edge reason → IsReason new branch edges place edge reason
IsReason-stays lemmas goal old new branch edges place edge (why.Line number) grown h =
    Tells-stays lemmas goal old new branch number (Same edge.left edge.right) grown h
IsReason-stays lemmas goal old new branch edges place edge why.Congruence grown h =
    subst (λ (terms : Terms). AreJoinedWithin terms.nodes edges place edge.left edge.right) (sym grown.terms) h

HasReasons-stays : (lemmas : Lemmas) (goal : GoalData) (old new : Proof) (branch : ℕ) (edges : List Edge) (whys : List Why) (count : ℕ) →
    Appends lemmas goal old new branch → HasReasons old branch edges whys count → HasReasons new branch edges whys count
HasReasons-stays lemmas goal old new branch edges whys count grown h place edge below stands =
    some_and_then (IsReason old branch edges place edge) (IsReason new branch edges place edge) (slice_get whys edge.why)
    (λ reason. IsReason-stays lemmas goal old new branch edges place edge reason grown) (h place edge below stands)

-- what is given stays so
pub IsGiven-stays : (lemmas : Lemmas) (goal : GoalData) (old new : Proof) (branch : ℕ) (closure : Congruence) (whys : List Why) (plan : Plan) →
    Appends lemmas goal old new branch → IsGiven closure whys plan branch old → IsGiven closure whys plan branch new
IsGiven-stays lemmas goal old new branch closure whys plan grown h = record {
  fits = Fits-appends lemmas goal old new branch closure grown h.fits;
  reasons = HasReasons-stays lemmas goal old new branch closure.edges whys (length plan.needed) grown h.reasons;
  covers = λ place. subst (λ (terms : Terms). IsCovered terms.nodes closure.edges whys plan place) (sym grown.terms) (h.covers place);
  ways = h.ways;
  on_ways = h.on_ways;
}

-- the grounds of reasons
ground_of : (proof : Proof) (branch : ℕ) (edges : List Edge) (place : ℕ) (edge : Edge) (reason : Why) → IsReason proof branch edges place edge reason
    → IsGround proof.terms.nodes edges place edge reason
ground_of proof branch edges place edge (why.Line number) h = tt
ground_of proof branch edges place edge why.Congruence h = h

pub AreGrounds-reasons : (proof : Proof) (branch : ℕ) (edges : List Edge) (whys : List Why) (count : ℕ) → HasReasons proof branch edges whys count
    → AreGrounds proof.terms.nodes edges whys count
AreGrounds-reasons proof branch edges whys count h place edge below stands =
    some_and_then (IsReason proof branch edges place edge) (IsGround proof.terms.nodes edges place edge) (slice_get whys edge.why)
    (λ reason. ground_of proof branch edges place edge reason) (h place edge below stands)

-- more is known where more is noted
pub AreKnown-stays : (edges : List Edge) (needed : List Bool) (told later : List (Pair × ℕ)) (count : ℕ) → KeepsNumbers told later →
    AreKnown edges needed told count → AreKnown edges needed later count
AreKnown-stays edges needed told later count keeps h place below is = IsKnown-stays edges told later place keeps (h place below is)

-- the needed places below the number of first edges that are known
pub known_all : (edges : List Edge) (needed : List Bool) (told : List (Pair × ℕ)) (count : ℕ) (places : List ℕ) → AreKnown edges needed told count →
    All (λ place. place < count) places → All (IsNeeded needed) places → All (IsKnown edges told) places
known_all edges needed told count [] h below is = All-nil (IsKnown edges told)
known_all edges needed told count (place ∷ places) h below is =
    All-cons (IsKnown edges told) place places
    (h place (All-head (λ p. p < count) place places below) (All-head (IsNeeded needed) place places is))
    (known_all edges needed told count places h (All-tail (λ p. p < count) place places below) (All-tail (IsNeeded needed) place places is))

-- one more pair is told
pub AreHalfTold-step : (lemmas : Lemmas) (goal : GoalData) (old now new : Proof) (before told later : List (Pair × ℕ)) (branch : ℕ)
    (closure : Congruence) (whys : List Why) (plan : Plan)
    (lefts rights left left_tail right right_tail numbers longer : List ℕ) (a b number : ℕ) →
    left ≡ a ∷ left_tail → right ≡ b ∷ right_tail → longer ≡ numbers ++ number ∷ [] →
    AreHalfTold lemmas goal old now before told branch closure whys plan lefts rights left right numbers →
    Appends lemmas goal now new branch → IsReady lemmas goal new branch → Goes (IsPlanned closure.edges whys plan) now told new later → AreLines new branch later →
    Tells new branch number (Same a b) →
    AreHalfTold lemmas goal old new before later branch closure whys plan lefts rights left_tail right_tail longer
AreHalfTold-step lemmas goal old now new before told later branch closure whys plan lefts rights left left_tail right right_tail numbers
    longer a b number left_is right_is longer_is h grown ready goes lines tells = record {
      appends = Appends-through lemmas goal old now new branch h.appends grown;
      goes = Goes-through old now new before told later h.goes goes;
      ready = ready;
      lines = lines;
      given = IsGiven-stays lemmas goal now new branch closure whys plan grown h.given;
      place = h.place;
      edges_known = AreKnown-stays closure.edges plan.needed told later h.place goes.keeps h.edges_known;
      active = All-others (IsActive closure.lists) left left_tail a left_is h.active;
      joined = zip_others (Joins closure.edges h.place) left left_tail right right_tail a b left_is right_is h.joined;
      planned = zip_others (HasNumber plan.pairs) left left_tail right right_tail a b left_is right_is h.planned;
      told_all = λ final more behind rest.
          let whole : AreTold final branch (a ∷ left_tail) (b ∷ right_tail) (number ∷ more) =
          (Tells-stays lemmas goal new final branch number (Same a b) behind tells, rest) in
          let all : AreTold final branch lefts rights (numbers ++ number ∷ more) =
          h.told_all final (number ∷ more) (Appends-through lemmas goal now new final branch grown behind)
          (subst (λ (xs : List ℕ). AreTold final branch xs right (number ∷ more)) (sym left_is)
          (subst (λ (ys : List ℕ). AreTold final branch (a ∷ left_tail) ys (number ∷ more)) (sym right_is) whole)) in
          let same : longer ++ more ≡ numbers ++ number ∷ more =
          ap (λ (ns : List ℕ). ns ++ more) longer_is ∙ append_assoc numbers (number ∷ []) more in
          subst (λ (ns : List ℕ). AreTold final branch lefts rights ns) (sym same) all;
    }

none_told : (R : ℕ → ℕ → Type 0) (proof : Proof) (branch : ℕ) (left right : List ℕ) → length left ≡ 0 → AllZip R left right →
    AreTold proof branch left right []
none_told R proof branch [] [] none h = tt
none_told R proof branch [] (b ∷ right) none h = absurd h
none_told R proof branch (a ∷ left) right none h = absurd (omega arith)

-- once no pair is left
pub AreHalfTold-end : (lemmas : Lemmas) (goal : GoalData) (old now : Proof) (before told : List (Pair × ℕ)) (branch : ℕ) (closure : Congruence)
    (whys : List Why) (plan : Plan) (lefts rights left right numbers : List ℕ) → length left ≡ 0 →
    AreHalfTold lemmas goal old now before told branch closure whys plan lefts rights left right numbers → AreTold now branch lefts rights numbers
AreHalfTold-end lemmas goal old now before told branch closure whys plan lefts rights left right numbers none h =
    subst (λ (ns : List ℕ). AreTold now branch lefts rights ns) (append-nil numbers)
    (h.told_all now [] (Appends-none lemmas goal now branch h.ready.typed)
    (none_told (Joins closure.edges h.place) now branch left right none h.joined))

-- lines that tell pairs may be used
pub AreTold-usable : (proof : Proof) (branch : ℕ) (lefts rights numbers : List ℕ) → AreTold proof branch lefts rights numbers →
    All (IsUsable proof branch) numbers
AreTold-usable proof branch [] [] [] h = All-nil (IsUsable proof branch)
AreTold-usable proof branch (a ∷ lefts) (b ∷ rights) (n ∷ numbers) h =
    All-cons (IsUsable proof branch) n numbers (IsUsable-tells proof branch n (Same a b) h.0) (AreTold-usable proof branch lefts rights numbers h.1)
AreTold-usable proof branch [] [] (n ∷ numbers) h = absurd h
AreTold-usable proof branch [] (b ∷ rights) numbers h = absurd h
AreTold-usable proof branch (a ∷ lefts) [] numbers h = absurd h
AreTold-usable proof branch (a ∷ lefts) (b ∷ rights) [] h = absurd h

-- their claims say that the pairs are equal
AreTold-say : (proof : Proof) (branch : ℕ) (lefts rights numbers : List ℕ) → AreTold proof branch lefts rights numbers →
    (claims : List Claim) × AreClaimsAt proof.lines numbers claims × SayEqual lefts rights claims
AreTold-say proof branch [] [] [] h = ([], tt, tt)
AreTold-say proof branch (a ∷ lefts) (b ∷ rights) (n ∷ numbers) h =
    let rest = AreTold-say proof branch lefts rights numbers h.1 in
    (Same a b ∷ rest.0, (claim_at-tells proof branch n (Same a b) h.0, rest.1), (refl, rest.2))
AreTold-say proof branch [] [] (n ∷ numbers) h = absurd h
AreTold-say proof branch [] (b ∷ rights) numbers h = absurd h
AreTold-say proof branch (a ∷ lefts) [] numbers h = absurd h
AreTold-say proof branch (a ∷ lefts) (b ∷ rights) [] h = absurd h

some_said : (xs ys : List ℕ) (claims : List Claim) → xs ≢ [] → SayEqual xs ys claims → claims ≢ []
some_said [] ys claims some h e = some refl
some_said (a ∷ xs) [] claims some h e = h
some_said (a ∷ xs) (b ∷ ys) [] some h e = h
some_said (a ∷ xs) (b ∷ ys) (claim ∷ claims) some h e = absurd cc

-- two nodes are equal by congruence
pub IsCong-told : (old new : Proof) (branch : ℕ) (edges : List Edge) (count a b : ℕ) (lefts rights numbers : List ℕ) →
    new.terms ≡ old.terms → (joined : AreJoinedWithin old.terms.nodes edges count a b) → lefts ≡ joined.left.args →
    rights ≡ joined.right.args → AreTold new branch lefts rights numbers →
    (claims : List Claim) × AreClaimsAt new.lines numbers claims × IsCong new.terms.nodes claims (Same a b)
IsCong-told old new branch edges count a b lefts rights numbers terms joined left_is right_is told =
    let told_by = AreTold-say new branch lefts rights numbers told in
    let claims : List Claim = told_by.0 in
    let say : SayEqual joined.left.args joined.right.args claims =
    subst (λ (xs : List ℕ). SayEqual xs joined.right.args claims) left_is
    (subst (λ (ys : List ℕ). SayEqual lefts ys claims) right_is told_by.2) in
    let nodes : new.terms.nodes ≡ old.terms.nodes = ap (λ (t : Terms). t.nodes) terms in
    let follows : IsCong new.terms.nodes claims (Same a b) = subst (λ (ns : List Node). IsCong ns claims (Same a b)) (sym nodes) (
      a,
      b,
      joined.left,
      joined.right,
      refl,
      joined.left_is,
      joined.right_is,
      joined.head,
      joined.sort,
      some_said joined.left.args joined.right.args claims joined.has_args say,
      say,
    ) in
    (claims, told_by.1, follows)

-- one more of the first edges is passed
pub AreKnownSoFar-step : (lemmas : Lemmas) (goal : GoalData) (old now new : Proof) (before told later : List (Pair × ℕ)) (branch : ℕ)
    (closure : Congruence) (whys : List Why) (plan : Plan) (place : ℕ) →
    AreKnownSoFar lemmas goal old now before told branch closure whys plan place →
    Appends lemmas goal now new branch → IsReady lemmas goal new branch → Goes (IsPlanned closure.edges whys plan) now told new later → AreLines new branch later →
    (IsNeeded plan.needed place → IsKnown closure.edges later place) →
    AreKnownSoFar lemmas goal old new before later branch closure whys plan (place + 1)
AreKnownSoFar-step lemmas goal old now new before told later branch closure whys plan place h grown ready goes lines here = record {
  appends = Appends-through lemmas goal old now new branch h.appends grown;
  goes = Goes-through old now new before told later h.goes goes;
  ready = ready;
  lines = lines;
  given = IsGiven-stays lemmas goal now new branch closure whys plan grown h.given;
  edges_known = λ p below is. elim (cases_eq p place) [
    | inl same ↦ subst (IsKnown closure.edges later) (sym same) (here (subst (IsNeeded plan.needed) same is))
    | inr other ↦ IsKnown-stays closure.edges told later p goes.keeps (h.edges_known p (omega arith) is)
  ];
}

pub AreKnownSoFar-start : (lemmas : Lemmas) (goal : GoalData) (proof : Proof) (told : List (Pair × ℕ)) (branch : ℕ) (closure : Congruence)
    (whys : List Why) (plan : Plan) → IsReady lemmas goal proof branch → AreLines proof branch told → IsGiven closure whys plan branch proof →
    AreKnownSoFar lemmas goal proof proof told told branch closure whys plan 0
AreKnownSoFar-start lemmas goal proof told branch closure whys plan ready lines given = record {
  appends = Appends-none lemmas goal proof branch ready.typed;
  goes = Goes-none proof told;
  ready = ready;
  lines = lines;
  given = given;
  edges_known = λ place below is. absurd (omega arith);
}

-- the first pair of two rows
pub zip_first : (R : ℕ → ℕ → Type 0) (left left_tail right right_tail : List ℕ) (a b : ℕ) → left ≡ a ∷ left_tail → right ≡ b ∷ right_tail →
    AllZip R left right → R a b
zip_first R left left_tail right right_tail a b left_is right_is h =
    (subst (λ (ys : List ℕ). AllZip R (a ∷ left_tail) ys) right_is (subst (λ (xs : List ℕ). AllZip R xs right) left_is h)).0

-- before the first pair
pub AreHalfTold-start : (lemmas : Lemmas) (goal : GoalData) (proof : Proof) (told : List (Pair × ℕ)) (branch : ℕ)
    (closure : Congruence) (whys : List Why) (plan : Plan) (place : ℕ) (lefts rights numbers : List ℕ) → numbers ≡ [] →
    IsReady lemmas goal proof branch → AreLines proof branch told → IsGiven closure whys plan branch proof →
    AreKnown closure.edges plan.needed told place → All (IsActive closure.lists) lefts → AllZip (Joins closure.edges place) lefts rights →
    AllZip (HasNumber plan.pairs) lefts rights →
    AreHalfTold lemmas goal proof proof told told branch closure whys plan lefts rights lefts rights numbers
AreHalfTold-start lemmas goal proof told branch closure whys plan place lefts rights numbers none ready lines given known active joined planned =
    record {
      appends = Appends-none lemmas goal proof branch ready.typed;
      goes = Goes-none proof told;
      ready = ready;
      lines = lines;
      given = given;
      place = place;
      edges_known = known;
      active = active;
      joined = joined;
      planned = planned;
      told_all = λ later more grown all. subst (λ (ns : List ℕ). AreTold later branch lefts rights (ns ++ more)) (sym none) all;
    }

-- what is read of the ways is the way of that number
pub way_read : (ways read_ways : List (List ℕ)) (n : ℕ) (read places slice : List ℕ) → read_ways ≡ ways → slice_get ways n ≡ Some places →
    read ≡ get_or read_ways n read → slice ≡ read → slice ≡ places
way_read ways read_ways n read places slice same stands is slice_is =
    slice_is ∙ is ∙ ap (λ (ws : List (List ℕ)). get_or ws n read) same ∙ get_or_from_slice_get ways n places read stands

-- what a plan gives
pub IsGiven-start : (closure : Congruence) (whys one two : List Why) (plan : Plan) (branch : ℕ) (proof : Proof) → one ≡ whys → two ≡ whys →
    Fits closure proof.terms.nodes → HasReasons proof branch closure.edges whys (length plan.needed) →
    ((place : ℕ) → IsCovered proof.terms.nodes closure.edges one plan place) → AreWays closure.edges plan → ((place : ℕ) → IsNeeded plan.needed place → IsOnPlan plan place)
    → IsGiven closure two plan branch proof
IsGiven-start closure whys one two plan branch proof first second fits reasons covers ways on_ways = record {
  fits = fits;
  reasons = subst (λ (ws : List Why). HasReasons proof branch closure.edges ws (length plan.needed)) (sym second) reasons;
  covers = λ place. subst (λ (ws : List Why). IsCovered proof.terms.nodes closure.edges ws plan place) (first ∙ sym second) (covers place);
  ways = ways;
  on_ways = on_ways;
}

-- a node of a class stands among the terms, which are still the same
pub within_appends : (lemmas : Lemmas) (goal : GoalData) (old new : Proof) (branch : ℕ) (closure : Congruence) (a b : ℕ) →
    Appends lemmas goal old new branch → Fits closure old.terms.nodes → AreTogether closure.lists a b → b < length new.terms.nodes
within_appends lemmas goal old new branch closure a b grown fits both =
    (Fits-appends lemmas goal old new branch closure grown fits).within b (both.0, both.2)

-- a known edge
pub IsKnown-read : (edges : List Edge) (told : List (Pair × ℕ)) (place : ℕ) (read : Edge) → slice_get edges place ≡ Some read →
    HasNumber told read.left read.right → IsKnown edges told place
IsKnown-read edges told place read stands has = (read, stands, has)

-- a congruence on a way that is planned
pub IsPlanned-on : (edges : List Edge) (whys : List Why) (plan : Plan) (place : ℕ) (edge : Edge) → IsOnPlan plan place → slice_get edges place ≡ Some edge
    → slice_get whys edge.why ≡ Some why.Congruence → IsPlanned edges whys plan edge.left edge.right
IsPlanned-on edges whys plan place edge (a, b, number, places, has, stands, on) edge_is reason =
    (a, b, number, places, has, stands, inr (edge, record { place = place; on = on; edge_is = edge_is; reason = reason }, refl, refl))

-- an equality of a way that is planned
pub IsPlanned-way : (edges read_edges : List Edge) (whys : List Why) (plan : Plan) (a b number : ℕ) (places read : List ℕ) (x y : ℕ)
    → Contains plan.pairs (pair_of a b, number) → slice_get plan.ways number ≡ Some places → read ≡ places → read_edges ≡ edges
    → IsOfWay read_edges a read x y → IsPlanned edges whys plan x y
IsPlanned-way edges read_edges whys plan a b number places read x y has stands same edges_are h = (
  a,
  b,
  number,
  places,
  has,
  stands,
  inl (subst (λ (ps : List ℕ). IsOfWay edges a ps x y) same
      (subst (λ (es : List Edge). IsOfWay es a read x y) edges_are h)),
)
