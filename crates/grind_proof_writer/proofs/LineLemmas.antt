-- Lines written after a proof, and what they leave as it was.
use Rattle.std.specs.Prelude.{◌≡◌, ℕ, List, [], ◌∷◌, ◌++◌, Option, Some, None, All, length, slice_get, refl}
use Rattle.std.specs.Option.{IsSomeAnd, option_map}
use Rattle.std.proofs.Common.{arith, sym, ap, ◌∙◌, subst, inl, inr, append_assoc}
use Rattle.std.proofs.lemmas.Bool.{cases_eq}
use Rattle.std.proofs.lemmas.List.{append-nil}
use Rattle.std.proofs.lemmas.List.Elements.{All-nil, All-cons, All-append, All-weaker}
use Rattle.grind_term_graph.specs.Terms.{Terms}
use Rattle.grind_schemes.specs.Goals.{GoalData}
use Rattle.grind_schemes.specs.declared.lemmas.Lemmas.{Lemmas}
use Rattle.grind_claims.proofs.Growth.{some_and_then, some_and_stays}
use Rattle.grind_claims.specs.declared.claim.Claim.{Claim}
use Rattle.grind_claims.specs.declared.proof.Branch.{Branch}
use Rattle.grind_claims.specs.declared.proof.Line.{Line}
use Rattle.grind_claims.specs.declared.proof.Proof.{Proof}
use Rattle.grind_claims.specs.declared.proof.Rule.{Rule}
use Rattle.grind_claims.specs.Claims.{IsFormed, claim_at, AreClaimsAt}
use Rattle.grind_proof_kernel.specs.Typing.{LinesAllow, IsBranch, Reaches, Serves, IsTypedAs, TypedLine, literal_of, appended}
use Rattle.grind_proof_kernel.specs.Laws.{Extends, TypedLinesStay, TypedNextLine}
use Rattle.grind_proof_writer.specs.Lines.{AreTyped, IsReady, IsUsable, Tells, Appends, EndsWith, line_of}
use Rattle.grind_proof_writer.proofs.ListLemmas.{within_some, one_more, some_is, behind_first}

-- nothing written after a proof
pub Appends-none : (lemmas : Lemmas) (goal : GoalData) (proof : Proof) (branch : ℕ) →
    AreTyped lemmas goal proof → Appends lemmas goal proof proof branch
Appends-none lemmas goal proof branch typed = record {
  terms = refl;
  branches = refl;
  lines = ([], sym (append-nil proof.lines), All-nil (λ (line : Line). line.branch ≡ branch));
  typed = typed;
}

-- nor after one that is the same
pub Appends-same : (lemmas : Lemmas) (goal : GoalData) (old new : Proof) (branch : ℕ) → new ≡ old →
    AreTyped lemmas goal old → Appends lemmas goal old new branch
Appends-same lemmas goal old new branch same typed =
    subst (λ (proof : Proof). Appends lemmas goal old proof branch) (sym same) (Appends-none lemmas goal old branch typed)

-- more written after what was written
pub Appends-through : (lemmas : Lemmas) (goal : GoalData) (old mid new : Proof) (branch : ℕ) →
    Appends lemmas goal old mid branch → Appends lemmas goal mid new branch → Appends lemmas goal old new branch
Appends-through lemmas goal old mid new branch first second =
    let one : List Line = first.lines.0 in
    let two : List Line = second.lines.0 in
    record {
      terms = second.terms ∙ first.terms;
      branches = second.branches ∙ first.branches;
      lines = (
        one ++ two,
        second.lines.1 ∙ ap (λ (lines : List Line). lines ++ two) first.lines.1 ∙ append_assoc old.lines one two,
        All-append (λ (line : Line). line.branch ≡ branch) one two first.lines.2 second.lines.2,
      );
      typed = second.typed;
    }

-- what is ready stays so
pub IsReady-appends : (lemmas : Lemmas) (goal : GoalData) (old new : Proof) (branch : ℕ) →
    IsReady lemmas goal old branch → Appends lemmas goal old new branch → IsReady lemmas goal new branch
IsReady-appends lemmas goal old new branch ready grown = record {
  terms = (ready.terms.0, ap (λ (terms : Terms). terms.nodes) grown.terms ∙ ready.terms.1);
  stands = subst (λ (branches : List Branch). IsBranch branches branch) (sym grown.branches) ready.stands;
  typed = grown.typed;
}

-- what a line tells it still tells
pub Tells-stays : (lemmas : Lemmas) (goal : GoalData) (old new : Proof) (branch number : ℕ) (claim : Claim) →
    Appends lemmas goal old new branch → Tells old branch number claim → Tells new branch number claim
Tells-stays lemmas goal old new branch number claim grown h =
    let P : List Branch → Line → Type 0 = λ branches line. Reaches branches line.branch branch × (line.claim ≡ claim) in
    let stays = some_and_stays (P old.branches) old.lines grown.lines.0 number h in
    subst (λ (lines : List Line). IsSomeAnd (slice_get lines number) (P new.branches)) (sym grown.lines.1)
    (subst (λ (branches : List Branch). IsSomeAnd (slice_get (old.lines ++ grown.lines.0) number) (P branches)) (sym grown.branches) stays)

-- the last line tells what it claims
pub Tells-last : (proof : Proof) (branch number : ℕ) (claim : Claim) → EndsWith proof branch number claim → Tells proof branch number claim
Tells-last proof branch number claim h =
    some_and_then (λ (line : Line). (line.branch ≡ branch) × (line.claim ≡ claim))
    (λ (line : Line). Reaches proof.branches line.branch branch × (line.claim ≡ claim)) (slice_get proof.lines number)
    (λ line both. ((0, omega arith, ap Some (sym both.0)), both.1)) h.1

-- what a line tells may be cited
pub IsUsable-tells : (proof : Proof) (branch number : ℕ) (claim : Claim) → Tells proof branch number claim → IsUsable proof branch number
IsUsable-tells proof branch number claim h =
    some_and_then (λ (line : Line). Reaches proof.branches line.branch branch × (line.claim ≡ claim))
    (λ (line : Line). Reaches proof.branches line.branch branch) (slice_get proof.lines number) (λ line both. both.0) h

claim_some : (line : Option Line) (claim : Claim) → IsSomeAnd line (λ (it : Line). it.claim ≡ claim)
    → option_map (λ (it : Line). it.claim) line ≡ Some claim
claim_some None claim h = absurd h
claim_some (Some line) claim h = ap Some h

-- what a line tells is its claim
pub claim_at-tells : (proof : Proof) (branch number : ℕ) (claim : Claim) → Tells proof branch number claim →
    claim_at proof.lines number ≡ Some claim
claim_at-tells proof branch number claim h =
    claim_some (slice_get proof.lines number) claim
    (some_and_then (λ (line : Line). Reaches proof.branches line.branch branch × (line.claim ≡ claim))
    (λ (line : Line). line.claim ≡ claim) (slice_get proof.lines number) (λ line both. both.1) h)

-- the claim of one line that tells something
pub claims_at-one : (proof : Proof) (branch number : ℕ) (claim : Claim) → Tells proof branch number claim →
    AreClaimsAt proof.lines (number ∷ []) (claim ∷ [])
claims_at-one proof branch number claim tells = (claim_at-tells proof branch number claim tells, tt)

-- and the claims of two
pub claims_at-two : (proof : Proof) (branch first second : ℕ) (one other : Claim) → Tells proof branch first one →
    Tells proof branch second other → AreClaimsAt proof.lines (first ∷ second ∷ []) (one ∷ other ∷ [])
claims_at-two proof branch first second one other tells too =
    (claim_at-tells proof branch first one tells, (claim_at-tells proof branch second other too, tt))

-- a line that the rule lets claim this is typed after the others
put_typed : (lemmas : Lemmas) (goal : GoalData) (proof : Proof) (branch : ℕ) (rule : Rule) (premises : List ℕ) (claim : Claim) →
    IsReady lemmas goal proof branch → IsFormed proof.terms.nodes claim → All (IsUsable proof branch) premises →
    LinesAllow lemmas goal proof.terms.nodes proof.lines (literal_of proof.branches branch) rule premises claim →
    IsTypedAs lemmas goal proof (length proof.lines) (line_of branch rule premises claim)
put_typed lemmas goal proof branch rule premises claim ready formed usable says = record {
  claim = formed;
  branch = ready.stands;
  premises = All-weaker (IsUsable proof branch) (Serves proof.branches proof.lines (length proof.lines) branch)
      (λ n h. (within_some (λ (line : Line). Reaches proof.branches line.branch branch) proof.lines n h, h)) premises usable;
  rule = says;
}

-- so it is typed once it stands there
pub put_line_typed : TypedNextLine → (lemmas : Lemmas) (goal : GoalData) (proof : Proof) (branch : ℕ) (rule : Rule) (premises : List ℕ)
    (claim : Claim) → IsReady lemmas goal proof branch → IsFormed proof.terms.nodes claim → All (IsUsable proof branch) premises →
    LinesAllow lemmas goal proof.terms.nodes proof.lines (literal_of proof.branches branch) rule premises claim →
    TypedLine lemmas goal (appended proof (line_of branch rule premises claim)) (length proof.lines)
put_line_typed next lemmas goal proof branch rule premises claim ready formed usable says =
    next lemmas goal proof (line_of branch rule premises claim)
    (put_typed lemmas goal proof branch rule premises claim ready formed usable says)

-- the proof with that line after it
pub put_appends : TypedLinesStay → (lemmas : Lemmas) (goal : GoalData) (old new : Proof) (branch : ℕ) (rule : Rule) (premises : List ℕ)
    (claim : Claim) → new ≡ appended old (line_of branch rule premises claim) → AreTyped lemmas goal old →
    TypedLine lemmas goal (appended old (line_of branch rule premises claim)) (length old.lines) → Appends lemmas goal old new branch
put_appends stay lemmas goal old new branch rule premises claim is before last =
    let line : Line = line_of branch rule premises claim in
    let grown : Extends old (appended old line) = record {
      nodes = ([], sym (append-nil old.terms.nodes));
      branches = ([], sym (append-nil old.branches));
      lines = (line ∷ [], refl);
    } in
    let typed : AreTyped lemmas goal (appended old line) = λ i below. elim (cases_eq i (length old.lines)) [
      | inl here ↦ subst (TypedLine lemmas goal (appended old line)) (sym here) last
      | inr other ↦ let count = one_more old.lines line in
          stay lemmas goal old (appended old line) i grown (before i (omega arith))
    ] in
    let all : Appends lemmas goal old (appended old line) branch = record {
      terms = refl;
      branches = refl;
      lines = (line ∷ [], refl, All-cons (λ (it : Line). it.branch ≡ branch) line [] refl (All-nil (λ (it : Line). it.branch ≡ branch)));
      typed = typed;
    } in
    subst (λ (proof : Proof). Appends lemmas goal old proof branch) (sym is) all

-- that line is the last
pub put_last : (old new : Proof) (branch : ℕ) (rule : Rule) (premises : List ℕ) (claim : Claim) (number : ℕ) →
    new ≡ appended old (line_of branch rule premises claim) → number ≡ length old.lines → EndsWith new branch number claim
put_last old new branch rule premises claim number is place =
    let line : Line = line_of branch rule premises claim in
    let P : Line → Type 0 = λ it. (it.branch ≡ branch) × (it.claim ≡ claim) in
    let here : EndsWith (appended old line) branch (length old.lines) claim = (
      one_more old.lines line,
      some_is P (slice_get (old.lines ++ line ∷ []) (length old.lines)) line (behind_first old.lines [] line) (refl, refl),
    ) in
    subst (λ (proof : Proof). EndsWith proof branch number claim) (sym is)
    (subst (λ (n : ℕ). EndsWith (appended old line) branch n claim) (sym place) here)
