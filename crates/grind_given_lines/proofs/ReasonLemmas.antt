-- The reasons of the pairs that a goal gives, source by source.
use Rattle.std.specs.Prelude.{ℕ, ◌≡◌, ◌+◌, Bool, true, false, List, [], ◌∷◌, ◌++◌, Some, All, length, slice_get, refl}
use Rattle.std.proofs.Common.{arith, sym, ap, ◌∙◌, subst, inl, inr}
use Rattle.std.proofs.lemmas.Bool.{cases_eq}
use Rattle.std.proofs.lemmas.List.{length-append}
use Rattle.std.proofs.lemmas.List.Elements.{All-weaker}
use Rattle.grind_schemes.specs.Goals.{GoalData}
use Rattle.grind_schemes.specs.declared.lemmas.Lemmas.{Lemmas}
use Rattle.grind_claims.specs.declared.claim.Claim.TheVariants.{Same}
use Rattle.grind_claims.specs.declared.proof.Proof.{Proof}
use Rattle.grind_claims.proofs.Growth.{item_stays}
use Rattle.grind_congruence.specs.declared.edge.Edge.{Edge}
use Rattle.grind_congruence.proofs.EdgeLemmas.{slice_get-last}
use Rattle.grind_needed_edges.specs.declared.why.Why.{Why}
use Rattle.grind_needed_edges.specs.declared.why.Why.TheVariants as why
use Rattle.grind_proof_writer.specs.Lines.{Tells, Appends}
use Rattle.grind_proof_writer.proofs.LineLemmas.{Tells-stays}
use Rattle.grind_goal_equations.specs.declared.fact.Fact.{Fact}
use Rattle.grind_goal_equations.specs.Facts.{IsFact, equates}
use Rattle.grind_given_lines.specs.Writing.{sides_claim}
use Rattle.grind_given_lines.specs.Writing.{IsRooted}
use Rattle.grind_goal_equations.specs.Given.{IsOfSource}
use Rattle.grind_given_lines.specs.Written.{IsReasonOf, HasReason, AreWritten, IsTold, IsLedger}
use Rattle.grind_goal_equations.proofs.GivenLemmas.{facts_alike, source_within, sources_pairs, sources_ends}

-- a source that says nothing, or that two terms are different, asks for no line
pub IsReasonOf-nothing : (goal : GoalData) (proof : Proof) (k : ℕ) (reason : Why) → ((fact : Fact) → IsFact goal fact → fact.source ≡ k → ⊥) →
    IsReasonOf goal proof k reason
IsReasonOf-nothing goal proof k reason none = record { each = λ fact is place e. absurd (none fact is place) }

pub IsReasonOf-difference : (goal : GoalData) (proof : Proof) (fact : Fact) (k : ℕ) (reason : Why) → IsFact goal fact → fact.source ≡ k →
    equates fact ≡ false → IsReasonOf goal proof k reason
IsReasonOf-difference goal proof fact k reason is place differs = record {
  each = λ other second there e.
      let alike = facts_alike goal fact other is second (place ∙ sym there) in
      let same : equates fact ≡ equates other = alike.equates in
      absurd cc;
}

-- the line of a fact
pub IsReasonOf-line : (goal : GoalData) (proof : Proof) (fact : Fact) (k line : ℕ) → IsFact goal fact → fact.source ≡ k → equates fact ≡ true →
    Tells proof 0 line (sides_claim (equates fact) fact.reading.left fact.reading.right) → IsReasonOf goal proof k (why.Line line)
IsReasonOf-line goal proof fact k line is place equal tells =
    let same : Tells proof 0 line (Same fact.reading.left fact.reading.right) =
    subst (λ (b : Bool). Tells proof 0 line (sides_claim b fact.reading.left fact.reading.right)) equal tells in
    record {
      each = λ other second there e.
          let alike = facts_alike goal fact other is second (place ∙ sym there) in
          record {
            line = line;
            is = refl;
            tells = subst (λ (a : ℕ). Tells proof 0 line (Same a other.reading.right)) alike.left
                (subst (λ (b : ℕ). Tells proof 0 line (Same fact.reading.left b)) alike.right same);
          };
    }

-- before the first source
pub AreWritten-start : (goal : GoalData) (proof : Proof) (whys : List Why) → whys ≡ why.Congruence ∷ [] → AreWritten goal proof whys 0
AreWritten-start goal proof whys is = record {
  congruence = ap (λ (all : List Why). slice_get all 0) is;
  count = ap (λ (all : List Why). length all) is;
  each = λ source below. absurd (omega (arith, below));
}

-- a reason stays where lines and reasons are put after the others
HasReason-stays : (lemmas : Lemmas) (goal : GoalData) (old new : Proof) (whys more : List Why) (source : ℕ) → Appends lemmas goal old new 0 →
    HasReason goal old whys source → HasReason goal new (whys ++ more) source
HasReason-stays lemmas goal old new whys more source grown h = record {
  reason = h.reason;
  stands = item_stays whys more (source + 1) h.reason h.stands;
  is = record {
    each = λ fact is place e.
        let told = h.is.each fact is place e in
        record {
          line = told.line;
          is = told.is;
          tells = Tells-stays lemmas goal old new 0 told.line (Same fact.reading.left fact.reading.right) grown told.tells;
        };
  };
}

-- the reason of the next source
pub AreWritten-step : (lemmas : Lemmas) (goal : GoalData) (old new : Proof) (whys : List Why) (reason : Why) (bound : ℕ) →
    AreWritten goal old whys bound → Appends lemmas goal old new 0 → IsReasonOf goal new bound reason →
    AreWritten goal new (whys ++ reason ∷ []) (bound + 1)
AreWritten-step lemmas goal old new whys reason bound h grown one = record {
  congruence = item_stays whys (reason ∷ []) 0 why.Congruence h.congruence;
  count = omega (arith, length-append whys (reason ∷ []), h.count);
  each = λ source below. elim (cases_eq source bound) [
    | inl is ↦ subst (HasReason goal new (whys ++ reason ∷ [])) (sym is) (record {
      reason = reason;
      stands = subst (λ (n : ℕ). slice_get (whys ++ reason ∷ []) n ≡ Some reason) h.count (slice_get-last whys reason);
      is = one;
    })
    | inr other ↦
        HasReason-stays lemmas goal old new whys (reason ∷ []) source grown (h.each source (omega (arith, below, other)))
  ];
}

-- once all sources are written, each edge of a source is told
source_told : (goal : GoalData) (proof : Proof) (whys : List Why) (edge : Edge) → AreWritten goal proof whys (length goal.hyps + 1) →
    IsOfSource goal edge → IsTold proof whys edge
source_told goal proof whys edge written h =
    let fact : Fact = h.fact in
    let within = source_within goal fact.source fact.holds fact.node h.is.said in
    let has = written.each fact.source within in
    let told = has.is.each fact h.is refl h.equates in
    record {
      line = told.line;
      why = ap (slice_get whys) h.number ∙ has.stands ∙ ap Some told.is;
      tells = subst (λ (a : ℕ). Tells proof 0 told.line (Same a edge.right)) h.left
          (subst (λ (b : ℕ). Tells proof 0 told.line (Same h.fact.reading.left b)) h.right told.tells);
    }

pub ledger_of : (lemmas : Lemmas) (goal : GoalData) (proof : Proof) (whys : List Why) (given : List Edge) → IsRooted lemmas goal proof →
    AreWritten goal proof whys (length goal.hyps + 1) → All (IsOfSource goal) given → IsLedger lemmas goal proof whys given
ledger_of lemmas goal proof whys given rooted written sources = record {
  rooted = rooted;
  congruence = written.congruence;
  told = All-weaker (IsOfSource goal) (IsTold proof whys) (λ edge is. source_told goal proof whys edge written is) given sources;
  pairs = sources_pairs goal given sources;
  ends = sources_ends goal given sources;
}
