-- Why the edges of a closure of the given pairs hold, and what contradicts a pair that they join.
use Rattle.std.specs.Prelude.{ℕ, ◌≡◌, List, [], ◌∷◌, Some, slice_get, refl, Option}
use Rattle.std.proofs.Common.{sym, ap, ◌∙◌, subst, inl, inr}
use Rattle.grind_term_graph.specs.declared.node.Node.{Node}
use Rattle.grind_congruence.specs.declared.edge.Edge.{Edge}
use Rattle.grind_congruence.specs.Congruence.{Congruence}
use Rattle.grind_goal_equations.specs.Building.{IsFounded, AreFounded}
use Rattle.grind_goal_equations.proofs.BuildingLemmas.{All-contains}
use Rattle.std.specs.Option.{IsSomeAnd}
use Rattle.grind_schemes.specs.Goals.{GoalData}
use Rattle.grind_schemes.specs.declared.lemmas.Lemmas.{Lemmas}
use Rattle.grind_claims.specs.declared.claim.Claim.{Claim}
use Rattle.grind_claims.specs.declared.claim.Claim.TheVariants.{Same, Differ, Absurd}
use Rattle.grind_claims.specs.declared.proof.Line.{Line}
use Rattle.grind_claims.specs.declared.proof.Proof.{Proof}
use Rattle.grind_claims.specs.Claims.{claim_at, AreClaimsAt}
use Rattle.grind_rules.specs.Rules.{IsClash}
use Rattle.grind_needed_edges.specs.declared.why.Why.{Why}
use Rattle.grind_needed_edges.specs.declared.why.Why.TheVariants as why
use Rattle.grind_explain.specs.Explained.{IsReason, HasReasons}
use Rattle.grind_needed_edges.specs.Needed.{AreJoinedWithin}
use Rattle.grind_given_lines.specs.Written.{IsTold, IsLedger}
use Rattle.grind_given_lines.proofs.LineLemmas.{rooted_terms}

some_and_of : {X : Type 0} (P : X → Type 0) (o : Option X) (x : X) → o ≡ Some x → P x → IsSomeAnd o P
some_and_of {X = X} P o x e h = subst (λ (it : Option X). IsSomeAnd it P) (sym e) h

-- each edge has a reason
pub reasons : (lemmas : Lemmas) (goal : GoalData) (proof : Proof) (whys : List Why) (pairs edges : List Edge) (count : ℕ) →
    IsLedger lemmas goal proof whys pairs → AreFounded goal.terms.nodes pairs edges → HasReasons proof 0 edges whys count
reasons lemmas goal proof whys pairs edges count ledger founded = λ place edge below stands. by place edge (founded place edge stands)
  where
    by : (place : ℕ) (edge : Edge) → IsFounded goal.terms.nodes pairs edges place edge →
        IsSomeAnd (slice_get whys edge.why) (IsReason proof 0 edges place edge)
    by place edge (inl has) =
        let told = All-contains (IsTold proof whys) pairs edge ledger.told has in
        some_and_of (IsReason proof 0 edges place edge) (slice_get whys edge.why) (why.Line told.line) told.why
        told.tells
    by place edge (inr is) =
        let first : slice_get whys edge.why ≡ Some why.Congruence = ap (slice_get whys) is.0 ∙ ledger.congruence in
        some_and_of (IsReason proof 0 edges place edge) (slice_get whys edge.why) why.Congruence first
        (subst (λ (all : List Node). AreJoinedWithin all edges place edge.left edge.right) (sym (rooted_terms lemmas goal proof ledger.rooted)) is.1)

-- two terms that are equal, and different
pub split_clash : (nodes : List Node) (lines : List Line) (first second a b : ℕ) → claim_at lines first ≡ Some (Same a b) →
    claim_at lines second ≡ Some (Differ a b) →
    (claims : List Claim) × AreClaimsAt lines (first ∷ second ∷ []) claims × IsClash nodes claims Absurd
split_clash nodes lines first second a b one other = (
  Same a b ∷ Differ a b ∷ [],
  (one, (other, tt)),
  (refl, inl (Same a b, Differ a b, inl refl, inr (a, b, refl, inl refl))),
)
