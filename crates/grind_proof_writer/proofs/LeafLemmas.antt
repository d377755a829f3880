-- Lines written in a leaf.
use Rattle.std.specs.Prelude.{◌≡◌, ℕ, zero, suc, ◌≤◌, List, ◌++◌, Some, All, length, slice_get}
use Rattle.std.proofs.Common.{arith, sym, ap, ◌∙◌, subst, inl, inr, length-append}
use Rattle.std.proofs.lemmas.List.Elements.{All-weaker}
use Rattle.grind_term_graph.specs.declared.node.Node.{Node}
use Rattle.grind_term_graph.specs.Terms.{Terms}
use Rattle.grind_claims.specs.declared.proof.Branch.{Branch}
use Rattle.grind_claims.specs.declared.proof.Line.{Line}
use Rattle.grind_claims.specs.declared.proof.Proof.{Proof}
use Rattle.grind_proof_kernel.specs.Typing.{IsParent, IsClosed, IsFirst, IsInPair, StandsBefore, StandsBehind}
use Rattle.grind_proof_writer.specs.Branches.{IsLeaf, IsPlacedSoFar}
use Rattle.grind_proof_writer.specs.Laws.{LinesKeepGood}
use Rattle.grind_proof_writer.proofs.ListLemmas.{some_item, some_is, split_some, all_some}
use Rattle.grind_proof_writer.proofs.ClosingLemmas.{IsElsewhere, closed_stays, closed_before}
use Rattle.grind_proof_writer.proofs.PlaceLemmas.{ArePlaced, place_at, begins_within, parent_is_one}

-- lines after a branch's beginning stay so
stands_behind : (lines more : List Line) (branch after : ℕ) → after ≤ length lines → StandsBehind lines branch after →
    StandsBehind (lines ++ more) branch after
stands_behind lines more branch after within stands = λ i h.
    elim (split_some (λ (line : Line). line.branch ≡ branch) lines more i h) [
      | inl old ↦ stands i old
      | inr new ↦ omega (arith, new.0, within)
    ]

-- lines of another branch put none of this one after a line
stands_before : (lines more : List Line) (branch own after : ℕ) → ¬ (branch ≡ own) → All (λ (line : Line). line.branch ≡ own) more →
    StandsBefore lines branch after → StandsBefore (lines ++ more) branch after
stands_before lines more branch own after other all stands = λ i h.
    elim (split_some (λ (line : Line). line.branch ≡ branch) lines more i h) [
      | inl old ↦ stands i old
      | inr new ↦
          let found = all_some (λ (line : Line). line.branch ≡ own) (λ (line : Line). line.branch ≡ branch) more new.1 all new.2 in
          absurd (other (sym found.2 ∙ found.1))
    ]

first_stays : (nodes : List Node) (branches : List Branch) (lines more : List Line) (k own : ℕ) (it : Branch) → ¬ (it.parent ≡ own) →
    All (λ (line : Line). line.branch ≡ own) more → IsFirst nodes branches lines k it → IsFirst nodes branches (lines ++ more) k it
first_stays nodes branches lines more k own it other all first =
    let low : it.after ≤ length lines = first.within in
    record {
      other = first.other;
      above = first.above;
      within = simp length-append (omega arith);
      begins = first.begins;
      parent_lines = stands_before lines more it.parent own it.after other all first.parent_lines;
      alone = first.alone;
      literal = first.literal;
      formed = first.formed;
    }

pair_stays : (nodes : List Node) (branches : List Branch) (lines more : List Line) (k own b : ℕ) (it : Branch) → ¬ (it.parent ≡ own) →
    All (λ (line : Line). line.branch ≡ own) more → IsInPair nodes branches lines k b it → IsInPair nodes branches (lines ++ more) k b it
pair_stays nodes branches lines more k own b it other all (inl first) =
    inl (first.0, first_stays nodes branches lines more k own it other all first.1)
pair_stays nodes branches lines more k own b it other all (inr second) = inr second

module _ (proof : Proof) (more : List Line) (own : ℕ) (places : ArePlaced proof) (childless : ¬ IsParent proof.branches own)
    (all : All (λ (line : Line). line.branch ≡ own) more) where
  abbrev longer : Proof
  longer = record { terms = proof.terms; branches = proof.branches; lines = proof.lines ++ more }

  place_stays : (b : ℕ) (it : Branch) → slice_get proof.branches b ≡ Some it →
      IsPlacedSoFar proof.terms.nodes proof.branches (proof.lines ++ more) (suc b) it
  place_stays b it stands =
      let place = place_at proof b it places stands in
      let other : ¬ (it.parent ≡ own) = λ e.
      childless (subst (λ (n : ℕ). IsParent proof.branches n) e (parent_is_one proof b it places stands)) in
      record {
        pair = (place.pair.0, pair_stays proof.terms.nodes proof.branches proof.lines more place.pair.0 own (suc b) it other all place.pair.1);
        stands = stands_behind proof.lines more (suc b) it.after (begins_within proof b it places stands) place.stands;
      }

  pub places_stay : ArePlaced longer
  places_stay zero few = tt
  places_stay (suc b) few =
      let P : Branch → Type 0 = IsPlacedSoFar proof.terms.nodes proof.branches proof.lines (suc b) in
      let found = some_item P (slice_get proof.branches b) (places (suc b) few) in
      some_is (IsPlacedSoFar proof.terms.nodes proof.branches (proof.lines ++ more) (suc b)) (slice_get proof.branches b) found.0 found.1
      (place_stays b found.0 found.1)

-- lines of one branch are elsewhere for another
elsewhere : (more : List Line) (own branch : ℕ) → ¬ (branch ≡ own) → All (λ (line : Line). line.branch ≡ own) more →
    All (IsElsewhere branch) more
elsewhere more own branch other all =
    All-weaker (λ (line : Line). line.branch ≡ own) (IsElsewhere branch) (λ line is here. other (sym here ∙ is)) more all

pub lines_keep_good : LinesKeepGood
lines_keep_good lemmas goal old new branch good leaf grown =
    let more : List Line = grown.lines.0 in
    let whole : new ≡ record { terms = old.terms; branches = old.branches; lines = old.lines ++ more } =
    λ i. record { terms = grown.terms i; branches = grown.branches i; lines = grown.lines.1 i } in (
      record {
        terms = (good.terms.0, ap (λ (terms : Terms). terms.nodes) grown.terms ∙ good.terms.1);
        branches = subst ArePlaced (sym whole) (places_stay old more branch good.branches leaf.childless grown.lines.2);
        lines = grown.typed;
      },
      subst (λ (branches : List Branch). IsLeaf branches branch) (sym grown.branches) leaf,
      record {
        leaf = λ b other is. subst (λ (branches : List Branch). IsLeaf branches b) (sym grown.branches) is;
        parent = λ b is. subst (λ (branches : List Branch). IsParent branches b) (sym grown.branches) is;
        closed = λ b other is. subst (λ (lines : List Line). IsClosed lines b) (sym grown.lines.1)
            (closed_stays old.lines more b (elsewhere more branch b other grown.lines.2) is);
        unclosed = λ b stands other is. closed_before old.lines more b (elsewhere more branch b other grown.lines.2)
            (subst (λ (lines : List Line). IsClosed lines b) grown.lines.1 is);
      },
    )
