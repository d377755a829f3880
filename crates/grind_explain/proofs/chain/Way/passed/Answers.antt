use Rattle.std.specs.Prelude.{ℕ}
use Rattle.std.proofs.Common.{sym, subst}
use Rattle.std.proofs.lemmas.Option.{slice_get_within}
use Rattle.grind_needed_edges.specs.Needed.{PassesAt}
use Rattle.grind_explain.proofs.NotedLemmas.{Goes-weaker}
use Rattle.grind_explain.proofs.ChainLemmas.{passes_read, either_read}
use Rattle.grind_explain.proofs.chain.Way.passed.Goals as goal

pub bounds-self-place : goal.bounds-self-place
bounds-self-place c = slice_get_within c.args.self.now.edges.now c.args.place c.requires.known.0 c.requires.known.1

pub other_end-next-requires : goal.other_end-next-requires
other_end-next-requires c =
    let at = c.requires.passes in
    (at.0, passes_read c.args.self.now.edges.now c.args.place c.args.here at.0 c.index-self-place.result at.1)

pub turned-requires-clause-either : goal.turned-requires-clause-either
turned-requires-clause-either c =
    either_read c.args.self.now.edges.now c.args.told.now c.args.place c.args.here c.other_end-next.result c.index-self-place.result c.requires.known
    c.other_end-next.ensures.passes

pub returns-clause-only : goal.returns-clause-only
returns-clause-only c = λ next at.
    c.other_end-next.ensures.only next
    (passes_read c.args.self.now.edges.now c.args.place c.args.here next c.index-self-place.result at)

pub returns-clause-goes : goal.returns-clause-goes
returns-clause-goes c =
    let edges = c.args.self.now.edges.now in
    let at = c.requires.passes in
    let is = c.other_end-next.ensures.only at.0 (passes_read edges c.args.place c.args.here at.0 c.index-self-place.result at.1) in
    let passes : PassesAt edges c.args.place c.args.here c.other_end-next.result =
    subst (λ (n : ℕ). PassesAt edges c.args.place c.args.here n) (sym is) at.1 in
    Goes-weaker c.args.proof.now c.turned.new.proof c.args.told.now c.turned.new.told
    (λ x y h. (h.0, subst (λ (n : ℕ). PassesAt edges c.args.place c.args.here n) (sym h.1) passes)) c.in_ok-line.ensures.goes
