use Rattle.std.proofs.Common.{inl, inr, sym, ◌∙◌, refl}
use Rattle.std.proofs.lemmas.Bool.{false≢true}
use Rattle.grind_cutsat_bounds.specs.Evaluations.{value_of}
use Rattle.grind_cutsat_assignment.specs.Walks.{Marks}
use Rattle.grind_cutsat_assignment.specs.Courses.{IsStop, IsSettled, IsVisited}
use Rattle.grind_cutsat_assignment.proofs.WalkLemmas.{match_map}
use Rattle.grind_cutsat_assignment.proofs.walk.visit.Goals as goal

pub returns-then-not-is_marked : goal.returns-then-not-is_marked
returns-then-not-is_marked c = inl (λ marked. false≢true (sym c.if-not-is_marked.true ∙ c.is_marked.ensures.1 marked), refl)

pub returns : goal.returns
returns c =
    let marked = c.is_marked.ensures.0 c.if-not-is_marked.false in
    match_map c.settle.result (IsSettled c.args.facts.now c.args.number c.args.values.now c.settle.new.values)
    (IsVisited c.args.facts.now c.args.marks.now c.args.number c.args.values.now c.settle.new.values)
    (IsStop c.args.facts.now (value_of c.args.values.now) c.args.number)
    (λ stop. Marks c.args.marks.now c.args.number × IsStop c.args.facts.now (value_of c.args.values.now) c.args.number stop)
    (λ settled. inr (marked, settled)) (λ stop ends. (marked, ends)) c.settle.ensures
