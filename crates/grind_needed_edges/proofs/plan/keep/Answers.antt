use Rattle.std.specs.Prelude.{List, ℕ, [], ◌∷◌, ◌++◌}
use Rattle.std.proofs.Common.{ap, ◌∙◌}
use Rattle.grind_needed_edges.specs.Numbered.{pair_of}
use Rattle.grind_needed_edges.specs.Planning.{set_all}
use Rattle.grind_needed_edges.proofs.PlanLemmas.{Extends-keep, AreWays-keep, HasNumber-keep}
use Rattle.grind_needed_edges.proofs.plan.keep.Goals as goal

pub returns-clause-extends : goal.returns-clause-extends
returns-clause-extends c = λ bound below.
    Extends-keep c.args._edges.now c.args.plan.now
    (record { needed = c.set_needed.new.needed; pairs = c.put.new.self; ways = c.push.new.self }) c.args.a c.args.b c.args.places
    c.len-number.result (c.set_needed.ensures ∙ ap (λ (ps : List ℕ). set_all c.args.plan.now.needed ps) c.as_slice.ensures.value)
    c.in_ok-push.ensures.ok c.len-number.ensures.value c.in_ok-put.ensures.ok c.requires.within bound below

pub returns-clause-ways : goal.returns-clause-ways
returns-clause-ways c =
    AreWays-keep c.args._edges.now c.args.plan.now
    (record { needed = c.set_needed.new.needed; pairs = c.put.new.self; ways = c.push.new.self }) c.args.a c.args.b c.args.places
    c.len-number.result (c.set_needed.ensures ∙ ap (λ (ps : List ℕ). set_all c.args.plan.now.needed ps) c.as_slice.ensures.value)
    c.in_ok-push.ensures.ok c.len-number.ensures.value c.in_ok-put.ensures.ok c.requires.within c.requires.ways c.requires.first

pub returns-clause-has : goal.returns-clause-has
returns-clause-has c =
    HasNumber-keep c.args._edges.now c.args.plan.now
    (record { needed = c.set_needed.new.needed; pairs = c.put.new.self; ways = c.push.new.self }) c.args.a c.args.b c.args.places
    c.len-number.result (c.set_needed.ensures ∙ ap (λ (ps : List ℕ). set_all c.args.plan.now.needed ps) c.as_slice.ensures.value)
    c.in_ok-push.ensures.ok c.len-number.ensures.value c.in_ok-put.ensures.ok c.requires.within

pub returns-clause-kept : goal.returns-clause-kept
returns-clause-kept c = record {
  needed = c.set_needed.ensures ∙ ap (λ (ps : List ℕ). set_all c.args.plan.now.needed ps) c.as_slice.ensures.value;
  ways = c.in_ok-push.ensures.ok;
  pairs = c.in_ok-put.ensures.ok ∙ ap (λ (n : ℕ). c.args.plan.now.pairs ++ (pair_of c.args.a c.args.b, n) ∷ []) c.len-number.ensures.value;
}
