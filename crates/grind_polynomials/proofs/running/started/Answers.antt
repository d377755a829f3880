use Rattle.std.proofs.Common.{FitsSigned, rules}
use Rattle.std.specs.Int.{w128}
use Rattle.std.proofs.lemmas.Int.{to_z-of_z}
use Rattle.grind_polynomials.specs.declared.keys.Key.{Key}
use Rattle.grind_polynomials.proofs.RunningLemmas.{started_step}
use Rattle.grind_polynomials.proofs.running.started.Goals as goal

pub loop-x-preserved : goal.loop-x-preserved
loop-x-preserved c =
    let key : Key = record { monomial = c.in_ok-term.term.monomial } in
    let fits : FitsSigned w128 c.in_ok-term.term.coefficient = search rules in
    let entries = simp (to_z-of_z w128 c.in_ok-term.term.coefficient fits) at c.in_ok-insert.ensures.entries in
    started_step key c.in_ok-term.term.coefficient c.loop-x.sum.entries c.insert.new.self.entries c.in-Some.x.now c.loop-x.rest.now c.in-Some.tail.now c.args.terms.now
    c.in-Some.ensures.cases.0 c.in_ok-term.ensures c.requires entries c.loop-x.invariant
