use Rattle.std.proofs.Common.{◌++◌, FitsSigned, List, rules, ap, subst}
use Rattle.std.specs.Int.{w128}
use Rattle.std.proofs.lemmas.Int.{to_z-of_z}
use Rattle.std.proofs.lemmas.List.Elements.{All-head, All-tail}
use Rattle.grind_linear_forms.specs.declared.form.Part.{Part}
use Rattle.grind_linear_forms.specs.Cuts.{times, Divides, DividesAll}
use Rattle.grind_linear_forms.proofs.CutLemmas.{divided_step}
use Rattle.grind_linear_forms.proofs.cutting.divided.Goals as goal

pub loop-part-init : goal.loop-part-init
loop-part-init c =
    let back = to_z-of_z w128 c.args.g c.ranges.g in
    record {
      whole = simp back (ap (λ (parts : List Part). times c.args.g parts ++ c.args.parts.now) c.new-quotients.ensures);
      divides = simp back c.requires.divides;
    }

pub quotient-coefficient-requires-clause-multiple : goal.quotient-coefficient-requires-clause-multiple
quotient-coefficient-requires-clause-multiple c =
    let back = to_z-of_z w128 c.args.g c.ranges.g in
    let fits : FitsSigned w128 c.in-Some.part.now.coefficient = search rules in
    let all = simp back at c.loop-part.invariant.divides in
    simp (back, to_z-of_z w128 c.in-Some.part.now.coefficient fits)
    (All-head (Divides c.args.g) c.in-Some.part.now c.in-Some.tail.now (subst (DividesAll c.args.g) c.in-Some.ensures.cases.0 all))

pub loop-part-preserved : goal.loop-part-preserved
loop-part-preserved c =
    let back = to_z-of_z w128 c.args.g c.ranges.g in
    let fits : FitsSigned w128 c.in-Some.part.now.coefficient = search rules in
    let made = simp (back, to_z-of_z w128 c.in-Some.part.now.coefficient fits) at c.quotient-coefficient.ensures in
    let quotient_fits : FitsSigned w128 c.quotient-coefficient.result = search rules in
    let pushed = simp (to_z-of_z w128 c.quotient-coefficient.result quotient_fits) at c.in_ok-push.ensures.ok in
    let all = simp back at c.loop-part.invariant.divides in
    let whole = simp back at c.loop-part.invariant.whole in
    record {
      whole = simp back
          (divided_step c.args.g c.args.parts.now c.loop-part.quotients c.push.new.self c.loop-part.rest.now c.in-Some.tail.now c.in-Some.part.now
          c.quotient-coefficient.result c.in-Some.ensures.cases.0 made pushed whole);
      divides = simp back
          (All-tail (Divides c.args.g) c.in-Some.part.now c.in-Some.tail.now (subst (DividesAll c.args.g) c.in-Some.ensures.cases.0 all));
    }
