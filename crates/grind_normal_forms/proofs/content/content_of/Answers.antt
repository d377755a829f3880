use Rattle.std.proofs.Common.{FitsSigned, arith, rules}
use Rattle.std.specs.Int.{w128}
use Rattle.std.proofs.lemmas.Int.{to_z-of_z}
use Rattle.grind_normal_forms.proofs.Divisors.{gcd-positive}
use Rattle.grind_normal_forms.proofs.ContentLemmas.{content_begin, content_step, content_end}
use Rattle.grind_normal_forms.proofs.content.content_of.Goals as goal

pub loop-term-init : goal.loop-term-init
loop-term-init c =
    let fits : FitsSigned w128 c.args.made.now.factor = search rules in
    let gcd = simp (to_z-of_z w128 c.args.made.now.factor fits) at c.common_divisor-all.ensures.divisor in record {
      divides = content_begin _ c.common_divisor-all.result c.args.made.now.rest c.terms-rest.result.now c.terms-rest.ensures.value gcd;
      positive = c.common_divisor-all.ensures.positive;
    }

pub loop-term-preserved : goal.loop-term-preserved
loop-term-preserved c =
    let fits : FitsSigned w128 c.in-Some.term.now.coefficient = search rules in
    let size = simp (to_z-of_z w128 c.in-Some.term.now.coefficient fits) at c.unsigned_abs.ensures.value in
    let some = c.loop-term.invariant.positive in record {
      divides = λ d. content_step _ c.loop-term.all c.unsigned_abs.result c.gcd-all.result c.args.made.now.rest c.loop-term.rest.now
          c.in-Some.term.now c.in-Some.tail.now c.in-Some.ensures.cases.0 size c.gcd-all.ensures d (c.loop-term.invariant.divides d);
      positive = gcd-positive c.loop-term.all c.unsigned_abs.result c.gcd-all.result c.gcd-all.ensures (λ e. omega arith);
    }

pub returns-clause-content : goal.returns-clause-content
returns-clause-content c =
    content_end c.args.made.now c.loop-term.all c.loop-term.rest.now c.in_default.ensures.cases c.loop-term.invariant.divides
