use Rattle.std.proofs.Common.{sym, subst}
use Rattle.grind_normal_forms.specs.FinalFactors.{ArePolys}
use Rattle.grind_normal_forms.proofs.FinalLists.{no-polys}
use Rattle.grind_normal_forms.proofs.factors.are_polys.Goals as goal

pub loop-b-preserved : goal.loop-b-preserved
loop-b-preserved c = λ later.
    c.loop-b.invariant (subst ArePolys (sym c.in-Some.ensures.cases.0) (c.terms-terms.ensures.keeps, later))

pub returns : goal.returns
returns c = c.loop-b.invariant (no-polys c.loop-b.rest.now c.in_default.ensures.cases)
