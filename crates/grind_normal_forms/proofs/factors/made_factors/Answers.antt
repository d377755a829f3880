use Rattle.std.proofs.Common.{inr, ◌<◌, List, length, Ok, pos, rules, subst}
use Rattle.grind_polynomials.specs.declared.poly.Term.{Term}
use Rattle.grind_normal_forms.specs.Reduction.{Reduces, reduced_of}
use Rattle.grind_polynomials.proofs.Fits.{large-out}
use Rattle.grind_normal_forms.proofs.GatherLemmas.{has-some}
use Rattle.grind_normal_forms.proofs.factors.made_factors.Goals as goal

pub returns-then-content-gt170141183460469231731687303715884105727-clause-overflow :
    goal.returns-then-content-gt170141183460469231731687303715884105727-clause-overflow
returns-then-content-gt170141183460469231731687303715884105727-clause-overflow c =
    let some : 0 < length c.terms.result.now = search rules in λ e. inr (record {
      made = c.in_ok-made.made;
      content = c.content_of-content.result;
      made_is = subst (λ (basis : List (List Term)). Reduces basis (reduced_of (pos 1) c.args.p.now) (Ok c.in_ok-made.made))
          c.as_slice.ensures.value c.in_ok-made.ensures.ok;
      content_is = c.content_of-content.ensures.content;
      refused = inr (
        has-some c.in_ok-made.made.rest (subst (λ (terms : List Term). 0 < length terms) c.terms.ensures.value some),
        large-out c.content_of-content.result c.if-content-gt170141183460469231731687303715884105727.true,
      );
    })
