use Rattle.std.proofs.Common.{◌≡◌, ◌≢◌, ◌+◌, List, Option, None, Ok, Err, IsErrOf, MatchOption, pos, arith, rules, sym, subst}
use Rattle.std.specs.Prelude.{⊤}
use Rattle.grind_polynomials.specs.declared.poly.Term.{Term}
use Rattle.grind_polynomials.specs.declared.poly.PolyRefusal.TheVariants.{Overflow}
use Rattle.grind_normal_forms.specs.declared.reduction.Reduced.{Reduced}
use Rattle.grind_normal_forms.specs.Reduction.{Reduces, irreducible, step, overflow, Steps, target, reduced_of}
use Rattle.grind_normal_forms.specs.Ranks.{AreLow, Descends, above_terms, above_basis}
use Rattle.grind_normal_forms.proofs.RankLemmas.{low-terms, low-basis}
use Rattle.grind_normal_forms.proofs.reduction.reduce.Goals as goal

pub loop-state-init : goal.loop-state-init
loop-state-init c = record {
  leads = λ answer h. subst (λ (rest : List Term). Reduces c.args.basis.now (reduced_of (pos 1) rest) answer) c.in_ok-rest.ensures h;
  nonzero = λ e. absurd cc;
  low = subst (AreLow (above_terms c.args.p.now + above_basis c.args.basis.now)) (sym c.in_ok-rest.ensures)
      (low-terms (above_terms c.args.p.now + above_basis c.args.basis.now) c.args.p.now (omega arith));
}

pub returns-in_err-next-clause-overflow : goal.returns-in_err-next-clause-overflow
returns-in_err-next-clause-overflow c =
    let leads : IsErrOf c.step.result Overflow → Reduces c.args.basis.now (reduced_of (pos 1) c.args.p.now) (Err Overflow) = λ e.
    c.loop-state.invariant.leads (Err Overflow) (overflow (c.step.ensures.overflow e)) in search rules

pub loop-state-smaller : goal.loop-state-smaller
loop-state-smaller c =
    let descends = subst (λ (answer : Option Reduced). MatchOption answer ⊤ (λ next. Descends c.args.basis.now c.loop-state.state.rest next.rest))
    c.in-Some.is c.in_ok-next.ensures.descends in
    descends.less (above_terms c.args.p.now + above_basis c.args.basis.now)
    (low-basis (above_terms c.args.p.now + above_basis c.args.basis.now) c.args.basis.now (omega arith)) c.loop-state.invariant.low

pub loop-state-preserved : goal.loop-state-preserved
loop-state-preserved c =
    let descends = subst (λ (answer : Option Reduced). MatchOption answer ⊤ (λ next. Descends c.args.basis.now c.loop-state.state.rest next.rest))
    c.in-Some.is c.in_ok-next.ensures.descends in
    let steps = subst (λ (answer : Option Reduced). MatchOption answer (target c.args.basis.now c.loop-state.state.rest ≡ None)
    (λ next. Steps c.args.basis.now c.loop-state.state next)) c.in-Some.is c.in_ok-next.ensures.ok in
    let some = subst (λ (answer : Option Reduced). MatchOption answer ⊤ (λ next. c.loop-state.state.factor ≢ pos 0 → next.factor ≢ pos 0))
    c.in-Some.is c.in_ok-next.ensures.nonzero in record {
      nonzero = some c.loop-state.invariant.nonzero;
      leads = λ answer h. c.loop-state.invariant.leads answer (step steps h);
      low = descends.low (above_terms c.args.p.now + above_basis c.args.basis.now)
          (low-basis (above_terms c.args.p.now + above_basis c.args.basis.now) c.args.basis.now (omega arith)) c.loop-state.invariant.low;
    }

pub returns-clause-ok : goal.returns-clause-ok
returns-clause-ok c =
    let none = subst (λ (answer : Option Reduced). MatchOption answer (target c.args.basis.now c.loop-state.state.rest ≡ None)
    (λ next. Steps c.args.basis.now c.loop-state.state next)) c.in_default.is c.in_ok-next.ensures.ok in
    c.loop-state.invariant.leads (Ok c.loop-state.state) (irreducible none)
