use Rattle.std.proofs.Common.{◌≡◌, ◌⊎◌, inl, inr, ◌+◌, List, Option, None, Ok, Err, IsErrOf, MatchOption, pos, arith, rules, sym, subst}
use Rattle.std.specs.Prelude.{⊤}
use Rattle.grind_polynomials.specs.declared.poly.Term.{Term}
use Rattle.grind_polynomials.specs.declared.poly.PolyRefusal.TheVariants.{Overflow}
use Rattle.grind_normal_forms.specs.declared.factors.Gathered.{Gathered}
use Rattle.grind_normal_forms.specs.Reduction.{Reduces, step, overflow, target, reduced_of}
use Rattle.grind_normal_forms.specs.Gathering.{Gathers, ended, moved, spilt, StepsWith, no_factors}
use Rattle.grind_normal_forms.specs.Ranks.{AreLow, Descends, above_terms, above_basis}
use Rattle.grind_normal_forms.proofs.RankLemmas.{low-terms, low-basis}
use Rattle.grind_normal_forms.proofs.factors.gather.Goals as goal

pub loop-now-init : goal.loop-now-init
loop-now-init c = record {
  leads = λ answer h. subst (λ (rest : List Term). Reduces c.args.basis.now (reduced_of (pos 1) rest) answer) c.in_ok-rest.ensures h;
  gathers = λ answer h. subst (λ (rest : List Term). Gathers c.args.basis.now c.args.minus (reduced_of (pos 1) rest) (no_factors c.args.basis.now) answer)
      c.in_ok-rest.ensures
      (subst (λ (list : List (List Term)). Gathers c.args.basis.now c.args.minus (reduced_of (pos 1) c.in_ok-rest.rest) list answer) c.in_ok-list.ensures h);
  low = subst (AreLow (above_terms c.args.p.now + above_basis c.args.basis.now)) (sym c.in_ok-rest.ensures) (low-terms (above_terms c.args.p.now + above_basis c.args.basis.now) c.args.p.now (omega arith));
}

pub returns-in_err-next-clause-overflow : goal.returns-in_err-next-clause-overflow
returns-in_err-next-clause-overflow c =
    let leads : IsErrOf c.gather_step.result Overflow → Reduces c.args.basis.now (reduced_of (pos 1) c.args.p.now) (Err Overflow)
    ⊎ Gathers c.args.basis.now c.args.minus (reduced_of (pos 1) c.args.p.now) (no_factors c.args.basis.now) (Err Overflow) = λ e.
    elim (c.gather_step.ensures.overflow e) [
      | inl breaks ↦ inl (c.loop-now.invariant.leads (Err Overflow) (overflow breaks))
      | inr spills ↦ inr (c.loop-now.invariant.gathers (Err Overflow) (spilt spills))
    ] in search rules

pub loop-now-smaller : goal.loop-now-smaller
loop-now-smaller c =
    let descends = subst (λ (answer : Option Gathered). MatchOption answer ⊤ (λ next. Descends c.args.basis.now c.loop-now.now.state.rest next.state.rest))
    c.in-Some.is c.in_ok-next.ensures.descends in
    descends.less (above_terms c.args.p.now + above_basis c.args.basis.now) (low-basis (above_terms c.args.p.now + above_basis c.args.basis.now) c.args.basis.now (omega arith)) c.loop-now.invariant.low

pub loop-now-preserved : goal.loop-now-preserved
loop-now-preserved c =
    let descends = subst (λ (answer : Option Gathered). MatchOption answer ⊤ (λ next. Descends c.args.basis.now c.loop-now.now.state.rest next.state.rest))
    c.in-Some.is c.in_ok-next.ensures.descends in
    let steps = subst (λ (answer : Option Gathered). MatchOption answer (target c.args.basis.now c.loop-now.now.state.rest ≡ None)
    (λ next. StepsWith c.args.minus c.args.basis.now c.loop-now.now.state c.loop-now.now.list next.state next.list)) c.in-Some.is c.in_ok-next.ensures.ok in record {
      leads = λ answer h. c.loop-now.invariant.leads answer (step steps.steps h);
      gathers = λ answer h. c.loop-now.invariant.gathers answer (moved steps h);
      low = descends.low (above_terms c.args.p.now + above_basis c.args.basis.now) (low-basis (above_terms c.args.p.now + above_basis c.args.basis.now) c.args.basis.now (omega arith)) c.loop-now.invariant.low;
    }

pub returns-clause-ok : goal.returns-clause-ok
returns-clause-ok c =
    let none = subst (λ (answer : Option Gathered). MatchOption answer (target c.args.basis.now c.loop-now.now.state.rest ≡ None)
    (λ next. StepsWith c.args.minus c.args.basis.now c.loop-now.now.state c.loop-now.now.list next.state next.list)) c.in_default.is c.in_ok-next.ensures.ok in
    c.loop-now.invariant.gathers (Ok c.loop-now.now.list) (ended none)
