use Rattle.std.proofs.Common.{List, ℤ, sym, ◌∙◌, subst}
use Rattle.std.specs.Int.{w128}
use Rattle.std.proofs.lemmas.Bool.{false≢true}
use Rattle.std.proofs.lemmas.Int.{to_z-of_z}
use Rattle.grind_linear_forms.specs.declared.form.Part.{Part}
use Rattle.grind_cutsat_units.specs.Cuts.{IsDivisor}
use Rattle.grind_cutsat_cuts.specs.Cutting.{IsNewCut}
use Rattle.grind_cutsat_cuts.specs.Divisors.{NoFittingDivisor}
use Rattle.grind_cutsat_cuts.proofs.CutLemmas.{covered_cut, no_cut_without}
use Rattle.grind_cutsat_cuts.proofs.combining.new_cut.Goals as goal

pub returns-in_default : goal.returns-in_default
returns-in_default c =
    no_cut_without c.args.facts.now c.args.sum.now (subst NoFittingDivisor c.parts.ensures.value c.in_default.ensures)

pub divided-requires : goal.divided-requires
divided-requires c =
    let is : IsDivisor c.args.sum.now.parts c.in-Some.divisor =
    subst (λ (parts : List Part). IsDivisor parts c.in-Some.divisor) c.parts.ensures.value c.in-Some.ensures.0 in record {
      positive = simp (to_z-of_z w128 c.in-Some.divisor c.in-Some.ensures.1) is.positive;
      divides = simp (to_z-of_z w128 c.in-Some.divisor c.in-Some.ensures.1) is.divides;
    }

pub returns-then-covers : goal.returns-then-covers
returns-then-covers c =
    let cut = simp (to_z-of_z w128 c.in-Some.divisor c.in-Some.ensures.1) at c.in_ok-form.ensures in
    covered_cut c.one_cut.ensures c.args.facts.now c.args.sum.now c.in-Some.divisor c.in_ok-form.form
    (subst (λ (parts : List Part). IsDivisor parts c.in-Some.divisor) c.parts.ensures.value c.in-Some.ensures.0) cut
    (c.covers.ensures.0 c.if-covers.true)

pub returns : goal.returns
returns c =
    let cut = simp (to_z-of_z w128 c.in-Some.divisor c.in-Some.ensures.1) at c.in_ok-form.ensures in
    let it : IsNewCut c.args.facts.now c.args.sum.now c.in-Some.divisor c.in_ok-form.form = record {
      divisor = subst (λ (parts : List Part). IsDivisor parts c.in-Some.divisor) c.parts.ensures.value c.in-Some.ensures.0;
      fits = c.in-Some.ensures.1;
      cut_is = cut;
      new = λ covered. false≢true (sym c.if-covers.false ∙ c.covers.ensures.1 covered);
    } in
    subst (λ (z : ℤ). IsNewCut c.args.facts.now c.args.sum.now z c.in_ok-form.form)
    (sym (to_z-of_z w128 c.in-Some.divisor c.in-Some.ensures.1)) it
