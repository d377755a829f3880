use Rattle.std.proofs.Common.{FitsSigned, List, rules, sym, ◌∙◌, subst}
use Rattle.std.specs.Int.{w128}
use Rattle.std.proofs.lemmas.Bool.{false≢true}
use Rattle.std.proofs.lemmas.Int.{to_z-of_z}
use Rattle.std.proofs.lemmas.List.Elements.{All-cons, All-head, All-tail}
use Rattle.grind_linear_forms.specs.declared.form.Part.{Part}
use Rattle.grind_linear_forms.specs.Cuts.{Divides, DividesAll}
use Rattle.grind_linear_forms.proofs.CutLemmas.{divides_none}
use Rattle.grind_linear_forms.proofs.cutting.divides_parts.Goals as goal

pub returns-then-not-is_multiple : goal.returns-then-not-is_multiple
returns-then-not-is_multiple c =
    let back = to_z-of_z w128 c.args.g c.ranges.g in
    let fits : FitsSigned w128 c.in-Some.part.now.coefficient = search rules in
    let tested = simp (back, to_z-of_z w128 c.in-Some.part.now.coefficient fits) at c.is_multiple.ensures in
    let so_far = simp back at c.loop-part.invariant in (
      λ e. absurd (false≢true e),
      λ all.
          let rest = subst (λ (parts : List Part). DividesAll c.args.g parts) c.in-Some.ensures.cases.0 (so_far.1 all) in
          let first = All-head (Divides c.args.g) c.in-Some.part.now c.in-Some.tail.now rest in
          sym c.if-not-is_multiple.true ∙ tested.1 first,
    )

pub loop-part-preserved : goal.loop-part-preserved
loop-part-preserved c =
    let back = to_z-of_z w128 c.args.g c.ranges.g in
    let fits : FitsSigned w128 c.in-Some.part.now.coefficient = search rules in
    let tested = simp (back, to_z-of_z w128 c.in-Some.part.now.coefficient fits) at c.is_multiple.ensures in
    let so_far = simp back at c.loop-part.invariant in
    let first = tested.0 c.if-not-is_multiple.false in
    simp back (
      λ rest. so_far.0 (subst (λ (parts : List Part). DividesAll c.args.g parts) (sym c.in-Some.ensures.cases.0)
          (All-cons (Divides c.args.g) c.in-Some.part.now c.in-Some.tail.now first rest)),
      λ all. All-tail (Divides c.args.g) c.in-Some.part.now c.in-Some.tail.now
          (subst (λ (parts : List Part). DividesAll c.args.g parts) c.in-Some.ensures.cases.0 (so_far.1 all)),
    )

pub returns : goal.returns
returns c =
    let back = to_z-of_z w128 c.args.g c.ranges.g in
    let so_far = simp back at c.loop-part.invariant in
    (λ e. so_far.0 (divides_none c.args.g c.loop-part.rest.now c.in_default.ensures.cases), λ all. search rules)
