use Rattle.std.proofs.Common.{List, sym, ◌∙◌, subst}
use Rattle.std.specs.Int.{w128}
use Rattle.std.proofs.lemmas.Int.{to_z-of_z}
use Rattle.grind_linear_forms.specs.declared.form.Part.{Part}
use Rattle.grind_linear_forms.specs.Forms.{RisesFrom}
use Rattle.grind_linear_forms.specs.Cuts.{DividesAll}
use Rattle.grind_linear_forms.proofs.Rising.{rises-times}
use Rattle.grind_linear_forms.proofs.cutting.cut.Goals as goal

pub divided-requires-clause-divides : goal.divided-requires-clause-divides
divided-requires-clause-divides c =
    let back = to_z-of_z w128 c.args.g c.ranges.g in
    simp back (subst (λ (parts : List Part). DividesAll c.args.g parts) (sym c.parts.ensures.value) c.requires.divides)

pub invariant_of-result : goal.invariant_of-result
invariant_of-result c =
    let back = to_z-of_z w128 c.args.g c.ranges.g in
    let made = simp back at c.in_ok-parts.ensures in
    rises-times c.args.g 0 c.in_ok-parts.parts (subst (RisesFrom 0) (sym c.parts.ensures.value ∙ made) c.parts.ensures.keeps)
