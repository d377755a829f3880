use Rattle.std.proofs.Common.{List, ◌↔◌, IsTrue, subst}
use Rattle.std.specs.Int.{w128}
use Rattle.std.proofs.lemmas.Int.{to_z-of_z}
use Rattle.grind_linear_forms.specs.declared.form.Part.{Part}
use Rattle.grind_linear_forms.specs.Cuts.{DividesAll}
use Rattle.grind_linear_forms.proofs.cutting.divides.Goals as goal

pub returns : goal.returns
returns c =
    let tested = simp (to_z-of_z w128 c.args.g c.ranges.g) at c.divides_parts.ensures in
    subst (λ (parts : List Part). IsTrue c.divides_parts.result ↔ DividesAll c.args.g parts) c.parts.ensures.value tested
