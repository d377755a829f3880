use Rattle.std.proofs.Common.{◌≡◌, ◌<◌, ℕ, true, length, slice_set, arith, ap, ◌∙◌}
use Rattle.grind_cutsat_assignment.proofs.AtomLemmas.{adds_nothing, adds_one}
use Rattle.grind_cutsat_assignment.proofs.atoms.mark.Goals as goal

pub returns-then-place-len : goal.returns-then-place-len
returns-then-place-len c =
    adds_nothing c.args.marks.now (λ n. n ≡ c.args.node)
    (λ n less same. omega (arith, less, same, c.number-place.ensures, c.len.ensures.value))

pub returns : goal.returns
returns c =
    let within : c.args.node < length c.args.marks.now = omega (arith, c.number-place.ensures, c.len.ensures.value) in
    adds_one c.args.marks.now c.set.new.self c.args.node within
    (c.set.ensures ∙ ap (λ (n : ℕ). slice_set c.args.marks.now n true) c.number-place.ensures)
