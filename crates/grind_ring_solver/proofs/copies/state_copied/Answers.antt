use Rattle.std.proofs.Common.{◌++◌, ◌∙◌}
use Rattle.grind_ring_solver.proofs.copies.state_copied.Goals as goal

pub returns : goal.returns
returns c =
    let equalities = c.in_ok-extend.ensures.ok ∙ (λ i. c.new-equalities.ensures i ++ c.as_slice.ensures.value i) in
    let taken = c.in_ok-taken.ensures ∙ c.as_slice-2.ensures.value in
    let own = c.in_ok-own.ensures ∙ c.as_slice-3.ensures.value in
    λ i. record {
      limit = c.args.state.now.limit;
      made = c.args.state.now.made;
      equalities = equalities i;
      taken = taken i;
      own = own i;
      basis = c.in_ok-basis.ensures i;
    }
