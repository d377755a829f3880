use Rattle.std.proofs.Common.{◌≡◌, Some, slice_get, arith, ap, sym, ◌∙◌, List, ℕ}
use Rattle.grind_proof_kernel.proofs.PairLemmas.{noted_at, noted_nowhere_else}
use Rattle.grind_proof_kernel.proofs.pairs.note_pair.Goals as goal

pub returns-then-branch-len-clause-pairs : goal.returns-then-branch-len-clause-pairs
returns-then-branch-len-clause-pairs c =
    let read : slice_get c.args.pairs.now c.args.parent ≡ Some c.pair_at-first.result =
    ap (λ (firsts : List ℕ). slice_get firsts c.args.parent) (sym c.as_slice.ensures.value) ∙ c.pair_at-first.ensures in
    noted_at c.args.pairs.now c.set.new.self c.args.pair c.args.parent c.pair_at-first.result c.min.result (omega arith) read c.min.ensures
    c.set.ensures

pub returns-else-branch-len-clause-pairs : goal.returns-else-branch-len-clause-pairs
returns-else-branch-len-clause-pairs c = noted_nowhere_else c.args.pairs.now c.args.pair c.args.parent (omega arith)
