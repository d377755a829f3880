use Rattle.std.proofs.Common.{◌+◌, ap, ◌∙◌, ℕ}
use Rattle.grind_proof_kernel.proofs.layout.layout_of.Goals as goal

pub returns : goal.returns
returns c = record {
  count = c.in_ok-spans.ensures.count ∙ ap (λ (n : ℕ). n + 1) c.len-count.ensures.value;
  spans = rw c.as_slice.ensures.value at c.in_ok-spans.ensures.spans;
  pair_count = c.in_ok-pairs.ensures.count ∙ ap (λ (n : ℕ). n + 1) c.len-count.ensures.value;
  pairs = rw c.as_slice-2.ensures.value at c.in_ok-pairs.ensures.pairs;
}
