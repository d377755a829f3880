use Rattle.std.proofs.Common.{◌≡◌, Some, slice_get, arith, refl, ap, sym, ◌∙◌, List}
use Rattle.grind_proof_kernel.specs.declared.spans.Span.{Span}
use Rattle.grind_proof_kernel.proofs.LayoutLemmas.{noted_here, noted_nowhere}
use Rattle.grind_proof_kernel.proofs.spans.note.Goals as goal

pub returns-then-branch-len-clause-spans : goal.returns-then-branch-len-clause-spans
returns-then-branch-len-clause-spans c =
    let read : slice_get c.args.spans.now c.args.line.now.branch ≡ Some c.span_at-span.result =
    ap (λ (spans : List Span). slice_get spans c.args.line.now.branch) (sym c.as_slice.ensures.value) ∙ c.span_at-span.ensures in
    noted_here c.args.line.now c.args.spans.now c.set.new.self c.args.line.now.branch c.args.i c.span_at-span.result c.with_line-next.result
    c.is_absurd.result (omega arith) refl read c.set.ensures c.with_line-next.ensures.begin c.with_line-next.ensures.end
    c.with_line-next.ensures.closed c.is_absurd.ensures

pub returns-else-branch-len-clause-spans : goal.returns-else-branch-len-clause-spans
returns-else-branch-len-clause-spans c = noted_nowhere c.args.line.now c.args.spans.now c.args.i (omega arith)
