use Rattle.std.proofs.Common.{List, [], ◌∷◌, ◌++◌, subst, sym}
use Rattle.grind_schemes.specs.declared.scheme.Scheme.{Scheme}
use Rattle.grind_patterns.specs.Copies.{AreCopies}
use Rattle.grind_patterns.proofs.Along.{copied_more}
use Rattle.grind_patterns.proofs.CopyLemmas.{IsCopy-Apply, AreCopies-append}
use Rattle.grind_patterns.proofs.copies.+copying.Goals as goal

pub copied-returns-in-Ok : goal.copied-returns-in-Ok
copied-returns-in-Ok t c =
    IsCopy-Apply c.in-Apply.head c.in-Apply.sort c.in-Ok.args c.in-Apply.args c.args.scheme.now c.deref.result.now
    c.in-Apply.is c.deref.ensures.value c.in-Ok.ensures

pub copied_each-loop-scheme-preserved : goal.copied_each-loop-scheme-preserved
copied_each-loop-scheme-preserved t c =
    let k = c.loop-scheme.scheme-index in
    let all = c.args.schemes.now in
    let kept = c.loop-scheme.invariant in
    let item = c.scheme-item.result in (
      kept.0 ++ item ∷ [],
      subst (λ (copies : List Scheme). AreCopies copies (kept.0 ++ item ∷ [])) (sym c.in_ok-pushed.ensures)
          (AreCopies-append c.loop-scheme.copies.items kept.0 (c.in_ok-copy.copy ∷ []) (item ∷ []) kept.1 (c.in_ok-copy.ensures, tt)),
      copied_more all kept.0 k item c.loop-scheme-test.true c.scheme-item.is kept.2,
    )
