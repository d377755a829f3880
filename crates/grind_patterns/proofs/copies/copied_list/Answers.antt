use Rattle.std.proofs.Common.{List, [], ◌∷◌, ◌++◌, subst, sym}
use Rattle.grind_schemes.specs.declared.scheme.Scheme.{Scheme}
use Rattle.grind_patterns.specs.Copies.{AreCopies}
use Rattle.grind_patterns.proofs.Along.{copied_more}
use Rattle.grind_patterns.proofs.CopyLemmas.{AreCopies-append}
use Rattle.grind_patterns.proofs.copies.copied_list.Goals as goal

pub loop-scheme-preserved : goal.loop-scheme-preserved
loop-scheme-preserved c =
    let k = c.loop-scheme.scheme-index in
    let all = c.args.schemes.now in
    let kept = c.loop-scheme.invariant in
    let item = c.scheme-item.result in (
      kept.0 ++ item ∷ [],
      subst (λ (copies : List Scheme). AreCopies copies (kept.0 ++ item ∷ [])) (sym c.in_ok-push.ensures.ok)
          (AreCopies-append c.loop-scheme.copies kept.0 (c.in_ok-copy.copy ∷ []) (item ∷ []) kept.1 (c.in_ok-copy.ensures, tt)),
      copied_more all kept.0 k item c.loop-scheme-test.true c.scheme-item.is kept.2,
    )
