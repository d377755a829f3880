use Rattle.std.specs.Prelude.{◌≡◌, ◌<◌, All, length}
use Rattle.grind_classes.specs.Roots.{repointed}
use Rattle.grind_classes.proofs.roots.repoint.Given as goal

abbrev pub invariant-loop-n : goal.invariant-loop-n
invariant-loop-n l = record {
  whole : repointed l.roots l.rest l.root ≡ repointed l.fn.roots l.fn.nodes l.fn.root;
  within : All (λ n. n < length l.roots) l.rest;
  same : l.root ≡ l.fn.root;
}

abbrev pub decreases-loop-n : goal.decreases-loop-n
decreases-loop-n l = length l.rest
