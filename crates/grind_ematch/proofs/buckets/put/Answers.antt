use Rattle.std.proofs.Common.{ap, ◌∙◌}
use Rattle.grind_ematch.specs.Buckets.{Key, key_at}
use Rattle.grind_ematch.proofs.BucketLemmas.{puts_by}
use Rattle.grind_ematch.proofs.buckets.put.Goals as goal

pub returns : goal.returns
returns c =
    puts_by c.args.variables.now c.args.found.now.entries c.taken-bucket.new.found.entries c.insert.new.self.entries c.in_ok-key.key
    c.taken-bucket.result c.push.new.self c.args.partial
    (c.in_ok-key.ensures ∙ ap (λ (s : Key). key_at s c.args.variables.now) c.as_slice.ensures.value)
    c.taken-bucket.ensures.value c.taken-bucket.ensures.taken c.in_ok-push.ensures.ok c.in_ok-insert.ensures.updates.0
