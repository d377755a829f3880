use Rattle.grind_ematch.proofs.BucketLemmas.{bucket_found, bucket_absent}
use Rattle.grind_ematch.proofs.buckets.taken.Goals as goal

pub returns-in-Some-clause-value : goal.returns-in-Some-clause-value
returns-in-Some-clause-value c =
    bucket_found c.args.found.now.entries c.args.key.now c.in-Some.bucket c.swap_remove.result c.swap_remove.ensures.value c.in-Some.is

pub returns-in-Some-clause-taken : goal.returns-in-Some-clause-taken
returns-in-Some-clause-taken c = c.swap_remove.ensures.updates.0

pub returns-in-None-clause-value : goal.returns-in-None-clause-value
returns-in-None-clause-value c =
    bucket_absent c.args.found.now.entries c.args.key.now c.new.result c.swap_remove.result c.swap_remove.ensures.value c.in-None.is
    c.new.ensures

pub returns-in-None-clause-taken : goal.returns-in-None-clause-taken
returns-in-None-clause-taken c = c.swap_remove.ensures.updates.0
