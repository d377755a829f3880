use Rattle.std.proofs.Common.{List, subst}
use Rattle.grind_ematch.specs.declared.partial.Partial.{Partial}
use Rattle.grind_ematch.specs.Partials.{JoinsOne}
use Rattle.grind_ematch.proofs.JoinLemmas.{JoinsOne-first}
use Rattle.grind_ematch.proofs.BucketLemmas.{JoinsOne-found, JoinsOne-absent}
use Rattle.grind_ematch.proofs.joining.join_bucket.Goals as goal

pub returns-in_default : goal.returns-in_default
returns-in_default c =
    JoinsOne-absent c.args.one.now c.args.sorted.now.entries c.args.key.now c.args.found.now c.in_default.ensures.value
    (JoinsOne-first c.args.one.now c.args.found.now)

pub returns : goal.returns
returns c =
    let here = subst (λ (list : List Partial). JoinsOne c.args.one.now list c.args.found.now c.join_one.new.found)
    c.as_slice.ensures.value c.in_ok-join_one.ensures in
    JoinsOne-found c.args.one.now c.args.sorted.now.entries c.args.key.now c.in-Some.bucket.now c.args.found.now
    c.join_one.new.found c.in-Some.ensures.value here
