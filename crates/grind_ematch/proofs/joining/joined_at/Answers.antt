use Rattle.std.proofs.Common.{◌≡◌, [], List, take, sym, ap, ◌∙◌, subst}
use Rattle.grind_ematch.specs.declared.partial.Partial.{Partial}
use Rattle.grind_ematch.specs.Buckets.{Key, key_at, bucket_at}
use Rattle.grind_ematch.specs.Partials.{Joins, JoinsOne}
use Rattle.grind_ematch.proofs.Along.{item_in, take_next, take_whole}
use Rattle.grind_ematch.proofs.JoinLemmas.{Joins-first, Joins-next}
use Rattle.grind_ematch.proofs.BucketLemmas.{JoinsOne-bucket}
use Rattle.grind_ematch.proofs.joining.joined_at.Goals as goal

pub loop-one-init : goal.loop-one-init
loop-one-init c =
    subst (λ (list : List Partial). Joins [] c.args.right list) (sym c.new-found.ensures) (Joins-first c.args.right)

pub loop-one-preserved : goal.loop-one-preserved
loop-one-preserved c =
    let k = c.loop-one.one-index in
    let item = c.one-item.result in
    let there = item_in c.args.left.now k item c.loop-one-test.true c.one-item.is in
    let key_is : c.in_ok-key.key ≡ key_at item.slots c.args.variables.now =
    c.in_ok-key.ensures ∙ ap (λ (s : Key). key_at s c.args.variables.now) c.as_slice.ensures.value in
    let joins = subst (λ (key : Key). JoinsOne item (bucket_at c.in_ok-sorted.sorted.entries key) c.loop-one.found c.join_bucket.new.found)
    key_is c.in_ok-join_bucket.ensures in
    let one = JoinsOne-bucket c.args.variables.now item c.args.right c.in_ok-sorted.sorted.entries c.loop-one.found
    c.join_bucket.new.found c.in_ok-sorted.ensures (λ variable v. c.requires.left variable v item there) c.requires.right joins in
    subst (λ (list : List Partial). Joins list c.args.right c.join_bucket.new.found)
    (sym (take_next c.args.left.now k item c.loop-one-test.true c.one-item.is))
    (Joins-next (take k c.args.left.now) c.args.right c.loop-one.found c.join_bucket.new.found item c.loop-one.invariant one)

pub returns : goal.returns
returns c =
    subst (λ (list : List Partial). Joins list c.args.right c.loop-one.found)
    (take_whole c.args.left.now c.loop-one.one-index c.loop-one-test.false) c.loop-one.invariant
