use Rattle.std.specs.Prelude.{◌≡◌, ◌-◌, [], Some, length, slice_get, set, take}
use Rattle.std.proofs.lemmas.Option.{get_or_from_slice_get}
use Rattle.grind_classes.specs.Classes.{members_of}
use Rattle.grind_classes.proofs.UndoneLemmas.{apart}
use Rattle.grind_classes.proofs.lists.put_apart.Goals as goal

pub returns : goal.returns
returns c =
    let lists_are : c.replace-blank.new.self ≡ set c.args.lists.now c.args.gone c.args.moved = rw c.number.ensures at c.replace-blank.ensures.new in
    let stood : slice_get (set c.args.lists.now c.args.gone c.args.moved) c.args.kept ≡ Some c.replace-both.result =
    rw (c.number-2.ensures, lists_are) at c.replace-both.ensures.value in
    let both_are : members_of (set c.args.lists.now c.args.gone c.args.moved) c.args.kept ≡ c.replace-both.result =
    get_or_from_slice_get (set c.args.lists.now c.args.gone c.args.moved) c.args.kept c.replace-both.result [] stood in
    let blank_lists : c.replace-both.new.self ≡ set (set c.args.lists.now c.args.gone c.args.moved) c.args.kept c.replace-blank.result =
    rw (c.number-2.ensures, lists_are) at c.replace-both.ensures.new in
    let left : c.truncate.new.self ≡ take (length c.replace-both.result - length c.args.moved) c.replace-both.result =
    rw (c.len.ensures.value, c.len-count.ensures.value) at c.truncate.ensures in
    rw (c.set.ensures, c.number-3.ensures, blank_lists, left)
    (apart c.args.lists.now c.args.kept c.args.gone c.args.moved c.replace-blank.result c.replace-both.result c.requires.differ both_are)
