use Rattle.std.specs.Prelude.{◌≡◌, [], ◌++◌, Some, slice_get, set}
use Rattle.std.proofs.lemmas.List.{set-set}
use Rattle.std.proofs.lemmas.Option.{get_or_from_slice_get}
use Rattle.grind_classes.specs.Classes.{members_of}
use Rattle.grind_classes.proofs.UndoneLemmas.{put_back}
use Rattle.grind_classes.proofs.lists.append_to.Goals as goal

pub returns-in-Ok-clause-ok : goal.returns-in-Ok-clause-ok
returns-in-Ok-clause-ok c =
    let stood : slice_get c.args.lists.now c.args.root ≡ Some c.replace-members.result = rw c.number.ensures at c.replace-members.ensures.value in
    let members_are : members_of c.args.lists.now c.args.root ≡ c.replace-members.result =
    get_or_from_slice_get c.args.lists.now c.args.root c.replace-members.result [] stood in
    let lists_are : c.replace-members.new.self ≡ set c.args.lists.now c.args.root [] = rw (c.number.ensures, c.new.ensures) at c.replace-members.ensures.new in
    rw (c.set.ensures, c.number-in-Ok.ensures, lists_are, c.in-Ok.ensures.ok, members_are)
    (set-set c.args.lists.now c.args.root [] (c.replace-members.result ++ c.args.nodes.now))

pub returns-in-Err-clause-err : goal.returns-in-Err-clause-err
returns-in-Err-clause-err c =
    let stood : slice_get c.args.lists.now c.args.root ≡ Some c.replace-members.result = rw c.number.ensures at c.replace-members.ensures.value in
    let members_are : members_of c.args.lists.now c.args.root ≡ c.replace-members.result =
    get_or_from_slice_get c.args.lists.now c.args.root c.replace-members.result [] stood in
    let lists_are : c.replace-members.new.self ≡ set c.args.lists.now c.args.root [] = rw (c.number.ensures, c.new.ensures) at c.replace-members.ensures.new in
    rw (c.set-in-Err.ensures, c.number-in-Err.ensures, lists_are, c.in-Err.ensures.err)
    (put_back c.args.lists.now c.args.root c.replace-members.result members_are)
