use Rattle.std.specs.Prelude.{◌≡◌, [], Some, slice_get, set}
use Rattle.std.proofs.Common.{sym, ◌∙◌}
use Rattle.std.proofs.lemmas.Option.{get_or_from_slice_get}
use Rattle.grind_classes.specs.Classes.{members_of}
use Rattle.grind_classes.proofs.UndoneLemmas.{put_back, appended}
use Rattle.grind_classes.proofs.lists.append_list.Goals as goal

pub returns-in-Ok-clause-ok : goal.returns-in-Ok-clause-ok
returns-in-Ok-clause-ok c =
    let stood : slice_get c.args.lists.now c.args.gone ≡ Some c.replace-moved.result = rw c.number.ensures at c.replace-moved.ensures.value in
    let members_are : members_of c.args.lists.now c.args.gone ≡ c.replace-moved.result =
    get_or_from_slice_get c.args.lists.now c.args.gone c.replace-moved.result [] stood in
    let lists_are : c.replace-moved.new.self ≡ set c.args.lists.now c.args.gone [] = rw (c.number.ensures, c.new.ensures) at c.replace-moved.ensures.new in
    rw (lists_are, c.as_slice.ensures.value) at c.in-Ok.ensures.ok
    ∙ appended c.args.lists.now c.args.kept c.args.gone c.replace-moved.result c.requires.differ members_are

pub returns-in-Ok-clause-moved : goal.returns-in-Ok-clause-moved
returns-in-Ok-clause-moved c =
    let stood : slice_get c.args.lists.now c.args.gone ≡ Some c.replace-moved.result = rw c.number.ensures at c.replace-moved.ensures.value in
    sym (get_or_from_slice_get c.args.lists.now c.args.gone c.replace-moved.result [] stood)

pub returns-in-Err-clause-err : goal.returns-in-Err-clause-err
returns-in-Err-clause-err c =
    let stood : slice_get c.args.lists.now c.args.gone ≡ Some c.replace-moved.result = rw c.number.ensures at c.replace-moved.ensures.value in
    let members_are : members_of c.args.lists.now c.args.gone ≡ c.replace-moved.result =
    get_or_from_slice_get c.args.lists.now c.args.gone c.replace-moved.result [] stood in
    let lists_are : c.append_to.new.lists ≡ set c.args.lists.now c.args.gone [] =
    c.in-Err.ensures.err ∙ (rw (c.number.ensures, c.new.ensures) at c.replace-moved.ensures.new) in
    rw (c.set.ensures, c.number-in-Err.ensures, lists_are) (put_back c.args.lists.now c.args.gone c.replace-moved.result members_are)
