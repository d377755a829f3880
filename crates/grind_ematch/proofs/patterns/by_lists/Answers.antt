use Rattle.std.proofs.Common.{[], List, take, sym, subst}
use Rattle.grind_schemes.specs.declared.scheme.Scheme.{Scheme}
use Rattle.grind_schemes.specs.Theorems.{HoldsEach}
use Rattle.grind_ematch.specs.declared.partial.Partial.{Partial}
use Rattle.grind_ematch.specs.Partials.{ListsAll, ListsAllOfOne, MeetAllOfOne, IsVarOfQuery}
use Rattle.grind_ematch.proofs.Along.{at_item, take_next, take_whole}
use Rattle.grind_ematch.proofs.Algebra.{Represents-thin}
use Rattle.grind_ematch.proofs.ListLemmas.{lists_first, lists_next}
use Rattle.grind_ematch.proofs.patterns.by_lists.Goals as goal

pub loop-patterns-init : goal.loop-patterns-init
loop-patterns-init c =
    subst (λ (list : List Partial). ListsAllOfOne c.args.query.now [] list) (sym c.new-found.ensures) (lists_first c.args.query.now)

pub loop-patterns-preserved : goal.loop-patterns-preserved
loop-patterns-preserved c =
    let query = c.args.query.now in
    let k = c.loop-patterns.patterns-index in
    let item = c.patterns-item.result in
    let holds = at_item (HoldsEach query.vars) c.args.lists.now k item c.requires.variables c.loop-patterns-test.true c.patterns-item.is in
    let own = subst (λ (xs : List Scheme). ListsAll query xs c.in_ok-list.list) c.as_slice.ensures.value c.in_ok-list.ensures in
    subst (λ (xs : List (List Scheme)). ListsAllOfOne query xs c.append.new.found)
    (sym (take_next c.args.lists.now k item c.loop-patterns-test.true c.patterns-item.is))
    (lists_next query (take k c.args.lists.now) item c.loop-patterns.found c.in_ok-list.list c.append.new.found holds own
    c.in_ok-append.ensures c.loop-patterns.invariant)

pub returns : goal.returns
returns c =
    let query = c.args.query.now in
    let whole = subst (λ (xs : List (List Scheme)). ListsAllOfOne query xs c.loop-patterns.found)
    (take_whole c.args.lists.now c.loop-patterns.patterns-index c.loop-patterns-test.false) c.loop-patterns.invariant in
    Represents-thin query (MeetAllOfOne query.scene c.args.lists.now) (IsVarOfQuery query) c.loop-patterns.found
    c.in_ok-list-2.list c.in_ok-list-2.ensures whole
