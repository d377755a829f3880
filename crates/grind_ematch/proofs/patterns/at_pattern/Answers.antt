use Rattle.std.proofs.Common.{◌≡◌, [], List, sym, ◌∙◌, subst}
use Rattle.grind_ematch.specs.declared.partial.Partial.{Partial}
use Rattle.grind_ematch.specs.Index.{nodes_at}
use Rattle.grind_ematch.specs.Partials.{ListsSome}
use Rattle.grind_ematch.proofs.SceneLemmas.{active_candidates}
use Rattle.grind_ematch.proofs.ListLemmas.{pattern_somewhere}
use Rattle.grind_ematch.proofs.NodeLemmas.{nodes_first}
use Rattle.grind_ematch.proofs.IndexLemmas.{nodes_found, nodes_absent, candidates_of}
use Rattle.grind_ematch.proofs.patterns.at_pattern.Goals as goal

nodes_are : (c : goal.After-as_slice) → c.as_slice.result.now ≡ nodes_at c.args.index.now.entries c.in-Some.function
nodes_are c =
    c.as_slice.ensures.value ∙ nodes_found c.args.index.now.entries c.in-Some.function c.in-Some-get.nodes.now c.in-Some-get.ensures.value

pub returns-in_default-get : goal.returns-in_default-get
returns-in_default-get c =
    let query = c.args.query.now in
    let function = c.in-Some.function in
    subst (λ (list : List Partial). ListsSome query c.args.pattern.now list) (sym c.new-in_default-get.ensures)
    (pattern_somewhere query c.in-Apply.head c.in-Apply.sort c.in-Apply.args c.args.pattern.now [] [] c.in-Apply.is
    (candidates_of query.scene c.args.index.now.entries c.in-Apply.head function [] c.in-Some.ensures
    (nodes_absent c.args.index.now.entries function c.in_default-get.ensures.value) c.requires.index)
    (nodes_first query c.args.pattern.now))

pub at_nodes-requires-clause-active : goal.at_nodes-requires-clause-active
at_nodes-requires-clause-active c =
    active_candidates c.args.query.now.scene c.in-Apply.head c.as_slice.result.now
    (candidates_of c.args.query.now.scene c.args.index.now.entries c.in-Apply.head c.in-Some.function c.as_slice.result.now
    c.in-Some.ensures (nodes_are c) c.requires.index)

pub returns-in_ok-list-in-Apply : goal.returns-in_ok-list-in-Apply
returns-in_ok-list-in-Apply c =
    let nodes = c.as_slice.result.now in
    let is = c.as_slice.ensures.value
    ∙ nodes_found c.args.index.now.entries c.in-Some.function c.in-Some-get.nodes.now c.in-Some-get.ensures.value in
    pattern_somewhere c.args.query.now c.in-Apply.head c.in-Apply.sort c.in-Apply.args c.args.pattern.now nodes
    c.in_ok-list-in-Apply.list c.in-Apply.is
    (candidates_of c.args.query.now.scene c.args.index.now.entries c.in-Apply.head c.in-Some.function nodes c.in-Some.ensures is
    c.requires.index) c.in_ok-list-in-Apply.ensures
