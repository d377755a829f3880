use Rattle.std.proofs.Common.{◌≡◌, ℕ, List, Some, slice_get, ap, ◌∙◌, subst}
use Rattle.grind_schemes.specs.Theorems.{TheoremData}
use Rattle.grind_ematch.specs.Matches.{Scene, scene_of, ListsMatches, ListsEachMatch}
use Rattle.grind_ematch.specs.Partials.{QueryData}
use Rattle.grind_ematch.proofs.SceneLemmas.{got_at}
use Rattle.grind_ematch.proofs.MatchLemmas.{listed, each_listed, all_bound}
use Rattle.grind_ematch.proofs.search.matches.Goals as goal

pub matches_of-requires : goal.matches_of-requires
matches_of-requires c = all_bound c.new-query.result c.index-as_slice-theorem.result c.in_ok-list.list c.in_ok-list.ensures

scene_is : (c : goal.In_ok-found) →
    c.new-query.result.scene ≡ scene_of c.args.terms.now.nodes c.args.classes.now.lists c.args.generations.now
scene_is c =
    ap (λ (q : QueryData). q.scene) c.new-query.ensures.value
    ∙ ap (λ (list : List ℕ). scene_of c.args.terms.now.nodes c.args.classes.now.lists list) c.as_slice-2.ensures.value

vars_are : (c : goal.In_ok-found) → c.new-query.result.vars ≡ c.index-as_slice-theorem.result.vars
vars_are c =
    ap (λ (q : QueryData). q.vars) c.new-query.ensures.value ∙ c.as_slice-3.ensures.value
    ∙ ap (λ (t : TheoremData). t.vars) c.chosen.view_is

got : (c : goal.In_ok-found) → slice_get c.args.lemmas.now.theorems c.args.theorem ≡ Some c.index-as_slice-theorem.result
got c =
    let is = c.index-as_slice-theorem.is in
    got_at c.args.lemmas.now.theorems c.args.theorem c.index-as_slice-theorem.result c.requires.range
    (rw c.as_slice.ensures.value at is)

pub returns-clause-matches : goal.returns-clause-matches
returns-clause-matches c =
    let query = c.new-query.result in
    let theorems = c.args.lemmas.now.theorems in
    let all = listed query c.index-as_slice-theorem.result theorems c.args.theorem c.in_ok-list.list c.in_ok-found.found
    (vars_are c) (got c) c.in_ok-list.ensures c.in_ok-found.ensures in
    let here = subst (λ (most : ℕ). ListsMatches query.scene theorems c.args.theorem most c.in_ok-found.found)
    (ap (λ (q : QueryData). q.most) c.new-query.ensures.value) all in
    subst (λ (scene : Scene). ListsMatches scene theorems c.args.theorem c.args.most c.in_ok-found.found) (scene_is c) here

pub returns-clause-each : goal.returns-clause-each
returns-clause-each c =
    let query = c.new-query.result in
    let theorems = c.args.lemmas.now.theorems in
    let all = each_listed query c.index-as_slice-theorem.result theorems c.args.theorem c.in_ok-list.list c.in_ok-found.found
    (vars_are c) (got c) c.in_ok-list.ensures c.in_ok-found.ensures c.new-query.ensures.keeps.partition in
    let here = subst (λ (most : ℕ). ListsEachMatch query.scene theorems c.args.theorem most c.in_ok-found.found)
    (ap (λ (q : QueryData). q.most) c.new-query.ensures.value) all in
    subst (λ (scene : Scene). ListsEachMatch scene theorems c.args.theorem c.args.most c.in_ok-found.found) (scene_is c) here
