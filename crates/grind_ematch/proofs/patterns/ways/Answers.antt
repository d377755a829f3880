use Rattle.std.proofs.Common.{◌≡◌, [], List, ℕ, All, sym, ap, ◌∙◌, subst, true≢false}
use Rattle.grind_schemes.specs.declared.scheme.Scheme.{Scheme}
use Rattle.grind_schemes.specs.Theorems.{TheoremData, HoldsEach}
use Rattle.grind_ematch.specs.Partials.{ListsAllOfOne}
use Rattle.grind_ematch.proofs.ListLemmas.{theorem_without_vars, theorem_with_vars, no_patterns}
use Rattle.grind_ematch.proofs.patterns.ways.Goals as goal

pub returns-then-is_empty : goal.returns-then-is_empty
returns-then-is_empty c =
    let vars_are : c.theorem.inside.vars ≡ c.args.theorem.now.vars = ap (λ (t : TheoremData). t.vars) c.theorem.view_is in
    let none : c.args.theorem.now.vars ≡ [] = sym vars_are ∙ c.is_empty.ensures.0 c.if-is_empty.true in
    theorem_without_vars c.args.query.now c.args.theorem.now c.in_ok-list.list c.requires none
    (no_patterns c.args.theorem.now c.name-name.ensures.keeps none) c.in_ok-list.ensures

pub by_lists-requires-clause-variables : goal.by_lists-requires-clause-variables
by_lists-requires-clause-variables c =
    let patterns_are : c.as_slice.result.now ≡ c.args.theorem.now.patterns =
    c.as_slice.ensures.value ∙ ap (λ (t : TheoremData). t.patterns) c.theorem.view_is in
    let mine = subst (λ (lists : List (List Scheme)). All (HoldsEach c.args.theorem.now.vars) lists) (sym patterns_are)
    c.name-name.ensures.keeps.variables in
    subst (λ (vars : List ℕ). All (HoldsEach vars) c.as_slice.result.now) (sym c.requires) mine

pub returns : goal.returns
returns c =
    let vars_are : c.theorem.inside.vars ≡ c.args.theorem.now.vars = ap (λ (t : TheoremData). t.vars) c.theorem.view_is in
    let patterns_are : c.as_slice.result.now ≡ c.args.theorem.now.patterns =
    c.as_slice.ensures.value ∙ ap (λ (t : TheoremData). t.patterns) c.theorem.view_is in
    theorem_with_vars c.args.query.now c.args.theorem.now c.in_ok-list-2.list
    (λ e. true≢false (sym (c.is_empty.ensures.1 (vars_are ∙ e)) ∙ c.if-is_empty.false))
    (subst (λ (lists : List (List Scheme)). ListsAllOfOne c.args.query.now lists c.in_ok-list-2.list) patterns_are
    c.in_ok-list-2.ensures)
