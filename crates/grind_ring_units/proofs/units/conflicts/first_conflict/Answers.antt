use Rattle.std.proofs.Common.{sym, ◌∙◌, refl}
use Rattle.std.proofs.lemmas.Bool.{false≢true}
use Rattle.grind_ring_units.proofs.ConflictLemmas.{elements_begin, elements_step, contradiction_here, no_elements, no_posts_left}
use Rattle.grind_ring_units.proofs.units.conflicts.first_conflict.Goals as goal

pub loop-element-init : goal.loop-element-init
loop-element-init c =
    elements_begin c.args.state.now.basis c.as_slice-posts.result.now c.as_slice-elements.result.now
    c.as_slice-posts.ensures.value c.as_slice-elements.ensures.value

pub loop-element-preserved : goal.loop-element-preserved
loop-element-preserved c =
    elements_step c.args.state.now.basis c.loop-element.posts.now c.in-Some-split_first.posts_tail.now c.loop-element.elements.now c.in-Some.elements_tail.now
    c.in-Some-split_first.post.now c.in-Some.element.now c.in-Some-split_first.ensures.cases.0 c.in-Some.ensures.cases.0 c.loop-element.invariant
    (λ other. false≢true (sym c.if-is_other_than_zero.false ∙ c.is_other_than_zero.ensures.1 other))

pub returns-then-is_other_than_zero : goal.returns-then-is_other_than_zero
returns-then-is_other_than_zero c =
    contradiction_here c.args.state.now.basis c.loop-element.posts.now c.in-Some-split_first.posts_tail.now c.loop-element.elements.now c.in-Some.elements_tail.now
    c.in-Some-split_first.post.now c.in-Some.element.now c.in-Some-split_first.ensures.cases.0 c.in-Some.ensures.cases.0 c.loop-element.invariant
    c.args.state.now refl (c.is_other_than_zero.ensures.0 c.if-is_other_than_zero.true)

pub returns-in_default-split_first : goal.returns-in_default-split_first
returns-in_default-split_first c =
    no_posts_left c.args.state.now c.loop-element.posts.now c.loop-element.elements.now c.loop-element.invariant
    c.in_default-split_first.ensures.cases

pub returns : goal.returns
returns c =
    no_elements c.args.state.now c.loop-element.posts.now c.loop-element.elements.now c.loop-element.invariant
    c.in_default.ensures.cases
