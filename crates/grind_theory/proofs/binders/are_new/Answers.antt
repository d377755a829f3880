use Rattle.std.proofs.Common.{sym, ap, ◌∙◌, true≢false, ◌≡◌, ◌∷◌}
use Rattle.std.proofs.lemmas.List.Elements.{All-rest}
use Rattle.grind_grammar.specs.Keeps.{name_of}
use Rattle.grind_theory.specs.States.{bound_names}
use Rattle.grind_theory.specs.Headings.{bounds_in}
use Rattle.grind_theory.specs.Kept.{bounds_of, IsPlacedBinder}
use Rattle.grind_theory.proofs.BinderLists.{new-next, new-held}
use Rattle.grind_theory.proofs.binders.are_new.Goals as goal

pub returns-then-holds : goal.returns-then-holds
returns-then-holds c =
    let p : c.loop-binder.rest.now ≡ c.in-Some.binder.now ∷ c.in-Some.later.now = cc ((c.in-Some.ensures.cases).0) in (
      λ f. absurd (true≢false (sym f)),
      λ h.
          absurd (new-held c.args.signature.now (bound_names (bounds_in c.args.heading.now)) (bound_names (bounds_of c.args.heading.now.text.now c.loop-binder.rest.now))
          (bound_names (bounds_of c.args.heading.now.text.now c.in-Some.later.now)) (name_of c.args.heading.now.text.now c.in-Some.binder.now.name) c.bytes_of-name.result.now c.loop-binder.names
          (ap (λ r. bound_names (bounds_of c.args.heading.now.text.now r)) p) c.bytes_of-name.ensures c.loop-binder.invariant.new (c.holds.ensures.value.0 c.if-holds.true) h),
    )

pub loop-binder-preserved : goal.loop-binder-preserved
loop-binder-preserved c =
    let p : c.loop-binder.rest.now ≡ c.in-Some.binder.now ∷ c.in-Some.later.now = cc ((c.in-Some.ensures.cases).0) in
    record {
      placed = All-rest (IsPlacedBinder c.args.heading.now.text.now) c.in-Some.binder.now c.in-Some.later.now c.loop-binder.rest.now p c.loop-binder.invariant.placed;
      new = new-next c.args.signature.now (bound_names (bounds_in c.args.heading.now)) (bound_names (bounds_of c.args.heading.now.text.now c.loop-binder.rest.now))
          (bound_names (bounds_of c.args.heading.now.text.now c.in-Some.later.now)) (name_of c.args.heading.now.text.now c.in-Some.binder.now.name) c.bytes_of-name.result.now c.loop-binder.names
          (ap (λ r. bound_names (bounds_of c.args.heading.now.text.now r)) p) c.bytes_of-name.ensures c.loop-binder.invariant.new c.add.new.self
          (λ held. true≢false (sym (c.holds.ensures.value.1 held) ∙ c.if-holds.false)) (λ has. true≢false (sym (c.contains.ensures.1 has) ∙ c.if-contains.false)) c.in_ok-add.ensures.ok;
    }
