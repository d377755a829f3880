use Rattle.std.proofs.Common.{sym, ap, subst, ◌∙◌, ◌≡◌, ◌∷◌, All}
use Rattle.std.proofs.lemmas.List.Elements.{All-rest, All-head}
use Rattle.grind_resolution.specs.Scopes.{ScopeData}
use Rattle.grind_theory.specs.Headings.{bounds_in}
use Rattle.grind_theory.specs.Kept.{bound_of, bounds_of, IsPlacedBinder}
use Rattle.grind_theory.proofs.BinderLists.{scoping-next, scoping-none}
use Rattle.grind_theory.proofs.binders.read_scope.Goals as goal

pub bytes_of-requires : goal.bytes_of-requires
bytes_of-requires c =
    let p : c.loop-binder.rest.now ≡ c.in-Some.binder.now ∷ c.in-Some.later.now = cc ((c.in-Some.ensures.cases).0) in
    (All-head (IsPlacedBinder c.args.heading.now.text.now) c.in-Some.binder.now c.in-Some.later.now (subst (All (IsPlacedBinder c.args.heading.now.text.now)) p c.loop-binder.invariant.placed)).1

pub bytes_of-requires-in-Some : goal.bytes_of-requires-in-Some
bytes_of-requires-in-Some c =
    let p : c.loop-binder.rest.now ≡ c.in-Some.binder.now ∷ c.in-Some.later.now = cc ((c.in-Some.ensures.cases).0) in
    (All-head (IsPlacedBinder c.args.heading.now.text.now) c.in-Some.binder.now c.in-Some.later.now (subst (All (IsPlacedBinder c.args.heading.now.text.now)) p c.loop-binder.invariant.placed)).0

pub returns-in_default-find_sort : goal.returns-in_default-find_sort
returns-in_default-find_sort c =
    let p : c.loop-binder.rest.now ≡ c.in-Some.binder.now ∷ c.in-Some.later.now = cc ((c.in-Some.ensures.cases).0) in
    scoping-none c.args.signature.now (bounds_in c.args.heading.now) (bounds_of c.args.heading.now.text.now c.loop-binder.rest.now) (bounds_of c.args.heading.now.text.now c.in-Some.later.now)
    (bound_of c.args.heading.now.text.now c.in-Some.binder.now) c.loop-binder.scope.binders (ap (bounds_of c.args.heading.now.text.now) p) c.loop-binder.invariant.scoping
    c.bytes_of.result.now c.bytes_of.ensures (sym c.find_sort.ensures ∙ c.in_default-find_sort.is)

pub loop-binder-preserved : goal.loop-binder-preserved
loop-binder-preserved c =
    let p : c.loop-binder.rest.now ≡ c.in-Some.binder.now ∷ c.in-Some.later.now = cc ((c.in-Some.ensures.cases).0) in
    record {
      placed = All-rest (IsPlacedBinder c.args.heading.now.text.now) c.in-Some.binder.now c.in-Some.later.now c.loop-binder.rest.now p c.loop-binder.invariant.placed;
      kind = ap (λ (x : ScopeData). x.kind) c.in_ok-push.ensures.ok ∙ c.loop-binder.invariant.kind;
      scoping = scoping-next c.args.signature.now (bounds_in c.args.heading.now) (bounds_of c.args.heading.now.text.now c.loop-binder.rest.now)
          (bounds_of c.args.heading.now.text.now c.in-Some.later.now) (bound_of c.args.heading.now.text.now c.in-Some.binder.now) c.loop-binder.scope.binders
          (ap (bounds_of c.args.heading.now.text.now) p) c.loop-binder.invariant.scoping c.push.new.self.binders c.bytes_of-in-Some.result.now c.bytes_of.result.now c.in-Some-find_sort.sort
          c.bytes_of-in-Some.ensures c.bytes_of.ensures (sym c.find_sort.ensures ∙ c.in-Some-find_sort.is) (ap (λ (x : ScopeData). x.binders) c.in_ok-push.ensures.ok);
    }
