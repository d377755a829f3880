use Rattle.std.proofs.Common.{sym, ap, ◌∙◌, ◌≡◌, ◌∷◌}
use Rattle.std.proofs.lemmas.List.Elements.{All-rest}
use Rattle.grind_grammar.specs.Keeps.{name_of}
use Rattle.grind_theory.specs.States.{bound_sorts}
use Rattle.grind_theory.specs.Headings.{bounds_in}
use Rattle.grind_theory.specs.Kept.{bounds_of, IsPlacedBinder}
use Rattle.grind_theory.proofs.SortLists.{finding-next, finding-none}
use Rattle.grind_theory.proofs.binders.sorts_of_binders.Goals as goal

pub unreachable-requires : goal.unreachable-requires
unreachable-requires c =
    let p : c.loop-binder.rest.now ≡ c.in-Some.binder.now ∷ c.in-Some.later.now = cc ((c.in-Some.ensures.cases).0) in
    finding-none c.args.signature.now (bound_sorts (bounds_in c.args.heading.now)) (bound_sorts (bounds_of c.args.heading.now.text.now c.loop-binder.rest.now))
    (bound_sorts (bounds_of c.args.heading.now.text.now c.in-Some.later.now)) (name_of c.args.heading.now.text.now c.in-Some.binder.now.sort) c.bytes_of.result.now c.loop-binder.done
    (ap (λ r. bound_sorts (bounds_of c.args.heading.now.text.now r)) p) c.bytes_of.ensures c.loop-binder.invariant.finding
    (sym c.find_sort.ensures ∙ c.in_default-find_sort.is) c.requires

pub loop-binder-preserved : goal.loop-binder-preserved
loop-binder-preserved c =
    let p : c.loop-binder.rest.now ≡ c.in-Some.binder.now ∷ c.in-Some.later.now = cc ((c.in-Some.ensures.cases).0) in
    record {
      placed = All-rest (IsPlacedBinder c.args.heading.now.text.now) c.in-Some.binder.now c.in-Some.later.now c.loop-binder.rest.now p c.loop-binder.invariant.placed;
      finding = finding-next c.args.signature.now (bound_sorts (bounds_in c.args.heading.now)) (bound_sorts (bounds_of c.args.heading.now.text.now c.loop-binder.rest.now))
          (bound_sorts (bounds_of c.args.heading.now.text.now c.in-Some.later.now)) (name_of c.args.heading.now.text.now c.in-Some.binder.now.sort) c.bytes_of.result.now c.loop-binder.done
          (ap (λ r. bound_sorts (bounds_of c.args.heading.now.text.now r)) p) c.bytes_of.ensures c.loop-binder.invariant.finding
          c.push.new.self c.in-Some-find_sort.sort (sym c.find_sort.ensures ∙ c.in-Some-find_sort.is) c.in_ok-push.ensures.ok;
    }
