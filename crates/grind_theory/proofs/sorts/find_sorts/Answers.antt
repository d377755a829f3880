use Rattle.std.proofs.Common.{sym, ap, ◌∙◌, ◌≡◌, ◌∷◌}
use Rattle.std.proofs.lemmas.List.Elements.{All-rest}
use Rattle.grind_grammar.specs.Keeps.{IsPlaced, name_of}
use Rattle.grind_theory.specs.Kept.{names_of}
use Rattle.grind_theory.proofs.SortLists.{finding-next, finding-none}
use Rattle.grind_theory.proofs.sorts.find_sorts.Goals as goal

pub returns-in_default-find_sort : goal.returns-in_default-find_sort
returns-in_default-find_sort c =
    let p : c.loop-name.rest.now ≡ c.in-Some.name.now ∷ c.in-Some.later.now = cc ((c.in-Some.ensures.cases).0) in
    finding-none c.args.signature.now (names_of c.args.text.now c.args.names.now) (names_of c.args.text.now c.loop-name.rest.now) (names_of c.args.text.now c.in-Some.later.now)
    (name_of c.args.text.now c.in-Some.name.now) c.bytes_of.result.now c.loop-name.done
    (ap (names_of c.args.text.now) p) c.bytes_of.ensures c.loop-name.invariant.finding (sym c.find_sort.ensures ∙ c.in_default-find_sort.is)

pub loop-name-preserved : goal.loop-name-preserved
loop-name-preserved c =
    let p : c.loop-name.rest.now ≡ c.in-Some.name.now ∷ c.in-Some.later.now = cc ((c.in-Some.ensures.cases).0) in
    record {
      placed = All-rest (IsPlaced c.args.text.now) c.in-Some.name.now c.in-Some.later.now c.loop-name.rest.now p c.loop-name.invariant.placed;
      finding = finding-next c.args.signature.now (names_of c.args.text.now c.args.names.now) (names_of c.args.text.now c.loop-name.rest.now) (names_of c.args.text.now c.in-Some.later.now)
          (name_of c.args.text.now c.in-Some.name.now) c.bytes_of.result.now c.loop-name.done (ap (names_of c.args.text.now) p) c.bytes_of.ensures c.loop-name.invariant.finding
          c.push.new.self c.in-Some-find_sort.sort (sym c.find_sort.ensures ∙ c.in-Some-find_sort.is) c.in_ok-push.ensures.ok;
    }
