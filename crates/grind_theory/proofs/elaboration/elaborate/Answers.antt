use Rattle.std.proofs.Common.{arith, sym, ap, subst, ◌≡◌, ◌∷◌, All, length, map, Err}
use Rattle.std.specs.List.{AllByRecursion}
use Rattle.std.proofs.lemmas.List.Elements.{All-from_recursion, All-rest}
use Rattle.grind_theory.specs.States.{opening_state}
use Rattle.grind_theory.specs.Theories.{AreDeclared, TakesAll, RefusedAt}
use Rattle.grind_theory.specs.Kept.{declaration_of, IsPlacedDecl, HasLabels}
use Rattle.grind_theory.specs.Building.{state_at}
use Rattle.grind_annotations.proofs.ItemLemmas.{map-All, no_items}
use Rattle.grind_theory.proofs.FunTaking.{same_Err}
use Rattle.grind_theory.proofs.Underway.{IsUnderway, decls-kept, underway-start, underway-next, underway-end, underway-refused}
use Rattle.grind_theory.proofs.elaboration.elaborate.Goals as goal

pub loop-decl-init : goal.loop-decl-init
loop-decl-init c =
    let text = c.args.text.now in
    let decls = c.args.decls.now in
    let w = c.requires in
    let kept = decls-kept text decls w.0 w.1 in
    let is = sym c.as_slice-rest.ensures.value in
    record {
      placed = subst (All (IsPlacedDecl text)) is (All-from_recursion (IsPlacedDecl text) decls kept.0);
      labels = subst (All (λ decl. HasLabels (declaration_of text decl))) is
          (map-All (declaration_of text) HasLabels decls (subst (AllByRecursion HasLabels) (sym kept.1) w.2));
      count = let same = ap length c.as_slice-rest.ensures.value in omega arith;
      underway = subst (λ r. IsUnderway (map (declaration_of text) decls) (map (declaration_of text) r) (state_at c.in-Ok.building) 0) is
          (underway-start (map (declaration_of text) decls) (state_at c.in-Ok.building) c.in-Ok.ensures.state);
      declared = subst (AreDeclared c.in-Ok.building.signature) (sym c.in-Ok.ensures.none) tt;
    }

pub returns-in-Err-clause-refused : goal.returns-in-Err-clause-refused
returns-in-Err-clause-refused c = λ n fault e ds k.
    let text = c.args.text.now in
    let p : c.loop-decl.rest.now ≡ c.in-Some.decl.now ∷ c.in-Some.later.now = cc ((c.in-Some.ensures.cases).0) in
    let r = c.refused.ensures n fault (same_Err _ _ e) in
    subst (λ x. RefusedAt opening_state x n fault) (decls-kept text c.args.decls.now ds k).1
    (subst (λ m. RefusedAt opening_state (map (declaration_of text) c.args.decls.now) m fault) r.0
    (underway-refused (map (declaration_of text) c.args.decls.now) (map (declaration_of text) c.loop-decl.rest.now) (map (declaration_of text) c.in-Some.later.now)
    (declaration_of text c.in-Some.decl.now) (state_at c.loop-decl.building) c.loop-decl.number fault (ap (map (declaration_of text)) p)
    (c.in-Err.ensures.faulty fault (ap Err r.1)) c.loop-decl.invariant.underway))

pub loop-decl-preserved : goal.loop-decl-preserved
loop-decl-preserved c =
    let text = c.args.text.now in
    let p : c.loop-decl.rest.now ≡ c.in-Some.decl.now ∷ c.in-Some.later.now = cc ((c.in-Some.ensures.cases).0) in
    record {
      placed = All-rest (IsPlacedDecl text) c.in-Some.decl.now c.in-Some.later.now c.loop-decl.rest.now p c.loop-decl.invariant.placed;
      labels = All-rest (λ decl. HasLabels (declaration_of text decl)) c.in-Some.decl.now c.in-Some.later.now c.loop-decl.rest.now p c.loop-decl.invariant.labels;
      count = let same = ap length p in let count = c.loop-decl.invariant.count in omega arith;
      underway = underway-next (map (declaration_of text) c.args.decls.now) (map (declaration_of text) c.loop-decl.rest.now) (map (declaration_of text) c.in-Some.later.now)
          (declaration_of text c.in-Some.decl.now) (state_at c.loop-decl.building) (state_at c.declare.new.building) c.loop-decl.number (ap (map (declaration_of text)) p)
          c.in-Ok-declare.ensures.ok c.loop-decl.invariant.underway;
      declared = c.in-Ok-declare.ensures.declared c.loop-decl.invariant.declared;
    }

pub returns-clause-ok : goal.returns-clause-ok
returns-clause-ok c = λ ds k.
    let text = c.args.text.now in (
      c.loop-decl.building.set,
      subst (λ x. TakesAll opening_state x (state_at c.loop-decl.building)) (decls-kept text c.args.decls.now ds k).1
          (underway-end (map (declaration_of text) c.args.decls.now) (map (declaration_of text) c.loop-decl.rest.now) (state_at c.loop-decl.building) c.loop-decl.number
          (ap (map (declaration_of text)) (no_items c.loop-decl.rest.now c.in_default-split_first.ensures.cases)) c.loop-decl.invariant.underway),
    )
