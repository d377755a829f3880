use Rattle.std.specs.Prelude.{◌≡◌}
use Rattle.std.proofs.Common.{ap, sym, ◌∙◌, subst}
use Rattle.std.proofs.lemmas.Bool.{false≢true}
use Rattle.grind_classes.specs.Classes.{IsActive, AreTogether, IsIn}
use Rattle.grind_congruence.specs.declared.edge.Edge.{Edge}
use Rattle.grind_congruence.specs.Congruence.{Congruence, Fits}
use Rattle.grind_congruence.specs.Marks.{value_of}
use Rattle.grind_congruence.proofs.ClosureLemmas.{kept_merged, views_merged, touched_table, touched_applications}
use Rattle.grind_congruence.proofs.ForestLemmas.{top_never_gone, joins_two, AreJoinedBy-push}
use Rattle.grind_congruence.proofs.FitLemmas.{Fits-active}
use Rattle.grind_congruence.proofs.closure.Closure.assert_same.Goals as goal

pub push-requires-2-clause-gone : goal.push-requires-2-clause-gone
push-requires-2-clause-gone c =
    rw c.join_of-join.ensures.join.gone (top_never_gone c.self.inside.forest c.join_of-join.result.from c.join_of-join.ensures.forest)

pub push-requires-2-clause-kept : goal.push-requires-2-clause-kept
push-requires-2-clause-kept c =
    rw c.join_of-join.ensures.join.kept (top_never_gone c.self.inside.forest c.join_of-join.result.to c.join_of-join.ensures.forest)

pub push-requires-2-clause-differ : goal.push-requires-2-clause-differ
push-requires-2-clause-differ c =
    let lists_are : c.self.inside.classes.lists ≡ c.args.self.now.lists = ap (λ (t : Congruence). t.lists) c.self.view_is in
    let first : IsActive c.self.inside.classes.lists c.args.a = rw lists_are c.requires.first in
    let second : IsActive c.self.inside.classes.lists c.args.b = rw lists_are c.requires.second in
    joins_two c.self.inside.classes.lists c.self.inside.edges c.self.inside.forest c.args.a c.args.b c.join_of-join.result c.self.invariant.0.present.classes
    c.self.invariant.1 first second (not_together c) c.join_of-join.ensures.join
  where
    not_together : (c : goal.After-push-arg-2-1) → AreTogether c.self.inside.classes.lists c.args.a c.args.b → ⊥
    not_together c t = false≢true (sym c.if-same.false ∙ c.same.ensures.1 t)

pub invariant_of-self-in-Ok-merge : goal.invariant_of-self-in-Ok-merge
invariant_of-self-in-Ok-merge c =
    let lists_are : c.self.inside.classes.lists ≡ c.args.self.now.lists = ap (λ (t : Congruence). t.lists) c.self.view_is in
    let edge : Edge = record { left = c.args.a; right = c.args.b; why = c.args.why } in
    let first : IsActive c.self.inside.classes.lists c.args.a = rw lists_are c.requires.first in
    let second : IsActive c.self.inside.classes.lists c.args.b = rw lists_are c.requires.second in
    let apart : AreTogether c.self.inside.classes.lists c.args.a c.args.b → ⊥ = λ t. false≢true (sym c.if-same.false ∙ c.same.ensures.1 t) in
    rw (c.in_ok-push.ensures.ok, c.in-Ok.ensures.ok) (
      kept_merged c.self.inside.classes c.merge.new.classes c.self.inside.edges edge c.self.inside.agenda c.merge.new.agenda c.self.inside.marks
          c.self.invariant.0 c.in-Ok-merge.ensures.ok first second apart,
      AreJoinedBy-push c.self.inside.edges c.self.inside.forest edge c.join_of-join.result c.self.invariant.1 c.join_of-join.ensures.join,
    )

pub returns-in-Ok-merge-clause-marked : goal.returns-in-Ok-merge-clause-marked
returns-in-Ok-merge-clause-marked c =
    let edge : Edge = record { left = c.args.a; right = c.args.b; why = c.args.why } in
    rw c.in_ok-push.ensures.ok
    (views_merged c.self.inside.classes c.merge.new.classes c.self.inside.edges edge c.self.inside.agenda c.merge.new.agenda c.self.inside.marks
    c.self.invariant.0 c.in-Ok-merge.ensures.ok)
    ∙ ap (λ (t : Congruence). t.marked) c.self.view_is

pub returns-in-Ok-merge-clause-joined : goal.returns-in-Ok-merge-clause-joined
returns-in-Ok-merge-clause-joined c = λ apart.
    let lists_are : c.self.inside.classes.lists ≡ c.args.self.now.lists = ap (λ (t : Congruence). t.lists) c.self.view_is in
    let edges_are : c.self.inside.edges ≡ c.args.self.now.edges = ap (λ (t : Congruence). t.edges) c.self.view_is in
    let it = c.in-Ok-merge.ensures.ok in
    record {
      merged = λ ra rb in_a in_b.
          let left : IsIn c.self.inside.classes.lists ra c.args.a = rw lists_are in_a in
          let right : IsIn c.self.inside.classes.lists rb c.args.b = rw lists_are in_b in
          rw (← lists_are) (it.merged ra rb left right);
      together = rw (← lists_are) it.together;
      active = rw (← lists_are) it.active;
      edges = rw (← edges_are) c.in_ok-push.ensures.ok;
      table = touched_table c.self.inside.agenda c.merge.new.agenda it.members it.touched ∙ ap (λ (t : Congruence). t.table) c.self.view_is;
      applications = touched_applications c.self.inside.agenda c.merge.new.agenda it.members it.touched
          ∙ ap (λ (t : Congruence). t.applications) c.self.view_is;
    }

pub returns-in-Ok-merge-clause-fits : goal.returns-in-Ok-merge-clause-fits
returns-in-Ok-merge-clause-fits c =
    let it = c.in-Ok-merge.ensures.ok in
    let fits : Fits (value_of c.self.inside.classes c.self.inside.edges c.self.inside.agenda c.self.inside.marks) c.args.terms.now.nodes =
    subst (λ (t : Congruence). Fits t c.args.terms.now.nodes) (sym c.self.view_is) c.requires.fits in
    Fits-active (value_of c.self.inside.classes c.self.inside.edges c.self.inside.agenda c.self.inside.marks)
    (value_of c.merge.new.classes c.push.new.self c.merge.new.agenda c.self.inside.marks) c.args.terms.now.nodes fits it.active
    (touched_applications c.self.inside.agenda c.merge.new.agenda it.members it.touched)
