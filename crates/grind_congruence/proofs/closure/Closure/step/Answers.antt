use Rattle.std.specs.Prelude.{◌≡◌, Option, IfSome}
use Rattle.std.proofs.Common.{ap, sym, ◌∙◌, subst}
use Rattle.std.proofs.lemmas.Option.{IfSome_then}
use Rattle.std.proofs.lemmas.Result.{IfOk-weaker}
use Rattle.grind_classes.specs.Classes.{IsActive, AreTogether}
use Rattle.grind_congruence.specs.declared.edge.Found.{Found}
use Rattle.grind_congruence.specs.Congruence.{Congruence, Fits, AreCongruent}
use Rattle.grind_congruence.specs.Table.{AreFoundAmong}
use Rattle.grind_congruence.specs.Marks.{value_of}
use Rattle.grind_congruence.proofs.AgendaLemmas.{found_congruent}
use Rattle.grind_congruence.proofs.ClosureLemmas.{kept_worked, views_worked, worked_rest}
use Rattle.grind_congruence.proofs.FitLemmas.{Fits-active}
use Rattle.grind_congruence.proofs.closure.Closure.step.Goals as goal

pub invariant_of-self : goal.invariant_of-self
invariant_of-self c = (
  kept_worked c.self.inside.classes c.self.inside.edges c.self.inside.agenda c.step-answer.new.self c.self.inside.marks c.self.invariant.0
      c.step-answer.ensures.worked c.step-answer.ensures.stands,
  c.self.invariant.1,
)

lists_are : (c : goal.After-step-answer) → c.self.inside.classes.lists ≡ c.args.self.now.lists
lists_are c = ap (λ (t : Congruence). t.lists) c.self.view_is

fits : (c : goal.After-step-answer)
    → Fits (value_of c.self.inside.classes c.self.inside.edges c.self.inside.agenda c.self.inside.marks) c.args.terms.now.nodes
fits c = subst (λ (t : Congruence). Fits t c.args.terms.now.nodes) (sym c.self.view_is) c.requires.fits

pub returns-clause-left : goal.returns-clause-left
returns-clause-left c =
    rw (← lists_are c) (IfOk-weaker c.step-answer.result
    (λ (answer : Option Found). IfSome answer (λ found. AreFoundAmong c.self.inside.classes.lists c.self.inside.agenda.applications found.left found.right))
    (λ (answer : Option Found). IfSome answer (λ found. IsActive c.self.inside.classes.lists found.left))
    (λ answer some. IfSome_then answer some (λ found among. among.active.0)) c.step-answer.ensures.found)

pub returns-clause-right : goal.returns-clause-right
returns-clause-right c =
    rw (← lists_are c) (IfOk-weaker c.step-answer.result
    (λ (answer : Option Found). IfSome answer (λ found. AreFoundAmong c.self.inside.classes.lists c.self.inside.agenda.applications found.left found.right))
    (λ (answer : Option Found). IfSome answer (λ found. IsActive c.self.inside.classes.lists found.right))
    (λ answer some. IfSome_then answer some (λ found among. among.active.1)) c.step-answer.ensures.found)

pub returns-clause-congruent : goal.returns-clause-congruent
returns-clause-congruent c =
    rw (← lists_are c) (IfOk-weaker c.step-answer.result
    (λ (answer : Option Found). IfSome answer (λ found. AreFoundAmong c.self.inside.classes.lists c.self.inside.agenda.applications found.left found.right))
    (λ (answer : Option Found). IfSome answer (λ found. AreCongruent c.self.inside.classes.lists c.args.terms.now.nodes found.left found.right))
    (λ answer some. IfSome_then answer some (λ found among.
    found_congruent (value_of c.self.inside.classes c.self.inside.edges c.self.inside.agenda c.self.inside.marks) c.args.terms.now.nodes found.left found.right
    (fits c) among)) c.step-answer.ensures.found)

pub returns-clause-apart : goal.returns-clause-apart
returns-clause-apart c =
    rw (← lists_are c) (IfOk-weaker c.step-answer.result
    (λ (answer : Option Found). IfSome answer (λ found. AreFoundAmong c.self.inside.classes.lists c.self.inside.agenda.applications found.left found.right))
    (λ (answer : Option Found). IfSome answer (λ found. AreTogether c.self.inside.classes.lists found.left found.right → ⊥))
    (λ answer some. IfSome_then answer some (λ found among. among.apart)) c.step-answer.ensures.found)

pub returns-clause-rest : goal.returns-clause-rest
returns-clause-rest c =
    rw (← lists_are c) (worked_rest (value_of c.self.inside.classes c.self.inside.edges c.self.inside.agenda c.self.inside.marks) c.args.terms.now.nodes
    c.step-answer.new.self c.step-answer.result c.self.invariant.0.present.classes.partition (fits c) c.step-answer.ensures.worked.applications
    c.step-answer.ensures.stands c.step-answer.ensures.found c.step-answer.ensures.none)

pub returns-clause-marked : goal.returns-clause-marked
returns-clause-marked c =
    views_worked c.self.inside.classes c.self.inside.edges c.self.inside.agenda c.step-answer.new.self c.self.inside.marks c.self.invariant.0
    c.step-answer.ensures.worked
    ∙ ap (λ (t : Congruence). t.marked) c.self.view_is

pub returns-clause-fits : goal.returns-clause-fits
returns-clause-fits c =
    Fits-active (value_of c.self.inside.classes c.self.inside.edges c.self.inside.agenda c.self.inside.marks)
    (value_of c.self.inside.classes c.self.inside.edges c.step-answer.new.self c.self.inside.marks) c.args.terms.now.nodes (fits c)
    (λ x. (λ a. a, λ a. a)) c.step-answer.ensures.worked.applications
