use Rattle.std.specs.Prelude.{◌≡◌, refl}
use Rattle.std.proofs.Common.{ap, sym, subst}
use Rattle.std.proofs.lemmas.Bool.{false≢true}
use Rattle.grind_congruence.specs.Congruence.{Congruence, Fits}
use Rattle.grind_congruence.specs.Marks.{value_of}
use Rattle.grind_congruence.proofs.AgendaLemmas.{rest_of_done}
use Rattle.grind_congruence.proofs.closure.Closure.at_rest.Goals as goal

pub find_pair-requires-clause-fits : goal.find_pair-requires-clause-fits
find_pair-requires-clause-fits c =
    let fits : Fits (value_of c.self.inside.classes c.self.inside.edges c.self.inside.agenda c.self.inside.marks) c.args.terms.now.nodes =
    subst (λ (t : Congruence). Fits t c.args.terms.now.nodes) (sym c.self.view_is) c.requires in
    record { within = fits.within; args = fits.args }

pub returns-then-is_done : goal.returns-then-is_done
returns-then-is_done c =
    let lists_are : c.self.inside.classes.lists ≡ c.args.self.now.lists = ap (λ (t : Congruence). t.lists) c.self.view_is in
    let fits : Fits (value_of c.self.inside.classes c.self.inside.edges c.self.inside.agenda c.self.inside.marks) c.args.terms.now.nodes =
    subst (λ (t : Congruence). Fits t c.args.terms.now.nodes) (sym c.self.view_is) c.requires in
    rw (← lists_are) (
      λ _. rest_of_done (value_of c.self.inside.classes c.self.inside.edges c.self.inside.agenda c.self.inside.marks) c.args.terms.now.nodes
          c.self.inside.agenda c.self.invariant.0.present.classes.partition fits refl c.self.invariant.0.present.stands (c.is_done.ensures c.if-is_done.true),
      λ _. refl,
    )

pub returns-in-Some : goal.returns-in-Some
returns-in-Some c =
    let lists_are : c.self.inside.classes.lists ≡ c.args.self.now.lists = ap (λ (t : Congruence). t.lists) c.self.view_is in
    rw (← lists_are) (λ no_pair. absurd (false≢true no_pair), λ rest. absurd (false≢true (sym (c.in-Some.ensures.none.1 rest))))

pub returns-in-None : goal.returns-in-None
returns-in-None c =
    let lists_are : c.self.inside.classes.lists ≡ c.args.self.now.lists = ap (λ (t : Congruence). t.lists) c.self.view_is in
    rw (← lists_are) (λ _. c.in-None.ensures.none.0 refl, λ _. refl)
