use Rattle.std.specs.Prelude.{◌≡◌, ℕ, List, All}
use Rattle.std.proofs.Common.{ap, sym, ◌∙◌, subst}
use Rattle.grind_classes.specs.Classes.{IsActive}
use Rattle.grind_congruence.specs.Congruence.{Congruence, Fits}
use Rattle.grind_congruence.specs.Table.{AgendaData}
use Rattle.grind_congruence.specs.Marks.{value_of}
use Rattle.grind_congruence.proofs.ClosureLemmas.{kept_enlisted, views_enlisted, taken_table}
use Rattle.grind_congruence.proofs.FitLemmas.{Fits-activate}
use Rattle.grind_congruence.proofs.closure.Closure.activate.Goals as goal

lists_are : (c : goal.In_ok-enlist) → c.self.inside.classes.lists ≡ c.args.self.now.lists
lists_are c = ap (λ (t : Congruence). t.lists) c.self.view_is

fresh : (c : goal.In_ok-enlist) → IsActive c.self.inside.classes.lists c.args.n → ⊥
fresh c active = c.requires.new (subst (λ (ls : List (List ℕ)). IsActive ls c.args.n) (lists_are c) active)

args : (c : goal.In_ok-enlist) → All (IsActive c.self.inside.classes.lists) c.node-node.result.now.args
args c = subst (λ (ls : List (List ℕ)). All (IsActive ls) c.node-node.result.now.args) (sym (lists_are c))
    (c.requires.args c.node-node.result.now c.node-node.ensures.value)

pub invariant_of-self-2 : goal.invariant_of-self-2
invariant_of-self-2 c = (
  kept_enlisted c.self.inside.classes c.enlist.new.classes c.self.inside.edges c.self.inside.agenda c.enlist.new.agenda c.self.inside.marks c.args.n
      c.node-node.result.now c.self.invariant.0 c.in_ok-enlist.ensures.ok (fresh c) (args c),
  c.self.invariant.1,
)

pub returns-clause-active : goal.returns-clause-active
returns-clause-active c = rw (← lists_are c) c.in_ok-enlist.ensures.ok.active

pub returns-clause-together : goal.returns-clause-together
returns-clause-together c = rw (← lists_are c) c.in_ok-enlist.ensures.ok.together

pub returns-clause-table : goal.returns-clause-table
returns-clause-table c =
    taken_table c.self.inside.agenda c.enlist.new.agenda c.args.n c.node-node.result.now c.in_ok-enlist.ensures.ok.taken
    ∙ ap (λ (t : Congruence). t.table) c.self.view_is

pub returns-clause-marked : goal.returns-clause-marked
returns-clause-marked c =
    views_enlisted c.self.inside.classes c.enlist.new.classes c.self.inside.edges c.self.inside.agenda c.enlist.new.agenda c.self.inside.marks c.args.n
    c.node-node.result.now c.self.invariant.0 c.in_ok-enlist.ensures.ok
    ∙ ap (λ (t : Congruence). t.marked) c.self.view_is

pub returns-clause-fits : goal.returns-clause-fits
returns-clause-fits c =
    let fits : Fits (value_of c.self.inside.classes c.self.inside.edges c.self.inside.agenda c.self.inside.marks) c.args.terms.now.nodes =
    subst (λ (t : Congruence). Fits t c.args.terms.now.nodes) (sym c.self.view_is) c.requires.fits in
    Fits-activate (value_of c.self.inside.classes c.self.inside.edges c.self.inside.agenda c.self.inside.marks)
    (value_of c.enlist.new.classes c.self.inside.edges c.enlist.new.agenda c.self.inside.marks) c.args.terms.now.nodes c.args.n c.node-node.result.now fits
    c.in_ok-enlist.ensures.ok.active c.node-node.ensures.value c.requires.within (args c)
    (λ none. ap (λ (a : AgendaData). a.applications) (c.in_ok-enlist.ensures.ok.taken.plain none))
    (λ has. ap (λ (a : AgendaData). a.applications) (c.in_ok-enlist.ensures.ok.taken.applied has))
