use Rattle.std.proofs.Common.{true≢false, refl, sym, ◌∙◌}
use Rattle.grind_ring_units.proofs.EqualLemmas.{none_unread, none_outgrown}
use Rattle.grind_ring_units.proofs.units.equal_terms.normal_term.Goals as goal

pub returns-then-not-is_active : goal.returns-then-not-is_active
returns-then-not-is_active c = λ normal has.
    true≢false (sym (c.is_active.ensures.value.1 has.active) ∙ c.if-not-is_active.true)

pub returns-in_default : goal.returns-in_default
returns-in_default c =
    none_unread c.args.setting.now.state.now c.args.setting.now.terms.now.nodes c.args.setting.now.classes.now.lists c.args.node
    (rw c.in_default.is at c.in_ok-reading.ensures)

pub returns-in_default-found : goal.returns-in_default-found
returns-in_default-found c =
    none_outgrown c.args.setting.now.state.now c.args.setting.now.terms.now.nodes c.args.setting.now.classes.now.lists c.args.node
    c.in-Some.poly (rw c.in-Some.is at c.in_ok-reading.ensures) (rw c.in_default-found.is at c.in_ok-found.ensures)

pub returns : goal.returns
returns c = (
  refl,
  record {
    active = c.is_active.ensures.value.0 c.if-not-is_active.false;
    poly = c.in-Some.poly;
    reading = sym (rw c.in-Some.is at c.in_ok-reading.ensures);
    normal_is = rw c.in-Some-found.is at c.in_ok-found.ensures;
  },
)
