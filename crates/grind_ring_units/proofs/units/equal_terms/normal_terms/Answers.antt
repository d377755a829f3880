use Rattle.std.proofs.Common.{◌≡◌, ℕ, List, length, arith, sym, subst}
use Rattle.grind_ring_units.specs.declared.units.equal_terms.NormalTerm.{NormalTerm}
use Rattle.grind_ring_units.specs.NormalTerms.{AreNormalTerms}
use Rattle.grind_ring_units.proofs.EqualLemmas.{terms_begin, terms_next}
use Rattle.grind_ring_units.proofs.units.equal_terms.normal_terms.Goals as goal

pub loop-number-init : goal.loop-number-init
loop-number-init c =
    subst (λ (all : List NormalTerm). AreNormalTerms c.args.setting.now.state.now c.args.setting.now.terms.now.nodes c.args.setting.now.classes.now.lists 0 all)
    (sym c.new-all.ensures) (terms_begin c.args.setting.now.state.now c.args.setting.now.terms.now.nodes c.args.setting.now.classes.now.lists)

pub loop-number-preserved : goal.loop-number-preserved
loop-number-preserved c =
    terms_next c.args.setting.now.state.now c.args.setting.now.terms.now.nodes c.args.setting.now.classes.now.lists
    c.loop-number.number c.loop-number.all c.put_found.new.all c.in_ok-found.found c.loop-number.invariant
    (rw c.new-node.ensures at c.in_ok-found.ensures) c.in_ok-put_found.ensures

pub returns : goal.returns
returns c =
    let same : c.loop-number.number ≡ length c.args.setting.now.terms.now.nodes = omega arith in
    subst (λ (n : ℕ). AreNormalTerms c.args.setting.now.state.now c.args.setting.now.terms.now.nodes c.args.setting.now.classes.now.lists n c.loop-number.all)
    same c.loop-number.invariant
