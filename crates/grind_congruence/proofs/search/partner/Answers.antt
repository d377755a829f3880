use Rattle.grind_congruence.specs.Searching.{IsPair}
use Rattle.std.specs.Prelude.{ℕ, length, refl}
use Rattle.std.proofs.Common.{arith, sym, ◌∙◌}
use Rattle.std.proofs.lemmas.Bool.{false≢true}
use Rattle.grind_congruence.proofs.SearchLemmas.{below_next, no_partner}
use Rattle.grind_congruence.proofs.search.partner.Goals as goal

pub loop-number-preserved : goal.loop-number-preserved
loop-number-preserved c =
    below_next (λ (b : ℕ). IsPair c.args.classes.now.lists c.args.terms.now.nodes c.args.a b → ⊥) c.loop-number.number c.loop-number.invariant
    (λ pair. false≢true (sym c.if-is_pair.false ∙ c.is_pair.ensures.1 (rw c.new-b.ensures pair)))

pub returns-clause-none : goal.returns-clause-none
returns-clause-none c = λ _ b below.
    no_partner c.args.classes.now.lists c.args.terms.now.nodes c.args.a (length c.args.terms.now.nodes) c.requires.fits refl
    (λ k less. c.loop-number.invariant k (omega (arith, less))) b below
