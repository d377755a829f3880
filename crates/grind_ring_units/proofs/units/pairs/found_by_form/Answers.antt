use Rattle.std.proofs.Common.{inr, sym, ◌∙◌}
use Rattle.std.proofs.lemmas.Bool.{false≢true}
use Rattle.grind_ring_units.proofs.ZeroedLemmas.{pair_reducible, pair_done, zero_settled}
use Rattle.grind_ring_units.proofs.units.pairs.found_by_form.Goals as goal

pub returns-then-is_zero : goal.returns-then-is_zero
returns-then-is_zero c =
    zero_settled c.args.state.now.basis c.args.places c.args.pair.now c.args.normal c.requires.rising c.requires.pair
    c.terms-terms.ensures.keeps c.requires.normal (c.is_zero.ensures.0 c.if-is_zero.true)

pub returns-then-is_claimed : goal.returns-then-is_claimed
returns-then-is_claimed c =
    pair_done c.args.state.now c.args.places c.args.pair.now c.args.normal c.requires.rising c.requires.pair c.requires.normal
    (inr (c.is_claimed.ensures.0 c.if-is_claimed.true))

pub returns-in_default : goal.returns-in_default
returns-in_default c =
    inr (inr (
      c.args.pair.now,
      c.args.normal.rest,
      pair_reducible c.args.state.now c.args.places c.args.pair.now c.args.normal c.requires.rising c.requires.pair c.requires.normal
          (λ none. false≢true (sym c.if-is_zero.false ∙ c.is_zero.ensures.1 none))
          (λ claimed. false≢true (sym c.if-is_claimed.false ∙ c.is_claimed.ensures.1 claimed)),
      rw c.in_default.is at c.in_ok-line.ensures,
    ))

pub returns : goal.returns
returns c = (
  c.args.pair.now,
  record {
    reducible =
        pair_reducible c.args.state.now c.args.places c.args.pair.now c.args.normal c.requires.rising c.requires.pair c.requires.normal
        (λ none. false≢true (sym c.if-is_zero.false ∙ c.is_zero.ensures.1 none))
        (λ claimed. false≢true (sym c.if-is_claimed.false ∙ c.is_claimed.ensures.1 claimed));
    line_is = rw c.in-Some.is at c.in_ok-line.ensures;
  },
)
