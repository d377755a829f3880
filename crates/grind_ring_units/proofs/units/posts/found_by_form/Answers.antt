use Rattle.std.proofs.Common.{inl, inr, sym, ◌∙◌}
use Rattle.std.proofs.lemmas.Bool.{false≢true}
use Rattle.grind_ring_units.proofs.ZeroedLemmas.{reducible_of}
use Rattle.grind_ring_units.proofs.units.posts.found_by_form.Goals as goal

pub returns-then-is_zero : goal.returns-then-is_zero
returns-then-is_zero c = (c.args.normal, c.requires.normal, inl (c.is_zero.ensures.0 c.if-is_zero.true))

pub returns-then-is_same_poly : goal.returns-then-is_same_poly
returns-then-is_same_poly c = record {
  nonzero = λ none. false≢true (sym c.if-is_zero.false
      ∙ c.is_zero.ensures.1 (c.is_same_poly.ensures.0 c.if-is_same_poly.true ∙ none));
  normal = c.args.normal;
  normal_is = c.requires.normal;
  own = c.is_same_poly.ensures.0 c.if-is_same_poly.true;
}

pub returns-then-is_claimed : goal.returns-then-is_claimed
returns-then-is_claimed c = (
  c.args.normal,
  c.requires.normal,
  inr (
    λ same. false≢true (sym c.if-is_same_poly.false ∙ c.is_same_poly.ensures.1 same),
    c.is_claimed.ensures.0 c.if-is_claimed.true,
  ),
)

pub returns-in_default : goal.returns-in_default
returns-in_default c =
    inr (
      c.args.normal.rest,
      reducible_of c.args.state.now c.args.it.now c.args.normal c.requires.normal
          (λ none. false≢true (sym c.if-is_zero.false ∙ c.is_zero.ensures.1 none))
          (λ same. false≢true (sym c.if-is_same_poly.false ∙ c.is_same_poly.ensures.1 same))
          (λ claimed. false≢true (sym c.if-is_claimed.false ∙ c.is_claimed.ensures.1 claimed)),
      rw c.in_default.is at c.in_ok-line.ensures,
    )

pub returns : goal.returns
returns c = record {
  reducible =
      reducible_of c.args.state.now c.args.it.now c.args.normal c.requires.normal
      (λ none. false≢true (sym c.if-is_zero.false ∙ c.is_zero.ensures.1 none))
      (λ same. false≢true (sym c.if-is_same_poly.false ∙ c.is_same_poly.ensures.1 same))
      (λ claimed. false≢true (sym c.if-is_claimed.false ∙ c.is_claimed.ensures.1 claimed));
  line_is = rw c.in-Some.is at c.in_ok-line.ensures;
}
