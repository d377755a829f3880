use Rattle.std.proofs.Common.{true≢false, sym, ◌∙◌}
use Rattle.std.proofs.lemmas.Bool.{false≢true}
use Rattle.grind_ring_units.proofs.EqualLemmas.{same_normals, alike_answer}
use Rattle.grind_ring_units.proofs.units.equal_terms.alike.Goals as goal

pub returns-then-same : goal.returns-then-same
returns-then-same c = λ poly alike. alike.apart (c.same.ensures.0 c.if-same.true)

pub returns-then-is_taken_as_equal : goal.returns-then-is_taken_as_equal
returns-then-is_taken_as_equal c = λ poly alike. alike.not_taken (c.is_taken_as_equal.ensures.0 c.if-is_taken_as_equal.true)

pub returns-then-not-is_same_normal : goal.returns-then-not-is_same_normal
returns-then-not-is_same_normal c = λ poly alike.
    true≢false (sym (c.is_same_normal.ensures.1
    (same_normals c.args.setting.now.state.now c.args.setting.now.terms.now.nodes c.args.setting.now.classes.now.lists
    c.args.pair.now.first.now.node c.args.pair.now.second.now.node c.args.pair.now.first.now.normal c.args.pair.now.second.now.normal
    c.requires.first c.requires.second poly alike)) ∙ c.if-not-is_same_normal.true)

pub returns : goal.returns
returns c =
    alike_answer c.args.setting.now.state.now c.args.setting.now.terms.now.nodes c.args.setting.now.classes.now.lists
    c.args.pair.now.first.now.node c.args.pair.now.second.now.node c.args.pair.now.first.now.normal c.args.pair.now.second.now.normal
    c.requires.first c.requires.second
    (λ together. false≢true (sym c.if-same.false ∙ c.same.ensures.1 together))
    (λ taken. false≢true (sym c.if-is_taken_as_equal.false ∙ c.is_taken_as_equal.ensures.1 taken))
    (c.is_same_normal.ensures.0 c.if-not-is_same_normal.false)
    c.in_ok-found.found c.in_ok-found.ensures
