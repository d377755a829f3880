use Rattle.std.proofs.Common.{sym, ◌∙◌}
use Rattle.std.proofs.lemmas.Bool.{false≢true}
use Rattle.grind_cutsat_cuts.proofs.DivisorLemmas.{found_divisor}
use Rattle.grind_cutsat_cuts.proofs.divisor.divisor_of.Goals as goal

pub returns : goal.returns
returns c =
    found_divisor c.args.parts.now c.shared.result (λ none. false≢true (rw none at (sym c.if-is_empty.false ∙ c.is_empty.ensures))) c.shared.ensures
    c.as_positive.result c.as_positive.ensures
