use Rattle.std.proofs.Common.{◌≡◌, ◌↔◌, ◌⊎◌, inl, inr, ℕ, List, [], ◌∷◌, Option, Some, None, ℤ, IsTrue, pos, refl, sym, ap, ◌∙◌, subst}
use Rattle.std.proofs.lemmas.Bool.{false≢true}
use Rattle.grind_claims.specs.declared.claim.Claim.TheVariants.{AtMost}
use Rattle.grind_cutsat_evidence.proofs.PairLemmas.{iff_via, at_lower}
use Rattle.grind_cutsat_evidence.proofs.pairs.is_unresolved.Goals as goal

pub returns : goal.returns
returns c =
    iff_via c.in_ok-unresolved.ensures (at_lower c.args.upper.now c.in-AtMost.lower c.args.claim.now c.in-AtMost.is)
