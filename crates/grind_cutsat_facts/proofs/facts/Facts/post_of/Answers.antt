use Rattle.std.proofs.Common.{ℕ, List, ◌∙◌, subst}
use Rattle.std.specs.Prelude.{IsNone}
use Rattle.grind_cutsat_facts.specs.declared.facts.Fact.{Fact}
use Rattle.grind_cutsat_facts.specs.Facts.{IsSaid}
use Rattle.grind_cutsat_facts.proofs.facts.Facts.post_of.Goals as goal

pub returns-clause-none : goal.returns-clause-none
returns-clause-none c =
    subst (λ (facts : List Fact). IsNone c.post_among.result → (post : ℕ) → ¬ IsSaid facts post c.args.claim.now)
    (c.as_slice.ensures.value ∙ c.self.view_is) c.post_among.ensures.none
