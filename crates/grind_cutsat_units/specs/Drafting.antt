-- What is kept while the drafts of a case are made. No public clause cites these words.
use Rattle.std.specs.Prelude.{◌≡◌, ◌⊎◌, ℕ, ◌+◌, List, [], ◌∷◌, ◌++◌, length, Contains}
use Rattle.grind_claims.specs.declared.claim.Claim.{Claim}
use Rattle.grind_cutsat_facts.specs.declared.facts.Fact.{Fact}
use Rattle.grind_cutsat_facts.specs.Facts.{fact_of, Stands}
use Rattle.grind_cutsat_units.specs.declared.types.Planned.{Planned}
use Rattle.grind_cutsat_units.specs.declared.types.Draft.{Draft}
use Rattle.grind_cutsat_units.specs.Posts.{draft_of, AreSaid, AreDrafts, Rest}

-- the drafts as facts, numbered from here on
abbrev pub facts_of : ℕ → List Draft → List Fact
facts_of next [] = []
facts_of next (draft ∷ rest) = fact_of next draft.claim ∷ facts_of (next + 1) rest

-- the facts, and then the drafts
abbrev pub with_drafts : List Fact → ℕ → List Draft → List Fact
with_drafts facts next drafts = facts ++ facts_of next drafts

-- the claim stands, and nothing changed; or it does not, and its draft is the last
abbrev pub IsPut : List Fact → ℕ → Planned → List Draft → List Draft → Type 0
IsPut facts next it old new =
    (Stands (with_drafts facts next old) it.claim × (new ≡ old))
    ⊎ ((¬ Stands (with_drafts facts next old) it.claim) × (from : List ℕ) × (new ≡ old ++ draft_of it from ∷ [])
    × AreSaid (with_drafts facts next old) from it.premises)

-- the drafts of the first posts are made; whatever is written for the rest completes the whole
pub record IsHalfDrafted (facts : List Fact) (next : ℕ) (posts rest : List Planned) (drafts : List Draft) : Type 0 where
  pub completes : (others : List Draft) → AreDrafts (with_drafts facts next drafts) (next + length drafts) rest others
      → AreDrafts facts next posts (drafts ++ others)
  pub supported : (earlier : List Claim) × Rest facts earlier rest
      × ((claim : Claim) → Contains earlier claim → Stands (with_drafts facts next drafts) claim)
