-- The posts of a case, and the drafts that are answered: those whose claim does not stand, in order.
use Rattle.std.specs.Prelude.{◌≡◌, ◌≢◌, ◌⊎◌, ℕ, ◌+◌, List, [], ◌∷◌, ◌++◌, Option, Some, None, All, Contains}
use Rattle.grind_term_graph.specs.declared.node.Node.{Node}
use Rattle.grind_schemes.specs.Goals.{GoalData}
use Rattle.grind_schemes.specs.declared.lemmas.Lemmas.{Lemmas}
use Rattle.grind_claims.specs.declared.claim.Claim.{Claim}
use Rattle.grind_claims.specs.declared.proof.Rule.{Rule}
use Rattle.grind_claims.specs.Claims.{IsFormed}
use Rattle.grind_rules.specs.Rules.{RuleAllows}
use Rattle.grind_cutsat_facts.specs.declared.facts.Fact.{Fact}
use Rattle.grind_cutsat_facts.specs.Facts.{fact_of, IsSaid, Stands}
use Rattle.grind_cutsat_units.specs.declared.types.Planned.{Planned}
use Rattle.grind_cutsat_units.specs.declared.types.Draft.{Draft}

-- a post of a case: what it claims, by which rule, from which claims
abbrev pub planned : Claim → Rule → List Claim → Planned
planned claim rule premises = record { claim = claim; rule = rule; premises = premises }

-- the same as a draft, once it is known which posts say the premises
abbrev pub draft_of : Planned → List ℕ → Draft
draft_of it from = record { claim = it.claim; rule = it.rule; from = from }

-- the posts say these claims, one by one
abbrev pub AreSaid : List Fact → List ℕ → List Claim → Type 0
AreSaid facts [] [] = Unit {0}
AreSaid facts [] (claim ∷ claims) = ⊥
AreSaid facts (post ∷ posts) [] = ⊥
AreSaid facts (post ∷ posts) (claim ∷ claims) = IsSaid facts post claim × AreSaid facts posts claims

-- the drafts of the posts of a case, numbered from here on. A post whose claim stands is left out; a draft stands as a fact for
-- the posts after it, so that what rests on a left-out post cites the post that stands.
abbrev pub AreDrafts : List Fact → ℕ → List Planned → List Draft → Type 0
AreDrafts facts next [] drafts = drafts ≡ []
AreDrafts facts next (it ∷ rest) drafts =
    (Stands facts it.claim × AreDrafts facts next rest drafts)
    ⊎ ((¬ Stands facts it.claim) × (from : List ℕ) × (others : List Draft) × (drafts ≡ draft_of it from ∷ others)
    × AreSaid facts from it.premises × AreDrafts (facts ++ fact_of next it.claim ∷ []) (next + 1) rest others)

-- a case of these posts applies, with these drafts: not all of them are left out
abbrev pub IsCaseOf : List Fact → ℕ → List Planned → List Draft → Type 0
IsCaseOf facts next posts drafts = AreDrafts facts next posts drafts × (drafts ≢ [])

-- it does not: each claim stands
abbrev pub AllStand : List Fact → List Planned → Type 0
AllStand facts [] = Unit {0}
AllStand facts (it ∷ rest) = Stands facts it.claim × AllStand facts rest

-- each case of this kind has nothing new
abbrev pub NoCase : List Fact → (List Planned → Type 0) → Type 0
NoCase facts Case = (posts : List Planned) → Case posts → AllStand facts posts

-- a case of this kind has these drafts
abbrev pub HasCase : List Fact → ℕ → (List Planned → Type 0) → List Draft → Type 0
HasCase facts next Case drafts = (posts : List Planned) × Case posts × IsCaseOf facts next posts drafts

-- the drafts of a case of this kind, where one has anything new
abbrev pub IsFound : List Fact → ℕ → (List Planned → Type 0) → Option (List Draft) → Type 0
IsFound facts next Case None = NoCase facts Case
IsFound facts next Case (Some drafts) = HasCase facts next Case drafts

-- the posts that a claim gives, where the post of this number says the claim
abbrev pub AtFact : List Fact → (Claim → List Planned → Type 0) → ℕ → List Planned → Type 0
AtFact facts Gives post posts = (claim : Claim) × IsSaid facts post claim × Gives claim posts

-- where some post says it
abbrev pub AtSomeFact : List Fact → (Claim → List Planned → Type 0) → List Planned → Type 0
AtSomeFact facts Gives posts = (post : ℕ) × AtFact facts Gives post posts

-- each premise of a post is said by a fact, or claimed by an earlier post of the case
abbrev pub Rest : List Fact → List Claim → List Planned → Type 0
Rest facts earlier [] = Unit {0}
Rest facts earlier (it ∷ rest) =
    All (λ premise. Stands facts premise ⊎ Contains earlier premise) it.premises × Rest facts (earlier ++ it.claim ∷ []) rest

-- the rule allows the claim from these premises, whatever theorems and goal are given and whatever the branch assumes
abbrev pub Allows : List Node → Rule → List Claim → Claim → Type 0
Allows nodes rule premises claim =
    (lemmas : Lemmas) (goal : GoalData) (literal : Option Claim) → RuleAllows lemmas goal nodes literal rule premises claim

-- the post is typed by its rule: its claim is well formed, and the rule allows it from its premises
pub record IsTyped (nodes : List Node) (it : Planned) : Type 0 where
  pub formed : IsFormed nodes it.claim
  pub rule : Allows nodes it.rule it.premises it.claim

-- the posts of a case are typed, and each rests on facts and on the posts before it
pub record AreTyped (nodes : List Node) (facts : List Fact) (posts : List Planned) : Type 0 where
  pub each : All (IsTyped nodes) posts
  pub rest : Rest facts [] posts

-- the draft is typed by its rule, from what the posts that it names say
abbrev pub IsTypedDraft : List Node → List Fact → Draft → Type 0
IsTypedDraft nodes facts draft = (claims : List Claim) × AreSaid facts draft.from claims
    × IsFormed nodes draft.claim × Allows nodes draft.rule claims draft.claim

-- each of the drafts is, where those before it stand as facts, numbered from here on
abbrev pub AreTypedDrafts : List Node → List Fact → ℕ → List Draft → Type 0
AreTypedDrafts nodes facts next [] = Unit {0}
AreTypedDrafts nodes facts next (draft ∷ rest) = IsTypedDraft nodes facts draft
    × AreTypedDrafts nodes (facts ++ fact_of next draft.claim ∷ []) (next + 1) rest
