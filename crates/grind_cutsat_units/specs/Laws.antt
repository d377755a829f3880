-- What each case lets be said, by which rule and from what.
use Rattle.std.specs.Prelude.{ℕ, List, [], ◌∷◌}
use Rattle.grind_term_graph.specs.Shape.{IsTable}
use Rattle.grind_term_graph.specs.declared.node.Node.{Node}
use Rattle.grind_claims.specs.Claims.{IsFormed}
use Rattle.grind_claims.specs.declared.claim.Claim.{Claim}
use Rattle.grind_claims.specs.declared.claim.Claim.TheVariants.{Same, AtMost, Absurd}
use Rattle.grind_claims.specs.declared.proof.Rule.TheVariants.{Pinch, Clash}
use Rattle.grind_cutsat_facts.specs.declared.facts.Fact.{Fact}
use Rattle.grind_cutsat_facts.specs.Facts.{IsSaid}
use Rattle.grind_linear_forms.specs.Forms.{FormData}
use Rattle.grind_cutsat_assignment.specs.Given.{Given, Fits}
use Rattle.grind_cutsat_units.specs.declared.types.Planned.{Planned}
use Rattle.grind_cutsat_units.specs.declared.types.Draft.{Draft}
use Rattle.grind_cutsat_units.specs.Posts.{AreDrafts, Allows, AreTyped, AreTypedDrafts}
use Rattle.grind_cutsat_units.specs.Comparisons.{ReadsComparison}
use Rattle.grind_cutsat_units.specs.Equalities.{ReadsEquality}
use Rattle.grind_cutsat_units.specs.Equations.{ReadsEquation}
use Rattle.grind_cutsat_units.specs.Cuts.{CutsBound, ResolvesBounds}
use Rattle.grind_cutsat_units.specs.Clashes.{Clashes}
use Rattle.grind_cutsat_units.specs.Pinches.{Pinches}
use Rattle.grind_cutsat_units.specs.Strictness.{Strengthens}
use Rattle.grind_cutsat_units.specs.Settled.{Settles}

-- the posts of each case of this kind are typed, where what is given fits together over a table of terms
abbrev pub CasesAreTyped : (Given → List Planned → Type 0) → Type 0
CasesAreTyped Case = (it : Given) (posts : List Planned) → Fits it → IsTable [] it.nodes → Case it posts → AreTyped it.nodes it.facts posts

-- a known comparison is read by the rule `read`
abbrev pub ComparisonsAreTyped : Type 0
ComparisonsAreTyped = CasesAreTyped (λ it posts. (post : ℕ) × ReadsComparison it post posts)

-- an equality by `line`, turned round by `sym`, and by `line` again
abbrev pub EqualitiesAreTyped : Type 0
EqualitiesAreTyped = CasesAreTyped (λ it posts. (post : ℕ) × ReadsEquality it post posts)

-- an equation by `combine`
abbrev pub EquationsAreTyped : Type 0
EquationsAreTyped = CasesAreTyped (λ it posts. (post : ℕ) × ReadsEquation it post posts)

-- a bound is cut by `combine`
abbrev pub CutsAreTyped : Type 0
CutsAreTyped = CasesAreTyped (λ it posts. (post : ℕ) × CutsBound it post posts)

-- and two are resolved by it
abbrev pub ResolutionsAreTyped : Type 0
ResolutionsAreTyped = CasesAreTyped (λ it posts. (above : ℕ) × (below : ℕ) × ResolvesBounds it above below posts)

-- a bound is made strict by `strict`
abbrev pub StrictBoundsAreTyped : Type 0
StrictBoundsAreTyped = CasesAreTyped Strengthens

-- a comparison is settled by `write`, from a fact or from a number that `combine` gives from nothing; an equation by `apart`
abbrev pub SettledAreTyped : Type 0
SettledAreTyped = CasesAreTyped Settles

-- a bound that cannot be contradicts itself, by `clash`
abbrev pub ClashesAreTyped : Type 0
ClashesAreTyped = (it : Given) (post : ℕ) → Clashes it post
    → (claim : Claim) × IsSaid it.facts post claim × Allows it.nodes Clash (claim ∷ []) Absurd

-- two terms that are pinched are equal, by `pinch`
abbrev pub PinchesAreTyped : Type 0
PinchesAreTyped = (it : Given) (a b above below : ℕ) → Pinches it a b above below
    → (form : FormData) × (other : FormData) × IsSaid it.facts above (AtMost form) × IsSaid it.facts below (AtMost other)
    × IsFormed it.nodes (Same a b) × Allows it.nodes Pinch (AtMost form ∷ AtMost other ∷ []) (Same a b)

-- the drafts of typed posts are typed, each from the posts that it names
abbrev pub DraftsAreTyped : Type 0
DraftsAreTyped = (nodes : List Node) (facts : List Fact) (next : ℕ) (posts : List Planned) (drafts : List Draft)
    → AreTyped nodes facts posts → AreDrafts facts next posts drafts → AreTypedDrafts nodes facts next drafts
