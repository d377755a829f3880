-- The drafts of planned posts.
use Rattle.std.specs.Prelude.{ℕ, ◌+◌, List, [], ◌∷◌, ◌++◌, All}
use Rattle.std.proofs.Common.{inl, inr, sym, subst}
use Rattle.std.proofs.lemmas.List.Elements.{All-head, All-tail}
use Rattle.grind_term_graph.specs.declared.node.Node.{Node}
use Rattle.grind_cutsat_facts.specs.declared.facts.Fact.{Fact}
use Rattle.grind_cutsat_facts.specs.Facts.{fact_of}
use Rattle.grind_cutsat_units.specs.declared.types.Planned.{Planned}
use Rattle.grind_cutsat_units.specs.declared.types.Draft.{Draft}
use Rattle.grind_cutsat_units.specs.Posts.{AreDrafts, IsTyped, AreTypedDrafts}
use Rattle.grind_cutsat_units.specs.Laws.{DraftsAreTyped}

typed_from : (nodes : List Node) (posts : List Planned) (facts : List Fact) (next : ℕ) (drafts : List Draft)
    → All (IsTyped nodes) posts → AreDrafts facts next posts drafts → AreTypedDrafts nodes facts next drafts
typed_from nodes [] facts next drafts each are = subst (AreTypedDrafts nodes facts next) (sym are) tt
typed_from nodes (it ∷ rest) facts next drafts each are = elim are [
  | inl left ↦ typed_from nodes rest facts next drafts (All-tail (IsTyped nodes) it rest each) left.1
  | inr here ↦
      let one = All-head (IsTyped nodes) it rest each in
      subst (AreTypedDrafts nodes facts next) (sym here.3) (
        (it.premises, here.4, one.formed, one.rule),
        typed_from nodes rest (facts ++ fact_of next it.claim ∷ []) (next + 1) here.2 (All-tail (IsTyped nodes) it rest each) here.5,
      )
]

pub drafts_are_typed : DraftsAreTyped
drafts_are_typed nodes facts next posts drafts typed are = typed_from nodes posts facts next drafts typed.each are
