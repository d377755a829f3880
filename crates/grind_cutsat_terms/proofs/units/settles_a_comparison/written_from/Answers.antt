use Rattle.std.proofs.Common.{List, [], ◌∷◌, sym, ◌∙◌, subst}
use Rattle.std.specs.Prelude.{MatchOption}
use Rattle.std.proofs.lemmas.Bool.{false≢true}
use Rattle.grind_claims.specs.declared.claim.Claim.{Claim}
use Rattle.grind_claims.specs.declared.claim.Claim.TheVariants.{AtMost}
use Rattle.grind_claims.specs.declared.proof.Rule.TheVariants.{Write}
use Rattle.grind_cutsat_facts.specs.Facts.{Stands}
use Rattle.grind_cutsat_units.specs.declared.types.Planned.{Planned}
use Rattle.grind_cutsat_units.specs.Posts.{planned, Rest, AllStand, IsCaseOf}
use Rattle.grind_cutsat_units.proofs.PassingLemmas.{found_by}
use Rattle.grind_cutsat_terms.specs.Settling.{WriteGives}
use Rattle.grind_cutsat_terms.proofs.SettleLemmas.{rests_on, unless_written, write_case, write_once}
use Rattle.grind_cutsat_terms.proofs.units.settles_a_comparison.written_from.Goals as goal

pub drafted-requires : goal.drafted-requires
drafted-requires c =
    subst (λ (posts : List Planned). Rest c.args.view.now.facts.now [] posts) (sym (c.as_slice.ensures.value ∙ c.in_ok-posts.ensures))
    (rests_on c.args.view.now.facts.now c.args.literal.now (AtMost c.in-AtMost.form) Write
    (subst (λ (claim : Claim). Stands c.args.view.now.facts.now claim) c.in-AtMost.is c.requires))

pub returns-then-not-writes : goal.returns-then-not-writes
returns-then-not-writes c = λ posts gives.
    absurd (unless_written c.args.view.now.terms.now.nodes c.args.claim.now c.in-AtMost.form c.in-AtMost.is c.args.literal.now
    (λ write. false≢true (sym c.if-not-writes.true ∙ c.in_ok-writes.ensures.1 write)) posts gives)

pub returns : goal.returns
returns c =
    found_by c.args.view.now.facts.now c.args.view.now.next (WriteGives c.args.view.now.terms.now.nodes c.args.literal.now c.args.claim.now)
    (planned c.args.literal.now Write (AtMost c.in-AtMost.form ∷ []) ∷ [])
    (write_case c.args.view.now.terms.now.nodes c.args.claim.now c.in-AtMost.form c.in-AtMost.is c.args.literal.now
    (c.in_ok-writes.ensures.0 c.if-not-writes.false))
    (write_once c.args.view.now.terms.now.nodes c.args.claim.now c.in-AtMost.form c.in-AtMost.is c.args.literal.now)
    c.in_ok-drafts.drafts
    (subst (λ (posts : List Planned). MatchOption c.in_ok-drafts.drafts (AllStand c.args.view.now.facts.now posts)
    (λ drafts. IsCaseOf c.args.view.now.facts.now c.args.view.now.next posts drafts)) (c.as_slice.ensures.value ∙ c.in_ok-posts.ensures)
    c.in_ok-drafts.ensures)
