use Rattle.std.proofs.Common.{List, [], ◌∷◌, Option, sym, ◌∙◌, subst}
use Rattle.std.specs.Prelude.{MatchOption}
use Rattle.std.proofs.lemmas.Bool.{false≢true}
use Rattle.grind_linear_forms.specs.Forms.{FormData}
use Rattle.grind_claims.specs.declared.claim.Claim.TheVariants.{Differ, AtMost}
use Rattle.grind_claims.specs.declared.proof.Rule.TheVariants.{Apart}
use Rattle.grind_arithmetic_rules.specs.LinearRules.{IsRead}
use Rattle.grind_cutsat_units.specs.declared.types.Planned.{Planned}
use Rattle.grind_cutsat_units.specs.Posts.{planned, Rest, AllStand, IsCaseOf}
use Rattle.grind_cutsat_units.proofs.PassingLemmas.{found_by}
use Rattle.grind_cutsat_terms.specs.Settling.{ReadingGives, read_posts}
use Rattle.grind_cutsat_terms.proofs.SettleLemmas.{read_rests, unless_low, reading_case, reading_once}
use Rattle.grind_cutsat_terms.proofs.units.settles_a_comparison.settled_by_reading.Goals as goal

pub drafted-requires : goal.drafted-requires
drafted-requires c =
    subst (λ (posts : List Planned). Rest c.args.view.now.facts.now [] posts) (sym (c.as_slice.ensures.value ∙ c.in_ok-posts.ensures))
    (read_rests c.args.view.now.facts.now c.args.literal.now c.in-Some.form)

pub returns-in_default : goal.returns-in_default
returns-in_default c =
    let none = subst (λ (found : Option FormData). MatchOption found
    ((form : FormData) → ¬ IsRead c.args.view.now.terms.now.nodes (c.args.literal.now ∷ []) (AtMost form))
    (λ form. IsRead c.args.view.now.terms.now.nodes (c.args.literal.now ∷ []) (AtMost form))) c.in_default.is c.in_ok-form.ensures in
    λ posts gives. absurd (none gives.0 gives.1)

pub returns-then-not-is_low : goal.returns-then-not-is_low
returns-then-not-is_low c = λ posts gives.
    let read = subst (λ (found : Option FormData). MatchOption found
    ((form : FormData) → ¬ IsRead c.args.view.now.terms.now.nodes (c.args.literal.now ∷ []) (AtMost form))
    (λ form. IsRead c.args.view.now.terms.now.nodes (c.args.literal.now ∷ []) (AtMost form))) c.in-Some.is c.in_ok-form.ensures in
    absurd (unless_low c.args.view.now.terms.now.nodes c.args.literal.now c.in-Some.form read
    (λ low. false≢true (sym c.if-not-is_low.true ∙ c.is_low.ensures.1 low)) posts gives)

pub returns : goal.returns
returns c =
    let read = subst (λ (found : Option FormData). MatchOption found
    ((form : FormData) → ¬ IsRead c.args.view.now.terms.now.nodes (c.args.literal.now ∷ []) (AtMost form))
    (λ form. IsRead c.args.view.now.terms.now.nodes (c.args.literal.now ∷ []) (AtMost form))) c.in-Some.is c.in_ok-form.ensures in
    found_by c.args.view.now.facts.now c.args.view.now.next (ReadingGives c.args.view.now.terms.now.nodes c.args.literal.now)
    (read_posts c.args.literal.now c.in-Some.form)
    (reading_case c.args.view.now.terms.now.nodes c.args.literal.now c.in-Some.form read (c.is_low.ensures.0 c.if-not-is_low.false))
    (reading_once c.args.view.now.terms.now.nodes c.args.literal.now c.in-Some.form read)
    c.in_ok-drafts.drafts
    (subst (λ (posts : List Planned). MatchOption c.in_ok-drafts.drafts (AllStand c.args.view.now.facts.now posts)
    (λ drafts. IsCaseOf c.args.view.now.facts.now c.args.view.now.next posts drafts)) (c.as_slice.ensures.value ∙ c.in_ok-posts.ensures)
    c.in_ok-drafts.ensures)
