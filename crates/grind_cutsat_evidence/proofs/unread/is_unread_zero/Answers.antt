use Rattle.std.proofs.Common.{◌≡◌, ◌↔◌, ◌⊎◌, inl, inr, ℕ, List, [], ◌∷◌, Option, Some, None, IsTrue, pos, refl, sym, ap, ◌∙◌, subst}
use Rattle.std.proofs.lemmas.Bool.{false≢true}
use Rattle.std.proofs.lemmas.Option.{none-some, same_Some}
use Rattle.grind_cutsat_evidence.proofs.UnreadLemmas.{zero_by}
use Rattle.grind_cutsat_evidence.proofs.unread.is_unread_zero.Goals as goal

pub returns-in_default : goal.returns-in_default
returns-in_default c = (
  λ yes. absurd (false≢true yes),
  λ h. absurd (none-some h.0 (sym c.in_default.is ∙ c.in_ok-linear.ensures ∙ h.2)),
)

pub returns-then-plain : goal.returns-then-plain
returns-then-plain c =
    let is = zero_by c.args.poly.now c.in-Some._form (sym c.in_ok-linear.ensures ∙ c.in-Some.is) in
    (λ yes. is.0 (inl (c.in_ok-plain.ensures.0 c.if-plain.true)), λ h. refl)

pub returns : goal.returns
returns c =
    let is = zero_by c.args.poly.now c.in-Some._form (sym c.in_ok-linear.ensures ∙ c.in-Some.is) in (
      λ yes. is.0 (inr (c.in_ok-negated.ensures.0 yes)),
      λ h. elim (is.1 h) [
        | inl plain ↦ absurd (false≢true (sym c.if-plain.false ∙ c.in_ok-plain.ensures.1 plain))
        | inr negated ↦ c.in_ok-negated.ensures.1 negated
      ],
    )
