use Rattle.std.proofs.Common.{◌≡◌, ◌↔◌, ◌⊎◌, inl, inr, ℕ, List, [], ◌∷◌, Option, Some, None, IsTrue, pos, refl, sym, ap, ◌∙◌, subst}
use Rattle.std.proofs.lemmas.Bool.{false≢true}
use Rattle.grind_cutsat_evidence.proofs.unread.is_unread_same.Goals as goal

pub returns-then-not-is_number : goal.returns-then-not-is_number
returns-then-not-is_number c =
    (λ yes. absurd (false≢true yes), λ h. absurd (false≢true (sym c.if-not-is_number.true ∙ c.is_number.ensures.1 h.0)))

pub returns-then-one : goal.returns-then-one
returns-then-one c =
    (λ yes. (c.is_number.ensures.0 c.if-not-is_number.false, inl (c.in_ok-one.ensures.0 c.if-one.true)), λ h. refl)

pub returns : goal.returns
returns c = (
  λ yes. (c.is_number.ensures.0 c.if-not-is_number.false, inr (c.in_ok-other.ensures.0 yes)),
  λ h. elim h.1 [
    | inl first ↦ absurd (false≢true (sym c.if-one.false ∙ c.in_ok-one.ensures.1 first))
    | inr second ↦ c.in_ok-other.ensures.1 second
  ],
)
