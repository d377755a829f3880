-- Terms that are said to differ, fact by fact.
use Rattle.std.proofs.Common.{◌≡◌, inl, inr, ℕ, List, [], ◌∷◌, length, ℤ, Option, Some, None, arith, refl, sym, ap, ◌∙◌, subst}
use Rattle.std.proofs.lemmas.Option.{none-some, same_Some}
use Rattle.grind_term_graph.specs.declared.node.Node.{Node}
use Rattle.grind_linear_forms.specs.Forms.{FormData}
use Rattle.grind_claims.specs.declared.claim.Claim.{Claim}
use Rattle.grind_claims.specs.declared.claim.Claim.TheVariants.{Differ}
use Rattle.grind_cutsat_facts.specs.declared.facts.Fact.{Fact}
use Rattle.grind_cutsat_facts.specs.Facts.{fact_of, IsSaid}
use Rattle.grind_cutsat_facts.proofs.FactLemmas.{none_listed, first_or_rest, at_first, in_rest}
use Rattle.grind_cutsat_assignment.specs.Given.{SaysDiffer}
use Rattle.grind_cutsat_assignment.specs.Assignments.{read_value}
use Rattle.grind_cutsat_assignment.specs.Walks.{IsInt}
use Rattle.grind_cutsat_assignment.specs.declared.differences.Judgement.{Judgement}
use Rattle.grind_cutsat_assignment.specs.declared.differences.Judgement.TheVariants as judgements
use Rattle.grind_cutsat_assignment.specs.Judgements.{IsJudged, IsReadFor, AreReadFor, SaysOf, NoneSaysOf, Parts, AreUnfit, AreEqual, AreApart}

module _ (nodes : List Node) where
  -- the fact at hand, and those that are left
  module _ (rest tail : List Fact) (fact : Fact) (is : rest ≡ fact ∷ tail) where
    pub here : (a b : ℕ) → fact.claim ≡ Differ a b → IsInt nodes a → SaysDiffer rest nodes fact.post a b
    here a b e int = (
      subst (λ (xs : List Fact). IsSaid xs fact.post (Differ a b)) (sym is)
          (subst (λ (claim : Claim). IsSaid (fact ∷ tail) fact.post claim) e (at_first fact tail)),
      int,
    )

    pub later : (post a b : ℕ) → SaysDiffer tail nodes post a b → SaysDiffer rest nodes post a b
    later post a b h = (
      subst (λ (xs : List Fact). IsSaid xs post (Differ a b)) (sym is) (in_rest fact tail (fact_of post (Differ a b)) h.0),
      h.1,
    )

    by_cases : (P : Type 0) (post a b : ℕ) → SaysDiffer rest nodes post a b → (fact.claim ≡ Differ a b → IsInt nodes a → P)
        → (SaysDiffer tail nodes post a b → P) → P
    by_cases P post a b h first more =
        elim (first_or_rest fact tail (fact_of post (Differ a b)) (subst (λ (xs : List Fact). IsSaid xs post (Differ a b)) is h.0)) [
          | inl same ↦ first (ap (λ (it : Fact). it.claim) same) h.1
          | inr there ↦ more (there, h.1)
        ]

    pub read_here : (forms : List (Option FormData)) → AreReadFor nodes forms rest → IsReadFor nodes forms fact.claim
    read_here forms read a b e int = read fact.post a b (here a b e int)

    pub read_later : (forms : List (Option FormData)) → AreReadFor nodes forms rest → AreReadFor nodes forms tail
    read_later forms read post a b h = read post a b (later post a b h)

    -- a fact of which it holds
    pub found_here : (facts : List Fact) (P : ℕ → ℕ → Type 0) → ((post a b : ℕ) → SaysDiffer rest nodes post a b → SaysDiffer facts nodes post a b)
        → Parts nodes fact.claim P → SaysOf facts nodes P fact.post
    found_here facts P so_far h = (h.0, h.1, so_far fact.post h.0 h.1 (here h.0 h.1 h.2 h.3), h.4)

    -- a fact of which it does not hold is passed over
    pub passed : (facts : List Fact) (P : ℕ → ℕ → Type 0) → (NoneSaysOf rest nodes P → NoneSaysOf facts nodes P)
        → ((a b : ℕ) → fact.claim ≡ Differ a b → IsInt nodes a → ¬ P a b) → NoneSaysOf tail nodes P → NoneSaysOf facts nodes P
    passed facts P so_far other none = so_far (λ post a b says holds.
        by_cases ⊥ post a b says (λ e int. other a b e int holds) (λ there. none post a b there holds))

  pub none_left : (rest facts : List Fact) (P : ℕ → ℕ → Type 0) → length rest ≡ 0 → (NoneSaysOf rest nodes P → NoneSaysOf facts nodes P)
      → NoneSaysOf facts nodes P
  none_left [] facts P e so_far = so_far (λ post a b says holds. none_listed (fact_of post (Differ a b)) says.0)
  none_left (fact ∷ rest) facts P e so_far = absurd (omega arith)

-- a claim that two terms differ names them
abbrev left_of : Claim → ℕ
left_of (Differ a b) = a
left_of _ = 0

abbrev right_of : Claim → ℕ
right_of (Differ a b) = b
right_of _ = 0

-- what is so of the two that a claim names is so of every two that it names
pub same_two : (claim : Claim) (a b c d : ℕ) (P : ℕ → ℕ → Type 0) → claim ≡ Differ a b → claim ≡ Differ c d → P a b → P c d
same_two claim a b c d P e f h =
    subst (λ n. P n d) (ap left_of (sym e ∙ f)) (subst (λ n. P a n) (ap right_of (sym e ∙ f)) h)

-- two that are apart are neither unfit nor equal, and so on
module _ (nodes : List Node) (v : ℕ → ℤ) (a b : ℕ) where
  none_some : (number : ℤ) → Some number ≡ None → ⊥
  none_some number e = none-some number (sym e)

  pub apart_is_fit : AreApart nodes v a b → AreUnfit nodes v a b → ⊥
  apart_is_fit h unfit = elim unfit [ inl e ↦ none_some h.0 (sym h.2 ∙ e) | inr e ↦ none_some h.1 (sym h.3 ∙ e) ]

  pub equal_is_fit : AreEqual nodes v a b → AreUnfit nodes v a b → ⊥
  equal_is_fit h unfit = elim unfit [ inl e ↦ none_some h.0 (sym h.1 ∙ e) | inr e ↦ none_some h.0 (sym h.2 ∙ e) ]

  pub apart_is_unequal : AreApart nodes v a b → AreEqual nodes v a b → ⊥
  apart_is_unequal h same =
      h.4 (same_Some h.0 same.0 (sym h.2 ∙ same.1) ∙ sym (same_Some h.1 same.0 (sym h.3 ∙ same.2)))

  pub unfit_is_unequal : AreUnfit nodes v a b → AreEqual nodes v a b → ⊥
  unfit_is_unequal unfit h = equal_is_fit h unfit

  -- what is neither unfit nor equal is apart
  pub apart_else : (AreUnfit nodes v a b → ⊥) → (AreEqual nodes v a b → ⊥) → AreApart nodes v a b
  apart_else fit unequal = both (read_value nodes v a) (read_value nodes v b) refl refl
    where
      both : (one other : Option ℤ) → read_value nodes v a ≡ one → read_value nodes v b ≡ other → AreApart nodes v a b
      both None other e f = absurd (fit (inl e))
      both (Some p) None e f = absurd (fit (inr f))
      both (Some p) (Some q) e f = (p, q, e, f, λ same. unequal (q, e ∙ ap (λ (z : ℤ). Some z) same, f))

-- a claim that is not judged unfit names no two that are
module _ (nodes : List Node) (v : ℕ → ℤ) (claim : Claim) where
  pub fit_unless : (judgement : Judgement) → (judgement ≡ judgements.Unfit → ⊥) → IsJudged nodes v claim judgement
      → (a b : ℕ) → claim ≡ Differ a b → IsInt nodes a → ¬ AreUnfit nodes v a b
  fit_unless judgements.Silent other h a b e int = λ unfit. h a b e int
  fit_unless judgements.Unfit other h a b e int = absurd (other refl)
  fit_unless judgements.Equal other h a b e int =
      equal_is_fit nodes v a b (same_two claim h.0 h.1 a b (AreEqual nodes v) h.2 e h.4)
  fit_unless judgements.Apart other h a b e int =
      apart_is_fit nodes v a b (same_two claim h.0 h.1 a b (AreApart nodes v) h.2 e h.4)

  -- nor one that is not judged equal two that are equal
  pub unequal_unless : (judgement : Judgement) → (judgement ≡ judgements.Equal → ⊥) → IsJudged nodes v claim judgement
      → (a b : ℕ) → claim ≡ Differ a b → IsInt nodes a → ¬ AreEqual nodes v a b
  unequal_unless judgements.Silent other h a b e int = λ same. h a b e int
  unequal_unless judgements.Unfit other h a b e int =
      unfit_is_unequal nodes v a b (same_two claim h.0 h.1 a b (AreUnfit nodes v) h.2 e h.4)
  unequal_unless judgements.Equal other h a b e int = absurd (other refl)
  unequal_unless judgements.Apart other h a b e int =
      apart_is_unequal nodes v a b (same_two claim h.0 h.1 a b (AreApart nodes v) h.2 e h.4)
