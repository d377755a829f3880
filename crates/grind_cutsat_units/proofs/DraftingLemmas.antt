-- Drafts, one after the other.
use Rattle.std.proofs.Common.{◌≡◌, ◌↔◌, ◌⊎◌, inl, inr, ℕ, suc, ◌+◌, List, [], ◌∷◌, ◌++◌, length, All, Contains, Option, Some, None, arith, refl, sym, ap, ◌∙◌, subst}
use Rattle.std.specs.Prelude.{MatchOption}
use Rattle.std.proofs.lemmas.List.{append_assoc, append-nil}
use Rattle.grind_lemmas.proofs.Lists.{length-push}
use Rattle.std.proofs.lemmas.List.Elements.{All-nil, All-cons, All-head, All-tail, Contains-append_left, Contains-append_right, Contains-append_cases, Contains-push, Contains-push_cases}
use Rattle.grind_claims.specs.declared.claim.Claim.{Claim}
use Rattle.grind_cutsat_facts.specs.declared.facts.Fact.{Fact}
use Rattle.grind_cutsat_facts.specs.Facts.{fact_of, IsSaid, Stands}
use Rattle.grind_cutsat_facts.proofs.FactLemmas.{none_listed, passed_over, said_here, said_nowhere}
use Rattle.grind_cutsat_units.specs.declared.types.Planned.{Planned}
use Rattle.grind_cutsat_units.specs.declared.types.Draft.{Draft}
use Rattle.grind_cutsat_units.specs.Posts.{draft_of, AreSaid, AreDrafts, AllStand, Rest}
use Rattle.grind_cutsat_units.specs.Drafting.{facts_of, with_drafts, IsPut, IsHalfDrafted}

-- what holds of each still does in other words
all_map : (P Q : Claim → Type 0) → ((x : Claim) → P x → Q x) → (xs : List Claim) → All P xs → All Q xs
all_map P Q f [] h = All-nil Q
all_map P Q f (x ∷ xs) h = All-cons Q x xs (f x (All-head P x xs h)) (all_map P Q f xs (All-tail P x xs h))

-- ---- drafts as facts

-- the first of several drafts says another claim
pub drafts_next : (whole : List Fact) (number : ℕ) (rest tail : List Draft) (draft : Draft) (claim : Claim) → rest ≡ draft ∷ tail
    → (draft.claim ≡ claim → ⊥) → ((post : ℕ) → IsSaid (facts_of number rest) post claim ↔ IsSaid whole post claim)
    → (post : ℕ) → IsSaid (facts_of (number + 1) tail) post claim ↔ IsSaid whole post claim
drafts_next whole number rest tail draft claim is other so_far =
    passed_over whole (facts_of number rest) (facts_of (number + 1) tail) (fact_of number draft.claim) claim
    (ap (facts_of number) is) other so_far

-- or this one
pub draft_here : (whole : List Fact) (number : ℕ) (rest tail : List Draft) (draft : Draft) (claim : Claim) → rest ≡ draft ∷ tail
    → draft.claim ≡ claim → ((post : ℕ) → IsSaid (facts_of number rest) post claim ↔ IsSaid whole post claim)
    → IsSaid whole number claim
draft_here whole number rest tail draft claim is same so_far =
    said_here whole (facts_of number rest) (facts_of (number + 1) tail) (fact_of number draft.claim) claim
    (ap (facts_of number) is) same so_far

-- or no draft does
pub drafts_last : (whole : List Fact) (number : ℕ) (rest : List Draft) (claim : Claim) → length rest ≡ 0
    → ((post : ℕ) → IsSaid (facts_of number rest) post claim ↔ IsSaid whole post claim) → (post : ℕ) → ¬ IsSaid whole post claim
drafts_last whole number [] claim e so_far post = said_nowhere whole [] claim refl so_far post
drafts_last whole number (draft ∷ rest) claim e so_far post = absurd (omega arith)

facts_of-push : (next : ℕ) (drafts : List Draft) (draft : Draft)
    → facts_of next (drafts ++ draft ∷ []) ≡ facts_of next drafts ++ fact_of (next + length drafts) draft.claim ∷ []
facts_of-push next [] draft =
    let same : next ≡ next + 0 = omega arith in
    ap (λ (n : ℕ). fact_of n draft.claim ∷ []) same
facts_of-push next (first ∷ rest) draft =
    let same : next + 1 + length rest ≡ next + length (first ∷ rest) = omega arith in
    ap (λ (facts : List Fact). fact_of next first.claim ∷ facts) (facts_of-push (next + 1) rest draft)
    ∙ ap (λ (n : ℕ). fact_of next first.claim ∷ (facts_of (next + 1) rest ++ fact_of n draft.claim ∷ [])) same

pub with_drafts-push : (facts : List Fact) (next : ℕ) (drafts : List Draft) (draft : Draft)
    → with_drafts facts next (drafts ++ draft ∷ []) ≡ with_drafts facts next drafts ++ fact_of (next + length drafts) draft.claim ∷ []
with_drafts-push facts next drafts draft =
    ap (λ (more : List Fact). facts ++ more) (facts_of-push next drafts draft)
    ∙ sym (append_assoc facts (facts_of next drafts) (fact_of (next + length drafts) draft.claim ∷ []))

-- ---- a claim among facts and drafts

module _ (facts more : List Fact) (claim : Claim) where
  pub said_by_fact : (post : ℕ) → IsSaid facts post claim → IsSaid (facts ++ more) post claim
  said_by_fact post said = Contains-append_left facts more (fact_of post claim) said

  pub said_by_draft : (post : ℕ) → IsSaid more post claim → IsSaid (facts ++ more) post claim
  said_by_draft post said = Contains-append_right facts more (fact_of post claim) said

  pub said_by_neither : ((post : ℕ) → ¬ IsSaid facts post claim) → ((post : ℕ) → ¬ IsSaid more post claim) → ¬ Stands (facts ++ more) claim
  said_by_neither none nor = λ h. elim (Contains-append_cases facts more (fact_of h.0 claim) h.1) [
    | inl said ↦ none h.0 said
    | inr said ↦ nor h.0 said
  ]

-- what an answer says, in other words
pub match_map : {X : Type 0} → (o : Option X) (A C : Type 0) (B D : X → Type 0) → (A → C) → ((x : X) → B x → D x)
    → MatchOption o A B → MatchOption o C D
match_map None A C B D f g h = f h
match_map (Some x) A C B D f g h = g x h

-- ---- the numbers of premises

module _ (all : List Fact) (claims : List Claim) where
  pub said_first : (from : List ℕ) → from ≡ [] → (more : List ℕ) → AreSaid all more claims → AreSaid all (from ++ more) claims
  said_first from is more h = subst (λ (posts : List ℕ). AreSaid all (posts ++ more) claims) (sym is) h

  pub said_next : (rest tail : List Claim) (claim : Claim) (from new : List ℕ) (number : ℕ) → rest ≡ claim ∷ tail → IsSaid all number claim
      → new ≡ from ++ number ∷ [] → ((more : List ℕ) → AreSaid all more rest → AreSaid all (from ++ more) claims)
      → (more : List ℕ) → AreSaid all more tail → AreSaid all (new ++ more) claims
  said_next rest tail claim from new number is said pushed so_far more h =
      subst (λ (posts : List ℕ). AreSaid all posts claims) (sym (append_assoc from (number ∷ []) more) ∙ ap (λ (posts : List ℕ). posts ++ more) (sym pushed))
      (so_far (number ∷ more) (subst (λ (these : List Claim). AreSaid all (number ∷ more) these) (sym is) (said, h)))

  pub said_last : (rest : List Claim) (from : List ℕ) → length rest ≡ 0
      → ((more : List ℕ) → AreSaid all more rest → AreSaid all (from ++ more) claims) → AreSaid all from claims
  said_last [] from e so_far = subst (λ (posts : List ℕ). AreSaid all posts claims) (append-nil from) (so_far [] tt)
  said_last (claim ∷ rest) from e so_far = absurd (omega arith)

-- ---- the drafts

-- where no draft is made, each claim stands
pub none_drafted : (facts : List Fact) (next : ℕ) (posts : List Planned) (drafts : List Draft) → drafts ≡ [] → AreDrafts facts next posts drafts
    → AllStand facts posts
none_drafted facts next [] drafts none are = tt
none_drafted facts next (it ∷ rest) drafts none are = elim are [
  | inl left ↦ (left.0, none_drafted facts next rest drafts none left.1)
  | inr here ↦ absurd (longer (length here.2) (ap (λ (these : List Draft). length these) (sym here.3 ∙ none)))
]
  where
    longer : (n : ℕ) → suc n ≡ 0 → ⊥
    longer n e = omega (arith, e)

module _ (facts : List Fact) (next : ℕ) (posts : List Planned) where
  pub half_first : (drafts : List Draft) → drafts ≡ [] → Rest facts [] posts → IsHalfDrafted facts next posts posts drafts
  half_first drafts is rest = subst (λ (these : List Draft). IsHalfDrafted facts next posts posts these) (sym is) (record {
    completes = λ others h.
        subst (λ (n : ℕ). AreDrafts facts n posts others) none_more
        (subst (λ (these : List Fact). AreDrafts these (next + 0) posts others) (append-nil facts) h);
    supported = ([], rest, λ claim has. absurd (none_listed claim has));
  })
    where
      none_more : next + 0 ≡ next
      none_more = omega arith

  module _ (rest tail : List Planned) (it : Planned) (old : List Draft) (is : rest ≡ it ∷ tail)
      (so_far : IsHalfDrafted facts next posts rest old) where
    abbrev all : List Fact
    all = with_drafts facts next old

    at_hand : Rest facts so_far.supported.0 (it ∷ tail)
    at_hand = subst (λ (these : List Planned). Rest facts so_far.supported.0 these) is so_far.supported.1

    -- the premises of the post at hand stand
    pub premises_stand : All (Stands all) it.premises
    premises_stand = all_map (λ premise. Stands facts premise ⊎ Contains so_far.supported.0 premise) (Stands all) (λ premise h. elim h [
      | inl stands ↦ (stands.0, said_by_fact facts (facts_of next old) premise stands.0 stands.1)
      | inr has ↦ so_far.supported.2 premise has
    ]) it.premises at_hand.0

    left_out : Stands all it.claim → IsHalfDrafted facts next posts tail old
    left_out stands = record {
      completes = λ others h. so_far.completes others
          (subst (λ (these : List Planned). AreDrafts all (next + length old) these others) (sym is) (inl (stands, h)));
      supported = (
        so_far.supported.0 ++ it.claim ∷ [],
        at_hand.1,
        λ claim has. elim (Contains-push_cases so_far.supported.0 it.claim claim has) [
          | inl before ↦ so_far.supported.2 claim before
          | inr same ↦ subst (λ (one : Claim). Stands all one) same stands
        ],
      );
    }

    module _ (from : List ℕ) (absent : ¬ Stands all it.claim) (said : AreSaid all from it.premises) where
      abbrev fact : Fact
      fact = fact_of (next + length old) it.claim

      abbrev new : List Draft
      new = old ++ draft_of it from ∷ []

      pushed : with_drafts facts next new ≡ all ++ fact ∷ []
      pushed = with_drafts-push facts next old (draft_of it from)

      counted : next + length new ≡ next + length old + 1
      counted = let more = length-push old (draft_of it from) in omega (arith, more)

      put_last : IsHalfDrafted facts next posts tail new
      put_last = record {
        completes = λ others h.
            subst (λ (these : List Draft). AreDrafts facts next posts these) (sym (append_assoc old (draft_of it from ∷ []) others))
            (so_far.completes (draft_of it from ∷ others)
            (subst (λ (these : List Planned). AreDrafts all (next + length old) these (draft_of it from ∷ others)) (sym is)
            (inr (
              absent,
              from,
              others,
              refl,
              said,
              subst (λ (n : ℕ). AreDrafts (all ++ fact ∷ []) n tail others) counted
                  (subst (λ (these : List Fact). AreDrafts these (next + length new) tail others) pushed h),
            ))));
        supported = (
          so_far.supported.0 ++ it.claim ∷ [],
          at_hand.1,
          λ claim has. subst (λ (these : List Fact). Stands these claim) (sym pushed)
              (elim (Contains-push_cases so_far.supported.0 it.claim claim has) [
                | inl before ↦
                    let stands = so_far.supported.2 claim before in
                    (stands.0, Contains-append_left all (fact ∷ []) (fact_of stands.0 claim) stands.1)
                | inr same ↦ subst (λ (one : Claim). Stands (all ++ fact ∷ []) one) same (next + length old, Contains-push all fact)
              ]),
        );
      }

    -- one more post is seen to
    pub half_next : (new : List Draft) → IsPut facts next it old new → IsHalfDrafted facts next posts tail new
    half_next new put = elim put [
      | inl stands ↦ subst (λ (these : List Draft). IsHalfDrafted facts next posts tail these) (sym stands.1) (left_out stands.0)
      | inr drafted ↦ subst (λ (these : List Draft). IsHalfDrafted facts next posts tail these) (sym drafted.2)
          (put_last drafted.1 drafted.0 drafted.3)
    ]

  pub half_last : (rest : List Planned) (drafts : List Draft) → length rest ≡ 0 → IsHalfDrafted facts next posts rest drafts
      → AreDrafts facts next posts drafts
  half_last [] drafts e so_far = subst (λ (these : List Draft). AreDrafts facts next posts these) (append-nil drafts) (so_far.completes [] refl)
  half_last (it ∷ rest) drafts e so_far = absurd (omega arith)
