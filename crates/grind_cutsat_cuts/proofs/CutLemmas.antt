-- What a bound gives that is cut, and when a sum has no new cut.
use Rattle.std.proofs.Common.{◌≡◌, ◌⊎◌, inl, ℕ, List, [], ◌∷◌, Contains, Option, Some, None, ℤ, pos, ◌≤ℤ◌, ◌<ℤ◌, arith, sym, ap, ◌∙◌, refl, subst}
use Rattle.std.specs.Prelude.{MatchOption}
use Rattle.std.proofs.lemmas.Option.{none-some, same_Some}
use Rattle.std.proofs.lemmas.List.Elements.{All-nil, All-cons}
use borrow.Author.Differences.{ints}
use Rattle.grind_linear_forms.specs.Forms.{FormData, number_form}
use Rattle.grind_linear_forms.specs.Cuts.{IsCut}
use Rattle.grind_linear_forms.specs.Laws.{OneCut}
use Rattle.grind_arithmetic_rules.specs.LinearRules.{combined}
use Rattle.grind_claims.specs.declared.claim.Claim.{Claim}
use Rattle.grind_claims.specs.declared.claim.Claim.TheVariants.{AtMost}
use Rattle.grind_claims.specs.declared.proof.Rule.{Rule}
use Rattle.grind_claims.specs.declared.proof.Rule.TheVariants.{Combine}
use Rattle.grind_cutsat_facts.specs.declared.facts.Fact.{Fact}
use Rattle.grind_cutsat_facts.specs.Facts.{IsSaid, Stands}
use Rattle.grind_cutsat_facts.specs.Covering.{IsCovered}
use Rattle.grind_cutsat_assignment.specs.Given.{Given}
use Rattle.grind_cutsat_units.specs.declared.types.Planned.{Planned}
use Rattle.grind_cutsat_units.specs.declared.types.Draft.{Draft}
use Rattle.grind_cutsat_units.specs.Posts.{planned, Rest, IsFound, AtSomeFact, AllStand, IsCaseOf}
use Rattle.grind_cutsat_units.specs.Cuts.{IsDivisor, CutsBound}
use Rattle.grind_cutsat_cuts.specs.Divisors.{NoFittingDivisor}
use Rattle.grind_cutsat_cuts.specs.Cutting.{IsNewCut, NoNewCut, HasCut, NoCut, cut_posts, CutGives}
use Rattle.grind_cutsat_cuts.proofs.DivisorLemmas.{divisor_once}

-- ---- a sum
module _ (one_cut : OneCut) (facts : List Fact) (sum : FormData) where
  pub new_cut_once : (g other : ℤ) (cut another : FormData) → IsDivisor sum.parts g → IsCut sum g cut → IsDivisor sum.parts other
      → IsCut sum other another → (g ≡ other) × (cut ≡ another)
  new_cut_once g other cut another one cut_is two also =
      let same = divisor_once sum.parts g other one two in
      (same, one_cut sum cut another g one.positive cut_is (subst (λ (z : ℤ). IsCut sum z another) (sym same) also))

  pub covered_cut : (g : ℤ) (cut : FormData) → IsDivisor sum.parts g → IsCut sum g cut → IsCovered facts cut → NoNewCut facts sum
  covered_cut g cut one cut_is covered = λ other another it.
      it.new (subst (IsCovered facts) (new_cut_once g other cut another one cut_is it.divisor it.cut_is).1 covered)

pub no_cut_without : (facts : List Fact) (sum : FormData) → NoFittingDivisor sum.parts → NoNewCut facts sum
no_cut_without facts sum none = λ g cut it. none g it.divisor it.fits

-- ---- a bound
module _ (facts : List Fact) (form : FormData) where
  pub no_sum : combined (number_form (pos 0)) (pos 1 ∷ []) (AtMost form ∷ []) ≡ None → NoCut facts form
  no_sum none = λ g cut has. none-some has.0.0 (sym none ∙ has.0.1)

  module _ (sum : FormData) (is : combined (number_form (pos 0)) (pos 1 ∷ []) (AtMost form ∷ []) ≡ Some sum) where
    new_of : (g : ℤ) (cut : FormData) → HasCut facts form g cut → IsNewCut facts sum g cut
    new_of g cut has =
        let same : has.0.0 ≡ sum = same_Some has.0.0 sum (sym has.0.1 ∙ is) in
        subst (λ (it : FormData). IsNewCut facts it g cut) same (record {
          divisor = has.0.2;
          fits = has.0.3;
          cut_is = has.0.4;
          new = has.2;
        })

    pub no_new_cut : NoNewCut facts sum → NoCut facts form
    no_new_cut none = λ g cut has. none g cut (new_of g cut has)

    pub low_divisor : (g : ℤ) (cut : FormData) → IsNewCut facts sum g cut → g ≤ℤ pos 1 → NoCut facts form
    low_divisor g cut it low = λ other another has.
        let same = divisor_once sum.parts g other it.divisor (new_of other another has).divisor in
        let over : pos 1 <ℤ other = has.1 in absurd (let below : other ≤ℤ pos 1 = subst (λ (z : ℤ). z ≤ℤ pos 1) same low in omega (arith, ints))

    pub has_cut : (g : ℤ) (cut : FormData) → IsNewCut facts sum g cut → pos 1 <ℤ g → HasCut facts form g cut
    has_cut g cut it over = ((sum, is, it.divisor, it.fits, it.cut_is), over, it.new)

-- ---- what a claim gives
abbrev form_in : Claim → FormData
form_in (AtMost form) = form
form_in _ = number_form (pos 0)

module _ (facts : List Fact) (claim : Claim) (form : FormData) (is : claim ≡ AtMost form) where
  at_form : (posts : List Planned) (gives : CutGives facts claim posts) → gives.0 ≡ form
  at_form posts gives = ap form_in (sym gives.3 ∙ is)

  pub none_gives : NoCut facts form → (posts : List Planned) → ¬ CutGives facts claim posts
  none_gives none posts = λ gives.
      none gives.2 gives.1 (subst (λ (it : FormData). HasCut facts it gives.2 gives.1) (at_form posts gives) gives.4)

  module _ (one_cut : OneCut) (g : ℤ) (cut : FormData) (has : HasCut facts form g cut) where
    pub cut_case : CutGives facts claim (cut_posts form g cut)
    cut_case = (form, cut, g, is, has, refl)

    pub cut_once : (posts : List Planned) → CutGives facts claim posts → posts ≡ cut_posts form g cut
    cut_once posts gives =
        let same = at_form posts gives in
        let other : HasCut facts form gives.2 gives.1 = subst (λ (it : FormData). HasCut facts it gives.2 gives.1) same gives.4 in
        let sums : other.0.0 ≡ has.0.0 = same_Some other.0.0 has.0.0 (sym other.0.1 ∙ has.0.1) in
        let both = new_cut_once one_cut facts has.0.0 gives.2 g gives.1 cut
        (subst (λ (it : FormData). IsDivisor it.parts gives.2) sums other.0.2) (subst (λ (it : FormData). IsCut it gives.2 gives.1) sums other.0.4)
        has.0.2 has.0.4 in
        gives.5 ∙ (λ i. cut_posts (same i) (both.0 i) (both.1 i))

    pub found_cut : (next : ℕ) (posts : List Planned) (found : Option (List Draft))
        → posts ≡ planned (AtMost cut) (Combine g (pos 1 ∷ [])) (claim ∷ []) ∷ []
        → MatchOption found (AllStand facts posts) (λ drafts. IsCaseOf facts next posts drafts)
        → IsFound facts next (CutGives facts claim) found
    found_cut next posts found posts_are drafted =
        let same : posts ≡ cut_posts form g cut =
        posts_are ∙ ap (λ (it : Claim). planned (AtMost cut) (Combine g (pos 1 ∷ [])) (it ∷ []) ∷ []) is in
        by_found found (subst (λ (all : List Planned). MatchOption found (AllStand facts all) (λ drafts. IsCaseOf facts next all drafts)) same drafted)
      where
        by_found : (found : Option (List Draft))
            → MatchOption found (AllStand facts (cut_posts form g cut)) (λ drafts. IsCaseOf facts next (cut_posts form g cut) drafts)
            → IsFound facts next (CutGives facts claim) found
        by_found None h = λ others other. subst (AllStand facts) (sym (cut_once others other)) h
        by_found (Some drafts) h = (cut_posts form g cut, cut_case, h)

-- ---- what the posts rest on
pub rests_on_one : (facts : List Fact) (claim premise : Claim) (rule : Rule) → Stands facts premise
    → Rest facts [] (planned claim rule (premise ∷ []) ∷ [])
rests_on_one facts claim premise rule one = (
  All-cons (λ (it : Claim). Stands facts it ⊎ Contains [] it) premise [] (inl one) (All-nil (λ (it : Claim). Stands facts it ⊎ Contains [] it)),
  tt,
)

pub rests_on_two : (facts : List Fact) (claim first second : Claim) (rule : Rule) → Stands facts first → Stands facts second
    → Rest facts [] (planned claim rule (first ∷ second ∷ []) ∷ [])
rests_on_two facts claim first second rule one two = (
  All-cons (λ (it : Claim). Stands facts it ⊎ Contains [] it) first (second ∷ []) (inl one)
      (All-cons (λ (it : Claim). Stands facts it ⊎ Contains [] it) second [] (inl two) (All-nil (λ (it : Claim). Stands facts it ⊎ Contains [] it))),
  tt,
)

-- ---- the same cases, told otherwise
pub found_like : (facts : List Fact) (next : ℕ) (P Q : List Planned → Type 0) → ((posts : List Planned) → P posts → Q posts)
    → ((posts : List Planned) → Q posts → P posts) → (found : Option (List Draft)) → IsFound facts next P found → IsFound facts next Q found
found_like facts next P Q to from None none = λ posts case. none posts (from posts case)
found_like facts next P Q to from (Some drafts) h = (h.0, to h.0 h.1, h.2)

module _ (it : Given) where
  to_cut : (posts : List Planned) → AtSomeFact it.facts (CutGives it.facts) posts → (post : ℕ) × CutsBound it post posts
  to_cut posts case =
      let gives = case.1.2 in (
        case.0,
        (
          gives.0,
          gives.1,
          gives.2,
          subst (λ (claim : Claim). IsSaid it.facts case.0 claim) gives.3 case.1.1,
          gives.4.0,
          gives.4.1,
          gives.4.2,
          gives.5,
        ),
      )

  from_cut : (posts : List Planned) → (post : ℕ) × CutsBound it post posts → AtSomeFact it.facts (CutGives it.facts) posts
  from_cut posts case =
      let cut = case.1 in
      (case.0, (AtMost cut.0, cut.3, (cut.0, cut.1, cut.2, refl, (cut.4, cut.5, cut.6), cut.7)))

  pub found_cuts : (next : ℕ) (found : Option (List Draft)) → IsFound it.facts next (AtSomeFact it.facts (CutGives it.facts)) found
      → IsFound it.facts next (λ posts. (post : ℕ) × CutsBound it post posts) found
  found_cuts next found h =
      found_like it.facts next (AtSomeFact it.facts (CutGives it.facts)) (λ posts. (post : ℕ) × CutsBound it post posts) to_cut from_cut found h
