-- What two bounds of one lead and opposite signs give.
use Rattle.std.proofs.Common.{◌≡◌, ℕ, List, [], ◌∷◌, length, Option, Some, None, ℤ, pos, ◌<ℤ◌, arith, sym, ap, ◌∙◌, refl, subst}
use Rattle.std.specs.Prelude.{MatchOption}
use Rattle.std.proofs.lemmas.Option.{none-some, same_Some}
use Rattle.grind_linear_forms.specs.declared.form.Part.{Part}
use Rattle.grind_linear_forms.specs.Forms.{FormData, form_data, part_of, number_form}
use Rattle.grind_linear_forms.specs.Cuts.{IsCut}
use Rattle.grind_linear_forms.specs.Laws.{OneCut}
use Rattle.grind_arithmetic_rules.specs.LinearRules.{combined}
use Rattle.grind_claims.specs.declared.claim.Claim.{Claim}
use Rattle.grind_claims.specs.declared.claim.Claim.TheVariants.{AtMost}
use Rattle.grind_claims.specs.declared.proof.Rule.TheVariants.{Combine}
use Rattle.grind_cutsat_facts.specs.declared.facts.Fact.{Fact}
use Rattle.grind_cutsat_facts.specs.Facts.{IsSaid}
use Rattle.grind_cutsat_bounds.specs.Bounds.{Bound, bound_form}
use Rattle.grind_cutsat_assignment.specs.Given.{Given}
use Rattle.grind_cutsat_units.specs.declared.types.Planned.{Planned}
use Rattle.grind_cutsat_units.specs.declared.types.Draft.{Draft}
use Rattle.grind_cutsat_units.specs.Posts.{planned, IsFound, AtSomeFact, AllStand, IsCaseOf}
use Rattle.grind_cutsat_units.specs.Cuts.{IsDivisor, AreFactors, CombineTo, both, ResolvesBounds}
use Rattle.grind_cutsat_cuts.specs.Factors.{AreFittingFactors, NoFittingFactors}
use Rattle.grind_cutsat_cuts.specs.Cutting.{IsNewCut, NoNewCut}
use Rattle.grind_cutsat_cuts.specs.Resolving.{IsLead, AreOpposite, AreNotOpposite, HasCutOfTwo, NoCutOfTwo, Resolve, NoneResolve, resolved_posts, LowerGives, UpperGives}
use Rattle.grind_cutsat_cuts.proofs.FactorLemmas.{factors_once}
use Rattle.grind_cutsat_cuts.proofs.CutLemmas.{new_cut_once, found_like}

-- ---- the leads
lead_here : (parts : List Part) (first : Part) (rest : List Part) → parts ≡ first ∷ rest → IsLead parts first.node first.coefficient
lead_here parts first rest is = subst (λ (ps : List Part). IsLead ps first.node first.coefficient) (sym is) (refl, refl)

lead_once : (parts : List Part) (first : Part) (rest : List Part) (x : ℕ) (coefficient : ℤ) → parts ≡ first ∷ rest → IsLead parts x coefficient
    → (first.node ≡ x) × (first.coefficient ≡ coefficient)
lead_once parts first rest x coefficient is lead = subst (λ (ps : List Part). IsLead ps x coefficient) is lead

no_lead : (parts : List Part) (x : ℕ) (coefficient : ℤ) → length parts ≡ 0 → ¬ IsLead parts x coefficient
no_lead [] x coefficient none = λ lead. lead
no_lead (part ∷ rest) x coefficient none = λ lead. absurd (omega arith)

pub no_upper : (upper lower : FormData) → length upper.parts ≡ 0 → AreNotOpposite upper lower
no_upper upper lower none = λ over under are. no_lead upper.parts are.atom over none are.upper_is

pub no_lower : (upper lower : FormData) → length lower.parts ≡ 0 → AreNotOpposite upper lower
no_lower upper lower none = λ over under are. no_lead lower.parts are.atom under none are.lower_is

module _ (upper lower : FormData) (first second : Part) (more others : List Part) (one : upper.parts ≡ first ∷ more)
    (two : lower.parts ≡ second ∷ others) where
  pub other_atoms : (first.node ≡ second.node → ⊥) → AreNotOpposite upper lower
  other_atoms apart = λ over under are.
      apart ((lead_once upper.parts first more are.atom over one are.upper_is).0
      ∙ sym (lead_once lower.parts second others are.atom under two are.lower_is).0)

  pub opposite_found : (A : Type 0) (over_of under_of : A → ℤ) → first.node ≡ second.node → (found : Option A)
      → MatchOption found (pos 0 <ℤ first.coefficient → second.coefficient <ℤ pos 0 → ⊥)
      (λ it. (over_of it ≡ first.coefficient) × (under_of it ≡ second.coefficient) × (pos 0 <ℤ first.coefficient) × (second.coefficient <ℤ pos 0))
      → MatchOption found (AreNotOpposite upper lower) (λ it. AreOpposite upper lower (over_of it) (under_of it))
  opposite_found A over_of under_of same None none = λ over under are.
      none (subst (λ (z : ℤ). pos 0 <ℤ z) (sym (lead_once upper.parts first more are.atom over one are.upper_is).1) are.positive)
      (subst (λ (z : ℤ). z <ℤ pos 0) (sym (lead_once lower.parts second others are.atom under two are.lower_is).1) are.negative)
  opposite_found A over_of under_of same (Some it) is =
      subst (λ (z : ℤ). AreOpposite upper lower z (under_of it)) (sym is.0)
      (subst (λ (z : ℤ). AreOpposite upper lower first.coefficient z) (sym is.1) (record {
        atom = first.node;
        upper_is = lead_here upper.parts first more one;
        lower_is = subst (λ (n : ℕ). IsLead lower.parts n second.coefficient) (sym same) (lead_here lower.parts second others two);
        positive = is.2;
        negative = is.3;
      }))

-- the coefficients are those of the leads
leads_same : (parts : List Part) (x y : ℕ) (a b : ℤ) → IsLead parts x a → IsLead parts y b → a ≡ b
leads_same [] x y a b one two = absurd one
leads_same (part ∷ rest) x y a b one two = sym one.1 ∙ two.1

-- two are led by one atom with one coefficient each
pub opposite_once : (upper lower : FormData) (a b c d : ℤ) → AreOpposite upper lower a b → AreOpposite upper lower c d → (a ≡ c) × (b ≡ d)
opposite_once upper lower a b c d one two = (
  leads_same upper.parts one.atom two.atom a c one.upper_is two.upper_is,
  leads_same lower.parts one.atom two.atom b d one.lower_is two.lower_is,
)

-- ---- the cut of two
module _ (facts : List Fact) (upper lower : FormData) (m k : ℤ) where
  pub no_sum_of_two : combined (number_form (pos 0)) (m ∷ k ∷ []) (AtMost upper ∷ AtMost lower ∷ []) ≡ None → NoCutOfTwo facts upper lower m k
  no_sum_of_two none = λ g cut has. none-some has.0.0 (sym none ∙ has.0.1)

  pub cut_of_sum : (A : Type 0) (divisor_of : A → ℤ) (form_of : A → FormData) (sum : FormData)
      → combined (number_form (pos 0)) (m ∷ k ∷ []) (AtMost upper ∷ AtMost lower ∷ []) ≡ Some sum → (found : Option A)
      → MatchOption found (NoNewCut facts sum) (λ it. IsNewCut facts sum (divisor_of it) (form_of it))
      → MatchOption found (NoCutOfTwo facts upper lower m k) (λ it. HasCutOfTwo facts upper lower m k (divisor_of it) (form_of it))
  cut_of_sum A divisor_of form_of sum is None none = λ g cut has.
      let same : has.0.0 ≡ sum = same_Some has.0.0 sum (sym has.0.1 ∙ is) in
      none g cut (subst (λ (it : FormData). IsNewCut facts it g cut) same (record {
        divisor = has.0.2;
        fits = has.0.3;
        cut_is = has.0.4;
        new = has.1;
      }))
  cut_of_sum A divisor_of form_of sum is (Some it) new = ((sum, is, new.divisor, new.fits, new.cut_is), new.new)

-- ---- what they resolve to
module _ (facts : List Fact) (upper lower : FormData) where
  pub none_opposite : AreNotOpposite upper lower → NoneResolve facts upper lower
  none_opposite none = λ m k g cut it. none it.over it.under it.opposite

  module _ (over under : ℤ) (are : AreOpposite upper lower over under) where
    -- their factors are those of these coefficients
    factors_at : (m k g : ℤ) (cut : FormData) (it : Resolve facts upper lower m k g cut) → AreFactors over under m k
    factors_at m k g cut it =
        let first = leads_same upper.parts it.opposite.atom are.atom it.over over it.opposite.upper_is are.upper_is in
        let second = leads_same lower.parts it.opposite.atom are.atom it.under under it.opposite.lower_is are.lower_is in
        subst (λ (z : ℤ). AreFactors z under m k) first (subst (λ (z : ℤ). AreFactors it.over z m k) second it.factors)

    pub none_factors : NoFittingFactors over under → NoneResolve facts upper lower
    none_factors none = λ m k g cut it. none m k (factors_at m k g cut it) it.first_fits it.second_fits

    module _ (m k : ℤ) (factors : AreFittingFactors over under m k) where
      same_factors : (p q g : ℤ) (cut : FormData) → Resolve facts upper lower p q g cut → (p ≡ m) × (q ≡ k)
      same_factors p q g cut it = factors_once over under p q m k are.negative (factors_at p q g cut it) factors.0

      pub none_cut : NoCutOfTwo facts upper lower m k → NoneResolve facts upper lower
      none_cut none = λ p q g cut it.
          let same = same_factors p q g cut it in
          none g cut (subst (λ (z : ℤ). HasCutOfTwo facts upper lower z k g cut) same.0
          (subst (λ (z : ℤ). HasCutOfTwo facts upper lower p z g cut) same.1 it.cut_is))

      pub resolve_is : (g : ℤ) (cut : FormData) → HasCutOfTwo facts upper lower m k g cut → Resolve facts upper lower m k g cut
      resolve_is g cut has = record {
        over = over;
        under = under;
        opposite = are;
        factors = factors.0;
        first_fits = factors.1;
        second_fits = factors.2;
        cut_is = has;
      }

  -- they resolve to one cut
  pub resolve_once : OneCut → (m k g p q h : ℤ) (cut other : FormData) → Resolve facts upper lower m k g cut → Resolve facts upper lower p q h other
      → (m ≡ p) × (k ≡ q) × (g ≡ h) × (cut ≡ other)
  resolve_once one_cut m k g p q h cut other one two =
      let factors = factors_once two.over two.under m k p q two.opposite.negative (factors_at two.over two.under two.opposite m k g cut one) two.factors in
      let moved : HasCutOfTwo facts upper lower p q g cut =
      subst (λ (z : ℤ). HasCutOfTwo facts upper lower z q g cut) factors.0
      (subst (λ (z : ℤ). HasCutOfTwo facts upper lower m z g cut) factors.1 one.cut_is) in
      let has = two.cut_is in
      let sums : moved.0.0 ≡ has.0.0 = same_Some moved.0.0 has.0.0 (sym moved.0.1 ∙ has.0.1) in
      let same = new_cut_once one_cut facts has.0.0 g h cut other
      (subst (λ (it : FormData). IsDivisor it.parts g) sums moved.0.2) (subst (λ (it : FormData). IsCut it g cut) sums moved.0.4)
      has.0.2 has.0.4 in
      (factors.0, factors.1, same.0, same.1)

-- ---- what a claim gives
abbrev form_in : Claim → FormData
form_in (AtMost form) = form
form_in _ = number_form (pos 0)

module _ (facts : List Fact) (upper : FormData) (claim : Claim) (lower : FormData) (is : claim ≡ AtMost lower) where
  at_lower : (posts : List Planned) (gives : LowerGives facts upper claim posts) → gives.0 ≡ lower
  at_lower posts gives = ap form_in (sym gives.5 ∙ is)

  pub none_lower : NoneResolve facts upper lower → (posts : List Planned) → ¬ LowerGives facts upper claim posts
  none_lower none posts = λ gives.
      none gives.1 gives.2 gives.3 gives.4
      (subst (λ (it : FormData). Resolve facts upper it gives.1 gives.2 gives.3 gives.4) (at_lower posts gives) gives.6)

  module _ (one_cut : OneCut) (m k g : ℤ) (cut : FormData) (resolve : Resolve facts upper lower m k g cut) where
    lower_once : (posts : List Planned) → LowerGives facts upper claim posts → posts ≡ resolved_posts upper lower m k g cut
    lower_once posts gives =
        let same = at_lower posts gives in
        let other = subst (λ (it : FormData). Resolve facts upper it gives.1 gives.2 gives.3 gives.4) same gives.6 in
        let all = resolve_once facts upper lower one_cut gives.1 gives.2 gives.3 m k g gives.4 cut other resolve in
        gives.7 ∙ (λ i. resolved_posts upper (same i) (all.0 i) (all.1 i) (all.2 i) (all.3 i))

    pub found_lower : (next : ℕ) (posts : List Planned) (found : Option (List Draft))
        → posts ≡ planned (AtMost cut) (Combine g (m ∷ k ∷ [])) (AtMost upper ∷ claim ∷ []) ∷ []
        → MatchOption found (AllStand facts posts) (λ drafts. IsCaseOf facts next posts drafts)
        → IsFound facts next (LowerGives facts upper claim) found
    found_lower next posts found posts_are drafted =
        let same : posts ≡ resolved_posts upper lower m k g cut =
        posts_are ∙ ap (λ (it : Claim). planned (AtMost cut) (Combine g (m ∷ k ∷ [])) (AtMost upper ∷ it ∷ []) ∷ []) is in
        by_found found (subst (λ (all : List Planned). MatchOption found (AllStand facts all) (λ drafts. IsCaseOf facts next all drafts)) same drafted)
      where
        by_found : (found : Option (List Draft))
            → MatchOption found (AllStand facts (resolved_posts upper lower m k g cut))
            (λ drafts. IsCaseOf facts next (resolved_posts upper lower m k g cut) drafts)
            → IsFound facts next (LowerGives facts upper claim) found
        by_found None h = λ others other. subst (AllStand facts) (sym (lower_once others other)) h
        by_found (Some drafts) h = (resolved_posts upper lower m k g cut, (lower, m, k, g, cut, is, resolve, refl), h)

-- what the form gives, a claim of it gives
module _ (facts : List Fact) (claim : Claim) (upper : FormData) (is : claim ≡ AtMost upper) where
  pub found_upper : (next : ℕ) (found : Option (List Draft)) → IsFound facts next (AtSomeFact facts (LowerGives facts upper)) found
      → IsFound facts next (UpperGives facts claim) found
  found_upper next None none = λ posts gives.
      none posts (subst (λ (it : FormData). AtSomeFact facts (LowerGives facts it) posts) (ap form_in (sym gives.1 ∙ is)) gives.2)
  found_upper next (Some drafts) h = (h.0, (upper, is, h.1), h.2)

-- ---- the same cases, told by the bounds of an atom
pub bound_at : (form : FormData) (x : ℕ) (coefficient : ℤ) → IsLead form.parts x coefficient
    → (bound : Bound) × (form ≡ bound_form x bound) × (bound.coefficient ≡ coefficient)
bound_at form x coefficient lead = by_parts form.parts refl lead
  where
    by_parts : (parts : List Part) → form.parts ≡ parts → IsLead parts x coefficient
        → (bound : Bound) × (form ≡ bound_form x bound) × (bound.coefficient ≡ coefficient)
    by_parts [] is lead = absurd lead
    by_parts (part ∷ rest) is lead =
        let bound : Bound = record { coefficient = part.coefficient; greater = rest; constant = form.constant } in
        let whole : form ≡ bound_form x bound =
        (λ i. form_data (is i) form.constant) ∙ ap (λ (n : ℕ). form_data (part_of n part.coefficient ∷ rest) form.constant) lead.0 in
        (bound, whole, lead.1)

module _ (it : Given) where
  to_bounds : (posts : List Planned) → AtSomeFact it.facts (UpperGives it.facts) posts
      → (above : ℕ) × (below : ℕ) × ResolvesBounds it above below posts
  to_bounds posts case =
      let high = case.1.2 in
      let low = high.2 in
      let gives = low.1.2 in
      let resolve = gives.6 in
      let opposite = resolve.opposite in
      let upper = bound_at high.0 opposite.atom resolve.over opposite.upper_is in
      let lower = bound_at gives.0 opposite.atom resolve.under opposite.lower_is in
      let said_above : IsSaid it.facts case.0 (AtMost high.0) = subst (λ (claim : Claim). IsSaid it.facts case.0 claim) high.1 case.1.1 in
      let said_below : IsSaid it.facts low.0 (AtMost gives.0) = subst (λ (claim : Claim). IsSaid it.facts low.0 claim) gives.5 low.1.1 in
      let claims : AtMost high.0 ∷ AtMost gives.0 ∷ [] ≡ both opposite.atom upper.0 lower.0 =
      λ i. AtMost (upper.1 i) ∷ AtMost (lower.1 i) ∷ [] in (
        case.0,
        low.0,
        (
          opposite.atom,
          upper.0,
          lower.0,
          gives.1,
          gives.2,
          gives.3,
          gives.4,
          record {
            upper_is = subst (λ (form : FormData). IsSaid it.facts case.0 (AtMost form)) upper.1 said_above;
            lower_is = subst (λ (form : FormData). IsSaid it.facts low.0 (AtMost form)) lower.1 said_below;
            over = subst (λ (z : ℤ). pos 0 <ℤ z) (sym upper.2) opposite.positive;
            under = subst (λ (z : ℤ). z <ℤ pos 0) (sym lower.2) opposite.negative;
            factors =
                subst (λ (z : ℤ). AreFactors z lower.0.coefficient gives.1 gives.2) (sym upper.2)
                (subst (λ (z : ℤ). AreFactors resolve.over z gives.1 gives.2) (sym lower.2) resolve.factors);
          },
          resolve.first_fits,
          resolve.second_fits,
          subst (λ (all : List Claim). CombineTo (gives.1 ∷ gives.2 ∷ []) all gives.3 gives.4) claims resolve.cut_is.0,
          resolve.cut_is.1,
          gives.7 ∙ ap (λ (all : List Claim). planned (AtMost gives.4) (Combine gives.3 (gives.1 ∷ gives.2 ∷ [])) all ∷ []) claims,
        ),
      )

  from_bounds : (posts : List Planned) → (above : ℕ) × (below : ℕ) × ResolvesBounds it above below posts
      → AtSomeFact it.facts (UpperGives it.facts) posts
  from_bounds posts case =
      let r = case.2 in
      let resolve : Resolve it.facts (bound_form r.0 r.1) (bound_form r.0 r.2) r.3 r.4 r.5 r.6 = record {
        over = r.1.coefficient;
        under = r.2.coefficient;
        opposite = record {
          atom = r.0;
          upper_is = (refl, refl);
          lower_is = (refl, refl);
          positive = r.7.over;
          negative = r.7.under;
        };
        factors = r.7.factors;
        first_fits = r.8;
        second_fits = r.9;
        cut_is = (r.10, r.11);
      } in (
        case.0,
        (
          AtMost (bound_form r.0 r.1),
          r.7.upper_is,
          (
            bound_form r.0 r.1,
            refl,
            (
              case.1,
              (
                AtMost (bound_form r.0 r.2),
                r.7.lower_is,
                (bound_form r.0 r.2, r.3, r.4, r.5, r.6, refl, resolve, r.12),
              ),
            ),
          ),
        ),
      )

  pub found_bounds : (next : ℕ) (found : Option (List Draft)) → IsFound it.facts next (AtSomeFact it.facts (UpperGives it.facts)) found
      → IsFound it.facts next (λ posts. (above : ℕ) × (below : ℕ) × ResolvesBounds it above below posts) found
  found_bounds next found h =
      found_like it.facts next (AtSomeFact it.facts (UpperGives it.facts))
      (λ posts. (above : ℕ) × (below : ℕ) × ResolvesBounds it above below posts) to_bounds from_bounds found h
