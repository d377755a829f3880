-- The posts of each case are typed.
use Rattle.std.specs.Prelude.{◌≡◌, ◌⊎◌, ℕ, List, [], ◌∷◌, Some, All, Contains, ℤ, pos, ◌+ℤ◌, ◌*ℤ◌, ◌≤ℤ◌, ◌<ℤ◌, refl}
use Rattle.std.proofs.Common.{arith, sym, ap, subst, ◌∙◌, inl, inr}
use borrow.Author.Differences.{ints}
use Rattle.std.proofs.lemmas.List.Elements.{All-nil, All-cons, All-contains, Contains-push}
use Rattle.grind_term_graph.specs.declared.node.Node.{Node}
use Rattle.grind_term_graph.specs.Terms.{int, sort_at}
use Rattle.grind_term_graph.specs.Shape.{IsTable}
use Rattle.grind_lemmas.proofs.Rings.{linear}
use Rattle.grind_linear_forms.specs.declared.form.Part.{Part}
use Rattle.grind_linear_forms.specs.Forms.{FormData, part_of, number_form}
use Rattle.grind_linear_forms.specs.Cuts.{times, IsCut}
use Rattle.grind_linear_forms.specs.Naming.{NamesNumbers}
use Rattle.grind_linear_forms.proofs.Naming.{cut-names}
use Rattle.grind_differences.specs.Bounds.{plus, IsWithinCut}
use Rattle.grind_claims.specs.declared.claim.Claim.{Claim}
use Rattle.grind_claims.specs.declared.claim.Claim.TheVariants.{Same, Differ, AtMost}
use Rattle.grind_claims.specs.declared.proof.Rule.TheVariants.{Read, Write, Line, Sym, Combine, Strict, Apart}
use Rattle.grind_claims.specs.Claims.{IsFormed}
use Rattle.grind_arithmetic_rules.specs.LinearRules.{IsRead, IsWrite, combined, IsCombine}
use Rattle.grind_cutsat_facts.specs.declared.facts.Fact.{Fact}
use Rattle.grind_cutsat_facts.specs.Facts.{fact_of, IsSaid, Stands}
use Rattle.grind_cutsat_bounds.specs.Bounds.{bound_form}
use Rattle.grind_cutsat_assignment.specs.Given.{Given, Fits}
use Rattle.grind_cutsat_units.specs.declared.types.Planned.{Planned}
use Rattle.grind_cutsat_units.specs.Posts.{planned, IsTyped, AreTyped}
use Rattle.grind_cutsat_units.specs.Cuts.{CombineTo, both}
use Rattle.grind_cutsat_units.specs.Settled.{SettlesByFact, SettlesByReading, PartsByFact, PartsByReading}
use Rattle.grind_cutsat_units.specs.Laws.{ComparisonsAreTyped, EqualitiesAreTyped, EquationsAreTyped, CutsAreTyped, ResolutionsAreTyped, StrictBoundsAreTyped, SettledAreTyped, ClashesAreTyped, PinchesAreTyped}
use Rattle.grind_cutsat_units.proofs.NamingLemmas.{difference-sorts, difference-names, of_one_sort, read-formed, combination-names, comparison_formula, equation_alike}

-- ---- posts

module _ (nodes : List Node) (facts : List Fact) where
  -- a premise is said by a fact, or claimed before
  abbrev Has : List Claim → Claim → Type 0
  Has earlier premise = Stands facts premise ⊎ Contains earlier premise

  no_premise : (earlier : List Claim) → All (Has earlier) []
  no_premise earlier = All-nil (Has earlier)

  one_premise : (earlier : List Claim) (one : Claim) → Has earlier one → All (Has earlier) (one ∷ [])
  one_premise earlier one h = All-cons (Has earlier) one [] h (All-nil (Has earlier))

  two_premises : (earlier : List Claim) (one other : Claim) → Has earlier one → Has earlier other → All (Has earlier) (one ∷ other ∷ [])
  two_premises earlier one other h k = All-cons (Has earlier) one (other ∷ []) h (one_premise earlier other k)

  -- one post, two, three
  one_post : (it : Planned) → IsTyped nodes it → All (Has []) it.premises → AreTyped nodes facts (it ∷ [])
  one_post it typed has = record {
    each = All-cons (IsTyped nodes) it [] typed (All-nil (IsTyped nodes));
    rest = (has, tt);
  }

  two_posts : (one other : Planned) → IsTyped nodes one → IsTyped nodes other → All (Has []) one.premises
      → All (Has (one.claim ∷ [])) other.premises → AreTyped nodes facts (one ∷ other ∷ [])
  two_posts one other first second has also = record {
    each = All-cons (IsTyped nodes) one (other ∷ []) first (All-cons (IsTyped nodes) other [] second (All-nil (IsTyped nodes)));
    rest = (has, (also, tt));
  }

  three_posts : (one other last : Planned) → IsTyped nodes one → IsTyped nodes other → IsTyped nodes last → All (Has []) one.premises
      → All (Has (one.claim ∷ [])) other.premises → All (Has (one.claim ∷ other.claim ∷ [])) last.premises
      → AreTyped nodes facts (one ∷ other ∷ last ∷ [])
  three_posts one other last first second third has also finally = record {
    each = All-cons (IsTyped nodes) one (other ∷ last ∷ []) first
        (All-cons (IsTyped nodes) other (last ∷ []) second (All-cons (IsTyped nodes) last [] third (All-nil (IsTyped nodes))));
    rest = (has, (also, (finally, tt)));
  }

-- what a fact claims is well formed
fact_formed : (it : Given) (post : ℕ) (claim : Claim) → Fits it → IsSaid it.facts post claim → IsFormed it.nodes claim
fact_formed it post claim fits said =
    All-contains (λ (fact : Fact). IsFormed it.nodes fact.claim) it.facts (fact_of post claim) fits.formed said

-- ---- combinations

one_times : (c : ℤ) → pos 1 *ℤ c ≡ c
one_times c = omega (arith, ints)

le_same : (c : ℤ) → c ≤ℤ c
le_same c = omega (arith, linear)

times_one : (parts : List Part) → parts ≡ times (pos 1) parts
times_one [] = refl
times_one (part ∷ parts) =
    ap (λ (c : ℤ). part_of part.node c ∷ parts) (sym (one_times part.coefficient))
    ∙ ap (λ (rest : List Part). part_of part.node (pos 1 *ℤ part.coefficient) ∷ rest) (times_one parts)

-- a form divided by 1 is the form
cut_by_one : (form : FormData) → IsCut form (pos 1) form
cut_by_one form = record {
  parts_of = times_one form.parts;
  constant_of = record { above = at_least form.constant; least = below form.constant };
}
  where
    at_least : (c : ℤ) → c ≤ℤ (pos 1 *ℤ c)
    at_least c = let same = one_times c in omega (arith, linear)

    below : (c : ℤ) → (pos 1 *ℤ c) <ℤ (c +ℤ pos 1)
    below c = let same = one_times c in omega (arith, linear)

within_cut : (sum cut : FormData) (g : ℤ) → pos 0 <ℤ g → IsCut sum g cut → IsWithinCut sum g cut
within_cut sum cut g positive is = (cut, positive, is, refl, le_same cut.constant)

one_positive : pos 0 <ℤ pos 1
one_positive = record { lt = tt }

combine_to : (factors : List ℤ) (premises : List Claim) (g : ℤ) (cut : FormData) → CombineTo factors premises g cut
    → IsCombine g factors premises (AtMost cut)
combine_to factors premises g cut h = (h.0, cut, h.1, within_cut h.0 cut g h.2.positive h.4, refl)

combine_to-names : (nodes : List Node) (factors : List ℤ) (premises : List Claim) (g : ℤ) (cut : FormData)
    → All (IsFormed nodes) premises → CombineTo factors premises g cut → NamesNumbers nodes cut
combine_to-names nodes factors premises g cut formed h =
    cut-names nodes h.0 cut g (combination-names nodes factors premises h.0 formed h.1) h.4

-- ---- the units

pub comparisons_are_typed : ComparisonsAreTyped
comparisons_are_typed it posts fits table case =
    let literal = case.1.0 in
    let gives = case.1.2 in
    subst (AreTyped it.nodes it.facts) (sym gives.2)
    (one_post it.nodes it.facts (planned (AtMost gives.0) Read (literal ∷ []))
    (record { formed = read-formed it.nodes (literal ∷ []) (AtMost gives.0) table gives.1; rule = λ lemmas goal branch. gives.1 })
    (one_premise it.nodes it.facts [] literal (inl (case.0, case.1.1))))

pub equalities_are_typed : EqualitiesAreTyped
equalities_are_typed it posts fits table case =
    let gives = case.1.2 in
    let a = gives.0 in
    let b = gives.1 in
    let sorts = difference-sorts it.nodes a b gives.2 gives.5 in
    let said = subst (λ (claim : Claim). IsSaid it.facts case.0 claim) gives.4 case.1.1 in
    subst (AreTyped it.nodes it.facts) (sym gives.8)
    (three_posts it.nodes it.facts (planned (AtMost gives.2) Line (Same a b ∷ [])) (planned (Same b a) Sym (Same a b ∷ []))
    (planned (AtMost gives.3) Line (Same b a ∷ []))
    (record {
      formed = difference-names it.nodes a b gives.2 table gives.5;
      rule = λ lemmas goal branch. (a, b, gives.2, refl, refl, gives.5);
    })
    (record { formed = of_one_sort it.nodes b a sorts.1 sorts.0; rule = λ lemmas goal branch. (a, b, refl, refl) })
    (record {
      formed = difference-names it.nodes b a gives.3 table gives.6;
      rule = λ lemmas goal branch. (b, a, gives.3, refl, refl, gives.6);
    })
    (one_premise it.nodes it.facts [] (Same a b) (inl (case.0, said)))
    (one_premise it.nodes it.facts (AtMost gives.2 ∷ []) (Same a b) (inl (case.0, said)))
    (one_premise it.nodes it.facts (AtMost gives.2 ∷ Same b a ∷ []) (Same b a) (inr (Contains-push (AtMost gives.2 ∷ []) (Same b a)))))

pub equations_are_typed : EquationsAreTyped
equations_are_typed it posts fits table case =
    let claim = case.1.0 in
    let factor : ℤ = case.1.2.0 in
    let gives = case.1.2.2 in
    let form = gives.1 in
    let formed = All-cons (IsFormed it.nodes) claim [] (fact_formed it case.0 claim fits case.1.1) (All-nil (IsFormed it.nodes)) in
    let sums = subst (λ (premise : Claim). combined (number_form (pos 0)) (factor ∷ []) (premise ∷ []) ≡ Some form) (sym gives.2) gives.3 in
    subst (AreTyped it.nodes it.facts) (sym gives.4)
    (one_post it.nodes it.facts (planned (AtMost form) (Combine (pos 1) (factor ∷ [])) (claim ∷ []))
    (record {
      formed = combination-names it.nodes (factor ∷ []) (claim ∷ []) form formed sums;
      rule = λ lemmas goal branch. (form, form, sums, within_cut form form (pos 1) one_positive (cut_by_one form), refl);
    })
    (one_premise it.nodes it.facts [] claim (inl (case.0, case.1.1))))

pub cuts_are_typed : CutsAreTyped
cuts_are_typed it posts fits table case =
    let gives = case.1 in
    let form = gives.0 in
    let cut = gives.1 in
    let g = gives.2 in
    let formed = All-cons (IsFormed it.nodes) (AtMost form) [] (fact_formed it case.0 (AtMost form) fits gives.3) (All-nil (IsFormed it.nodes)) in
    subst (AreTyped it.nodes it.facts) (sym gives.7)
    (one_post it.nodes it.facts (planned (AtMost cut) (Combine g (pos 1 ∷ [])) (AtMost form ∷ []))
    (record {
      formed = combine_to-names it.nodes (pos 1 ∷ []) (AtMost form ∷ []) g cut formed gives.4;
      rule = λ lemmas goal branch. combine_to (pos 1 ∷ []) (AtMost form ∷ []) g cut gives.4;
    })
    (one_premise it.nodes it.facts [] (AtMost form) (inl (case.0, gives.3))))

pub resolutions_are_typed : ResolutionsAreTyped
resolutions_are_typed it posts fits table case =
    let gives = case.2 in
    let x = gives.0 in
    let upper = gives.1 in
    let lower = gives.2 in
    let factors : List ℤ = gives.3 ∷ gives.4 ∷ [] in
    let g = gives.5 in
    let cut = gives.6 in
    let two = gives.7 in
    let first = AtMost (bound_form x upper) in
    let second = AtMost (bound_form x lower) in
    let formed = All-cons (IsFormed it.nodes) first (second ∷ []) (fact_formed it case.0 first fits two.upper_is)
    (All-cons (IsFormed it.nodes) second [] (fact_formed it case.1 second fits two.lower_is) (All-nil (IsFormed it.nodes))) in
    subst (AreTyped it.nodes it.facts) (sym gives.12)
    (one_post it.nodes it.facts (planned (AtMost cut) (Combine g factors) (both x upper lower))
    (record {
      formed = combine_to-names it.nodes factors (both x upper lower) g cut formed gives.10;
      rule = λ lemmas goal branch. combine_to factors (both x upper lower) g cut gives.10;
    })
    (two_premises it.nodes it.facts [] first second (inl (case.0, two.upper_is)) (inl (case.1, two.lower_is))))

pub strict_bounds_are_typed : StrictBoundsAreTyped
strict_bounds_are_typed it posts fits table case =
    let differ = case.1.2 in
    let a = differ.0 in
    let b = differ.1 in
    let bound = differ.3 in
    let gives = bound.1.2 in
    let form = gives.0 in
    let apart = subst (λ (claim : Claim). IsSaid it.facts case.0 claim) differ.2 case.1.1 in
    let said = subst (λ (claim : Claim). IsSaid it.facts bound.0 claim) gives.1 bound.1.1 in
    subst (AreTyped it.nodes it.facts) (sym gives.4)
    (one_post it.nodes it.facts (planned (AtMost (plus form (pos 1))) Strict (Differ a b ∷ AtMost form ∷ []))
    (record { formed = fact_formed it bound.0 (AtMost form) fits said; rule = λ lemmas goal branch. gives.2 })
    (two_premises it.nodes it.facts [] (Differ a b) (AtMost form) (inl (case.0, apart)) (inl (bound.0, said))))

-- what `write` says of a comparison is well formed
write-formed : (nodes : List Node) (premises : List Claim) (claim : Claim) → IsTable [] nodes → IsWrite nodes premises claim
    → IsFormed nodes claim
write-formed nodes premises claim table h = elim h.3 [
  | inl held ↦
      let sides = held.1 in
      subst (IsFormed nodes) (sym held.0) (comparison_formula nodes h.0 sides.0 sides.1 table sides.2)
  | inr failed ↦
      let sides = failed.1 in
      subst (IsFormed nodes) (sym failed.0) (comparison_formula nodes h.0 sides.0 sides.1 table sides.2)
]

zero_more : (c : ℤ) → (c +ℤ pos 0) ≤ℤ c
zero_more c = omega (arith, linear)

-- what is read of a literal writes it, too
write_of_read : (nodes : List Node) (literal : Claim) (form : FormData) → IsRead nodes (literal ∷ []) (AtMost form)
    → IsWrite nodes (AtMost form ∷ []) literal
write_of_read nodes literal form h =
    let n = h.0 in
    let same : form ≡ h.1 = ap form_in h.2 in
    elim h.3 [
      | inl held ↦
          let sides = held.1 in (
            n,
            form,
            refl,
            inl (
              ap (first_of literal) held.0,
              (
                sides.0,
                sides.1,
                sides.2,
                (form, sides.3 ∙ ap (λ (it : FormData). Some it) (sym same), (refl, zero_more form.constant)),
              ),
            ),
          )
      | inr failed ↦
          let sides = failed.1 in
          let base = sides.3 in (
            n,
            form,
            refl,
            inr (
              ap (first_of literal) failed.0,
              (
                sides.0,
                sides.1,
                sides.2,
                (
                  base.0,
                  base.1,
                  (
                    ap (λ (it : FormData). it.parts) (same ∙ base.2),
                    one_more form.constant base.0.constant
                        (ap (λ (it : FormData). it.constant) (same ∙ base.2)),
                  ),
                ),
              ),
            ),
          )
    ]
  where
    form_in : Claim → FormData
    form_in (AtMost form) = form
    form_in _ = number_form (pos 0)

    first_of : Claim → List Claim → Claim
    first_of other [] = other
    first_of other (claim ∷ claims) = claim

    one_more : (c base : ℤ) → c ≡ base +ℤ pos 1 → (base +ℤ pos 1) ≤ℤ c
    one_more c base e = omega (arith, linear)

-- a number of at most 0 is combined from nothing
combine_nothing : (form : FormData) → form.parts ≡ [] → form.constant ≤ℤ pos 0 → IsCombine (pos 1) [] [] (AtMost form)
combine_nothing form none low =
    (number_form (pos 0), form, refl, (number_form (pos 0), one_positive, cut_by_one (number_form (pos 0)), none, low), refl)

none-names : (nodes : List Node) (form : FormData) → form.parts ≡ [] → NamesNumbers nodes form
none-names nodes form none =
    subst (λ (parts : List Part). All (λ (part : Part). sort_at nodes part.node ≡ Some int) parts) (sym none)
    (All-nil (λ (part : Part). sort_at nodes part.node ≡ Some int))

module _ (it : Given) (posts : List Planned) (fits : Fits it) (table : IsTable [] it.nodes) where
  by_fact : SettlesByFact it posts → AreTyped it.nodes it.facts posts
  by_fact case =
      let literal = case.1 in
      let form = case.3 in
      subst (AreTyped it.nodes it.facts) (sym case.8)
      (one_post it.nodes it.facts (planned literal Write (AtMost form ∷ []))
      (record { formed = write-formed it.nodes (AtMost form ∷ []) literal table case.7; rule = λ lemmas goal branch. case.7 })
      (one_premise it.nodes it.facts [] (AtMost form) (inl (case.2, case.6))))

  by_reading : SettlesByReading it posts → AreTyped it.nodes it.facts posts
  by_reading case =
      let literal = case.1 in
      let form = case.2 in
      let written = write_of_read it.nodes literal form case.5 in
      subst (AreTyped it.nodes it.facts) (sym case.8)
      (two_posts it.nodes it.facts (planned (AtMost form) (Combine (pos 1) []) []) (planned literal Write (AtMost form ∷ []))
      (record { formed = none-names it.nodes form case.6; rule = λ lemmas goal branch. combine_nothing form case.6 case.7 })
      (record { formed = write-formed it.nodes (AtMost form ∷ []) literal table written; rule = λ lemmas goal branch. written })
      (no_premise it.nodes it.facts [])
      (one_premise it.nodes it.facts (AtMost form ∷ []) (AtMost form) (inr (Contains-push [] (AtMost form)))))

  parts_by_fact : PartsByFact it posts → AreTyped it.nodes it.facts posts
  parts_by_fact case =
      let a = case.1 in
      let b = case.2 in
      let form = case.4 in
      subst (AreTyped it.nodes it.facts) (sym case.10)
      (one_post it.nodes it.facts (planned (Differ a b) Apart (AtMost form ∷ []))
      (record {
        formed = of_one_sort it.nodes a b case.7 (sym (equation_alike it.nodes case.0 a b table case.6) ∙ case.7);
        rule = λ lemmas goal branch. case.9;
      })
      (one_premise it.nodes it.facts [] (AtMost form) (inl (case.3, case.8))))

  parts_by_reading : PartsByReading it posts → AreTyped it.nodes it.facts posts
  parts_by_reading case =
      let a = case.1 in
      let b = case.2 in
      subst (AreTyped it.nodes it.facts) (sym case.7)
      (one_post it.nodes it.facts (planned (Differ a b) Apart [])
      (record {
        formed = of_one_sort it.nodes a b case.5 (sym (equation_alike it.nodes case.0 a b table case.4) ∙ case.5);
        rule = λ lemmas goal branch. case.6;
      })
      (no_premise it.nodes it.facts []))

pub settled_are_typed : SettledAreTyped
settled_are_typed it posts fits table case = elim case [
  | inl comparison ↦ elim comparison [
    | inl fact ↦ by_fact it posts fits table fact
    | inr reading ↦ by_reading it posts fits table reading
  ]
  | inr equation ↦ elim equation [
    | inl fact ↦ parts_by_fact it posts fits table fact
    | inr reading ↦ parts_by_reading it posts fits table reading
  ]
]

pub clashes_are_typed : ClashesAreTyped
clashes_are_typed it post case =
    (case.0, case.1, λ lemmas goal branch. (refl, inr (case.0, refl, inr (inl case.2))))

pub pinches_are_typed : PinchesAreTyped
pinches_are_typed it a b above below case =
    let bounded = case.2 in
    let sorts = difference-sorts it.nodes a b case.0 bounded.form_is in (
      case.0,
      case.1,
      bounded.above_says,
      bounded.below_says,
      of_one_sort it.nodes a b sorts.0 sorts.1,
      λ lemmas goal branch. (a, b, case.0, case.1, refl, refl, bounded.form_is, bounded.other_is),
    )
