-- What is found at a fact or at a pair excludes the rest.
use Rattle.std.proofs.Common.{◌≡◌, inl, inr, List, [], length, pos, Result, Ok, Err, sym, ap, ◌∙◌, refl, subst}
use Rattle.std.proofs.lemmas.Bool.{lt-ltb}
use Rattle.std.proofs.lemmas.Nat.Gcd.{dvd_antisymm, same_from_IsGcd}
use Rattle.std.proofs.lemmas.Option.{same_Some}
use Rattle.grind_polynomials.specs.declared.poly.Term.{Term}
use Rattle.grind_polynomials.specs.declared.poly.PolyRefusal.{PolyRefusal}
use Rattle.grind_polynomials.specs.declared.poly.PolyRefusal.TheVariants.{Overflow, Degree}
use Rattle.grind_polynomials.proofs.Fits.{ok-err, same_Ok}
use Rattle.grind_normal_forms.specs.declared.reduction.Reduced.{Reduced}
use Rattle.grind_normal_forms.specs.Pairs.{lead_multiple, IsSPolynomial}
use Rattle.grind_normal_forms.specs.Reduction.{reduced_of, reduced_by, IsContent}
use Rattle.grind_normal_forms.proofs.PairLemmas.{s-over, s-one}
use Rattle.grind_normal_forms.proofs.NormalLemmas.{reduces-one}
use Rattle.grind_ring_basis.specs.declared.types.Basis.{Basis}
use Rattle.grind_ring_basis.specs.declared.types.Fact.{Fact}
use Rattle.grind_ring_basis.specs.declared.types.Combination.{Combination}
use Rattle.grind_ring_basis.specs.declared.types.Pair.{Pair}
use Rattle.grind_ring_basis.specs.declared.types.Places.{Places}
use Rattle.grind_ring_basis.specs.Bases.{HasNormalForm, Outgrows}
use Rattle.grind_ring_basis.specs.Pairs.{IsTooHigh, IsPair, IsPairAt}
use Rattle.grind_ring_basis.specs.Lines.{IsPostLine, IsPairLine}
use Rattle.grind_ring_units.specs.declared.types.State.{State}
use Rattle.grind_ring_units.specs.Given.{IsClaimed}
use Rattle.grind_ring_units.specs.Agendas.{IsPairSettled}
use Rattle.grind_ring_units.specs.PairUnits.{AreElements, IsPairReducible, IsPairReduced, WouldJoinPair, IsPairTooLarge, IsPairDone}
use Rattle.grind_ring_units.specs.PostUnits.{IsJoining, IsReducible, IsReduced, WouldReduce, IsPostTooLarge, IsPostDone}

-- ---- one normal form
module _ (basis : Basis) (poly : List Term) where
  pub normal_one : (one other : Reduced) → HasNormalForm basis poly one → HasNormalForm basis poly other → one ≡ other
  normal_one one other this that =
      let made = same_Ok (Ok this.made) this.made that.made refl
      (reduces-one basis.elements (reduced_of (pos 1) poly) (Ok this.made) (Ok that.made) this.made_is that.made_is) in
      let moved : IsContent this.made that.content = subst (λ (r : Reduced). IsContent r that.content) (sym made) that.content_is in
      let content : this.content ≡ that.content =
      dvd_antisymm (moved.greatest this.content this.content_is.factor this.content_is.rest)
      (this.content_is.greatest that.content moved.factor moved.rest) in
      this.normal_is ∙ (λ i. reduced_by (content i) (made i)) ∙ sym that.normal_is

  pub not_outgrown : (normal : Reduced) → HasNormalForm basis poly normal → ¬ Outgrows basis poly
  not_outgrown normal is over =
      ok-err (Ok is.made) is.made Overflow refl
      (reduces-one basis.elements (reduced_of (pos 1) poly) (Ok is.made) (Err Overflow) is.made_is over)

-- ---- at a fact
module _ (state : State) (it : Fact) where
  rest_one : (one other : Reduced) → HasNormalForm state.basis it.poly one → HasNormalForm state.basis it.poly other → one.rest ≡ other.rest
  rest_one one other this that = ap (λ (r : Reduced). r.rest) (normal_one state.basis it.poly one other this that)

  pub done_not_joining : IsPostDone state it → ¬ IsJoining state it
  done_not_joining done joining =
      let same = rest_one done.0 joining.normal done.1 joining.normal_is in elim done.2 [
        | inl none ↦ joining.nonzero (sym joining.own ∙ sym same ∙ none)
        | inr other ↦ other.0 (same ∙ joining.own)
      ]

  done_not_reducible : (rest : List Term) → IsPostDone state it → ¬ IsReducible state it rest
  done_not_reducible rest done reducible =
      let same : rest ≡ done.0.rest = reducible.rest_is ∙ rest_one reducible.normal done.0 reducible.normal_is done.1 in elim done.2 [
        | inl none ↦ reducible.nonzero (same ∙ none)
        | inr other ↦ reducible.not_claimed (subst (IsClaimed state) (sym same) other.1)
      ]

  pub done_not_reduced : IsPostDone state it → ¬ WouldReduce state it
  done_not_reduced done would = done_not_reducible would.0 done would.2.reducible

  pub done_not_large : IsPostDone state it → ¬ IsPostTooLarge state it
  done_not_large done large = elim large [
    | inl over ↦ not_outgrown state.basis it.poly done.0 done.1 over
    | inr some ↦ done_not_reducible some.0 done some.1
  ]

  pub reducible_not_joining : (rest : List Term) → IsReducible state it rest → ¬ IsJoining state it
  reducible_not_joining rest reducible joining =
      reducible.other (reducible.rest_is ∙ rest_one reducible.normal joining.normal reducible.normal_is joining.normal_is ∙ joining.own)

  pub reduced_not_large : (rest : List Term) (line : Combination) → IsReduced state it rest line → ¬ IsPostTooLarge state it
  reduced_not_large rest line reduced large = elim large [
    | inl over ↦ not_outgrown state.basis it.poly reduced.reducible.normal reduced.reducible.normal_is over
    | inr some ↦
        let same : rest ≡ some.0 =
        reduced.reducible.rest_is ∙ rest_one reduced.reducible.normal some.1.normal reduced.reducible.normal_is some.1.normal_is
        ∙ sym some.1.rest_is in
        some.2 line (subst (λ (r : List Term). IsPostLine state.basis it r line) same reduced.line_is)
  ]

  pub large_not_joining : IsPostTooLarge state it → ¬ IsJoining state it
  large_not_joining large joining = elim large [
    | inl over ↦ not_outgrown state.basis it.poly joining.normal joining.normal_is over
    | inr some ↦ reducible_not_joining some.0 some.1 joining
  ]

  pub large_not_reduced : IsPostTooLarge state it → ¬ WouldReduce state it
  large_not_reduced large would = reduced_not_large would.0 would.1 would.2 large

-- ---- at a pair
two_refusals : (one other : Result (List Term) PolyRefusal) → one ≡ Err Degree → other ≡ Err Overflow → one ≡ other → ⊥
two_refusals one other e f same = cc

-- what has an S-polynomial has no other answer
module _ (a b : List Term) where
  high_is : IsTooHigh a b → (answer : Result (List Term) PolyRefusal) → IsSPolynomial a b answer → Err Degree ≡ answer
  high_is high answer is = sym (s-over a b is.divisor (lt-ltb 16 (length (lead_multiple a b)) high)) ∙ is.answer_is

  high_no_pair : (pair : Pair) → IsTooHigh a b → IsPair a b pair → ⊥
  high_no_pair pair high is = ok-err (Ok pair.poly) pair.poly Degree refl (sym (high_is high (Ok pair.poly) is.poly))

  high_not_large : IsTooHigh a b → IsSPolynomial a b (Err Overflow) → ⊥
  high_not_large high is = two_refusals (Err Degree) (Err Overflow) refl refl (high_is high (Err Overflow) is)

  large_no_pair : (pair : Pair) → IsSPolynomial a b (Err Overflow) → IsPair a b pair → ⊥
  large_no_pair pair large is = ok-err (Ok pair.poly) pair.poly Overflow refl (s-one a b (Ok pair.poly) (Err Overflow) is.poly large)

  one_pair : (one other : Pair) → IsPair a b one → IsPair a b other → one ≡ other
  one_pair one other this that =
      let divisor : one.divisor ≡ other.divisor = same_from_IsGcd _ _ one.divisor other.divisor this.divisor that.divisor in
      let poly : one.poly ≡ other.poly =
      same_Ok (Ok one.poly) one.poly other.poly refl (s-one a b (Ok one.poly) (Ok other.poly) this.poly that.poly) in
      λ i. record { divisor = divisor i; poly = poly i }

module _ (state : State) (places : Places) where
  -- the S-polynomial at these places is that of the elements there
  pub pair_of : (a b : List Term) (pair : Pair) → AreElements state places a b → IsPairAt state.basis places pair → IsPair a b pair
  pair_of a b pair are is =
      subst (λ (x : List Term). IsPair x b pair) (same_Some is.first a (sym is.first_is ∙ are.first_is))
      (subst (λ (x : List Term). IsPair is.first x pair) (same_Some is.second b (sym is.second_is ∙ are.second_is)) is.pair_is)

  same_pair : (one other : Pair) → IsPairAt state.basis places one → IsPairAt state.basis places other → one ≡ other
  same_pair one other this that =
      one_pair this.first this.second one other this.pair_is
      (subst (λ (x : List Term). IsPair x this.second other) (same_Some that.first this.first (sym that.first_is ∙ this.first_is))
      (subst (λ (x : List Term). IsPair that.first x other) (same_Some that.second this.second (sym that.second_is ∙ this.second_is)) that.pair_is))

  rest_at : (one other : Pair) (n m : Reduced) → IsPairAt state.basis places one → IsPairAt state.basis places other
      → HasNormalForm state.basis one.poly n → HasNormalForm state.basis other.poly m → n.rest ≡ m.rest
  rest_at one other n m this that first second =
      ap (λ (r : Reduced). r.rest) (normal_one state.basis one.poly n m first
      (subst (λ (p : Pair). HasNormalForm state.basis p.poly m) (sym (same_pair one other this that)) second))

  not_outgrown_at : (one other : Pair) (n : Reduced) → IsPairAt state.basis places one → IsPairAt state.basis places other
      → HasNormalForm state.basis one.poly n → ¬ Outgrows state.basis other.poly
  not_outgrown_at one other n this that first over =
      not_outgrown state.basis one.poly n first
      (subst (λ (p : Pair). Outgrows state.basis p.poly) (sym (same_pair one other this that)) over)

  done_not_reducible_at : (pair : Pair) (rest : List Term) → IsPairDone state places → ¬ IsPairReducible state places pair rest
  done_not_reducible_at pair rest done reducible = elim done.3 [
    | inl high ↦
        high_no_pair done.0 done.1 pair high (pair_of done.0 done.1 pair done.2 reducible.pair_is)
    | inr made ↦
        let same : rest ≡ made.2.rest =
        reducible.rest_is ∙ rest_at pair made.0 reducible.normal made.2 reducible.pair_is made.1 reducible.normal_is made.3 in elim made.4 [
          | inl none ↦ reducible.nonzero (same ∙ none)
          | inr claimed ↦ reducible.not_claimed (subst (IsClaimed state) (sym same) claimed)
        ]
  ]

  pub done_pair_not_joining : IsPairDone state places → ¬ WouldJoinPair state places
  done_pair_not_joining done would = done_not_reducible_at would.0 would.1 done would.3.reducible

  pub done_pair_not_large : IsPairDone state places → ¬ IsPairTooLarge state places
  done_pair_not_large done large = elim large [
    | inl made ↦
        let first : made.0 ≡ done.0 = same_Some made.0 done.0 (sym made.2.first_is ∙ done.2.first_is) in
        let second : made.1 ≡ done.1 = same_Some made.1 done.1 (sym made.2.second_is ∙ done.2.second_is) in
        let refused : IsSPolynomial done.0 done.1 (Err Overflow) =
        subst (λ (x : List Term). IsSPolynomial x done.1 (Err Overflow)) first
        (subst (λ (x : List Term). IsSPolynomial made.0 x (Err Overflow)) second made.3) in elim done.3 [
          | inl high ↦ high_not_large done.0 done.1 high refused
          | inr pair ↦ large_no_pair done.0 done.1 pair.0 refused (pair_of done.0 done.1 pair.0 done.2 pair.1)
        ]
    | inr later ↦ elim later [
      | inl over ↦ elim done.3 [
        | inl high ↦ high_no_pair done.0 done.1 over.0 high (pair_of done.0 done.1 over.0 done.2 over.2)
        | inr pair ↦ not_outgrown_at pair.0 over.0 pair.2 pair.1 over.2 pair.3 over.3
      ]
      | inr some ↦ done_not_reducible_at some.0 some.1 done some.2
    ]
  ]

  pub joining_pair_not_large : (pair : Pair) (rest : List Term) (line : Combination) → IsPairReduced state places pair rest line
      → ¬ IsPairTooLarge state places
  joining_pair_not_large pair rest line reduced large =
      let it = reduced.reducible in elim large [
        | inl made ↦ large_no_pair made.0 made.1 pair made.3 (pair_of made.0 made.1 pair made.2 it.pair_is)
        | inr later ↦ elim later [
          | inl over ↦ not_outgrown_at pair over.0 it.normal it.pair_is over.2 it.normal_is over.3
          | inr some ↦
              let same : rest ≡ some.1 =
              it.rest_is ∙ rest_at pair some.0 it.normal some.2.normal it.pair_is some.2.pair_is it.normal_is some.2.normal_is
              ∙ sym some.2.rest_is in
              some.3 line (subst (λ (r : List Term). IsPairLine state.basis places some.0 r line) same
              (subst (λ (p : Pair). IsPairLine state.basis places p rest line) (same_pair pair some.0 it.pair_is some.2.pair_is) reduced.line_is))
        ]
      ]

  pub large_pair_not_joining : IsPairTooLarge state places → ¬ WouldJoinPair state places
  large_pair_not_joining large would = joining_pair_not_large would.0 would.1 would.2 would.3 large

-- ---- a pair that need not be looked at again
pub settled_done : (state : State) (places : Places) → IsPairSettled state.basis places → IsPairDone state places
settled_done state places settled = elim settled.1 [
  | inl it ↦ (
    it.first,
    it.second,
    record { rising = settled.0; first_is = it.first_is; second_is = it.second_is },
    inl it.high,
  )
  | inr it ↦ (
    it.pair_is.first,
    it.pair_is.second,
    record { rising = settled.0; first_is = it.pair_is.first_is; second_is = it.pair_is.second_is },
    inr (it.pair, it.pair_is, reduced_of (pos 1) [], it.zero, inl refl),
  )
]
