-- Lines over a basis: where there is none, and that what they are made of is one.
use Rattle.std.proofs.Common.{◌≡◌, ◌≢◌, inl, inr, ℕ, zero, suc, ◌<◌, unsigned_abs, All, MatchOption, List, [], ◌∷◌, slice_get, slice_set, pos, Option, Some, None, Result, Ok, Err, sym, ap, ◌∙◌, refl, subst}
use Rattle.std.proofs.lemmas.List.Elements.{All-head, All-tail}
use Rattle.std.proofs.lemmas.Option.{same_Some}
use Rattle.grind_polynomials.specs.declared.poly.Term.{Term}
use Rattle.grind_polynomials.specs.declared.poly.PolyRefusal.{PolyRefusal}
use Rattle.grind_polynomials.specs.declared.poly.PolyRefusal.TheVariants.{Overflow}
use Rattle.grind_normal_forms.specs.declared.reduction.Reduced.{Reduced}
use Rattle.grind_normal_forms.specs.declared.factors.Factors.{Factors}
use Rattle.grind_polynomials.specs.Readings.{answered, number_poly}
use Rattle.grind_normal_forms.specs.Pairs.{IsLeadGcd, lead_coefficient}
use Rattle.grind_polynomials.specs.Polynomials.{IsPoly}
use Rattle.grind_normal_forms.specs.Reduction.{reduced_of, IsNormal}
use Rattle.grind_polynomials.specs.Sums.{and_then, sum_product}
use Rattle.grind_normal_forms.specs.FinalFactors.{FactorNumbersFit, FactorsOverflow}
use Rattle.grind_polynomials.proofs.Fits.{ok-err, same_Ok}
use Rattle.grind_normal_forms.proofs.Divisors.{gcd-positive, size-nonzero}
use Rattle.grind_normal_forms.proofs.PairLemmas.{nonzero-lead}
use Rattle.grind_normal_forms.proofs.NormalLemmas.{reduces-one, zero-rest}
use Rattle.grind_normal_forms.proofs.FinalLemmas.{final-one}
use Rattle.grind_ring_basis.specs.declared.types.Fact.{Fact}
use Rattle.grind_ring_basis.specs.declared.types.Basis.{Basis}
use Rattle.grind_ring_basis.specs.declared.types.Share.{Share}
use Rattle.grind_ring_basis.specs.declared.types.Pair.{Pair}
use Rattle.grind_ring_basis.specs.declared.types.Places.{Places}
use Rattle.grind_ring_basis.specs.declared.types.Combination.{Combination}
use Rattle.grind_ring_basis.specs.Bases.{IsBasis, ReducesToZero, HasNormalForm}
use Rattle.grind_ring_basis.specs.Pairs.{IsPairAt}
use Rattle.grind_ring_basis.specs.Shares.{shares_of, in_order, IsAllowed, IsLineOver}
use Rattle.grind_ring_basis.specs.Lines.{AreFactors, fact_shares, IsPostLine, first_multiple, second_multiple, AreShared, IsPairLine, IsDifferenceLine}

-- ---- factors
pub factors_one : (basis : Basis) (poly : List Term) (one other : Factors) → AreFactors basis poly one → AreFactors basis poly other → one ≡ other
factors_one basis poly one other this that = final-one basis.elements poly one other this.final that.final

pub no_factors : (basis : Basis) (poly : List Term) → FactorsOverflow basis.elements poly → (factors : Factors) → ¬ AreFactors basis poly factors
no_factors basis poly over factors are = elim over [
  | inl breaks ↦
      ok-err (Ok are.final.made) are.final.made Overflow refl
      (reduces-one basis.elements (reduced_of (pos 1) poly) (Ok are.final.made) (Err Overflow) are.final.made_is breaks)
  | inr exceeds ↦
      exceeds.over (subst FactorNumbersFit (final-one basis.elements poly factors exceeds.factors are.final exceeds.final_is) are.fits)
]

-- a normal form without a rest has the factor 1
pub reduces_to_zero : (basis : Basis) (poly : List Term) (normal : Reduced) → HasNormalForm basis poly normal → normal.rest ≡ []
    → ReducesToZero basis poly
reduces_to_zero basis poly normal is none =
    subst (IsNormal basis.elements poly) (λ i. reduced_of (zero-rest basis.elements poly normal is none i) (none i)) is

-- ---- the line for the normal form of a fact
module _ (basis : Basis) (it : Fact) (rest : List Term) where
  pub post_without : ((factors : Factors) → ¬ AreFactors basis it.poly factors) → (line : Combination) → ¬ IsPostLine basis it rest line
  post_without none line is = none is.factors is.factors_are

  module _ (factors : Factors) (are : AreFactors basis it.poly factors) (premises : List (ℕ × Share))
      (premises_are : premises ≡ in_order (fact_shares basis it factors)) where
    pub post_none : ¬ IsAllowed factors.divisor premises rest → (line : Combination) → ¬ IsPostLine basis it rest line
    post_none no_line line is =
        no_line (subst (λ (all : List (ℕ × Share)). IsAllowed factors.divisor all rest) (sym premises_are)
        (subst (λ (f : Factors). IsAllowed f.divisor (in_order (fact_shares basis it f)) rest)
        (factors_one basis it.poly is.factors factors is.factors_are are) is.line_is.allowed))

    pub post_some : (line : Combination) → IsLineOver factors.divisor premises rest line → IsPostLine basis it rest line
    post_some line is = record {
      factors = factors;
      factors_are = are;
      line_is = subst (λ (all : List (ℕ × Share)). IsLineOver factors.divisor all rest line) premises_are is;
    }

-- ---- the line for a polynomial that reduces to 0
module _ (basis : Basis) (poly : List Term) (reduces : ReducesToZero basis poly) where
  pub difference_without : ((factors : Factors) → ¬ AreFactors basis poly factors) → (line : Combination) → ¬ IsDifferenceLine basis poly line
  difference_without none line is = none is.factors is.factors_are

  module _ (factors : Factors) (are : AreFactors basis poly factors) (premises : List (ℕ × Share))
      (premises_are : premises ≡ in_order (shares_of basis.posts basis.elements factors.list)) where
    pub difference_none : ¬ IsAllowed factors.divisor premises poly → (line : Combination) → ¬ IsDifferenceLine basis poly line
    difference_none no_line line is =
        no_line (subst (λ (all : List (ℕ × Share)). IsAllowed factors.divisor all poly) (sym premises_are)
        (subst (λ (f : Factors). IsAllowed f.divisor (in_order (shares_of basis.posts basis.elements f.list)) poly)
        (factors_one basis poly is.factors factors is.factors_are are) is.line_is.allowed))

    pub difference_some : (line : Combination) → IsLineOver factors.divisor premises poly line → IsDifferenceLine basis poly line
    difference_some line is = record {
      reduces = reduces;
      factors = factors;
      factors_are = are;
      line_is = subst (λ (all : List (ℕ × Share)). IsLineOver factors.divisor all poly line) premises_are is;
    }

-- ---- the factors with how often an S-polynomial takes two elements
answered-none : (r : Result (List Term) PolyRefusal) (poly : List Term) → None ≡ answered r → r ≡ Ok poly → ⊥
answered-none (Ok a) poly none e = cc
answered-none (Err x) poly none e = cc

answered-some : (r : Result (List Term) PolyRefusal) (poly : List Term) → Some poly ≡ answered r → r ≡ Ok poly
answered-some (Ok a) poly some = ap (λ (p : List Term). Ok p) (sym (same_Some poly a some))
answered-some (Err x) poly some = absurd cc

module _ (h : ℕ) (a b : List Term) (places : Places) (factors : Factors) where
  pub unshared_first : slice_get factors.list places.first ≡ None → (all : List (List Term)) → ¬ AreShared h a b places factors all
  unshared_first none all are = none_some are.first (sym none ∙ are.first_is)
    where
      none_some : (x : List Term) → None ≡ Some x → ⊥
      none_some x e = cc

  pub unshared_second : slice_get factors.list places.second ≡ None → (all : List (List Term)) → ¬ AreShared h a b places factors all
  unshared_second none all are = none_some are.second (sym none ∙ are.second_is)
    where
      none_some : (x : List Term) → None ≡ Some x → ⊥
      none_some x e = cc

  module _ (first second : List Term) (first_is : slice_get factors.list places.first ≡ Some first)
      (second_is : slice_get factors.list places.second ≡ Some second) where
    same_first : (all : List (List Term)) → (are : AreShared h a b places factors all) → are.first ≡ first
    same_first all are = same_Some are.first first (sym are.first_is ∙ first_is)

    same_second : (all : List (List Term)) → (are : AreShared h a b places factors all) → are.second ≡ second
    same_second all are = same_Some are.second second (sym are.second_is ∙ second_is)

    pub no_more_first : None ≡ answered (sum_product first (number_poly factors.own) (first_multiple h a b))
        → (all : List (List Term)) → ¬ AreShared h a b places factors all
    no_more_first none all are =
        answered-none (sum_product first (number_poly factors.own) (first_multiple h a b)) are.more_first none
        (subst (λ (q : List Term). sum_product q (number_poly factors.own) (first_multiple h a b) ≡ Ok are.more_first) (same_first all are)
        are.more_first_is)

    pub no_more_second : None ≡ answered (and_then (sum_product second (number_poly factors.own)) (second_multiple h a b))
        → (all : List (List Term)) → ¬ AreShared h a b places factors all
    no_more_second none all are =
        answered-none (and_then (sum_product second (number_poly factors.own)) (second_multiple h a b)) are.more_second none
        (subst (λ (q : List Term). and_then (sum_product q (number_poly factors.own)) (second_multiple h a b) ≡ Ok are.more_second)
        (same_second all are) are.more_second_is)

    pub shared : (more_first more_second : List Term) (all : List (List Term))
        → Some more_first ≡ answered (sum_product first (number_poly factors.own) (first_multiple h a b))
        → Some more_second ≡ answered (and_then (sum_product second (number_poly factors.own)) (second_multiple h a b))
        → all ≡ slice_set (slice_set factors.list places.first more_first) places.second more_second → AreShared h a b places factors all
    shared more_first more_second all one two is = record {
      first = first;
      second = second;
      more_first = more_first;
      more_second = more_second;
      first_is = first_is;
      second_is = second_is;
      more_first_is = answered-some (sum_product first (number_poly factors.own) (first_multiple h a b)) more_first one;
      more_second_is =
          answered-some (and_then (sum_product second (number_poly factors.own)) (second_multiple h a b)) more_second two;
      all_are = is;
    }

  pub shared_one : (all other : List (List Term)) → AreShared h a b places factors all → AreShared h a b places factors other → all ≡ other
  shared_one all other one two =
      let first = same_first two.first two.second two.first_is two.second_is all one in
      let second = same_second two.first two.second two.first_is two.second_is all one in
      let more_first = same_Ok (sum_product one.first (number_poly factors.own) (first_multiple h a b)) one.more_first two.more_first
      one.more_first_is
      (subst (λ (q : List Term). sum_product q (number_poly factors.own) (first_multiple h a b) ≡ Ok two.more_first) (sym first)
      two.more_first_is) in
      let more_second = same_Ok (and_then (sum_product one.second (number_poly factors.own)) (second_multiple h a b)) one.more_second
      two.more_second one.more_second_is
      (subst (λ (q : List Term). and_then (sum_product q (number_poly factors.own)) (second_multiple h a b) ≡ Ok two.more_second) (sym second)
      two.more_second_is) in
      one.all_are
      ∙ (λ i. slice_set (slice_set factors.list places.first (more_first i)) places.second (more_second i))
      ∙ sym two.all_are

-- ---- the line for the normal form of an S-polynomial
module _ (basis : Basis) (places : Places) (pair : Pair) (rest : List Term) where
  pub pair_without : ((factors : Factors) → ¬ AreFactors basis pair.poly factors) → (line : Combination)
      → ¬ IsPairLine basis places pair rest line
  pair_without none line is = none is.factors is.factors_are

  module _ (a b : List Term) (a_is : slice_get basis.elements places.first ≡ Some a) (b_is : slice_get basis.elements places.second ≡ Some b)
      (factors : Factors) (are : AreFactors basis pair.poly factors) where
    shared_at : (line : Combination) → (is : IsPairLine basis places pair rest line) → AreShared pair.divisor a b places factors is.all
    shared_at line is =
        let one = same_Some is.pair_is.first a (sym is.pair_is.first_is ∙ a_is) in
        let two = same_Some is.pair_is.second b (sym is.pair_is.second_is ∙ b_is) in
        let same = factors_one basis pair.poly is.factors factors is.factors_are are in
        subst (λ (x : List Term). AreShared pair.divisor x b places factors is.all) one
        (subst (λ (x : List Term). AreShared pair.divisor is.pair_is.first x places factors is.all) two
        (subst (λ (f : Factors). AreShared pair.divisor is.pair_is.first is.pair_is.second places f is.all) same is.all_are))

    pub pair_unshared : ((all : List (List Term)) → ¬ AreShared pair.divisor a b places factors all) → (line : Combination)
        → ¬ IsPairLine basis places pair rest line
    pair_unshared none line is = none is.all (shared_at line is)

    module _ (all : List (List Term)) (all_are : AreShared pair.divisor a b places factors all) (premises : List (ℕ × Share))
        (premises_are : premises ≡ in_order (shares_of basis.posts basis.elements all)) where
      pub pair_none : ¬ IsAllowed factors.divisor premises rest → (line : Combination) → ¬ IsPairLine basis places pair rest line
      pair_none no_line line is =
          let same = factors_one basis pair.poly is.factors factors is.factors_are are in
          let alike = shared_one pair.divisor a b places factors is.all all (shared_at line is) all_are in
          no_line (subst (λ (them : List (ℕ × Share)). IsAllowed factors.divisor them rest) (sym premises_are)
          (subst (λ (qs : List (List Term)). IsAllowed factors.divisor (in_order (shares_of basis.posts basis.elements qs)) rest) alike
          (subst (λ (f : Factors). IsAllowed f.divisor (in_order (shares_of basis.posts basis.elements is.all)) rest) same is.line_is.allowed)))

      pub pair_some : (pair_is : IsPairAt basis places pair) → pair_is.first ≡ a → pair_is.second ≡ b → (line : Combination)
          → IsLineOver factors.divisor premises rest line → IsPairLine basis places pair rest line
      pair_some pair_is one two line is = record {
        pair_is = pair_is;
        factors = factors;
        factors_are = are;
        all = all;
        all_are =
            subst (λ (x : List Term). AreShared pair.divisor x pair_is.second places factors all) (sym one)
            (subst (λ (x : List Term). AreShared pair.divisor a x places factors all) (sym two) all_are);
        line_is = subst (λ (them : List (ℕ × Share)). IsLineOver factors.divisor them rest line) premises_are is;
      }

-- ---- the answers
pub post_answer : (basis : Basis) (it : Fact) (rest : List Term) (factors : Factors) → AreFactors basis it.poly factors
    → (premises : List (ℕ × Share)) → premises ≡ in_order (fact_shares basis it factors) → (answer : Option Combination)
    → MatchOption answer (¬ IsAllowed factors.divisor premises rest) (λ line. IsLineOver factors.divisor premises rest line)
    → MatchOption answer ((line : Combination) → ¬ IsPostLine basis it rest line) (λ line. IsPostLine basis it rest line)
post_answer basis it rest factors are premises is None none = post_none basis it rest factors are premises is none
post_answer basis it rest factors are premises is (Some line) some = post_some basis it rest factors are premises is line some

pub difference_answer : (basis : Basis) (poly : List Term) → ReducesToZero basis poly → (factors : Factors) → AreFactors basis poly factors
    → (premises : List (ℕ × Share)) → premises ≡ in_order (shares_of basis.posts basis.elements factors.list) → (answer : Option Combination)
    → MatchOption answer (¬ IsAllowed factors.divisor premises poly) (λ line. IsLineOver factors.divisor premises poly line)
    → MatchOption answer ((line : Combination) → ¬ IsDifferenceLine basis poly line) (λ line. IsDifferenceLine basis poly line)
difference_answer basis poly reduces factors are premises is None none = difference_none basis poly reduces factors are premises is none
difference_answer basis poly reduces factors are premises is (Some line) some =
    difference_some basis poly reduces factors are premises is line some

module _ (basis : Basis) (places : Places) (pair : Pair) (rest : List Term) (a b : List Term)
    (a_is : slice_get basis.elements places.first ≡ Some a) (b_is : slice_get basis.elements places.second ≡ Some b)
    (pair_is : IsPairAt basis places pair) where
  pub pair_answer : (factors : Factors) → AreFactors basis pair.poly factors → (all : List (List Term))
      → AreShared pair.divisor a b places factors all → (premises : List (ℕ × Share))
      → premises ≡ in_order (shares_of basis.posts basis.elements all) → (answer : Option Combination)
      → MatchOption answer (¬ IsAllowed factors.divisor premises rest) (λ line. IsLineOver factors.divisor premises rest line)
      → MatchOption answer ((line : Combination) → ¬ IsPairLine basis places pair rest line) (λ line. IsPairLine basis places pair rest line)
  pair_answer factors are all all_are premises is None none = pair_none basis places pair rest a b a_is b_is factors are all all_are premises is none
  pair_answer factors are all all_are premises is (Some line) some =
      pair_some basis places pair rest a b a_is b_is factors are all all_are premises is pair_is
      (same_Some pair_is.first a (sym pair_is.first_is ∙ a_is)) (same_Some pair_is.second b (sym pair_is.second_is ∙ b_is)) line some

  pub lead_gcd : IsLeadGcd a b pair.divisor
  lead_gcd =
      subst (λ (x : List Term). IsLeadGcd x b pair.divisor) (same_Some pair_is.first a (sym pair_is.first_is ∙ a_is))
      (subst (λ (x : List Term). IsLeadGcd pair_is.first x pair.divisor) (same_Some pair_is.second b (sym pair_is.second_is ∙ b_is))
      pair_is.pair_is.divisor)

-- an element of a basis is not 0
pub element_nonzero : (basis : Basis) (place : ℕ) (b : List Term) → IsBasis basis → slice_get basis.elements place ≡ Some b → b ≢ []
element_nonzero basis place b is found = at_place basis.elements place is.nonzero found
  where
    at_place : (bs : List (List Term)) (place : ℕ) → All (λ b. b ≢ []) bs → slice_get bs place ≡ Some b → b ≢ []
    at_place [] place all e = absurd cc
    at_place (x ∷ xs) zero all e = subst (λ (y : List Term). y ≢ []) (same_Some x b e) (All-head (λ b. b ≢ []) x xs all)
    at_place (x ∷ xs) (suc place) all e = at_place xs place (All-tail (λ b. b ≢ []) x xs all) e

pub gcd_positive : (a b : List Term) (h : ℕ) → IsPoly a → a ≢ [] → IsLeadGcd a b h → 0 < h
gcd_positive a b h poly some gcd =
    gcd-positive (unsigned_abs (lead_coefficient a)) (unsigned_abs (lead_coefficient b)) h gcd
    (size-nonzero (lead_coefficient a) (nonzero-lead a poly some))

pub place_missing : (xs : List (List Term)) (place : ℕ) (x : List Term) → slice_get xs place ≡ Some x → slice_get xs place ≡ None → ⊥
place_missing xs place x some none = missing (sym none ∙ some)
  where
    missing : None ≡ Some x → ⊥
    missing e = cc
