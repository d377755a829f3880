-- `combine` allows exactly its result, and each bound with a lower constant.
use Rattle.std.proofs.Common.{◌≡◌, ℕ, List, [], ◌∷◌, All, ℤ, pos, negsuc, ◌+ℤ◌, ◌*ℤ◌, FitsSigned, Option, Some, None, refl, sym, ap, ◌∙◌, subst, arith, lit<}
use Rattle.std.specs.Int.{w128}
use Rattle.std.specs.Option.{option_and_then}
use Rattle.std.proofs.lemmas.Option.{none-some, same_Some}
use Rattle.std.proofs.lemmas.List.Elements.{All-head, All-tail}
use borrow.Author.Differences.{ints}
use lib.IntN.{+ℤ_idl, +ℤ_idr}
use Rattle.grind_lemmas.proofs.Rings.{int_add-assoc}
use Rattle.grind_linear_forms.specs.Forms.{FormData, number_form, IsForm}
use Rattle.grind_linear_forms.specs.Sums.{scaled_sum}
use Rattle.grind_linear_forms.specs.Laws.{OneCut}
use Rattle.grind_linear_forms.specs.Cuts.{IsCut}
use Rattle.grind_linear_forms.proofs.ByNode.{one-form}
use Rattle.grind_claims.specs.declared.claim.Claim.{Claim}
use Rattle.grind_claims.specs.declared.claim.Claim.TheVariants.{Holds, Fails, Same, Differ, AtMost, Zero, Absurd}
use Rattle.grind_arithmetic_rules.specs.LinearRules.{taken, combined, IsCombine}
use Rattle.grind_fitting_claims.specs.Results.{AllowsResult, IsSumOf, CombinationFits, SumFits, AreTaken, total, SumsFit, at_node, constant_in, Combined, IsCombineResult, CombineFits, SaysAtMost, IsWellMade}
use Rattle.grind_fitting_claims.proofs.SumsExactly.{sum_is, sum_fits, sum_made}
use Rattle.grind_fitting_claims.proofs.EquationsAreForms.{form_of_is}

and_then_some : {A B : Type 0} (f : A → Option B) (o : Option A) (b : B) → option_and_then f o ≡ Some b → (a : A) × (o ≡ Some a) × (f a ≡ Some b)
and_then_some f None b e = absurd (none-some b e)
and_then_some f (Some a) b e = (a, refl, e)

-- what a premise gives is a form
taken_is : (times : ℤ) (claim : Claim) (form : FormData) → IsWellMade claim → taken times claim ≡ Some form → IsForm form
taken_is (pos n) (AtMost it) form made e = subst IsForm (same_Some it form e) made
taken_is (negsuc n) (AtMost it) form made e = absurd (none-some form e)
taken_is times (Zero poly) form made e = form_of_is poly form made e
taken_is times (Holds n) form made e = absurd (none-some form e)
taken_is times (Fails n) form made e = absurd (none-some form e)
taken_is times (Same a b) form made e = absurd (none-some form e)
taken_is times (Differ a b) form made e = absurd (none-some form e)
taken_is times Absurd form made e = absurd (none-some form e)

-- ---- the sum from a form on
-- the form with so much more of others
record IsTotal (start : FormData) (factors : List ℤ) (forms : List FormData) (whole : FormData) : Type 0 where
  is_form : IsForm whole
  by_nodes : (n : ℕ) → at_node n whole ≡ at_node n start +ℤ total (at_node n) factors forms
  constants : whole.constant ≡ start.constant +ℤ total constant_in factors forms

abbrev AllFit : FormData → List ℤ → List FormData → Type 0
AllFit start factors forms =
    ((n : ℕ) → SumsFit (at_node n) (at_node n start) factors forms) × SumsFit constant_in start.constant factors forms

-- each number of the form fits
abbrev NumbersFit : FormData → Type 0
NumbersFit form = ((n : ℕ) → FitsSigned w128 (at_node n form)) × FitsSigned w128 form.constant

once : (x : ℤ) → pos 1 *ℤ x ≡ x
once x = omega (arith, ints)

-- one form more, a number of each
with_one : (x m y rest : ℤ) (next whole : ℤ) → next ≡ pos 1 *ℤ x +ℤ m *ℤ y → whole ≡ next +ℤ rest → whole ≡ x +ℤ (m *ℤ y +ℤ rest)
with_one x m y rest next whole e f =
    f ∙ ap (λ (z : ℤ). z +ℤ rest) (e ∙ ap (λ (z : ℤ). z +ℤ m *ℤ y) (once x)) ∙ int_add-assoc x (m *ℤ y) rest

without_one : (x m y rest : ℤ) (next whole : ℤ) → next ≡ pos 1 *ℤ x +ℤ m *ℤ y → whole ≡ x +ℤ (m *ℤ y +ℤ rest) → whole ≡ next +ℤ rest
without_one x m y rest next whole e f =
    f ∙ sym (int_add-assoc x (m *ℤ y) rest) ∙ ap (λ (z : ℤ). z +ℤ rest) (sym (e ∙ ap (λ (z : ℤ). z +ℤ m *ℤ y) (once x)))

next_is : (x m y next : ℤ) → next ≡ pos 1 *ℤ x +ℤ m *ℤ y → next ≡ x +ℤ m *ℤ y
next_is x m y next e = e ∙ ap (λ (z : ℤ). z +ℤ m *ℤ y) (once x)

module _ (sum form : FormData) (factor : ℤ) (factors : List ℤ) (forms : List FormData) where
  -- what fits of one form, and of the others after it
  fit_more : (next : FormData) → IsSumOf (pos 1) sum factor form next → SumFits (pos 1) sum factor form → AllFit next factors forms
      → AllFit sum (factor ∷ factors) (form ∷ forms)
  fit_more next is fits others = (λ n. at (at_node n) (is.nodes n) (fits.0 n) (others.0 n), at constant_in is.constants fits.1 others.1)
    where
      at : (number : FormData → ℤ) → number next ≡ pos 1 *ℤ number sum +ℤ factor *ℤ number form
          → CombinationFits (pos 1) (number sum) factor (number form) → SumsFit number (number next) factors forms
          → SumsFit number (number sum) (factor ∷ factors) (form ∷ forms)
      at number e f g =
          let same = next_is (number sum) factor (number form) (number next) e in (
            f.1,
            subst (FitsSigned w128) (sym e ∙ same) f.2,
            subst (λ (z : ℤ). SumsFit number z factors forms) same g,
          )

  -- and the other way round
  fit_less : NumbersFit sum → AllFit sum (factor ∷ factors) (form ∷ forms) → SumFits (pos 1) sum factor form
  fit_less numbers all = (λ n. at (at_node n) (numbers.0 n) (all.0 n), at constant_in numbers.1 all.1)
    where
      at : (number : FormData → ℤ) → FitsSigned w128 (number sum) → SumsFit number (number sum) (factor ∷ factors) (form ∷ forms)
          → CombinationFits (pos 1) (number sum) factor (number form)
      at number f g = (
        subst (FitsSigned w128) (sym (once (number sum))) f,
        g.0,
        subst (FitsSigned w128) (ap (λ (z : ℤ). z +ℤ factor *ℤ number form) (sym (once (number sum)))) g.1,
      )

  fit_rest : (next : FormData) → IsSumOf (pos 1) sum factor form next → AllFit sum (factor ∷ factors) (form ∷ forms) → AllFit next factors forms
  fit_rest next is all = (λ n. at (at_node n) (is.nodes n) (all.0 n), at constant_in is.constants all.1)
    where
      at : (number : FormData → ℤ) → number next ≡ pos 1 *ℤ number sum +ℤ factor *ℤ number form
          → SumsFit number (number sum) (factor ∷ factors) (form ∷ forms) → SumsFit number (number next) factors forms
      at number e g =
          subst (λ (z : ℤ). SumsFit number z factors forms) (sym (next_is (number sum) factor (number form) (number next) e)) g.2

-- each number of a sum fits
sum_numbers : (a b : FormData) (m k : ℤ) (sum : FormData) → IsSumOf m a k b sum → SumFits m a k b → NumbersFit sum
sum_numbers a b m k sum is fits = (
  λ n. subst (FitsSigned w128) (sym (is.nodes n)) (fits.0 n).2,
  subst (FitsSigned w128) (sym is.constants) fits.1.2,
)

-- what was combined
record IsCombined (sum : FormData) (factors : List ℤ) (premises : List Claim) (whole : FormData) : Type 0 where
  forms : List FormData
  are_taken : AreTaken factors premises forms
  is_total : IsTotal sum factors forms whole
  fit : AllFit sum factors forms

-- nothing added
none_more : (sum whole : FormData) → IsForm sum → sum ≡ whole → IsCombined sum [] [] whole
none_more sum whole is e = record {
  forms = [];
  are_taken = tt;
  is_total = record {
    is_form = subst IsForm e is;
    by_nodes = λ n. ap (at_node n) (sym e) ∙ sym (+ℤ_idr (at_node n sum));
    constants = ap constant_in (sym e) ∙ sym (+ℤ_idr sum.constant);
  };
  fit = (λ n. tt, tt);
}

one_more : (sum : FormData) (factor : ℤ) (factors : List ℤ) (premise : Claim) (premises : List Claim) (form next whole : FormData)
    → taken factor premise ≡ Some form → IsSumOf (pos 1) sum factor form next → SumFits (pos 1) sum factor form
    → IsCombined next factors premises whole → IsCombined sum (factor ∷ factors) (premise ∷ premises) whole
one_more sum factor factors premise premises form next whole e is fits rest = record {
  forms = form ∷ rest.forms;
  are_taken = (e, rest.are_taken);
  is_total = record {
    is_form = rest.is_total.is_form;
    by_nodes = λ n. with_one (at_node n sum) factor (at_node n form) (total (at_node n) factors rest.forms) (at_node n next) (at_node n whole)
        (is.nodes n) (rest.is_total.by_nodes n);
    constants = with_one sum.constant factor form.constant (total constant_in factors rest.forms) next.constant whole.constant
        is.constants rest.is_total.constants;
  };
  fit = fit_more sum form factor factors rest.forms next is fits rest.fit;
}

from_combined : (sum : FormData) (factors : List ℤ) (premises : List Claim) (whole : FormData) → IsForm sum → All IsWellMade premises
    → combined sum factors premises ≡ Some whole → IsCombined sum factors premises whole
from_combined sum [] [] whole is made e = none_more sum whole is (same_Some sum whole e)
from_combined sum [] (premise ∷ premises) whole is made e = absurd (none-some whole e)
from_combined sum (factor ∷ factors) [] whole is made e = absurd (none-some whole e)
from_combined sum (factor ∷ factors) (premise ∷ premises) whole is made e =
    let step = and_then_some (λ (next : FormData). combined next factors premises)
    (option_and_then (λ (form : FormData). scaled_sum sum (pos 1) form factor) (taken factor premise)) whole e in
    let one = and_then_some (λ (form : FormData). scaled_sum sum (pos 1) form factor) (taken factor premise) step.0 step.1 in
    let form_is = taken_is factor premise one.0 (All-head IsWellMade premise premises made) one.1 in
    let added = sum_is sum one.0 (pos 1) factor is form_is step.0 one.2 in
    let fits = sum_fits sum one.0 (pos 1) factor is form_is step.0 one.2 in
    one_more sum factor factors premise premises one.0 step.0 whole one.1 added fits
    (from_combined step.0 factors premises whole added.is_form (All-tail IsWellMade premise premises made) step.2)

-- ---- and back
and_then_is : {A B : Type 0} (f : A → Option B) (o : Option A) (a : A) (b : Option B) → o ≡ Some a → f a ≡ b → option_and_then f o ≡ b
and_then_is f o a b e g = ap (option_and_then f) e ∙ g

to_combined : (sum : FormData) (factors : List ℤ) (premises : List Claim) (forms : List FormData) (whole : FormData) → IsForm sum
    → NumbersFit sum → All IsWellMade premises → AreTaken factors premises forms → IsTotal sum factors forms whole
    → AllFit sum factors forms → combined sum factors premises ≡ Some whole
to_combined sum [] [] [] whole is numbers made are it fits =
    ap (λ (form : FormData). Some form)
    (one-form sum whole is it.is_form (λ n. sym (it.by_nodes n ∙ +ℤ_idr (at_node n sum))) (sym (it.constants ∙ +ℤ_idr sum.constant)))
to_combined sum [] [] (form ∷ forms) whole is numbers made are it fits = absurd are
to_combined sum [] (premise ∷ premises) forms whole is numbers made are it fits = absurd are
to_combined sum (factor ∷ factors) [] forms whole is numbers made are it fits = absurd are
to_combined sum (factor ∷ factors) (premise ∷ premises) [] whole is numbers made are it fits = absurd are
to_combined sum (factor ∷ factors) (premise ∷ premises) (form ∷ forms) whole is numbers made are it fits =
    let form_is = taken_is factor premise form (All-head IsWellMade premise premises made) are.0 in
    let one_fits = fit_less sum form factor factors forms numbers fits in
    let step = sum_made sum form (pos 1) factor is form_is one_fits in
    let added = sum_is sum form (pos 1) factor is form_is step.0 step.1 in
    let rest : IsTotal step.0 factors forms whole = record {
      is_form = it.is_form;
      by_nodes = λ n. without_one (at_node n sum) factor (at_node n form) (total (at_node n) factors forms) (at_node n step.0) (at_node n whole)
          (added.nodes n) (it.by_nodes n);
      constants = without_one sum.constant factor form.constant (total constant_in factors forms) step.0.constant whole.constant
          added.constants it.constants;
    } in
    and_then_is (λ (next : FormData). combined next factors premises)
    (option_and_then (λ (form : FormData). scaled_sum sum (pos 1) form factor) (taken factor premise)) step.0 (Some whole)
    (and_then_is (λ (form : FormData). scaled_sum sum (pos 1) form factor) (taken factor premise) form (Some step.0) are.0 step.1)
    (to_combined step.0 factors premises forms whole added.is_form (sum_numbers sum form (pos 1) factor step.0 added one_fits)
    (All-tail IsWellMade premise premises made) are.1 rest (fit_rest sum form factor factors forms step.0 added fits))

-- ---- the rule
zero_fits : FitsSigned w128 (pos 0)
zero_fits = record { sfits = lit< tt }

same_forms : (factors : List ℤ) (premises : List Claim) (forms others : List FormData) → AreTaken factors premises forms
    → AreTaken factors premises others → forms ≡ others
same_forms [] [] [] [] is also = refl
same_forms [] [] [] (other ∷ others) is also = absurd also
same_forms [] [] (form ∷ forms) others is also = absurd is
same_forms [] (premise ∷ premises) forms others is also = absurd is
same_forms (factor ∷ factors) [] forms others is also = absurd is
same_forms (factor ∷ factors) (premise ∷ premises) [] others is also = absurd is
same_forms (factor ∷ factors) (premise ∷ premises) (form ∷ forms) [] is also = absurd also
same_forms (factor ∷ factors) (premise ∷ premises) (form ∷ forms) (other ∷ others) is also =
    let first = same_Some form other (sym is.0 ∙ also.0) in
    let rest = same_forms factors premises forms others is.1 also.1 in λ i. first i ∷ rest i

module _ (divisor : ℤ) (factors : List ℤ) (premises : List Claim) (made : All IsWellMade premises) where
  from_combine : (claim : Claim) → IsCombine divisor factors premises claim
      → (it : Combined) × IsCombineResult divisor factors premises it × CombineFits factors it × SaysAtMost it claim
  from_combine claim h =
      let there = from_combined (number_form (pos 0)) factors premises h.0 tt made h.2 in
      let cut = h.3 in (
        record { forms = there.forms; sum = h.0; cut = cut.0 },
        record {
          forms_are = there.are_taken;
          sum_is_form = there.is_total.is_form;
          nodes = λ n. there.is_total.by_nodes n ∙ +ℤ_idl (total (at_node n) factors there.forms);
          constants = there.is_total.constants ∙ +ℤ_idl (total constant_in factors there.forms);
          positive = cut.1;
          cut_is = cut.2;
        },
        there.fit,
        (h.1, h.4, cut.3, cut.4),
      )

  to_combine : (claim : Claim) → ((it : Combined) × IsCombineResult divisor factors premises it × CombineFits factors it × SaysAtMost it claim)
      → IsCombine divisor factors premises claim
  to_combine claim w =
      let is = w.1 in
      let says = w.3 in
      let whole : IsTotal (number_form (pos 0)) factors w.0.forms w.0.sum = record {
        is_form = is.sum_is_form;
        by_nodes = λ n. is.nodes n ∙ sym (+ℤ_idl (total (at_node n) factors w.0.forms));
        constants = is.constants ∙ sym (+ℤ_idl (total constant_in factors w.0.forms));
      } in (
        w.0.sum,
        says.0,
        to_combined (number_form (pos 0)) factors premises w.0.forms w.0.sum tt (λ n. zero_fits, zero_fits) made is.forms_are whole w.2,
        (w.0.cut, is.positive, is.cut_is, says.2, says.3),
        says.1,
      )

  pub combine_results : OneCut
      → AllowsResult (IsCombineResult divisor factors premises) (CombineFits factors) SaysAtMost (IsCombine divisor factors premises)
  combine_results one_cut = record {
    exact = λ claim. (from_combine claim, to_combine claim);
    one = one_result;
  }
    where
      one_result : (it other : Combined) → IsCombineResult divisor factors premises it → IsCombineResult divisor factors premises other
          → it ≡ other
      one_result it other is also =
          let forms = same_forms factors premises it.forms other.forms is.forms_are also.forms_are in
          let sum : it.sum ≡ other.sum = one-form it.sum other.sum is.sum_is_form also.sum_is_form
          (λ n. is.nodes n ∙ ap (λ (all : List FormData). total (at_node n) factors all) forms ∙ sym (also.nodes n))
          (is.constants ∙ ap (λ (all : List FormData). total constant_in factors all) forms ∙ sym also.constants) in
          let cut : it.cut ≡ other.cut = one_cut it.sum it.cut other.cut divisor is.positive is.cut_is
          (subst (λ (form : FormData). IsCut form divisor other.cut) (sym sum) also.cut_is) in
          λ i. record { forms = forms i; sum = sum i; cut = cut i }
