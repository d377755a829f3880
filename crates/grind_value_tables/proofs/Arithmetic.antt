-- What a table of values that respects the terms says of arithmetic and order.
use Rattle.std.specs.Prelude.{◌≡◌, ◌↔◌, ℕ, List, [], ◌∷◌, map, slice_get, ℤ, ◌+ℤ◌, ◌*ℤ◌, neg_ℤ, ◌≤ℤ◌}
use Rattle.std.proofs.Common.{arith, ap}
use Rattle.grind_lemmas.proofs.Rings.{linear}
use Rattle.grind_term_graph.specs.declared.head.Head.{Head}
use Rattle.grind_term_graph.specs.declared.head.Head.TheVariants as head
use Rattle.grind_term_graph.specs.declared.node.Node.{Node}
use Rattle.grind_linear_forms.specs.Forms.{FormData}
use Rattle.grind_linear_forms.specs.Laws as forms
use Rattle.grind_linear_forms.specs.Values.{parts_value, form_value, Computes, RespectsArithmetic, OfOne as OfOneValue, OfTwo as OfTwoValues}
use Rattle.grind_polynomials.specs.Laws as polynomials
use Rattle.grind_differences.specs.Bounds.{plus, IsOver}
use Rattle.grind_differences.specs.Laws.{DifferencesHaveTheirValues, PolyDifferencesHaveTheirValues, MultiplesHaveTheirValues, FormsOfPolysHaveTheirValues}
use Rattle.grind_arithmetic_rules.specs.LinearRules.{IsComparison}
use Rattle.grind_value_tables.specs.Respects.{one, Means, OfOne, OfTwo, Respects}
use Rattle.grind_value_tables.proofs.Meanings.{IsSomeAnd-item, means_of}

-- the laws of forms and polynomials that the rules rest on
pub record ArithmeticLaws : Type 0 where
  pub differences : DifferencesHaveTheirValues
  pub poly_differences : PolyDifferencesHaveTheirValues
  pub multiples : MultiplesHaveTheirValues
  pub forms_of_polys : FormsOfPolysHaveTheirValues
  pub cuts : forms.CutsStayBelow
  pub sums : forms.SumsHaveTheirValues
  pub poly_sums : polynomials.SumsHaveTheirValues

-- what holds of one value, or of two, by the words of linear forms
of_one : (P : ℤ → Type 0) (args : List ℤ) → OfOne P args → OfOneValue P args
of_one P [] h = absurd h
of_one P (a ∷ []) h = h
of_one P (a ∷ b ∷ rest) h = absurd h

of_two : (P : ℤ → ℤ → Type 0) (args : List ℤ) → OfTwo P args → OfTwoValues P args
of_two P [] h = absurd h
of_two P (a ∷ []) h = absurd h
of_two P (a ∷ b ∷ []) h = h
of_two P (a ∷ b ∷ c ∷ rest) h = absurd h

-- what a head means is what it computes
computes : (its_head : Head) (args : List ℤ) (value : ℤ) → Means its_head args value → Computes its_head args value
computes head.True args value h = tt
computes head.False args value h = tt
computes head.Not args value h = tt
computes head.And args value h = tt
computes head.Or args value h = tt
computes head.Implies args value h = tt
computes head.Eq args value h = tt
computes head.Le args value h = tt
computes (head.Int number) args value h = h
computes head.Add args value h = of_two (λ a b. value ≡ (a +ℤ b)) args h
computes head.Neg args value h = of_one (λ a. value ≡ neg_ℤ a) args h
computes head.Mul args value h = of_two (λ a b. value ≡ (a *ℤ b)) args h
computes (head.Fun function) args value h = tt
computes (head.Const constant) args value h = tt

-- a form with at least so much more has at least so much more as its value
pub over_value : (v : ℕ → ℤ) (base form : FormData) (least : ℤ) → IsOver base least form
    → (form_value v base +ℤ least) ≤ℤ form_value v form
over_value v base form least over =
    let parts = ap (parts_value v) over.0 in
    let constant = over.1 in omega (arith, linear)

-- and with just so much more just so much
pub plus_value : (v : ℕ → ℤ) (base form : FormData) (number : ℤ) → form ≡ plus base number
    → form_value v form ≡ form_value v base +ℤ number
plus_value v base form number e = let whole = ap (form_value v) e in omega (arith, linear)

module _ (nodes : List Node) (v : ℕ → ℤ) (respects : Respects nodes v) where
  -- the table respects arithmetic
  pub arithmetic : RespectsArithmetic nodes v
  arithmetic n node is = computes node.head (map v node.args) (v n) (respects.heads n node is)

  -- a comparison is true exactly where the first side is at most the second
  pub comparison_value : (n a b : ℕ) → IsComparison nodes n a b → (v n ≡ one) ↔ (v a ≤ℤ v b)
  comparison_value n a b comparison =
      let it = IsSomeAnd-item (slice_get nodes n) (λ (it : Node). (it.head ≡ head.Le) × (it.args ≡ a ∷ b ∷ [])) comparison in
      means_of nodes v respects n it.0 head.Le (a ∷ b ∷ []) it.1 it.2.0 it.2.1
