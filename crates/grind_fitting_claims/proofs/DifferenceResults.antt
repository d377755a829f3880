-- `line`, `read` and `strict` allow exactly their results.
use Rattle.std.proofs.Common.{◌≡◌, ℕ, List, [], ◌∷◌, ℤ, pos, negsuc, ◌+ℤ◌, ◌*ℤ◌, FitsSigned, Option, Some, None, slice_get, slice_index_or, refl, sym, ap, ◌∙◌, subst, inl, inr}
use Rattle.std.specs.Int.{w128}
use Rattle.std.specs.Option.{IsSomeAnd, option_and_then}
use Rattle.std.proofs.lemmas.Option.{none-some, same_Some}
use lib.IntN.{+ℤ_idr}
use Rattle.grind_term_graph.specs.declared.head.Head.TheVariants as head
use Rattle.grind_term_graph.specs.declared.node.Node.{Node}
use Rattle.grind_linear_forms.specs.Forms.{FormData, form_data}
use Rattle.grind_linear_forms.specs.Sums.{scaled_sum}
use Rattle.grind_differences.specs.Bounds.{plus}
use Rattle.grind_differences.specs.Differences.{reading, difference}
use Rattle.grind_claims.specs.declared.claim.Claim.{Claim}
use Rattle.grind_claims.specs.declared.claim.Claim.TheVariants.{Holds, Fails, Same, AtMost}
use Rattle.grind_arithmetic_rules.specs.LinearRules.{IsComparison, IsLine, IsRead, IsStrict}
use Rattle.grind_fitting_claims.specs.Results.{AllowsResult, IsSumOf, SumFits, Difference, IsDifferenceOf, DifferenceFits, SaysBound, IsLineResult, IsReadResult, IsStrictResult, StrictFits, SaysStrict, DifferencesAreExact}
use Rattle.grind_fitting_claims.proofs.SumsExactly.{sum_is, sum_fits, sum_there, one_sum}
use Rattle.grind_fitting_claims.proofs.ReadingsAreForms.{reading_is_form}

-- ---- differences
pub and_then_some : {A B : Type 0} (f : A → Option B) (o : Option A) (b : B) → option_and_then f o ≡ Some b → (a : A) × (o ≡ Some a) × (f a ≡ Some b)
and_then_some f None b e = absurd (none-some b e)
and_then_some f (Some a) b e = (a, refl, e)

difference_parts : (nodes : List Node) (a b : ℕ) (form : FormData) → difference nodes a b ≡ Some form
    → (left : FormData) × (right : FormData) × (reading nodes a ≡ Some left) × (reading nodes b ≡ Some right)
    × (scaled_sum left (pos 1) right (negsuc 0) ≡ Some form)
unfolding difference
difference_parts nodes a b form e =
    let one = and_then_some (λ (l : FormData). option_and_then (λ (r : FormData). scaled_sum l (pos 1) r (negsuc 0)) (reading nodes b))
    (reading nodes a) form e in
    let two = and_then_some (λ (r : FormData). scaled_sum one.0 (pos 1) r (negsuc 0)) (reading nodes b) form one.2 in
    (one.0, two.0, one.1, two.1, two.2)

difference_from : (nodes : List Node) (a b : ℕ) (left right : FormData) → reading nodes a ≡ Some left → reading nodes b ≡ Some right
    → difference nodes a b ≡ scaled_sum left (pos 1) right (negsuc 0)
unfolding difference
difference_from nodes a b left right e f = rw (e, f) refl

-- the difference of these, with a number that is added
abbrev of_parts : FormData → FormData → FormData → ℤ → Difference
of_parts left right form number = record { left = left; right = right; form = form; number = number }

-- a difference that is defined, as it is over whole numbers without bounds
module _ (nodes : List Node) (a b : ℕ) where
  -- what is defined
  record Made (form : FormData) (number : ℤ) : Type 0 where
    it : Difference
    is : IsDifferenceOf nodes a b it
    fits : SumFits (pos 1) it.left (negsuc 0) it.right
    form_is : form ≡ it.form
    number_is : it.number ≡ number

  made : (form : FormData) (number : ℤ) → difference nodes a b ≡ Some form → Made form number
  made form number e =
      let parts = difference_parts nodes a b form e in
      let left = reading_is_form nodes a parts.0 parts.2 in
      let right = reading_is_form nodes b parts.1 parts.3 in record {
        it = of_parts parts.0 parts.1 form number;
        is = record { left_is = parts.2; right_is = parts.3; form_is = sum_is parts.0 parts.1 (pos 1) (negsuc 0) left right form parts.4 };
        fits = sum_fits parts.0 parts.1 (pos 1) (negsuc 0) left right form parts.4;
        form_is = refl;
        number_is = refl;
      }

  defined : (it : Difference) → IsDifferenceOf nodes a b it → SumFits (pos 1) it.left (negsuc 0) it.right → difference nodes a b ≡ Some it.form
  defined it is fits =
      difference_from nodes a b it.left it.right is.left_is is.right_is
      ∙ sum_there it.left it.right (pos 1) (negsuc 0) (reading_is_form nodes a it.left is.left_is) (reading_is_form nodes b it.right is.right_is)
      it.form is.form_is fits

  -- two terms have one difference
  one_difference : (it other : Difference) → IsDifferenceOf nodes a b it → IsDifferenceOf nodes a b other → it.number ≡ other.number → it ≡ other
  one_difference it other is also number =
      let left = same_Some it.left other.left (sym is.left_is ∙ also.left_is) in
      let right = same_Some it.right other.right (sym is.right_is ∙ also.right_is) in
      let turned : IsSumOf (pos 1) it.left (negsuc 0) it.right other.form =
      subst (λ (f : FormData). IsSumOf (pos 1) f (negsuc 0) it.right other.form) (sym left)
      (subst (λ (f : FormData). IsSumOf (pos 1) other.left (negsuc 0) f other.form) (sym right) also.form_is) in
      let form = one_sum it.left it.right (pos 1) (negsuc 0) (reading_is_form nodes a it.left is.left_is)
      (reading_is_form nodes b it.right is.right_is) it.form other.form is.form_is turned in
      λ i. of_parts (left i) (right i) (form i) (number i)

-- the same, of numbers of nodes that are one
same_difference : (nodes : List Node) (a b c d : ℕ) (it other : Difference) → a ≡ c → b ≡ d → IsDifferenceOf nodes a b it →
    IsDifferenceOf nodes c d other → it.number ≡ other.number → it ≡ other
same_difference nodes a b c d it other first second is also number =
    one_difference nodes a b it other is
    (subst (λ (x : ℕ). IsDifferenceOf nodes x b other) (sym first) (subst (λ (y : ℕ). IsDifferenceOf nodes c y other) (sym second) also)) number

pub differences_exact : DifferencesAreExact
differences_exact nodes a b form = (
  λ e. let there = made nodes a b form (pos 0) e in (there.it, there.is, there.fits, there.form_is),
  λ w. defined nodes a b w.0 w.1 w.2 ∙ ap (λ (f : FormData). Some f) (sym w.3),
)

-- nothing added
plus_zero : (form : FormData) (number : ℤ) → number ≡ pos 0 → plus form number ≡ form
plus_zero form number e i = form_data form.parts ((ap (λ (z : ℤ). form.constant +ℤ z) e ∙ +ℤ_idr form.constant) i)

-- the constant of a difference that is defined, and nothing added
constant_fits : (nodes : List Node) (a b : ℕ) (it : Difference) → IsDifferenceOf nodes a b it → SumFits (pos 1) it.left (negsuc 0) it.right →
    it.number ≡ pos 0 → FitsSigned w128 (it.form.constant +ℤ it.number)
constant_fits nodes a b it is fits none =
    let same : it.form.constant +ℤ it.number ≡ pos 1 *ℤ it.left.constant +ℤ negsuc 0 *ℤ it.right.constant =
    ap (λ (z : ℤ). it.form.constant +ℤ z) none ∙ +ℤ_idr it.form.constant ∙ is.form_is.constants in
    subst (FitsSigned w128) (sym same) fits.1.2

-- a bound to which nothing is added
says_zero : (it : Difference) (form : FormData) (claim : Claim) → claim ≡ AtMost form → form ≡ it.form → it.number ≡ pos 0 → SaysBound it claim
says_zero it form claim e is none =
    e ∙ ap (λ (f : FormData). AtMost f) (is ∙ sym (plus_zero it.form it.number none))

-- what the first premise names, and what the second bounds
abbrev pub first_of : List Claim → ℕ
first_of (Same a b ∷ rest) = a
first_of (Holds n ∷ rest) = n
first_of (Fails n ∷ rest) = n
first_of _ = 0

abbrev pub second_of : List Claim → ℕ
second_of (Same a b ∷ rest) = b
second_of _ = 0

abbrev bound_of : List Claim → FormData
bound_of (one ∷ AtMost form ∷ rest) = form
bound_of _ = form_data [] (pos 0)

not_both : (n m : ℕ) → Holds n ∷ [] ≡ Fails m ∷ [] → ⊥
not_both n m e = cc

-- ---- line
module _ (nodes : List Node) (premises : List Claim) where
  pub from_line : (claim : Claim) → IsLine nodes premises claim
      → (it : Difference) × IsLineResult nodes premises it × DifferenceFits it × SaysBound it claim
  from_line claim h =
      let there = made nodes h.0 h.1 h.2 (pos 0) h.5 in (
        there.it,
        (h.0, h.1, h.3, there.is, there.number_is),
        (there.fits, constant_fits nodes h.0 h.1 there.it there.is there.fits there.number_is),
        says_zero there.it h.2 claim h.4 there.form_is there.number_is,
      )

  pub to_line : (claim : Claim) → ((it : Difference) × IsLineResult nodes premises it × DifferenceFits it × SaysBound it claim)
      → IsLine nodes premises claim
  to_line claim w =
      let is = w.1 in (
        is.0,
        is.1,
        w.0.form,
        is.2,
        w.3 ∙ ap (λ (f : FormData). AtMost f) (plus_zero w.0.form w.0.number is.4),
        defined nodes is.0 is.1 w.0 is.3 w.2.0,
      )

  pub one_line : (it other : Difference) → IsLineResult nodes premises it → IsLineResult nodes premises other → it ≡ other
  one_line it other is also =
      let e = sym is.2 ∙ also.2 in
      let first : is.0 ≡ also.0 = ap first_of e in
      let second : is.1 ≡ also.1 = ap second_of e in
      same_difference nodes is.0 is.1 also.0 also.1 it other first second is.3 also.3 (is.4 ∙ sym also.4)

  pub line_results : AllowsResult (IsLineResult nodes premises) DifferenceFits SaysBound (IsLine nodes premises)
  line_results = record { exact = λ claim. (from_line claim, to_line claim); one = one_line }

-- ---- read
-- a comparison has one pair of sides
same_sides : (o : Option Node) (a b c d : ℕ) → IsSomeAnd o (λ (it : Node). (it.head ≡ head.Le) × (it.args ≡ a ∷ b ∷ []))
    → IsSomeAnd o (λ (it : Node). (it.head ≡ head.Le) × (it.args ≡ c ∷ d ∷ [])) → (a ≡ c) × (b ≡ d)
same_sides None a b c d is also = absurd is
same_sides (Some it) a b c d is also =
    let e : a ∷ b ∷ [] ≡ c ∷ d ∷ [] = sym is.1 ∙ also.1 in
    (ap (λ (xs : List ℕ). slice_index_or xs 0 0) e, ap (λ (xs : List ℕ). slice_index_or xs 1 0) e)

module _ (nodes : List Node) (premises : List Claim) where
  sides_of : (n m a b c d : ℕ) → n ≡ m → IsComparison nodes n a b → IsComparison nodes m c d → (a ≡ c) × (b ≡ d)
  sides_of n m a b c d e is also =
      same_sides (slice_get nodes n) a b c d is (subst (λ (k : ℕ). IsComparison nodes k c d) (sym e) also)

  pub from_read : (claim : Claim) → IsRead nodes premises claim
      → (it : Difference) × IsReadResult nodes premises it × DifferenceFits it × SaysBound it claim
  from_read claim h = elim h.3 [
    | inl holds ↦
        let sides = holds.1 in
        let there = made nodes sides.0 sides.1 h.1 (pos 0) sides.3 in (
          there.it,
          inl (h.0, holds.0, (sides.0, sides.1, sides.2, there.is), there.number_is),
          (there.fits, constant_fits nodes sides.0 sides.1 there.it there.is there.fits there.number_is),
          says_zero there.it h.1 claim h.2 there.form_is there.number_is,
        )
    | inr fails ↦
        let sides = fails.1 in
        let base = sides.3 in
        let there = made nodes sides.1 sides.0 base.0 (pos 1) base.1 in
        let same : h.1 ≡ plus there.it.form there.it.number =
        base.2 ∙ (λ i. plus (there.form_is i) (pos 1)) ∙ ap (λ (z : ℤ). plus there.it.form z) (sym there.number_is) in (
          there.it,
          inr (h.0, fails.0, (sides.0, sides.1, sides.2, there.is), there.number_is),
          (there.fits, subst (λ (f : FormData). FitsSigned w128 f.constant) same fails.2),
          h.2 ∙ ap (λ (f : FormData). AtMost f) same,
        )
  ]

  pub to_read : (claim : Claim) → ((it : Difference) × IsReadResult nodes premises it × DifferenceFits it × SaysBound it claim)
      → IsRead nodes premises claim
  to_read claim w = at_result w.1
    where
      at_result : IsReadResult nodes premises w.0 → IsRead nodes premises claim
      at_result (inl r) =
          let sides = r.2 in (
            r.0,
            w.0.form,
            w.3 ∙ ap (λ (f : FormData). AtMost f) (plus_zero w.0.form w.0.number r.3),
            inl (r.1, (sides.0, sides.1, sides.2, defined nodes sides.0 sides.1 w.0 sides.3 w.2.0)),
          )
      at_result (inr r) =
          let sides = r.2 in (
            r.0,
            plus w.0.form (pos 1),
            w.3 ∙ ap (λ (z : ℤ). AtMost (plus w.0.form z)) r.3,
            inr (
              r.1,
              (sides.0, sides.1, sides.2, (w.0.form, defined nodes sides.1 sides.0 w.0 sides.3 w.2.0, refl)),
              subst (λ (z : ℤ). FitsSigned w128 (w.0.form.constant +ℤ z)) r.3 w.2.1,
            ),
          )

  pub one_read : (it other : Difference) → IsReadResult nodes premises it → IsReadResult nodes premises other → it ≡ other
  one_read it other (inl is) (inl also) =
      let first = is.2 in
      let second = also.2 in
      let same = sides_of is.0 also.0 first.0 first.1 second.0 second.1 (ap first_of (sym is.1 ∙ also.1)) first.2 second.2 in
      same_difference nodes first.0 first.1 second.0 second.1 it other same.0 same.1 first.3 second.3 (is.3 ∙ sym also.3)
  one_read it other (inr is) (inr also) =
      let first = is.2 in
      let second = also.2 in
      let same = sides_of is.0 also.0 first.0 first.1 second.0 second.1 (ap first_of (sym is.1 ∙ also.1)) first.2 second.2 in
      same_difference nodes first.1 first.0 second.1 second.0 it other same.1 same.0 first.3 second.3 (is.3 ∙ sym also.3)
  one_read it other (inl is) (inr also) = absurd (not_both is.0 also.0 (sym is.1 ∙ also.1))
  one_read it other (inr is) (inl also) = absurd (not_both also.0 is.0 (sym also.1 ∙ is.1))

  pub read_results : AllowsResult (IsReadResult nodes premises) DifferenceFits SaysBound (IsRead nodes premises)
  read_results = record { exact = λ claim. (from_read claim, to_read claim); one = one_read }

-- ---- strict
module _ (nodes : List Node) (premises : List Claim) where
  pub strict_results : AllowsResult (IsStrictResult nodes premises) StrictFits SaysStrict (IsStrict nodes premises)
  strict_results = record {
    exact = λ claim. (
      λ h. (h.2, (h.0, h.1, h.3, h.5), h.6, h.4),
      λ w. let is = w.1 in (is.0, is.1, w.0, is.2, w.3, is.3, w.2),
    );
    one = λ it other is also. ap bound_of (sym is.2 ∙ also.2);
  }
