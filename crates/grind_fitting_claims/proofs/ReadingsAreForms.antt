-- The reading of a term as a linear form is one.
use Rattle.std.proofs.Common.{◌≡◌, ◌≢◌, ℕ, Bool, true, false, ℤ, pos, negsuc, ◌≤ℤ◌, List, Option, Some, None, subst, arith}
use Rattle.std.specs.Prelude.{if◌then◌else◌}
use Rattle.std.proofs.lemmas.Option.{none-some, same_Some}
use Rattle.grind_term_graph.specs.declared.node.Node.{Node}
use Rattle.grind_term_graph.specs.Terms.{sort_at}
use Rattle.grind_linear_forms.specs.Forms.{FormData, number_form, node_form, IsForm}
use Rattle.grind_linear_forms.specs.Sums.{scaled_form, scaled_sum}
use Rattle.grind_linear_forms.specs.Readings.{is_number, product_form, form_operations, linear}
use Rattle.grind_differences.specs.Differences.{is_number_sort, reading}
use Rattle.grind_fitting_claims.proofs.ReadingsKeep.{Keep, read_is}
use Rattle.grind_fitting_claims.proofs.SumsExactly.{sum_is_form, multiple_is_form}

-- what is answered is a form
abbrev AnswersForm : Option FormData → Type 0
AnswersForm answer = (form : FormData) → answer ≡ Some form → IsForm form

none_is : AnswersForm None
none_is form e = absurd (none-some form e)

some_is : (it : FormData) → IsForm it → AnswersForm (Some it)
some_is it h form e = subst IsForm (same_Some it form e) h

pub one_is_not_zero : pos 1 ≢ pos 0
one_is_not_zero e = (subst (λ (z : ℤ). pos 1 ≤ℤ z) e (record { le = tt })).le

number_is : (number : ℤ) → IsForm (number_form number)
number_is number = tt

pub node_is : (n : ℕ) → IsForm (node_form n)
node_is n = (omega arith, one_is_not_zero, tt)

pub by_if : {A : Type 0} (P : A → Type 0) (b : Bool) (one other : A) → P one → P other → P (if b then one else other)
by_if P true one other first second = first
by_if P false one other first second = second

product_is : (n : ℕ) (a b : FormData) → IsForm a → IsForm b → AnswersForm (product_form n a b)
product_is n a b left right =
    by_if AnswersForm (is_number a.parts) (scaled_form a.constant b) _ (λ form e. multiple_is_form b form a.constant right e)
    (by_if AnswersForm (is_number b.parts) (scaled_form b.constant a) (Some (node_form n)) (λ form e. multiple_is_form a form b.constant left e)
    (some_is (node_form n) (node_is n)))

sum_goes : (a b : FormData) → IsForm a → IsForm b → AnswersForm (scaled_sum a (pos 1) b (pos 1))
sum_goes a b left right form e = sum_is_form a b form (pos 1) (pos 1) left right e

negation_goes : (a : FormData) → IsForm a → AnswersForm (scaled_form (negsuc 0) a)
negation_goes a is form e = multiple_is_form a form (negsuc 0) is e

pub keep : Keep form_operations IsForm
keep = record {
  numbers = λ number. some_is (number_form number) (number_is number);
  atoms = λ n. some_is (node_form n) (node_is n);
  sums = sum_goes;
  negations = negation_goes;
  products = product_is;
}

linear_is : (nodes : List Node) (n : ℕ) → AnswersForm (linear nodes n)
unfolding linear
linear_is nodes n = read_is form_operations IsForm keep nodes n

pub reading_is_form : (nodes : List Node) (n : ℕ) (form : FormData) → reading nodes n ≡ Some form → IsForm form
unfolding reading
reading_is_form nodes n form e =
    by_if AnswersForm (is_number_sort (sort_at nodes n)) (linear nodes n) None (linear_is nodes n) none_is form e
