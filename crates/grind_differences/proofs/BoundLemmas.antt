-- Readings of whole numbers, and their differences.
use Rattle.std.proofs.Common.{◌≡◌, ◌↔◌, ℕ, zero, suc, ◌<◌, List, [], ◌∷◌, ◌++◌, length, Option, Some, None, Bool, true, false, true≢false, cond, refl, sym, ap, ◌∙◌, subst, ℤ, pos, negsuc}
use Rattle.std.specs.Prelude.{IsTrue, nat_eq, slice_get}
use Rattle.std.specs.Option.{option_and_then, option_map}
use Rattle.std.proofs.lemmas.Bool.{ne_eqb}
use Rattle.std.proofs.lemmas.Bool.Decides.{Decides-eqb}
use Rattle.std.proofs.lemmas.Option.{same_Some, none-some, slice_get_within}
use Rattle.grind_term_graph.specs.declared.node.Node.{Node}
use Rattle.grind_term_graph.specs.Terms.{int, sort_at}
use Rattle.grind_linear_forms.specs.declared.form.Part.{Part}
use Rattle.grind_linear_forms.specs.Forms.{FormData, form_data}
use Rattle.grind_linear_forms.specs.Sums.{scaled_sum}
use Rattle.grind_linear_forms.specs.Readings.{linear}
use Rattle.grind_linear_forms.specs.Laws.{ReadingsStay}
use Rattle.grind_differences.specs.Differences.{is_number_sort, reading, difference}

-- what a step after an option gives, its value gave
pub and_then_some : {A B : Type 0} (f : A → Option B) (o : Option A) (b : B) → option_and_then f o ≡ Some b
    → (a : A) × (o ≡ Some a) × (f a ≡ Some b)
and_then_some f None b e = absurd (none-some b e)
and_then_some f (Some a) b e = (a, refl, e)

-- a field of an item that stands there stays what it is
pub field_is_still : {X Y : Type 0} (f : X → Y) (xs ys : List X) (i : ℕ) (y : Y)
    → option_map f (slice_get xs i) ≡ Some y → option_map f (slice_get (xs ++ ys) i) ≡ Some y
field_is_still f [] ys i y h = absurd (none-some y h)
field_is_still f (x ∷ xs) ys zero y h = h
field_is_still f (x ∷ xs) ys (suc i) y h = field_is_still f xs ys i y h

-- ---- readings

pub reading-number : (nodes : List Node) (n : ℕ) → sort_at nodes n ≡ Some int → reading nodes n ≡ linear nodes n
unfolding reading
reading-number nodes n e = ap (λ (sort : Option ℕ). cond (is_number_sort sort) (linear nodes n) None) e

pub no_number_sort : (sort : Option ℕ) → ¬ (sort ≡ Some int) → is_number_sort sort ≡ false
no_number_sort None h = refl
no_number_sort (Some sort) h = ne_eqb sort int (λ (e : sort ≡ int). h (ap Some e))

pub reading-other : (nodes : List Node) (n : ℕ) → ¬ (sort_at nodes n ≡ Some int) → reading nodes n ≡ None
unfolding reading
reading-other nodes n h = ap (λ (is : Bool). cond is (linear nodes n) None) (no_number_sort (sort_at nodes n) h)

by_test : (sort : ℕ) (b : Bool) (r : Option FormData) (form : FormData) → nat_eq sort int ≡ b → cond b r None ≡ Some form
    → (Some sort ≡ Some int) × (r ≡ Some form)
by_test sort true r form is e = (ap Some ((Decides-eqb sort int).0 is), e)
by_test sort false r form is e = absurd (none-some form e)

from_sort : (sort : Option ℕ) (r : Option FormData) (form : FormData) → cond (is_number_sort sort) r None ≡ Some form
    → (sort ≡ Some int) × (r ≡ Some form)
from_sort None r form e = absurd (none-some form e)
from_sort (Some sort) r form e = by_test sort (nat_eq sort int) r form refl e

-- a term with a reading is a whole number
pub reading-sort : (nodes : List Node) (n : ℕ) (form : FormData) → reading nodes n ≡ Some form
    → (sort_at nodes n ≡ Some int) × (linear nodes n ≡ Some form)
unfolding reading
reading-sort nodes n form e = from_sort (sort_at nodes n) (linear nodes n) form e

pub within_of_sort : (nodes : List Node) (o : Option Node) (n : ℕ) → slice_get nodes n ≡ o
    → option_map (λ (node : Node). node.sort) o ≡ Some int → n < length nodes
within_of_sort nodes None n e h = absurd (none-some int h)
within_of_sort nodes (Some node) n e h = slice_get_within nodes n node e

pub reading-stays : ReadingsStay → (nodes more : List Node) (n : ℕ) (form : FormData) → reading nodes n ≡ Some form
    → reading (nodes ++ more) n ≡ Some form
reading-stays law nodes more n form e =
    let is = reading-sort nodes n form e in
    let still : sort_at (nodes ++ more) n ≡ Some int = field_is_still (λ (node : Node). node.sort) nodes more n int is.0 in
    reading-number (nodes ++ more) n still ∙ law nodes more n (within_of_sort nodes (slice_get nodes n) n refl is.0) ∙ is.1

-- ---- differences

pub difference-from : (nodes : List Node) (a b : ℕ) (left right : FormData) → reading nodes a ≡ Some left → reading nodes b ≡ Some right
    → difference nodes a b ≡ scaled_sum left (pos 1) right (negsuc 0)
unfolding difference
difference-from nodes a b left right e f =
    ap (λ (o : Option FormData). option_and_then (λ (l : FormData). option_and_then (λ (r : FormData). scaled_sum l (pos 1) r (negsuc 0)) (reading nodes b)) o) e
    ∙ ap (λ (o : Option FormData). option_and_then (λ (r : FormData). scaled_sum left (pos 1) r (negsuc 0)) o) f

pub difference-parts : (nodes : List Node) (a b : ℕ) (form : FormData) → difference nodes a b ≡ Some form
    → (left : FormData) × (right : FormData) × (reading nodes a ≡ Some left) × (reading nodes b ≡ Some right)
    × (scaled_sum left (pos 1) right (negsuc 0) ≡ Some form)
unfolding difference
difference-parts nodes a b form e =
    let one = and_then_some (λ (l : FormData). option_and_then (λ (r : FormData). scaled_sum l (pos 1) r (negsuc 0)) (reading nodes b))
    (reading nodes a) form e in
    let two = and_then_some (λ (r : FormData). scaled_sum one.0 (pos 1) r (negsuc 0)) (reading nodes b) form one.2 in
    (one.0, two.0, one.1, two.1, two.2)

pub difference-stays : ReadingsStay → (nodes more : List Node) (a b : ℕ) (form : FormData) → difference nodes a b ≡ Some form
    → difference (nodes ++ more) a b ≡ Some form
difference-stays law nodes more a b form e =
    let is = difference-parts nodes a b form e in
    difference-from (nodes ++ more) a b is.0 is.1 (reading-stays law nodes more a is.0 is.2) (reading-stays law nodes more b is.1 is.3) ∙ is.4

-- the first term has no reading, or the second
pub difference-left : (nodes : List Node) (a b : ℕ) → reading nodes a ≡ None → difference nodes a b ≡ None
unfolding difference
difference-left nodes a b e =
    ap (λ (o : Option FormData). option_and_then (λ (l : FormData). option_and_then (λ (r : FormData). scaled_sum l (pos 1) r (negsuc 0)) (reading nodes b)) o) e

pub difference-right : (nodes : List Node) (a b : ℕ) (left : FormData) → reading nodes a ≡ Some left → reading nodes b ≡ None → difference nodes a b ≡ None
unfolding difference
difference-right nodes a b left e f =
    ap (λ (o : Option FormData). option_and_then (λ (l : FormData). option_and_then (λ (r : FormData). scaled_sum l (pos 1) r (negsuc 0)) (reading nodes b)) o) e
    ∙ ap (λ (o : Option FormData). option_and_then (λ (r : FormData). scaled_sum left (pos 1) r (negsuc 0)) o) f

-- ---- forms

-- a form is its parts and its constant
pub form_is : (form : FormData) (parts : List Part) (constant : ℤ) → form.parts ≡ parts → form.constant ≡ constant
    → form ≡ form_data parts constant
form_is form parts constant e f = λ i. record { parts = e i; constant = f i }

pub parts_of_form : (form : FormData) (parts : List Part) (constant : ℤ) → form ≡ form_data parts constant
    → (form.parts ≡ parts) × (form.constant ≡ constant)
parts_of_form form parts constant e = (ap (λ (it : FormData). it.parts) e, ap (λ (it : FormData). it.constant) e)

-- two tests of a form, read as one of the whole
pub by_parts : (b c : Bool) (form : FormData) (parts : List Part) (constant : ℤ) → (IsTrue b ↔ (form.parts ≡ parts))
    → (IsTrue c ↔ (form.constant ≡ constant)) → IsTrue (cond b c false) ↔ (form ≡ form_data parts constant)
by_parts true c form parts constant same_parts same_constant = (
  λ h. form_is form parts constant (same_parts.0 refl) (same_constant.0 h),
  λ e. same_constant.1 (parts_of_form form parts constant e).1,
)
by_parts false c form parts constant same_parts same_constant = (
  λ h. absurd (true≢false (sym h)),
  λ e. absurd (true≢false (sym (same_parts.1 (parts_of_form form parts constant e).0))),
)

-- ---- tests of differences

module _ (nodes : List Node) (a b : ℕ) where
  -- a test of a difference, read as one of the terms
  pub by_difference : (Q : FormData → FormData → Type 0) (base form : FormData) (is : Bool) → difference nodes a b ≡ Some base
      → (IsTrue is ↔ Q base form) → IsTrue is ↔ ((it : FormData) × (difference nodes a b ≡ Some it) × Q it form)
  by_difference Q base form is here decides = (
    λ h. (base, here, decides.0 h),
    λ h. decides.1 (subst (λ (it : FormData). Q it form) (same_Some h.0 base (sym h.1 ∙ here)) h.2),
  )

  -- there is none
  pub no_difference : (Q : FormData → FormData → Type 0) (form : FormData) → difference nodes a b ≡ None
      → IsTrue false ↔ ((it : FormData) × (difference nodes a b ≡ Some it) × Q it form)
  no_difference Q form none = (λ h. absurd (true≢false (sym h)), λ h. absurd (none-some h.0 (sym none ∙ h.1)))

  -- a test of the difference itself
  pub is_base : (base form : FormData) (is : Bool) → difference nodes a b ≡ Some base → (IsTrue is ↔ (base ≡ form))
      → IsTrue is ↔ (difference nodes a b ≡ Some form)
  is_base base form is here decides = (λ h. here ∙ ap Some (decides.0 h), λ e. decides.1 (same_Some base form (sym here ∙ e)))

  pub is_no_base : (form : FormData) → difference nodes a b ≡ None → IsTrue false ↔ (difference nodes a b ≡ Some form)
  is_no_base form none = (λ h. absurd (true≢false (sym h)), λ e. absurd (none-some form (sym none ∙ e)))
