-- Which nodes the parts of sums, cuts and readings have.
use Rattle.std.proofs.Common.{◌≡◌, inl, inr, ℕ, zero, suc, ◌<◌, List, [], ◌∷◌, ◌++◌, length, map, ℤ, pos, negsuc, ◌*ℤ◌, Option, Some, None, slice_get, All, arith, sym, ap, ◌∙◌, refl, subst}
use Rattle.std.specs.Option.{option_map, option_and_then}
use Rattle.std.proofs.lemmas.Bool.{cases_Bool, cases_order, cond-true, cond-false}
use Rattle.std.proofs.lemmas.List.{append_assoc}
use Rattle.std.proofs.lemmas.List.Elements.{All-nil, All-cons, All-head, All-tail}
use Rattle.std.proofs.lemmas.Option.{none-some, same_Some, slice_get_past, slice_get_within}
use Rattle.grind_lemmas.proofs.Lists.{get-before, get-at, length-push}
use Rattle.grind_term_graph.specs.declared.head.Head.{Head}
use Rattle.grind_term_graph.specs.declared.head.Head.TheVariants as head
use Rattle.grind_term_graph.specs.declared.node.Node.{Node}
use Rattle.grind_term_graph.specs.Shape.{IsTable, IsShaped}
use Rattle.grind_term_graph.specs.Terms.{int, sort_at}
use Rattle.grind_reach.specs.Readings.{of_one, of_two, reading_of, found, readings}
use Rattle.grind_reach.proofs.ReadingLemmas.{readings-nil, readings-cons, found-by}
use Rattle.grind_linear_forms.specs.declared.form.Part.{Part}
use Rattle.grind_linear_forms.specs.Forms.{FormData, part_of, node_form}
use Rattle.grind_linear_forms.specs.Sums.{multiple, combination, in_front, front, multiplied, merged, scaled_form, scaled_sum}
use Rattle.grind_linear_forms.specs.Cuts.{times, IsCut}
use Rattle.grind_linear_forms.specs.Readings.{is_number, product_form, form_operations, linear}
use Rattle.grind_linear_forms.specs.Naming.{NamesNumbers}
use Rattle.grind_linear_forms.proofs.Merging.{multiplied-nil, multiplied-cons, merged-nil, merged-left, merged-less, merged-more, merged-same, both-some}

module _ (P : ℕ → Type 0) where
  -- what holds of each node
  abbrev OfNodes : List Part → Type 0
  OfNodes parts = All (λ (part : Part). P part.node) parts

  named-in_front : (node : ℕ) (c : ℤ) (rest : List Part) → P node → OfNodes rest → OfNodes (in_front node c rest)
  named-in_front node (pos zero) rest h each = each
  named-in_front node (pos (suc n)) rest h each = All-cons (λ (part : Part). P part.node) (part_of node (pos (suc n))) rest h each
  named-in_front node (negsuc n) rest h each = All-cons (λ (part : Part). P part.node) (part_of node (negsuc n)) rest h each

  named-front : (node : ℕ) (c : Option ℤ) (rest : Option (List Part)) (all : List Part) → P node → front node c rest ≡ Some all
      → ((parts : List Part) → rest ≡ Some parts → OfNodes parts) → OfNodes all
  named-front node None rest all h e each = absurd (none-some all e)
  named-front node (Some c) None all h e each = absurd (none-some all e)
  named-front node (Some c) (Some parts) all h e each =
      subst OfNodes (same_Some _ _ e) (named-in_front node c parts h (each parts refl))

  named-multiplied : (m : ℤ) (parts all : List Part) → OfNodes parts → multiplied m parts ≡ Some all → OfNodes all
  named-multiplied m [] all each e = subst OfNodes (same_Some _ _ (sym (multiplied-nil m) ∙ e)) (All-nil (λ (part : Part). P part.node))
  named-multiplied m (x ∷ xs) all each e =
      named-front x.node (multiple m x.coefficient) (multiplied m xs) all (All-head (λ (part : Part). P part.node) x xs each)
      (sym (multiplied-cons m x xs) ∙ e)
      (λ parts f. named-multiplied m xs parts (All-tail (λ (part : Part). P part.node) x xs each) f)

  module _ (m k : ℤ) (x : Part) (xs : List Part) (first : OfNodes (x ∷ xs))
      (below : (ys all : List Part) → OfNodes ys → merged m xs k ys ≡ Some all → OfNodes all) where
    named-merged_from : (ys all : List Part) → OfNodes ys → merged m (x ∷ xs) k ys ≡ Some all → OfNodes all
    named-merged_from [] all each e = named-multiplied m (x ∷ xs) all first (sym (merged-left m k (x ∷ xs)) ∙ e)
    named-merged_from (y ∷ ys) all each e =
        let x_named = All-head (λ (part : Part). P part.node) x xs first in
        let y_named = All-head (λ (part : Part). P part.node) y ys each in
        let others = All-tail (λ (part : Part). P part.node) y ys each in
        elim (cases_order x.node y.node) [
          | inl same ↦ named-front x.node (combination m x.coefficient k y.coefficient) (merged m xs k ys) all x_named
              (sym (merged-same m k x y xs ys (omega arith) (omega arith)) ∙ e) (λ parts f. below ys parts others f)
          | inr (inl less) ↦ named-front x.node (multiple m x.coefficient) (merged m xs k (y ∷ ys)) all x_named
              (sym (merged-less m k x y xs ys less) ∙ e) (λ parts f. below (y ∷ ys) parts each f)
          | inr (inr more) ↦ named-front y.node (multiple k y.coefficient) (merged m (x ∷ xs) k ys) all y_named
              (sym (merged-more m k x y xs ys more) ∙ e) (λ parts f. named-merged_from ys parts others f)
        ]

  named-merged : (m k : ℤ) (xs ys all : List Part) → OfNodes xs → OfNodes ys → merged m xs k ys ≡ Some all → OfNodes all
  named-merged m k [] ys all left right e = named-multiplied k ys all right (sym (merged-nil m k ys) ∙ e)
  named-merged m k (x ∷ xs) ys all left right e =
      named-merged_from m k x xs left
      (λ others parts each f. named-merged m k xs others parts (All-tail (λ (part : Part). P part.node) x xs left) each f) ys all right e

  named-sum : (a b sum : FormData) (m k : ℤ) → OfNodes a.parts → OfNodes b.parts → scaled_sum a m b k ≡ Some sum → OfNodes sum.parts
  named-sum a b sum m k left right e =
      named-merged m k a.parts b.parts sum.parts left right
      (both-some (merged m a.parts k b.parts) (combination m a.constant k b.constant) sum e).0

  named-scaled : (a form : FormData) (m : ℤ) → OfNodes a.parts → scaled_form m a ≡ Some form → OfNodes form.parts
  named-scaled a form m each e =
      named-multiplied m a.parts form.parts each (both-some (multiplied m a.parts) (multiple m a.constant) form e).0

  named-times : (g : ℤ) (parts : List Part) → OfNodes (times g parts) → OfNodes parts
  named-times g [] each = All-nil (λ (part : Part). P part.node)
  named-times g (x ∷ xs) each =
      All-cons (λ (part : Part). P part.node) x xs
      (All-head (λ (part : Part). P part.node) (part_of x.node (g *ℤ x.coefficient)) (times g xs) each)
      (named-times g xs (All-tail (λ (part : Part). P part.node) (part_of x.node (g *ℤ x.coefficient)) (times g xs) each))

  named-node : (n : ℕ) → P n → OfNodes (node_form n).parts
  named-node n h = All-cons (λ (part : Part). P part.node) (part_of n (pos 1)) [] h (All-nil (λ (part : Part). P part.node))

  named-product : (n : ℕ) (a b form : FormData) → P n → OfNodes a.parts → OfNodes b.parts → product_form n a b ≡ Some form
      → OfNodes form.parts
  named-product n a b form h left right e = elim (cases_Bool (is_number a.parts)) [
    | inl yes_a ↦ named-scaled b form a.constant right (sym (cond-true (is_number a.parts) (scaled_form a.constant b) _ yes_a) ∙ e)
    | inr no_a ↦ elim (cases_Bool (is_number b.parts)) [
      | inl yes_b ↦ named-scaled a form b.constant left
          (sym (cond-false (is_number a.parts) (scaled_form a.constant b) _ no_a
          ∙ cond-true (is_number b.parts) (scaled_form b.constant a) _ yes_b) ∙ e)
      | inr no_b ↦ subst (λ (form : FormData). OfNodes form.parts)
          (same_Some _ _ (sym (cond-false (is_number a.parts) (scaled_form a.constant b) _ no_a
          ∙ cond-false (is_number b.parts) (scaled_form b.constant a) _ no_b) ∙ e)) (named-node n h)
    ]
  ]

  -- the reading of a node, where those of its arguments that are whole numbers name such nodes
  module _ (look : ℕ → Option FormData) (before : List Node) (n : ℕ) (here : P n)
      (known : (a : ℕ) (form : FormData) → sort_at before a ≡ Some int → look a ≡ Some form → OfNodes form.parts) where
    itself : (form : FormData) → Some (node_form n) ≡ Some form → OfNodes form.parts
    itself form e = subst (λ (form : FormData). OfNodes form.parts) (same_Some _ _ e) (named-node n here)

    by_one : (f : FormData → Option FormData) → ((a form : FormData) → OfNodes a.parts → f a ≡ Some form → OfNodes form.parts)
        → (args : List ℕ) → map (sort_at before) args ≡ Some int ∷ [] → (form : FormData) → of_one look f args ≡ Some form
        → OfNodes form.parts
    by_one f each [] sorts form e = absurd (none-some form e)
    by_one f each (a ∷ []) sorts form e = at_reading (look a) refl e
      where
        sort_is : sort_at before a ≡ Some int
        sort_is = cc

        at_reading : (reading : Option FormData) → look a ≡ reading → option_and_then f reading ≡ Some form → OfNodes form.parts
        at_reading None is e = absurd (none-some form e)
        at_reading (Some left) is e = each left form (known a left sort_is is) e
    by_one f each (a ∷ b ∷ rest) sorts form e = absurd (none-some form e)

    by_two : (f : FormData → FormData → Option FormData)
        → ((a b form : FormData) → OfNodes a.parts → OfNodes b.parts → f a b ≡ Some form → OfNodes form.parts)
        → (args : List ℕ) → map (sort_at before) args ≡ Some int ∷ Some int ∷ [] → (form : FormData) → of_two look f args ≡ Some form
        → OfNodes form.parts
    by_two f each [] sorts form e = absurd (none-some form e)
    by_two f each (a ∷ []) sorts form e = absurd (none-some form e)
    by_two f each (a ∷ b ∷ []) sorts form e = at_readings (look a) (look b) refl refl e
      where
        first_is : sort_at before a ≡ Some int
        first_is = cc

        second_is : sort_at before b ≡ Some int
        second_is = cc

        at_readings : (one two : Option FormData) → look a ≡ one → look b ≡ two
            → option_and_then (λ left. option_and_then (f left) two) one ≡ Some form → OfNodes form.parts
        at_readings None two is also e = absurd (none-some form e)
        at_readings (Some left) None is also e = absurd (none-some form e)
        at_readings (Some left) (Some right) is also e = each left right form (known a left first_is is) (known b right second_is also) e
    by_two f each (a ∷ b ∷ c ∷ rest) sorts form e = absurd (none-some form e)

    named-reading : (its_head : Head) (sort : ℕ) (args : List ℕ) → IsShaped its_head sort (map (sort_at before) args)
        → (form : FormData) → reading_of form_operations look n its_head args ≡ Some form → OfNodes form.parts
    named-reading head.True sort args shaped form e = itself form e
    named-reading head.False sort args shaped form e = itself form e
    named-reading head.Not sort args shaped form e = itself form e
    named-reading head.And sort args shaped form e = itself form e
    named-reading head.Or sort args shaped form e = itself form e
    named-reading head.Implies sort args shaped form e = itself form e
    named-reading head.Eq sort args shaped form e = itself form e
    named-reading head.Le sort args shaped form e = itself form e
    named-reading (head.Int number) sort args shaped form e =
        subst (λ (form : FormData). OfNodes form.parts) (same_Some _ _ e) (All-nil (λ (part : Part). P part.node))
    named-reading head.Add sort args shaped form e =
        by_two (λ a b. scaled_sum a (pos 1) b (pos 1)) (λ a b sum left right f. named-sum a b sum (pos 1) (pos 1) left right f) args shaped.1 form e
    named-reading head.Neg sort args shaped form e =
        by_one (scaled_form (negsuc 0)) (λ a form each f. named-scaled a form (negsuc 0) each f) args shaped.1 form e
    named-reading head.Mul sort args shaped form e =
        by_two (product_form n) (λ a b form left right f. named-product n a b form here left right f) args shaped.1 form e
    named-reading (head.Fun function) sort args shaped form e = itself form e
    named-reading (head.Const constant) sort args shaped form e = itself form e

-- ---- along a table
sort-before : (before rest : List Node) (a : ℕ) → sort_at before a ≡ Some int → sort_at (before ++ rest) a ≡ Some int
sort-before before rest a e = ap (option_map (λ (node : Node). node.sort)) (get-before before rest a (within (slice_get before a) refl e)) ∙ e
  where
    within : (entry : Option Node) → slice_get before a ≡ entry → option_map (λ (node : Node). node.sort) entry ≡ Some int → a < length before
    within None is e = absurd (none-some int e)
    within (Some node) is e = slice_get_within before a node is

module _ (whole : List Node) where
  -- the readings so far that are whole numbers name whole numbers
  abbrev Known : List (Option FormData) → Type 0
  Known done = (k : ℕ) (form : FormData) → sort_at whole k ≡ Some int → found done k ≡ Some form → NamesNumbers whole form

  known-push : (done : List (Option FormData)) (reading : Option FormData) → Known done
      → ((form : FormData) → sort_at whole (length done) ≡ Some int → reading ≡ Some form → NamesNumbers whole form)
      → Known (done ++ reading ∷ [])
  known-push done reading known here k form number e = elim (cases_order k (length done)) [
    | inl same ↦
        let got : slice_get (done ++ reading ∷ []) k ≡ Some reading = ap (slice_get (done ++ reading ∷ [])) same ∙ get-at done reading in
        here form (sym (ap (sort_at whole) same) ∙ number) (sym (ap (option_and_then (λ (form : Option FormData). form)) got) ∙ e)
    | inr (inl below) ↦ known k form number (sym (found-by (done ++ reading ∷ []) done k (get-before done (reading ∷ []) k below)) ∙ e)
    | inr (inr above) ↦
        let longer = length-push done reading in
        let past : slice_get (done ++ reading ∷ []) k ≡ None = slice_get_past (done ++ reading ∷ []) k (omega arith) in
        absurd (none-some form (sym (ap (option_and_then (λ (form : Option FormData). form)) past) ∙ e))
  ]

  named-readings : (nodes before : List Node) (done : List (Option FormData)) → whole ≡ before ++ nodes → length done ≡ length before
      → IsTable before nodes → Known done → Known (readings form_operations done nodes)
  named-readings [] before done parts count table known =
      subst Known (sym (readings-nil form_operations done)) known
  named-readings (node ∷ rest) before done parts count table known =
      let reading = reading_of form_operations (found done) (length done) node.head node.args in
      let longer = length-push done reading in
      let longer_too = length-push before node in
      let next_parts : whole ≡ (before ++ node ∷ []) ++ rest = parts ∙ sym (append_assoc before (node ∷ []) rest) in
      let old : (a : ℕ) (form : FormData) → sort_at before a ≡ Some int → found done a ≡ Some form → NamesNumbers whole form = λ a form sort f.
      known a form (ap (λ (nodes : List Node). sort_at nodes a) parts ∙ sort-before before (node ∷ rest) a sort) f in
      subst Known (sym (readings-cons form_operations done node rest))
      (named-readings rest (before ++ node ∷ []) (done ++ reading ∷ []) next_parts (omega arith) table.2
      (known-push done reading known
      (λ form number e. named-reading (λ a. sort_at whole a ≡ Some int) (found done) before (length done) number old node.head node.sort node.args
      table.0.1 form e)))

-- the reading of a whole number names whole numbers
pub linear-names : (nodes : List Node) (n : ℕ) (form : FormData) → IsTable [] nodes → sort_at nodes n ≡ Some int
    → linear nodes n ≡ Some form → NamesNumbers nodes form
unfolding linear
linear-names nodes n form table number e =
    named-readings nodes nodes [] [] refl refl table (λ k form sort f. absurd (none-some form f)) n form number e

pub sum-names : (nodes : List Node) (a b sum : FormData) (m k : ℤ) → NamesNumbers nodes a → NamesNumbers nodes b
    → scaled_sum a m b k ≡ Some sum → NamesNumbers nodes sum
sum-names nodes a b sum m k left right e = named-sum (λ n. sort_at nodes n ≡ Some int) a b sum m k left right e

pub cut-names : (nodes : List Node) (form cut : FormData) (g : ℤ) → NamesNumbers nodes form → IsCut form g cut → NamesNumbers nodes cut
cut-names nodes form cut g each is =
    named-times (λ n. sort_at nodes n ≡ Some int) g cut.parts
    (subst (λ (parts : List Part). All (λ (part : Part). sort_at nodes part.node ≡ Some int) parts) is.parts_of each)
