-- The reading of a term is defined exactly where the term is read so, where that holds of each step.
use Rattle.std.proofs.Common.{◌≡◌, ◌↔◌, inl, inr, ℕ, suc, ◌+◌, List, [], ◌∷◌, ◌++◌, ℤ, Option, Some, None, length, slice_get, refl, sym, ap, ◌∙◌, subst, arith}
use Rattle.std.specs.Option.{option_and_then}
use Rattle.std.proofs.lemmas.Bool.{cases_order}
use Rattle.std.proofs.lemmas.Option.{none-some, slice_get_past}
use Rattle.grind_lemmas.proofs.Lists.{get-before, get-at, length-push}
use Rattle.grind_term_graph.specs.declared.head.Head.{Head}
use Rattle.grind_term_graph.specs.declared.head.Head.TheVariants as head
use Rattle.grind_term_graph.specs.declared.node.Node.{Node}
use Rattle.grind_reach.specs.Reached.{HaveEarlierArguments}
use Rattle.grind_reach.specs.Readings.{Operations, of_one, of_two, reading_of, found, readings, read_at}
use Rattle.grind_reach.proofs.ReadingLemmas.{readings-cons, readings-nil, found-by, found-some, reading-at}
use Rattle.grind_fitting_claims.specs.Derivations.{IsReadAsItself, IsRead, of_number, of_itself, of_sum, of_negation, of_product}
use Rattle.grind_fitting_claims.proofs.ReadingsKeep.{Keep}

module _ {R : Type 0} (by : Operations R) (P : R → Type 0) (keep : Keep by P)
    (IsNumber : ℤ → R → Type 0) (IsItself : ℕ → R → Type 0) (IsSum : R → R → R → Type 0) (IsNegation : R → R → Type 0)
    (IsProduct : ℕ → R → R → R → Type 0)
    (numbers : (number : ℤ) (made : R) → (by.number_of number ≡ Some made) ↔ IsNumber number made)
    (atoms : (n : ℕ) (made : R) → (by.atom_of n ≡ Some made) ↔ IsItself n made)
    (sums : (a b made : R) → P a → P b → (by.sum_of a b ≡ Some made) ↔ IsSum a b made)
    (negations : (a made : R) → P a → (by.negation_of a ≡ Some made) ↔ IsNegation a made)
    (products : (n : ℕ) (a b made : R) → P a → P b → (by.product_of n a b ≡ Some made) ↔ IsProduct n a b made) where
  abbrev Read : List Node → ℕ → R → Type 0
  Read nodes n made = IsRead IsNumber IsItself IsSum IsNegation IsProduct nodes n made

  -- it holds of what is read
  keeps : (nodes : List Node) (n : ℕ) (made : R) → Read nodes n made → P made
  keeps nodes n made (of_number node number there is_head h) = keep.numbers number made ((numbers number made).1 h)
  keeps nodes n made (of_itself node there its h) = keep.atoms n made ((atoms n made).1 h)
  keeps nodes n made (of_sum node a b left right there is_head is_args first second h) =
      let one = keeps nodes a left first in
      let two = keeps nodes b right second in keep.sums left right one two made ((sums left right made one two).1 h)
  keeps nodes n made (of_negation node a inner there is_head is_args first h) =
      let one = keeps nodes a inner first in keep.negations inner one made ((negations inner made one).1 h)
  keeps nodes n made (of_product node a b left right there is_head is_args first second h) =
      let one = keeps nodes a left first in
      let two = keeps nodes b right second in keep.products n left right one two made ((products n left right made one two).1 h)

  -- ---- what is defined was read so
  module _ (whole : List Node) where
    abbrev ReadSo : ℕ → Option R → Type 0
    ReadSo n answer = (made : R) → answer ≡ Some made → Read whole n made

    module _ (n : ℕ) (node : Node) (there : slice_get whole n ≡ Some node) (look : ℕ → Option R)
        (known : (a : ℕ) → ReadSo a (look a)) where
      itself : IsReadAsItself node.head → ReadSo n (by.atom_of n)
      itself its made e = of_itself node there its ((atoms n made).0 e)

      at_one : (args : List ℕ) → node.head ≡ head.Neg → node.args ≡ args → ReadSo n (of_one look by.negation_of args)
      at_one [] is_head is_args made e = absurd (none-some made e)
      at_one (a ∷ []) is_head is_args made e = at (look a) (known a) e
        where
          at : (o : Option R) → ReadSo a o → option_and_then by.negation_of o ≡ Some made → Read whole n made
          at None first e = absurd (none-some made e)
          at (Some inner) first e =
              let so = first inner refl in
              of_negation node a inner there is_head is_args so ((negations inner made (keeps whole a inner so)).0 e)
      at_one (a ∷ b ∷ rest) is_head is_args made e = absurd (none-some made e)

      at_sum : (args : List ℕ) → node.head ≡ head.Add → node.args ≡ args
          → ReadSo n (of_two look by.sum_of args)
      at_sum [] is_head is_args made e = absurd (none-some made e)
      at_sum (a ∷ []) is_head is_args made e = absurd (none-some made e)
      at_sum (a ∷ b ∷ []) is_head is_args made e = at (look a) (look b) (known a) (known b) e
        where
          at : (o p : Option R) → ReadSo a o → ReadSo b p
              → option_and_then (λ (l : R). option_and_then (λ (r : R). by.sum_of l r) p) o ≡ Some made
              → Read whole n made
          at None p first second e = absurd (none-some made e)
          at (Some left) None first second e = absurd (none-some made e)
          at (Some left) (Some right) first second e =
              let one = first left refl in
              let two = second right refl in
              of_sum node a b left right there is_head is_args one two ((sums left right made (keeps whole a left one) (keeps whole b right two)).0 e)
      at_sum (a ∷ b ∷ c ∷ rest) is_head is_args made e = absurd (none-some made e)

      at_product : (args : List ℕ) → node.head ≡ head.Mul → node.args ≡ args → ReadSo n (of_two look (by.product_of n) args)
      at_product [] is_head is_args made e = absurd (none-some made e)
      at_product (a ∷ []) is_head is_args made e = absurd (none-some made e)
      at_product (a ∷ b ∷ []) is_head is_args made e = at (look a) (look b) (known a) (known b) e
        where
          at : (o p : Option R) → ReadSo a o → ReadSo b p
              → option_and_then (λ (l : R). option_and_then (by.product_of n l) p) o ≡ Some made → Read whole n made
          at None p first second e = absurd (none-some made e)
          at (Some left) None first second e = absurd (none-some made e)
          at (Some left) (Some right) first second e =
              let one = first left refl in
              let two = second right refl in
              of_product node a b left right there is_head is_args one two
              ((products n left right made (keeps whole a left one) (keeps whole b right two)).0 e)
      at_product (a ∷ b ∷ c ∷ rest) is_head is_args made e = absurd (none-some made e)

      at_head : (it : Head) → node.head ≡ it → ReadSo n (reading_of by look n it node.args)
      at_head head.True is = itself (subst IsReadAsItself (sym is) tt)
      at_head head.False is = itself (subst IsReadAsItself (sym is) tt)
      at_head head.Not is = itself (subst IsReadAsItself (sym is) tt)
      at_head head.And is = itself (subst IsReadAsItself (sym is) tt)
      at_head head.Or is = itself (subst IsReadAsItself (sym is) tt)
      at_head head.Implies is = itself (subst IsReadAsItself (sym is) tt)
      at_head head.Eq is = itself (subst IsReadAsItself (sym is) tt)
      at_head head.Le is = itself (subst IsReadAsItself (sym is) tt)
      at_head (head.Int number) is = λ made e. of_number node number there is ((numbers number made).0 e)
      at_head head.Add is = at_sum node.args is refl
      at_head head.Neg is = at_one node.args is refl
      at_head head.Mul is = at_product node.args is refl
      at_head (head.Fun function) is = itself (subst IsReadAsItself (sym is) tt)
      at_head (head.Const constant) is = itself (subst IsReadAsItself (sym is) tt)

    one_more : (done : List (Option R)) → ((k : ℕ) → ReadSo k (found done k)) → (answer : Option R)
        → ReadSo (length done) answer → (k : ℕ) → ReadSo k (found (done ++ answer ∷ []) k)
    one_more done known answer here k made e = elim (cases_order k (length done)) [
      | inl same ↦
          let got : slice_get (done ++ answer ∷ []) k ≡ Some answer = ap (slice_get (done ++ answer ∷ [])) same ∙ get-at done answer in
          subst (λ (m : ℕ). Read whole m made) (sym same) (here made (sym (found-some (done ++ answer ∷ []) k answer got) ∙ e))
      | inr (inl below) ↦ known k made (sym (found-by (done ++ answer ∷ []) done k (get-before done (answer ∷ []) k below)) ∙ e)
      | inr (inr above) ↦
          let longer = length-push done answer in
          let past : slice_get (done ++ answer ∷ []) k ≡ None = slice_get_past (done ++ answer ∷ []) k (omega arith) in
          absurd (none-some made (sym (ap (option_and_then (λ (it : Option R). it)) past) ∙ e))
    ]

    read_so : (rest : List Node) (done : List (Option R)) → ((k : ℕ) → ReadSo k (found done k))
        → ((k : ℕ) (node : Node) → slice_get rest k ≡ Some node → slice_get whole (length done + k) ≡ Some node)
        → (k : ℕ) → ReadSo k (found (readings by done rest) k)
    read_so [] done known stands k made e =
        known k made (sym (ap (λ (all : List (Option R)). found all k) (readings-nil by done)) ∙ e)
    read_so (node ∷ rest) done known stands k made e =
        let answer = reading_of by (found done) (length done) node.head node.args in
        let longer = length-push done answer in
        let here : length done + 0 ≡ length done = omega arith in
        let there = subst (λ (m : ℕ). slice_get whole m ≡ Some node) here (stands 0 node refl) in
        read_so rest (done ++ answer ∷ [])
        (one_more done known answer (at_head (length done) node there (found done) known node.head refl))
        (λ j other is. let place : length done + suc j ≡ length (done ++ answer ∷ []) + j = omega arith in
        subst (λ (m : ℕ). slice_get whole m ≡ Some other) place (stands (suc j) other is))
        k made (sym (ap (λ (all : List (Option R)). found all k) (readings-cons by done node rest)) ∙ e)

    defined_so : (n : ℕ) (made : R) → read_at by whole n ≡ Some made → Read whole n made
    defined_so n made e =
        read_so whole []
        (λ k made e. absurd (none-some made e))
        (λ k node is. let same : k ≡ 0 + k = omega arith in subst (λ (m : ℕ). slice_get whole m ≡ Some node) same is) n made e

  -- ---- what is read so is defined
  module _ (nodes : List Node) (earlier : HaveEarlierArguments nodes) where
    abbrev look : ℕ → Option R
    look n = read_at by nodes n

    step : (n : ℕ) (node : Node) (it : Head) (args : List ℕ) → slice_get nodes n ≡ Some node → node.head ≡ it → node.args ≡ args
        → look n ≡ reading_of by look n it args
    step n node it args there is_head is_args =
        reading-at by nodes n node there (earlier n node there)
        ∙ (λ i. reading_of by look n (is_head i) (is_args i))

    by_one : (f : R → Option R) (a : ℕ) (inner : R) → look a ≡ Some inner → of_one look f (a ∷ []) ≡ f inner
    by_one f a inner e = ap (option_and_then f) e

    by_two : (f : R → R → Option R) (a b : ℕ) (left right : R) → look a ≡ Some left → look b ≡ Some right
        → of_two look f (a ∷ b ∷ []) ≡ f left right
    by_two f a b left right e g = λ i. option_and_then (λ (l : R). option_and_then (f l) (g i)) (e i)

    by_itself : (n : ℕ) (it : Head) (args : List ℕ) → IsReadAsItself it → reading_of by look n it args ≡ by.atom_of n
    by_itself n head.True args its = refl
    by_itself n head.False args its = refl
    by_itself n head.Not args its = refl
    by_itself n head.And args its = refl
    by_itself n head.Or args its = refl
    by_itself n head.Implies args its = refl
    by_itself n head.Eq args its = refl
    by_itself n head.Le args its = refl
    by_itself n (head.Int number) args its = absurd its
    by_itself n head.Add args its = absurd its
    by_itself n head.Neg args its = absurd its
    by_itself n head.Mul args its = absurd its
    by_itself n (head.Fun function) args its = refl
    by_itself n (head.Const constant) args its = refl

    so_defined : (n : ℕ) (made : R) → Read nodes n made → look n ≡ Some made
    so_defined n made (of_number node number there is_head h) =
        step n node (head.Int number) node.args there is_head refl ∙ (numbers number made).1 h
    so_defined n made (of_itself node there its h) =
        step n node node.head node.args there refl refl ∙ by_itself n node.head node.args its ∙ (atoms n made).1 h
    so_defined n made (of_sum node a b left right there is_head is_args first second h) =
        step n node head.Add (a ∷ b ∷ []) there is_head is_args
        ∙ by_two by.sum_of a b left right (so_defined a left first) (so_defined b right second)
        ∙ (sums left right made (keeps nodes a left first) (keeps nodes b right second)).1 h
    so_defined n made (of_negation node a inner there is_head is_args first h) =
        step n node head.Neg (a ∷ []) there is_head is_args
        ∙ by_one by.negation_of a inner (so_defined a inner first)
        ∙ (negations inner made (keeps nodes a inner first)).1 h
    so_defined n made (of_product node a b left right there is_head is_args first second h) =
        step n node head.Mul (a ∷ b ∷ []) there is_head is_args
        ∙ by_two (by.product_of n) a b left right (so_defined a left first) (so_defined b right second)
        ∙ (products n left right made (keeps nodes a left first) (keeps nodes b right second)).1 h

  pub exactly : (nodes : List Node) → HaveEarlierArguments nodes → (n : ℕ) (made : R) → (read_at by nodes n ≡ Some made) ↔ Read nodes n made
  exactly nodes earlier n made = (λ e. defined_so nodes n made e, λ h. so_defined nodes earlier n made h)
