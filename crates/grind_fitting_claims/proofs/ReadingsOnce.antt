-- A term is read as at most one thing, where each step makes at most one; and what is read by steps is read by weaker ones.
use Rattle.std.proofs.Common.{◌≡◌, ℕ, Bool, true, false, cond, Option, None, eqb, List, [], ◌∷◌, ℤ, pos, Some, slice_get, slice_index_or, refl, sym, ap, ◌∙◌, subst}
use Rattle.std.specs.Prelude.{nat_eq}
use Rattle.std.proofs.lemmas.Bool.{eq-eqb, false≢true}
use Rattle.std.proofs.lemmas.Bool.Decides.{Decides-eqb}
use Rattle.std.proofs.lemmas.Option.{none-some, same_Some}
use Rattle.grind_term_graph.specs.declared.head.Head.{Head}
use Rattle.grind_term_graph.specs.declared.head.Head.TheVariants as head
use Rattle.grind_term_graph.specs.declared.node.Node.{Node}
use Rattle.grind_term_graph.specs.Terms.{int}
use Rattle.grind_differences.specs.Differences.{is_number_sort}
use Rattle.grind_fitting_claims.specs.Derivations.{IsReadAsItself, IsRead, of_number, of_itself, of_sum, of_negation, of_product}

-- ---- heads
abbrev kind : Head → ℕ
kind (head.Int number) = 0
kind head.Add = 1
kind head.Neg = 2
kind head.Mul = 3
kind _ = 4

itself_kind : (it : Head) → IsReadAsItself it → kind it ≡ 4
itself_kind head.True its = refl
itself_kind head.False its = refl
itself_kind head.Not its = refl
itself_kind head.And its = refl
itself_kind head.Or its = refl
itself_kind head.Implies its = refl
itself_kind head.Eq its = refl
itself_kind head.Le its = refl
itself_kind (head.Int number) its = absurd its
itself_kind head.Add its = absurd its
itself_kind head.Neg its = absurd its
itself_kind head.Mul its = absurd its
itself_kind (head.Fun function) its = refl
itself_kind (head.Const constant) its = refl

abbrev number_in : Head → ℤ
number_in (head.Int number) = number
number_in _ = pos 0

-- a node has one head
clash : (nodes : List Node) (n j k : ℕ) (node another : Node) → slice_get nodes n ≡ Some node → slice_get nodes n ≡ Some another → kind node.head ≡ j
    → kind another.head ≡ k → eqb j k ≡ false → ⊥
clash nodes n j k node another there also is of apart =
    let node_is = same_Some node another (sym there ∙ also) in
    let same : j ≡ k = sym is ∙ ap (λ (it : Node). kind it.head) node_is ∙ of in false≢true (sym apart ∙ eq-eqb j k same)

-- a node has one list of arguments
args_are : (nodes : List Node) (n : ℕ) (node another : Node) (xs ys : List ℕ) → slice_get nodes n ≡ Some node → slice_get nodes n ≡ Some another
    → node.args ≡ xs → another.args ≡ ys → xs ≡ ys
args_are nodes n node another xs ys there also is of = sym is ∙ ap (λ (it : Node). it.args) (same_Some node another (sym there ∙ also)) ∙ of

first_of : (a b c d : ℕ) → a ∷ b ∷ [] ≡ c ∷ d ∷ [] → a ≡ c
first_of a b c d e = ap (λ (xs : List ℕ). slice_index_or xs 0 0) e

second_of : (a b c d : ℕ) → a ∷ b ∷ [] ≡ c ∷ d ∷ [] → b ≡ d
second_of a b c d e = ap (λ (xs : List ℕ). slice_index_or xs 1 0) e

only_of : (a c : ℕ) → a ∷ [] ≡ c ∷ [] → a ≡ c
only_of a c e = ap (λ (xs : List ℕ). slice_index_or xs 0 0) e

-- ---- readings
module _ {R : Type 0} (IsNumber : ℤ → R → Type 0) (IsItself : ℕ → R → Type 0) (IsSum : R → R → R → Type 0)
    (IsNegation : R → R → Type 0) (IsProduct : ℕ → R → R → R → Type 0)
    (one_number : (number : ℤ) (a b : R) → IsNumber number a → IsNumber number b → a ≡ b)
    (one_itself : (n : ℕ) (a b : R) → IsItself n a → IsItself n b → a ≡ b)
    (one_sum : (left right a b : R) → IsSum left right a → IsSum left right b → a ≡ b)
    (one_negation : (inner a b : R) → IsNegation inner a → IsNegation inner b → a ≡ b)
    (one_product : (n : ℕ) (left right a b : R) → IsProduct n left right a → IsProduct n left right b → a ≡ b)
    (nodes : List Node) where
  abbrev Reads : ℕ → R → Type 0
  Reads n form = IsRead IsNumber IsItself IsSum IsNegation IsProduct nodes n form

  moved : (a c : ℕ) (form : R) → a ≡ c → Reads c form → Reads a form
  moved a c form same h = subst (λ (m : ℕ). Reads m form) (sym same) h

  pub one_read : (n : ℕ) (form other : R) → Reads n form → Reads n other → form ≡ other
  one_read n form other (of_number node number there is_head h) (of_number another value also of_head g) =
      let same : value ≡ number = sym (ap number_in (sym is_head ∙ ap (λ (it : Node). it.head) (same_Some node another (sym there ∙ also)) ∙ of_head)) in
      one_number number form other h (subst (λ (z : ℤ). IsNumber z other) same g)
  one_read n form other (of_number node number there is_head h) (of_itself another also so g) =
      absurd (clash nodes n 0 4 node another there also (ap kind is_head) (itself_kind another.head so) refl)
  one_read n form other (of_number node number there is_head h) (of_sum another c d one two also of_head of_args third fourth g) =
      absurd (clash nodes n 0 1 node another there also (ap kind is_head) (ap kind of_head) refl)
  one_read n form other (of_number node number there is_head h) (of_negation another c under also of_head of_args third g) =
      absurd (clash nodes n 0 2 node another there also (ap kind is_head) (ap kind of_head) refl)
  one_read n form other (of_number node number there is_head h) (of_product another c d one two also of_head of_args third fourth g) =
      absurd (clash nodes n 0 3 node another there also (ap kind is_head) (ap kind of_head) refl)
  one_read n form other (of_itself node there its h) (of_number another value also of_head g) =
      absurd (clash nodes n 4 0 node another there also (itself_kind node.head its) (ap kind of_head) refl)
  one_read n form other (of_itself node there its h) (of_itself another also so g) =
      one_itself n form other h g
  one_read n form other (of_itself node there its h) (of_sum another c d one two also of_head of_args third fourth g) =
      absurd (clash nodes n 4 1 node another there also (itself_kind node.head its) (ap kind of_head) refl)
  one_read n form other (of_itself node there its h) (of_negation another c under also of_head of_args third g) =
      absurd (clash nodes n 4 2 node another there also (itself_kind node.head its) (ap kind of_head) refl)
  one_read n form other (of_itself node there its h) (of_product another c d one two also of_head of_args third fourth g) =
      absurd (clash nodes n 4 3 node another there also (itself_kind node.head its) (ap kind of_head) refl)
  one_read n form other (of_sum node a b left right there is_head is_args first second h) (of_number another value also of_head g) =
      absurd (clash nodes n 1 0 node another there also (ap kind is_head) (ap kind of_head) refl)
  one_read n form other (of_sum node a b left right there is_head is_args first second h) (of_itself another also so g) =
      absurd (clash nodes n 1 4 node another there also (ap kind is_head) (itself_kind another.head so) refl)
  one_read n form other (of_sum node a b left right there is_head is_args first second h) (of_sum another c d one two also of_head of_args third fourth g) =
      let args = args_are nodes n node another (a ∷ b ∷ []) (c ∷ d ∷ []) there also is_args of_args in
      let left_is = one_read a left one first (moved a c one (first_of a b c d args) third) in
      let right_is = one_read b right two second (moved b d two (second_of a b c d args) fourth) in
      one_sum left right form other h
      (subst (λ (x : R). IsSum x right other) (sym left_is) (subst (λ (y : R). IsSum one y other) (sym right_is) g))
  one_read n form other (of_sum node a b left right there is_head is_args first second h) (of_negation another c under also of_head of_args third g) =
      absurd (clash nodes n 1 2 node another there also (ap kind is_head) (ap kind of_head) refl)
  one_read n form other (of_sum node a b left right there is_head is_args first second h) (of_product another c d one two also of_head of_args third fourth g) =
      absurd (clash nodes n 1 3 node another there also (ap kind is_head) (ap kind of_head) refl)
  one_read n form other (of_negation node a inner there is_head is_args first h) (of_number another value also of_head g) =
      absurd (clash nodes n 2 0 node another there also (ap kind is_head) (ap kind of_head) refl)
  one_read n form other (of_negation node a inner there is_head is_args first h) (of_itself another also so g) =
      absurd (clash nodes n 2 4 node another there also (ap kind is_head) (itself_kind another.head so) refl)
  one_read n form other (of_negation node a inner there is_head is_args first h) (of_sum another c d one two also of_head of_args third fourth g) =
      absurd (clash nodes n 2 1 node another there also (ap kind is_head) (ap kind of_head) refl)
  one_read n form other (of_negation node a inner there is_head is_args first h) (of_negation another c under also of_head of_args third g) =
      let args = args_are nodes n node another (a ∷ []) (c ∷ []) there also is_args of_args in
      let inner_is = one_read a inner under first (moved a c under (only_of a c args) third) in
      one_negation inner form other h (subst (λ (x : R). IsNegation x other) (sym inner_is) g)
  one_read n form other (of_negation node a inner there is_head is_args first h) (of_product another c d one two also of_head of_args third fourth g) =
      absurd (clash nodes n 2 3 node another there also (ap kind is_head) (ap kind of_head) refl)
  one_read n form other (of_product node a b left right there is_head is_args first second h) (of_number another value also of_head g) =
      absurd (clash nodes n 3 0 node another there also (ap kind is_head) (ap kind of_head) refl)
  one_read n form other (of_product node a b left right there is_head is_args first second h) (of_itself another also so g) =
      absurd (clash nodes n 3 4 node another there also (ap kind is_head) (itself_kind another.head so) refl)
  one_read n form other (of_product node a b left right there is_head is_args first second h) (of_sum another c d one two also of_head of_args third fourth g) =
      absurd (clash nodes n 3 1 node another there also (ap kind is_head) (ap kind of_head) refl)
  one_read n form other (of_product node a b left right there is_head is_args first second h) (of_negation another c under also of_head of_args third g) =
      absurd (clash nodes n 3 2 node another there also (ap kind is_head) (ap kind of_head) refl)
  one_read n form other (of_product node a b left right there is_head is_args first second h) (of_product another c d one two also of_head of_args third fourth g) =
      let args = args_are nodes n node another (a ∷ b ∷ []) (c ∷ d ∷ []) there also is_args of_args in
      let left_is = one_read a left one first (moved a c one (first_of a b c d args) third) in
      let right_is = one_read b right two second (moved b d two (second_of a b c d args) fourth) in
      one_product n left right form other h
      (subst (λ (x : R). IsProduct n x right other) (sym left_is)
      (subst (λ (y : R). IsProduct n one y other) (sym right_is) g))

-- ---- weaker steps
module _ {R : Type 0} (IsNumber : ℤ → R → Type 0) (IsItself : ℕ → R → Type 0) (IsSum Sums : R → R → R → Type 0)
    (IsNegation Negates : R → R → Type 0) (IsProduct Multiplies : ℕ → R → R → R → Type 0)
    (sums : (left right made : R) → IsSum left right made → Sums left right made)
    (negations : (inner made : R) → IsNegation inner made → Negates inner made)
    (products : (n : ℕ) (left right made : R) → IsProduct n left right made → Multiplies n left right made) (nodes : List Node) where
  pub weaker : (n : ℕ) (made : R) → IsRead IsNumber IsItself IsSum IsNegation IsProduct nodes n made
      → IsRead IsNumber IsItself Sums Negates Multiplies nodes n made
  weaker n made (of_number node number there is_head h) = of_number node number there is_head h
  weaker n made (of_itself node there its h) = of_itself node there its h
  weaker n made (of_sum node a b left right there is_head is_args first second h) =
      of_sum node a b left right there is_head is_args (weaker a left first) (weaker b right second) (sums left right made h)
  weaker n made (of_negation node a inner there is_head is_args first h) =
      of_negation node a inner there is_head is_args (weaker a inner first) (negations inner made h)
  weaker n made (of_product node a b left right there is_head is_args first second h) =
      of_product node a b left right there is_head is_args (weaker a left first) (weaker b right second) (products n left right made h)

-- ---- whole numbers
by_test : {R : Type 0} → (sort : ℕ) (b : Bool) (r : Option R) (made : R) → nat_eq sort int ≡ b → cond b r None ≡ Some made
    → (Some sort ≡ Some int) × (r ≡ Some made)
by_test {R} sort true r made is e = (ap Some ((Decides-eqb sort int).0 is), e)
by_test {R} sort false r made is e = absurd (none-some made e)

-- what is read of whole numbers alone
pub by_sort : {R : Type 0} → (o : Option ℕ) (r : Option R) (made : R) → cond (is_number_sort o) r None ≡ Some made
    → (o ≡ Some int) × (r ≡ Some made)
by_sort {R} None r made e = absurd (none-some made e)
by_sort {R} (Some sort) r made e = by_test sort (nat_eq sort int) r made refl e
