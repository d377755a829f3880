-- The values of readings.
use Rattle.std.proofs.Common.{◌≡◌, inl, inr, ℕ, suc, ◌+◌, List, [], ◌∷◌, ◌++◌, length, map, ℤ, ◌+ℤ◌, ◌*ℤ◌, neg_ℤ, Option, Some, None, slice_get, arith, sym, ap, ◌∙◌, refl, subst}
use Rattle.std.specs.Option.{option_and_then}
use Rattle.std.proofs.lemmas.Bool.{cases_order}
use Rattle.std.proofs.lemmas.Option.{none-some, slice_get_past}
use Rattle.grind_lemmas.proofs.Lists.{get-before, get-at, length-push}
use Rattle.grind_term_graph.specs.declared.head.Head.{Head}
use Rattle.grind_term_graph.specs.declared.head.Head.TheVariants as head
use Rattle.grind_term_graph.specs.declared.node.Node.{Node}
use Rattle.grind_reach.specs.Readings.{Operations, of_one, of_two, reading_of, found, readings, read_at}
use Rattle.grind_reach.specs.Values.{OfOne, OfTwo, Computes, RespectsArithmetic, KeepValues}
use Rattle.grind_reach.proofs.ReadingLemmas.{readings-cons, readings-nil, found-by, found-some}

module _ {R : Type 0} (by : Operations R) (value : R → ℤ) (v : ℕ → ℤ) (keep : KeepValues by value v) where
  module _ (look : ℕ → Option R) (means : (a : ℕ) (reading : R) → look a ≡ Some reading → value reading ≡ v a) where
    by_one : (n : ℕ) (f : R → Option R) (P : ℤ → Type 0)
        → ((a made : R) → f a ≡ Some made → P (value a) → value made ≡ v n)
        → (args : List ℕ) → OfOne P (map v args) → (made : R) → of_one look f args ≡ Some made → value made ≡ v n
    by_one n f P each [] h made e = absurd h
    by_one n f P each (a ∷ []) h made e = at_reading (look a) refl e
      where
        at_reading : (reading : Option R) → look a ≡ reading → option_and_then f reading ≡ Some made → value made ≡ v n
        at_reading None is e = absurd (none-some made e)
        at_reading (Some left) is e = each left made e (subst P (sym (means a left is)) h)
    by_one n f P each (a ∷ b ∷ rest) h made e = absurd h

    by_two : (n : ℕ) (f : R → R → Option R) (P : ℤ → ℤ → Type 0)
        → ((a b made : R) → f a b ≡ Some made → P (value a) (value b) → value made ≡ v n)
        → (args : List ℕ) → OfTwo P (map v args) → (made : R) → of_two look f args ≡ Some made → value made ≡ v n
    by_two n f P each [] h made e = absurd h
    by_two n f P each (a ∷ []) h made e = absurd h
    by_two n f P each (a ∷ b ∷ []) h made e = at_readings (look a) (look b) refl refl e
      where
        at_readings : (one two : Option R) → look a ≡ one → look b ≡ two
            → option_and_then (λ left. option_and_then (f left) two) one ≡ Some made → value made ≡ v n
        at_readings None two is also e = absurd (none-some made e)
        at_readings (Some left) None is also e = absurd (none-some made e)
        at_readings (Some left) (Some right) is also e =
            each left right made e
            (subst (λ (x : ℤ). P x (value right)) (sym (means a left is))
            (subst (λ (y : ℤ). P (v a) y) (sym (means b right also)) h))
    by_two n f P each (a ∷ b ∷ c ∷ rest) h made e = absurd h

    value-reading : (n : ℕ) (its_head : Head) (args : List ℕ) → Computes its_head (map v args) (v n)
        → (made : R) → reading_of by look n its_head args ≡ Some made → value made ≡ v n
    value-reading n head.True args h made e = keep.atoms n made e
    value-reading n head.False args h made e = keep.atoms n made e
    value-reading n head.Not args h made e = keep.atoms n made e
    value-reading n head.And args h made e = keep.atoms n made e
    value-reading n head.Or args h made e = keep.atoms n made e
    value-reading n head.Implies args h made e = keep.atoms n made e
    value-reading n head.Eq args h made e = keep.atoms n made e
    value-reading n head.Le args h made e = keep.atoms n made e
    value-reading n (head.Int number) args h made e = keep.numbers number made e ∙ sym h
    value-reading n head.Add args h made e =
        by_two n by.sum_of (λ a b. v n ≡ (a +ℤ b)) (λ a b made e h. keep.sums a b made e ∙ sym h) args h made e
    value-reading n head.Neg args h made e =
        by_one n by.negation_of (λ a. v n ≡ neg_ℤ a) (λ a made e h. keep.negations a made e ∙ sym h) args h made e
    value-reading n head.Mul args h made e =
        by_two n (by.product_of n) (λ a b. v n ≡ (a *ℤ b)) (λ a b made e h. keep.products n a b made e h) args h made e
    value-reading n (head.Fun function) args h made e = keep.atoms n made e
    value-reading n (head.Const constant) args h made e = keep.atoms n made e

  one_more : (done : List (Option R)) → ((k : ℕ) (made : R) → found done k ≡ Some made → value made ≡ v k)
      → (reading : Option R) → ((made : R) → reading ≡ Some made → value made ≡ v (length done))
      → (k : ℕ) (made : R) → found (done ++ reading ∷ []) k ≡ Some made → value made ≡ v k
  one_more done known reading here k made e = elim (cases_order k (length done)) [
    | inl same ↦
        let got : slice_get (done ++ reading ∷ []) k ≡ Some reading = ap (slice_get (done ++ reading ∷ [])) same ∙ get-at done reading in
        here made (sym (found-some (done ++ reading ∷ []) k reading got) ∙ e) ∙ ap v (sym same)
    | inr (inl below) ↦
        known k made (sym (found-by (done ++ reading ∷ []) done k (get-before done (reading ∷ []) k below)) ∙ e)
    | inr (inr above) ↦
        let longer = length-push done reading in
        let past : slice_get (done ++ reading ∷ []) k ≡ None = slice_get_past (done ++ reading ∷ []) k (omega arith) in
        absurd (none-some made (sym (ap (option_and_then (λ (reading : Option R). reading)) past) ∙ e))
  ]

  value-found : (nodes : List Node) (done : List (Option R))
      → ((k : ℕ) (made : R) → found done k ≡ Some made → value made ≡ v k)
      → ((k : ℕ) (node : Node) → slice_get nodes k ≡ Some node → Computes node.head (map v node.args) (v (length done + k)))
      → (k : ℕ) (made : R) → found (readings by done nodes) k ≡ Some made → value made ≡ v k
  value-found [] done known respects k made e =
      known k made (sym (ap (λ (all : List (Option R)). found all k) (readings-nil by done)) ∙ e)
  value-found (node ∷ rest) done known respects k made e =
      let reading = reading_of by (found done) (length done) node.head node.args in
      let longer = length-push done reading in
      let here : length done + 0 ≡ length done = omega arith in
      let computes = subst (λ (n : ℕ). Computes node.head (map v node.args) (v n)) here (respects 0 node refl) in
      value-found rest (done ++ reading ∷ [])
      (one_more done known reading (value-reading (found done) known (length done) node.head node.args computes))
      (λ i other is. let there : length done + suc i ≡ length (done ++ reading ∷ []) + i = omega arith in
      subst (λ (n : ℕ). Computes other.head (map v other.args) (v n)) there (respects (suc i) other is))
      k made (sym (ap (λ (all : List (Option R)). found all k) (readings-cons by done node rest)) ∙ e)

  -- a term has the value of its reading
  pub value-read : (nodes : List Node) (n : ℕ) (made : R) → RespectsArithmetic nodes v → read_at by nodes n ≡ Some made → value made ≡ v n
  value-read nodes n made respects e =
      value-found nodes []
      (λ k made e. absurd (none-some made e))
      (λ k node is. let same : k ≡ 0 + k = omega arith in
      subst (λ (m : ℕ). Computes node.head (map v node.args) (v m)) same (respects k node is)) n made e
