-- Readings of terms along a table.
use Rattle.std.proofs.Common.{◌≡◌, ℕ, zero, suc, ◌+◌, ◌<◌, true, List, [], ◌∷◌, ◌++◌, length, Option, Some, None, slice_get, slice_index_or, All, arith, sym, ap, ◌∙◌, refl}
use Rattle.std.specs.Option.{option_map, option_and_then}
use Rattle.std.proofs.lemmas.List.Elements.{All-head, All-tail}
use Rattle.std.proofs.lemmas.Option.{none-some, same_Some, slice_get_within}
use Rattle.grind_lemmas.proofs.Lists.{get-before, get-at, length-push}
use Rattle.grind_term_graph.specs.declared.head.Head.{Head}
use Rattle.grind_term_graph.specs.declared.head.Head.TheVariants as head
use Rattle.grind_term_graph.specs.declared.node.Node.{Node}
use Rattle.grind_term_graph.specs.Terms.{sort_at}
use Rattle.grind_reach.specs.Reached.{reads_arguments}
use Rattle.grind_reach.specs.Readings.{Operations, of_one, of_two, reading_of, found, readings, read_at}

-- ---- the readings of a table
pub readings-cons : {R : Type 0} (by : Operations R) (done : List (Option R)) (node : Node) (rest : List Node)
    → readings by done (node ∷ rest) ≡ readings by (done ++ reading_of by (found done) (length done) node.head node.args ∷ []) rest
unfolding readings
readings-cons by done node rest = refl

pub readings-nil : {R : Type 0} (by : Operations R) (done : List (Option R)) → readings by done [] ≡ done
unfolding readings
readings-nil by done = refl

pub found-by : {R : Type 0} (xs ys : List (Option R)) (k : ℕ) → slice_get xs k ≡ slice_get ys k → found xs k ≡ found ys k
found-by {R} xs ys k e = ap (option_and_then (λ (reading : Option R). reading)) e

-- the reading at a place that the list has
pub found-some : {R : Type 0} (list : List (Option R)) (k : ℕ) (reading : Option R) → slice_get list k ≡ Some reading → found list k ≡ reading
found-some {R} list k reading e = ap (option_and_then (λ (reading : Option R). reading)) e

module _ {R : Type 0} (by : Operations R) where
  readings-append : (nodes more : List Node) (done : List (Option R)) → readings by done (nodes ++ more) ≡ readings by (readings by done nodes) more
  readings-append [] more done = ap (λ (all : List (Option R)). readings by all more) (sym (readings-nil by done))
  readings-append (node ∷ rest) more done =
      let next = done ++ reading_of by (found done) (length done) node.head node.args ∷ [] in
      readings-cons by done node (rest ++ more) ∙ readings-append rest more next
      ∙ ap (λ (all : List (Option R)). readings by all more) (sym (readings-cons by done node rest))

  -- what is done stays
  readings-before : (nodes : List Node) (done : List (Option R)) (k : ℕ) → k < length done
      → slice_get (readings by done nodes) k ≡ slice_get done k
  readings-before [] done k h = ap (λ (all : List (Option R)). slice_get all k) (readings-nil by done)
  readings-before (node ∷ rest) done k h =
      let reading = reading_of by (found done) (length done) node.head node.args in
      let longer = length-push done reading in
      ap (λ (all : List (Option R)). slice_get all k) (readings-cons by done node rest)
      ∙ readings-before rest (done ++ reading ∷ []) k (omega arith) ∙ get-before done (reading ∷ []) k h

  length-readings : (nodes : List Node) (done : List (Option R)) → length (readings by done nodes) ≡ length done + length nodes
  length-readings [] done = ap length (readings-nil by done) ∙ omega arith
  length-readings (node ∷ rest) done =
      let reading = reading_of by (found done) (length done) node.head node.args in
      let longer = length-push done reading in
      let more = length-readings rest (done ++ reading ∷ []) in ap length (readings-cons by done node rest) ∙ omega arith

  -- the reading of a term stays the same where the table grows
  pub reading-stays : (nodes more : List Node) (n : ℕ) → n < length nodes → read_at by (nodes ++ more) n ≡ read_at by nodes n
  reading-stays nodes more n h =
      let count = length-readings nodes [] in
      found-by (readings by [] (nodes ++ more)) (readings by [] nodes) n
      (ap (λ (all : List (Option R)). slice_get all n) (readings-append nodes more [])
      ∙ readings-before more (readings by [] nodes) n (omega arith))

-- ---- a reading knows its arguments alone
module _ {R : Type 0} (look other : ℕ → Option R) where
  agree_one : (f : R → Option R) (args : List ℕ) → All (λ a. look a ≡ other a) args → of_one look f args ≡ of_one other f args
  agree_one f [] h = refl
  agree_one f (a ∷ []) h = ap (option_and_then f) (All-head (λ a. look a ≡ other a) a [] h)
  agree_one f (a ∷ b ∷ rest) h = refl

  agree_two : (f : R → R → Option R) (args : List ℕ) → All (λ a. look a ≡ other a) args → of_two look f args ≡ of_two other f args
  agree_two f [] h = refl
  agree_two f (a ∷ []) h = refl
  agree_two f (a ∷ b ∷ []) h =
      let one = All-head (λ a. look a ≡ other a) a (b ∷ []) h in
      let two = All-head (λ a. look a ≡ other a) b [] (All-tail (λ a. look a ≡ other a) a (b ∷ []) h) in
      λ i. option_and_then (λ left. option_and_then (f left) (two i)) (one i)
  agree_two f (a ∷ b ∷ c ∷ rest) h = refl

  -- of its arguments only where it is read by them
  pub reading-agrees : (by : Operations R) (n : ℕ) (its_head : Head) (args : List ℕ)
      → (reads_arguments its_head ≡ true → All (λ a. look a ≡ other a) args)
      → reading_of by look n its_head args ≡ reading_of by other n its_head args
  reading-agrees by n head.True args h = refl
  reading-agrees by n head.False args h = refl
  reading-agrees by n head.Not args h = refl
  reading-agrees by n head.And args h = refl
  reading-agrees by n head.Or args h = refl
  reading-agrees by n head.Implies args h = refl
  reading-agrees by n head.Eq args h = refl
  reading-agrees by n head.Le args h = refl
  reading-agrees by n (head.Int number) args h = refl
  reading-agrees by n head.Add args h = agree_two by.sum_of args (h refl)
  reading-agrees by n head.Neg args h = agree_one by.negation_of args (h refl)
  reading-agrees by n head.Mul args h = agree_two (by.product_of n) args (h refl)
  reading-agrees by n (head.Fun function) args h = refl
  reading-agrees by n (head.Const constant) args h = refl

-- ---- the reading of a node is made of the readings of its arguments
module _ {R : Type 0} (by : Operations R) where
  reading_from : (nodes : List Node) (done : List (Option R)) (k n : ℕ) (node : Node) → n ≡ length done + k
      → slice_get nodes k ≡ Some node → All (λ a. a < n) node.args
      → found (readings by done nodes) n ≡ reading_of by (found (readings by done nodes)) n node.head node.args
  reading_from [] done k n node is e h = absurd (none-some node e)
  reading_from (first ∷ rest) done zero n node is e h =
      let reading = reading_of by (found done) (length done) first.head first.args in
      let all = readings by done (first ∷ rest) in
      let longer = length-push done reading in
      let here : n ≡ length done = omega arith in
      let same : first ≡ node = same_Some first node e in
      let got : slice_get all n ≡ Some reading =
      ap (λ (list : List (Option R)). slice_get list n) (readings-cons by done first rest)
      ∙ readings-before by rest (done ++ reading ∷ []) n (omega arith)
      ∙ ap (slice_get (done ++ reading ∷ [])) here ∙ get-at done reading in
      let agree : All (λ a. found done a ≡ found all a) node.args =
      λ i d inside. let below = h i d inside in
      found-by done all _ (sym (readings-before by (first ∷ rest) done _ (omega arith))) in
      found-some all n reading got
      ∙ (λ i. reading_of by (found done) (sym here i) (same i).head (same i).args)
      ∙ reading-agrees (found done) (found all) by n node.head node.args (λ _. agree)
  reading_from (first ∷ rest) done (suc k) n node is e h =
      let reading = reading_of by (found done) (length done) first.head first.args in
      let longer = length-push done reading in
      let later = reading_from rest (done ++ reading ∷ []) k n node (omega arith) e h in
      rw (readings-cons by done first rest) later

  pub reading-at : (nodes : List Node) (n : ℕ) (node : Node) → slice_get nodes n ≡ Some node → All (λ a. a < n) node.args
      → read_at by nodes n ≡ reading_of by (read_at by nodes) n node.head node.args
  reading-at nodes n node e h = reading_from nodes [] n n node (omega arith) e h

-- ---- a node with a sort is in the table
pub sorted-within : (nodes : List Node) (n sort : ℕ) → sort_at nodes n ≡ Some sort → n < length nodes
sorted-within nodes n sort e = at_node (slice_get nodes n) refl e
  where
    at_node : (node : Option Node) → slice_get nodes n ≡ node → option_map (λ (node : Node). node.sort) node ≡ Some sort → n < length nodes
    at_node None is e = absurd (none-some sort e)
    at_node (Some node) is e = slice_get_within nodes n node is

pub all-sorted-within : (nodes : List Node) (numbers : List ℕ) (sort : ℕ) → All (λ n. sort_at nodes n ≡ Some sort) numbers
    → All (λ n. n < length nodes) numbers
all-sorted-within nodes numbers sort h = λ k d inside. sorted-within nodes (slice_index_or numbers k d) sort (h k d inside)
