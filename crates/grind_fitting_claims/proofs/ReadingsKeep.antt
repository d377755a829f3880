-- What holds of the readings of numbers and of nodes that are read as themselves, and of what is made of readings of which it
-- holds, holds of each reading.
use Rattle.std.proofs.Common.{◌≡◌, ℕ, zero, suc, ℤ, List, [], ◌∷◌, ◌++◌, All, Option, Some, None, length, refl}
use Rattle.std.specs.Option.{option_and_then}
use Rattle.std.proofs.lemmas.Option.{none-some}
use Rattle.std.proofs.lemmas.List.Elements.{All-nil, All-head, All-tail, All-push}
use Rattle.grind_term_graph.specs.declared.head.Head.{Head}
use Rattle.grind_term_graph.specs.declared.head.Head.TheVariants as head
use Rattle.grind_term_graph.specs.declared.node.Node.{Node}
use Rattle.grind_reach.specs.Readings.{Operations, of_one, of_two, reading_of, found, readings, read_at}

-- it holds of what is answered
abbrev pub Answers : {R : Type 0} → (R → Type 0) → Option R → Type 0
Answers {R} P answer = (reading : R) → answer ≡ Some reading → P reading

-- the operations keep it
pub record Keep {R : Type 0} (by : Operations R) (P : R → Type 0) : Type 0 where
  pub numbers : (number : ℤ) → Answers P (by.number_of number)
  pub atoms : (n : ℕ) → Answers P (by.atom_of n)
  pub sums : (a b : R) → P a → P b → Answers P (by.sum_of a b)
  pub negations : (a : R) → P a → Answers P (by.negation_of a)
  pub products : (n : ℕ) (a b : R) → P a → P b → Answers P (by.product_of n a b)

module _ {R : Type 0} (by : Operations R) (P : R → Type 0) (keep : Keep by P) where
  abbrev Is : Option R → Type 0
  Is answer = (reading : R) → answer ≡ Some reading → P reading

  module _ (look : ℕ → Option R) (looks : (n : ℕ) → Is (look n)) where
    of_one_is : (f : R → Option R) (args : List ℕ) → ((a : R) → P a → Is (f a)) → Is (of_one look f args)
    of_one_is f [] goes made e = absurd (none-some made e)
    of_one_is f (a ∷ []) goes made e = at (look a) (looks a) e
      where
        at : (o : Option R) → Is o → option_and_then f o ≡ Some made → P made
        at None is e = absurd (none-some made e)
        at (Some it) is e = goes it (is it refl) made e
    of_one_is f (a ∷ b ∷ rest) goes made e = absurd (none-some made e)

    of_two_is : (f : R → R → Option R) (args : List ℕ) → ((a b : R) → P a → P b → Is (f a b)) → Is (of_two look f args)
    of_two_is f [] goes made e = absurd (none-some made e)
    of_two_is f (a ∷ []) goes made e = absurd (none-some made e)
    of_two_is f (a ∷ b ∷ []) goes made e = at (look a) (look b) (looks a) (looks b) e
      where
        at : (first second : Option R) → Is first → Is second → option_and_then (λ left. option_and_then (f left) second) first ≡ Some made
            → P made
        at None second one other e = absurd (none-some made e)
        at (Some left) None one other e = absurd (none-some made e)
        at (Some left) (Some right) one other e = goes left right (one left refl) (other right refl) made e
    of_two_is f (a ∷ b ∷ c ∷ rest) goes made e = absurd (none-some made e)

    reading_of_is : (n : ℕ) (it : Head) (args : List ℕ) → Is (reading_of by look n it args)
    reading_of_is n head.True args = keep.atoms n
    reading_of_is n head.False args = keep.atoms n
    reading_of_is n head.Not args = keep.atoms n
    reading_of_is n head.And args = keep.atoms n
    reading_of_is n head.Or args = keep.atoms n
    reading_of_is n head.Implies args = keep.atoms n
    reading_of_is n head.Eq args = keep.atoms n
    reading_of_is n head.Le args = keep.atoms n
    reading_of_is n (head.Int number) args = keep.numbers number
    reading_of_is n head.Add args = of_two_is by.sum_of args keep.sums
    reading_of_is n head.Neg args = of_one_is by.negation_of args keep.negations
    reading_of_is n head.Mul args = of_two_is (by.product_of n) args (keep.products n)
    reading_of_is n (head.Fun function) args = keep.atoms n
    reading_of_is n (head.Const constant) args = keep.atoms n

  found_is : (list : List (Option R)) → All Is list → (n : ℕ) → Is (found list n)
  found_is [] all n made e = absurd (none-some made e)
  found_is (first ∷ rest) all zero made e = All-head Is first rest all made e
  found_is (first ∷ rest) all (suc n) made e = found_is rest (All-tail Is first rest all) n made e

  readings_are : (done : List (Option R)) (nodes : List Node) → All Is done → All Is (readings by done nodes)
  unfolding readings
  readings_are done [] all = all
  readings_are done (node ∷ rest) all =
      readings_are (done ++ reading_of by (found done) (length done) node.head node.args ∷ []) rest
      (All-push Is done (reading_of by (found done) (length done) node.head node.args) all
      (reading_of_is (found done) (found_is done all) (length done) node.head node.args))

  pub read_is : (nodes : List Node) (n : ℕ) → Is (read_at by nodes n)
  read_is nodes n = found_is (readings by [] nodes) (readings_are [] nodes (All-nil Is)) n
