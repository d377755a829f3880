-- What the sources of a goal say of two terms.
use Rattle.std.specs.Prelude.{ℕ, ◌≡◌, zero, suc, ◌<◌, Bool, true, false, List, [], ◌∷◌, Some, All, Contains, length, map, slice_get, take, drop, refl}
use Rattle.std.specs.Option.{IsSomeAnd}
use Rattle.std.proofs.Common.{arith, sym, ap, subst, inl, inr}
use Rattle.std.proofs.lemmas.List.{take-append-drop}
use Rattle.grind_term_graph.specs.declared.head.Head.{Head}
use Rattle.grind_term_graph.specs.declared.head.Head.TheVariants as head
use Rattle.grind_term_graph.specs.declared.node.Node.{Node}
use Rattle.grind_term_graph.specs.Terms.{prop, sort_at}
use Rattle.grind_term_graph.specs.Shape.{IsTable, IsShaped}
use Rattle.grind_term_graph.proofs.Tables.{WellShaped-at, WellShaped-append, sort_at-below}
use Rattle.grind_schemes.specs.Goals.{GoalData, IsGoal, IsFormula}
use Rattle.grind_claims.specs.Claims.{AreOfOneSort}
use Rattle.grind_term_rules.specs.TermRules.{IsEquation}
use Rattle.grind_goal_equations.specs.declared.fact.Fact.{Fact}
use Rattle.grind_goal_equations.specs.Congruences.{IsNegation, IsGiven, IsDenied}
use Rattle.grind_goal_equations.specs.Facts.{IsReadAs, IsSorted, IsSaid, IsFact, equates, HasFact}
use Rattle.grind_goal_equations.proofs.LawLemmas.{some_item, sides_within}

-- a node of a table has arguments of the sorts that it asks for
shape_at : (nodes : List Node) (n : ℕ) (it : Node) → IsTable [] nodes → slice_get nodes n ≡ Some it →
    IsShaped it.head it.sort (map (sort_at nodes) it.args)
shape_at nodes n it table stands =
    let longer = WellShaped-append (take n nodes) (drop n nodes) it (WellShaped-at [] nodes n it table stands) in
    subst (λ (all : List Node). IsShaped it.head it.sort (map (sort_at all) it.args)) (take-append-drop n nodes) longer.1

-- the shape of a node whose head and arguments are known
shape_of : (nodes : List Node) (n : ℕ) (head : Head) (args : List ℕ) → IsTable [] nodes →
    IsSomeAnd (slice_get nodes n) (λ (it : Node). (it.head ≡ head) × (it.args ≡ args)) →
    (sort : ℕ) × (sort_at nodes n ≡ Some sort) × IsShaped head sort (map (sort_at nodes) args)
shape_of nodes n head args table is =
    let found = some_item (λ (it : Node). (it.head ≡ head) × (it.args ≡ args)) (slice_get nodes n) is in
    let it : Node = found.0 in
    let shaped = shape_at nodes n it table found.1 in
    let by_head : IsShaped head it.sort (map (sort_at nodes) it.args) =
    subst (λ (h : Head). IsShaped h it.sort (map (sort_at nodes) it.args)) found.2.0 shaped in
    (it.sort, cc, subst (λ (list : List ℕ). IsShaped head it.sort (map (sort_at nodes) list)) found.2.1 by_head)

-- the sides of an equation have one sort
equation_sorted : (nodes : List Node) (n a b : ℕ) → IsTable [] nodes → IsEquation nodes n a b → AreOfOneSort nodes a b
equation_sorted nodes n a b table is =
    let shape = shape_of nodes n head.Eq (a ∷ b ∷ []) table is in
    (sort_at-below nodes a (sides_within nodes n a b table is).0, shape.2.1)

-- what is negated is a formula
negated_formula : (nodes : List Node) (n m : ℕ) → IsTable [] nodes → IsNegation nodes n m → sort_at nodes m ≡ Some prop
negated_formula nodes n m table is =
    let shape = shape_of nodes n head.Not (m ∷ []) table is in cc

-- what is read is well sorted
pub read_sorted : (nodes : List Node) (n : ℕ) (plain : Bool) (equation left right : ℕ) → IsTable [] nodes → sort_at nodes n ≡ Some prop →
    IsReadAs nodes n plain equation left right →
    IsSorted nodes n (record { plain = plain; equation = equation; left = left; right = right })
read_sorted nodes n true equation left right table formula is = record {
  sides = equation_sorted nodes n left right table is.1;
  left = (sides_within nodes n left right table is.1).0;
  right = (sides_within nodes n left right table is.1).1;
  formula = subst (λ (m : ℕ). sort_at nodes m ≡ Some prop) (sym is.0) formula;
}
read_sorted nodes n false equation left right table formula is = record {
  sides = equation_sorted nodes equation left right table is.1;
  left = (sides_within nodes equation left right table is.1).0;
  right = (sides_within nodes equation left right table is.1).1;
  formula = negated_formula nodes n equation table is.0;
}

-- a formula stands in the table
pub formula_within : (nodes : List Node) (n : ℕ) → sort_at nodes n ≡ Some prop → n < length nodes
formula_within [] n e = absurd cc
formula_within (first ∷ nodes) zero e = omega arith
formula_within (first ∷ nodes) (suc n) e = let below = formula_within nodes n e in omega arith

-- a source of a goal gives a fact
fact_from : (goal : GoalData) (k : ℕ) (holds plain : Bool) (node equation a b : ℕ) → IsTable [] goal.terms.nodes →
    sort_at goal.terms.nodes node ≡ Some prop → IsSaid goal k holds node → IsReadAs goal.terms.nodes node plain equation a b →
    IsFact goal (record { source = k; holds = holds; node = node; reading = record { plain = plain; equation = equation; left = a; right = b } })
fact_from goal k holds plain node equation a b table formula said is =
    let sorted = read_sorted goal.terms.nodes node plain equation a b table formula is in
    record { said = said; reading = is; sorted = sorted; formula = formula }

-- the place of a hypothesis
place_of : {X : Type 0} (P : X → Type 0) (xs : List X) (x : X) → All P xs → Contains xs x → (k : ℕ) × (slice_get xs k ≡ Some x) × P x
place_of P [] x all has = absurd (omega (arith, has.1))
place_of P (y ∷ xs) x all (zero, within, is) = (0, ap Some is, subst P is (all 0 y (omega arith)))
place_of P (y ∷ xs) x all (suc k, within, is) =
    let rest = place_of P xs x (λ i d below. all (suc i) d (omega arith)) (k, omega (arith, within), is) in
    (suc rest.0, rest.1, rest.2)

-- a given pair is one that a source says is equal
pub given_fact : (goal : GoalData) (a b : ℕ) → IsTable [] goal.terms.nodes → IsGoal goal → IsGiven goal a b → HasFact goal true a b
given_fact goal a b table keeps (inl (node, has, is)) =
    let place = place_of (IsFormula goal.terms.nodes) goal.hyps node keeps.hyps has in
    record { fact = _; is = fact_from goal place.0 true true node node a b table place.2 place.1 (refl, is); equates = refl; left = refl; right = refl }
given_fact goal a b table keeps (inr (equation, negation, is)) =
    record {
      fact = _;
      is = fact_from goal (length goal.hyps) false false goal.show equation a b table keeps.show (refl, refl) (negation, is);
      equates = refl;
      left = refl;
      right = refl;
    }

-- a denied pair is one that a source says is different
pub denied_fact : (goal : GoalData) (a b : ℕ) → IsTable [] goal.terms.nodes → IsGoal goal → IsDenied goal a b → HasFact goal false a b
denied_fact goal a b table keeps (inl (node, has, (equation, negation, is))) =
    let place = place_of (IsFormula goal.terms.nodes) goal.hyps node keeps.hyps has in
    record {
      fact = _;
      is = fact_from goal place.0 true false node equation a b table place.2 place.1 (negation, is);
      equates = refl;
      left = refl;
      right = refl;
    }
denied_fact goal a b table keeps (inr is) =
    record {
      fact = _;
      is = fact_from goal (length goal.hyps) false true goal.show goal.show a b table keeps.show (refl, refl) (refl, is);
      equates = refl;
      left = refl;
      right = refl;
    }

-- an item that stands in a list is one of its items
pub stands_in : {X : Type 0} (xs : List X) (k : ℕ) (x : X) → slice_get xs k ≡ Some x → Contains xs x
stands_in [] k x e = absurd cc
stands_in (y ∷ xs) zero x e = let is : y ≡ x = cc in (0, omega arith, is)
stands_in (y ∷ xs) (suc k) x e = let rest = stands_in xs k x e in (suc rest.0, omega (arith, rest.1), rest.2)

said_equal : (goal : GoalData) (k : ℕ) (holds plain : Bool) (node equation a b : ℕ) → IsSaid goal k holds node →
    IsReadAs goal.terms.nodes node plain equation a b →
    equates (record { source = k; holds = holds; node = node; reading = record { plain = plain; equation = equation; left = a; right = b } }) ≡ true →
    IsGiven goal a b
said_equal goal k true true node equation a b said is e = inl (node, stands_in goal.hyps k node said, is.1)
said_equal goal k true false node equation a b said is e = absurd cc
said_equal goal k false true node equation a b said is e = absurd cc
said_equal goal k false false node equation a b said is e =
    inr (equation, subst (λ (n : ℕ). IsNegation goal.terms.nodes n equation) said.1 is.0, is.1)

said_different : (goal : GoalData) (k : ℕ) (holds plain : Bool) (node equation a b : ℕ) → IsSaid goal k holds node →
    IsReadAs goal.terms.nodes node plain equation a b →
    equates (record { source = k; holds = holds; node = node; reading = record { plain = plain; equation = equation; left = a; right = b } }) ≡ false →
    IsDenied goal a b
said_different goal k true true node equation a b said is e = absurd cc
said_different goal k true false node equation a b said is e = inl (node, stands_in goal.hyps k node said, (equation, is.0, is.1))
said_different goal k false true node equation a b said is e =
    inr (subst (λ (n : ℕ). IsEquation goal.terms.nodes n a b) said.1 is.1)
said_different goal k false false node equation a b said is e = absurd cc

-- what a fact equates is given
pub fact_given : (goal : GoalData) (fact : Fact) → IsFact goal fact → equates fact ≡ true → IsGiven goal fact.reading.left fact.reading.right
fact_given goal fact is e =
    said_equal goal fact.source fact.holds fact.reading.plain fact.node fact.reading.equation fact.reading.left fact.reading.right is.said is.reading e

-- and what it does not is denied
pub fact_denied : (goal : GoalData) (fact : Fact) → IsFact goal fact → equates fact ≡ false → IsDenied goal fact.reading.left fact.reading.right
fact_denied goal fact is e =
    said_different goal fact.source fact.holds fact.reading.plain fact.node fact.reading.equation fact.reading.left fact.reading.right is.said is.reading e
