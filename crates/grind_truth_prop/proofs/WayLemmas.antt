-- Truths one by one, and assignments.
use Rattle.std.specs.Prelude.{◌≡◌, ℕ, suc, ◌⊎◌, Bool, true, false, List, [], ◌∷◌, Some, Contains, map, nat_eq, refl, if◌then◌else◌}
use Rattle.std.proofs.Common.{arith, sym, ap, subst, ◌∙◌, inl, inr}
use Rattle.std.proofs.lemmas.Bool.{cases_eq, cases_Bool, cond-true, cond-false, eq-eqb, ne_eqb, both_ways}
use Rattle.std.proofs.lemmas.List.Elements.{All-contains}
use Rattle.std.proofs.lemmas.Option.{same_Some}
use Rattle.grind_term_graph.specs.declared.head.Head.{Head}
use Rattle.grind_term_graph.specs.declared.head.Head.TheVariants as heads
use Rattle.grind_truth_prop.specs.Kernel.{joined_truth}
use Rattle.grind_truth_prop.specs.Given.{IsKnown}
use Rattle.grind_truth_prop.specs.Connectives.{JoinsTruths, Keeps, Agrees, IsPossible, CanBe}
use Rattle.grind_truth_prop.specs.Splits.{ArgumentsAllow}
use Rattle.grind_truth_prop.specs.Ways.{joined, args_of, JoinsTwo, Allows, IsWay, HasWay, truth_in, CanHave, MustHave, IsMarkOf, IsBlank, IsJointOf}
use Rattle.grind_truth_prop.specs.Findings.{IsConnectiveOf, node_in, AreBothKnown}
use Rattle.grind_truth_prop.specs.declared.types.Known.{Known}
use Rattle.grind_truth_prop.specs.declared.terms.Connective.{Connective}
use Rattle.grind_truth_prop.specs.declared.ways.Mark.{Mark}
use Rattle.grind_truth_prop.specs.declared.ways.Joint.{Joint}
use Rattle.grind_truth_prop.specs.declared.ways.Place.{Place}
use Rattle.grind_truth_prop.specs.declared.ways.Place.TheVariants.{Whole, First, Second}
use Rattle.grind_truth_prop.proofs.TermLemmas.{all_of}

-- ---- one truth or the other

-- where a place cannot be true, it can be false
pub false_is_left : (joint : Joint) (place : Place) → HasWay joint → ¬ CanHave joint place true → CanHave joint place false
false_is_left joint place way none = elim (cases_Bool (truth_in joint.head place way.0 way.1)) [
  | inl t ↦ absurd (none (way.0, way.1, way.2, t))
  | inr f ↦ (way.0, way.1, way.2, f)
]

-- and where it cannot be false, it can be true
pub true_is_left : (joint : Joint) (place : Place) → HasWay joint → ¬ CanHave joint place false → CanHave joint place true
true_is_left joint place way none = elim (cases_Bool (truth_in joint.head place way.0 way.1)) [
  | inl t ↦ (way.0, way.1, way.2, t)
  | inr f ↦ absurd (none (way.0, way.1, way.2, f))
]

-- what cannot be true must be false
pub must_be_false : (joint : Joint) (place : Place) → ¬ CanHave joint place true → MustHave joint place false
must_be_false joint place none a b way = elim (cases_Bool (truth_in joint.head place a b)) [
  | inl t ↦ absurd (none (a, b, way, t))
  | inr f ↦ f
]

-- and what cannot be false must be true
pub must_be_true : (joint : Joint) (place : Place) → ¬ CanHave joint place false → MustHave joint place true
must_be_true joint place none a b way = elim (cases_Bool (truth_in joint.head place a b)) [
  | inl t ↦ t
  | inr f ↦ absurd (none (a, b, way, f))
]

-- what holds of both truths holds of each
pub of_both : (P : Bool → Type 0) → P true → P false → (value : Bool) → P value
of_both P t f true = t
of_both P t f false = f

-- ---- the arguments of a connective

-- a connective is a negation, or joins two
pub negation_or_two : (head : Head) (args : List ℕ) → JoinsTruths head args → (head ≡ heads.Not) ⊎ JoinsTwo head
negation_or_two heads.Not args joins = inl refl
negation_or_two heads.And args joins = inr tt
negation_or_two heads.Or args joins = inr tt
negation_or_two heads.Implies args joins = inr tt
negation_or_two heads.Eq args joins = inr tt
negation_or_two heads.True args joins = absurd joins
negation_or_two heads.False args joins = absurd joins
negation_or_two heads.Le args joins = absurd joins
negation_or_two (heads.Int number) args joins = absurd joins
negation_or_two heads.Add args joins = absurd joins
negation_or_two heads.Neg args joins = absurd joins
negation_or_two heads.Mul args joins = absurd joins
negation_or_two (heads.Fun function) args joins = absurd joins
negation_or_two (heads.Const constant) args joins = absurd joins

-- what joins two has two arguments
pub two_args : (head : Head) (a b : ℕ) → JoinsTwo head → args_of head a b ≡ a ∷ b ∷ []
two_args heads.And a b two = refl
two_args heads.Or a b two = refl
two_args heads.Implies a b two = refl
two_args heads.Eq a b two = refl
two_args heads.Not a b two = absurd two
two_args heads.True a b two = absurd two
two_args heads.False a b two = absurd two
two_args heads.Le a b two = absurd two
two_args (heads.Int number) a b two = absurd two
two_args heads.Add a b two = absurd two
two_args heads.Neg a b two = absurd two
two_args heads.Mul a b two = absurd two
two_args (heads.Fun function) a b two = absurd two
two_args (heads.Const constant) a b two = absurd two

-- the truth table of a connective gives what it makes of its arguments
table_at : (head : Head) (a b : ℕ) (truth : ℕ → Bool) → JoinsTruths head (args_of head a b)
    → joined_truth head (map (λ arg. Some (truth arg)) (args_of head a b)) ≡ Some (joined head (truth a) (truth b))
table_at heads.Not a b truth joins = refl
table_at heads.And a b truth joins = refl
table_at heads.Or a b truth joins = refl
table_at heads.Implies a b truth joins = refl
table_at heads.Eq a b truth joins = refl
table_at heads.True a b truth joins = absurd joins
table_at heads.False a b truth joins = absurd joins
table_at heads.Le a b truth joins = absurd joins
table_at (heads.Int number) a b truth joins = absurd joins
table_at heads.Add a b truth joins = absurd joins
table_at heads.Neg a b truth joins = absurd joins
table_at heads.Mul a b truth joins = absurd joins
table_at (heads.Fun function) a b truth joins = absurd joins
table_at (heads.Const constant) a b truth joins = absurd joins

-- ---- marks

-- a mark lets through what keeps to what is known
allows_of : (known : Known) (n : ℕ) (mark : Mark) (truth : Bool) → IsMarkOf known n mark → Keeps known n truth → Allows mark truth
allows_of known n mark truth of keeps = record { holds = λ t. keeps.holds (of.holds.0 t); fails = λ t. keeps.fails (of.fails.0 t) }

-- and nothing else
keeps_of : (known : Known) (n : ℕ) (mark : Mark) (truth : Bool) → IsMarkOf known n mark → Allows mark truth → Keeps known n truth
keeps_of known n mark truth of allows = record { holds = λ k. allows.holds (of.holds.1 k); fails = λ k. allows.fails (of.fails.1 k) }

-- a blank mark lets everything through
blank_allows : (mark : Mark) (truth : Bool) → IsBlank mark → Allows mark truth
blank_allows mark truth blank = record {
  holds = λ t. absurd (both_ways mark.holds blank.holds t);
  fails = λ t. absurd (both_ways mark.fails blank.fails t);
}

-- a known node has but one truth
known_truth : (known : Known) (n : ℕ) → IsKnown known n → (value : Bool) × ((truth : Bool) → Keeps known n truth → truth ≡ value)
known_truth known n (inl holds) = (true, λ truth keeps. keeps.holds holds)
known_truth known n (inr fails) = (false, λ truth keeps. keeps.fails fails)

-- ---- assignments

module _ (known : Known) (n : ℕ) (it : Connective) (conn : IsConnectiveOf known.terms.nodes n it) where
  abbrev args : List ℕ
  args = args_of it.head it.first it.second

  -- an assignment gives the connective what it makes of the truths of its arguments
  whole_is : (truth : ℕ → Bool) → Agrees known n it.head args truth → joined it.head (truth it.first) (truth it.second) ≡ truth n
  whole_is truth agrees =
      same_Some (joined it.head (truth it.first) (truth it.second)) (truth n)
      (sym (table_at it.head it.first it.second truth conn.connective.joins) ∙ agrees.table)

  place_is : (place : Place) (truth : ℕ → Bool) → Agrees known n it.head args truth
      → truth_in it.head place (truth it.first) (truth it.second) ≡ truth (node_in place n it)
  place_is Whole truth agrees = whole_is truth agrees
  place_is First truth agrees = refl
  place_is Second truth agrees = refl

  -- the node at a place is the connective or one of its arguments
  pub place_among : (place : Place) → Contains (n ∷ args) (node_in place n it)
  place_among Whole = (0, omega arith, refl)
  place_among First = let has = (conn.among it.first).1 (inl refl) in (suc has.0, omega (arith, has.1), has.2)
  place_among Second = let has = (conn.among it.second).1 (inr refl) in (suc has.0, omega (arith, has.1), has.2)

  -- known arguments fix the connective
  pub fixed_by_known : AreBothKnown known it
      → (value : Bool) × ((truth : ℕ → Bool) → Agrees known n it.head args truth → truth n ≡ value)
  fixed_by_known both =
      let one = known_truth known it.first both.0 in
      let other = known_truth known it.second both.1 in (
        joined it.head one.0 other.0,
        λ truth agrees.
            let first : truth it.first ≡ one.0 =
            one.1 (truth it.first) (All-contains (λ m. Keeps known m (truth m)) args it.first agrees.arguments ((conn.among it.first).1 (inl refl))) in
            let second : truth it.second ≡ other.0 =
            other.1 (truth it.second) (All-contains (λ m. Keeps known m (truth m)) args it.second agrees.arguments ((conn.among it.second).1 (inr refl))) in
            sym (whole_is truth agrees) ∙ (λ i. joined it.head (first i) (second i)),
      )

  -- the assignment of these truths to the arguments
  abbrev assigned : Bool → Bool → ℕ → Bool
  assigned a b m = if nat_eq m n then joined it.head a b else (if nat_eq m it.first then a else b)

  assigned_whole : (a b : Bool) → assigned a b n ≡ joined it.head a b
  assigned_whole a b = cond-true (nat_eq n n) (joined it.head a b) (if nat_eq n it.first then a else b) (eq-eqb n n refl)

  assigned_first : (a b : Bool) → assigned a b it.first ≡ a
  assigned_first a b =
      cond-false (nat_eq it.first n) (joined it.head a b) (if nat_eq it.first it.first then a else b)
      (ne_eqb it.first n (λ e. omega (arith, conn.first_lower, e)))
      ∙ cond-true (nat_eq it.first it.first) a b (eq-eqb it.first it.first refl)

  assigned_second : (a b : Bool) → (it.first ≡ it.second → a ≡ b) → assigned a b it.second ≡ b
  assigned_second a b alike =
      cond-false (nat_eq it.second n) (joined it.head a b) (if nat_eq it.second it.first then a else b)
      (ne_eqb it.second n (λ e. omega (arith, conn.second_lower, e)))
      ∙ elim (cases_eq it.second it.first) [
        | inl is ↦ cond-true (nat_eq it.second it.first) a b (eq-eqb it.second it.first is) ∙ alike (sym is)
        | inr other ↦ cond-false (nat_eq it.second it.first) a b (ne_eqb it.second it.first other)
      ]

  module _ (joint : Joint) (of : IsJointOf known it.head it.first it.second joint) where
    -- what agrees with the known truths goes through the marks
    way_of : (truth : ℕ → Bool) → Agrees known n it.head args truth → Allows joint.whole (truth n)
        → IsWay joint (truth it.first) (truth it.second)
    way_of truth agrees whole = record {
      alike = λ t. ap truth (of.alike.0 t);
      first = allows_of known it.first joint.first (truth it.first) of.first
          (All-contains (λ m. Keeps known m (truth m)) args it.first agrees.arguments ((conn.among it.first).1 (inl refl)));
      second = allows_of known it.second joint.second (truth it.second) of.second
          (All-contains (λ m. Keeps known m (truth m)) args it.second agrees.arguments ((conn.among it.second).1 (inr refl)));
      whole = subst (λ b. Allows joint.whole b)
          (sym (ap (λ h. joined h (truth it.first) (truth it.second)) of.head_is ∙ whole_is truth agrees)) whole;
    }

    -- what goes through the marks agrees with the known truths
    agrees_of : (a b : Bool) → IsWay joint a b → Agrees known n it.head args (assigned a b)
    agrees_of a b way =
        let first = assigned_first a b in
        let second = assigned_second a b (λ e. way.alike (of.alike.1 e)) in
        record {
          table = table_at it.head it.first it.second (assigned a b) conn.connective.joins
              ∙ ap (λ r. Some r) ((λ i. joined it.head (first i) (second i)) ∙ sym (assigned_whole a b));
          arguments = all_of (λ m. Keeps known m (assigned a b m)) args (λ m has. elim ((conn.among m).0 has) [
            | inl is ↦ subst (λ k. Keeps known k (assigned a b k)) (sym is)
                (subst (λ r. Keeps known it.first r) (sym first) (keeps_of known it.first joint.first a of.first way.first))
            | inr is ↦ subst (λ k. Keeps known k (assigned a b k)) (sym is)
                (subst (λ r. Keeps known it.second r) (sym second) (keeps_of known it.second joint.second b of.second way.second))
          ]);
        }

    -- the truth at a place is that of its node
    at_place : (place : Place) (a b : Bool) → IsWay joint a b → assigned a b (node_in place n it) ≡ truth_in joint.head place a b
    at_place Whole a b way = assigned_whole a b ∙ ap (λ h. joined h a b) (sym of.head_is)
    at_place First a b way = assigned_first a b
    at_place Second a b way = assigned_second a b (λ e. way.alike (of.alike.1 e))

    -- with the connective not marked, the connective can have a truth that its arguments allow
    pub allow_of : (value : Bool) → CanHave joint Whole value → ArgumentsAllow known n it.head args value
    allow_of value can =
        (assigned can.0 can.1, agrees_of can.0 can.1 can.2, at_place Whole can.0 can.1 can.2 ∙ can.3)

    -- and where it cannot be one truth, its arguments fix the other
    pub fixed_of : (value : Bool) → IsBlank joint.whole → MustHave joint Whole value → (truth : ℕ → Bool)
        → Agrees known n it.head args truth → truth n ≡ value
    fixed_of value blank must truth agrees =
        sym (ap (λ h. joined h (truth it.first) (truth it.second)) of.head_is ∙ whole_is truth agrees)
        ∙ must (truth it.first) (truth it.second) (way_of truth agrees (blank_allows joint.whole (truth n) blank))

    module _ (mark : IsMarkOf known n joint.whole) where
      possible_of : (a b : Bool) → IsWay joint a b → IsPossible known n it.head args (assigned a b)
      possible_of a b way = record {
        agrees = agrees_of a b way;
        whole = keeps_of known n joint.whole (assigned a b n) mark
            (subst (λ r. Allows joint.whole r) (sym (at_place Whole a b way)) way.whole);
      }

      -- where the marks let something through, an assignment is possible
      pub some_possible : HasWay joint → (truth : ℕ → Bool) × IsPossible known n it.head args truth
      some_possible way = (assigned way.0 way.1, possible_of way.0 way.1 way.2)

      -- where they let nothing through, none is
      pub none_possible : ¬ HasWay joint → (truth : ℕ → Bool) → ¬ IsPossible known n it.head args truth
      none_possible none truth possible = none (
        truth it.first,
        truth it.second,
        way_of truth possible.agrees (allows_of known n joint.whole (truth n) mark possible.whole),
      )

      -- a truth that a place can have, its node can have
      pub can_be : (place : Place) (value : Bool) → CanHave joint place value → CanBe known n it.head args (node_in place n it) value
      can_be place value can =
          (assigned can.0 can.1, possible_of can.0 can.1 can.2, at_place place can.0 can.1 can.2 ∙ can.3)

      -- a truth that a place must have, its node has
      pub must_be : (place : Place) (value : Bool) → MustHave joint place value → (truth : ℕ → Bool)
          → IsPossible known n it.head args truth → truth (node_in place n it) ≡ value
      must_be place value must truth possible =
          let way = way_of truth possible.agrees (allows_of known n joint.whole (truth n) mark possible.whole) in
          sym (ap (λ h. truth_in h place (truth it.first) (truth it.second)) of.head_is ∙ place_is place truth possible.agrees)
          ∙ must (truth it.first) (truth it.second) way
