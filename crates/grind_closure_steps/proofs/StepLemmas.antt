-- What is found at a node, and what is not found at any.
use Rattle.std.specs.Prelude.{◌≡◌, ℕ, ◌<◌, ◌+◌, ℤ, ◌⊎◌, ◌↔◌, Bool, true, false, List, [], ◌∷◌, Option, Some, None, Contains, length, slice_get, refl}
use Rattle.std.specs.Option.{IsSomeAnd}
use Rattle.std.proofs.Common.{arith, sym, subst, ◌∙◌, inl, inr}
use Rattle.std.proofs.lemmas.Bool.{cases_eq}
use Rattle.std.proofs.lemmas.Option.{same_Some, slice_get_within, get_or_from_slice_get}
use Rattle.std.proofs.lemmas.List.Elements.{Contains-append_left, Contains-append_right, Contains-append_cases, Contains-push, Contains-push_cases}
use Rattle.grind_term_graph.specs.declared.head.Head.TheVariants as heads
use Rattle.grind_term_graph.specs.declared.node.Node.{Node}
use Rattle.grind_classes.specs.Classes.{IsIn, AreTogether}
use Rattle.grind_term_rules.specs.TermRules.{IsNumber}
use Rattle.grind_rules.specs.Rules.{AreTwoNumbers}
use Rattle.grind_truth_prop.specs.Given.{KnownToHold, KnownToFail, KnownAs, truth_node, Fits}
use Rattle.grind_congruence.specs.Congruence.{IsAtRest}
use Rattle.grind_truth_prop.specs.declared.types.Couple.{Couple}
use Rattle.grind_truth_prop.specs.declared.types.Known.{Known}
use Rattle.grind_closure_steps.specs.Truths.{HasNothingLeft, NothingLeft}
use Rattle.grind_closure_steps.specs.Clashes.{IsAlone, NoNumbers, AreApartTogether, NoneApart, IsOpposed, NoneOpposed, NoClash, IsClashStep}
use Rattle.grind_closure_steps.specs.Steps.{IsClosed, IsStep}
use Rattle.grind_closure_steps.specs.declared.types.ClosureStep.{ClosureStep}
use Rattle.grind_closure_steps.specs.declared.types.ClosureStep.TheVariants as step

-- what holds below a number and at it holds below the next
pub below_next : (P : ℕ → Type 0) (i : ℕ) → ((k : ℕ) → k < i → P k) → P i → (k : ℕ) → k < i + 1 → P k
below_next P i before here k below = elim (cases_eq k i) [
  | inl is ↦ subst P (sym is) here
  | inr other ↦ before k (omega arith)
]

-- ---- truths

known_within : (known : Known) (lists : List (List ℕ)) → Fits known lists → (n : ℕ) (value : Bool) → KnownAs known n value
    → n < length known.terms.nodes
known_within known lists fits n true is = fits.within n (fits.known_active n (inl is))
known_within known lists fits n false is = fits.within n (fits.known_active n (inr is))

pub nothing_left : (known : Known) (lists : List (List ℕ)) → Fits known lists
    → ((k : ℕ) → k < length known.terms.nodes → HasNothingLeft known lists k) → NothingLeft known lists
nothing_left known lists fits none n value is = none n (known_within known lists fits n value is) value is

pub nothing_left_at : (known : Known) (lists : List (List ℕ)) (n : ℕ)
    → (KnownToHold known n → AreTogether lists n (truth_node true))
    → (KnownToFail known n → AreTogether lists n (truth_node false)) → HasNothingLeft known lists n
nothing_left_at known lists n holds fails true is = holds is
nothing_left_at known lists n holds fails false is = fails is

-- ---- numbers

none_in_none : (n : ℕ) → Contains [] n → ⊥
none_in_none n h = omega (arith, h.1)

first_or_rest : (x : ℕ) (xs : List ℕ) (y : ℕ) → Contains (x ∷ xs) y → (x ≡ y) ⊎ Contains xs y
first_or_rest x xs y h = elim (Contains-append_cases (x ∷ []) xs y h) [
  | inl one ↦ elim (Contains-push_cases [] x y one) [
    | inl none ↦ absurd (none_in_none y none)
    | inr same ↦ inl same
  ]
  | inr more ↦ inr more
]

-- the rest is of the whole, and each of the whole that is P is in the rest
pub record IsLeftOver (P : ℕ → Type 0) (whole rest : List ℕ) : Type 0 where
  pub of_whole : (n : ℕ) → Contains rest n → Contains whole n
  pub still : (n : ℕ) → Contains whole n → P n → Contains rest n

pub all_over : (P : ℕ → Type 0) (whole : List ℕ) → IsLeftOver P whole whole
all_over P whole = record { of_whole = λ n h. h; still = λ n h p. h }

pub first_of_whole : (P : ℕ → Type 0) (whole rest tail : List ℕ) (n : ℕ) → rest ≡ n ∷ tail → IsLeftOver P whole rest
    → Contains whole n
first_of_whole P whole rest tail n is over =
    over.of_whole n (subst (λ (xs : List ℕ). Contains xs n) (sym is) (Contains-append_left (n ∷ []) tail n (Contains-push [] n)))

pub first_is_not : (P : ℕ → Type 0) (whole rest tail : List ℕ) (n : ℕ) → rest ≡ n ∷ tail → IsLeftOver P whole rest → ¬ P n
    → IsLeftOver P whole tail
first_is_not P whole rest tail n is over other = record {
  of_whole = λ m h. over.of_whole m (subst (λ (xs : List ℕ). Contains xs m) (sym is) (Contains-append_right (n ∷ []) tail m h));
  still = λ m h p. elim (first_or_rest n tail m (subst (λ (xs : List ℕ). Contains xs m) is (over.still m h p))) [
    | inl same ↦ absurd (other (subst P (sym same) p))
    | inr more ↦ more
  ];
}

pub none_is : (P : ℕ → Type 0) (whole rest : List ℕ) → length rest ≡ 0 → IsLeftOver P whole rest → (n : ℕ) → Contains whole n → ¬ P n
none_is P whole [] empty over n h = λ p. none_in_none n (over.still n h p)
none_is P whole (x ∷ rest) empty over n h = absurd (omega (arith, empty))

-- one node is one number
some_and : {A : Type 0} (o : Option A) (P : A → Type 0) → IsSomeAnd o P → (x : A) × (o ≡ Some x) × P x
some_and None P h = absurd h
some_and (Some x) P h = (x, refl, h)

pub number_within : (nodes : List Node) (n : ℕ) (number : ℤ) → IsNumber nodes n number → n < length nodes
number_within nodes n number is =
    let found = some_and (slice_get nodes n) (λ (it : Node). it.head ≡ heads.Int number) is in
    slice_get_within nodes n found.0 found.1

-- a class in which nothing is another number
pub alone_in_class : (nodes : List Node) (lists : List (List ℕ)) (n root : ℕ)
    → ((m : ℕ) → AreTogether lists n m ↔ IsIn lists root m) → ((m : ℕ) → IsIn lists root m → ¬ AreTwoNumbers nodes n m)
    → IsAlone nodes lists n
alone_in_class nodes lists n root class none b h = none b ((class b).0 h.1) h.0

pub alone_where_no_number : (nodes : List Node) (lists : List (List ℕ)) (n : ℕ) → ((number : ℤ) → ¬ IsNumber nodes n number)
    → IsAlone nodes lists n
alone_where_no_number nodes lists n none b h = none h.0.0 h.0.2

pub no_numbers : (nodes : List Node) (lists : List (List ℕ)) → ((k : ℕ) → k < length nodes → IsAlone nodes lists k) → NoNumbers nodes lists
no_numbers nodes lists none a b h = none a (number_within nodes a h.0.0 h.0.2) b h

-- ---- opposed

pub none_opposed : (known : Known) (lists : List (List ℕ)) → Fits known lists
    → ((k : ℕ) → k < length known.terms.nodes → ¬ IsOpposed known k) → NoneOpposed known
none_opposed known lists fits none n h = none n (known_within known lists fits n true h.0) h

-- ---- places

-- what stands at a place is in the list
pub at_place : {X : Type 0} (xs : List X) (k : ℕ) (x : X) → slice_get xs k ≡ Some x → Contains xs x
at_place xs k x is = (k, slice_get_within xs k x is, get_or_from_slice_get xs k x x is)

-- ---- different nodes

pub apart_at : (known : Known) (lists : List (List ℕ)) (place : ℕ) (pair : Couple) → slice_get known.apart place ≡ Some pair
    → AreTogether lists pair.left pair.right ↔ AreApartTogether known lists place
apart_at known lists place pair is = (
  λ together. (pair, is, together),
  λ h. subst (λ (it : Couple). AreTogether lists it.left it.right) (same_Some h.0 pair (sym h.1 ∙ is)) h.2,
)

pub none_at : (known : Known) (lists : List (List ℕ)) (place : ℕ) → slice_get known.apart place ≡ None
    → ¬ AreApartTogether known lists place
none_at known lists place is h = some_is_not_none h.0 (sym h.1 ∙ is)
  where
    some_is_not_none : (pair : Couple) → Some pair ≡ None → ⊥
    some_is_not_none pair e = absurd cc

pub none_apart : (known : Known) (lists : List (List ℕ)) → ((k : ℕ) → k < length known.apart → ¬ AreApartTogether known lists k)
    → NoneApart known lists
none_apart known lists none k h = none k (slice_get_within known.apart k h.0 h.1) h

-- ---- the step

-- a contradiction is a step where no unit before it has a case
pub clash_is_step : (known : Known) (lists : List (List ℕ)) (answer : ClosureStep) → NothingLeft known lists
    → IsAtRest lists known.terms.nodes → IsClashStep known lists answer → IsStep known lists answer
clash_is_step known lists (step.Truth node value) none rest found = absurd found
clash_is_step known lists (step.Congruent left right) none rest found = absurd found
clash_is_step known lists step.BothTruths none rest found = ((none, rest), found)
clash_is_step known lists (step.Numbers left right) none rest found = ((none, rest), found)
clash_is_step known lists (step.Apart place) none rest found = ((none, rest), found)
clash_is_step known lists (step.Opposed node) none rest found = ((none, rest), found)
clash_is_step known lists step.Rest none rest found = absurd found

-- and then there is one
clash_against : (known : Known) (lists : List (List ℕ)) (answer : ClosureStep) → IsClashStep known lists answer → NoClash known lists → ⊥
clash_against known lists (step.Truth node value) found none = found
clash_against known lists (step.Congruent left right) found none = found
clash_against known lists step.BothTruths found none = none.truths found
clash_against known lists (step.Numbers left right) found none = none.numbers left right found
clash_against known lists (step.Apart place) found none = none.apart place found
clash_against known lists (step.Opposed node) found none = none.opposed node found
clash_against known lists step.Rest found none = found

pub clash_is_no_rest : (known : Known) (lists : List (List ℕ)) (answer : ClosureStep) → IsClashStep known lists answer
    → (answer ≡ step.Rest) ↔ IsClosed known lists
clash_is_no_rest known lists answer found = (
  λ e. absurd (subst (λ (it : ClosureStep). IsClashStep known lists it) e found),
  λ closed. absurd (clash_against known lists answer found closed.clashes),
)
