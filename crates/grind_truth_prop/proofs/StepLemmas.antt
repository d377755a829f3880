-- At rest no other answer has a case.
use Rattle.std.specs.Prelude.{◌≡◌, ℕ, Bool, true, false, List, [], ◌∷◌, ◌++◌, All, refl}
use Rattle.std.proofs.Common.{sym, ap, subst, ◌∙◌, inl, inr}
use Rattle.std.proofs.lemmas.Bool.{true≢false, cases_order}
use Rattle.std.proofs.lemmas.List.Elements.{All-head, All-tail}
use Rattle.grind_truth_prop.specs.Classed.{IsClassed}
use Rattle.grind_truth_prop.specs.Sides.{HasSides}
use Rattle.grind_truth_prop.specs.Equations.{HasJoined, HasParted, NoEquation}
use Rattle.grind_truth_prop.specs.Connectives.{AreFreeNodes, IsSettled, IsContradicted, NoneSettled}
use Rattle.grind_truth_prop.specs.Splits.{IsUnfixed, IsWantedAt, WantsNothing, IsWanted}
use Rattle.grind_truth_prop.specs.Given.{IsKnown}
use Rattle.grind_truth_prop.specs.Steps.{NoneAtClasses, NothingFollows, IsAtRest, IsStep}
use Rattle.grind_truth_prop.specs.Findings.{IsFinding, IsAnswerTo}
use Rattle.grind_truth_prop.specs.declared.units.connectives.Finding.{Finding}
use Rattle.grind_truth_prop.specs.declared.units.connectives.Finding.TheVariants as findings
use Rattle.grind_truth_prop.specs.declared.types.Known.{Known}
use Rattle.grind_truth_prop.specs.declared.types.TruthStep.{TruthStep}
use Rattle.grind_truth_prop.specs.declared.types.TruthStep.TheVariants.{Classed, Sides, Joined, Parted, Settle, Conflict, Wants, Rest}
use Rattle.grind_truth_prop.proofs.TermLemmas.{connective_once}

module _ (known : Known) (lists : List (List ℕ)) (none : NothingFollows known lists) where
  not_classed : (node : ℕ) (value : Bool) → ¬ IsClassed known lists node value
  not_classed node value at = at.unknown.1 (none.classed node value at.together)

  not_sides : (node : ℕ) → ¬ HasSides known lists node
  not_sides node at = elim at.2.3 [
    | inl join ↦ elim ((none.sides node at.2.0 at.2.1 at.2.2).0 join.0.holds) [
      | inl t ↦ join.0.not_together t
      | inr has ↦ join.0.not_claimed has
    ]
    | inr part ↦ part.0.not_claimed ((none.sides node at.2.0 at.2.1 at.2.2).1 part.0.fails)
  ]

  not_joined : (node : ℕ) → ¬ HasJoined known lists node
  not_joined node at = elim (none.equations node at.0 at.1 at.2.unknown.0 at.2.equation) [
    | inl k ↦ at.2.unknown.1 k
    | inr apart ↦ apart.0 at.2.together
  ]

  not_parted : (node place : ℕ) → ¬ HasParted known lists node place
  not_parted node place at = elim (none.equations node at.0 at.1 at.3.unknown.0 at.3.equation) [
    | inl k ↦ at.3.unknown.1 k
    | inr apart ↦ apart.1 place at.2 at.3.stands at.3.parted
  ]

  not_settled : (n : ℕ) (value : Bool) (free : List ℕ) → ¬ IsSettled known lists n value free
  not_settled n value free at =
      let fixed = at.3 in
      let left = none.settled at.0 at.1 at.2 fixed.active fixed.connective in
      elim (left.both n fixed.among) [
        | inl k ↦ fixed.unknown.1 k
        | inr both ↦ true≢false (
            sym both.0.2 ∙ fixed.fixed both.0.0 both.0.1
            ∙ sym (fixed.fixed both.1.0 both.1.1) ∙ both.1.2
            )
      ]

  not_contradicted : (node : ℕ) → ¬ IsContradicted known lists node
  not_contradicted node at =
      let left = none.settled node at.0 at.1 at.2.active at.2.connective in
      at.2.never left.possible.0 left.possible.1

-- where nothing is to be tried at a node, nothing is wanted there
not_wanted : (known : Known) (lists : List (List ℕ)) (node n : ℕ) → WantsNothing known lists node → ¬ IsWantedAt known lists node n
not_wanted known lists node n none (inl unfixed) =
    elim (none.fixed unfixed.0 unfixed.1 unfixed.2 unfixed.3) [
      | inl sides ↦ unfixed.4.not_joined sides
      | inr one ↦
          let may = unfixed.4.either true in
          let also = unfixed.4.either false in
          true≢false (sym may.2 ∙ one.1 may.0 may.1 ∙ sym (one.1 also.0 also.1) ∙ also.2)
    ]
not_wanted known lists node n none (inr shares) =
    let it = shares.0 in it.shared.2 (none.alone it.unknown it.kind it.shared.0 it.shared.1)

-- at rest the answer is rest
pub rest_is : (known : Known) (lists : List (List ℕ)) (step : TruthStep) → IsStep known lists step → IsAtRest known lists → step ≡ Rest
rest_is known lists (Classed node value) at rest = absurd (not_classed known lists rest.follows node value at)
rest_is known lists (Sides node) at rest = absurd (not_sides known lists rest.follows node at.1)
rest_is known lists (Joined node) at rest = absurd (not_joined known lists rest.follows node at.1)
rest_is known lists (Parted node apart) at rest = absurd (not_parted known lists rest.follows node apart at.1)
rest_is known lists (Settle node value atoms) at rest = absurd (not_settled known lists rest.follows node value atoms at.2)
rest_is known lists (Conflict node) at rest = absurd (not_contradicted known lists rest.follows node at.2)
rest_is known lists (Wants node) at rest = absurd (not_wanted known lists at.1.0 node (rest.wanted at.1.0) at.1.1)
rest_is known lists Rest at rest = refl

-- what is at rest is no other answer
pub rest_of : (known : Known) (lists : List (List ℕ)) (step : TruthStep) → IsStep known lists step → step ≡ Rest → IsAtRest known lists
rest_of known lists (Classed node value) at e = absurd cc
rest_of known lists (Sides node) at e = absurd cc
rest_of known lists (Joined node) at e = absurd cc
rest_of known lists (Parted node apart) at e = absurd cc
rest_of known lists (Settle node value atoms) at e = absurd cc
rest_of known lists (Conflict node) at e = absurd cc
rest_of known lists (Wants node) at e = absurd cc
rest_of known lists Rest at e = at

-- where no unit has a case, nothing follows
pub nothing_follows : (known : Known) (lists : List (List ℕ)) → NoneAtClasses known lists → NoEquation known lists → NoneSettled known lists
    → NothingFollows known lists
nothing_follows known lists before equations settled =
    record { classed = before.classed; sides = before.sides; equations = equations; settled = settled }

-- what is found at a connective is the answer
pub settled_answer : (known : Known) (lists : List (List ℕ)) (node : ℕ) (finding : Finding) (step : TruthStep)
    → NoneAtClasses known lists → NoEquation known lists → IsFinding known lists node finding → IsAnswerTo node finding step
    → IsStep known lists step
settled_answer known lists node findings.Contradiction step before equations found is =
    subst (λ (it : TruthStep). IsStep known lists it) (sym is) (before, equations, found)
settled_answer known lists node (findings.Truth n value first second) step before equations found answer =
    let two = answer.2 in
    let free : AreFreeNodes answer.0 found.args = record {
      exactly = λ m. (λ has. (found.among m).1 ((two.exactly m).0 has), λ has. (two.exactly m).1 ((found.among m).0 has));
      once = two.once;
    } in
    subst (λ (it : TruthStep). IsStep known lists it) (sym answer.1)
    (before, equations, (node, found.head, found.args, found.fixed, free))

-- ---- the formula that is wanted

-- a list has one first element that is not known
first_once : (known : Known) (before other after rest : List ℕ) (m n : ℕ) → before ++ m ∷ after ≡ other ++ n ∷ rest
    → All (IsKnown known) before → ¬ IsKnown known m → All (IsKnown known) other → ¬ IsKnown known n → m ≡ n
first_once known [] [] after rest m n e all_before not_m all_other not_n = cc
first_once known [] (y ∷ other) after rest m n e all_before not_m all_other not_n =
    let is : y ≡ m = cc in
    absurd (not_m (subst (λ (k : ℕ). IsKnown known k) is (All-head (IsKnown known) y other all_other)))
first_once known (x ∷ before) [] after rest m n e all_before not_m all_other not_n =
    let is : x ≡ n = cc in
    absurd (not_n (subst (λ (k : ℕ). IsKnown known k) is (All-head (IsKnown known) x before all_before)))
first_once known (x ∷ before) (y ∷ other) after rest m n e all_before not_m all_other not_n =
    let tails : before ++ m ∷ after ≡ other ++ n ∷ rest = cc in
    first_once known before other after rest m n tails
    (All-tail (IsKnown known) x before all_before) not_m (All-tail (IsKnown known) y other all_other) not_n

unfixed_once : (known : Known) (lists : List (List ℕ)) (node m n : ℕ) → IsUnfixed known lists node m → IsUnfixed known lists node n → m ≡ n
unfixed_once known lists node m n one other =
    let once = connective_once known.terms.nodes node one.0 other.0 one.1 other.1 one.3 other.3 in
    let first = one.5.parts in
    let also = other.5.parts in
    first_once known first.0 also.0 first.1 also.1 m n (sym first.2 ∙ once.1 ∙ also.2) first.3 one.5.unknown.1 also.3 other.5.unknown.1

-- at one node one formula is wanted
wanted_once : (known : Known) (lists : List (List ℕ)) (node m n : ℕ) → IsWantedAt known lists node m → IsWantedAt known lists node n → m ≡ n
wanted_once known lists node m n (inl one) (inl other) = unfixed_once known lists node m n one other
wanted_once known lists node m n (inl one) (inr other) = absurd (other.0.unknown.1 one.2)
wanted_once known lists node m n (inr one) (inl other) = absurd (one.0.unknown.1 other.2)
wanted_once known lists node m n (inr one) (inr other) = one.1 ∙ sym other.1

-- and so at the first node at which any is
wants_once : (known : Known) (lists : List (List ℕ)) (m n : ℕ) → IsWanted known lists m → IsWanted known lists n → m ≡ n
wants_once known lists m n one other = elim (cases_order one.0 other.0) [
  | inl is ↦ wanted_once known lists other.0 m n (subst (λ (k : ℕ). IsWantedAt known lists k m) is one.1) other.1
  | inr (inl less) ↦ absurd (not_wanted known lists one.0 m (other.2 one.0 less) one.1)
  | inr (inr more) ↦ absurd (not_wanted known lists other.0 n (one.2 other.0 more) other.1)
]

-- where nothing follows and a formula is wanted, that is the answer
pub wants_is : (known : Known) (lists : List (List ℕ)) (step : TruthStep) (n : ℕ) → IsStep known lists step
    → NothingFollows known lists → IsWanted known lists n → step ≡ Wants n
wants_is known lists (Classed node value) n at none wanted = absurd (not_classed known lists none node value at)
wants_is known lists (Sides node) n at none wanted = absurd (not_sides known lists none node at.1)
wants_is known lists (Joined node) n at none wanted = absurd (not_joined known lists none node at.1)
wants_is known lists (Parted node apart) n at none wanted = absurd (not_parted known lists none node apart at.1)
wants_is known lists (Settle node value atoms) n at none wanted = absurd (not_settled known lists none node value atoms at.2)
wants_is known lists (Conflict node) n at none wanted = absurd (not_contradicted known lists none node at.2)
wants_is known lists (Wants m) n at none wanted = ap (λ (k : ℕ). Wants k) (wants_once known lists m n at.1 wanted)
wants_is known lists Rest n at none wanted = absurd (not_wanted known lists wanted.0 n (at.wanted wanted.0) wanted.1)

-- and such an answer says so
pub wants_of : (known : Known) (lists : List (List ℕ)) (step : TruthStep) (n : ℕ) → IsStep known lists step → step ≡ Wants n
    → NothingFollows known lists × IsWanted known lists n
wants_of known lists (Classed node value) n at e = absurd cc
wants_of known lists (Sides node) n at e = absurd cc
wants_of known lists (Joined node) n at e = absurd cc
wants_of known lists (Parted node apart) n at e = absurd cc
wants_of known lists (Settle node value atoms) n at e = absurd cc
wants_of known lists (Conflict node) n at e = absurd cc
wants_of known lists (Wants m) n at e =
    let is : m ≡ n = cc in (at.0, subst (λ (k : ℕ). IsWanted known lists k) is at.1)
wants_of known lists Rest n at e = absurd cc
