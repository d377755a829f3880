-- What a typed proof of a goal gives its block.
use Rattle.std.proofs.Common.{◌≡◌, ℕ, suc, ◌<◌, List, [], ◌∷◌, length, All, ap, sym, subst, ◌∙◌, inr, append-nil, arith}
use Rattle.std.specs.Prelude.{slice_get}
use Rattle.std.specs.Option.{IsSomeAnd}
use Rattle.std.specs.List.{AllByRecursion}
use Rattle.std.proofs.lemmas.List.Elements.{All-from_recursion}
use Rattle.grind_term_graph.specs.Terms.{Terms}
use Rattle.grind_term_graph.specs.Shape.{IsTable, IsBegun, IsTermTable}
use Rattle.grind_schemes.specs.Goals.{GoalData, IsGoal}
use Rattle.grind_schemes.specs.declared.lemmas.Lemmas.{Lemmas}
use Rattle.grind_claims.specs.declared.proof.Line.{Line}
use Rattle.grind_claims.specs.declared.proof.Proof.{Proof}
use Rattle.grind_claims.specs.declared.proof.Rule.{Rule}
use Rattle.grind_claims.specs.declared.proof.Rule.TheVariants as rules
use Rattle.grind_rules.specs.Laws.{IsPremiseCount}
use Rattle.grind_proof_kernel.specs.Laws.{TypedLinesCount}
use Rattle.grind_proof_kernel.specs.Typing.{Typed}
use Rattle.grind_value_tables.specs.Laws.{TypedIsTrue}
use Rattle.grind_goal_equations.specs.Congruences.{IsAnswered, CongruenceEntails}
use Rattle.grind_goal_equations.specs.Laws.{GroundGoals}
use Rattle.grind_report.specs.Report.{TakesPremises}
use Rattle.grind_report.specs.Blocks.{widest}
use Rattle.grind_answers.specs.Answers.{IsTrueEverywhere, IsGroundGoal}
use Rattle.grind_answers.specs.Outcomes.{ProvesGoal}

-- as many premises as a rule asks for are as many as are printed with it
takes_premises : (rule : Rule) (count : ℕ) → IsPremiseCount rule count → TakesPremises rule count
takes_premises rules.Cong count h = tt
takes_premises rule count h = h

-- what holds at each place holds of each item
at_each_place : {X : Type 0} (P Q : X → Type 0) → ((x : X) → P x → Q x) → (xs : List X)
    → ((i : ℕ) → i < length xs → IsSomeAnd (slice_get xs i) P) → AllByRecursion Q xs
at_each_place P Q weaker [] h = tt
at_each_place P Q weaker (x ∷ xs) h =
    (weaker x (h 0 (omega arith)), at_each_place P Q weaker xs (λ i within. h (suc i) (omega arith)))

-- each line of a typed proof has as many premises as are printed with its rule
counted : TypedLinesCount → (lemmas : Lemmas) (goal : GoalData) (proof : Proof) → Typed lemmas goal proof
    → All (λ (line : Line). TakesPremises line.rule (length line.premises)) proof.lines
counted law lemmas goal proof typed =
    All-from_recursion (λ (line : Line). TakesPremises line.rule (length line.premises)) proof.lines
    (at_each_place (λ (line : Line). IsPremiseCount line.rule (length line.premises))
    (λ (line : Line). TakesPremises line.rule (length line.premises))
    (λ line h. takes_premises line.rule (length line.premises) h) proof.lines
    (λ i within. law lemmas goal proof i (typed.lines i within)))

-- what is known of a goal: what it keeps, its table, what a typed proof means, and what decides a ground equality goal
pub record Known (goal : GoalData) : Type 0 where
  pub keeps : IsGoal goal
  pub table : IsTable [] goal.terms.nodes
  pub begun : IsBegun goal.terms.nodes
  pub meaning : TypedIsTrue
  pub counts : TypedLinesCount
  pub decided : GroundGoals

-- the proof is over the terms of the goal, with room for as many nodes as there are numbers
abbrev IsOver : GoalData → Proof → Type 0
IsOver goal proof = proof.terms ≡ record { nodes = goal.terms.nodes; limit = widest }

-- a goal that is not answered does not follow by congruence
pub not_entailed : (goal : GoalData) → ¬ IsAnswered goal → (¬ IsAnswered goal) × (IsGroundGoal goal → ¬ CongruenceEntails goal)
not_entailed goal unanswered = (unanswered, λ compares entails. unanswered (inr entails))

module _ (lemmas : Lemmas) (goal : GoalData) (known : Known goal) where
  is_wide : IsTermTable goal.terms.nodes widest
  is_wide = let size = known.keeps.size in (known.table, known.begun, omega arith, omega arith)

  true_everywhere : (proof : Proof) → Typed lemmas goal proof → IsOver goal proof → IsTrueEverywhere goal proof
  true_everywhere proof typed terms v respects =
      known.meaning lemmas goal proof v known.keeps
      (record {
        table = subst (λ (t : Terms). IsTermTable t.nodes t.limit) (sym terms) is_wide;
        begins = ([], ap (λ (t : Terms). t.nodes) terms ∙ sym (append-nil goal.terms.nodes));
        respects = respects;
      }) typed

  pub ProvesGoal-typed : (proof : Proof) → IsAnswered goal → Typed lemmas goal proof → IsOver goal proof → ProvesGoal lemmas goal proof
  ProvesGoal-typed proof answered typed terms = record {
    answered = answered;
    entailed = λ compares. (known.decided goal known.table compares.0 compares.1).0 answered;
    typed = typed;
    true_everywhere = true_everywhere proof typed terms;
    nodes = ap (λ (t : Terms). t.nodes) terms;
    limit = ap (λ (t : Terms). t.limit) terms;
    counts = counted known.counts lemmas goal proof typed;
  }
