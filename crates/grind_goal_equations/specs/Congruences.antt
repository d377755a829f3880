-- Goals that are decided by congruence: which pairs of terms a goal gives and denies, and what follows from those that it gives.
use Rattle.std.specs.Prelude.{ℕ, ◌≡◌, ◌<◌, List, [], ◌∷◌, All, Contains, length, slice_get, ◌⊎◌}
use Rattle.std.specs.Option.{IsSomeAnd}
use Rattle.grind_term_graph.specs.declared.head.Head.TheVariants as head
use Rattle.grind_term_graph.specs.declared.node.Node.{Node}
use Rattle.grind_schemes.specs.Goals.{GoalData}
use Rattle.grind_term_rules.specs.TermRules.{IsEquation}
use Rattle.grind_congruence.specs.Derivable.{Derivable}

-- the node is the negation of that one
abbrev pub IsNegation : List Node → ℕ → ℕ → Type 0
IsNegation nodes node negated =
    IsSomeAnd (slice_get nodes node) (λ (it : Node). (it.head ≡ head.Not) × (it.args ≡ negated ∷ []))

-- the node says that these two are equal
abbrev pub IsEqual : GoalData → ℕ → ℕ → ℕ → Type 0
IsEqual goal node a b = IsEquation goal.terms.nodes node a b

-- the node says that these two are different: it is the negation of their equation
abbrev pub IsUnequal : GoalData → ℕ → ℕ → ℕ → Type 0
IsUnequal goal node a b = (equation : ℕ) × IsNegation goal.terms.nodes node equation × IsEqual goal equation a b

-- the goal gives the pair: a hypothesis says that the two are equal, or the conclusion that they are different, which a
-- proof by contradiction denies
abbrev pub IsGiven : GoalData → ℕ → ℕ → Type 0
IsGiven goal a b = ((node : ℕ) × Contains goal.hyps node × IsEqual goal node a b) ⊎ IsUnequal goal goal.show a b

-- the goal denies the pair: a hypothesis says that the two are different, or the conclusion that they are equal
abbrev pub IsDenied : GoalData → ℕ → ℕ → Type 0
IsDenied goal a b = ((node : ℕ) × Contains goal.hyps node × IsUnequal goal node a b) ⊎ IsEqual goal goal.show a b

-- the node is one of the goal's
abbrev pub IsNodeOf : GoalData → ℕ → Type 0
IsNodeOf goal node = node < length goal.terms.nodes

-- from pairs that the goal gives it follows by congruence over the nodes of the goal that the two are equal
abbrev pub FollowsFromGiven : GoalData → ℕ → ℕ → Type 0
FollowsFromGiven goal a b =
    (pairs : List (ℕ × ℕ)) × All (λ (pair : ℕ × ℕ). IsGiven goal pair.0 pair.1) pairs
    × Derivable goal.terms.nodes pairs (IsNodeOf goal) a b

-- by congruence the goal follows: a pair that it denies follows from those that it gives
abbrev pub CongruenceEntails : GoalData → Type 0
CongruenceEntails goal = (a : ℕ) × (b : ℕ) × IsDenied goal a b × FollowsFromGiven goal a b

-- the goal is answered: its conclusion is one of its hypotheses, or it follows by congruence
abbrev pub IsAnswered : GoalData → Type 0
IsAnswered goal = Contains goal.hyps goal.show ⊎ CongruenceEntails goal

-- the node says that two terms are equal or different
abbrev pub ComparesTerms : GoalData → ℕ → Type 0
ComparesTerms goal node = (a : ℕ) × (b : ℕ) × (IsEqual goal node a b ⊎ IsUnequal goal node a b)
