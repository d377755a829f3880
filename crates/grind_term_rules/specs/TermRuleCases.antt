-- Worked cases: for some rules a claim that the rule allows, and one that it refuses.
use Rattle.std.specs.Prelude.{◌≡◌, ℕ, List, [], ◌∷◌, ◌++◌, refl}
use Rattle.std.proofs.Common.{arith}
use Rattle.grind_term_graph.specs.declared.head.Head.TheVariants as head
use Rattle.grind_term_graph.specs.declared.node.Node.{Node}
use Rattle.grind_term_graph.specs.Terms.{prop, int, opening}
use Rattle.grind_schemes.specs.Goals.{GoalData, goal_data}
use Rattle.grind_schemes.specs.Theorems.{theorem_data}
use Rattle.grind_schemes.specs.declared.scheme.Scheme.{Var}
use Rattle.grind_schemes.specs.declared.limits.Limits.{Limits}
use Rattle.grind_schemes.specs.declared.lemmas.Lemmas.{Lemmas}
use Rattle.grind_claims.specs.declared.claim.Claim.{Claim}
use Rattle.grind_claims.specs.declared.claim.Claim.TheVariants.{Holds, Same}
use Rattle.grind_term_rules.specs.TermRules.{IsHyp, IsInst, IsTrans, IsCong}

-- True, False, two numbers a and b (2 and 3), f(a) and f(b) (4 and 5), and a formula p, its negation and p or not p (6, 7 and 8)
abbrev nodes : List Node
nodes = opening ++ record { head = head.Const 0; sort = int; args = [] }
    ∷ record { head = head.Const 1; sort = int; args = [] }
    ∷ record { head = head.Fun 0; sort = int; args = 2 ∷ [] }
    ∷ record { head = head.Fun 0; sort = int; args = 3 ∷ [] }
    ∷ record { head = head.Const 2; sort = prop; args = [] }
    ∷ record { head = head.Not; sort = prop; args = 6 ∷ [] }
    ∷ record { head = head.Or; sort = prop; args = 6 ∷ 7 ∷ [] } ∷ []

-- a goal of one hypothesis, p
abbrev of_one : GoalData
of_one = goal_data [] [] (record { nodes = nodes; limit = 100 }) (6 ∷ []) 8

-- its hypothesis is the first
pub hyp_counts_from_one : IsHyp of_one 1 [] (Holds 6)
hyp_counts_from_one = (0, 6, refl, refl, refl, refl)

pub hyp_has_no_zero : (goal : GoalData) (claim : Claim) → IsHyp goal 0 [] claim → ⊥
hyp_has_no_zero goal claim h = absurd (omega (arith, h.2))

-- one theorem, which says that each formula holds
abbrev of_theorem : Limits → Lemmas
of_theorem limits = record { theorems = theorem_data [] (prop ∷ []) (Var 0) [] ∷ []; limits = limits }

-- a formula may stand for its variable, and a number may not
pub inst_of_a_formula : (limits : Limits) → IsInst (of_theorem limits) nodes 0 (6 ∷ []) [] (Holds 6)
inst_of_a_formula limits = (6, (refl, refl), refl, refl)

pub inst_of_a_number : (limits : Limits) → IsInst (of_theorem limits) nodes 0 (2 ∷ []) [] (Holds 2) → ⊥
inst_of_a_number limits h = let wrong = h.1.0 in absurd cc

-- equalities make one where they meet
pub trans_meets : IsTrans (Same 2 3 ∷ Same 3 4 ∷ []) (Same 2 4)
trans_meets = (2, 3, 4, refl, refl)

pub trans_does_not_meet : IsTrans (Same 2 3 ∷ Same 5 4 ∷ []) (Same 2 4) → ⊥
trans_does_not_meet h =
    absurd cc

-- equal arguments give equal terms
pub cong_of_one : IsCong nodes (Same 2 3 ∷ []) (Same 4 5)
cong_of_one = (4, 5, _, _, refl, refl, refl, refl, refl, (λ e. absurd cc), (refl, tt))

-- no rule of congruence is without premises
pub cong_of_none : IsCong nodes [] (Same 2 2) → ⊥
cong_of_none h = h.9 refl
