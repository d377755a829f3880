-- Worked cases: a line that is typed, and one that is not.
use Rattle.std.specs.Prelude.{ℕ, Bool, false, List, [], ◌∷◌, Option, Some, IsSome, refl}
use Rattle.std.proofs.Common.{lit<, inl, arith}
use Rattle.std.proofs.lemmas.List.Elements.{All-nil, All-cons}
use Rattle.grind_term_graph.specs.declared.head.Head.TheVariants as head
use Rattle.grind_term_graph.specs.declared.node.Node.{Node}
use Rattle.grind_term_graph.specs.Terms.{prop}
use Rattle.grind_schemes.specs.Goals.{GoalData, goal_data}
use Rattle.grind_schemes.specs.declared.lemmas.Lemmas.{Lemmas}
use Rattle.grind_claims.specs.declared.claim.Claim.{Claim}
use Rattle.grind_claims.specs.declared.claim.Claim.TheVariants.{Holds, Fails, Absurd}
use Rattle.grind_claims.specs.declared.proof.Line.{Line}
use Rattle.grind_claims.specs.declared.proof.Proof.{Proof}
use Rattle.grind_claims.specs.declared.proof.Rule.TheVariants as rules
use Rattle.grind_proof_kernel.specs.Typing.{Serves, TypedLine}

-- `True`, `False`, the formula p of number 2, and its negation of number 3
abbrev nodes : List Node
nodes = record { head = head.True; sort = prop; args = [] }
    ∷ record { head = head.False; sort = prop; args = [] }
    ∷ record { head = head.Const 0; sort = prop; args = [] }
    ∷ record { head = head.Not; sort = prop; args = 2 ∷ [] } ∷ []

-- from p, p
abbrev goal : GoalData
goal = goal_data [] [] (record { nodes = nodes; limit = 4 }) (2 ∷ []) 2

-- the hypothesis, the conclusion denied, and a clash of these premises
abbrev lines : List ℕ → List Line
lines premises = record { branch = 0; rule = rules.Hyp 1; premises = []; claim = Holds 2 }
    ∷ record { branch = 0; rule = rules.Negated; premises = []; claim = Fails 2 }
    ∷ record { branch = 0; rule = rules.Clash; premises = premises; claim = Absurd } ∷ []

abbrev proof : List ℕ → Proof
proof premises = record { terms = record { nodes = nodes; limit = 4 }; branches = []; lines = lines premises }

-- the first two lines serve the third
abbrev serves : ℕ → Type 0
serves = Serves [] (lines (0 ∷ 1 ∷ [])) 2 0

first_serves : serves 0
first_serves = (lit< tt, (0, omega arith, refl))

second_serves : serves 1
second_serves = (lit< tt, (0, omega arith, refl))

-- the clash of lines 0 and 1 is typed
pub clash_is_typed : (lemmas : Lemmas) → TypedLine lemmas goal (proof (0 ∷ 1 ∷ [])) 2
clash_is_typed lemmas = record {
  claim = tt;
  branch = omega arith;
  premises = All-cons serves 0 (1 ∷ []) first_serves (All-cons serves 1 [] second_serves (All-nil serves));
  rule = (
    Holds 2 ∷ Fails 2 ∷ [],
    (refl, (refl, tt)),
    (refl, inl (Holds 2, Fails 2, inl refl, inl (2, refl, refl))),
  );
}

-- a clash of line 0 and the line itself is not
pub clash_with_itself_is_not_typed : (lemmas : Lemmas) → TypedLine lemmas goal (proof (0 ∷ 2 ∷ [])) 2 → ⊥
clash_with_itself_is_not_typed lemmas typed =
    let low = (typed.premises 1 0 (lit< tt)).0 in
    absurd (omega arith)
