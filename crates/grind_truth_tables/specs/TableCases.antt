-- Worked cases: what truth tables let follow, and what they do not.
use Rattle.std.specs.Prelude.{◌≡◌, ℕ, Bool, true, false, List, [], ◌∷◌, ◌++◌, length, Option, Some, IsSome, refl}
use Rattle.std.proofs.Common.{lit≤, lit<, arith}
use Rattle.std.proofs.lemmas.List.Elements.{All-nil, All-cons}
use Rattle.grind_term_graph.specs.declared.head.Head.TheVariants as head
use Rattle.grind_term_graph.specs.declared.node.Node.{Node}
use Rattle.grind_term_graph.specs.Terms.{prop, int, opening, sort_at}
use Rattle.grind_claims.specs.declared.claim.Claim.{Claim}
use Rattle.grind_claims.specs.declared.claim.Claim.TheVariants.{Holds, Fails, Absurd}
use Rattle.grind_truth_tables.specs.Tables.{truth_of, literal_truth, Follows, IsTableRule}

-- True, False, two numbers a and b (2 and 3), f(a) and f(b) (4 and 5), and a formula p, its negation and p or not p (6, 7 and 8)
abbrev nodes : List Node
nodes = opening ++ record { head = head.Const 0; sort = int; args = [] }
    ∷ record { head = head.Const 1; sort = int; args = [] }
    ∷ record { head = head.Fun 0; sort = int; args = 2 ∷ [] }
    ∷ record { head = head.Fun 0; sort = int; args = 3 ∷ [] }
    ∷ record { head = head.Const 2; sort = prop; args = [] }
    ∷ record { head = head.Not; sort = prop; args = 6 ∷ [] }
    ∷ record { head = head.Or; sort = prop; args = 6 ∷ 7 ∷ [] } ∷ []

-- p or not p, whatever p is
either_way : (truths : List Bool) → length truths ≡ 1 → Follows (truth_of nodes (6 ∷ []) truths) [] (Holds 8)
either_way [] count = absurd cc
either_way (true ∷ []) count = record { expressed = λ k d within. absurd (omega arith); concluded = refl; follows = λ all. refl }
either_way (false ∷ []) count = record { expressed = λ k d within. absurd (omega arith); concluded = refl; follows = λ all. refl }
either_way (a ∷ b ∷ rest) count = absurd cc

pub table_of_either_way : IsTableRule nodes (6 ∷ []) [] (Holds 8)
table_of_either_way = record {
  few = lit≤ tt;
  different = λ i j d before within. absurd (omega arith);
  formulas = All-cons (λ n. sort_at nodes n ≡ Some prop) 6 [] refl (All-nil (λ n. sort_at nodes n ≡ Some prop));
  always = either_way;
}

-- from p alone nothing follows of f(a), which the free formula p does not express
pub table_of_a_number : IsTableRule nodes (6 ∷ []) (Holds 6 ∷ []) (Holds 4) → ⊥
table_of_a_number h = let concluded = (h.always (true ∷ []) refl).concluded in absurd cc

-- p is false
abbrev truth : ℕ → Option Bool
truth = truth_of nodes (6 ∷ []) (false ∷ [])

abbrev has_truth : Claim → Type 0
has_truth premise = IsSome (literal_truth truth premise)

-- where the negation of p fails, p holds, also where p is false
pub follows_from_double_negation : Follows truth (Fails 7 ∷ []) (Holds 6)
follows_from_double_negation = record {
  expressed = All-cons has_truth (Fails 7) [] refl (All-nil has_truth);
  concluded = refl;
  follows = λ held. let first = held 0 Absurd (lit< tt) in absurd cc;
}

-- from nothing, p does not follow where p is false
pub follows_not_from_nothing : Follows truth [] (Holds 6) → ⊥
follows_not_from_nothing h = let held = h.follows (All-nil _) in absurd cc
