-- Worked cases: the terms `true`, `false`, a constant, a function of it, and the equation of that with itself.
use Rattle.std.specs.Prelude.{◌≡◌, ℕ, zero, suc, List, [], ◌∷◌, Some, map, slice_get, ℤ, pos, refl}
use Rattle.std.proofs.Common.{inl, inr, ap, sym, ◌∙◌, subst, arith}
use Rattle.std.proofs.lemmas.Option.{same_Some, none-some}
use Rattle.grind_term_graph.specs.declared.head.Head.{Head}
use Rattle.grind_term_graph.specs.declared.head.Head.TheVariants as head
use Rattle.grind_term_graph.specs.declared.node.Node.{Node}
use Rattle.grind_term_graph.specs.Terms.{prop}
use Rattle.grind_value_tables.specs.Respects.{Means, IsTruthValue, Respects}
use Rattle.grind_value_tables.specs.Overflows.{value_of}

-- a term of that head, sort and arguments
abbrev term : Head → ℕ → List ℕ → Node
term its_head sort args = record { head = its_head; sort = sort; args = args }

-- `true`, `false`, a constant of sort 2, a function of it, and `f(a) = f(a)`
abbrev pub terms : List Node
terms = term head.True 0 [] ∷ term head.False 0 [] ∷ term (head.Const 0) 2 [] ∷ term (head.Fun 0) 2 (2 ∷ [])
    ∷ term head.Eq 0 (3 ∷ 3 ∷ []) ∷ []

-- these five values, the last as it is given
abbrev pub with_last : ℤ → ℕ → ℤ
with_last last = value_of (pos 1 ∷ pos 0 ∷ pos 7 ∷ pos 7 ∷ last ∷ [])

-- what holds of each of the five holds of every node of them
each : (P : ℕ → Node → Type 0) → P 0 (term head.True 0 []) → P 1 (term head.False 0 []) → P 2 (term (head.Const 0) 2 [])
    → P 3 (term (head.Fun 0) 2 (2 ∷ [])) → P 4 (term head.Eq 0 (3 ∷ 3 ∷ []))
    → (n : ℕ) (node : Node) → slice_get terms n ≡ Some node → P n node
each P a b c d e zero node is = subst (P 0) (same_Some _ _ is) a
each P a b c d e (suc zero) node is = subst (P 1) (same_Some _ _ is) b
each P a b c d e (suc (suc zero)) node is = subst (P 2) (same_Some _ _ is) c
each P a b c d e (suc (suc (suc zero))) node is = subst (P 3) (same_Some _ _ is) d
each P a b c d e (suc (suc (suc (suc zero)))) node is = subst (P 4) (same_Some _ _ is) e
each P a b c d e (suc (suc (suc (suc (suc n))))) node is = absurd (none-some node is)

-- node 3 alone applies a function
application : (n : ℕ) (node : Node) → slice_get terms n ≡ Some node → (function : ℕ) → node.head ≡ head.Fun function → n ≡ 3
application = each (λ n node. (function : ℕ) → node.head ≡ head.Fun function → n ≡ 3)
    (λ f e. absurd cc) (λ f e. absurd cc) (λ f e. absurd cc) (λ f e. refl) (λ f e. absurd cc)

-- the values 1, 0, 7, 7 and 1 respect the five
pub equal_sides_are_true : Respects terms (with_last (pos 1))
equal_sides_are_true = record {
  heads = each (λ n node. Means node.head (map (with_last (pos 1)) node.args) (with_last (pos 1) n))
      refl refl tt tt (λ _. refl, λ _. refl);
  formulas = each (λ n node. node.sort ≡ prop → IsTruthValue (with_last (pos 1) n))
      (λ _. inr refl) (λ _. inl refl) (λ e. absurd (omega arith)) (λ e. absurd (omega arith)) (λ _. inr refl);
  functions = λ m n one other is also same.
      ap (with_last (pos 1)) (application m one is same.0 same.1 ∙ sym (application n other also same.0 same.2));
}

-- with the last value 0 they don't: the sides of the equation have one value
pub equal_sides_are_not_false : Respects terms (with_last (pos 0)) → ⊥
equal_sides_are_not_false respects =
    let no : pos 0 ≡ pos 1 = (respects.heads 4 (term head.Eq 0 (3 ∷ 3 ∷ [])) refl).1 refl in absurd cc
