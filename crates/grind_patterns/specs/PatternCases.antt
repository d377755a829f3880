-- Worked cases: what annotations choose and what walks take.
use Rattle.std.specs.Prelude.{◌≡◌, ◌⊎◌, ℕ, List, [], ◌∷◌, ◌++◌, Option, Some, None, Vec, refl}
use Rattle.std.specs.Global.{Global}
use Rattle.std.proofs.Common.{inl, inr, sym, subst, ◌∙◌}
use Rattle.grind_term_graph.specs.Terms.{prop}
use Rattle.grind_term_graph.specs.declared.head.Head.{Head}
use Rattle.grind_term_graph.specs.declared.head.Head.TheVariants.{Eq, Fun}
use Rattle.grind_schemes.specs.declared.scheme.Scheme.{Scheme, Var, Apply, Apply', items_hidden-the_row-Scheme-0}
use Rattle.grind_patterns.specs.declared.kind.Kind.TheVariants.{Left, Hyps}
use Rattle.grind_patterns.specs.Patterns.{IsPatternTerm, HasUncovered, Walks, conclusion_or, conclusion_of, conclusion_of_row, IsEquation, Chooses}

equation_stays : (behind : Option Scheme) (whole : Scheme) → conclusion_or Eq behind whole ≡ whole
equation_stays None whole = refl
equation_stays (Some other) whole = refl

-- headed by the sign of equality
abbrev IsHeadedByEq : Scheme → Type 0
IsHeadedByEq (Var number) = ⊥
IsHeadedByEq (Apply' head sort shape args) = head ≡ Eq

-- an equation is its own conclusion
own_conclusion : (scheme : Scheme) → IsHeadedByEq scheme → conclusion_of scheme ≡ scheme
own_conclusion (Var number) h = absurd h
own_conclusion (Apply' head sort shape args) h =
    let whole = Apply' head sort shape args in
    subst (λ (k : Head). conclusion_or k (conclusion_of_row args) whole ≡ whole) (sym h)
    (equation_stays (conclusion_of_row args) whole)

-- of `g(f(x)) = x` the left side is chosen, `g(f(x))`
pub left_is_chosen : (f g sort : ℕ) (inner outer sides : Vec Scheme Global)
    → inner.items ≡ Var 0 ∷ [] → outer.items ≡ Apply (Fun f) sort inner ∷ []
    → sides.items ≡ Apply (Fun g) sort outer ∷ Var 0 ∷ []
    → Chooses (Apply Eq prop sides) Left (Apply (Fun g) sort outer ∷ [])
left_is_chosen f g sort inner outer sides x fx parts = (
  Apply (Fun g) sort outer,
  Var 0,
  subst (IsEquation (Apply (Fun g) sort outer) (Var 0)) (sym (own_conclusion (Apply Eq prop sides) refl))
      (refl, items_hidden-the_row-Scheme-0 sides ∙ parts),
  refl,
)

-- an equation has no hypotheses, so a walk over them chooses nothing
pub no_hypothesis_to_walk : (sides : Vec Scheme Global) (chosen : List Scheme) → ¬ Chooses (Apply Eq prop sides) Hyps chosen
no_hypothesis_to_walk sides chosen h = h.0 refl

-- a walk that takes a pattern term takes nothing inside it
pub takes_it_alone : (before after : List Scheme) (f sort : ℕ) (args : Vec Scheme Global)
    → IsPatternTerm (Apply (Fun f) sort args) → HasUncovered before (Apply (Fun f) sort args)
    → Walks before (Apply (Fun f) sort args) after → after ≡ before ++ Apply (Fun f) sort args ∷ []
takes_it_alone before after f sort args pattern uncovered (inl takes) = alone takes.1
  where
    alone : (HasUncovered before (Apply (Fun f) sort args) × (after ≡ before ++ Apply (Fun f) sort args ∷ []))
        ⊎ (¬ HasUncovered before (Apply (Fun f) sort args) × (after ≡ before))
        → after ≡ before ++ Apply (Fun f) sort args ∷ []
    alone (inl h) = h.1
    alone (inr h) = absurd (h.0 uncovered)
takes_it_alone before after f sort args pattern uncovered (inr inside) = absurd (inside.0 pattern)

-- and one that does not take it goes not inside it either
pub leaves_it_alone : (before after : List Scheme) (f sort : ℕ) (args : Vec Scheme Global)
    → IsPatternTerm (Apply (Fun f) sort args) → ¬ HasUncovered before (Apply (Fun f) sort args)
    → Walks before (Apply (Fun f) sort args) after → after ≡ before
leaves_it_alone before after f sort args pattern covered (inl takes) = alone takes.1
  where
    alone : (HasUncovered before (Apply (Fun f) sort args) × (after ≡ before ++ Apply (Fun f) sort args ∷ []))
        ⊎ (¬ HasUncovered before (Apply (Fun f) sort args) × (after ≡ before)) → after ≡ before
    alone (inl h) = absurd (covered h.0)
    alone (inr h) = h.1
leaves_it_alone before after f sort args pattern covered (inr inside) = absurd (inside.0 pattern)
