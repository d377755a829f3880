use Rattle.std.specs.Prelude.{ℕ, ◌++◌, ◌∷◌, [], Contains, List, refl}
use Rattle.std.proofs.Common.{ap, ◌∙◌, subst, inl, inr}
use Rattle.grind_term_graph.specs.declared.node.Node.{Node}
use Rattle.grind_congruence.proofs.TableLemmas.{entered_last}
use Rattle.grind_congruence.proofs.keys.Keys.enter.Goals as goal

pub returns-in-Some-clause-ok : goal.returns-in-Some-clause-ok
returns-in-Some-clause-ok c = inl (refl, c.in-Some.ensures)

pub returns-clause-ok : goal.returns-clause-ok
returns-clause-ok c =
    inr (
      refl,
      c.in_default.ensures,
      c.in_ok-insert.ensures.entries ∙ entered_last c.self.inside.map.entries c.args.key c.args.n
          (λ m has. c.in_default.ensures m (subst (λ (es : List (Node × ℕ)). Contains es (c.args.key, m)) c.self.view_is has))
          ∙ ap (λ (es : List (Node × ℕ)). es ++ (c.args.key, c.args.n) ∷ []) c.self.view_is,
    )
