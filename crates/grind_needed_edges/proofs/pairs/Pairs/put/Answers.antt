use Rattle.std.specs.Prelude.{ℕ, ◌++◌, ◌∷◌, [], Contains, List}
use Rattle.std.proofs.Common.{ap, ◌∙◌, subst}
use Rattle.grind_needed_edges.specs.declared.pairs.Pair.{Pair}
use Rattle.grind_needed_edges.specs.Numbered.{pair_of}
use Rattle.grind_needed_edges.proofs.PairLemmas.{entered_last}
use Rattle.grind_needed_edges.proofs.pairs.Pairs.put.Goals as goal

pub returns-clause-ok : goal.returns-clause-ok
returns-clause-ok c =
    c.in_ok-insert.ensures.entries ∙ entered_last c.self.inside.map.entries (pair_of c.args.a c.args.b) c.args.number
    (λ m has. c.requires m (subst (λ (es : List (Pair × ℕ)). Contains es (pair_of c.args.a c.args.b, m)) c.self.view_is has))
    ∙ ap (λ (es : List (Pair × ℕ)). es ++ (pair_of c.args.a c.args.b, c.args.number) ∷ []) c.self.view_is
