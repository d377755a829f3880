-- What nodes are to several schemes.
use Rattle.std.specs.Prelude.{ℕ, List, [], ◌∷◌, ⊤}
use Rattle.grind_term_graph.specs.declared.node.Node.{Node}
use Rattle.grind_schemes.specs.declared.scheme.Scheme.{Scheme}
use Rattle.grind_schemes.specs.Instances.{IsInstance}

-- the nodes are the schemes, one by one, with the nodes of the substitution for their variables
abbrev pub AreInstancesOf : List Node → List ℕ → List Scheme → List ℕ → Type 0
AreInstancesOf nodes subst [] [] = ⊤
AreInstancesOf nodes subst [] (id ∷ ids) = ⊥
AreInstancesOf nodes subst (scheme ∷ schemes) [] = ⊥
AreInstancesOf nodes subst (scheme ∷ schemes) (id ∷ ids) =
    IsInstance nodes subst scheme id × AreInstancesOf nodes subst schemes ids
