-- What schemes become among nodes, one after the other.
use Rattle.std.specs.Prelude.{ℕ, List, [], ◌∷◌, All}
use Rattle.grind_term_graph.specs.declared.head.Head.{Head}
use Rattle.grind_term_graph.specs.Placed.{placed}
use Rattle.grind_term_graph.specs.declared.node.Node.{Node}
use Rattle.grind_schemes.specs.declared.scheme.Scheme.{Scheme}
use Rattle.grind_schemes.specs.Schemes.{IsScheme}
use Rattle.grind_schemes.specs.Instances.{node_of, interned, IsSubstitution}

-- the nodes once the schemes are put among them, and the numbers of their nodes
unfoldable pub interned_list : List Node → List ℕ → List Scheme → List Node × List ℕ
interned_list nodes subst [] = (nodes, [])
interned_list nodes subst (first ∷ rest) =
    let one = interned nodes subst first in
    let others = interned_list one.0 subst rest in (others.0, one.1 ∷ others.1)

-- a head at these schemes, put among the nodes
unfoldable pub interned_at : List Node → List ℕ → Head → ℕ → List Scheme → List Node × ℕ
interned_at nodes subst head sort schemes =
    let done = interned_list nodes subst schemes in placed done.0 (node_of head sort done.1)

-- each of the schemes is well formed over variables for which the substitution has nodes
abbrev pub SuitsEach : List Node → List ℕ → List Scheme → Type 0
SuitsEach nodes subst schemes = (vars : List ℕ) × IsSubstitution nodes vars subst × All (IsScheme vars) schemes
