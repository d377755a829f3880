-- A scheme by the items of its arguments.
use Rattle.std.specs.Prelude.{◌↔◌, ℕ, List, All, Any, Vec, map}
use Rattle.std.specs.Global.{Global}
use Rattle.grind_term_graph.specs.declared.head.Head.{Head}
use Rattle.grind_term_graph.specs.Shape.{IsShaped}
use Rattle.grind_schemes.specs.declared.scheme.Scheme.{Scheme, Apply}
use Rattle.grind_schemes.specs.Schemes.{scheme_sort, IsScheme, HasVar}

-- a head at its arguments is well formed exactly where they are, and it asks for arguments of their sorts
abbrev pub FormedByArguments : Type 0
FormedByArguments =
    (vars : List ℕ) (head : Head) (sort : ℕ) (args : Vec Scheme Global) →
    IsScheme vars (Apply head sort args) ↔
    (IsShaped head sort (map (scheme_sort vars) args.items) × All (IsScheme vars) args.items)

-- a variable stands in a head at its arguments exactly where it stands in one of them
abbrev pub VariablesByArguments : Type 0
VariablesByArguments =
    (variable : ℕ) (head : Head) (sort : ℕ) (args : Vec Scheme Global) →
    HasVar variable (Apply head sort args) ↔ Any (HasVar variable) args.items
