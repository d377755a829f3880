-- Functions, from the names and the arities that the code keeps.
use Rattle.std.specs.Prelude.{ℕ, List, [], ◌∷◌}
use Rattle.grind_signature.specs.declared.fun_table.Arity.{Arity}
use Rattle.grind_signature.specs.Signatures.{Function}

-- the functions of these names, with these sorts
abbrev pub functions_of : List (List ℕ) → List Arity → List Function
functions_of [] arities = []
functions_of (name ∷ names) [] = []
functions_of (name ∷ names) (a ∷ arities) = record { name = name; args = a.args; result = a.result } ∷ functions_of names arities
