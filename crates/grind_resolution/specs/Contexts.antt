-- What the names of a declaration stand for.
use Rattle.std.specs.Prelude.{ℕ, List}
use Rattle.grind_resolution.specs.declared.context.Context.{Context}
use Rattle.grind_resolution.specs.Scopes.{Given, Gives}

-- in this context, the name stands for this
abbrev pub gives_in : Context → List ℕ → Given → Type 0
gives_in context = Gives context.signature.now context.scope.now
