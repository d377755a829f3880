-- Schemes whose constants and functions are declared, with the sorts that they have.
use Rattle.std.specs.Prelude.{◌≡◌, ℕ, List, Option, Some, map, slice_get}
use Rattle.grind_term_graph.specs.declared.head.Head.{Head}
use Rattle.grind_term_graph.specs.declared.head.Head.TheVariants as heads
use Rattle.grind_schemes.specs.declared.goal.Constant.{Constant}
use Rattle.grind_schemes.specs.declared.scheme.Scheme.{Scheme, Var, Apply', Row_of-Scheme, end_of-Scheme, more_of-Scheme}
use Rattle.grind_schemes.specs.Schemes.{row_sorts}
use Rattle.grind_signature.specs.Signatures.{Function, SignatureData}
use Rattle.grind_resolution.specs.declared.meaning.BinderKind.TheVariants as kinds
use Rattle.grind_resolution.specs.Scopes.{ScopeData, variable_sorts}

-- what a head of this sort says at arguments of these sorts: its constant or function is declared so. The other heads need no
-- declaration
abbrev pub IsDeclaredHead : SignatureData → ScopeData → Head → ℕ → List (Option ℕ) → Type 0
IsDeclaredHead s scope heads.True sort sorts = Unit {0}
IsDeclaredHead s scope heads.False sort sorts = Unit {0}
IsDeclaredHead s scope heads.Not sort sorts = Unit {0}
IsDeclaredHead s scope heads.And sort sorts = Unit {0}
IsDeclaredHead s scope heads.Or sort sorts = Unit {0}
IsDeclaredHead s scope heads.Implies sort sorts = Unit {0}
IsDeclaredHead s scope heads.Eq sort sorts = Unit {0}
IsDeclaredHead s scope heads.Le sort sorts = Unit {0}
IsDeclaredHead s scope (heads.Int value) sort sorts = Unit {0}
IsDeclaredHead s scope heads.Add sort sorts = Unit {0}
IsDeclaredHead s scope heads.Neg sort sorts = Unit {0}
IsDeclaredHead s scope heads.Mul sort sorts = Unit {0}
IsDeclaredHead s scope (heads.Fun f) sort sorts =
    (g : Function) × (slice_get s.functions f ≡ Some g) × (sort ≡ g.result) × (sorts ≡ map Some g.args)
IsDeclaredHead s scope (heads.Const c) sort sorts =
    (b : Constant) × (scope.kind ≡ kinds.Constant) × (slice_get scope.binders c ≡ Some b) × (sort ≡ b.sort)

abbrev mutual
  -- each constant and function of a scheme is declared, with its sorts
  pub IsDeclaredScheme : SignatureData → ScopeData → Scheme → Type 0
  IsDeclaredScheme s scope (Var i) = Unit {0}
  IsDeclaredScheme s scope (Apply' head sort shape args) =
      IsDeclaredHead s scope head sort (row_sorts (variable_sorts scope) args) × AreDeclaredSchemes s scope args

  pub AreDeclaredSchemes : {m : _} → SignatureData → ScopeData → Row_of-Scheme m → Type 0
  AreDeclaredSchemes s scope end_of-Scheme = Unit {0}
  AreDeclaredSchemes s scope (more_of-Scheme first rest) = IsDeclaredScheme s scope first × AreDeclaredSchemes s scope rest
