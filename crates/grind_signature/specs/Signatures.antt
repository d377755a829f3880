-- The names that a theory declares, and what they stand for.
use Rattle.std.specs.Prelude.{◌≡◌, ◌≢◌, ℕ, ◌<◌, ◌≤◌, List, [], ◌∷◌, ◌++◌, length, map, Some, slice_get, Contains, ◌⊎◌, All, codes}
use Rattle.std.specs.List.{AllPairs}
use Rattle.grind_term_graph.specs.declared.node.Node.{Node}
use Rattle.grind_term_graph.specs.declared.head.Head.{Head}
use Rattle.grind_term_graph.specs.declared.head.Head.TheVariants as heads
use Rattle.grind_term_graph.specs.Terms.{sort_at}
use Rattle.grind_schemes.specs.declared.goal.Constant.{Constant}
use Rattle.grind_schemes.specs.Labels.{IsLabel}

-- a declared function: the sorts of its arguments, and its own
pub record Function : Type 0 where
  pub name : List ℕ
  pub args : List ℕ
  pub result : ℕ

-- the declared names: of sorts, numbered in order, of functions, numbered in order, and of goals and theorems
pub record SignatureData : Type 0 where
  pub sorts : List (List ℕ)
  pub functions : List Function
  pub labels : List (List ℕ)

-- the signature of these names
abbrev pub signature_data : List (List ℕ) → List Function → List (List ℕ) → SignatureData
signature_data sorts functions labels = record { sorts = sorts; functions = functions; labels = labels }

-- a signature before the first declaration: the sorts 0 and 1 are Prop and Int
abbrev pub opening : SignatureData
opening = record { sorts = codes "Prop" ∷ codes "Int" ∷ []; functions = []; labels = [] }

-- the names of the functions
abbrev pub function_names : List Function → List (List ℕ)
function_names functions = map (λ (f : Function). f.name) functions

-- the name is that of a sort, a function or a label
abbrev pub IsHeld : SignatureData → List ℕ → Type 0
IsHeld s name = Contains s.sorts name ⊎ (Contains (function_names s.functions) name ⊎ Contains s.labels name)

-- the signature with one more sort, one more function, one more label
abbrev pub with_sort : SignatureData → List ℕ → SignatureData
with_sort s name = record { sorts = s.sorts ++ name ∷ []; functions = s.functions; labels = s.labels }

abbrev pub with_function : SignatureData → Function → SignatureData
with_function s f = record { sorts = s.sorts; functions = s.functions ++ f ∷ []; labels = s.labels }

abbrev pub with_label : SignatureData → List ℕ → SignatureData
with_label s name = record { sorts = s.sorts; functions = s.functions; labels = s.labels ++ name ∷ [] }

-- the sorts of a function are declared, and it has at most 16 arguments
pub record IsFunctionOver (sorts : ℕ) (f : Function) : Type 0 where
  pub args : All (λ s. s < sorts) f.args
  pub result : f.result < sorts
  pub few : length f.args ≤ 16

-- what every signature keeps: a name stands for one thing alone and is a label, and functions are over declared sorts
pub record IsSignature (s : SignatureData) : Type 0 where
  pub sorts_differ : AllPairs (λ a b. a ≢ b) s.sorts
  pub functions_differ : AllPairs (λ a b. a ≢ b) (function_names s.functions)
  pub labels_differ : AllPairs (λ a b. a ≢ b) s.labels
  pub sort_no_function : (name : List ℕ) → Contains s.sorts name → ¬ Contains (function_names s.functions) name
  pub sort_no_label : (name : List ℕ) → Contains s.sorts name → ¬ Contains s.labels name
  pub function_no_label : (name : List ℕ) → Contains (function_names s.functions) name → ¬ Contains s.labels name
  pub sorts : All IsLabel s.sorts
  pub functions : All IsLabel (function_names s.functions)
  pub labels : All IsLabel s.labels
  pub arities : All (IsFunctionOver (length s.sorts)) s.functions

-- what a node says is declared: its function or constant, with its sorts. The other heads need no declaration
abbrev pub IsDeclaredAs : SignatureData → List Constant → List Node → Node → Head → Type 0
IsDeclaredAs s constants nodes node heads.True = Unit {0}
IsDeclaredAs s constants nodes node heads.False = Unit {0}
IsDeclaredAs s constants nodes node heads.Eq = Unit {0}
IsDeclaredAs s constants nodes node (heads.Const c) =
    (k : Constant) × (slice_get constants c ≡ Some k) × (node.sort ≡ k.sort)
IsDeclaredAs s constants nodes node (heads.Fun f) =
    (g : Function) × (slice_get s.functions f ≡ Some g) × (node.sort ≡ g.result)
    × (map (sort_at nodes) node.args ≡ map Some g.args)
IsDeclaredAs s constants nodes node heads.Not = Unit {0}
IsDeclaredAs s constants nodes node heads.And = Unit {0}
IsDeclaredAs s constants nodes node heads.Or = Unit {0}
IsDeclaredAs s constants nodes node heads.Implies = Unit {0}
IsDeclaredAs s constants nodes node heads.Le = Unit {0}
IsDeclaredAs s constants nodes node (heads.Int n) = Unit {0}
IsDeclaredAs s constants nodes node heads.Add = Unit {0}
IsDeclaredAs s constants nodes node heads.Neg = Unit {0}
IsDeclaredAs s constants nodes node heads.Mul = Unit {0}

abbrev pub IsDeclared : SignatureData → List Constant → List Node → Node → Type 0
IsDeclared s constants nodes node = IsDeclaredAs s constants nodes node node.head
