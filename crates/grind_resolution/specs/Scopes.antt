-- The binders in force, and what a name stands for under a signature.
use Rattle.std.specs.Prelude.{◌≡◌, ◌≢◌, ℕ, ◌⊎◌, List, [], map, Contains, Some, slice_get}
use Rattle.std.specs.List.{AllPairs}
use Rattle.grind_term_graph.specs.declared.head.Head.TheVariants as heads
use Rattle.grind_schemes.specs.declared.goal.Constant.{Constant}
use Rattle.grind_signature.specs.Signatures.{Function, SignatureData, IsHeld}
use Rattle.grind_resolution.specs.declared.meaning.BinderKind.{BinderKind}
use Rattle.grind_resolution.specs.declared.meaning.BinderKind.TheVariants as kinds
use Rattle.grind_resolution.specs.declared.meaning.Meaning.{Meaning}
use Rattle.grind_resolution.specs.declared.meaning.Meaning.TheVariants as meanings

-- the binders in force, in order, each with its name and sort: the constants of a goal or the variables of a theorem
pub record ScopeData : Type 0 where
  pub kind : BinderKind
  pub binders : List Constant

-- the scope of these binders
abbrev pub scope_data : BinderKind → List Constant → ScopeData
scope_data kind binders = record { kind = kind; binders = binders }

-- the names of binders, and their sorts
abbrev pub binder_names : List Constant → List (List ℕ)
binder_names binders = map (λ (b : Constant). b.name) binders

abbrev pub binder_sorts : List Constant → List ℕ
binder_sorts binders = map (λ (b : Constant). b.sort) binders

-- the sorts of the variables: a goal has none
abbrev pub sorts_of_variables : BinderKind → List Constant → List ℕ
sorts_of_variables kinds.Constant binders = []
sorts_of_variables kinds.Variable binders = binder_sorts binders

abbrev pub variable_sorts : ScopeData → List ℕ
variable_sorts scope = sorts_of_variables scope.kind scope.binders

-- no two binders have one name
abbrev pub AreDistinct : ScopeData → Type 0
AreDistinct scope = AllPairs (λ a b. a ≢ b) (binder_names scope.binders)

-- no binder has a name that the signature holds
abbrev pub AreApart : SignatureData → ScopeData → Type 0
AreApart s scope = (name : List ℕ) → Contains (binder_names scope.binders) name → ¬ IsHeld s name

-- what a name stands for: a variable or a head, the sorts of its arguments, and the sort of the whole
pub record Given : Type 0 where
  pub meaning : Meaning
  pub args : List ℕ
  pub sort : ℕ

-- what a name of these parts stands for
abbrev pub given_data : Meaning → List ℕ → ℕ → Given
given_data meaning args sort = record { meaning = meaning; args = args; sort = sort }

-- binder number i
abbrev pub binder_meaning : BinderKind → ℕ → Meaning
binder_meaning kinds.Constant i = meanings.Headed (heads.Const i)
binder_meaning kinds.Variable i = meanings.Variable i

-- the name is that of a binder, which has no arguments
abbrev pub GivesBinder : ScopeData → List ℕ → Given → Type 0
GivesBinder scope name given =
    (i : ℕ) × (b : Constant) × (slice_get scope.binders i ≡ Some b) × (b.name ≡ name)
    × (given ≡ given_data (binder_meaning scope.kind i) [] b.sort)

-- the name is that of a declared function
abbrev pub GivesFunction : SignatureData → List ℕ → Given → Type 0
GivesFunction s name given =
    (f : ℕ) × (g : Function) × (slice_get s.functions f ≡ Some g) × (g.name ≡ name)
    × (given ≡ given_data (meanings.Headed (heads.Fun f)) g.args g.result)

-- the name stands for this
abbrev pub Gives : SignatureData → ScopeData → List ℕ → Given → Type 0
Gives s scope name given = GivesBinder scope name given ⊎ GivesFunction s name given

-- the name stands for this, and for nothing else
abbrev pub IsOnly : (List ℕ → Given → Type 0) → List ℕ → Given → Type 0
IsOnly gives name given = gives name given × ((other : Given) → gives name other → other ≡ given)

-- the name stands for nothing
abbrev pub IsUnknown : (List ℕ → Given → Type 0) → List ℕ → Type 0
IsUnknown gives name = (given : Given) → gives name given → ⊥
