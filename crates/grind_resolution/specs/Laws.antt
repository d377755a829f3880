-- What follows from the definitions of this crate: each law is the contract of a call.
use Rattle.std.specs.Prelude.{◌≡◌, ℕ, List, Some}
use Rattle.grind_schemes.specs.declared.scheme.Scheme.{Scheme}
use Rattle.grind_schemes.specs.Schemes.{scheme_sort, IsScheme}
use Rattle.grind_grammar.specs.Terms.{Term}
use Rattle.grind_signature.specs.Signatures.{SignatureData, IsSignature}
use Rattle.grind_resolution.specs.Scopes.{ScopeData, variable_sorts, AreDistinct, AreApart, Given, Gives}
use Rattle.grind_resolution.specs.Sorting.{Known, Counted, HasSort}
use Rattle.grind_resolution.specs.Resolved.{StandsFor}
use Rattle.grind_resolution.specs.DeclaredSchemes.{IsDeclaredScheme}
use Rattle.grind_resolution.specs.Same.{AreSame}

-- a name stands for one thing at most
abbrev pub IsSingle : (List ℕ → Given → Type 0) → Type 0
IsSingle gives = (name : List ℕ) (a b : Given) → gives name a → gives name b → a ≡ b

-- under binders of names of their own that the signature does not hold, a name stands for one thing at most
abbrev pub OneMeaning : Type 0
OneMeaning =
    (s : SignatureData) (scope : ScopeData) → IsSignature s → AreDistinct scope → AreApart s scope → IsSingle (Gives s scope)

-- what has a sort is known and counted
abbrev pub KnownBeforeSorted : SignatureData → ScopeData → Type 0
KnownBeforeSorted s scope =
    (t : Term) (sort : ℕ) → HasSort (Gives s scope) t sort → Known (Gives s scope) t × Counted (Gives s scope) t

abbrev pub SortedIsCounted : Type 0
SortedIsCounted = (s : SignatureData) (scope : ScopeData) → KnownBeforeSorted s scope

-- a term has one sort at most
abbrev pub OneSort : Type 0
OneSort =
    (s : SignatureData) (scope : ScopeData) → IsSingle (Gives s scope) → (t : Term) (a b : ℕ)
    → HasSort (Gives s scope) t a → HasSort (Gives s scope) t b → a ≡ b

-- a term stands for one scheme at most
abbrev pub OneScheme : Type 0
OneScheme =
    (s : SignatureData) (scope : ScopeData) → IsSingle (Gives s scope) → (t : Term) (a b : Scheme)
    → StandsFor (Gives s scope) t a → StandsFor (Gives s scope) t b → AreSame a b

-- the scheme of a term of a sort is well formed over the variables, and has that sort
abbrev pub SchemesAreFormed : Type 0
SchemesAreFormed =
    (s : SignatureData) (scope : ScopeData) → IsSignature s → IsSingle (Gives s scope)
    → (t : Term) (sort : ℕ) (scheme : Scheme) → HasSort (Gives s scope) t sort → StandsFor (Gives s scope) t scheme
    → IsScheme (variable_sorts scope) scheme × (scheme_sort (variable_sorts scope) scheme ≡ Some sort)

-- and each of its constants and functions is declared, with the sorts that it has
abbrev pub SchemesAreDeclared : Type 0
SchemesAreDeclared =
    (s : SignatureData) (scope : ScopeData) → IsSignature s → IsSingle (Gives s scope)
    → (t : Term) (sort : ℕ) (scheme : Scheme) → HasSort (Gives s scope) t sort → StandsFor (Gives s scope) t scheme
    → IsDeclaredScheme s scope scheme
