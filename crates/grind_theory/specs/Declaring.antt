-- One declaration, whatever else is declared: for private contracts.
use Rattle.std.specs.Prelude.{◌≡◌, ℕ, ◌<◌, ◌≤◌, List, [], ◌∷◌, ◌++◌, length, Option, Some, None}
use Rattle.std.specs.List.{AllByRecursion}
use Rattle.grind_term_graph.specs.declared.node.Node.{Node}
use Rattle.grind_term_graph.specs.Terms.{Terms, opening as opening_nodes}
use Rattle.grind_schemes.specs.declared.scheme.Scheme.{Scheme}
use Rattle.grind_schemes.specs.Instances.{interned}
use Rattle.grind_schemes.specs.Goals.{GoalData}
use Rattle.grind_schemes.specs.Theorems.{TheoremData}
use Rattle.grind_grammar.specs.Terms.{Term, Bound, Declaration}
use Rattle.grind_signature.specs.Signatures.{SignatureData, IsHeld, IsSignature}
use Rattle.grind_resolution.specs.declared.meaning.BinderKind.{BinderKind}
use Rattle.grind_resolution.specs.Scopes.{ScopeData, Given, Gives, AreDistinct, AreApart}
use Rattle.grind_resolution.specs.Sorting.{Known, Counted}
use Rattle.grind_resolution.specs.Resolved.{StandsFor}
use Rattle.grind_theory.specs.declared.limits.LimitKind.{LimitKind}
use Rattle.grind_theory.specs.declared.theory.Fault.{Fault}
use Rattle.grind_theory.specs.declared.theory.Fault.TheVariants as faults
use Rattle.grind_theory.specs.States.{LimitsData, state_data, sort_numbers, bound_names, bound_sorts, scope_of}
use Rattle.grind_annotations.specs.Asking.{IsFormulaTerm}
use Rattle.grind_annotations.specs.Giving.{StandForEach}
use Rattle.grind_theory.specs.Faults.{AreNewAfter, AreSorts, interned_each, most_nodes, FaultOf}
use Rattle.grind_theory.specs.Theories.{Takes}

-- under the signature, the declaration has this fault whatever else is declared
abbrev pub HasFault : SignatureData → Declaration → Fault → Type 0
HasFault s d fault =
    (theorems : List TheoremData) (limits : LimitsData) (set : List LimitKind) (goals : List GoalData)
    → FaultOf (state_data s theorems limits set goals) d fault

-- it leads from the one signature to the other, and leaves the rest as it is
abbrev pub IsAdded : SignatureData → Declaration → SignatureData → Type 0
IsAdded s d t =
    (theorems : List TheoremData) (limits : LimitsData) (set : List LimitKind) (goals : List GoalData)
    → Takes (state_data s theorems limits set goals) d (state_data t theorems limits set goals)

-- with these limits, of which these are set, the declaration has this fault whatever else is declared
abbrev pub HasLimitFault : LimitsData → List LimitKind → Declaration → Fault → Type 0
HasLimitFault limits set d fault =
    (s : SignatureData) (theorems : List TheoremData) (goals : List GoalData) → FaultOf (state_data s theorems limits set goals) d fault

-- it leads from the one limits to the other, and leaves the rest as it is
abbrev pub IsLimitAdded : LimitsData → List LimitKind → Declaration → LimitsData → List LimitKind → Type 0
IsLimitAdded limits set d other_limits other_set =
    (s : SignatureData) (theorems : List TheoremData) (goals : List GoalData)
    → Takes (state_data s theorems limits set goals) d (state_data s theorems other_limits other_set goals)

-- what a look-up of sorts finds: the number of each, or nothing exactly where one is not declared
abbrev pub SortsFound : SignatureData → List (List ℕ) → Option (List ℕ) → Type 0
SortsFound s names None = ¬ AreSorts s names
SortsFound s names (Some sorts) = AreSorts s names × (sorts ≡ sort_numbers s names)

-- what is made of binders: their scope, or nothing exactly where a sort is not declared
abbrev pub ScopeFound : BinderKind → SignatureData → List Bound → Option ScopeData → Type 0
ScopeFound kind s bounds None = ¬ AreSorts s (bound_sorts bounds)
ScopeFound kind s bounds (Some scope) = AreSorts s (bound_sorts bounds) × (scope ≡ scope_of kind s bounds)

-- the fault of formulas, by what names stand for, or none: unknown names, wrong numbers of arguments, wrong sorts
abbrev pub FaultOfFormulas : (List ℕ → Given → Type 0) → List Term → Term → Option Fault → Type 0
FaultOfFormulas gives hyps show None =
    (AllByRecursion (Known gives) hyps × Known gives show) × (AllByRecursion (Counted gives) hyps × Counted gives show)
    × (AllByRecursion (IsFormulaTerm gives) hyps × IsFormulaTerm gives show)
FaultOfFormulas gives hyps show (Some faults.Unknown) = ¬ (AllByRecursion (Known gives) hyps × Known gives show)
FaultOfFormulas gives hyps show (Some faults.Arity) =
    (AllByRecursion (Known gives) hyps × Known gives show) × ¬ (AllByRecursion (Counted gives) hyps × Counted gives show)
FaultOfFormulas gives hyps show (Some faults.Sort) =
    (AllByRecursion (Known gives) hyps × Known gives show) × (AllByRecursion (Counted gives) hyps × Counted gives show)
    × ¬ (AllByRecursion (IsFormulaTerm gives) hyps × IsFormulaTerm gives show)
FaultOfFormulas gives hyps show (Some faults.Duplicate) = ⊥
FaultOfFormulas gives hyps show (Some faults.Pattern) = ⊥
FaultOfFormulas gives hyps show (Some faults.Size) = ⊥

-- the term is put among the nodes
abbrev pub IsPutAs : (List ℕ → Given → Type 0) → Term → List Node → List Node → ℕ → Type 0
IsPutAs gives t before after id =
    (scheme : Scheme) × StandsFor gives t scheme × ◌≡◌ {A = List Node × ℕ} (after, id) (interned before [] scheme)

-- and more nodes are needed than the limit allows
abbrev pub IsOver : (List ℕ → Given → Type 0) → Term → ℕ → List Node → Type 0
IsOver gives t limit before = (scheme : Scheme) → StandsFor gives t scheme → limit < length (interned before [] scheme).0

-- the terms are put among the nodes, one after another
abbrev pub ArePutAs : (List ℕ → Given → Type 0) → List Term → List Node → List Node → List ℕ → Type 0
ArePutAs gives terms before after ids =
    (schemes : List Scheme) × StandForEach gives terms schemes
    × ◌≡◌ {A = List Node × List ℕ} (after, ids) (interned_each before schemes)

-- and more nodes are needed than the limit allows
abbrev pub AreOver : (List ℕ → Given → Type 0) → List Term → ℕ → List Node → Type 0
AreOver gives terms limit before =
    (schemes : List Scheme) → StandForEach gives terms schemes → limit < length (interned_each before schemes).0

-- the table holds the hypotheses and then the conclusion
abbrev pub AreGoalTerms : (List ℕ → Given → Type 0) → List Term → Term → Terms → List ℕ → ℕ → Type 0
AreGoalTerms gives hyps show terms ids id =
    (mid : List Node) × ArePutAs gives hyps opening_nodes mid ids × IsPutAs gives show mid terms.nodes id
    × (terms.limit ≡ most_nodes)

-- no table of so many nodes holds them
abbrev pub AreTooMany : (List ℕ → Given → Type 0) → List Term → Term → Type 0
AreTooMany gives hyps show =
    (schemes : List Scheme) (last : Scheme) → StandForEach gives hyps schemes → StandsFor gives show last
    → most_nodes < length (interned (interned_each opening_nodes schemes).0 [] last).0

-- under the signature the declaration adds this goal, and its name as a label
abbrev pub IsGoalAdded : SignatureData → Declaration → SignatureData → GoalData → Type 0
IsGoalAdded s d t goal =
    (theorems : List TheoremData) (limits : LimitsData) (set : List LimitKind) (goals : List GoalData)
    → Takes (state_data s theorems limits set goals) d (state_data t theorems limits set (goals ++ goal ∷ []))

-- the fault of a name and its binders, if there is one: a name that is not new, or a sort that is not declared
abbrev pub FaultOfBinders : SignatureData → List ℕ → List Bound → Fault → Type 0
FaultOfBinders s name bounds faults.Duplicate = ¬ (¬ IsHeld s name × AreNewAfter s [] (bound_names bounds))
FaultOfBinders s name bounds faults.Unknown =
    (¬ IsHeld s name × AreNewAfter s [] (bound_names bounds)) × ¬ AreSorts s (bound_sorts bounds)
FaultOfBinders s name bounds faults.Arity = ⊥
FaultOfBinders s name bounds faults.Sort = ⊥
FaultOfBinders s name bounds faults.Pattern = ⊥
FaultOfBinders s name bounds faults.Size = ⊥

-- the scope of binders that have no such fault
pub record IsOpened (kind : BinderKind) (s : SignatureData) (name : List ℕ) (bounds : List Bound) (scope : ScopeData) : Type 0 where
  pub fresh : ¬ IsHeld s name × AreNewAfter s [] (bound_names bounds)
  pub sorts : AreSorts s (bound_sorts bounds)
  pub is : scope ≡ scope_of kind s bounds
  pub keeps : IsSignature s
  pub distinct : AreDistinct scope
  pub apart : AreApart s scope

-- the goal of a name, a scope and formulas
pub record IsGoalIn (s : SignatureData) (name : List ℕ) (scope : ScopeData) (hyps : List Term) (show : Term) (goal : GoalData) : Type 0 where
  pub name_is : goal.name ≡ name
  pub constants_are : goal.constants ≡ scope.binders
  pub terms : AreGoalTerms (Gives s scope) hyps show goal.terms goal.hyps goal.show
  pub small : length goal.terms.nodes ≤ most_nodes

-- under the signature the declaration adds this theorem, and its name as a label
abbrev pub IsTheoremAdded : SignatureData → Declaration → SignatureData → TheoremData → Type 0
IsTheoremAdded s d t theorem =
    (theorems : List TheoremData) (limits : LimitsData) (set : List LimitKind) (goals : List GoalData)
    → Takes (state_data s theorems limits set goals) d (state_data t (theorems ++ theorem ∷ []) limits set goals)

-- a goal is taken, and a theorem, whatever else is declared
abbrev pub IsGoalTaken : SignatureData → List GoalData → Declaration → SignatureData → List GoalData → Type 0
IsGoalTaken s goals d t more =
    (theorems : List TheoremData) (limits : LimitsData) (set : List LimitKind)
    → Takes (state_data s theorems limits set goals) d (state_data t theorems limits set more)

abbrev pub IsTheoremTaken : SignatureData → List TheoremData → Declaration → SignatureData → List TheoremData → Type 0
IsTheoremTaken s theorems d t more =
    (limits : LimitsData) (set : List LimitKind) (goals : List GoalData)
    → Takes (state_data s theorems limits set goals) d (state_data t more limits set goals)
