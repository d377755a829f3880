-- What is asked of a declaration, one thing for each fault, and which fault a declaration has.
use Rattle.std.specs.Prelude.{◌≡◌, ◌≢◌, ◌↔◌, ℕ, pos, ◌<◌, ◌≤◌, ◌+◌, List, [], ◌∷◌, ◌++◌, length, Contains}
use Rattle.std.specs.List.{AllByRecursion}
use Rattle.grind_term_graph.specs.declared.node.Node.{Node}
use Rattle.grind_term_graph.specs.Terms.{prop, opening as opening_nodes}
use Rattle.grind_schemes.specs.declared.scheme.Scheme.{Scheme}
use Rattle.grind_schemes.specs.Goals.{GoalData}
use Rattle.grind_schemes.specs.Instances.{interned}
use Rattle.grind_grammar.specs.Terms.{Term, Bound, Annotation, Declaration, Sort, Fun, Theorem, Goal, Limit}
use Rattle.grind_signature.specs.Signatures.{SignatureData, IsHeld}
use Rattle.grind_resolution.specs.declared.meaning.BinderKind.TheVariants as binders
use Rattle.grind_resolution.specs.Sorting.{Known, Counted, IsSorted}
use Rattle.grind_resolution.specs.Resolved.{StandsFor}
use Rattle.grind_resolution.specs.Sizes.{size}
use Rattle.grind_annotations.specs.Written.{AllWritten, written_sizes}
use Rattle.grind_annotations.specs.Giving.{StandForEach, GivePatterns}
use Rattle.grind_annotations.specs.Asking.{IsFormulaTerm}
use Rattle.grind_theory.specs.declared.limits.LimitKind.{LimitKind}
use Rattle.grind_theory.specs.declared.theory.Fault.{Fault}
use Rattle.grind_theory.specs.declared.theory.Fault.TheVariants as faults
use Rattle.grind_theory.specs.States.{State, limit_name, greatest, sort_numbers, bound_names, bound_sorts, constants_of, Names}

-- after the names before, each of these is new: nothing has it, nor does it stand among those before
abbrev pub AreNewAfter : SignatureData → List (List ℕ) → List (List ℕ) → Type 0
AreNewAfter s before [] = Unit {0}
AreNewAfter s before (name ∷ names) =
    ¬ IsHeld s name × ¬ Contains before name × AreNewAfter s (before ++ name ∷ []) names

-- the declared name is held by nothing, nor is that of a binder, and the binders have different names; or the limit is not
-- set yet. A declaration's own name is not held while its binders are read
abbrev pub IsNew : State → Declaration → Type 0
IsNew state (Sort name) = ¬ IsHeld state.signature name
IsNew state (Fun name sorts result) = ¬ IsHeld state.signature name
IsNew state (Theorem name bounds annotations body) =
    ¬ IsHeld state.signature name × AreNewAfter state.signature [] (bound_names bounds)
IsNew state (Goal name bounds hyps show) =
    ¬ IsHeld state.signature name × AreNewAfter state.signature [] (bound_names bounds)
IsNew state (Limit name value) = (kind : LimitKind) → name ≡ limit_name kind → ¬ Contains state.set kind

-- the names of sorts are those of declared sorts
abbrev pub AreSorts : SignatureData → List (List ℕ) → Type 0
AreSorts s names = AllByRecursion (Contains s.sorts) names

-- each sort is declared, and each name of a term stands for something; or there is such a limit
abbrev pub IsKnown : State → Declaration → Type 0
IsKnown state (Sort name) = Unit {0}
IsKnown state (Fun name sorts result) = AreSorts state.signature sorts × Contains state.signature.sorts result
IsKnown state (Theorem name bounds annotations body) =
    AreSorts state.signature (bound_sorts bounds) × Known (Names binders.Variable state.signature bounds) body
    × AllWritten (Known (Names binders.Variable state.signature bounds)) annotations
IsKnown state (Goal name bounds hyps show) =
    AreSorts state.signature (bound_sorts bounds)
    × AllByRecursion (Known (Names binders.Constant state.signature bounds)) hyps
    × Known (Names binders.Constant state.signature bounds) show
IsKnown state (Limit name value) = (kind : LimitKind) × (name ≡ limit_name kind)

-- each name of a term has as many arguments as it asks for
abbrev pub IsCounted : State → Declaration → Type 0
IsCounted state (Sort name) = Unit {0}
IsCounted state (Fun name sorts result) = Unit {0}
IsCounted state (Theorem name bounds annotations body) =
    Counted (Names binders.Variable state.signature bounds) body
    × AllWritten (Counted (Names binders.Variable state.signature bounds)) annotations
IsCounted state (Goal name bounds hyps show) =
    AllByRecursion (Counted (Names binders.Constant state.signature bounds)) hyps
    × Counted (Names binders.Constant state.signature bounds) show
IsCounted state (Limit name value) = Unit {0}

-- none of the named sorts is Prop
abbrev pub AreNoFormulas : SignatureData → List (List ℕ) → Type 0
AreNoFormulas s names = AllByRecursion (λ sort. sort ≢ prop) (sort_numbers s names)

-- formulas are formulas, written patterns have a sort, and no argument of a function and no variable is of sort Prop
abbrev pub IsWellSorted : State → Declaration → Type 0
IsWellSorted state (Sort name) = Unit {0}
IsWellSorted state (Fun name sorts result) = AreNoFormulas state.signature sorts
IsWellSorted state (Theorem name bounds annotations body) =
    AreNoFormulas state.signature (bound_sorts bounds)
    × IsFormulaTerm (Names binders.Variable state.signature bounds) body
    × AllWritten (IsSorted (Names binders.Variable state.signature bounds)) annotations
IsWellSorted state (Goal name bounds hyps show) =
    AllByRecursion (IsFormulaTerm (Names binders.Constant state.signature bounds)) hyps
    × IsFormulaTerm (Names binders.Constant state.signature bounds) show
IsWellSorted state (Limit name value) = Unit {0}

-- the theorem of this body and these binders and annotations: the scheme of its body and its lists of patterns
pub record IsTheoremOf (s : SignatureData) (bounds : List Bound) (annotations : List Annotation) (body : Term) (scheme : Scheme) (patterns : List (List Scheme)) : Type 0 where
  pub stands : StandsFor (Names binders.Variable s bounds) body scheme
  pub gives : GivePatterns (Names binders.Variable s bounds) (sort_numbers s (bound_sorts bounds)) scheme annotations patterns
  pub wanted : (0 < length bounds) ↔ (0 < length annotations)

-- there is an annotation exactly where there is a variable, and each gives patterns that hold every variable
abbrev pub IsPatterned : State → Declaration → Type 0
IsPatterned state (Sort name) = Unit {0}
IsPatterned state (Fun name sorts result) = Unit {0}
IsPatterned state (Theorem name bounds annotations body) =
    (scheme : Scheme) × (patterns : List (List Scheme)) × IsTheoremOf state.signature bounds annotations body scheme patterns
IsPatterned state (Goal name bounds hyps show) = Unit {0}
IsPatterned state (Limit name value) = Unit {0}

-- schemes put among the nodes, one after another: the nodes then, and the nodes of the schemes
abbrev pub interned_each : List Node → List Scheme → List Node × List ℕ
interned_each nodes [] = (nodes, [])
interned_each nodes (scheme ∷ schemes) =
    let one = interned nodes [] scheme in let rest = interned_each one.0 schemes in (rest.0, one.1 ∷ rest.1)

-- the most nodes of a goal's table
abbrev pub most_nodes : ℕ
most_nodes = 65536

-- the goal of a declaration: its constants are the binders; its table holds True and False, the hypotheses in order, and
-- the conclusion last
pub record IsGoalOf (s : SignatureData) (name : List ℕ) (bounds : List Bound) (hyps : List Term) (show : Term) (goal : GoalData) : Type 0 where
  pub name_is : goal.name ≡ name
  pub constants_are : goal.constants ≡ constants_of s bounds
  pub nodes : (schemes : List Scheme) × (last : Scheme) × StandForEach (Names binders.Constant s bounds) hyps schemes
      × StandsFor (Names binders.Constant s bounds) show last × (goal.hyps ≡ (interned_each opening_nodes schemes).1)
      × ((goal.terms.nodes, goal.show) ≡ interned (interned_each opening_nodes schemes).0 [] last)
  pub limit : goal.terms.limit ≡ most_nodes

-- a function has at most 16 arguments, and a theorem 16 variables; a theorem and its patterns have at most 256 nodes as they
-- are written, a goal's table has at most 65,536; and a limit is in its range
abbrev pub IsSmall : State → Declaration → Type 0
IsSmall state (Sort name) = Unit {0}
IsSmall state (Fun name sorts result) = length sorts ≤ 16
IsSmall state (Theorem name bounds annotations body) = (length bounds ≤ 16) × (size body + written_sizes annotations ≤ 256)
IsSmall state (Goal name bounds hyps show) =
    (goal : GoalData) × IsGoalOf state.signature name bounds hyps show goal × (length goal.terms.nodes ≤ most_nodes)
IsSmall state (Limit name value) =
    (kind : LimitKind) × (name ≡ limit_name kind) × ((n : ℕ) × (value ≡ pos n) × (n ≤ greatest kind))

-- the first fault of a declaration
abbrev pub FaultOf : State → Declaration → Fault → Type 0
FaultOf state d faults.Duplicate = ¬ IsNew state d
FaultOf state d faults.Unknown = IsNew state d × ¬ IsKnown state d
FaultOf state d faults.Arity = IsNew state d × IsKnown state d × ¬ IsCounted state d
FaultOf state d faults.Sort = IsNew state d × IsKnown state d × IsCounted state d × ¬ IsWellSorted state d
FaultOf state d faults.Pattern =
    IsNew state d × IsKnown state d × IsCounted state d × IsWellSorted state d × ¬ IsPatterned state d
FaultOf state d faults.Size =
    IsNew state d × IsKnown state d × IsCounted state d × IsWellSorted state d × IsPatterned state d × ¬ IsSmall state d
