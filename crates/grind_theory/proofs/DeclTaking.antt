-- One declaration that the code keeps: what it leads to, and its fault.
use Rattle.std.specs.Prelude.{◌≡◌, ℕ, List, [], ◌∷◌, ◌++◌, Result, Ok, Err, OnOk}
use Rattle.std.proofs.Common.{sym, ap, subst, ◌∙◌}
use Rattle.grind_schemes.specs.declared.limits.Limits.{Limits}
use Rattle.grind_schemes.specs.Goals.{GoalData}
use Rattle.grind_schemes.specs.Theorems.{TheoremData}
use Rattle.grind_grammar.specs.declared.syntax.Decl.{Decl}
use Rattle.grind_grammar.specs.Terms.{Term, Bound, Annotation, Declaration, Theorem, Goal}
use Rattle.grind_signature.specs.Signatures.{SignatureData, IsHeld, with_label}
use Rattle.grind_theory.specs.declared.declarations.Building.{Building}
use Rattle.grind_theory.specs.declared.limits.LimitKind.{LimitKind}
use Rattle.grind_theory.specs.declared.theory.Fault.{Fault}
use Rattle.grind_theory.specs.declared.theory.Fault.TheVariants as faults
use Rattle.grind_theory.specs.declared.theory.TheoryRefusal.TheVariants.{Bad}
use Rattle.grind_theory.specs.States.{state_data, limits_data}
use Rattle.grind_theory.specs.Faults.{FaultOf}
use Rattle.grind_theory.specs.Theories.{Takes, AreDeclared}
use Rattle.grind_theory.specs.Kept.{declaration_of}
use Rattle.grind_theory.specs.Declaring.{HasFault, IsAdded, HasLimitFault, IsLimitAdded, IsTheoremAdded, IsGoalAdded, IsTheoremTaken, IsGoalTaken}
use Rattle.grind_theory.specs.Building.{state_at}
use Rattle.grind_theory.proofs.Declared.{takes-declared}

module _ (text : List ℕ) (k : Decl) (d : Declaration) (b : Building) (e : declaration_of text k ≡ d) where
  -- a name is added
  pub added_ok : {V E : Type 0} (r : Result V E) (t : SignatureData) → OnOk r (IsAdded b.signature d t)
      → OnOk r (Takes (state_at b) (declaration_of text k) (state_data t b.theorems (limits_data b.limits) b.set b.goals))
  added_ok (Ok v) t h = subst (λ x. Takes (state_at b) x (state_data t b.theorems (limits_data b.limits) b.set b.goals)) (sym e) (h b.theorems (limits_data b.limits) b.set b.goals)
  added_ok (Err x) t h = tt

  pub added_declared : {V E : Type 0} (r : Result V E) (t : SignatureData) → OnOk r (IsAdded b.signature d t) → AreDeclared b.signature b.goals
      → OnOk r (AreDeclared t b.goals)
  added_declared (Ok v) t h all = takes-declared (state_at b) d (state_data t b.theorems (limits_data b.limits) b.set b.goals) (h b.theorems (limits_data b.limits) b.set b.goals) all
  added_declared (Err x) t h all = tt

  -- the declaration is taken
  pub taken_as : {V E : Type 0} (r : Result V E) (after : Building) → OnOk r (Takes (state_at b) d (state_at after))
      → OnOk r (Takes (state_at b) (declaration_of text k) (state_at after))
  taken_as (Ok v) after h = subst (λ x. Takes (state_at b) x (state_at after)) (sym e) h
  taken_as (Err x) after h = tt

  -- and has its fault
  pub fault_as : (fault : Fault) → FaultOf (state_at b) d fault → FaultOf (state_at b) (declaration_of text k) fault
  fault_as fault h = subst (λ x. FaultOf (state_at b) x fault) (sym e) h

  -- a limit is set
  pub limit_ok : {V E : Type 0} (r : Result V E) (limits : Limits) (set : List LimitKind) → OnOk r (IsLimitAdded (limits_data b.limits) b.set d (limits_data limits) set)
      → OnOk r (Takes (state_at b) (declaration_of text k) (state_data b.signature b.theorems (limits_data limits) set b.goals))
  limit_ok (Ok v) limits set h = subst (λ x. Takes (state_at b) x (state_data b.signature b.theorems (limits_data limits) set b.goals)) (sym e) (h b.signature b.theorems b.goals)
  limit_ok (Err x) limits set h = tt

  pub has_fault : (fault : Fault) → HasFault b.signature d fault → FaultOf (state_at b) (declaration_of text k) fault
  has_fault fault h = subst (λ x. FaultOf (state_at b) x fault) (sym e) (h b.theorems (limits_data b.limits) b.set b.goals)

  pub has_limit_fault : (fault : Fault) → HasLimitFault (limits_data b.limits) b.set d fault → FaultOf (state_at b) (declaration_of text k) fault
  has_limit_fault fault h = subst (λ x. FaultOf (state_at b) x fault) (sym e) (h b.signature b.theorems b.goals)

module _ (s t : SignatureData) (n bytes : List ℕ) (is : bytes ≡ n) (label : t ≡ with_label s bytes) where
  labelled : with_label s n ≡ t
  labelled = ap (with_label s) (sym is) ∙ sym label

  pub theorem_taken : (theorem : TheoremData) (theorems more : List TheoremData) (d : Declaration) → IsTheoremAdded s d (with_label s n) theorem → more ≡ theorems ++ theorem ∷ []
      → IsTheoremTaken s theorems d t more
  theorem_taken theorem theorems more d h l limits set goals =
      subst (Takes (state_data s theorems limits set goals) d) (λ i. state_data (labelled i) ((sym l) i) limits set goals) (h theorems limits set goals)

  pub goal_taken : (goal : GoalData) (goals more : List GoalData) (d : Declaration) → IsGoalAdded s d (with_label s n) goal → more ≡ goals ++ goal ∷ []
      → IsGoalTaken s goals d t more
  goal_taken goal goals more d h l theorems limits set =
      subst (Takes (state_data s theorems limits set goals) d) (λ i. state_data (labelled i) theorems limits set ((sym l) i)) (h theorems limits set goals)

-- a name that is held
pub theorem_held : (s : SignatureData) (n bytes : List ℕ) (bs : List Bound) (annotations : List Annotation) (t : Term) (fault : Fault) → bytes ≡ n → IsHeld s bytes → fault ≡ faults.Duplicate
    → HasFault s (Theorem n bs annotations t) fault
theorem_held s n bytes bs annotations t fault is held e =
    subst (HasFault s (Theorem n bs annotations t)) (sym e) (λ theorems limits set goals new. new.0 (subst (IsHeld s) is held))

pub goal_held : (s : SignatureData) (n bytes : List ℕ) (bs : List Bound) (hs : List Term) (t : Term) (fault : Fault) → bytes ≡ n → IsHeld s bytes → fault ≡ faults.Duplicate
    → HasFault s (Goal n bs hs t) fault
goal_held s n bytes bs hs t fault is held e =
    subst (HasFault s (Goal n bs hs t)) (sym e) (λ theorems limits set goals new. new.0 (subst (IsHeld s) is held))

-- the number and the fault that are answered
pub same_Bad : (m n : ℕ) (a b : Fault) → Bad m a ≡ Bad n b → (m ≡ n) × (a ≡ b)
same_Bad m n a b e = let x : m ≡ n = cc in let y : a ≡ b = cc in (x, y)
