-- The fault of the terms of a theorem: for private contracts.
use Rattle.std.specs.Prelude.{◌≢◌, ℕ, List, Option, Some, None}
use Rattle.std.specs.List.{AllByRecursion}
use Rattle.grind_term_graph.specs.Terms.{prop}
use Rattle.grind_grammar.specs.Terms.{Term, Annotation}
use Rattle.grind_resolution.specs.Scopes.{Given}
use Rattle.grind_resolution.specs.Sorting.{Known, Counted, IsSorted}
use Rattle.grind_theory.specs.declared.theory.Fault.{Fault}
use Rattle.grind_theory.specs.declared.theory.Fault.TheVariants as faults
use Rattle.grind_annotations.specs.Asking.{IsFormulaTerm}
use Rattle.grind_annotations.specs.Written.{AllWritten}

-- the fault of a theorem's body and written patterns, by what names stand for, or none
module _ (gives : List ℕ → Given → Type 0) (vars : List ℕ) (annotations : List Annotation) (body : Term) where
  abbrev pub AreTermsKnown : Type 0
  AreTermsKnown = Known gives body × AllWritten (Known gives) annotations

  abbrev pub AreTermsCounted : Type 0
  AreTermsCounted = Counted gives body × AllWritten (Counted gives) annotations

  abbrev pub AreTermsSorted : Type 0
  AreTermsSorted = AllByRecursion (λ sort. sort ≢ prop) vars × IsFormulaTerm gives body × AllWritten (IsSorted gives) annotations

  abbrev pub FaultOfTerms : Option Fault → Type 0
  FaultOfTerms None = AreTermsKnown × AreTermsCounted × AreTermsSorted
  FaultOfTerms (Some faults.Unknown) = ¬ AreTermsKnown
  FaultOfTerms (Some faults.Arity) = AreTermsKnown × ¬ AreTermsCounted
  FaultOfTerms (Some faults.Sort) = AreTermsKnown × AreTermsCounted × ¬ AreTermsSorted
  FaultOfTerms (Some faults.Duplicate) = ⊥
  FaultOfTerms (Some faults.Pattern) = ⊥
  FaultOfTerms (Some faults.Size) = ⊥
