-- Where nothing follows, no consequence is left.
use Rattle.std.specs.Prelude.{ℕ, ◌∷◌, Bool, true, false, List, All, Contains}
use Rattle.std.proofs.Common.{sym, ◌∙◌, inl, inr}
use Rattle.std.proofs.lemmas.Bool.{true≢false}
use Rattle.grind_term_graph.specs.declared.head.Head.{Head}
use Rattle.grind_classes.specs.Classes.{IsActive}
use Rattle.grind_truth_prop.specs.Kernel.{Claim, SaysTable}
use Rattle.grind_truth_prop.specs.Given.{IsUnknown}
use Rattle.grind_truth_prop.specs.Evidence.{IsTruthAmong}
use Rattle.grind_truth_prop.specs.Classed.{literal}
use Rattle.grind_truth_prop.specs.Connectives.{IsConnective, AreFreeNodes}
use Rattle.grind_truth_prop.specs.Steps.{NothingFollows}
use Rattle.grind_truth_prop.specs.Laws.{HasTable, NoConsequenceLeft, NoConsequenceAtWants, NothingLeftAtRest}
use Rattle.grind_truth_prop.specs.declared.types.Known.{Known}
use Rattle.grind_truth_prop.proofs.SettledLemmas.{says_true, says_no_contradiction}

module _ (known : Known) (lists : List (List ℕ)) (table : HasTable known) (none : NothingFollows known lists) where
  no_table : (node : ℕ) (head : Head) (args free : List ℕ) (premises : List Claim) (n : ℕ) (value : Bool)
      → IsActive lists node → IsConnective known.terms.nodes node head args → AreFreeNodes free args
      → All (IsTruthAmong known (node ∷ args)) premises → Contains (node ∷ args) n → IsUnknown known lists n
      → ¬ SaysTable known.terms.nodes free premises (literal n value)
  no_table node head args free premises n true active conn is only has unknown line =
      elim ((none.settled node head args active conn).both n has) [
        | inl k ↦ unknown.1 k
        | inr both ↦ true≢false (
            sym (says_true known node head args free table conn is both.1.0 both.1.1 premises only n true has line) ∙ both.1.2)
      ]
  no_table node head args free premises n false active conn is only has unknown line =
      elim ((none.settled node head args active conn).both n has) [
        | inl k ↦ unknown.1 k
        | inr both ↦ true≢false (
            sym both.0.2 ∙ says_true known node head args free table conn is both.0.0 both.0.1 premises only n false has line)
      ]

  none_left : NoConsequenceLeft known lists
  none_left = record {
    classes = none.classed;
    holds = λ n a b is holds. elim ((none.sides n a b is).0 holds) [ inl t ↦ inl t | inr has ↦ inr (inl has) ];
    fails = λ n a b is fails. (none.sides n a b is).1 fails;
    unknown = λ n a b is unknown. elim (none.equations n a b unknown.0 is) [ inl k ↦ absurd (unknown.1 k) | inr apart ↦ apart ];
    tables = no_table;
    clashes = λ node head args free premises active conn is only line.
        let possible = (none.settled node head args active conn).possible in
        says_no_contradiction known node head args free table conn is possible.0 possible.1 premises only line;
  }

pub no_consequence_at_wants : NoConsequenceAtWants
no_consequence_at_wants known lists n fits table at = none_left known lists table at.0

pub nothing_left_at_rest : NothingLeftAtRest
nothing_left_at_rest known lists fits table at = (
  none_left known lists table at.follows,
  record {
    fixed = λ node head args is conn. (at.wanted node).fixed head args is conn;
    alone = λ node other unknown kind together. (at.wanted node).alone unknown kind other together;
  },
)
