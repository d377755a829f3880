-- From the outcome of a goal to its block.
use Rattle.std.proofs.Common.{◌≡◌, ◌↔◌, ℕ, Bool, IsTrue, List, [], All, refl, sym, subst, ◌∙◌, append-nil}
use Rattle.std.specs.List.{AllByRecursion}
use Rattle.std.proofs.lemmas.List.Elements.{All-from_recursion}
use Rattle.grind_term_graph.specs.declared.node.Node.{Node}
use Rattle.grind_schemes.specs.Goals.{GoalData}
use Rattle.grind_schemes.specs.declared.lemmas.Lemmas.{Lemmas}
use Rattle.grind_report.specs.declared.report.Outcome.{Outcome}
use Rattle.grind_report.specs.declared.report.Outcome.TheVariants as outcomes
use Rattle.grind_signature.specs.Signatures.{SignatureData, IsDeclared}
use Rattle.grind_report.specs.Report.{Block, BlockFits, block_bytes}
use Rattle.grind_report.specs.Blocks.{IsBlockOf, OutcomePrintable}
use Rattle.grind_answers.specs.Outcomes.{IsOutcomeOf}
use Rattle.grind_answers.specs.Written.{SpellsBlock, IsClosedOutcome}

-- the outcome of a goal over declared terms can be printed
pub printable : (signature : SignatureData) (lemmas : Lemmas) (goal : GoalData) (outcome : Outcome) → IsOutcomeOf lemmas goal outcome
    → AllByRecursion (IsDeclared signature goal.constants goal.terms.nodes) goal.terms.nodes → OutcomePrintable signature goal outcome
printable signature lemmas goal (outcomes.Closed proof) p declared = record {
  front = ([], p.nodes ∙ sym (append-nil goal.terms.nodes));
  limit = p.limit;
  declared = subst (λ (nodes : List Node). All (IsDeclared signature goal.constants nodes) nodes) (sym p.nodes)
      (All-from_recursion (IsDeclared signature goal.constants goal.terms.nodes) goal.terms.nodes declared);
  counts = p.counts;
}
printable signature lemmas goal outcomes.Unexplored p declared = tt

-- the block of an outcome answers the goal
pub spells_block : (signature : SignatureData) (lemmas : Lemmas) (goal : GoalData) (outcome : Outcome) (closed : Bool) (bytes : List ℕ) (block : Block)
    → IsOutcomeOf lemmas goal outcome → IsBlockOf signature goal outcome block → BlockFits block → bytes ≡ block_bytes block
    → (IsTrue closed ↔ IsClosedOutcome outcome) → SpellsBlock signature lemmas goal closed bytes block
spells_block signature lemmas goal (outcomes.Closed proof) closed bytes block p (raw, is, of) fits spelled closed_is =
    let P : Block → Type 0 = λ b. BlockFits b → bytes ≡ block_bytes b → SpellsBlock signature lemmas goal closed bytes b in
    subst P (sym is)
    (λ f s. record { answers = (refl, p.answered, p.entailed, (proof, record { spelled = of; typed = p.typed; true_everywhere = p.true_everywhere })); fits = f; bytes_are = s; closed_is = closed_is })
    fits spelled
spells_block signature lemmas goal outcomes.Unexplored closed bytes block p is fits spelled closed_is =
    let P : Block → Type 0 = λ b. BlockFits b → bytes ≡ block_bytes b → SpellsBlock signature lemmas goal closed bytes b in
    subst P (sym is)
    (λ f s. record { answers = (refl, p.0, p.1); fits = f; bytes_are = s; closed_is = closed_is })
    fits spelled
