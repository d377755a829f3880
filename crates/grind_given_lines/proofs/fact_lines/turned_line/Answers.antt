use Rattle.std.specs.Prelude.{ℕ, ◌≡◌, ◌∷◌, ◌++◌, [], List, Bool, false, not}
use Rattle.std.proofs.Common.{sym, ap, ◌∙◌, subst}
use Rattle.grind_term_graph.specs.declared.node.Node.{Node}
use Rattle.grind_term_graph.specs.Terms.{Terms}
use Rattle.grind_term_graph.specs.Shape.{IsTable as IsNodeTable}
use Rattle.grind_schemes.specs.Goals.{GoalData}
use Rattle.grind_claims.specs.declared.claim.Claim.{Claim}
use Rattle.grind_rules.specs.Tables.{IsTableRule}
use Rattle.grind_given_lines.specs.Writing.{literal}
use Rattle.grind_goal_equations.specs.Facts.{IsReadAs}
use Rattle.grind_proof_writer.proofs.LineLemmas.{claim_at-tells, IsUsable-tells}
use Rattle.grind_given_lines.proofs.TableLemmas.{turned_table}
use Rattle.grind_given_lines.proofs.fact_lines.turned_line.Goals as goal

pub put_next-requires-clause-says : goal.put_next-requires-clause-says
put_next-requires-clause-says c =
    let nodes : List Node = c.args.writer.now.goal.now.terms.nodes in
    let equation : ℕ = c.args.fact.now.reading.equation in
    let read : IsReadAs nodes c.args.fact.now.node false equation c.args.fact.now.reading.left c.args.fact.now.reading.right =
    subst (λ (plain : Bool). IsReadAs nodes c.args.fact.now.node plain equation c.args.fact.now.reading.left c.args.fact.now.reading.right)
    c.requires.negated c.requires.fact.reading in
    let same : c.goal.inside.terms ≡ c.args.writer.now.goal.now.terms = ap (λ (g : GoalData). g.terms) c.goal.view_is in
    let table_of : IsNodeTable [] nodes = subst (λ (terms : Terms). IsNodeTable [] terms.nodes) same c.len-count.ensures.table in
    let table : IsTableRule nodes (equation ∷ []) (literal c.args.fact.now.holds c.args.fact.now.node ∷ []) (literal (not c.args.fact.now.holds) equation) =
    turned_table nodes equation c.args.fact.now.node c.args.fact.now.holds table_of read.0 c.requires.fact.sorted.formula in
    let free : c.push.new.self ≡ equation ∷ [] = c.in_ok-push.ensures.ok ∙ ap (λ (l : List ℕ). l ++ equation ∷ []) c.new-free.ensures in (
      literal c.args.fact.now.holds c.args.fact.now.node ∷ [],
      (claim_at-tells c.args.proof.now c.args.writer.now.branch c.args.said (literal c.args.fact.now.holds c.args.fact.now.node) c.requires.said, tt),
      subst (λ (claim : Claim). IsTableRule nodes c.push.new.self (literal c.args.fact.now.holds c.args.fact.now.node ∷ []) claim)
          (sym c.literal_claim-claim.ensures)
          (subst (λ (all : List ℕ). IsTableRule nodes all (literal c.args.fact.now.holds c.args.fact.now.node ∷ []) (literal (not c.args.fact.now.holds) equation))
          (sym free) table),
    )

pub put_next-requires-clause-usable : goal.put_next-requires-clause-usable
put_next-requires-clause-usable c =
    IsUsable-tells c.args.proof.now c.args.writer.now.branch c.args.said (literal c.args.fact.now.holds c.args.fact.now.node) c.requires.said
