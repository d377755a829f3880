use Rattle.std.specs.Prelude.{◌≡◌, ℕ, ◌<◌, List, length}
use Rattle.std.proofs.Common.{arith, sym, ap, ◌∙◌, subst}
use Rattle.grind_term_graph.specs.Terms.{Terms}
use Rattle.grind_classes.specs.Classes.{IsActive, AreTogether}
use Rattle.grind_goal_rows.proofs.explain_tests.explanation_of.Goals as goal

pub same-requires-clause-first : goal.same-requires-clause-first
same-requires-clause-first c =
    let count : c.len-count.result ≡ length c.args.goal.now.terms.nodes =
    c.len-count.ensures.value ∙ ap (λ (t : Terms). length t.nodes) c.terms.ensures in
    let within : c.args.a < length c.args.goal.now.terms.nodes = omega (arith, c.if-number-count.false, c.number.ensures, count) in
    subst (λ (lists : List (List ℕ)). IsActive lists c.args.a) (sym c.classes.ensures.value) (c.in_ok-proof.ensures.active c.args.a within)

pub same-requires-clause-second : goal.same-requires-clause-second
same-requires-clause-second c =
    let count : c.len-count.result ≡ length c.args.goal.now.terms.nodes =
    c.len-count.ensures.value ∙ ap (λ (t : Terms). length t.nodes) c.terms.ensures in
    let within : c.args.b < length c.args.goal.now.terms.nodes =
    omega (arith, c.if-number-count-2.false, c.number-else-number-count.ensures, count) in
    subst (λ (lists : List (List ℕ)). IsActive lists c.args.b) (sym c.classes.ensures.value) (c.in_ok-proof.ensures.active c.args.b within)

pub explain-requires-clause-reasons : goal.explain-requires-clause-reasons
explain-requires-clause-reasons c = λ count _. c.in_ok-proof.ensures.reasons count

pub explain-requires-clause-together : goal.explain-requires-clause-together
explain-requires-clause-together c =
    subst (λ (lists : List (List ℕ)). AreTogether lists c.args.a c.args.b) c.classes.ensures.value (c.same.ensures.0 c.if-not-same.false)
