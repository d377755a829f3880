use Rattle.std.specs.Prelude.{ℕ, ◌≡◌, true, false, IsNone}
use Rattle.std.proofs.Common.{rules, subst}
use Rattle.grind_proof_writer.specs.Lines.{Tells}
use Rattle.grind_needed_edges.specs.declared.why.Why.TheVariants as why
use Rattle.grind_proof_writer.proofs.LineLemmas.{Appends-none}
use Rattle.grind_goal_equations.specs.Facts.{equates}
use Rattle.grind_given_lines.specs.Writing.{sides_claim}
use Rattle.grind_given_lines.proofs.ReasonLemmas.{IsReasonOf-nothing, IsReasonOf-difference, IsReasonOf-line}
use Rattle.grind_given_lines.proofs.reasons.reason_of.Goals as goal

pub returns-in_default-clause-writes : goal.returns-in_default-clause-writes
returns-in_default-clause-writes c =
    let writer = c.args.writer.now in
    Appends-none writer.lemmas.now writer.goal.now c.args.proof.now writer.branch c.requires.root.rooted.good.lines

pub returns-then-not-is_equal-clause-writes : goal.returns-then-not-is_equal-clause-writes
returns-then-not-is_equal-clause-writes c =
    let writer = c.args.writer.now in
    Appends-none writer.lemmas.now writer.goal.now c.args.proof.now writer.branch c.requires.root.rooted.good.lines

pub returns-in_default-clause-reason : goal.returns-in_default-clause-reason
returns-in_default-clause-reason c =
    let none : IsNone c.fact_at.result = search rules in
    IsReasonOf-nothing c.args.writer.now.goal.now c.args.proof.now c.args.k why.Congruence (c.fact_at.ensures.none none)

pub returns-then-not-is_equal-clause-reason : goal.returns-then-not-is_equal-clause-reason
returns-then-not-is_equal-clause-reason c =
    let differs : equates c.in-Some.fact ≡ false = cc in
    IsReasonOf-difference c.args.writer.now.goal.now c.args.proof.now c.in-Some.fact c.args.k why.Congruence c.in-Some.ensures.is
    c.in-Some.ensures.source differs

pub returns-clause-reason : goal.returns-clause-reason
returns-clause-reason c =
    let equal : equates c.in-Some.fact ≡ true = cc in
    let reading = c.in-Some.fact.reading in
    let tells : Tells c.fact_line.new.proof 0 c.in_ok-line.line (sides_claim (equates c.in-Some.fact) reading.left reading.right) =
    subst (λ (b : ℕ). Tells c.fact_line.new.proof b c.in_ok-line.line (sides_claim (equates c.in-Some.fact) reading.left reading.right))
    c.requires.root.branch c.in_ok-line.ensures.tells in
    IsReasonOf-line c.args.writer.now.goal.now c.fact_line.new.proof c.in-Some.fact c.args.k c.in_ok-line.line c.in-Some.ensures.is
    c.in-Some.ensures.source equal tells
