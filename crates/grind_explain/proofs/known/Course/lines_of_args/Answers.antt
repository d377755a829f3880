use Rattle.grind_classes.specs.Classes.{IsActive}
use Rattle.grind_proof_writer.proofs.LineLemmas.{Appends-through}
use Rattle.grind_needed_edges.proofs.JoinLemmas.{All-first}
use Rattle.grind_explain.proofs.KnownLemmas.{zip_first, AreHalfTold-start, AreHalfTold-step, AreHalfTold-end}
use Rattle.grind_explain.proofs.known.Course.lines_of_args.Goals as goal

pub loop-a-init : goal.loop-a-init
loop-a-init c =
    let writer = c.args.self.now.writer.now in
    AreHalfTold-start writer.lemmas.now writer.goal.now c.args.proof.now c.args.told.now writer.branch c.args.self.now.closure.now c.args.self.now.whys.now
    c.args.self.now.plan.now c.requires.known.0 c.args.lefts.now c.args.rights.now c.new-numbers.result c.new-numbers.ensures c.requires.ready
    c.requires.lines c.requires.given c.requires.known.1 c.requires.active c.requires.known.2 c.requires.planned

pub line_of_arg-requires-clause-active : goal.line_of_arg-requires-clause-active
line_of_arg-requires-clause-active c =
    All-first (IsActive c.args.self.now.closure.now.lists) c.loop-a.left.now c.in-Some.left_tail.now c.in-Some.a.now c.in-Some.ensures.cases.0
    c.loop-a.invariant.active

pub line_of_arg-requires-clause-known : goal.line_of_arg-requires-clause-known
line_of_arg-requires-clause-known c = (
  c.loop-a.invariant.place,
  c.loop-a.invariant.edges_known,
  zip_first _ c.loop-a.left.now c.in-Some.left_tail.now c.loop-a.right.now c.in-Some-split_first.right_tail.now c.in-Some.a.now
      c.in-Some-split_first.b.now c.in-Some.ensures.cases.0 c.in-Some-split_first.ensures.cases.0 c.loop-a.invariant.joined,
)

pub line_of_arg-requires-clause-planned : goal.line_of_arg-requires-clause-planned
line_of_arg-requires-clause-planned c =
    zip_first _ c.loop-a.left.now c.in-Some.left_tail.now c.loop-a.right.now c.in-Some-split_first.right_tail.now c.in-Some.a.now
    c.in-Some-split_first.b.now c.in-Some.ensures.cases.0 c.in-Some-split_first.ensures.cases.0 c.loop-a.invariant.planned

pub returns-in_err-number-clause-writes : goal.returns-in_err-number-clause-writes
returns-in_err-number-clause-writes c =
    let writer = c.args.self.now.writer.now in
    Appends-through writer.lemmas.now writer.goal.now c.args.proof.now c.loop-a.proof c.line_of_arg.new.proof writer.branch
    c.loop-a.invariant.appends c.line_of_arg.ensures.writes

pub returns-in_err-push-clause-writes : goal.returns-in_err-push-clause-writes
returns-in_err-push-clause-writes c =
    let writer = c.args.self.now.writer.now in
    Appends-through writer.lemmas.now writer.goal.now c.args.proof.now c.loop-a.proof c.line_of_arg.new.proof writer.branch
    c.loop-a.invariant.appends c.line_of_arg.ensures.writes

pub loop-a-preserved : goal.loop-a-preserved
loop-a-preserved c =
    let writer = c.args.self.now.writer.now in
    AreHalfTold-step writer.lemmas.now writer.goal.now c.args.proof.now c.loop-a.proof c.line_of_arg.new.proof c.args.told.now c.loop-a.told
    c.line_of_arg.new.told writer.branch c.args.self.now.closure.now c.args.self.now.whys.now c.args.self.now.plan.now
    c.args.lefts.now c.args.rights.now c.loop-a.left.now c.in-Some.left_tail.now c.loop-a.right.now
    c.in-Some-split_first.right_tail.now c.loop-a.numbers c.push.new.self c.in-Some.a.now c.in-Some-split_first.b.now
    c.in_ok-number.number c.in-Some.ensures.cases.0 c.in-Some-split_first.ensures.cases.0 c.in_ok-push.ensures.ok c.loop-a.invariant
    c.in_ok-number.ensures.writes c.in_ok-number.ensures.ready c.in_ok-number.ensures.goes c.in_ok-number.ensures.lines c.in_ok-number.ensures.tells

pub returns-clause-told : goal.returns-clause-told
returns-clause-told c =
    let writer = c.args.self.now.writer.now in
    AreHalfTold-end writer.lemmas.now writer.goal.now c.args.proof.now c.loop-a.proof c.args.told.now c.loop-a.told writer.branch
    c.args.self.now.closure.now c.args.self.now.whys.now c.args.self.now.plan.now c.args.lefts.now c.args.rights.now
    c.loop-a.left.now c.loop-a.right.now c.loop-a.numbers c.in_default.ensures.cases c.loop-a.invariant
