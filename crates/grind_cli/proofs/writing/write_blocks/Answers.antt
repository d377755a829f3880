use Rattle.std.proofs.Common.{◌≡◌, ◌&&◌, Bool, List, [], ◌∷◌, length, refl, subst, ◌∙◌, arith}
use Rattle.grind_schemes.specs.Goals.{GoalData}
use Rattle.grind_theory.specs.Theories.{AreDeclared}
use Rattle.grind_answers.specs.Written.{AwaitsGoals}
use Rattle.grind_answers.proofs.WrittenLemmas.{IsOnTheWay, on_the_way-step, on_the_way-end, on_the_way-stop, AwaitsGoals-next}
use Rattle.grind_cli.proofs.writing.write_blocks.Goals as goal

nothing_left : {X : Type 0} (xs : List X) → length xs ≡ 0 → xs ≡ []
nothing_left [] e = refl
nothing_left (x ∷ xs) e = absurd (omega arith)

pub returns-in-Err-clause-err : goal.returns-in-Err-clause-err
returns-in-Err-clause-err g c =
    let signature = c.args.contents.now.signature.now in
    let lemmas = c.args.contents.now.lemmas.now in
    let goals = c.args.contents.now.goals.now in
    let old = g.K.Sink.written c.args.out.now in
    let now = g.K.Sink.written c.loop-goal.out in
    let first : c.loop-goal.rest.now ≡ c.in-Some.goal.now ∷ c.in-Some.tail.now = c.in-Some.ensures.cases.0 in
    let way = subst (λ (gs : List GoalData). IsOnTheWay signature lemmas goals old gs now c.loop-goal.closed) first c.loop-goal.invariant.way in
    on_the_way-stop signature lemmas goals old c.in-Some.goal.now c.in-Some.tail.now now (g.K.Sink.written c.write_block.new.out)
    c.loop-goal.closed way c.in-Err.ensures.err

pub loop-goal-preserved-then-closed : goal.loop-goal-preserved-then-closed
loop-goal-preserved-then-closed g c =
    let signature = c.args.contents.now.signature.now in
    let lemmas = c.args.contents.now.lemmas.now in
    let goals = c.args.contents.now.goals.now in
    let old = g.K.Sink.written c.args.out.now in
    let now = g.K.Sink.written c.loop-goal.out in
    let next = g.K.Sink.written c.write_block.new.out in
    let first : c.loop-goal.rest.now ≡ c.in-Some.goal.now ∷ c.in-Some.tail.now = c.in-Some.ensures.cases.0 in
    let way = subst (λ (gs : List GoalData). IsOnTheWay signature lemmas goals old gs now c.loop-goal.closed) first c.loop-goal.invariant.way in
    let declared = subst (λ (gs : List GoalData). AreDeclared signature gs) first c.loop-goal.invariant.declared in
    let awaits = subst (λ (gs : List GoalData). AwaitsGoals signature lemmas goals gs now) first c.loop-goal.invariant.awaits in
    let both : (c.loop-goal.closed && c.in-Ok.this) ≡ c.in-Ok.this = rw c.if-closed.true refl in
    let written = c.in-Ok.ensures.ok in
    record {
      way = subst (λ (b : Bool). IsOnTheWay signature lemmas goals old c.in-Some.tail.now next b) both
          (on_the_way-step signature lemmas goals old c.in-Some.goal.now c.in-Some.tail.now now next c.loop-goal.closed c.in-Ok.this written.0 written.1 way);
      awaits = AwaitsGoals-next signature lemmas goals c.in-Some.goal.now c.in-Some.tail.now now next c.in-Ok.this written.0 awaits written.1;
      declared = declared.1;
      faults = c.in-Ok.ensures.quiet ∙ c.loop-goal.invariant.faults;
    }

pub loop-goal-preserved : goal.loop-goal-preserved
loop-goal-preserved g c =
    let signature = c.args.contents.now.signature.now in
    let lemmas = c.args.contents.now.lemmas.now in
    let goals = c.args.contents.now.goals.now in
    let old = g.K.Sink.written c.args.out.now in
    let now = g.K.Sink.written c.loop-goal.out in
    let next = g.K.Sink.written c.write_block.new.out in
    let first : c.loop-goal.rest.now ≡ c.in-Some.goal.now ∷ c.in-Some.tail.now = c.in-Some.ensures.cases.0 in
    let way = subst (λ (gs : List GoalData). IsOnTheWay signature lemmas goals old gs now c.loop-goal.closed) first c.loop-goal.invariant.way in
    let declared = subst (λ (gs : List GoalData). AreDeclared signature gs) first c.loop-goal.invariant.declared in
    let awaits = subst (λ (gs : List GoalData). AwaitsGoals signature lemmas goals gs now) first c.loop-goal.invariant.awaits in
    let both : (c.loop-goal.closed && c.in-Ok.this) ≡ c.loop-goal.closed = rw c.if-closed.false refl in
    let written = c.in-Ok.ensures.ok in
    record {
      way = subst (λ (b : Bool). IsOnTheWay signature lemmas goals old c.in-Some.tail.now next b) both
          (on_the_way-step signature lemmas goals old c.in-Some.goal.now c.in-Some.tail.now now next c.loop-goal.closed c.in-Ok.this written.0 written.1 way);
      awaits = AwaitsGoals-next signature lemmas goals c.in-Some.goal.now c.in-Some.tail.now now next c.in-Ok.this written.0 awaits written.1;
      declared = declared.1;
      faults = c.in-Ok.ensures.quiet ∙ c.loop-goal.invariant.faults;
    }

pub returns-clause-ok : goal.returns-clause-ok
returns-clause-ok g c =
    let signature = c.args.contents.now.signature.now in
    let lemmas = c.args.contents.now.lemmas.now in
    let goals = c.args.contents.now.goals.now in
    let old = g.K.Sink.written c.args.out.now in
    let now = g.K.Sink.written c.loop-goal.out in
    let empty : c.loop-goal.rest.now ≡ [] = nothing_left _ c.in_default.ensures.cases in
    on_the_way-end signature lemmas goals old now c.loop-goal.closed
    (subst (λ (gs : List GoalData). IsOnTheWay signature lemmas goals old gs now c.loop-goal.closed) empty c.loop-goal.invariant.way)

pub write_block-requires-clause-before : goal.write_block-requires-clause-before
write_block-requires-clause-before g c =
    let signature = c.args.contents.now.signature.now in
    let lemmas = c.args.contents.now.lemmas.now in
    let goals = c.args.contents.now.goals.now in
    let now = g.K.Sink.written c.loop-goal.out in
    let first : c.loop-goal.rest.now ≡ c.in-Some.goal.now ∷ c.in-Some.tail.now = c.in-Some.ensures.cases.0 in
    subst (λ (gs : List GoalData). AwaitsGoals signature lemmas goals gs now) first c.loop-goal.invariant.awaits
