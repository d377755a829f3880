use Rattle.std.proofs.Common.{rules}
use Rattle.grind_tokens.specs.Fronts.{IsOf}
use Rattle.grind_tokens.proofs.CharacterLemmas.{on_run_more, on_run_end, stops_none, stops_other}
use Rattle.grind_tokens.proofs.characters.run_len.Goals as goal

pub returns-then-not-goes_on : goal.returns-then-not-goes_on
returns-then-not-goes_on c =
    let rest = c.loop-character.rest.now in
    let other : ¬ IsOf c.args.run c.in-Some.character = search rules in
    on_run_end (IsOf c.args.run) c.args.text.now rest c.loop-character.len c.loop-character.invariant
    (stops_other (IsOf c.args.run) rest c.in-Some.character other c.in-Some.ensures.some.1)

pub loop-character-preserved : goal.loop-character-preserved
loop-character-preserved c =
    let rest = c.loop-character.rest.now in
    let holds : IsOf c.args.run c.in-Some.character = search rules in
    let some = c.in-Some.ensures.some in
    let more = on_run_more (IsOf c.args.run) c.args.text.now rest c.loop-character.len c.in-Some.character c.loop-character.invariant some.0 holds some.1 in
    rw (c.split_at.ensures.back, c.len_utf8-size.ensures.value) more

pub returns : goal.returns
returns c =
    let rest = c.loop-character.rest.now in
    on_run_end (IsOf c.args.run) c.args.text.now rest c.loop-character.len c.loop-character.invariant
    (stops_none (IsOf c.args.run) rest c.in_default.ensures.none)
