use Rattle.std.proofs.Common.{◌≡◌, ◌+◌, ◌++◌, arith, rules}
use Rattle.std.proofs.lemmas.List.{length-drop}
use Rattle.grind_tokens.specs.Fronts.{tokens_of}
use Rattle.grind_tokens.proofs.Progress.{front-some, front-within, reads_more, reads_end, reads_fault, tokens_are_pieces}
use Rattle.grind_tokens.proofs.tokens.tokens.Goals as goal

pub returns-in-Err-clause-refused : goal.returns-in-Err-clause-refused
returns-in-Err-clause-refused c =
    reads_fault c.args.text.now c.loop-rest.tokens c.loop-rest.at c.loop-rest.rest.now c.in-Err.fault c.loop-rest.invariant c.in-Err.ensures.refused

pub loop-rest-smaller : goal.loop-rest-smaller
loop-rest-smaller c =
    let rest = c.loop-rest.rest.now in
    let front = c.in-Ok.front in
    let some = front-some rest front c.in-Ok.ensures.ok in
    let within = front-within rest front c.in-Ok.ensures.ok in
    rw c.split_at.ensures.back (omega (arith, length-drop front.len rest))

pub loop-rest-preserved : goal.loop-rest-preserved
loop-rest-preserved c =
    let front = c.in-Ok.front in
    let at = c.loop-rest.at in
    let kept : c.keep.new.tokens ≡ c.loop-rest.tokens ++ tokens_of front.kind at (at + front.len) = search (rules, c.in_ok-keep.ensures) in
    let more = reads_more c.args.text.now c.loop-rest.tokens at c.loop-rest.rest.now front c.loop-rest.invariant c.in-Ok.ensures.ok in
    rw (kept, c.split_at.ensures.back) more

pub returns-clause-ok : goal.returns-clause-ok
returns-clause-ok c =
    reads_end c.args.text.now c.loop-rest.tokens c.loop-rest.at c.loop-rest.rest.now c.loop-rest.invariant (omega arith)

pub returns-clause-pieces : goal.returns-clause-pieces
returns-clause-pieces c = tokens_are_pieces c.args.text.now c.loop-rest.tokens (returns-clause-ok c)
