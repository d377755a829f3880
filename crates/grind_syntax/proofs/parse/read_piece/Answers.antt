use Rattle.std.proofs.Common.{◌≡◌, ◌<◌, true, false, length, refl, arith}
use Rattle.grind_grammar.specs.Reading.{within}
use Rattle.grind_grammar.specs.Files.{depth_limit}
use Rattle.grind_syntax.specs.KeptDeclarations.{declaration_kept}
use Rattle.grind_syntax.specs.Sources.{ahead}
use Rattle.grind_syntax.proofs.Fronts.{length_ahead}
use Rattle.grind_syntax.proofs.FileLemmas.{judged_open, judged_none, judged_left, judged_deep, judged_good}
use Rattle.grind_syntax.proofs.parse.read_piece.Goals as goal

pub returns-then-not-is_within-clause-refused : goal.returns-then-not-is_within-clause-refused
returns-then-not-is_within-clause-refused c =
    let open_too : within depth_limit 0 (ahead c.args.piece.now 0) ≡ false = cc in
    (refl, judged_open (ahead c.args.piece.now 0) open_too)

pub returns-in_default-clause-refused : goal.returns-in_default-clause-refused
returns-in_default-clause-refused c =
    let few : within depth_limit 0 (ahead c.args.piece.now 0) ≡ true = cc in
    (refl, judged_none (ahead c.args.piece.now 0) few (rw c.in_default.is at c.in_ok-given.ensures.is))

pub returns-then-left-piece-clause-refused : goal.returns-then-left-piece-clause-refused
returns-then-left-piece-clause-refused c =
    let text = c.args.piece.now.text.now in
    let few : within depth_limit 0 (ahead c.args.piece.now 0) ≡ true = cc in
    let same = length_ahead c.args.piece.now c.in-Some.left in
    let some : 0 < length (ahead c.args.piece.now c.in-Some.left) = omega arith in
    (refl, judged_left (ahead c.args.piece.now 0) few _ _ (rw c.in-Some.is at c.in_ok-given.ensures.is) some)

pub returns-in_default-given-clause-refused : goal.returns-in_default-given-clause-refused
returns-in_default-given-clause-refused c =
    let text = c.args.piece.now.text.now in
    let few : within depth_limit 0 (ahead c.args.piece.now 0) ≡ true = cc in
    let same = length_ahead c.args.piece.now c.in-Some.left in
    let none : length (ahead c.args.piece.now c.in-Some.left) ≡ 0 = omega arith in
    let found = rw c.in-Some.is at c.in_ok-given.ensures.is in
    (refl, judged_deep (ahead c.args.piece.now 0) few (ahead c.args.piece.now c.in-Some.left) (rw c.in_default-given.is at found) none)

pub returns-clause-ok : goal.returns-clause-ok
returns-clause-ok c =
    let text = c.args.piece.now.text.now in
    let few : within depth_limit 0 (ahead c.args.piece.now 0) ≡ true = cc in
    let same = length_ahead c.args.piece.now c.in-Some.left in
    let none : length (ahead c.args.piece.now c.in-Some.left) ≡ 0 = omega arith in
    let found = rw c.in-Some.is at c.in_ok-given.ensures.is in
    judged_good (ahead c.args.piece.now 0) few (declaration_kept text c.in-Some-given.kept) (ahead c.args.piece.now c.in-Some.left)
    (rw c.in-Some-given.is at found) none
