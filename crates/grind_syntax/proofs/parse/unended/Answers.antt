use Rattle.std.proofs.Common.{◌≡◌, true, false, refl}
use Rattle.grind_grammar.specs.Reading.{within}
use Rattle.grind_grammar.specs.Files.{depth_limit, end_too_many_open, unended}
use Rattle.grind_syntax.specs.Sources.{ahead}
use Rattle.grind_syntax.proofs.FileLemmas.{within_is, not_within}
use Rattle.grind_syntax.proofs.parse.unended.Goals as goal

pub returns-then-not-is_within : goal.returns-then-not-is_within
returns-then-not-is_within c =
    let open_too : within depth_limit 0 (ahead c.args.piece.now 0) ≡ false = cc in
    (refl, end_too_many_open (not_within depth_limit 0 (ahead c.args.piece.now 0) open_too))

pub returns : goal.returns
returns c =
    let few : within depth_limit 0 (ahead c.args.piece.now 0) ≡ true = cc in
    (refl, unended (within_is depth_limit 0 (ahead c.args.piece.now 0) few))
