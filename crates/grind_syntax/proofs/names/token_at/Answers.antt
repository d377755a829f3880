use Rattle.std.proofs.Common.{◌≤◌, length, arith, drop_of_length-le}
use Rattle.grind_syntax.proofs.names.token_at.Goals as goal

pub returns-then-at-source-clause-is : goal.returns-then-at-source-clause-is
returns-then-at-source-clause-is c =
    let past : length c.args.source.now.tokens.now ≤ c.args.at = omega arith in
    drop_of_length-le c.args.source.now.tokens.now past
