use Rattle.std.proofs.Common.{◌+◌, subst, rules, arith, inr}
use Rattle.grind_tokens.specs.Tokens.{EndsLine}
use Rattle.grind_tokens.proofs.PieceLemmas.{comment_front, comment_fault}
use Rattle.grind_tokens.proofs.pieces.comment_at.Goals as goal

pub returns-then-ends_line-clause-ok : goal.returns-then-ends_line-clause-ok
returns-then-ends_line-clause-ok c =
    let ends : EndsLine c.split_at.result.1.now = search rules in
    comment_front c.args.body.now c.run_len-len.result c.run_len-len.ensures (subst EndsLine c.split_at.ensures.back ends)

pub returns-clause-refused : goal.returns-clause-refused
returns-clause-refused c =
    let goes_on : ¬ EndsLine c.split_at.result.1.now = search rules in
    inr (2 + c.run_len-len.result, omega arith, comment_fault c.args.body.now c.run_len-len.result c.run_len-len.ensures (subst (λ l. ¬ EndsLine l) c.split_at.ensures.back goes_on))
