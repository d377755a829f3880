use Rattle.std.proofs.Common.{◌≡◌, ◌+◌, drop, ap, subst, ◌∙◌, arith, refl}
use Rattle.std.specs.Char.{len_utf8}
use Rattle.grind_tokens.specs.Tokens.{IsNameChar}
use Rattle.grind_tokens.specs.Fronts.{Runs}
use Rattle.grind_tokens.proofs.PieceLemmas.{named, word_front, word_fault}
use Rattle.grind_tokens.proofs.pieces.word_at.Goals as goal

pub returns-then-len-gt-NAME_LIMIT-clause-refused :
    goal.returns-then-len-gt-NAME_LIMIT-clause-refused
returns-then-len-gt-NAME_LIMIT-clause-refused c =
    let text = c.args.text.now in
    let size = c.len_utf8-size.ensures.value in
    let behind : c.split_at.result.1.now ≡ drop (len_utf8 c.args.first) text = c.split_at.ensures.back ∙ ap (λ n. drop n text) size in
    let run = subst (λ l. Runs IsNameChar l c.run_len.result) behind c.run_len.ensures in
    (refl, word_fault text (len_utf8 c.args.first + c.run_len.result) (named text c.args.first c.run_len.result c.requires run) (omega arith))

pub returns-clause-ok : goal.returns-clause-ok
returns-clause-ok c =
    let text = c.args.text.now in
    let size = c.len_utf8-size.ensures.value in
    let behind : c.split_at.result.1.now ≡ drop (len_utf8 c.args.first) text = c.split_at.ensures.back ∙ ap (λ n. drop n text) size in
    let run = subst (λ l. Runs IsNameChar l c.run_len.result) behind c.run_len.ensures in
    rw size (word_front text (len_utf8 c.args.first + c.run_len.result) (named text c.args.first c.run_len.result c.requires run) (omega arith))
