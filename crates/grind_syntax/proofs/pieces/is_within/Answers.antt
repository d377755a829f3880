use Rattle.std.proofs.Common.{◌≡◌, ◌∙◌, ◌∷◌, ◌≤◌, ◌<◌, length, ap, sym, arith, rules}
use Rattle.grind_grammar.specs.Lexemes.{lexemes}
use Rattle.grind_grammar.specs.Reading.{within}
use Rattle.grind_syntax.specs.Pieces.{open_after_kind}
use Rattle.grind_syntax.proofs.FileLemmas.{token_fits, token_over, no_token}
use Rattle.grind_syntax.proofs.pieces.is_within.Goals as goal

pub returns-then-count-gt-OPEN : goal.returns-then-count-gt-OPEN
returns-then-count-gt-OPEN c =
    let text = c.args.piece.now.text.now in
    let rest : c.loop-token.rest.now ≡ c.in-Some.token.now ∷ c.in-Some.left.now = c.in-Some.ensures.cases.0 in
    let opened = c.open_after-count.ensures in
    let many : 200 < open_after_kind c.loop-token.count c.in-Some.token.now.kind = omega arith in
    sym (c.loop-token.invariant.so_far ∙ ap (λ ts. within 200 c.loop-token.count (lexemes text ts)) rest
    ∙ token_over 200 c.loop-token.count text c.in-Some.token.now c.in-Some.left.now many)

pub loop-token-preserved : goal.loop-token-preserved
loop-token-preserved c =
    let text = c.args.piece.now.text.now in
    let rest : c.loop-token.rest.now ≡ c.in-Some.token.now ∷ c.in-Some.left.now = c.in-Some.ensures.cases.0 in
    let opened = c.open_after-count.ensures in
    let few : open_after_kind c.loop-token.count c.in-Some.token.now.kind ≤ 200 = omega arith in
    record {
      so_far = c.loop-token.invariant.so_far ∙ ap (λ ts. within 200 c.loop-token.count (lexemes text ts)) rest
          ∙ token_fits 200 c.loop-token.count text c.in-Some.token.now c.in-Some.left.now few
          ∙ ap (λ n. within 200 n (lexemes text c.in-Some.left.now)) (sym opened);
      few = omega arith;
    }

pub returns : goal.returns
returns c =
    let text = c.args.piece.now.text.now in
    let none : length c.loop-token.rest.now ≡ 0 = search rules in
    sym (c.loop-token.invariant.so_far ∙ no_token 200 c.loop-token.count text c.loop-token.rest.now none)
