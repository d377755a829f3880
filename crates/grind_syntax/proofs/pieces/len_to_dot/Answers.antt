use Rattle.std.proofs.Common.{◌≡◌, ◌≢◌, ◌∙◌, ◌∷◌, ◌++◌, [], ap, sym, arith, rules, append_assoc, length-append}
use Rattle.std.proofs.lemmas.List.Elements.{All-nil, All-cons, All-append}
use Rattle.grind_tokens.specs.declared.tokens.Sym.TheVariants as symbols
use Rattle.grind_tokens.specs.declared.tokens.TokenKind.TheVariants as kinds
use Rattle.grind_syntax.proofs.pieces.len_to_dot.Goals as goal

pub loop-token-preserved : goal.loop-token-preserved
loop-token-preserved c =
    let rest : c.loop-token.rest.now ≡ c.in-Some.token.now ∷ c.in-Some.left.now = c.in-Some.ensures.cases.0 in
    let undotted : c.in-Some.token.now.kind ≢ kinds.Symbol symbols.Dot = search rules in
    let longer = length-append c.loop-token.invariant.piece (c.in-Some.token.now ∷ []) in
    let counted = c.loop-token.invariant.counted in
    record {
      piece = c.loop-token.invariant.piece ++ c.in-Some.token.now ∷ [];
      whole = c.loop-token.invariant.whole ∙ ap (λ xs. c.loop-token.invariant.piece ++ xs) rest
          ∙ sym (append_assoc c.loop-token.invariant.piece (c.in-Some.token.now ∷ []) c.in-Some.left.now);
      counted = omega arith;
      undotted = All-append (λ t. t.kind ≢ kinds.Symbol symbols.Dot) c.loop-token.invariant.piece _ c.loop-token.invariant.undotted
          (All-cons (λ t. t.kind ≢ kinds.Symbol symbols.Dot) c.in-Some.token.now [] undotted (All-nil (λ t. t.kind ≢ kinds.Symbol symbols.Dot)));
    }
