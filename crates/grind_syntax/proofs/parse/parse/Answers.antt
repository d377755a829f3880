use Rattle.std.proofs.Common.{◌≡◌, ◌+◌, ◌<◌, [], length, ap, sym, subst, arith, All}
use Rattle.std.specs.Prelude.{map}
use Rattle.std.proofs.lemmas.List.Elements.{All-nil, All-cons, All-append}
use Rattle.grind_grammar.specs.Lexemes.{lexemes}
use Rattle.grind_grammar.specs.Reading.{judged}
use Rattle.grind_syntax.specs.Places.{Placed}
use Rattle.grind_syntax.specs.KeptDeclarations.{declaration_kept, IsPlacedDeclaration}
use Rattle.grind_syntax.specs.Refusals.{FileSoFar}
use Rattle.grind_syntax.proofs.FileLemmas.{placed_pieces, cut_lexemes, cut_shorter, cut_placed, undotted_piece, keeps_declarations, file_begin, file_more, file_end, refused_here, refused_at_end, first_is_bad, end_is_bad}
use Rattle.grind_syntax.proofs.parse.parse.Goals as goal

pub loop-rest-init : goal.loop-rest-init
loop-rest-init c =
    let text = c.args.text.now in
    let all = lexemes text c.args.tokens.now in
    let bound = c.as_slice-rest.ensures.bound in
    let same = c.as_slice-rest.ensures.value in
    let sizes : length c.as_slice-rest.result.now ≡ length c.args.tokens.now = ap length same in
    record {
      so_far = subst (λ x. FileSoFar text all x (lexemes text c.as_slice-rest.result.now) 0) (sym c.new-decls.ensures)
          (subst (λ x. FileSoFar text all [] (lexemes text x) 0) (sym same) (file_begin text all));
      kept = subst (All (IsPlacedDeclaration text)) (sym c.new-decls.ensures) (All-nil (IsPlacedDeclaration text));
      placed = subst (Placed text) (sym same) (placed_pieces text c.args.tokens.now c.requires);
      counts = omega arith;
    }

pub returns-in_default-clause-refused : goal.returns-in_default-clause-refused
returns-in_default-clause-refused c =
    let text = c.args.text.now in
    let split = rw c.in_default.is at c.split_at_dot.ensures.is in
    let some : 0 < length c.loop-rest.rest.now = omega arith in
    refused_at_end (lexemes text c.args.tokens.now) (lexemes text c.split_at_dot.result.0.now) (c.loop-rest.count + 1) c.unended.result c.unended.ensures
    (λ fault bad. end_is_bad text (lexemes text c.args.tokens.now) c.loop-rest.decls c.loop-rest.rest.now c.loop-rest.count c.split_at_dot.result.0.now fault
    c.loop-rest.invariant.so_far c.split_at_dot.ensures.undotted split some bad)

pub returns-in-Err-clause-refused : goal.returns-in-Err-clause-refused
returns-in-Err-clause-refused c =
    let text = c.args.text.now in
    let piece = lexemes text c.split_at_dot.result.0.now in
    let split = cut_lexemes text c.loop-rest.rest.now c.split_at_dot.result.0.now c.in-Some.left.now (rw c.in-Some.is at c.split_at_dot.ensures.is) in
    refused_here (lexemes text c.args.tokens.now) (judged piece) (c.loop-rest.count + 1) c.in-Err.refusal c.in-Err.ensures.refused
    (λ fault bad. first_is_bad text (lexemes text c.args.tokens.now) c.loop-rest.decls (lexemes text c.loop-rest.rest.now) c.loop-rest.count piece
    (lexemes text c.in-Some.left.now) fault c.loop-rest.invariant.so_far (undotted_piece text c.split_at_dot.result.0.now c.split_at_dot.ensures.undotted)
    split ((c.pieces_are_judged.ensures.faults piece fault).0 bad))

pub loop-rest-preserved : goal.loop-rest-preserved
loop-rest-preserved c =
    let text = c.args.text.now in
    let piece = lexemes text c.split_at_dot.result.0.now in
    let cut = rw c.in-Some.is at c.split_at_dot.ensures.is in
    let split = cut_lexemes text c.loop-rest.rest.now c.split_at_dot.result.0.now c.in-Some.left.now cut in
    let shorter = cut_shorter c.loop-rest.rest.now c.split_at_dot.result.0.now c.in-Some.left.now cut in
    let counts = c.loop-rest.invariant.counts in
    record {
      so_far = file_more text (lexemes text c.args.tokens.now) c.loop-rest.decls c.push.new.self (lexemes text c.loop-rest.rest.now) c.loop-rest.count piece
          (lexemes text c.in-Some.left.now) c.in-Ok.kept c.loop-rest.invariant.so_far c.in_ok-push.ensures.ok
          (undotted_piece text c.split_at_dot.result.0.now c.split_at_dot.ensures.undotted) split
          ((c.pieces_are_judged.ensures.declarations piece (declaration_kept text c.in-Ok.kept)).0 c.in-Ok.ensures.ok);
      kept = subst (All (IsPlacedDeclaration text)) (sym c.in_ok-push.ensures.ok)
          (All-append (IsPlacedDeclaration text) c.loop-rest.decls _ c.loop-rest.invariant.kept
          (All-cons (IsPlacedDeclaration text) c.in-Ok.kept [] c.in-Ok.ensures.placed (All-nil (IsPlacedDeclaration text))));
      placed = cut_placed text c.loop-rest.rest.now c.split_at_dot.result.0.now c.in-Some.left.now cut c.loop-rest.invariant.placed;
      counts = omega arith;
    }

pub returns-clause-ok : goal.returns-clause-ok
returns-clause-ok c =
    let text = c.args.text.now in
    let none : length c.loop-rest.rest.now ≡ 0 = omega arith in (
      map (declaration_kept text) c.loop-rest.decls,
      file_end text (lexemes text c.args.tokens.now) c.loop-rest.decls c.loop-rest.rest.now c.loop-rest.count c.loop-rest.invariant.so_far none,
      keeps_declarations text c.loop-rest.decls c.loop-rest.invariant.kept,
    )
