use Rattle.std.proofs.Common.{◌≡◌, ◌∙◌, [], length, ap, sym, subst}
use Rattle.grind_syntax.specs.Places.{Placed}
use Rattle.grind_syntax.specs.Pieces.{AreUndotted, IsCut}
use Rattle.grind_syntax.proofs.FileLemmas.{piece_is, rest_is, placed_piece, cut_here, only_piece, nothing_left}
use Rattle.grind_syntax.proofs.pieces.split_at_dot.Goals as goal

pub returns-in_default-clause-undotted : goal.returns-in_default-clause-undotted
returns-in_default-clause-undotted c =
    let d = c.len_to_dot.ensures in
    subst AreUndotted (sym (c.split_at.ensures.front ∙ piece_is c.args.tokens.now d.piece d.after _ d.whole d.counted)) d.undotted

pub returns-in_default-clause-placed : goal.returns-in_default-clause-placed
returns-in_default-clause-placed c = λ text h.
    let d = c.len_to_dot.ensures in
    subst (Placed text) (sym (c.split_at.ensures.front ∙ piece_is c.args.tokens.now d.piece d.after _ d.whole d.counted))
    (placed_piece text c.args.tokens.now d.piece d.after d.whole h)

pub returns-in_default-clause-is : goal.returns-in_default-clause-is
returns-in_default-clause-is c =
    let d = c.len_to_dot.ensures in
    let after = c.split_at.ensures.back ∙ rest_is c.args.tokens.now d.piece d.after _ d.whole d.counted in
    let front = c.split_at.ensures.front ∙ piece_is c.args.tokens.now d.piece d.after _ d.whole d.counted in
    let none : d.after ≡ [] = nothing_left d.after (ap length (sym after) ∙ c.in_default.ensures.cases) in
    front ∙ only_piece c.args.tokens.now d.piece d.after d.whole none

pub returns-clause-undotted : goal.returns-clause-undotted
returns-clause-undotted c =
    let d = c.len_to_dot.ensures in
    subst AreUndotted (sym (c.split_at.ensures.front ∙ piece_is c.args.tokens.now d.piece d.after _ d.whole d.counted)) d.undotted

pub returns-clause-placed : goal.returns-clause-placed
returns-clause-placed c = λ text h.
    let d = c.len_to_dot.ensures in
    subst (Placed text) (sym (c.split_at.ensures.front ∙ piece_is c.args.tokens.now d.piece d.after _ d.whole d.counted))
    (placed_piece text c.args.tokens.now d.piece d.after d.whole h)

pub returns-clause-is : goal.returns-clause-is
returns-clause-is c =
    let d = c.len_to_dot.ensures in
    let after = c.split_at.ensures.back ∙ rest_is c.args.tokens.now d.piece d.after _ d.whole d.counted in
    let front = c.split_at.ensures.front ∙ piece_is c.args.tokens.now d.piece d.after _ d.whole d.counted in
    subst (λ piece. IsCut c.args.tokens.now piece c.in-Some.left.now) (sym front)
    (cut_here c.args.tokens.now d.piece d.after c.in-Some.left.now _ d.whole d.ends (sym after ∙ c.in-Some.ensures.cases.0))
