use Rattle.std.proofs.Common.{◌≡◌, ◌∙◌, ◌∷◌, ◌++◌, [], true, false, ap, sym, subst, rules, codes, FitsSigned, arith}
use Rattle.std.specs.Int.{w128}
use Rattle.std.specs.Str.{bytes_eq}
use Rattle.std.proofs.lemmas.Int.{to_z-of_z}
use Rattle.std.proofs.lemmas.List.Elements.{All-nil, All-cons, All-append}
use Rattle.grind_tokens.specs.declared.tokens.Sym.TheVariants as symbols
use Rattle.grind_grammar.specs.Keeps.{name_of}
use Rattle.grind_grammar.specs.Reading.{read, read_map, list_at, formula, is_name, all_of, applied, two, minus, product, sum, relation, negation, conj, disj, impl, formula_over}
use Rattle.grind_grammar.specs.Files.{depth_limit}
use Rattle.grind_syntax.specs.Levels.{level, level_over, ops_of}
use Rattle.grind_syntax.specs.Built.{term_given, one_times, IsPlacedBuilt, AreSidesPlaced, LeftSoFar, RightSoFar}
use Rattle.grind_syntax.proofs.Items.{map_none, map_read, closed_none, closed_open, closed_read, items_begin, items_next, items_last, items_none, reach_past, reach_on, reach_then_past, past_then_reach, past_is_reach, fewer_ahead}
use Rattle.grind_syntax.proofs.TermLemmas as steps
use Rattle.grind_syntax.proofs.Fronts.{ahead_enough}
use Rattle.grind_syntax.specs.Sources.{ahead, count_ahead, IsPast}
use Rattle.grind_syntax.proofs.terms.+terms.Goals as goal

-- the levels

pub read_level-returns-in-Atom-clause-is : goal.read_level-returns-in-Atom-clause-is
unfolding level_over
read_level-returns-in-Atom-clause-is t c = rw c.in-Atom.is c.atom.ensures.is

pub read_level-returns-in-Minus-clause-is : goal.read_level-returns-in-Minus-clause-is
unfolding level_over minus
read_level-returns-in-Minus-clause-is t c = rw c.in-Minus.is c.signed.ensures.is

pub read_level-returns-in-Product-clause-is : goal.read_level-returns-in-Product-clause-is
unfolding level_over product
read_level-returns-in-Product-clause-is t c = rw c.in-Product.is c.left_joined.ensures.is

pub read_level-returns-in-Sum-clause-is : goal.read_level-returns-in-Sum-clause-is
unfolding level_over sum
read_level-returns-in-Sum-clause-is t c = rw c.in-Sum.is c.left_joined-in-Sum.ensures.is

pub read_level-returns-in-Relation-clause-is : goal.read_level-returns-in-Relation-clause-is
unfolding level_over relation
read_level-returns-in-Relation-clause-is t c = rw c.in-Relation.is c.once.ensures.is

pub read_level-returns-in-Negation-clause-is : goal.read_level-returns-in-Negation-clause-is
unfolding level_over negation
read_level-returns-in-Negation-clause-is t c = rw c.in-Negation.is c.signed-in-Negation.ensures.is

pub read_level-returns-in-Conj-clause-is : goal.read_level-returns-in-Conj-clause-is
unfolding level_over conj
read_level-returns-in-Conj-clause-is t c = rw c.in-Conj.is c.left_joined-in-Conj.ensures.is

pub read_level-returns-in-Disj-clause-is : goal.read_level-returns-in-Disj-clause-is
unfolding level_over disj
read_level-returns-in-Disj-clause-is t c = rw c.in-Disj.is c.left_joined-in-Disj.ensures.is

pub read_level-returns-in-Impl-clause-is : goal.read_level-returns-in-Impl-clause-is
unfolding level_over impl
read_level-returns-in-Impl-clause-is t c = rw c.in-Impl.is c.right_joined.ensures.is

pub read_level-returns-in-Formula-clause-is : goal.read_level-returns-in-Formula-clause-is
unfolding level_over formula_over
read_level-returns-in-Formula-clause-is t c = rw c.in-Formula.is c.once-in-Formula.ensures.is

-- signs

pub signed-returns-in_default-clause-is : goal.signed-returns-in_default-clause-is
signed-returns-in_default-clause-is t c =
    let source = c.args.source.now in
    let text = source.text.now in
    c.signs-count.ensures.is depth_limit c.args.sign.op (level c.args.part c.args.room)
    ∙ map_none (one_times depth_limit c.args.sign.op _) _ (rw c.in_default.is at c.in_ok-term.ensures.is)

pub signed-returns-clause-is : goal.signed-returns-clause-is
signed-returns-clause-is t c =
    let source = c.args.source.now in
    let text = source.text.now in
    c.signs-count.ensures.is depth_limit c.args.sign.op (level c.args.part c.args.room)
    ∙ map_read (one_times depth_limit c.args.sign.op _) _ _ _ (rw c.in-Some.is at c.in_ok-term.ensures.is)
    ∙ ap (λ x. read x (ahead source c.in-Some.left)) (sym (c.in_ok-whole.ensures.is text))

pub signed-returns-clause-left : goal.signed-returns-clause-left
signed-returns-clause-left t c =
    let source = c.args.source.now in
    let text = source.text.now in
    let left = rw c.in-Some.is at c.in_ok-term.ensures.left in
    (c.in_ok-whole.ensures.placed text left.0, reach_on source c.args.at _ c.in-Some.left c.signs-count.ensures.left left.1)

-- to the left

pub left_joined-returns-in_default-clause-is : goal.left_joined-returns-in_default-clause-is
left_joined-returns-in_default-clause-is t c =
    steps.left_none depth_limit (ops_of c.args.ops) (level c.args.part c.args.room) _ (rw c.in_default.is at c.in_ok-first.ensures.is)

pub left_joined-loop-op-init : goal.left_joined-loop-op-init
left_joined-loop-op-init t c =
    let source = c.args.source.now in
    let text = source.text.now in
    let left = rw c.in-Some.is at c.in_ok-first.ensures.left in
    record {
      so_far = steps.left_begin depth_limit (ops_of c.args.ops) (level c.args.part c.args.room) (ahead source c.args.at)
          (term_given text c.in-Some.first) (ahead source c.in-Some.after) _ (rw c.in-Some.is at c.in_ok-first.ensures.is) (ahead_enough source c.in-Some.after);
      placed = left.0;
      behind = left.1;
    }

pub left_joined-returns-in_default-2-clause-is : goal.left_joined-returns-in_default-2-clause-is
left_joined-returns-in_default-2-clause-is t c =
    steps.left_fail depth_limit (ops_of c.args.ops) (level c.args.part c.args.room) _ _ _ _ c.loop-op.invariant.so_far _ _ c.in-Some-op_at.ensures.is
    (rw c.in_default-2.is at c.in_ok-next.ensures.is)

pub left_joined-loop-op-preserved : goal.left_joined-loop-op-preserved
left_joined-loop-op-preserved t c =
    let source = c.args.source.now in
    let text = source.text.now in
    let left = rw c.in-Some-2.is at c.in_ok-next.ensures.left in
    let past : IsPast source c.loop-op.rest c.in-Some-2.left =
    past_then_reach source c.loop-op.rest c.in-Some-op_at.mid c.in-Some-2.left c.in-Some-op_at.ensures.left left.1 in
    record {
      so_far = subst (λ x. LeftSoFar depth_limit (ops_of c.args.ops) (level c.args.part c.args.room) (ahead source c.args.at) x
          (ahead source c.in-Some-2.left) (count_ahead source c.in-Some-2.left))
          (sym (c.in_ok-whole.ensures.is text))
          (steps.left_next depth_limit (ops_of c.args.ops) (level c.args.part c.args.room) _ _ _ _ c.loop-op.invariant.so_far c.in-Some-op_at.op _
          (term_given text c.in-Some-2.next) _ (count_ahead source c.in-Some-2.left) c.in-Some-op_at.ensures.is (rw c.in-Some-2.is at c.in_ok-next.ensures.is) (fewer_ahead source _ _ past));
      placed = c.in_ok-whole.ensures.placed text c.loop-op.invariant.placed left.0;
      behind = reach_past source c.args.at c.loop-op.rest c.in-Some-2.left c.loop-op.invariant.behind past;
    }

pub left_joined-returns-clause-is : goal.left_joined-returns-clause-is
left_joined-returns-clause-is t c =
    steps.left_end depth_limit (ops_of c.args.ops) (level c.args.part c.args.room) _ _ _ _ c.loop-op.invariant.so_far c.in_default-op_at.ensures.is

-- to the right

pub right_joined-loop-sides-init : goal.right_joined-loop-sides-init
right_joined-loop-sides-init t c =
    let source = c.args.source.now in
    let text = source.text.now in
    rw c.new-sides.ensures record {
      so_far = steps.right_begin depth_limit (ops_of c.args.ops) (level c.args.part c.args.room) text (ahead source c.args.at) _ (ahead_enough source c.args.at);
      placed = All-nil (λ s. IsPlacedBuilt text s.side);
      behind = omega arith;
    }

pub right_joined-returns-in_default-op_at-clause-is : goal.right_joined-returns-in_default-op_at-clause-is
right_joined-returns-in_default-op_at-clause-is t c =
    let source = c.args.source.now in
    let text = source.text.now in
    steps.right_last depth_limit (ops_of c.args.ops) (level c.args.part c.args.room) text _ _ _ _ c.loop-sides.invariant.so_far
    (term_given text c.in-Some.side) (ahead source c.in-Some.after) (rw c.in-Some.is at c.in_ok-side.ensures.is) c.in_default-op_at.ensures.is
    ∙ ap (λ x. read x (ahead source c.in-Some.after)) (sym (c.in_ok-whole.ensures.is text))

pub right_joined-loop-sides-preserved : goal.right_joined-loop-sides-preserved
right_joined-loop-sides-preserved t c =
    let source = c.args.source.now in
    let text = source.text.now in
    let left = rw c.in-Some.is at c.in_ok-side.ensures.left in
    let past : IsPast source c.loop-sides.rest c.in-Some-op_at.left =
    reach_then_past source c.loop-sides.rest c.in-Some.after c.in-Some-op_at.left left.1 c.in-Some-op_at.ensures.left in
    record {
      so_far = subst (λ xs. RightSoFar depth_limit (ops_of c.args.ops) (level c.args.part c.args.room) text (ahead source c.args.at) xs
          (ahead source c.in-Some-op_at.left) (count_ahead source c.in-Some-op_at.left))
          (sym c.in_ok-push.ensures.ok)
          (steps.right_more depth_limit (ops_of c.args.ops) (level c.args.part c.args.room) text _ _ _ _ c.loop-sides.invariant.so_far
          record { side = c.in-Some.side; op = c.in-Some-op_at.op } (ahead source c.in-Some.after) (ahead source c.in-Some-op_at.left)
          (count_ahead source c.in-Some-op_at.left) (rw c.in-Some.is at c.in_ok-side.ensures.is) c.in-Some-op_at.ensures.is (fewer_ahead source _ _ past));
      placed = subst (AreSidesPlaced text) (sym c.in_ok-push.ensures.ok)
          (All-append (λ s. IsPlacedBuilt text s.side) c.loop-sides.sides _ c.loop-sides.invariant.placed
          (All-cons (λ s. IsPlacedBuilt text s.side) _ [] left.0 (All-nil (λ s. IsPlacedBuilt text s.side))));
      behind = reach_past source c.args.at c.loop-sides.rest c.in-Some-op_at.left c.loop-sides.invariant.behind past;
    }

pub right_joined-returns-clause-is : goal.right_joined-returns-clause-is
right_joined-returns-clause-is t c =
    steps.right_none depth_limit (ops_of c.args.ops) (level c.args.part c.args.room) c.args.source.now.text.now _ _ _ _ c.loop-sides.invariant.so_far
    (rw c.in_default.is at c.in_ok-side.ensures.is)

-- once

pub once-returns-in_default-clause-is : goal.once-returns-in_default-clause-is
once-returns-in_default-clause-is t c =
    let part = level c.args.part c.args.room in
    steps.once_none depth_limit (ops_of c.args.ops) part part _ (rw c.in_default.is at c.in_ok-first.ensures.is)

pub once-returns-in_default-op_at-clause-is : goal.once-returns-in_default-op_at-clause-is
once-returns-in_default-op_at-clause-is t c =
    let part = level c.args.part c.args.room in
    steps.once_one depth_limit (ops_of c.args.ops) part part _ _ _ (rw c.in-Some.is at c.in_ok-first.ensures.is) c.in_default-op_at.ensures.is

pub once-returns-in_default-2-clause-is : goal.once-returns-in_default-2-clause-is
once-returns-in_default-2-clause-is t c =
    let part = level c.args.part c.args.room in
    steps.once_behind depth_limit (ops_of c.args.ops) part part _ _ _ (rw c.in-Some.is at c.in_ok-first.ensures.is) _ _ c.in-Some-op_at.ensures.is
    ∙ map_none _ _ (rw c.in_default-2.is at c.in_ok-second.ensures.is)

pub once-returns-clause-is : goal.once-returns-clause-is
once-returns-clause-is t c =
    let source = c.args.source.now in
    let text = source.text.now in
    let part = level c.args.part c.args.room in
    steps.once_behind depth_limit (ops_of c.args.ops) part part _ _ _ (rw c.in-Some.is at c.in_ok-first.ensures.is) _ _ c.in-Some-op_at.ensures.is
    ∙ map_read (two depth_limit c.in-Some-op_at.op (term_given text c.in-Some.first)) _ _ _ (rw c.in-Some-2.is at c.in_ok-second.ensures.is)
    ∙ ap (λ x. read x (ahead source c.in-Some-2.left)) (sym (c.in_ok-whole.ensures.is text))

pub once-returns-clause-left : goal.once-returns-clause-left
once-returns-clause-left t c =
    let source = c.args.source.now in
    let text = source.text.now in
    let first = rw c.in-Some.is at c.in_ok-first.ensures.left in
    let second = rw c.in-Some-2.is at c.in_ok-second.ensures.left in (
      c.in_ok-whole.ensures.placed text first.0 second.0,
      reach_on source c.args.at c.in-Some-op_at.mid c.in-Some-2.left
          (reach_past source c.args.at c.in-Some.after c.in-Some-op_at.mid first.1 c.in-Some-op_at.ensures.left) second.1,
    )

-- atoms

pub atom-returns-in-Some-clause-is : goal.atom-returns-in-Some-clause-is
atom-returns-in-Some-clause-is t c =
    let source = c.args.source.now in
    let text = source.text.now in
    let fits : FitsSigned w128 c.in-Some.value = search rules in
    let built = simp (to_z-of_z w128 c.in-Some.value fits) at (c.fit.ensures.is text) in
    steps.atom_number depth_limit (formula depth_limit c.args.room) (ahead source c.args.at) c.in-Some.value (ahead source c.in-Some.left) c.in-Some.ensures.is
    ∙ ap (λ x. read x (ahead source c.in-Some.left)) (sym built)

pub atom-returns-in-Some-clause-left : goal.atom-returns-in-Some-clause-left
atom-returns-in-Some-clause-left t c =
    let source = c.args.source.now in
    let text = source.text.now in
    (c.fit.ensures.placed text tt, past_is_reach source c.args.at c.in-Some.left c.in-Some.ensures.left)

pub atom-returns-in-Some-word_at-clause-is : goal.atom-returns-in-Some-word_at-clause-is
atom-returns-in-Some-word_at-clause-is t c =
    let source = c.args.source.now in
    let text = source.text.now in
    rw (steps.atom_word depth_limit (formula depth_limit c.args.room) (ahead source c.args.at) (name_of text c.in-Some-word_at.name)
    (ahead source c.in-Some-word_at.left) c.in-Some-word_at.ensures.is) c.in_ok-answer.ensures.is

pub atom-returns-in_default-symbol_at-clause-is : goal.atom-returns-in_default-symbol_at-clause-is
atom-returns-in_default-symbol_at-clause-is t c =
    steps.atom_none depth_limit (formula depth_limit c.args.room) _ c.in_default.ensures.is c.in_default-word_at.ensures.is c.in_default-symbol_at.ensures.is

pub atom-returns-clause-is : goal.atom-returns-clause-is
atom-returns-clause-is t c =
    let source = c.args.source.now in
    let text = source.text.now in
    rw (steps.atom_inside depth_limit (formula depth_limit c.args.room) (ahead source c.args.at) (ahead source c.in-Some-symbol_at.mid)
    c.in-Some-symbol_at.ensures.is) c.in_ok-answer-2.ensures.is

-- parentheses

pub inside-returns-then-room-eq0-clause-is : goal.inside-returns-then-room-eq0-clause-is
inside-returns-then-room-eq0-clause-is t c =
    closed_none symbols.RightParen _ (steps.no_room depth_limit c.args.room (ahead c.args.source.now c.args.at) c.if-room-eq0.true)

pub inside-returns-in_default-clause-is : goal.inside-returns-in_default-clause-is
inside-returns-in_default-clause-is t c =
    let ls = ahead c.args.source.now c.args.at in
    closed_none symbols.RightParen _
    (ap (λ r. r ls) (steps.formula_is c.args.room c.if-room-eq0.false) ∙ (rw c.in_default.is at c.in_ok-term.ensures.is))

pub inside-returns-in_default-symbol_at-clause-is : goal.inside-returns-in_default-symbol_at-clause-is
inside-returns-in_default-symbol_at-clause-is t c =
    let ls = ahead c.args.source.now c.args.at in
    closed_open symbols.RightParen _ _ _
    (ap (λ r. r ls) (steps.formula_is c.args.room c.if-room-eq0.false) ∙ (rw c.in-Some.is at c.in_ok-term.ensures.is)) c.in_default-symbol_at.ensures.is

pub inside-returns-clause-is : goal.inside-returns-clause-is
inside-returns-clause-is t c =
    let ls = ahead c.args.source.now c.args.at in
    closed_read symbols.RightParen _ _ _ _
    (ap (λ r. r ls) (steps.formula_is c.args.room c.if-room-eq0.false) ∙ (rw c.in-Some.is at c.in_ok-term.ensures.is)) c.in-Some-symbol_at.ensures.is

pub inside_parts-returns-then-room-eq0-clause-is : goal.inside_parts-returns-then-room-eq0-clause-is
inside_parts-returns-then-room-eq0-clause-is t c =
    closed_none symbols.RightParen _ (steps.no_room_parts depth_limit c.args.room (ahead c.args.source.now c.args.at) c.if-room-eq0.true)

pub inside_parts-returns-in_default-clause-is : goal.inside_parts-returns-in_default-clause-is
inside_parts-returns-in_default-clause-is t c =
    let ls = ahead c.args.source.now c.args.at in
    closed_none symbols.RightParen _
    (ap (λ r. list_at r symbols.Comma ls) (steps.formula_is c.args.room c.if-room-eq0.false) ∙ (rw c.in_default.is at c.in_ok-parts.ensures.is))

pub inside_parts-returns-in_default-symbol_at-clause-is : goal.inside_parts-returns-in_default-symbol_at-clause-is
inside_parts-returns-in_default-symbol_at-clause-is t c =
    let ls = ahead c.args.source.now c.args.at in
    steps.parts_open (list_at (formula depth_limit c.args.room) symbols.Comma ls) _ _
    (ap (λ r. read_map all_of (list_at r symbols.Comma ls)) (steps.formula_is c.args.room c.if-room-eq0.false)
    ∙ (rw c.in-Some.is at c.in_ok-parts.ensures.is)) c.in_default-symbol_at.ensures.is

pub inside_parts-returns-clause-is : goal.inside_parts-returns-clause-is
inside_parts-returns-clause-is t c =
    let ls = ahead c.args.source.now c.args.at in
    steps.parts_closed (list_at (formula depth_limit c.args.room) symbols.Comma ls) _ _ _
    (ap (λ r. read_map all_of (list_at r symbols.Comma ls)) (steps.formula_is c.args.room c.if-room-eq0.false)
    ∙ (rw c.in-Some.is at c.in_ok-parts.ensures.is)) c.in-Some-symbol_at.ensures.is

-- words

pub word-returns-then-is_same-clause-is : goal.word-returns-then-is_same-clause-is
word-returns-then-is_same-clause-is t c =
    let source = c.args.source.now in
    let text = source.text.now in
    let is : bytes_eq (name_of text c.args.name) (codes "true") ≡ true = cc in
    steps.word_true depth_limit (formula depth_limit c.args.room) (name_of text c.args.name) (ahead source c.args.at) is
    ∙ ap (λ x. read x (ahead source c.args.at)) (sym (c.fit.ensures.is text))

pub word-returns-then-is_same-clause-left : goal.word-returns-then-is_same-clause-left
word-returns-then-is_same-clause-left t c =
    let source = c.args.source.now in
    let text = source.text.now in
    (c.fit.ensures.placed text tt, omega arith)

pub word-returns-then-is_same-2-clause-is : goal.word-returns-then-is_same-2-clause-is
word-returns-then-is_same-2-clause-is t c =
    let source = c.args.source.now in
    let text = source.text.now in
    let other : bytes_eq (name_of text c.args.name) (codes "true") ≡ false = cc in
    let is : bytes_eq (name_of text c.args.name) (codes "false") ≡ true = cc in
    steps.word_false depth_limit (formula depth_limit c.args.room) (name_of text c.args.name) (ahead source c.args.at) other is
    ∙ ap (λ x. read x (ahead source c.args.at)) (sym (c.fit-then-is_same-2.ensures.is text))

pub word-returns-then-is_same-2-clause-left : goal.word-returns-then-is_same-2-clause-left
word-returns-then-is_same-2-clause-left t c =
    let source = c.args.source.now in
    let text = source.text.now in
    (c.fit-then-is_same-2.ensures.placed text tt, omega arith)

pub word-returns-then-not-is_name-clause-is : goal.word-returns-then-not-is_name-clause-is
word-returns-then-not-is_name-clause-is t c =
    let source = c.args.source.now in
    let text = source.text.now in
    let true_not : bytes_eq (name_of text c.args.name) (codes "true") ≡ false = cc in
    let false_not : bytes_eq (name_of text c.args.name) (codes "false") ≡ false = cc in
    let named_not : is_name (name_of text c.args.name) ≡ false = cc in
    steps.word_reserved depth_limit (formula depth_limit c.args.room) (name_of text c.args.name) (ahead source c.args.at) true_not false_not named_not

pub word-returns-in_default-clause-is : goal.word-returns-in_default-clause-is
word-returns-in_default-clause-is t c =
    let source = c.args.source.now in
    let text = source.text.now in
    let true_not : bytes_eq (name_of text c.args.name) (codes "true") ≡ false = cc in
    let false_not : bytes_eq (name_of text c.args.name) (codes "false") ≡ false = cc in
    let named : is_name (name_of text c.args.name) ≡ true = cc in
    steps.word_constant depth_limit (formula depth_limit c.args.room) (name_of text c.args.name) (ahead source c.args.at) true_not false_not named
    c.in_default.ensures.is
    ∙ ap (λ x. read x (ahead source c.args.at))
    (sym (c.applied.ensures.is text ∙ ap (applied depth_limit (name_of text c.args.name)) (c.no_parts.ensures text).0
    ∙ steps.applied_to_none depth_limit (name_of text c.args.name)))

pub word-returns-in_default-2-clause-is : goal.word-returns-in_default-2-clause-is
word-returns-in_default-2-clause-is t c =
    let source = c.args.source.now in
    let text = source.text.now in
    let true_not : bytes_eq (name_of text c.args.name) (codes "true") ≡ false = cc in
    let false_not : bytes_eq (name_of text c.args.name) (codes "false") ≡ false = cc in
    let named : is_name (name_of text c.args.name) ≡ true = cc in
    steps.word_parts depth_limit (formula depth_limit c.args.room) (name_of text c.args.name) (ahead source c.args.at) true_not false_not named
    (ahead source c.in-Some.mid) c.in-Some.ensures.is
    ∙ map_none _ _ (rw c.in_default-2.is at c.in_ok-parts.ensures.is)

pub word-returns-clause-is : goal.word-returns-clause-is
word-returns-clause-is t c =
    let source = c.args.source.now in
    let text = source.text.now in
    let true_not : bytes_eq (name_of text c.args.name) (codes "true") ≡ false = cc in
    let false_not : bytes_eq (name_of text c.args.name) (codes "false") ≡ false = cc in
    let named : is_name (name_of text c.args.name) ≡ true = cc in
    steps.word_parts depth_limit (formula depth_limit c.args.room) (name_of text c.args.name) (ahead source c.args.at) true_not false_not named
    (ahead source c.in-Some.mid) c.in-Some.ensures.is
    ∙ steps.parts_applied depth_limit (name_of text c.args.name) _ _ _ (rw c.in-Some-2.is at c.in_ok-parts.ensures.is)
    ∙ ap (λ x. read x (ahead source c.in-Some-2.left)) (sym (c.applied-2.ensures.is text))

-- parts

pub read_parts-loop-parts-init : goal.read_parts-loop-parts-init
read_parts-loop-parts-init t c =
    let source = c.args.source.now in
    let text = source.text.now in
    record {
      done = [];
      so_far = items_begin (level c.args.of c.args.room) c.args.separator (ahead source c.args.at) _ (ahead_enough source c.args.at);
      all = (c.no_parts-parts.ensures text).0 ∙ sym steps.all_none;
      placed = (c.no_parts-parts.ensures text).1;
      behind = omega arith;
    }

pub read_parts-returns-in_default-symbol_at-clause-is : goal.read_parts-returns-in_default-symbol_at-clause-is
read_parts-returns-in_default-symbol_at-clause-is t c =
    let source = c.args.source.now in
    let text = source.text.now in
    map_read all_of _ _ _
    (items_last (level c.args.of c.args.room) c.args.separator _ _ _ _ c.loop-parts.invariant.so_far (term_given text c.in-Some.part)
    (ahead source c.in-Some.after) (rw c.in-Some.is at c.in_ok-part.ensures.is) c.in_default-symbol_at.ensures.is)
    ∙ ap (λ ts. read ts (ahead source c.in-Some.after))
    (sym (steps.more_given text c.loop-parts.parts c.in_ok-parts.parts c.in-Some.part c.loop-parts.invariant.done c.loop-parts.invariant.all
    (c.in_ok-parts.ensures.is text)))

pub read_parts-loop-parts-preserved : goal.read_parts-loop-parts-preserved
read_parts-loop-parts-preserved t c =
    let source = c.args.source.now in
    let text = source.text.now in
    let left = rw c.in-Some.is at c.in_ok-part.ensures.left in
    let past : IsPast source c.loop-parts.rest c.in-Some-symbol_at.left =
    reach_then_past source c.loop-parts.rest c.in-Some.after c.in-Some-symbol_at.left left.1 c.in-Some-symbol_at.ensures.left in
    record {
      done = c.loop-parts.invariant.done ++ term_given text c.in-Some.part ∷ [];
      so_far = items_next (level c.args.of c.args.room) c.args.separator _ _ _ _ c.loop-parts.invariant.so_far (term_given text c.in-Some.part)
          (ahead source c.in-Some.after) (ahead source c.in-Some-symbol_at.left) (count_ahead source c.in-Some-symbol_at.left)
          (rw c.in-Some.is at c.in_ok-part.ensures.is) c.in-Some-symbol_at.ensures.is (fewer_ahead source _ _ past);
      all = steps.more_given text c.loop-parts.parts c.in_ok-parts.parts c.in-Some.part c.loop-parts.invariant.done c.loop-parts.invariant.all
          (c.in_ok-parts.ensures.is text);
      placed = c.in_ok-parts.ensures.placed text c.loop-parts.invariant.placed left.0;
      behind = reach_past source c.args.at c.loop-parts.rest c.in-Some-symbol_at.left c.loop-parts.invariant.behind past;
    }

pub read_parts-returns-clause-is : goal.read_parts-returns-clause-is
read_parts-returns-clause-is t c =
    items_none (level c.args.of c.args.room) c.args.separator _ _ _ _ c.loop-parts.invariant.so_far (rw c.in_default.is at c.in_ok-part.ensures.is)
