-- Lists that begin with others.
use Rattle.std.specs.Prelude.{◌≡◌, ℕ, ◌≤◌, List, [], ◌++◌, Some, length, take, drop, slice_get}
use Rattle.std.proofs.Common.{arith, sym, ap, ◌∙◌, subst, append_assoc}
use Rattle.std.proofs.lemmas.List.{append-nil, length-append, take-append-drop}
use Rattle.std.proofs.Math.Seq.{take-append_seam}
use Rattle.grind_term_graph.specs.declared.node.Node.{Node}
use Rattle.grind_term_graph.specs.Beginnings.{BeginsWith}
use Rattle.grind_term_graph.proofs.Placing.{slice_get-append}

-- a list begins with itself
pub BeginsWith-refl : {A : Type 0} (xs : List A) → BeginsWith xs xs
BeginsWith-refl xs = ([], sym (append-nil xs))

-- what begins with a list that begins with another begins with that
pub BeginsWith-trans : {A : Type 0} (a b c : List A) → BeginsWith a b → BeginsWith b c → BeginsWith a c
BeginsWith-trans {A} a b c (xs, e) (ys, f) = (xs ++ ys, f ∙ ap (λ (zs : List A). zs ++ ys) e ∙ append_assoc a xs ys)

-- it is no shorter
pub BeginsWith-length : {A : Type 0} (a b : List A) → BeginsWith a b → length a ≤ length b
BeginsWith-length a b (xs, e) = omega (arith, ap length e, length-append a xs)

-- its first items are that list
pub BeginsWith-take : {A : Type 0} (front whole : List A) → BeginsWith front whole → take (length front) whole ≡ front
BeginsWith-take front whole (rest, e) = ap (take (length front)) e ∙ take-append_seam front rest

-- a list whose first items are another begins with it
pub BeginsWith-of_take : {A : Type 0} (front whole : List A) → take (length front) whole ≡ front → BeginsWith front whole
BeginsWith-of_take {A} front whole e = (
  drop (length front) whole,
  sym (take-append-drop (length front) whole) ∙ ap (λ (first : List A). first ++ drop (length front) whole) e,
)

-- a node keeps its number where the nodes grow
pub slice_get-grows : (before after : List Node) (id : ℕ) (node : Node) → BeginsWith before after
    → slice_get before id ≡ Some node → slice_get after id ≡ Some node
slice_get-grows before after id node grows e =
    subst (λ (ns : List Node). slice_get ns id ≡ Some node) (sym grows.1) (slice_get-append before grows.0 id node e)
