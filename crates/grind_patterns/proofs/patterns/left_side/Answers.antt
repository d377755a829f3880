use Rattle.std.proofs.Common.{rules, [], ◌∷◌, refl, sym, subst}
use Rattle.grind_patterns.specs.Patterns.{IsEquation}
use Rattle.grind_patterns.proofs.patterns.left_side.Goals as goal

pub returns-in_default : goal.returns-in_default
returns-in_default c = λ chosen h.
    c.in_default.ensures.none (search rules) h.0 h.1 (subst (IsEquation h.0 h.1) (sym c.conclusion.ensures) h.2)

pub returns : goal.returns
returns c =
    let is = subst (IsEquation c.in-Some.left.now c.in-Some._right.now) c.conclusion.ensures c.in-Some.ensures.sides in
    (c.in-Some.left.now ∷ [], (c.in-Some.left.now, c.in-Some._right.now, is, refl), c.in_ok-terms.ensures)
