-- Monomials as keys of a map, the greatest first, and that this order is total.
use Rattle.std.proofs.Common.{◌≡◌, ℕ, List, arith, sym, ap, ◌∙◌, refl}
use Rattle.std.specs.Cmp.{IsTotalOrder}
use Rattle.std.specs.Ordering.{ordering_reverse}
use Rattle.std.specs.declared.cmp.Ordering.{Ordering}
use Rattle.std.specs.declared.cmp.Ordering.TheVariants.{Less, Equal, Greater}
use Rattle.grind_monomials.specs.declared.order.Place.{Place}
use Rattle.grind_monomials.specs.declared.order.Place.TheVariants.{Above, Same, Below}
use Rattle.grind_monomials.specs.Order.{place}
use Rattle.grind_monomials.proofs.Clauses.{place-one}
use Rattle.grind_monomials.proofs.Orders.{same-not_above, nodes-itself, place-same, place-turn, place-chain}

-- how a key is to another whose monomial stands so beside its own
abbrev pub order_of : Place → Ordering
order_of Above = Greater
order_of Same = Equal
order_of Below = Less

-- of two monomials the greater comes first
abbrev pub descending : List ℕ → List ℕ → Ordering
descending a b = order_of (place b a)

-- ---- the order is total
place-itself : (a : List ℕ) → place a a ≡ Same
place-itself a = place-one a a (omega arith) (omega arith) ∙ nodes-itself a

turn-above : (a b : List ℕ) → place a b ≡ Above → place b a ≡ Below
turn-above a b e = at_place (place b a) refl
  where
    at_place : (p : Place) → place b a ≡ p → place b a ≡ Below
    at_place Above f = absurd (same-not_above (sym (place-itself a) ∙ place-chain a b a e f))
    at_place Same f = absurd (same-not_above (sym (place-itself a) ∙ ap (place a) (sym (place-same b a f)) ∙ e))
    at_place Below f = f

turn-same : (a b : List ℕ) → place a b ≡ Same → place b a ≡ Same
turn-same a b e = ap (λ (c : List ℕ). place c a) (sym (place-same a b e)) ∙ place-itself a

is_less : (p : Place) → order_of p ≡ Less → p ≡ Below
is_less Above e = absurd cc
is_less Same e = absurd cc
is_less Below e = refl

is_equal : (p : Place) → order_of p ≡ Equal → p ≡ Same
is_equal Above e = absurd cc
is_equal Same e = refl
is_equal Below e = absurd cc

descending-turned : (a b : List ℕ) → descending a b ≡ ordering_reverse (descending b a)
descending-turned a b = at_place (place b a) refl
  where
    at_place : (p : Place) → place b a ≡ p → order_of (place b a) ≡ ordering_reverse (order_of (place a b))
    at_place Above e = (λ i. order_of (e i)) ∙ (λ i. ordering_reverse (order_of (sym (turn-above b a e) i)))
    at_place Same e = (λ i. order_of (e i)) ∙ (λ i. ordering_reverse (order_of (sym (turn-same b a e) i)))
    at_place Below e = (λ i. order_of (e i)) ∙ (λ i. ordering_reverse (order_of (sym (place-turn b a e) i)))

descending-chain : (a b c : List ℕ) → descending a b ≡ Less → descending b c ≡ Less → descending a c ≡ Less
descending-chain a b c e f =
    let first = place-turn b a (is_less (place b a) e) in
    let second = place-turn c b (is_less (place c b) f) in
    ap order_of (turn-above a c (place-chain a b c first second))

descending-same : (a b c : List ℕ) → descending a b ≡ Equal → descending a c ≡ descending b c
descending-same a b c e = ap (λ (d : List ℕ). descending d c) (sym (place-same b a (is_equal (place b a) e)))

pub descending_total : IsTotalOrder descending
descending_total = record { antisymm = descending-turned; trans = descending-chain; congr = descending-same }
