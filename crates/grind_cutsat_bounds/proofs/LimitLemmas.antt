-- Bounds of an atom as limits, and the number nearest to 0 within limits.
use Rattle.std.proofs.Common.{◌≡◌, ◌↔◌, zero, suc, ◌≤◌, ℤ, pos, negsuc, ◌+ℤ◌, ◌*ℤ◌, neg_ℤ, ◌≤ℤ◌, ◌<ℤ◌, Option, Some, arith, refl, sym, ◌∙◌, subst}
use borrow.Author.Differences.{ints}
use Rattle.grind_lemmas.specs.Rounding.{IsCeil}
use Rattle.grind_lemmas.proofs.Rings.{linear, int_mul-neg, int_neg-mul}
use Rattle.grind_lemmas.proofs.Orders.{int_mul-le, ceil-at_most}
use Rattle.grind_cutsat_bounds.specs.declared.limits.Limits.{Limits}
use Rattle.grind_cutsat_bounds.specs.Nearest.{distance, IsNearest, IsGreatest}
use Rattle.grind_cutsat_bounds.specs.Limits.{magnitude, limits_of, AtLeast, IsUnder, IsWithin}

-- g times s and a number are together at most 0 exactly where the number divided by g, rounded up, is at most the negation of s
bound_iff : (g s r q : ℤ) → pos 0 <ℤ g → IsCeil r g q → ((g *ℤ s +ℤ r) ≤ℤ pos 0) ↔ (q ≤ℤ neg_ℤ s)
bound_iff g s r q p ceil = (
  λ h. let below = ceil-at_most r g q s p ceil h in omega (arith, linear),
  λ h.
      let low : pos 0 ≤ℤ g = omega (arith, linear) in
      let least : s ≤ℤ neg_ℤ q = omega (arith, linear) in
      let product = int_mul-le g s (neg_ℤ q) low least in
      let sign = int_mul-neg g q in
      let above = ceil.above in omega (arith, linear),
)

-- an upper bound
upper_iff : (c n r q : ℤ) → pos 0 <ℤ c → IsCeil r (magnitude c) q → ((c *ℤ n +ℤ r) ≤ℤ pos 0) ↔ (q ≤ℤ neg_ℤ n)
upper_iff (pos c) n r q p ceil = bound_iff (pos c) n r q p ceil
upper_iff (negsuc c) n r q p ceil = absurd (omega (arith, ints))

-- a lower bound
lower_iff : (c n r q : ℤ) → c <ℤ pos 0 → IsCeil r (magnitude c) q → ((c *ℤ n +ℤ r) ≤ℤ pos 0) ↔ (q ≤ℤ n)
lower_iff (pos c) n r q p ceil = absurd (omega (arith, ints))
lower_iff (negsuc c) n r q p ceil =
    let positive : pos 0 <ℤ pos (suc c) = omega (arith, ints) in
    let one = bound_iff (pos (suc c)) (neg_ℤ n) r q positive ceil in
    let product = int_mul-neg (pos (suc c)) n ∙ sym (int_neg-mul (pos (suc c)) n) in
    let twice : neg_ℤ (neg_ℤ n) ≡ n = omega (arith, linear) in (
      λ h. subst (λ (z : ℤ). q ≤ℤ z) twice (one.0 (subst (λ (z : ℤ). (z +ℤ r) ≤ℤ pos 0) (sym product) h)),
      λ h. subst (λ (z : ℤ). (z +ℤ r) ≤ℤ pos 0) product (one.1 (subst (λ (z : ℤ). q ≤ℤ z) (sym twice) h)),
    )

-- the limits once an upper bound is read
module _ (low high new : Option ℤ) (c r q : ℤ) (over : pos 0 <ℤ c) (ceil : IsCeil r (magnitude c) q)
    (grows : (m : ℤ) → AtLeast new m ↔ (AtLeast high m × (q ≤ℤ m))) where
  pub within_upper : (n : ℤ) → IsWithin (limits_of low new) n ↔ (IsWithin (limits_of low high) n × ((c *ℤ n +ℤ r) ≤ℤ pos 0))
  within_upper n =
      let says = upper_iff c n r q over ceil in
      let both = grows (neg_ℤ n) in (
        λ h. let parts = both.0 h.1 in ((h.0, parts.0), says.1 parts.1),
        λ h. (h.0.0, both.1 (h.0.1, says.0 h.1)),
      )

  pub under_upper : (n : ℤ) → IsUnder (limits_of low new) n
      ↔ (IsUnder (limits_of low high) n × (pos 0 <ℤ c → (c *ℤ n +ℤ r) ≤ℤ pos 0))
  under_upper n =
      let says = upper_iff c n r q over ceil in
      let both = grows (neg_ℤ n) in (
        λ h. let parts = both.0 h in (parts.0, λ _. says.1 parts.1),
        λ h. both.1 (h.0, says.0 (h.1 over)),
      )

-- the limits once a lower bound is read
module _ (low high new : Option ℤ) (c r q : ℤ) (below : c <ℤ pos 0) (ceil : IsCeil r (magnitude c) q)
    (grows : (m : ℤ) → AtLeast new m ↔ (AtLeast low m × (q ≤ℤ m))) where
  pub within_lower : (n : ℤ) → IsWithin (limits_of new high) n ↔ (IsWithin (limits_of low high) n × ((c *ℤ n +ℤ r) ≤ℤ pos 0))
  within_lower n =
      let says = lower_iff c n r q below ceil in
      let both = grows n in (
        λ h. let parts = both.0 h.0 in ((parts.0, h.1), says.1 parts.1),
        λ h. (both.1 (h.0.0, says.0 h.1), h.0.1),
      )

  pub under_lower : (n : ℤ) → IsUnder (limits_of new high) n
      ↔ (IsUnder (limits_of low high) n × (pos 0 <ℤ c → (c *ℤ n +ℤ r) ≤ℤ pos 0))
  under_lower n = (λ h. (h, λ over. absurd (contrary over)), λ h. h.0)
    where
      contrary : pos 0 <ℤ c → ⊥
      contrary over = let under = below in omega (arith, linear)

distance_above : (a b : ℤ) → pos 0 ≤ℤ a → a ≤ℤ b → distance a ≤ distance b
distance_above (pos a) (pos b) p q = omega (arith, ints)
distance_above (pos a) (negsuc b) p q = absurd (omega (arith, ints))
distance_above (negsuc a) b p q = absurd (omega (arith, ints))

distance_below : (a b : ℤ) → a ≤ℤ pos 0 → b ≤ℤ a → distance a ≤ distance b
distance_below (pos a) (pos b) p q = omega (arith, ints)
distance_below (pos a) (negsuc b) p q = omega (arith, ints)
distance_below (negsuc a) (pos b) p q = absurd (omega (arith, ints))
distance_below (negsuc a) (negsuc b) p q = omega (arith, ints)

same_distance : (a b : ℤ) → pos 0 ≤ℤ a → a ≤ℤ b → distance b ≡ distance a → b ≤ℤ a
same_distance (pos a) (pos b) p q e = omega (arith, ints)
same_distance (pos a) (negsuc b) p q e = absurd (omega (arith, ints))
same_distance (negsuc a) b p q e = absurd (omega (arith, ints))

no_distance : (b : ℤ) → distance b ≡ 0 → b ≤ℤ pos 0
no_distance (pos b) e = omega (arith, ints)
no_distance (negsuc b) e = omega (arith, ints)

-- a number over 0 that is the least is nearest to 0
pub nearest_above : (P : ℤ → Type 0) (l : ℤ) → P l → pos 0 <ℤ l → ((n : ℤ) → P n → l ≤ℤ n) → IsNearest P l
nearest_above P l h p least =
    let low : pos 0 ≤ℤ l = omega (arith, linear) in record {
      within = h;
      nearest = λ n holds. distance_above l n low (least n holds);
      positive = λ n holds e. same_distance l n low (least n holds) e;
    }

-- so is a number below 0 that is the greatest
pub nearest_below : (P : ℤ → Type 0) (u : ℤ) → P u → u ≤ℤ pos 0 → ((n : ℤ) → P n → n ≤ℤ u) → IsNearest P u
nearest_below P u h p greatest = record {
  within = h;
  nearest = λ n holds. distance_below u n p (greatest n holds);
  positive = λ n holds e. greatest n holds;
}

-- and 0 itself
pub nearest_zero : (P : ℤ → Type 0) → P (pos 0) → IsNearest P (pos 0)
nearest_zero P h = record {
  within = h;
  nearest = λ n holds. omega arith;
  positive = λ n holds e. no_distance n e;
}

-- a lower bound over 0 is chosen, where upper bounds allow it
pub value_above : (l : ℤ) (high : Option ℤ) → pos 0 <ℤ l → AtLeast high (neg_ℤ l)
    → IsNearest (IsWithin (limits_of (Some l) high)) l
value_above l high p h =
    let same : l ≤ℤ l = omega (arith, linear) in
    nearest_above (IsWithin (limits_of (Some l) high)) l (same, h) p (λ n holds. holds.0)

-- an upper bound below 0 is, where lower bounds allow it
pub value_below : (low : Option ℤ) (h : ℤ) → pos 0 <ℤ h → AtLeast low (neg_ℤ h)
    → IsNearest (IsWithin (limits_of low (Some h))) (neg_ℤ h)
value_below low h p allowed =
    let same : h ≤ℤ neg_ℤ (neg_ℤ h) = omega (arith, linear) in
    let under : neg_ℤ h ≤ℤ pos 0 = omega (arith, linear) in
    nearest_below (IsWithin (limits_of low (Some h))) (neg_ℤ h) (allowed, same) under (λ n holds. turned h n holds.1)
  where
    turned : (h n : ℤ) → h ≤ℤ neg_ℤ n → n ≤ℤ neg_ℤ h
    turned h n e = omega (arith, linear)

-- else 0 is
pub value_zero : (limits : Limits) → AtLeast limits.low (pos 0) → AtLeast limits.high (pos 0) → IsNearest (IsWithin limits) (pos 0)
value_zero limits low high = nearest_zero (IsWithin limits) (low, high)

-- bounds that pass each other enclose no number
pub gap_between : (l h : ℤ) → neg_ℤ l <ℤ h
    → ((n : ℤ) → ¬ IsWithin (limits_of (Some l) (Some h)) n) × IsGreatest (IsUnder (limits_of (Some l) (Some h))) (neg_ℤ h)
gap_between l h p = (
  λ n both. apart n both.0 both.1,
  record { within = same; greatest = λ n under. turned n under },
)
  where
    apart : (n : ℤ) → l ≤ℤ n → h ≤ℤ neg_ℤ n → ⊥
    apart n low high = omega (arith, linear)

    same : h ≤ℤ neg_ℤ (neg_ℤ h)
    same = omega (arith, linear)

    turned : (n : ℤ) → h ≤ℤ neg_ℤ n → n ≤ℤ neg_ℤ h
    turned n e = omega (arith, linear)

-- a number that is not 0 and not over 0 is below 0
pub negative_else : (z : ℤ) → (z ≡ pos 0 → ⊥) → z ≤ℤ pos 0 → z <ℤ pos 0
negative_else (pos zero) other low = absurd (other refl)
negative_else (pos (suc n)) other low = absurd (omega (arith, ints))
negative_else (negsuc n) other low = omega (arith, ints)
