use Rattle.std.proofs.Common.{ℕ, List, [], ◌∷◌, ◌++◌, inl, refl, ap, ◌∙◌}
use Rattle.grind_ring_units.proofs.units.equal_terms.equal_line.Goals as goal

pub ideal_line-requires-clause-none : goal.ideal_line-requires-clause-none
ideal_line-requires-clause-none c = rw c.in_default.is at c.claimed_by-claimed.ensures

pub returns : goal.returns
returns c =
    inl (
      c.in-Some.post,
      rw c.in-Some.is at c.claimed_by-claimed.ensures,
      refl,
      c.in_ok-push.ensures.ok ∙ ap (λ (xs : List ℕ). xs ++ c.in-Some.post ∷ []) c.new-from.ensures,
    )
