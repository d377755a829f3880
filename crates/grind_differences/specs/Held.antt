-- Readings of some terms of a table that are held.
use Rattle.std.specs.Prelude.{◌≡◌, ℕ, ◌<◌, List, length, Option, Some, All}
use Rattle.grind_term_graph.specs.declared.node.Node.{Node}
use Rattle.grind_term_graph.specs.Terms.{int, sort_at}
use Rattle.grind_reach.specs.Readings.{found}
use Rattle.grind_linear_forms.specs.Forms.{FormData}
use Rattle.grind_linear_forms.specs.Readings.{linear}
use Rattle.grind_polynomials.specs.declared.poly.Term.{Term}
use Rattle.grind_polynomials.specs.Readings.{polynomial}

-- the terms are whole numbers, and at the number of each stands its reading as a linear form, where it is defined
pub record HoldsForms (nodes : List Node) (ids : List ℕ) (forms : List (Option FormData)) : Type 0 where
  pub numbers : All (λ id. sort_at nodes id ≡ Some int) ids
  pub within : All (λ id. id < length forms) ids
  pub read : All (λ id. found forms id ≡ linear nodes id) ids

-- and so it is with their readings as polynomials
pub record HoldsPolys (nodes : List Node) (ids : List ℕ) (polys : List (Option (List Term))) : Type 0 where
  pub numbers : All (λ id. sort_at nodes id ≡ Some int) ids
  pub within : All (λ id. id < length polys) ids
  pub read : All (λ id. found polys id ≡ polynomial nodes id) ids
