-- Readings that are held.
use Rattle.std.proofs.Common.{◌≡◌, ℕ, ◌<◌, List, length, Option, Some, All, sym, ◌∙◌, subst}
use Rattle.std.specs.Prelude.{Contains}
use Rattle.grind_term_graph.specs.declared.node.Node.{Node}
use Rattle.grind_term_graph.specs.Terms.{int, sort_at}
use Rattle.grind_reach.specs.Readings.{found}
use Rattle.grind_linear_forms.specs.Forms.{FormData}
use Rattle.grind_linear_forms.specs.Readings.{linear}
use Rattle.grind_polynomials.specs.declared.poly.Term.{Term}
use Rattle.grind_polynomials.specs.Readings.{polynomial}
use Rattle.grind_differences.specs.Differences.{reading, poly_reading}
use Rattle.grind_differences.specs.Held.{HoldsForms, HoldsPolys}
use Rattle.grind_differences.proofs.BoundLemmas.{reading-number}
use Rattle.grind_differences.proofs.PolyLemmas.{poly_reading-number}

-- what holds of each number of a list holds of one that it has
at_each : (P : ℕ → Type 0) (ids : List ℕ) (n : ℕ) → All P ids → Contains ids n → P n
at_each P ids n all among = subst P among.2 (all among.0 n among.1)

module _ (nodes : List Node) (ids : List ℕ) (n : ℕ) (among : Contains ids n) where
  pub form-within : (forms : List (Option FormData)) → HoldsForms nodes ids forms → n < length forms
  form-within forms holds = at_each (λ id. id < length forms) ids n holds.within among

  pub form-found : (forms : List (Option FormData)) → HoldsForms nodes ids forms → found forms n ≡ reading nodes n
  form-found forms holds =
      at_each (λ id. found forms id ≡ linear nodes id) ids n holds.read among
      ∙ sym (reading-number nodes n (at_each (λ id. sort_at nodes id ≡ Some int) ids n holds.numbers among))

  pub poly-within : (polys : List (Option (List Term))) → HoldsPolys nodes ids polys → n < length polys
  poly-within polys holds = at_each (λ id. id < length polys) ids n holds.within among

  pub poly-found : (polys : List (Option (List Term))) → HoldsPolys nodes ids polys → found polys n ≡ poly_reading nodes n
  poly-found polys holds =
      at_each (λ id. found polys id ≡ polynomial nodes id) ids n holds.read among
      ∙ sym (poly_reading-number nodes n (at_each (λ id. sort_at nodes id ≡ Some int) ids n holds.numbers among))
