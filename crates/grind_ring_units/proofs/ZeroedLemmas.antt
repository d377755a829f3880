-- Which facts and equalities are found.
use Rattle.std.proofs.Common.{◌≡◌, ◌≢◌, ◌↔◌, ◌⊎◌, inl, inr, ◌<◌, false, true, IsTrue, List, [], ◌∷◌, length, Contains, Some, None, sym, ◌∙◌, refl, subst}
use Rattle.std.proofs.lemmas.Bool.{false≢true}
use Rattle.std.proofs.lemmas.Option.{none-some, same_Some}
use Rattle.grind_term_graph.specs.declared.node.Node.{Node}
use Rattle.grind_polynomials.specs.declared.poly.Term.{Term}
use Rattle.grind_polynomials.specs.Polynomials.{IsPoly}
use Rattle.grind_normal_forms.specs.declared.reduction.Reduced.{Reduced}
use Rattle.grind_differences.specs.Differences.{poly_difference}
use Rattle.grind_ring_basis.specs.declared.types.Basis.{Basis}
use Rattle.grind_ring_basis.specs.declared.types.Fact.{Fact}
use Rattle.grind_ring_basis.specs.declared.types.Pair.{Pair}
use Rattle.grind_ring_basis.specs.declared.types.Places.{Places}
use Rattle.grind_ring_basis.specs.Bases.{fact, HasNormalForm}
use Rattle.grind_ring_basis.specs.Pairs.{IsPairAt}
use Rattle.grind_ring_basis.proofs.LineLemmas.{reduces_to_zero}
use Rattle.grind_ring_units.specs.declared.types.Equality.{Equality}
use Rattle.grind_ring_units.specs.declared.types.State.{State}
use Rattle.grind_ring_units.specs.Given.{IsAmong, IsClaimed}
use Rattle.grind_ring_units.specs.Agendas.{IsPairSettled}
use Rattle.grind_ring_units.specs.Zeroed.{LacksZero}
use Rattle.grind_ring_units.specs.PostUnits.{IsReducible}
use Rattle.grind_ring_units.specs.PairUnits.{IsPairReducible, IsPairDone}
use Rattle.grind_ring_units.proofs.ListLemmas.{Passes, passes_here, passes_end}

-- ---- known facts
module _ (facts rest : List Fact) (poly : List Term) (so_far : Passes Fact (λ (it : Fact). it.poly ≡ poly) facts rest) where
  pub listed_here : (it : Fact) (tail : List Fact) → rest ≡ it ∷ tail → it.poly ≡ poly → Contains facts (fact it.post poly)
  listed_here it tail is same =
      let whole : it ≡ fact it.post poly = λ i. record { post = it.post; poly = same i } in
      subst (λ (k : Fact). Contains facts k) whole (passes_here (λ (k : Fact). k.poly ≡ poly) facts rest it tail is so_far)

  pub listed_nowhere : length rest ≡ 0 → ¬ IsAmong facts poly
  listed_nowhere none listed = passes_end (λ (k : Fact). k.poly ≡ poly) facts rest none so_far (fact listed.0 poly) listed.1 refl

pub claimed_nowhere : (state : State) (poly : List Term) → ¬ IsAmong state.taken poly → ¬ IsAmong state.own poly → ¬ IsClaimed state poly
claimed_nowhere state poly taken own claimed = elim claimed.1 [
  | inl one ↦ taken (claimed.0, one)
  | inr other ↦ own (claimed.0, other)
]

-- ---- equalities
module _ (state : State) (nodes : List Node) (it : Equality) where
  pub lacks_unread : None ≡ poly_difference nodes it.left it.right → IsTrue false ↔ LacksZero state nodes it
  lacks_unread none = (λ yes. absurd (false≢true yes), λ lacks. absurd (none-some lacks.0 (none ∙ lacks.1)))

  pub lacks_claimed : (poly : List Term) → Some poly ≡ poly_difference nodes it.left it.right → IsClaimed state poly
      → IsTrue false ↔ LacksZero state nodes it
  lacks_claimed poly some claimed = (
    λ yes. absurd (false≢true yes),
    λ lacks. absurd (lacks.2 (subst (IsClaimed state) (same_Some poly lacks.0 (some ∙ lacks.1)) claimed)),
  )

  pub lacks_it : (poly : List Term) → Some poly ≡ poly_difference nodes it.left it.right → ¬ IsClaimed state poly
      → IsTrue true ↔ LacksZero state nodes it
  lacks_it poly some none = (λ yes. (poly, sym some, none), λ lacks. refl)

-- ---- normal forms
pub reducible_of : (state : State) (it : Fact) (normal : Reduced) → HasNormalForm state.basis it.poly normal → normal.rest ≢ []
    → normal.rest ≢ it.poly → ¬ IsClaimed state normal.rest → IsReducible state it normal.rest
reducible_of state it normal is some other none = record {
  normal = normal;
  normal_is = is;
  rest_is = refl;
  nonzero = some;
  other = other;
  not_claimed = none;
}

module _ (state : State) (places : Places) (pair : Pair) (normal : Reduced) (rising : places.first < places.second)
    (pair_is : IsPairAt state.basis places pair) (is : HasNormalForm state.basis pair.poly normal) where
  pub pair_reducible : normal.rest ≢ [] → ¬ IsClaimed state normal.rest → IsPairReducible state places pair normal.rest
  pair_reducible some none = record {
    rising = rising;
    pair_is = pair_is;
    normal = normal;
    normal_is = is;
    rest_is = refl;
    nonzero = some;
    not_claimed = none;
  }

  pub pair_done : ((normal.rest ≡ []) ⊎ IsClaimed state normal.rest) → IsPairDone state places
  pair_done done = (
    pair_is.first,
    pair_is.second,
    record { rising = rising; first_is = pair_is.first_is; second_is = pair_is.second_is },
    inr (pair, pair_is, normal, is, done),
  )

pub zero_settled : (basis : Basis) (places : Places) (pair : Pair) (normal : Reduced) → places.first < places.second
    → IsPairAt basis places pair → IsPoly pair.poly → HasNormalForm basis pair.poly normal → normal.rest ≡ [] → IsPairSettled basis places
zero_settled basis places pair normal rising is poly normal_is none = (
  rising,
  inr (record { pair = pair; pair_is = is; poly = poly; zero = reduces_to_zero basis pair.poly normal normal_is none }),
)
