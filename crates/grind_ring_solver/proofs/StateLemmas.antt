-- What a solver keeps stays where it learns more.
use Rattle.std.proofs.Common.{◌≡◌, ◌≢◌, ◌⊎◌, inl, inr, ℕ, zero, suc, ◌+◌, ◌<◌, List, [], ◌∷◌, ◌++◌, length, take, slice_get, All, Contains, Some, length-append, arith, sym, ap, ◌∙◌, refl, subst}
use Rattle.std.proofs.lemmas.List.{take_at}
use Rattle.std.proofs.lemmas.Option.{none-some, same_Some, slice_get_within}
use Rattle.std.proofs.lemmas.List.Elements.{All-nil, All-cons, All-head, All-tail, All-append, Contains-append_left, Contains-push, Contains-push_cases}
use Rattle.grind_polynomials.specs.declared.poly.Term.{Term}
use Rattle.grind_polynomials.specs.Polynomials.{IsPoly}
use Rattle.grind_arithmetic_rules.specs.PolyRules.{CoefficientsFit}
use Rattle.grind_ring_basis.specs.declared.types.Fact.{Fact}
use Rattle.grind_ring_basis.specs.declared.types.Basis.{Basis}
use Rattle.grind_ring_basis.specs.Bases.{IsBasis, IsElement}
use Rattle.grind_ring_basis.proofs.TypedLemmas.{zeros_stay}
use Rattle.grind_ring_units.specs.declared.types.State.{State}
use Rattle.grind_ring_units.specs.Given.{Knows}
use Rattle.grind_ring_units.specs.Scans.{MayJoin}
use Rattle.grind_ring_solver.specs.Given.{IsIrreducible, IsZeroed, IsState, nothing_known, with_equality, with_fact}
use Rattle.grind_ring_solver.specs.Steps.{with_element, joined, added, noted}
use Rattle.grind_ring_solver.proofs.FormLemmas.{zero_by_itself}
use Rattle.grind_ring_units.proofs.ListLemmas.{none_listed}

-- an item of a list with one more is an older one, or the last
at_push : {X : Type 0} → (xs : List X) (x : X) (place : ℕ) (y : X) → slice_get (xs ++ x ∷ []) place ≡ Some y
    → (slice_get xs place ≡ Some y) ⊎ ((place ≡ length xs) × (x ≡ y))
at_push [] x zero y e = inr (refl, same_Some x y e)
at_push [] x (suc place) y e = absurd (none-some y e)
at_push (z ∷ zs) x zero y e = inl e
at_push (z ∷ zs) x (suc place) y e = elim (at_push zs x place y e) [
  | inl old ↦ inl old
  | inr last ↦ inr (ap suc last.0, last.1)
]

module _ (basis : Basis) (it : Fact) (is : IsBasis basis) where
  -- an element of the basis with one more is an older one, or that
  element_or_last : (k : Fact) → IsElement (with_element basis it) k → IsElement basis k ⊎ (it ≡ k)
  element_or_last k there =
      elim (at_push basis.posts it.post there.0 k.post there.1.post) [
        | inl old ↦ elim (at_push basis.elements it.poly there.0 k.poly there.1.poly) [
          | inl also ↦ inl (there.0, record { post = old; poly = also })
          | inr last ↦
              let below = slice_get_within basis.posts there.0 k.post old in
              let same = is.posts in
              let end : there.0 ≡ length basis.elements = last.0 in absurd (omega arith)
        ]
        | inr last ↦ elim (at_push basis.elements it.poly there.0 k.poly there.1.poly) [
          | inl old ↦
              let below = slice_get_within basis.elements there.0 k.poly old in
              let same = is.posts in
              let end : there.0 ≡ length basis.posts = last.0 in absurd (omega arith)
          | inr also ↦ inr (λ i. record { post = last.1 i; poly = also.1 i })
        ]
      ]

  pub basis_with : it.poly ≢ [] → IsBasis (with_element basis it)
  basis_with some = record {
    nonzero =
        All-append (λ (b : List Term). b ≢ []) basis.elements (it.poly ∷ []) is.nonzero
        (All-cons (λ (b : List Term). b ≢ []) it.poly [] some (All-nil (λ (b : List Term). b ≢ [])));
    posts =
        length-append basis.posts (it.post ∷ []) ∙ ap (λ n. n + 1) is.posts ∙ sym (length-append basis.elements (it.poly ∷ []));
  }

-- ---- what is reduced to 0 stays so
pub both : (bs : List (List Term)) → All (λ b. IsPoly b) bs → All (λ b. b ≢ []) bs → All (λ b. IsPoly b × (b ≢ [])) bs
both [] polys some = All-nil (λ (b : List Term). IsPoly b × (b ≢ []))
both (b ∷ bs) polys some =
    All-cons (λ (b : List Term). IsPoly b × (b ≢ [])) b bs
    (All-head (λ (b : List Term). IsPoly b) b bs polys, All-head (λ (b : List Term). b ≢ []) b bs some)
    (both bs (All-tail (λ (b : List Term). IsPoly b) b bs polys) (All-tail (λ (b : List Term). b ≢ []) b bs some))

polys_with : (basis : Basis) (it : Fact) → All (λ b. IsPoly b) basis.elements → IsPoly it.poly
    → All (λ b. IsPoly b) (with_element basis it).elements
polys_with basis it polys poly =
    All-append (λ (b : List Term). IsPoly b) basis.elements (it.poly ∷ []) polys
    (All-cons (λ (b : List Term). IsPoly b) it.poly [] poly (All-nil (λ (b : List Term). IsPoly b)))

zeroed_with : (state : State) → IsState state → (it k : Fact) → IsZeroed state.basis k → IsZeroed (with_element state.basis it) k
zeroed_with state is it k old = record {
  poly = old.poly;
  zero =
      zeros_stay state.basis (it.post ∷ []) (it.poly ∷ []) k.poly (both state.basis.elements is.polys is.basis.nonzero) old.poly old.zero;
}

module _ (state : State) (is : IsState state) where
  pub joined_state : (it : Fact) → it.poly ≢ [] → IsPoly it.poly → Knows state it → IsState (joined state it)
  joined_state it some poly knows = record {
    polys = polys_with state.basis it is.polys poly;
    zeroed = λ k there. zeroed_with state is it k (is.zeroed k there);
    basis = basis_with state.basis it is.basis some;
    known = λ k there. elim (element_or_last state.basis it is.basis k there) [
      | inl old ↦ is.known k old
      | inr same ↦ subst (Knows state) same knows
    ];
    within = is.within;
  }

  pub noted_state : (it : Fact) → IsZeroed state.basis it → IsState (noted state it)
  noted_state it is_zero = record {
    polys = is.polys;
    zeroed = λ k there. elim (Contains-push_cases state.own it k there) [
      | inl old ↦ is.zeroed k old
      | inr same ↦ subst (IsZeroed state.basis) same is_zero
    ];
    basis = is.basis;
    known = λ k there. elim (is.known k there) [
      | inl taken ↦ inl taken
      | inr own ↦ inr (Contains-append_left state.own (it ∷ []) k own)
    ];
    within = is.within;
  }

  pub fact_state : (it : Fact) → IsState (with_fact state it)
  fact_state it = record {
    polys = is.polys;
    zeroed = λ k there. is.zeroed k there;
    basis = is.basis;
    known = λ k there. elim (is.known k there) [
      | inl taken ↦ inl (Contains-append_left state.taken (it ∷ []) k taken)
      | inr own ↦ inr own
    ];
    within = is.within;
  }

  pub equality_state : (post left right : ℕ) → IsState (with_equality state post left right)
  equality_state post left right = record {
    polys = is.polys;
    zeroed = λ k there. is.zeroed k there;
    basis = is.basis;
    known = λ k there. is.known k there;
    within = is.within;
  }

  -- a normal form joins, and is known
  pub added_state : (it : Fact) → it.poly ≢ [] → IsPoly it.poly → CoefficientsFit it.poly → IsIrreducible state.basis it.poly
      → MayJoin state → IsState (added state it)
  added_state it some poly fits free may = record {
    basis = basis_with state.basis it is.basis some;
    known = λ k there. elim (element_or_last state.basis it is.basis k there) [
      | inl old ↦ elim (is.known k old) [
        | inl taken ↦ inl taken
        | inr own ↦ inr (Contains-append_left state.own (it ∷ []) k own)
      ]
      | inr same ↦ inr (subst (Contains (state.own ++ it ∷ [])) same (Contains-push state.own it))
    ];
    polys = polys_with state.basis it is.polys poly;
    zeroed = λ k there. elim (Contains-push_cases state.own it k there) [
      | inl old ↦ zeroed_with state is it k (is.zeroed k old)
      | inr same ↦ subst (IsZeroed (with_element state.basis it)) same (record {
        poly = poly;
        zero = zero_by_itself state.basis it some poly fits free;
      })
    ];
    within = let less : state.made < state.limit = may in omega arith;
  }

pub empty_state : (limit : ℕ) → IsState (nothing_known limit)
empty_state limit = record {
  basis = record { nonzero = All-nil (λ (b : List Term). b ≢ []); posts = refl };
  known = λ k there. absurd (none-some k.post there.1.post);
  polys = All-nil (λ (b : List Term). IsPoly b);
  zeroed = λ k there. absurd (none_listed k there);
  within = omega arith;
}

-- ---- one field at a time
abbrev pub with_basis : State → Basis → State
with_basis state basis = record {
  limit = state.limit;
  made = state.made;
  equalities = state.equalities;
  taken = state.taken;
  own = state.own;
  basis = basis;
}

abbrev pub with_own : State → List Fact → State
with_own state own = record {
  limit = state.limit;
  made = state.made;
  equalities = state.equalities;
  taken = state.taken;
  own = own;
  basis = state.basis;
}

abbrev pub with_parts : State → List Fact → Basis → ℕ → State
with_parts state own basis made = record {
  limit = state.limit;
  made = made;
  equalities = state.equalities;
  taken = state.taken;
  own = own;
  basis = basis;
}

abbrev pub with_taken : State → List Fact → State
with_taken state taken = record {
  limit = state.limit;
  made = state.made;
  equalities = state.equalities;
  taken = taken;
  own = state.own;
  basis = state.basis;
}

module _ (state : State) (is : IsState state) where
  pub same_basis : (basis : Basis) → basis ≡ state.basis → IsState (with_basis state basis)
  same_basis basis e = subst (λ (b : Basis). IsState (with_basis state b)) (sym e) is

  pub more_basis : (it : Fact) (basis : Basis) → basis ≡ with_element state.basis it → it.poly ≢ [] → IsPoly it.poly → Knows state it
      → IsState (with_basis state basis)
  more_basis it basis e some poly knows =
      subst (λ (b : Basis). IsState (with_basis state b)) (sym e) (joined_state state is it some poly knows)

  pub same_own : (own : List Fact) → own ≡ state.own → IsState (with_own state own)
  same_own own e = subst (λ (facts : List Fact). IsState (with_own state facts)) (sym e) is

  pub more_own : (it : Fact) (own : List Fact) → own ≡ state.own ++ it ∷ [] → IsZeroed state.basis it → IsState (with_own state own)
  more_own it own e is_zero =
      subst (λ (facts : List Fact). IsState (with_own state facts)) (sym e) (noted_state state is it is_zero)

  -- the facts and the basis are as they were
  pub same_parts : (own : List Fact) (basis : Basis) → own ≡ state.own → basis ≡ state.basis → IsState (with_parts state own basis state.made)
  same_parts own basis e f =
      subst (λ (b : Basis). IsState (with_parts state own b state.made)) (sym f)
      (subst (λ (facts : List Fact). IsState (with_parts state facts state.basis state.made)) (sym e) is)

  pub same_taken : (taken : List Fact) → taken ≡ state.taken → IsState (with_taken state taken)
  same_taken taken e = subst (λ (facts : List Fact). IsState (with_taken state facts)) (sym e) is

  pub more_taken : (it : Fact) (taken : List Fact) → taken ≡ state.taken ++ it ∷ [] → IsState (with_taken state taken)
  more_taken it taken e = subst (λ (facts : List Fact). IsState (with_taken state facts)) (sym e) (fact_state state is it)

-- ---- the facts that were there before one was appended
first_part : (own more new : List Fact) (it : Fact) (count : ℕ) → count ≡ length own → more ≡ own ++ it ∷ [] → new ≡ take count more
    → new ≡ own
first_part own more new it count is more_is new_is =
    new_is ∙ ap (take count) more_is ∙ take_at own (it ∷ []) count (sym is)

pub cut_again : (state : State) → IsState state → (more new : List Fact) (basis : Basis) (it : Fact) (count : ℕ) → count ≡ length state.own
    → more ≡ state.own ++ it ∷ [] → new ≡ take count more → basis ≡ state.basis → IsState (with_parts state new basis state.made)
cut_again state is more new basis it count count_is more_is new_is basis_is =
    same_parts state is new basis (first_part state.own more new it count count_is more_is new_is) basis_is

-- ---- a normal form joins
module _ (state : State) (it : Fact) (own : List Fact) (basis : Basis) (made : ℕ) (own_is : own ≡ state.own ++ it ∷ [])
    (basis_is : basis ≡ with_element state.basis it) (made_is : made ≡ state.made + 1) where
  pub added_parts : with_parts state own basis made ≡ added state it
  added_parts = λ i. with_parts state (own_is i) (basis_is i) (made_is i)

  pub added_keeps : IsState state → it.poly ≢ [] → IsPoly it.poly → CoefficientsFit it.poly → IsIrreducible state.basis it.poly → MayJoin state
      → IsState (with_parts state own basis made)
  added_keeps is some poly fits free may = subst IsState (sym added_parts) (added_state state is it some poly fits free may)
