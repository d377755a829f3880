-- Elements of a basis, one by one.
use Rattle.std.proofs.Common.{◌≡◌, ℕ, zero, suc, List, [], ◌∷◌, length, slice_get, Some, arith, sym, refl, subst}
use Rattle.std.proofs.lemmas.Option.{none-some, same_Some}
use Rattle.grind_polynomials.specs.declared.poly.Term.{Term}
use Rattle.grind_differences.specs.Equations.{IsOtherThanZero}
use Rattle.grind_ring_basis.specs.declared.types.Basis.{Basis}
use Rattle.grind_ring_basis.specs.Bases.{fact, IsElement}
use Rattle.grind_ring_units.specs.declared.types.State.{State}
use Rattle.grind_ring_units.specs.Conflicts.{HasContradiction, NoContradiction}

-- the post and the polynomial stand at one place
pub IsAt : List ℕ → List (List Term) → ℕ → List Term → Type 0
IsAt posts elements n b = (k : ℕ) × (slice_get posts k ≡ Some n) × (slice_get elements k ≡ Some b)

-- what is left is of the basis, and each element that is a number other than 0 is left
pub record ElementsLeft (basis : Basis) (posts : List ℕ) (elements : List (List Term)) : Type 0 where
  pub within : (n : ℕ) (b : List Term) → IsAt posts elements n b → IsElement basis (fact n b)
  pub later : (n : ℕ) (b : List Term) → IsElement basis (fact n b) → IsOtherThanZero b → IsAt posts elements n b

pub elements_begin : (basis : Basis) (posts : List ℕ) (elements : List (List Term)) → posts ≡ basis.posts → elements ≡ basis.elements
    → ElementsLeft basis posts elements
unfolding IsAt
elements_begin basis posts elements e f = record {
  within = λ n b there. (
    there.0,
    record {
      post = subst (λ (xs : List ℕ). slice_get xs there.0 ≡ Some n) e there.1;
      poly = subst (λ (xs : List (List Term)). slice_get xs there.0 ≡ Some b) f there.2;
    },
  );
  later = λ n b it number. (
    it.0,
    subst (λ (xs : List ℕ). slice_get xs it.0 ≡ Some n) (sym e) it.1.post,
    subst (λ (xs : List (List Term)). slice_get xs it.0 ≡ Some b) (sym f) it.1.poly,
  );
}

at_next : (n m : ℕ) (ns : List ℕ) (b c : List Term) (bs : List (List Term)) → ¬ IsOtherThanZero b → IsOtherThanZero c
    → IsAt (n ∷ ns) (b ∷ bs) m c → IsAt ns bs m c
unfolding IsAt
at_next n m ns b c bs other number there = at_place there.0 there.1 there.2
  where
    at_place : (k : ℕ) → slice_get (n ∷ ns) k ≡ Some m → slice_get (b ∷ bs) k ≡ Some c → IsAt ns bs m c
    at_place zero e f = absurd (other (subst IsOtherThanZero (sym (same_Some b c f)) number))
    at_place (suc k) e f = (k, e, f)

at_later : (n m : ℕ) (ns : List ℕ) (b c : List Term) (bs : List (List Term)) → IsAt ns bs m c → IsAt (n ∷ ns) (b ∷ bs) m c
unfolding IsAt
at_later n m ns b c bs there = (suc there.0, there.1, there.2)

at_head : (n : ℕ) (ns : List ℕ) (b : List Term) (bs : List (List Term)) → IsAt (n ∷ ns) (b ∷ bs) n b
unfolding IsAt
at_head n ns b bs = (0, refl, refl)

module _ (basis : Basis) (posts ns : List ℕ) (elements bs : List (List Term)) (n : ℕ) (b : List Term) (ps : posts ≡ n ∷ ns)
    (es : elements ≡ b ∷ bs) (so_far : ElementsLeft basis posts elements) where
  opened : (m : ℕ) (c : List Term) → IsAt posts elements m c → IsAt (n ∷ ns) (b ∷ bs) m c
  opened m c there =
      subst (λ (xs : List ℕ). IsAt xs (b ∷ bs) m c) ps (subst (λ (xs : List (List Term)). IsAt posts xs m c) es there)

  closed : (m : ℕ) (c : List Term) → IsAt (n ∷ ns) (b ∷ bs) m c → IsAt posts elements m c
  closed m c there =
      subst (λ (xs : List ℕ). IsAt xs elements m c) (sym ps) (subst (λ (xs : List (List Term)). IsAt (n ∷ ns) xs m c) (sym es) there)

  pub elements_step : ¬ IsOtherThanZero b → ElementsLeft basis ns bs
  elements_step other = record {
    within = λ m c there. so_far.within m c (closed m c (at_later n m ns b c bs there));
    later = λ m c it number. at_next n m ns b c bs other number (opened m c (so_far.later m c it number));
  }

  pub contradiction_here : (state : State) → state.basis ≡ basis → IsOtherThanZero b → HasContradiction state n
  contradiction_here state is number = (
    fact n b,
    refl,
    record {
      element = subst (λ (it : Basis). IsElement it (fact n b)) (sym is) (so_far.within n b (closed n b (at_head n ns b bs)));
      number = number;
    },
  )

at_none : (posts : List ℕ) (elements : List (List Term)) (n : ℕ) (b : List Term) → length elements ≡ 0 → IsAt posts elements n b → ⊥
unfolding IsAt
at_none posts [] n b none there = none-some b there.2
at_none posts (c ∷ cs) n b none there = absurd (omega arith)

at_no_post : (posts : List ℕ) (elements : List (List Term)) (n : ℕ) (b : List Term) → length posts ≡ 0 → IsAt posts elements n b → ⊥
unfolding IsAt
at_no_post [] elements n b none there = none-some n there.1
at_no_post (m ∷ ms) elements n b none there = absurd (omega arith)

module _ (state : State) (posts : List ℕ) (elements : List (List Term)) (so_far : ElementsLeft state.basis posts elements) where
  pub no_elements : length elements ≡ 0 → NoContradiction state
  no_elements none it is = at_none posts elements it.post it.poly none (so_far.later it.post it.poly is.element is.number)

  pub no_posts_left : length posts ≡ 0 → NoContradiction state
  no_posts_left none it is = at_no_post posts elements it.post it.poly none (so_far.later it.post it.poly is.element is.number)
