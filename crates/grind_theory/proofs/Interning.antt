-- Formulas that are put among the nodes one after another.
use Rattle.std.specs.Prelude.{◌≡◌, ℕ, ◌<◌, List, [], ◌∷◌, ◌++◌, length, refl}
use Rattle.std.proofs.Common.{arith, sym, ap, subst, ◌∙◌, append_assoc}
use Rattle.std.proofs.lemmas.List.{append-nil}
use Rattle.grind_term_graph.specs.declared.node.Node.{Node}
use Rattle.grind_term_graph.specs.Placed.{placed}
use Rattle.grind_schemes.specs.declared.scheme.Scheme.{Scheme, Var, Apply', Row_of-Scheme, end_of-Scheme, more_of-Scheme}
use Rattle.grind_term_graph.specs.Beginnings.{BeginsWith}
use Rattle.grind_term_graph.proofs.Beginnings.{BeginsWith-refl, BeginsWith-trans, BeginsWith-length}
use Rattle.grind_schemes.specs.Instances.{node_of, interned, interned_row}
use Rattle.grind_schemes.proofs.InstanceLemmas.{interned-grows}
use Rattle.grind_grammar.specs.Terms.{Term}
use Rattle.grind_resolution.specs.Scopes.{Given}
use Rattle.grind_resolution.specs.Resolved.{StandsFor}
use Rattle.grind_resolution.specs.Same.{AreSame, AreSameRows}
use Rattle.grind_annotations.specs.Giving.{StandForEach}
use Rattle.grind_theory.specs.Faults.{interned_each}

-- nodes, and the numbers of some of them
abbrev pub both : List Node → List ℕ → List Node × List ℕ
both nodes ids = (nodes, ids)

mutual
  -- one scheme is put among the nodes in one way, whatever room its lists have
  pub interned-same : (a b : Scheme) → AreSame a b → (nodes : List Node) → interned nodes [] a ≡ interned nodes [] b
  interned-same (Var i) (Var j) h nodes = λ k. interned nodes [] (Var (h k))
  interned-same (Var i) (Apply' head sort shape args) h nodes = absurd h
  interned-same (Apply' head sort shape args) (Var j) h nodes = absurd h
  interned-same (Apply' head sort shape args) (Apply' other own form others) h nodes =
      let done = interned_row-same _ _ args others h.2 nodes in
      λ i. placed (done i).0 (node_of (h.0 i) (h.1 i) (done i).1)

  interned_row-same : (m n : _) (a : Row_of-Scheme m) (b : Row_of-Scheme n) → AreSameRows a b → (nodes : List Node) → interned_row nodes [] a ≡ interned_row nodes [] b
  interned_row-same m n end_of-Scheme end_of-Scheme h nodes = refl
  interned_row-same m n end_of-Scheme (more_of-Scheme other others) h nodes = absurd h
  interned_row-same m n (more_of-Scheme first rest) end_of-Scheme h nodes = absurd h
  interned_row-same m n (more_of-Scheme first rest) (more_of-Scheme other others) h nodes =
      let one = interned-same first other h.0 nodes in
      let later = interned_row-same _ _ rest others h.1 (interned nodes [] other).0 in
      (λ i. both (interned_row (one i).0 [] rest).0 ((one i).1 ∷ (interned_row (one i).0 [] rest).1))
      ∙ ap (λ (x : List Node × List ℕ). both x.0 ((interned nodes [] other).1 ∷ x.1)) later

-- the nodes before stay
pub each-grows : (schemes : List Scheme) (nodes : List Node) → BeginsWith nodes (interned_each nodes schemes).0
each-grows [] nodes = BeginsWith-refl nodes
each-grows (a ∷ schemes) nodes =
    BeginsWith-trans nodes (interned nodes [] a).0 (interned_each (interned nodes [] a).0 schemes).0
    (interned-grows [] a nodes) (each-grows schemes (interned nodes [] a).0)

module _ (gives : List ℕ → Given → Type 0) where
  -- some formulas are put there, and these are left: what is put of them after completes what is put of all
  pub record IsPutting (start : List Node) (all rest : List Term) (nodes : List Node) (ids : List ℕ) : Type 0 where
    pub onward : (schemes : List Scheme) → StandForEach gives rest schemes
        → (whole : List Scheme) × StandForEach gives all whole
        × (interned_each start whole ≡ both (interned_each nodes schemes).0 (ids ++ (interned_each nodes schemes).1))
    pub back : (whole : List Scheme) → StandForEach gives all whole
        → (schemes : List Scheme) × StandForEach gives rest schemes
        × (interned_each start whole ≡ both (interned_each nodes schemes).0 (ids ++ (interned_each nodes schemes).1))

  pub putting-start : (start : List Node) (all : List Term) → IsPutting start all all start []
  putting-start start all = record { onward = λ schemes h. (schemes, h, refl); back = λ whole h. (whole, h, refl) }

module _ (gives : List ℕ → Given → Type 0) (one : (t : Term) (a b : Scheme) → StandsFor gives t a → StandsFor gives t b → AreSame a b) where
  moved : (nodes after : List Node) (id : ℕ) (ids longer : List ℕ) (a : Scheme) → ◌≡◌ {A = List Node × ℕ} (after, id) (interned nodes [] a) → longer ≡ ids ++ id ∷ [] → (schemes : List Scheme)
      → both (interned_each nodes (a ∷ schemes)).0 (ids ++ (interned_each nodes (a ∷ schemes)).1)
      ≡ both (interned_each after schemes).0 (longer ++ (interned_each after schemes).1)
  moved nodes after id ids longer a e l schemes =
      (λ i. both (interned_each ((sym e) i).0 schemes).0 (ids ++ ((sym e) i).1 ∷ (interned_each ((sym e) i).0 schemes).1))
      ∙ ap (both (interned_each after schemes).0)
      (sym (append_assoc ids (id ∷ []) (interned_each after schemes).1) ∙ ap (λ (x : List ℕ). x ++ (interned_each after schemes).1) (sym l))

  back-next : (start : List Node) (whole : List Scheme) (t : Term) (tail : List Term) (nodes after : List Node) (id : ℕ) (ids longer : List ℕ) (a : Scheme)
      → StandsFor gives t a → ◌≡◌ {A = List Node × ℕ} (after, id) (interned nodes [] a) → longer ≡ ids ++ id ∷ [] → (schemes : List Scheme) → StandForEach gives (t ∷ tail) schemes
      → interned_each start whole ≡ both (interned_each nodes schemes).0 (ids ++ (interned_each nodes schemes).1)
      → (later : List Scheme) × StandForEach gives tail later
      × (interned_each start whole ≡ both (interned_each after later).0 (longer ++ (interned_each after later).1))
  back-next start whole t tail nodes after id ids longer a stands e l [] g w = absurd g
  back-next start whole t tail nodes after id ids longer a stands e l (b ∷ later) g w =
      (later, g.1, w ∙ moved nodes after id ids longer b (e ∙ sym (interned-same b a (one t b a g.0 stands) nodes)) l later)

  over : (start : List Node) (whole : List Scheme) (t : Term) (tail : List Term) (nodes : List Node) (ids : List ℕ) (limit : ℕ)
      → ((a : Scheme) → StandsFor gives t a → limit < length (interned nodes [] a).0) → (schemes : List Scheme) → StandForEach gives (t ∷ tail) schemes
      → interned_each start whole ≡ both (interned_each nodes schemes).0 (ids ++ (interned_each nodes schemes).1)
      → limit < length (interned_each start whole).0
  over start whole t tail nodes ids limit full [] g w = absurd g
  over start whole t tail nodes ids limit full (b ∷ later) g w =
      let small = full b g.0 in
      let more = BeginsWith-length (interned nodes [] b).0 (interned_each (interned nodes [] b).0 later).0 (each-grows later (interned nodes [] b).0) in
      let same : length (interned_each start whole).0 ≡ length (interned_each (interned nodes [] b).0 later).0 = ap (λ (x : List Node × List ℕ). length x.0) w in
      omega arith

  module _ (start : List Node) (all rest tail : List Term) (t : Term) (nodes : List Node) (ids : List ℕ) (p : rest ≡ t ∷ tail) (h : IsPutting gives start all rest nodes ids) where
    pub putting-next : (after : List Node) (id : ℕ) (longer : List ℕ) (a : Scheme) → StandsFor gives t a → ◌≡◌ {A = List Node × ℕ} (after, id) (interned nodes [] a)
        → longer ≡ ids ++ id ∷ [] → IsPutting gives start all tail after longer
    putting-next after id longer a stands e l = record {
      onward = λ schemes g.
          let w = h.onward (a ∷ schemes) (subst (λ r. StandForEach gives r (a ∷ schemes)) (sym p) (stands, g)) in
          (w.0, w.1, w.2 ∙ moved nodes after id ids longer a e l schemes);
      back = λ whole g.
          let w = h.back whole g in
          back-next start whole t tail nodes after id ids longer a stands e l w.0 (subst (λ r. StandForEach gives r w.0) p w.1) w.2;
    }

    -- one that does not fit: then all do not
    pub putting-full : (limit : ℕ) → ((a : Scheme) → StandsFor gives t a → limit < length (interned nodes [] a).0)
        → (whole : List Scheme) → StandForEach gives all whole → limit < length (interned_each start whole).0
    putting-full limit full whole g =
        let w = h.back whole g in
        over start whole t tail nodes ids limit full w.0 (subst (λ r. StandForEach gives r w.0) p w.1) w.2

  pub putting-end : (start : List Node) (all rest : List Term) (nodes : List Node) (ids : List ℕ) → rest ≡ [] → IsPutting gives start all rest nodes ids
      → (whole : List Scheme) × StandForEach gives all whole × (both nodes ids ≡ interned_each start whole)
  putting-end start all rest nodes ids p h =
      let w = h.onward [] (subst (λ r. StandForEach gives r []) (sym p) tt) in
      (w.0, w.1, sym (w.2 ∙ ap (both nodes) (append-nil ids)))

  -- formulas are put among the nodes in one way
  pub each-same : (terms : List Term) (a b : List Scheme) → StandForEach gives terms a → StandForEach gives terms b → (nodes : List Node)
      → interned_each nodes a ≡ interned_each nodes b
  each-same [] [] [] p q nodes = refl
  each-same [] [] (b ∷ bs) p q nodes = absurd q
  each-same [] (a ∷ as_) bs p q nodes = absurd p
  each-same (t ∷ terms) [] bs p q nodes = absurd p
  each-same (t ∷ terms) (a ∷ as_) [] p q nodes = absurd q
  each-same (t ∷ terms) (a ∷ as_) (b ∷ bs) p q nodes =
      let first = interned-same a b (one t a b p.0 q.0) nodes in
      let later = each-same terms as_ bs p.1 q.1 (interned nodes [] b).0 in
      (λ i. both (interned_each (first i).0 as_).0 ((first i).1 ∷ (interned_each (first i).0 as_).1))
      ∙ ap (λ (x : List Node × List ℕ). both x.0 ((interned nodes [] b).1 ∷ x.1)) later
