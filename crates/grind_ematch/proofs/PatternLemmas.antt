-- Patterns by the items of their arguments.
use Rattle.std.proofs.Common.{◌≡◌, ◌↔◌, max, arith, ℕ, length, List, [], ◌∷◌, ◌++◌, Some, slice_get, Vec, Global, refl, sym, ap, subst}
use Rattle.grind_term_graph.specs.declared.head.Head.{Head}
use Rattle.grind_classes.specs.Classes.{IsActive}
use Rattle.grind_schemes.specs.declared.scheme.Scheme.{Scheme, Apply, Row_of-Scheme, end_of-Scheme, more_of-Scheme, items-the_row-Scheme, items_hidden-the_row-Scheme-0}
use Rattle.grind_schemes.specs.Instances.{node_of}
use Rattle.grind_schemes.proofs.SchemeLemmas.{row_of}
use Rattle.grind_ematch.specs.Matches.{Scene, generation_of, Meets, RowMeets}
use Rattle.grind_ematch.specs.Partials.{MeetsClass, MeetClasses}

module _ (scene : Scene) (subst' : List ℕ) where
  of_row : (n : _) (row : Row_of-Scheme n) (ids : List ℕ) (g : ℕ) → RowMeets scene subst' row ids g
      → MeetClasses scene (items-the_row-Scheme n row) ids subst' g
  of_row n end_of-Scheme ids g h = h
  of_row n (more_of-Scheme first rest) ids g h =
      (h.0, h.1, h.3, h.4, h.5, (h.2, h.6, h.7), of_row _ rest h.1 h.4 h.8, h.9)

  to_row : (n : _) (row : Row_of-Scheme n) (ids : List ℕ) (g : ℕ)
      → MeetClasses scene (items-the_row-Scheme n row) ids subst' g → RowMeets scene subst' row ids g
  to_row n end_of-Scheme ids g h = h
  to_row n (more_of-Scheme first rest) ids g h =
      let here = h.5 in
      (h.0, h.1, here.0, h.2, h.3, h.4, here.1, here.2, to_row _ rest h.1 h.3 h.6, h.7)

  -- a head at arguments equals a node
  abbrev pub MeetsAt : Head → ℕ → List Scheme → ℕ → ℕ → Type 0
  MeetsAt head sort args n g =
      (ids : List ℕ) × (inner : ℕ) × IsActive scene.classes n × (slice_get scene.nodes n ≡ Some (node_of head sort ids))
      × MeetClasses scene args ids subst' inner × (g ≡ max (generation_of scene n) inner)

  pub Meets-Apply : (head : Head) (sort : ℕ) (args : Vec Scheme Global) (n g : ℕ) →
      Meets scene subst' (Apply head sort args) n g ↔ MeetsAt head sort args.items n g
  Meets-Apply head sort args n g =
      let row = row_of (Apply head sort args) in
      let same = items_hidden-the_row-Scheme-0 args in (
        λ h. (h.0, h.1, h.2, h.3, subst (λ (items : List Scheme). MeetClasses scene items h.0 subst' h.1) same (of_row row.0 row.1 h.0 h.1 h.4), h.5),
        λ h. (h.0, h.1, h.2, h.3, to_row row.0 row.1 h.0 h.1 (subst (λ (items : List Scheme). MeetClasses scene items h.0 subst' h.1) (sym same) h.4), h.5),
      )

  -- several patterns and one more
  pub MeetClasses-push : (args : List Scheme) (ids : List ℕ) (arg : Scheme) (id one other g : ℕ)
      → MeetClasses scene args ids subst' one → MeetsClass scene arg id subst' other → g ≡ max one other
      → MeetClasses scene (args ++ arg ∷ []) (ids ++ id ∷ []) subst' g
  MeetClasses-push [] ids arg id one other g h k e =
      subst (λ (list : List ℕ). MeetClasses scene (arg ∷ []) (list ++ id ∷ []) subst' g) (sym h.0)
      (id, [], other, 0, refl, k, (refl, refl), zero_max one other g h.1 e)
    where
      zero_max : (one other g : ℕ) → one ≡ 0 → g ≡ max one other → g ≡ max other 0
      zero_max one other g e f = omega arith
  MeetClasses-push (first ∷ rest) ids arg id one other g h k e =
      let more = MeetClasses-push rest h.1 arg id h.3 other (max h.3 other) h.6 k refl in
      subst (λ (list : List ℕ). MeetClasses scene (first ∷ rest ++ arg ∷ []) (list ++ id ∷ []) subst' g) (sym h.4)
      (h.0, h.1 ++ id ∷ [], h.2, max h.3 other, refl, h.5, more, regroup h.2 h.3 other one g h.7 e)
    where
      regroup : (a b c one g : ℕ) → one ≡ max a b → g ≡ max one c → g ≡ max a (max b c)
      regroup a b c one g e f = omega arith

  pub MeetClasses-pushed : (args : List Scheme) (ids : List ℕ) (arg : Scheme) (id g : ℕ) → length args ≡ length ids
      → MeetClasses scene (args ++ arg ∷ []) (ids ++ id ∷ []) subst' g
      → (one : ℕ) × (other : ℕ) × MeetClasses scene args ids subst' one × MeetsClass scene arg id subst' other
      × (g ≡ max one other)
  MeetClasses-pushed [] [] arg id g same h =
      let is : id ≡ h.0 = cc in
      let after = h.6 in
      (0, h.2, (refl, refl), subst (λ (n : ℕ). MeetsClass scene arg n subst' h.2) (sym is) h.5, swap_max h.2 h.3 g after.1 h.7)
    where
      swap_max : (a b g : ℕ) → b ≡ 0 → g ≡ max a b → g ≡ max 0 a
      swap_max a b g e f = omega arith
  MeetClasses-pushed [] (n ∷ ns) arg id g same h = absurd (omega arith)
  MeetClasses-pushed (first ∷ rest) [] arg id g same h = absurd (omega arith)
  MeetClasses-pushed (first ∷ rest) (n ∷ ns) arg id g same h =
      let is : n ≡ h.0 = cc in
      let tail : ns ++ id ∷ [] ≡ h.1 = cc in
      let inside = MeetClasses-pushed rest ns arg id h.3 (omega arith)
      (subst (λ (list : List ℕ). MeetClasses scene (rest ++ arg ∷ []) list subst' h.3) (sym tail) h.6) in (
        max h.2 inside.0,
        inside.1,
        (n, ns, h.2, inside.0, refl, subst (λ (m : ℕ). MeetsClass scene first m subst' h.2) (sym is) h.5, inside.2, refl),
        inside.3,
        regroup h.2 inside.0 inside.1 h.3 g inside.4 h.7,
      )
    where
      regroup : (a b c d g : ℕ) → d ≡ max b c → g ≡ max a d → g ≡ max (max a b) c
      regroup a b c d g e f = omega arith

  -- so many arguments as patterns
  pub MeetClasses-length : (args : List Scheme) (ids : List ℕ) (g : ℕ) → MeetClasses scene args ids subst' g
      → length args ≡ length ids
  MeetClasses-length [] ids g h = ap length (sym h.0)
  MeetClasses-length (first ∷ rest) ids g h =
      let more = MeetClasses-length rest h.1 h.3 h.6 in
      let is = ap length h.4 in omega (arith, more, is)
