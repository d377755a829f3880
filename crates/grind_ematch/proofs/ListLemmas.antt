-- Partial matches of lists of patterns.
use Rattle.std.proofs.Common.{◌≡◌, inl, inr, ℕ, zero, suc, ◌<◌, max, arith, List, [], ◌∷◌, ◌++◌, length, Contains, refl, sym, ap, ◌∙◌, subst}
use Rattle.std.proofs.lemmas.List.Elements.{Contains-push, Contains-push_cases, Contains-append_left}
use Rattle.grind_term_graph.specs.declared.head.Head.{Head}
use Rattle.grind_classes.specs.Classes.{IsPartition}
use Rattle.grind_schemes.specs.declared.scheme.Scheme.{Scheme, Apply}
use Rattle.std.specs.Prelude.{Vec}
use Rattle.std.specs.Global.{Global}
use Rattle.grind_schemes.specs.Theorems.{TheoremData, IsTheorem, HoldsEach}
use Rattle.grind_schemes.specs.Instances.{node_of}
use Rattle.grind_ematch.specs.declared.partial.Partial.{Partial}
use Rattle.grind_ematch.specs.Matches.{Scene, Meets, MeetEach}
use Rattle.grind_ematch.specs.Partials.{QueryData, HoldsBoth, Joins, AreCandidates, MeetFrom, MeetsOneOf, MeetsSome, MeetAll, MeetAllOfOne, MeetsTheorem, IsVarOf, IsVarIn, IsVarOfQuery, ListsClasses, ListsOneOf, ListsSome, ListsAll, ListsAllOfOne, ListsTheorem}
use Rattle.grind_ematch.proofs.Along.{none_in}
use Rattle.grind_ematch.proofs.Algebra.{Both, Represents-same, Represents-none, Represents-either, Represents-both}
use Rattle.grind_ematch.proofs.NodeLemmas.{var_of_pushed}
use Rattle.grind_ematch.proofs.PatternLemmas.{Meets-Apply}

module _ (scene : Scene) (subst' : List ℕ) where
  -- patterns and one more
  MeetEach-push : (done : List Scheme) (pattern : Scheme) (n one other g : ℕ) → MeetEach scene subst' done one
      → Meets scene subst' pattern n other → g ≡ max one other → MeetEach scene subst' (done ++ pattern ∷ []) g
  MeetEach-push [] pattern n one other g h m e = (n, other, 0, m, refl, zero_max one other g h e)
    where
      zero_max : (one other g : ℕ) → one ≡ 0 → g ≡ max one other → g ≡ max other 0
      zero_max one other g e f = omega arith
  MeetEach-push (first ∷ done) pattern n one other g h m e = (
    h.0,
    h.1,
    max h.2 other,
    h.3,
    MeetEach-push done pattern n h.2 other (max h.2 other) h.4 m refl,
    regroup h.1 h.2 other one g h.5 e,
  )
    where
      regroup : (a b c one g : ℕ) → one ≡ max a b → g ≡ max one c → g ≡ max a (max b c)
      regroup a b c one g e f = omega arith

  MeetEach-pushed : (done : List Scheme) (pattern : Scheme) (g : ℕ) → MeetEach scene subst' (done ++ pattern ∷ []) g
      → (one : ℕ) × (other : ℕ) × (n : ℕ) × MeetEach scene subst' done one × Meets scene subst' pattern n other
      × (g ≡ max one other)
  MeetEach-pushed [] pattern g h = (0, h.1, h.0, refl, h.3, swap_max h.1 h.2 g h.4 h.5)
    where
      swap_max : (a b g : ℕ) → b ≡ 0 → g ≡ max a b → g ≡ max 0 a
      swap_max a b g e f = omega arith
  MeetEach-pushed (first ∷ done) pattern g h =
      let inside = MeetEach-pushed done pattern h.2 h.4 in (
        max h.1 inside.0,
        inside.1,
        inside.2,
        (h.0, h.1, inside.0, h.3, inside.3, refl),
        inside.4,
        regroup h.1 inside.0 inside.1 h.2 g inside.5 h.5,
      )
    where
      regroup : (a b c d g : ℕ) → d ≡ max b c → g ≡ max a d → g ≡ max (max a b) c
      regroup a b c d g e f = omega arith

max_zero : (g : ℕ) → g ≡ max 0 g
max_zero g = omega arith

zero_of : (inner g : ℕ) → inner ≡ 0 → g ≡ max 0 inner → g ≡ 0
zero_of inner g e f = omega arith

module _ (query : QueryData) where
  -- no pattern
  pub patterns_first : (list : List Partial) → ListsClasses query 0 [] [] list → ListsAll query [] list
  unfolding MeetFrom MeetAll IsVarOf
  patterns_first list h =
      Represents-same query (MeetFrom query.scene 0 [] []) (MeetAll query.scene []) (IsVarOf []) (IsVarOf []) list
      (λ subst' g m. zero_of m.0 g m.1.1 m.2)
      (λ subst' g fits m within. (0, (refl, refl), m ∙ max_zero 0))
      (λ variable w. w) h

  -- patterns and one more
  pub patterns_next : IsPartition query.scene.classes → (done : List Scheme) (pattern : Scheme) (found list both : List Partial)
      → ListsSome query pattern list → Joins found list both → ListsAll query done found
      → ListsAll query (done ++ pattern ∷ []) both
  unfolding MeetAll MeetsSome Both
  patterns_next partition done pattern found list both own joins h =
      let whole = Represents-both query (MeetAll query.scene done) (MeetsSome query.scene pattern) (IsVarOf done) (IsVarIn pattern)
      (IsVarOf (done ++ pattern ∷ [])) found list both partition joins (λ variable w. var_of_pushed done pattern variable w) h own in
      Represents-same query (Both (MeetAll query.scene done) (MeetsSome query.scene pattern))
      (MeetAll query.scene (done ++ pattern ∷ [])) (IsVarOf (done ++ pattern ∷ [])) (IsVarOf (done ++ pattern ∷ [])) both
      (λ subst' g m. MeetEach-push query.scene subst' done pattern m.3.0 m.0 m.1 g m.2 m.3.1 m.4)
      (λ subst' g fits m within. let p = MeetEach-pushed query.scene subst' done pattern g m in
      (p.0, p.1, p.3, (p.2, p.4), p.5))
      (λ variable w. w) whole

  -- a pattern at all nodes of its head
  pub pattern_somewhere : (head : Head) (sort : ℕ) (args : Vec Scheme Global) (pattern : Scheme) (nodes : List ℕ)
      (list : List Partial) → pattern ≡ Apply head sort args → AreCandidates query.scene head nodes
      → ListsOneOf query pattern nodes list → ListsSome query pattern list
  unfolding MeetsOneOf MeetsSome
  pattern_somewhere head sort args pattern nodes list e candidates h =
      Represents-same query (MeetsOneOf query.scene pattern nodes) (MeetsSome query.scene pattern) (IsVarIn pattern)
      (IsVarIn pattern) list
      (λ subst' g m. (m.0, m.2))
      (λ subst' g fits m within.
      let at = (Meets-Apply query.scene subst' head sort args m.0 g).0
      (subst (λ (scheme : Scheme). Meets query.scene subst' scheme m.0 g) e m.1) in
      (m.0, (candidates m.0).1 (at.2, (node_of head sort at.0, at.3, refl)), m.1))
      (λ variable w. w) h

  -- no list of patterns
  pub lists_first : ListsAllOfOne query [] []
  unfolding MeetAllOfOne
  lists_first = Represents-none query (MeetAllOfOne query.scene []) (IsVarOfQuery query)
      (λ subst' g fits m within. none_in m.0 m.1)

  -- lists of patterns and one more
  pub lists_next : (done : List (List Scheme)) (patterns : List Scheme) (found list new : List Partial)
      → HoldsEach query.vars patterns → ListsAll query patterns list → HoldsBoth found list new
      → ListsAllOfOne query done found → ListsAllOfOne query (done ++ patterns ∷ []) new
  unfolding MeetAllOfOne IsVarOf
  lists_next done patterns found list new holds own gathers h =
      let mine = Represents-same query (MeetAll query.scene patterns) (MeetAll query.scene patterns) (IsVarOf patterns)
      (IsVarOfQuery query) list (λ subst' g m. m) (λ subst' g fits m within. m)
      (λ variable w. holds variable w) own in
      Represents-either query (MeetAllOfOne query.scene done) (MeetAll query.scene patterns)
      (MeetAllOfOne query.scene (done ++ patterns ∷ [])) (IsVarOfQuery query) found list new gathers
      (λ subst' g m. (m.0, Contains-append_left done (patterns ∷ []) m.0 m.1, m.2))
      (λ subst' g m. (patterns, Contains-push done patterns, m))
      (λ subst' g m. elim (Contains-push_cases done patterns m.0 m.1) [
        | inl before ↦ inl (m.0, before, m.2)
        | inr same ↦ inr (subst (λ (ps : List Scheme). MeetAll query.scene ps subst' g) (sym same) m.2)
      ])
      h mine

  none_below : (vars : List ℕ) (variable : ℕ) → vars ≡ [] → variable < length vars → ⊥
  none_below vars variable e less = let long = ap length e in omega (arith, long, less)

  -- a theorem without variables
  pub theorem_without_vars : (theorem : TheoremData) (list : List Partial) → query.vars ≡ theorem.vars → theorem.vars ≡ []
      → length theorem.patterns ≡ 0 → ListsClasses query 0 [] [] list → ListsTheorem query theorem list
  unfolding MeetFrom MeetsTheorem IsVarOf
  theorem_without_vars theorem list e none no_patterns h =
      Represents-same query (MeetFrom query.scene 0 [] []) (MeetsTheorem query.scene theorem) (IsVarOf []) (IsVarOfQuery query) list
      (λ subst' g m. inl (none, zero_of m.0 g m.1.1 m.2))
      (λ subst' g fits m within. elim m [
        | inl alone ↦ (0, (refl, refl), alone.1 ∙ max_zero 0)
        | inr ways ↦ absurd (none_within ways.0 ways.1)
      ])
      (λ variable w. absurd (none_below query.vars variable (e ∙ none) w)) h
    where
      none_within : (patterns : List Scheme) → Contains theorem.patterns patterns → ⊥
      none_within patterns there = let less = there.1 in omega (arith, less, no_patterns)

  -- a theorem with variables
  pub theorem_with_vars : (theorem : TheoremData) (list : List Partial) → (theorem.vars ≡ [] → ⊥)
      → ListsAllOfOne query theorem.patterns list → ListsTheorem query theorem list
  unfolding MeetAllOfOne MeetAll MeetsTheorem
  theorem_with_vars theorem list some h =
      Represents-same query (MeetAllOfOne query.scene theorem.patterns) (MeetsTheorem query.scene theorem) (IsVarOfQuery query)
      (IsVarOfQuery query) list
      (λ subst' g m. inr m)
      (λ subst' g fits m within. elim m [ inl alone ↦ absurd (some alone.0) | inr ways ↦ ways ])
      (λ variable w. w) h

-- a theorem without variables has no list of patterns
pub no_patterns : (theorem : TheoremData) → IsTheorem theorem → theorem.vars ≡ [] → length theorem.patterns ≡ 0
no_patterns theorem is none =
    by (length theorem.patterns) (λ some. let less = is.wanted.1 some in let long = ap length none in omega (arith, less, long))
  where
    by : (n : ℕ) → (0 < n → ⊥) → n ≡ 0
    by zero never = refl
    by (suc n) never = absurd (never (omega arith))
