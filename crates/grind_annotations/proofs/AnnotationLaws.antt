-- What annotations give a theorem: at most one list of patterns each, up to copies, and patterns that every theorem keeps.
use Rattle.std.specs.Prelude.{◌≡◌, ℕ, List, [], ◌∷◌, ◌++◌, Option, Some, None, All}
use Rattle.std.specs.List.{AllByRecursion}
use Rattle.std.proofs.Common.{sym, ap, subst, ◌∙◌, append_assoc}
use Rattle.std.proofs.lemmas.List.{append-nil}
use Rattle.std.proofs.lemmas.List.Elements.{All-nil, All-cons, All-head, All-tail}
use Rattle.grind_schemes.specs.declared.scheme.Scheme.{Scheme}
use Rattle.grind_schemes.specs.Schemes.{scheme_sort, IsScheme, IsHeadedByFunction}
use Rattle.grind_schemes.specs.Theorems.{HoldsEach}
use Rattle.grind_grammar.specs.Terms.{Term, Annotation, Left, Right, Hyps, Concl, Pattern}
use Rattle.grind_resolution.specs.Scopes.{Given}
use Rattle.grind_resolution.specs.Sorting.{HasSort, IsSorted}
use Rattle.grind_resolution.specs.Resolved.{StandsFor}
use Rattle.grind_resolution.specs.Same.{AreSame}
use Rattle.grind_patterns.specs.declared.kind.Kind.{Kind}
use Rattle.grind_patterns.specs.declared.kind.Kind.TheVariants as annotated
use Rattle.grind_patterns.specs.Copies.{AreCopies}
use Rattle.grind_patterns.specs.Patterns.{IsPatternTerm, IsFormedKind, PatternsOrNone}
use Rattle.grind_patterns.proofs.WalkLemmas.{IsCopy-sym, AreCopies-sym, IsHeadedByFunction-copy}
use Rattle.grind_patterns.proofs.BodyLemmas.{holds_copied}
use Rattle.grind_patterns.proofs.FormedLemmas.{patterns_formed}
use Rattle.grind_annotations.specs.Giving.{StandForEach, Annotates, GivesPatterns, GivePatterns}
use Rattle.grind_annotations.specs.Written.{written, AllWritten}
use Rattle.grind_annotations.specs.Annotating.{GivesOrNone, ListsOrNone}
use Rattle.grind_annotations.proofs.SamePatterns.{same-copy, AreKindCopies, chosen-copy}

module _ (gives : List ℕ → Given → Type 0) where
  -- some terms are resolved, and these are left: their schemes complete those of all
  pub record IsResolving (all rest : List Term) (done : List Scheme) : Type 0 where
    pub onward : (schemes : List Scheme) → StandForEach gives rest schemes → StandForEach gives all (done ++ schemes)

  pub resolving-next : (all rest tail : List Term) (t : Term) (done longer : List Scheme) (scheme : Scheme) → rest ≡ t ∷ tail → IsResolving all rest done
      → StandsFor gives t scheme → longer ≡ done ++ scheme ∷ [] → IsResolving all tail longer
  resolving-next all rest tail t done longer scheme p h stands l = record {
    onward = λ schemes g.
        subst (StandForEach gives all) (sym (append_assoc done (scheme ∷ []) schemes) ∙ ap (λ d. d ++ schemes) (sym l))
        (h.onward (scheme ∷ schemes) (subst (λ r. StandForEach gives r (scheme ∷ schemes)) (sym p) (stands, g)));
  }

  pub resolving-end : (all rest : List Term) (done : List Scheme) → rest ≡ [] → IsResolving all rest done → StandForEach gives all done
  resolving-end all rest done p h =
      subst (StandForEach gives all) (append-nil done) (h.onward [] (subst (λ r. StandForEach gives r []) (sym p) tt))

module _ (gives : List ℕ → Given → Type 0) (one : (t : Term) (a b : Scheme) → StandsFor gives t a → StandsFor gives t b → AreSame a b) where
  -- terms stand for copies
  each-copies : (terms : List Term) (xs ys : List Scheme) → StandForEach gives terms xs → StandForEach gives terms ys → AreCopies xs ys
  each-copies [] [] [] g h = tt
  each-copies [] [] (y ∷ ys) g h = absurd h
  each-copies [] (x ∷ xs) ys g h = absurd g
  each-copies (t ∷ terms) [] ys g h = absurd g
  each-copies (t ∷ terms) (x ∷ xs) [] g h = absurd h
  each-copies (t ∷ terms) (x ∷ xs) (y ∷ ys) g h = (same-copy x y (one t x y g.0 h.0), each-copies terms xs ys g.1 h.1)

  both_are : (kind own other : Kind) → kind ≡ other → own ≡ other → AreKindCopies other other → AreKindCopies kind own
  both_are kind own other g h c = subst (λ k. AreKindCopies k own) (sym g) (subst (AreKindCopies other) (sym h) c)

  -- two kinds of one annotation write copies
  kinds-copies : (annotation : Annotation) (kind own : Kind) → Annotates gives annotation kind → Annotates gives annotation own → AreKindCopies kind own
  kinds-copies Left kind own g h = both_are kind own annotated.Left g h tt
  kinds-copies Right kind own g h = both_are kind own annotated.Right g h tt
  kinds-copies Hyps kind own g h = both_are kind own annotated.Hyps g h tt
  kinds-copies Concl kind own g h = both_are kind own annotated.Concl g h tt
  kinds-copies (Pattern terms) kind own g h =
      subst (λ k. AreKindCopies k own) (sym g.2)
      (subst (AreKindCopies (annotated.Written g.0)) (sym h.2) (each-copies terms g.0 h.0 g.1 h.1))

  -- what a kind gives is what the annotation gives
  pub gives_or_none : (vars : List ℕ) (body : Scheme) (annotation : Annotation) (kind : Kind) → Annotates gives annotation kind → (found : Option (List Scheme))
      → PatternsOrNone vars body kind found → GivesOrNone gives vars body annotation found
  gives_or_none vars body annotation kind a (Some patterns) h = (kind, a, h)
  gives_or_none vars body annotation kind a None h = λ other same patterns g.
      let more = chosen-copy vars other body g.0 kind (g.2).0 (same-copy other body same) (kinds-copies annotation g.0 kind g.1 a) (g.2).1 in
      h more.0 more.1

module _ (gives : List ℕ → Given → Type 0) (vars : List ℕ) (body : Scheme) where
  -- some annotations gave patterns, and these are left: what they give completes what all give, and where they give none all give none
  pub record IsAnnotating (all rest : List Annotation) (done : List (List Scheme)) : Type 0 where
    pub onward : (lists : List (List Scheme)) → GivePatterns gives vars body rest lists → GivePatterns gives vars body all (done ++ lists)
    pub back : (other : Scheme) (whole : List (List Scheme)) → GivePatterns gives vars other all whole
        → (lists : List (List Scheme)) × GivePatterns gives vars other rest lists

  -- the lists of an annotation and of those after it
  behind : (other : Scheme) (annotation : Annotation) (tail : List Annotation) (lists : List (List Scheme)) → GivePatterns gives vars other (annotation ∷ tail) lists
      → (later : List (List Scheme)) × GivePatterns gives vars other tail later
  behind other annotation tail [] h = absurd h
  behind other annotation tail (patterns ∷ lists) h = (lists, h.1)

  first : (other : Scheme) (annotation : Annotation) (tail : List Annotation) (lists : List (List Scheme)) → GivePatterns gives vars other (annotation ∷ tail) lists
      → (patterns : List Scheme) × GivesPatterns gives vars other annotation patterns
  first other annotation tail [] h = absurd h
  first other annotation tail (patterns ∷ lists) h = (patterns, h.0)

  module _ (all rest tail : List Annotation) (annotation : Annotation) (done : List (List Scheme)) (p : rest ≡ annotation ∷ tail) (h : IsAnnotating all rest done) where
    pub annotating-next : (longer : List (List Scheme)) (patterns : List Scheme) → GivesPatterns gives vars body annotation patterns
        → longer ≡ done ++ patterns ∷ [] → IsAnnotating all tail longer
    annotating-next longer patterns g l = record {
      onward = λ lists k.
          subst (GivePatterns gives vars body all) (sym (append_assoc done (patterns ∷ []) lists) ∙ ap (λ d. d ++ lists) (sym l))
          (h.onward (patterns ∷ lists) (subst (λ r. GivePatterns gives vars body r (patterns ∷ lists)) (sym p) (g, k)));
      back = λ other whole k.
          let w = h.back other whole k in
          behind other annotation tail w.0 (subst (λ r. GivePatterns gives vars other r w.0) p w.1);
    }

    pub annotating-none : GivesOrNone gives vars body annotation None → ListsOrNone gives vars body all None
    annotating-none none = λ other same whole k.
        let w = h.back other whole k in
        let x = first other annotation tail w.0 (subst (λ r. GivePatterns gives vars other r w.0) p w.1) in
        none other same x.0 x.1

  pub annotating-end : (all rest : List Annotation) (done : List (List Scheme)) → rest ≡ [] → IsAnnotating all rest done → GivePatterns gives vars body all done
  annotating-end all rest done p h =
      subst (GivePatterns gives vars body all) (append-nil done) (h.onward [] (subst (λ r. GivePatterns gives vars body r []) (sym p) tt))

  copies-headed : (xs ys : List Scheme) → AreCopies xs ys → All IsPatternTerm ys → All IsHeadedByFunction xs
  copies-headed [] ys c p = All-nil IsHeadedByFunction
  copies-headed (x ∷ xs) [] c p = absurd c
  copies-headed (x ∷ xs) (y ∷ ys) c p =
      All-cons IsHeadedByFunction x xs (IsHeadedByFunction-copy y x (IsCopy-sym x y c.0) (All-head IsPatternTerm y ys p).headed)
      (copies-headed xs ys c.1 (All-tail IsPatternTerm y ys p))

  -- the patterns are headed by declared functions
  pub lists-headed : (annotations : List Annotation) (lists : List (List Scheme)) → GivePatterns gives vars body annotations lists → All (All IsHeadedByFunction) lists
  lists-headed [] [] h = All-nil (All IsHeadedByFunction)
  lists-headed [] (patterns ∷ lists) h = absurd h
  lists-headed (annotation ∷ annotations) [] h = absurd h
  lists-headed (annotation ∷ annotations) (patterns ∷ lists) h =
      let chosen = (h.0).2 in
      All-cons (All IsHeadedByFunction) patterns lists (copies-headed patterns chosen.0 chosen.2 (chosen.1).patterns) (lists-headed annotations lists h.1)

  -- and each list holds every variable
  pub lists-held : (annotations : List Annotation) (lists : List (List Scheme)) → GivePatterns gives vars body annotations lists → All (HoldsEach vars) lists
  lists-held [] [] h = All-nil (HoldsEach vars)
  lists-held [] (patterns ∷ lists) h = absurd h
  lists-held (annotation ∷ annotations) [] h = absurd h
  lists-held (annotation ∷ annotations) (patterns ∷ lists) h =
      let chosen = (h.0).2 in
      All-cons (HoldsEach vars) patterns lists (holds_copied vars chosen.0 patterns (AreCopies-sym patterns chosen.0 chosen.2) (chosen.1).variables)
      (lists-held annotations lists h.1)

module _ (gives : List ℕ → Given → Type 0) (vars : List ℕ)
    (formed : (t : Term) (sort : ℕ) (scheme : Scheme) → HasSort gives t sort → StandsFor gives t scheme → IsScheme vars scheme × (scheme_sort vars scheme ≡ Some sort)) where
  each-formed : (terms : List Term) (schemes : List Scheme) → AllByRecursion (IsSorted gives) terms → StandForEach gives terms schemes → All (IsScheme vars) schemes
  each-formed [] [] s h = All-nil (IsScheme vars)
  each-formed [] (scheme ∷ schemes) s h = absurd h
  each-formed (t ∷ terms) [] s h = absurd h
  each-formed (t ∷ terms) (scheme ∷ schemes) s h =
      All-cons (IsScheme vars) scheme schemes (formed t (s.0).0 scheme (s.0).1 h.0).0 (each-formed terms schemes s.1 h.1)

  -- written terms of a sort stand for well-formed schemes
  kind-formed : (annotation : Annotation) (kind : Kind) → AllByRecursion (IsSorted gives) (written annotation) → Annotates gives annotation kind → IsFormedKind vars kind
  kind-formed Left kind s h = subst (IsFormedKind vars) (sym h) tt
  kind-formed Right kind s h = subst (IsFormedKind vars) (sym h) tt
  kind-formed Hyps kind s h = subst (IsFormedKind vars) (sym h) tt
  kind-formed Concl kind s h = subst (IsFormedKind vars) (sym h) tt
  kind-formed (Pattern terms) kind s h = subst (IsFormedKind vars) (sym h.2) (each-formed terms h.0 s h.1)

  -- and so the patterns are well formed
  pub lists-formed : (body : Scheme) → IsScheme vars body → (annotations : List Annotation) (lists : List (List Scheme)) → AllWritten (IsSorted gives) annotations
      → GivePatterns gives vars body annotations lists → All (All (IsScheme vars)) lists
  lists-formed body b [] [] s h = All-nil (All (IsScheme vars))
  lists-formed body b [] (patterns ∷ lists) s h = absurd h
  lists-formed body b (annotation ∷ annotations) [] s h = absurd h
  lists-formed body b (annotation ∷ annotations) (patterns ∷ lists) s h =
      let g = h.0 in
      All-cons (All (IsScheme vars)) patterns lists (patterns_formed vars body g.0 patterns g.2 b (kind-formed annotation g.0 s.0 g.1))
      (lists-formed body b annotations lists s.1 h.1)
