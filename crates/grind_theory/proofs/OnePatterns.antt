-- A body and an annotation give one list of patterns, whatever room the lists of the schemes have.
use Rattle.std.specs.Prelude.{◌≡◌, ℕ, List, [], ◌∷◌}
use Rattle.std.specs.List.{AllZip}
use Rattle.std.proofs.Common.{sym, ap, subst, ◌∙◌, inl, inr}
use Rattle.grind_schemes.specs.declared.scheme.Scheme.{Scheme, Var, Apply', Row_of-Scheme, end_of-Scheme, more_of-Scheme}
use Rattle.grind_grammar.specs.Terms.{Term, Annotation, Left, Right, Hyps, Concl, Pattern}
use Rattle.grind_resolution.specs.Scopes.{Given}
use Rattle.grind_resolution.specs.Resolved.{StandsFor}
use Rattle.grind_resolution.specs.Same.{AreSame, AreSameRows}
use Rattle.grind_patterns.specs.declared.kind.Kind.{Kind}
use Rattle.grind_patterns.specs.declared.kind.Kind.TheVariants as kinds
use Rattle.grind_patterns.specs.Copies.{IsCopy, AreCopies, AreCopiesRow}
use Rattle.grind_patterns.specs.Patterns.{TakesAt, Walks, WalksRow, WalksEach, hypotheses_of, conclusion_of, IsEquation, Chooses}
use Rattle.grind_annotations.specs.Giving.{StandForEach, Annotates, GivesPatterns, GivePatterns}
use Rattle.grind_annotations.proofs.SamePatterns.{same-copy, AreKindCopies, chooses-copy}

-- at a pattern term a walk goes on in one way
one_take : (before : List Scheme) (term : Scheme) (after other : List Scheme) → TakesAt before term after → TakesAt before term other → after ≡ other
one_take before term after other (p, inl (u, is)) (q, inl (v, js)) = is ∙ sym js
one_take before term after other (p, inl (u, is)) (q, inr (covered, js)) = absurd (covered u)
one_take before term after other (p, inr (covered, is)) (q, inl (v, js)) = absurd (covered v)
one_take before term after other (p, inr (u, is)) (q, inr (v, js)) = is ∙ sym js

mutual
  -- a walk takes one list of terms
  one_walk : (scheme : Scheme) (before after other : List Scheme) → Walks before scheme after → Walks before scheme other → after ≡ other
  one_walk (Var i) before after other h k = h ∙ sym k
  one_walk (Apply' head sort shape args) before after other (inl t) (inl u) = one_take before (Apply' head sort shape args) after other t u
  one_walk (Apply' head sort shape args) before after other (inl t) (inr w) = absurd (w.0 t.0)
  one_walk (Apply' head sort shape args) before after other (inr w) (inl t) = absurd (w.0 t.0)
  one_walk (Apply' head sort shape args) before after other (inr v) (inr w) = one_row_walk _ args before after other v.1 w.1

  one_row_walk : (m : _) (row : Row_of-Scheme m) (before after other : List Scheme) → WalksRow before row after → WalksRow before row other → after ≡ other
  one_row_walk m end_of-Scheme before after other h k = h ∙ sym k
  one_row_walk m (more_of-Scheme first rest) before after other h k =
      let same : h.0 ≡ k.0 = one_walk first before h.0 k.0 h.1 k.1 in
      one_row_walk _ rest h.0 after other h.2 (subst (λ x. WalksRow x rest other) (sym same) k.2)

one_long_walk : (schemes before after other : List Scheme) → WalksEach before schemes after → WalksEach before schemes other → after ≡ other
one_long_walk [] before after other h k = h ∙ sym k
one_long_walk (first ∷ rest) before after other h k =
    let same : h.0 ≡ k.0 = one_walk first before h.0 k.0 h.1 k.1 in
    one_long_walk rest h.0 after other h.2 (subst (λ x. WalksEach x rest other) (sym same) k.2)

same_two : (l r m q : Scheme) → ◌≡◌ {A = List Scheme} (l ∷ r ∷ []) (m ∷ q ∷ []) → (l ≡ m) × (r ≡ q)
same_two l r m q e =
    let x : l ≡ m = cc in
    let y : r ≡ q = cc in
    (x, y)

-- an equation has one left side and one right side
same_sides : (l r m q c : Scheme) → IsEquation l r c → IsEquation m q c → (l ≡ m) × (r ≡ q)
same_sides l r m q (Var i) h k = absurd h
same_sides l r m q (Apply' head sort shape args) h k = same_two l r m q (sym h.1 ∙ k.1)

-- a kind of annotation chooses one list of terms
one_choice : (body : Scheme) (kind : Kind) (chosen other : List Scheme) → Chooses body kind chosen → Chooses body kind other → chosen ≡ other
one_choice body kinds.Left chosen other h k =
    h.3 ∙ ap (λ (x : Scheme). x ∷ []) (same_sides h.0 h.1 k.0 k.1 (conclusion_of body) h.2 k.2).0 ∙ sym k.3
one_choice body kinds.Right chosen other h k =
    h.3 ∙ ap (λ (x : Scheme). x ∷ []) (same_sides h.0 h.1 k.0 k.1 (conclusion_of body) h.2 k.2).1 ∙ sym k.3
one_choice body kinds.Hyps chosen other h k = one_long_walk (hypotheses_of body) [] chosen other h.1 k.1
one_choice body kinds.Concl chosen other h k = one_walk (conclusion_of body) [] chosen other h k
one_choice body (kinds.Written terms) chosen other h k = h ∙ sym k

mutual
  -- a copy of a copy of a scheme, and a copy of it, are the same
  copies_same : (a b c d : Scheme) → IsCopy a b → IsCopy b c → IsCopy d c → AreSame a d
  copies_same (Var i) (Var j) (Var k) (Var l) h g f = h ∙ g ∙ sym f
  copies_same (Var i) (Var j) (Var k) (Apply' head sort shape args) h g f = absurd f
  copies_same (Var i) (Var j) (Apply' head sort shape args) d h g f = absurd g
  copies_same (Var i) (Apply' head sort shape args) c d h g f = absurd h
  copies_same (Apply' head sort shape args) (Var j) c d h g f = absurd h
  copies_same (Apply' head sort shape args) (Apply' head_b sort_b shape_b args_b) (Var k) d h g f = absurd g
  copies_same (Apply' head sort shape args) (Apply' head_b sort_b shape_b args_b) (Apply' head_c sort_c shape_c args_c) (Var l) h g f = absurd f
  copies_same (Apply' head sort shape args) (Apply' head_b sort_b shape_b args_b) (Apply' head_c sort_c shape_c args_c) (Apply' head_d sort_d shape_d args_d) h g f =
      (h.0 ∙ g.0 ∙ sym f.0, h.1 ∙ g.1 ∙ sym f.1, copies_same_rows _ _ _ _ args args_b args_c args_d h.2 g.2 f.2)

  copies_same_rows : (m n p q : _) (a : Row_of-Scheme m) (b : Row_of-Scheme n) (c : Row_of-Scheme p) (d : Row_of-Scheme q)
      → AreCopiesRow a b → AreCopiesRow b c → AreCopiesRow d c → AreSameRows a d
  copies_same_rows m n p q end_of-Scheme end_of-Scheme end_of-Scheme end_of-Scheme h g f = tt
  copies_same_rows m n p q end_of-Scheme end_of-Scheme end_of-Scheme (more_of-Scheme x xs) h g f = absurd f
  copies_same_rows m n p q end_of-Scheme end_of-Scheme (more_of-Scheme x xs) d h g f = absurd g
  copies_same_rows m n p q end_of-Scheme (more_of-Scheme x xs) c d h g f = absurd h
  copies_same_rows m n p q (more_of-Scheme x xs) end_of-Scheme c d h g f = absurd h
  copies_same_rows m n p q (more_of-Scheme x xs) (more_of-Scheme y ys) end_of-Scheme d h g f = absurd g
  copies_same_rows m n p q (more_of-Scheme x xs) (more_of-Scheme y ys) (more_of-Scheme z zs) end_of-Scheme h g f = absurd f
  copies_same_rows m n p q (more_of-Scheme x xs) (more_of-Scheme y ys) (more_of-Scheme z zs) (more_of-Scheme w ws) h g f =
      (copies_same x y z w h.0 g.0 f.0, copies_same_rows _ _ _ _ xs ys zs ws h.1 g.1 f.1)

each_copies_same : (xs ys zs ws : List Scheme) → AreCopies xs ys → AreCopies ys zs → AreCopies ws zs → AllZip AreSame xs ws
each_copies_same [] [] [] [] h g f = tt
each_copies_same [] [] [] (w ∷ ws) h g f = absurd f
each_copies_same [] [] (z ∷ zs) ws h g f = absurd g
each_copies_same [] (y ∷ ys) zs ws h g f = absurd h
each_copies_same (x ∷ xs) [] zs ws h g f = absurd h
each_copies_same (x ∷ xs) (y ∷ ys) [] ws h g f = absurd g
each_copies_same (x ∷ xs) (y ∷ ys) (z ∷ zs) [] h g f = absurd f
each_copies_same (x ∷ xs) (y ∷ ys) (z ∷ zs) (w ∷ ws) h g f = (copies_same x y z w h.0 g.0 f.0, each_copies_same xs ys zs ws h.1 g.1 f.1)

module _ (gives : List ℕ → Given → Type 0) (one : (t : Term) (a b : Scheme) → StandsFor gives t a → StandsFor gives t b → AreSame a b) where
  -- terms stand for one list of schemes
  written_copies : (terms : List Term) (xs ys : List Scheme) → StandForEach gives terms xs → StandForEach gives terms ys → AreCopies xs ys
  written_copies [] [] [] h k = tt
  written_copies [] [] (y ∷ ys) h k = absurd k
  written_copies [] (x ∷ xs) ys h k = absurd h
  written_copies (t ∷ terms) [] ys h k = absurd h
  written_copies (t ∷ terms) (x ∷ xs) [] h k = absurd k
  written_copies (t ∷ terms) (x ∷ xs) (y ∷ ys) h k = (same-copy x y (one t x y h.0 k.0), written_copies terms xs ys h.1 k.1)

  -- an annotation is of one kind
  kind_copies : (annotation : Annotation) (kind own : Kind) → Annotates gives annotation kind → Annotates gives annotation own → AreKindCopies kind own
  kind_copies Left kind own h k = subst (λ x. AreKindCopies x own) (sym h) (subst (AreKindCopies kinds.Left) (sym k) tt)
  kind_copies Right kind own h k = subst (λ x. AreKindCopies x own) (sym h) (subst (AreKindCopies kinds.Right) (sym k) tt)
  kind_copies Hyps kind own h k = subst (λ x. AreKindCopies x own) (sym h) (subst (AreKindCopies kinds.Hyps) (sym k) tt)
  kind_copies Concl kind own h k = subst (λ x. AreKindCopies x own) (sym h) (subst (AreKindCopies kinds.Concl) (sym k) tt)
  kind_copies (Pattern terms) kind own h k =
      subst (λ x. AreKindCopies x own) (sym h.2) (subst (AreKindCopies (kinds.Written h.0)) (sym k.2) (written_copies terms h.0 k.0 h.1 k.1))

  module _ (vars : List ℕ) (body other : Scheme) (same : AreSame body other) where
    -- an annotation gives one list of patterns
    one_list : (annotation : Annotation) (ps qs : List Scheme) → GivesPatterns gives vars body annotation ps → GivesPatterns gives vars other annotation qs
        → AllZip AreSame ps qs
    one_list annotation ps qs h k =
        let mine = h.2 in
        let theirs = k.2 in
        let moved = chooses-copy body other h.0 k.0 mine.0 (same-copy body other same) (kind_copies annotation h.0 k.0 h.1 k.1) (mine.1).chooses in
        let chosen : moved.0 ≡ theirs.0 = one_choice other k.0 moved.0 theirs.0 moved.1 (theirs.1).chooses in
        each_copies_same ps mine.0 theirs.0 qs mine.2 (subst (AreCopies mine.0) chosen moved.2) theirs.2

    -- annotations give one list of lists of patterns
    pub one_patterns : (annotations : List Annotation) (ps qs : List (List Scheme)) → GivePatterns gives vars body annotations ps
        → GivePatterns gives vars other annotations qs → AllZip (AllZip AreSame) ps qs
    one_patterns [] [] [] h k = tt
    one_patterns [] [] (q ∷ qs) h k = absurd k
    one_patterns [] (p ∷ ps) qs h k = absurd h
    one_patterns (annotation ∷ annotations) [] qs h k = absurd h
    one_patterns (annotation ∷ annotations) (p ∷ ps) [] h k = absurd k
    one_patterns (annotation ∷ annotations) (p ∷ ps) (q ∷ qs) h k = (one_list annotation p q h.0 k.0, one_patterns annotations ps qs h.1 k.1)
