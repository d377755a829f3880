-- Declarations that are taken one after another.
use Rattle.std.specs.Prelude.{◌≡◌, ℕ, suc, ◌+◌, List, [], ◌∷◌, map, refl}
use Rattle.std.specs.List.{AllByRecursion}
use Rattle.std.proofs.Common.{arith, sym, ap, subst}
use Rattle.grind_grammar.specs.declared.syntax.Name.{Name}
use Rattle.grind_grammar.specs.declared.syntax.Binder.{Binder}
use Rattle.grind_grammar.specs.declared.syntax.Annot.{Annot}
use Rattle.grind_grammar.specs.declared.syntax.Annot.TheVariants as annots
use Rattle.grind_grammar.specs.declared.syntax.Tree.{Tree}
use Rattle.grind_grammar.specs.declared.syntax.Decl.{Decl}
use Rattle.grind_grammar.specs.declared.syntax.Decl.TheVariants as decls
use Rattle.grind_grammar.specs.Terms.{Term, Bound, Annotation, Left, Right, Hyps, Concl, Pattern, Declaration, Sort, Fun, Theorem, Goal, Limit}
use Rattle.grind_grammar.specs.Keeps.{IsPlaced, IsPlacedTree, name_of, term_of, KeepsName, KeepsTree, KeepsBound, KeepsAnnotation, KeepsEach, KeepsDecl, KeepsDecls}
use Rattle.grind_theory.specs.declared.theory.Fault.{Fault}
use Rattle.grind_theory.specs.States.{State, opening_state}
use Rattle.grind_theory.specs.Faults.{FaultOf}
use Rattle.grind_theory.specs.Theories.{Takes, TakesAll, RefusedAt, here, later}
use Rattle.grind_annotations.specs.Written.{terms_of, annotation_of, annotations_of, IsPlacedAnnot}
use Rattle.grind_theory.specs.Kept.{names_of, bound_of, bounds_of, declaration_of, IsPlacedBinder, IsPlacedDecl}

-- what keeps each item keeps what is read of it
module _ {A B : Type 0} (keeps : A → B → Type 0) (read : A → B) (IsPlacedItem : A → Type 0)
    (item : (k : A) (x : B) → keeps k x → IsPlacedItem k × (read k ≡ x)) where
  each : (kept : List A) (items : List B) → KeepsEach keeps kept items → AllByRecursion IsPlacedItem kept × (map read kept ≡ items)
  each [] [] h = (tt, refl)
  each [] (x ∷ items) h = absurd h
  each (k ∷ kept) [] h = absurd h
  each (k ∷ kept) (x ∷ items) h =
      let a = item k x h.0 in
      let b = each kept items h.1 in
      ((a.0, b.0), λ i. a.1 i ∷ b.1 i)

module _ (text : List ℕ) where
  bound-kept : (k : Binder) (x : Bound) → KeepsBound text k x → IsPlacedBinder text k × (bound_of text k ≡ x)
  bound-kept k x h = (((h.0).0, (h.1).0), λ i. record { name = (h.0).1 i; sort = (h.1).1 i })

  names-kept : (kept : List Name) (items : List (List ℕ)) → KeepsEach (KeepsName text) kept items → AllByRecursion (IsPlaced text) kept × (names_of text kept ≡ items)
  names-kept = each (KeepsName text) (name_of text) (IsPlaced text) (λ k x h. h)

  trees-kept : (kept : List Tree) (items : List Term) → KeepsEach (KeepsTree text) kept items → AllByRecursion (IsPlacedTree text) kept × (terms_of text kept ≡ items)
  trees-kept = each (KeepsTree text) (term_of text) (IsPlacedTree text) (λ k x h. h)

  bounds-kept : (kept : List Binder) (items : List Bound) → KeepsEach (KeepsBound text) kept items → AllByRecursion (IsPlacedBinder text) kept × (bounds_of text kept ≡ items)
  bounds-kept = each (KeepsBound text) (bound_of text) (IsPlacedBinder text) bound-kept

  annotation-kept : (k : Annot) (x : Annotation) → KeepsAnnotation text k x → IsPlacedAnnot text k × (annotation_of text k ≡ x)
  annotation-kept annots.Left Left h = (tt, refl)
  annotation-kept annots.Right Right h = (tt, refl)
  annotation-kept annots.Hyps Hyps h = (tt, refl)
  annotation-kept annots.Concl Concl h = (tt, refl)
  annotation-kept (annots.Pattern kept) (Pattern patterns) h = let a = trees-kept kept patterns h in (a.0, ap Pattern a.1)
  annotation-kept annots.Left Right h = absurd h
  annotation-kept annots.Left Hyps h = absurd h
  annotation-kept annots.Left Concl h = absurd h
  annotation-kept annots.Left (Pattern x) h = absurd h
  annotation-kept annots.Right Left h = absurd h
  annotation-kept annots.Right Hyps h = absurd h
  annotation-kept annots.Right Concl h = absurd h
  annotation-kept annots.Right (Pattern x) h = absurd h
  annotation-kept annots.Hyps Left h = absurd h
  annotation-kept annots.Hyps Right h = absurd h
  annotation-kept annots.Hyps Concl h = absurd h
  annotation-kept annots.Hyps (Pattern x) h = absurd h
  annotation-kept annots.Concl Left h = absurd h
  annotation-kept annots.Concl Right h = absurd h
  annotation-kept annots.Concl Hyps h = absurd h
  annotation-kept annots.Concl (Pattern x) h = absurd h
  annotation-kept (annots.Pattern k) Left h = absurd h
  annotation-kept (annots.Pattern k) Right h = absurd h
  annotation-kept (annots.Pattern k) Hyps h = absurd h
  annotation-kept (annots.Pattern k) Concl h = absurd h

  annotations-kept : (kept : List Annot) (items : List Annotation) → KeepsEach (KeepsAnnotation text) kept items → AllByRecursion (IsPlacedAnnot text) kept × (annotations_of text kept ≡ items)
  annotations-kept = each (KeepsAnnotation text) (annotation_of text) (IsPlacedAnnot text) annotation-kept

  -- a declaration that is kept is the one that is read, and its names stand in the text
  decl-kept : (k : Decl) (x : Declaration) → KeepsDecl text k x → IsPlacedDecl text k × (declaration_of text k ≡ x)
  decl-kept (decls.Sort name) (Sort n) h = (h.0, ap Sort h.1)
  decl-kept (decls.Fun name args result) (Fun n ss r) h =
      let a = names-kept args ss h.1 in (((h.0).0, a.0, (h.2).0), λ i. Fun ((h.0).1 i) (a.1 i) ((h.2).1 i))
  decl-kept (decls.Theorem name binders annots body) (Theorem n bs ans t) h =
      let b = bounds-kept binders bs h.1 in
      let a = annotations-kept annots ans h.2 in
      (((h.0).0, b.0, a.0, (h.3).0), λ i. Theorem ((h.0).1 i) (b.1 i) (a.1 i) ((h.3).1 i))
  decl-kept (decls.Goal name binders hyps show) (Goal n bs hs t) h =
      let b = bounds-kept binders bs h.1 in
      let a = trees-kept hyps hs h.2 in
      (((h.0).0, b.0, a.0, (h.3).0), λ i. Goal ((h.0).1 i) (b.1 i) (a.1 i) ((h.3).1 i))
  decl-kept (decls.Limit name value) (Limit n v) h = ((h.0).0, λ i. Limit ((h.0).1 i) (h.1 i))
  decl-kept (decls.Sort name) (Fun a b c) h = absurd h
  decl-kept (decls.Sort name) (Theorem a b c d) h = absurd h
  decl-kept (decls.Sort name) (Goal a b c d) h = absurd h
  decl-kept (decls.Sort name) (Limit a b) h = absurd h
  decl-kept (decls.Fun x y z) (Sort a) h = absurd h
  decl-kept (decls.Fun x y z) (Theorem a b c d) h = absurd h
  decl-kept (decls.Fun x y z) (Goal a b c d) h = absurd h
  decl-kept (decls.Fun x y z) (Limit a b) h = absurd h
  decl-kept (decls.Theorem x y z w) (Sort a) h = absurd h
  decl-kept (decls.Theorem x y z w) (Fun a b c) h = absurd h
  decl-kept (decls.Theorem x y z w) (Goal a b c d) h = absurd h
  decl-kept (decls.Theorem x y z w) (Limit a b) h = absurd h
  decl-kept (decls.Goal x y z w) (Sort a) h = absurd h
  decl-kept (decls.Goal x y z w) (Fun a b c) h = absurd h
  decl-kept (decls.Goal x y z w) (Theorem a b c d) h = absurd h
  decl-kept (decls.Goal x y z w) (Limit a b) h = absurd h
  decl-kept (decls.Limit x y) (Sort a) h = absurd h
  decl-kept (decls.Limit x y) (Fun a b c) h = absurd h
  decl-kept (decls.Limit x y) (Theorem a b c d) h = absurd h
  decl-kept (decls.Limit x y) (Goal a b c d) h = absurd h

  pub decls-kept : (kept : List Decl) (ds : List Declaration) → KeepsDecls text kept ds → AllByRecursion (IsPlacedDecl text) kept × (map (declaration_of text) kept ≡ ds)
  decls-kept = each (KeepsDecl text) (declaration_of text) (IsPlacedDecl text) decl-kept

-- some declarations are taken, and these are left: what they lead to all lead to, and where they are refused all are
pub record IsUnderway (all rest : List Declaration) (state : State) (number : ℕ) : Type 0 where
  pub onward : (after : State) → TakesAll state rest after → TakesAll opening_state all after
  pub refused : (n : ℕ) (fault : Fault) → RefusedAt state rest n fault → RefusedAt opening_state all (number + n) fault

pub underway-start : (all : List Declaration) (state : State) → state ≡ opening_state → IsUnderway all all state 0
underway-start all state e = record {
  onward = λ after h. subst (λ x. TakesAll x all after) e h;
  refused = λ n fault h.
      let count : n ≡ 0 + n = omega arith in
      subst (λ m. RefusedAt opening_state all m fault) count (subst (λ x. RefusedAt x all n fault) e h);
}

pub underway-next : (all rest tail : List Declaration) (d : Declaration) (state mid : State) (number : ℕ) → rest ≡ d ∷ tail → Takes state d mid
    → IsUnderway all rest state number → IsUnderway all tail mid (number + 1)
underway-next all rest tail d state mid number e takes h = record {
  onward = λ after g. h.onward after (subst (λ r. TakesAll state r after) (sym e) (mid, takes, g));
  refused = λ n fault g.
      let count : number + suc n ≡ number + 1 + n = omega arith in
      subst (λ m. RefusedAt opening_state all m fault) count (h.refused (suc n) fault (subst (λ r. RefusedAt state r (suc n) fault) (sym e) (later takes g)));
}

pub underway-end : (all rest : List Declaration) (state : State) (number : ℕ) → rest ≡ [] → IsUnderway all rest state number → TakesAll opening_state all state
underway-end all rest state number e h = h.onward state (subst (λ r. TakesAll state r state) (sym e) refl)

pub underway-refused : (all rest tail : List Declaration) (d : Declaration) (state : State) (number : ℕ) (fault : Fault) → rest ≡ d ∷ tail → FaultOf state d fault
    → IsUnderway all rest state number → RefusedAt opening_state all (number + 1) fault
underway-refused all rest tail d state number fault e f h = h.refused 1 fault (subst (λ r. RefusedAt state r 1 fault) (sym e) (here f))
