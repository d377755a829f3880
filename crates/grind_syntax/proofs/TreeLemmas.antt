-- Trees, by their parts.
use Rattle.std.proofs.Common.{◌≡◌, ℕ, suc, ◌+◌, ◌<◌, ◌≤◌, Bool, true, false, List, [], ◌∷◌, ◌++◌, Option, Some, None, All, Vec, Global, refl, sym, ◌∙◌, ap, subst, arith}
use Rattle.std.specs.Prelude.{map, max, nat_le, if◌then◌else◌}
use Rattle.std.proofs.lemmas.List.Elements.{All-nil, All-cons, All-head, All-tail}
use Rattle.std.proofs.lemmas.Bool.Decides.{nat_tests}
use mathlib.Core.Former.{Count}
use Rattle.grind_grammar.specs.declared.syntax.Name.{Name}
use Rattle.grind_grammar.specs.declared.syntax.Unary.{Unary}
use Rattle.grind_grammar.specs.declared.syntax.Binary.{Binary}
use Rattle.grind_grammar.specs.declared.syntax.Tree.{Tree, True, False, Number, Apply, Apply', One', Two', Row_of-Tree, end_of-Tree, more_of-Tree, items-the_row-Tree, items_hidden-the_row-Tree-0}
use Rattle.grind_grammar.specs.Terms as terms
use Rattle.grind_grammar.specs.Terms.{Term, Row, depth}
use Rattle.grind_grammar.specs.Keeps.{term_of, row_of, name_of, IsPlaced, IsPlacedTree, IsPlacedRow}
use Rattle.grind_grammar.specs.Reading.{fit, one, two, applied, row_from, with_all, all_of}
use Rattle.grind_syntax.specs.declared.sides.Side.{Side}
use Rattle.grind_syntax.specs.Depth.{tree_depth, row_depth, trees_depth}
use Rattle.grind_syntax.specs.Built.{term_given, IsPlacedBuilt, AreSidesPlaced, with_last, one_times, sides_joined}

max_same : {a b c d : ℕ} → a ≡ b → c ≡ d → max a c + 1 ≡ max b d + 1
max_same e f = cc

greatest_same : {a b c d : ℕ} → a ≡ b → c ≡ d → max a c ≡ max b d
greatest_same e f = cc

-- the term of a tree is as deep as the tree
mutual
  pub depth_of : (text : List ℕ) (t : Tree) → depth (term_of text t) ≡ tree_depth t
  depth_of text True = refl
  depth_of text False = refl
  depth_of text (Number value) = refl
  depth_of text (Apply' name shape args) = ap (λ n. n + 1) (depth_of_row text args)
  depth_of text (One' op p a) = ap (λ n. n + 1) (depth_of text a)
  depth_of text (Two' op p a q b) = max_same (depth_of text a) (depth_of text b)

  depth_of_row : {m : _} (text : List ℕ) (row : Row_of-Tree m) → terms.row_depth (row_of text row) ≡ row_depth row
  depth_of_row text end_of-Tree = refl
  depth_of_row text (more_of-Tree first rest) = greatest_same (depth_of text first) (depth_of_row text rest)

-- the parts of a name
abbrev row_of_tree : Tree → (n : Count) × Row_of-Tree n
row_of_tree (Apply' name shape args) = (_, args)
row_of_tree _ = (_, end_of-Tree)

depth_by_items : (n : _) (row : Row_of-Tree n) → row_depth row ≡ trees_depth (items-the_row-Tree n row)
depth_by_items n end_of-Tree = refl
depth_by_items n (more_of-Tree first rest) = ap (λ d. max (tree_depth first) d) (depth_by_items _ rest)

pub depth_Apply : (name : Name) (trees : Vec Tree Global) → tree_depth (Apply name trees) ≡ trees_depth trees.items + 1
depth_Apply name trees =
    let row = row_of_tree (Apply name trees) in
    ap (λ n. n + 1) (depth_by_items row.0 row.1 ∙ ap trees_depth (items_hidden-the_row-Tree-0 trees))

module _ (text : List ℕ) where
  row_by_items : (n : _) (row : Row_of-Tree n) → row_of text row ≡ row_from (map (term_of text) (items-the_row-Tree n row))
  unfolding row_from
  row_by_items n end_of-Tree = refl
  row_by_items n (more_of-Tree first rest) = ap (λ r. terms.more (term_of text first) r) (row_by_items _ rest)

  placed_by_items : (n : _) (row : Row_of-Tree n) → All (IsPlacedTree text) (items-the_row-Tree n row) → IsPlacedRow text row
  placed_by_items n end_of-Tree h = tt
  placed_by_items n (more_of-Tree first rest) h =
      (All-head (IsPlacedTree text) first _ h, placed_by_items _ rest (All-tail (IsPlacedTree text) first _ h))

  pub term_Apply : (name : Name) (trees : Vec Tree Global) →
      term_of text (Apply name trees) ≡ terms.Apply (name_of text name) (row_from (map (term_of text) trees.items))
  term_Apply name trees =
      let row = row_of_tree (Apply name trees) in
      ap (terms.Apply (name_of text name))
      (row_by_items row.0 row.1 ∙ ap (λ ts. row_from (map (term_of text) ts)) (items_hidden-the_row-Tree-0 trees))

  pub placed_Apply : (name : Name) (trees : Vec Tree Global) → IsPlaced text name → All (IsPlacedTree text) trees.items → IsPlacedTree text (Apply name trees)
  placed_Apply name trees h k =
      let row = row_of_tree (Apply name trees) in
      (h, placed_by_items row.0 row.1 (subst (All (IsPlacedTree text)) (sym (items_hidden-the_row-Tree-0 trees)) k))

-- a term that fits, and one that does not
pub fit_low : (limit : ℕ) (t : Term) → depth t ≤ limit → fit limit t ≡ Some t
unfolding fit
fit_low limit t h = let e : nat_le (depth t) limit ≡ true = grind (arith, nat_tests) in rw e refl

pub fit_deep : (limit : ℕ) (t : Term) → limit < depth t → fit limit t ≡ None
unfolding fit
fit_deep limit t h = let e : nat_le (depth t) limit ≡ false = grind (arith, nat_tests) in rw e refl

-- how deep the deepest is, with one more
pub deeper : (ts : List Tree) (t : Tree) → trees_depth (ts ++ t ∷ []) ≡ max (trees_depth ts) (tree_depth t)
deeper [] t = omega arith
deeper (u ∷ ts) t = let h = deeper ts t in omega arith

last_behind : (u : Term) (ts : Option (List Term)) (x : Option Term) → with_all (Some u) (with_last ts x) ≡ with_last (with_all (Some u) ts) x
unfolding with_all
last_behind u None x = refl
last_behind u (Some ts) None = refl
last_behind u (Some ts) (Some t) = refl

-- terms with one more after them
pub all_last : (xs : List (Option Term)) (x : Option Term) → all_of (xs ++ x ∷ []) ≡ with_last (all_of xs) x
unfolding all_of with_all
all_last [] None = refl
all_last [] (Some t) = refl
all_last (None ∷ xs) x = refl
all_last (Some u ∷ xs) x = ap (with_all (Some u)) (all_last xs x) ∙ last_behind u (all_of xs) x

-- one more sign
pub one_more : (limit : ℕ) (op : Unary) (n : ℕ) (t : Option Term) → one_times limit op (n + 1) t ≡ one limit op (one_times limit op n t)
unfolding one_times
one_more limit op n t = let e : n + 1 ≡ suc n = omega arith in rw e refl

pub no_sign : (limit : ℕ) (op : Unary) (t : Option Term) → one_times limit op 0 t ≡ t
unfolding one_times
no_sign limit op t = refl

-- the last side, joined
pub last_side : (limit : ℕ) (text : List ℕ) (sides : List Side) (s : Side) (t : Option Term) →
    sides_joined limit text (sides ++ s ∷ []) t ≡ sides_joined limit text sides (two limit s.op (term_given text s.side) t)
unfolding sides_joined
last_side limit text [] s t = refl
last_side limit text (r ∷ sides) s t = ap (two limit r.op (term_given text r.side)) (last_side limit text sides s t)

pub no_side : (limit : ℕ) (text : List ℕ) (t : Option Term) → sides_joined limit text [] t ≡ t
unfolding sides_joined
no_side limit text t = refl

-- an operator at what was built and at what was not

pub one_none : (limit : ℕ) (op : Unary) → one limit op None ≡ None
unfolding one
one_none limit op = refl

pub one_some : (limit : ℕ) (op : Unary) (a : Term) → one limit op (Some a) ≡ fit limit (terms.One op a)
unfolding one
one_some limit op a = refl

pub two_none : (limit : ℕ) (op : Binary) (b : Option Term) → two limit op None b ≡ None
unfolding two
two_none limit op b = refl

pub two_half : (limit : ℕ) (op : Binary) (a : Option Term) → two limit op a None ≡ None
unfolding two
two_half limit op None = refl
two_half limit op (Some a) = refl

pub two_some : (limit : ℕ) (op : Binary) (a b : Term) → two limit op (Some a) (Some b) ≡ fit limit (terms.Two op a b)
unfolding two
two_some limit op a b = refl

pub applied_none : (limit : ℕ) (name : List ℕ) (complete : Bool) (ts : List Term) → complete ≡ false →
    applied limit name (if complete then Some ts else None) ≡ None
unfolding applied
applied_none limit name complete ts e = rw e refl

pub applied_some : (limit : ℕ) (name : List ℕ) (complete : Bool) (ts : List Term) → complete ≡ true →
    applied limit name (if complete then Some ts else None) ≡ fit limit (terms.Apply name (row_from ts))
unfolding applied
applied_some limit name complete ts e = rw e refl

-- the sides before the last one, and the last one
pub sides_split : (text : List ℕ) (sides : List Side) (s : Side) → AreSidesPlaced text (sides ++ s ∷ []) → AreSidesPlaced text sides × IsPlacedBuilt text s.side
sides_split text [] s h = (All-nil (λ s. IsPlacedBuilt text s.side), All-head (λ s. IsPlacedBuilt text s.side) s [] h)
sides_split text (r ∷ sides) s h =
    let rest = sides_split text sides s (All-tail (λ s. IsPlacedBuilt text s.side) r (sides ++ s ∷ []) h) in
    (All-cons (λ s. IsPlacedBuilt text s.side) r sides (All-head (λ s. IsPlacedBuilt text s.side) r (sides ++ s ∷ []) h) rest.0, rest.1)
