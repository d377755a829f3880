-- Trees by the items of their parts.
use Rattle.std.proofs.Common.{◌≡◌, ◌↔◌, ℕ, List, [], ◌∷◌, All, Vec, Global, refl, sym, ◌∙◌, ap, subst}
use Rattle.std.specs.Prelude.{map}
use Rattle.std.proofs.lemmas.List.Elements.{All-nil, All-cons, All-head, All-tail}
use mathlib.Core.Former.{Count}
use Rattle.grind_grammar.specs.declared.syntax.Name.{Name}
use Rattle.grind_grammar.specs.declared.syntax.Tree.{Tree, Apply, Apply', Row_of-Tree, end_of-Tree, more_of-Tree, items-the_row-Tree, items_hidden-the_row-Tree-0}
use Rattle.grind_grammar.specs.Terms as terms
use Rattle.grind_grammar.specs.Terms.{Term, Row}
use Rattle.grind_grammar.specs.Keeps.{name_of, term_of, row_of, IsPlaced, IsPlacedTree, IsPlacedRow, KeepsName, KeepsTree, KeepsEach}
use Rattle.grind_grammar.specs.Reading.{row_from}

-- the parts of a tree
abbrev parts_of : Tree → (n : Count) × Row_of-Tree n
parts_of (Apply' name shape args) = (_, args)
parts_of _ = (_, end_of-Tree)

module _ (text : List ℕ) where
  terms_of_row : (n : _) (row : Row_of-Tree n) → row_of text row ≡ row_from (map (term_of text) (items-the_row-Tree n row))
  unfolding row_from
  terms_of_row n end_of-Tree = refl
  terms_of_row n (more_of-Tree first rest) = ap (terms.more (term_of text first)) (terms_of_row _ rest)

  placed_of_row : (n : _) (row : Row_of-Tree n) → IsPlacedRow text row → All (IsPlacedTree text) (items-the_row-Tree n row)
  placed_of_row n end_of-Tree h = All-nil (IsPlacedTree text)
  placed_of_row n (more_of-Tree first rest) h = All-cons (IsPlacedTree text) first _ h.0 (placed_of_row _ rest h.1)

  row_of_placed : (n : _) (row : Row_of-Tree n) → All (IsPlacedTree text) (items-the_row-Tree n row) → IsPlacedRow text row
  row_of_placed n end_of-Tree h = tt
  row_of_placed n (more_of-Tree first rest) h =
      (All-head (IsPlacedTree text) first _ h, row_of_placed _ rest (All-tail (IsPlacedTree text) first _ h))

  -- the term of a name with its parts
  pub term_of-Apply : (name : Name) (args : Vec Tree Global) →
      term_of text (Apply name args) ≡ terms.Apply (name_of text name) (row_from (map (term_of text) args.items))
  term_of-Apply name args =
      let row = parts_of (Apply name args) in
      ap (terms.Apply (name_of text name)) (terms_of_row row.0 row.1 ∙ ap (λ trees. row_from (map (term_of text) trees)) (items_hidden-the_row-Tree-0 args))

  -- its names stand in the text exactly where the name and those of its parts do
  pub IsPlacedTree-Apply : (name : Name) (args : Vec Tree Global) →
      IsPlacedTree text (Apply name args) ↔ (IsPlaced text name × All (IsPlacedTree text) args.items)
  IsPlacedTree-Apply name args =
      let row = parts_of (Apply name args) in
      let same = items_hidden-the_row-Tree-0 args in (
        λ h. (h.0, subst (All (IsPlacedTree text)) same (placed_of_row row.0 row.1 h.1)),
        λ h. (h.0, row_of_placed row.0 row.1 (subst (All (IsPlacedTree text)) (sym same) h.1)),
      )

  -- trees that keep terms, one by one

  pub each_placed : (trees : List Tree) (ts : List Term) → KeepsEach (KeepsTree text) trees ts → All (IsPlacedTree text) trees
  each_placed [] [] h = All-nil (IsPlacedTree text)
  each_placed (k ∷ trees) (t ∷ ts) h = All-cons (IsPlacedTree text) k trees h.0.0 (each_placed trees ts h.1)
  each_placed [] (t ∷ ts) h = absurd h
  each_placed (k ∷ trees) [] h = absurd h

  same_terms : {x y : Term} {xs ys : List Term} → x ≡ y → xs ≡ ys → x ∷ xs ≡ y ∷ ys
  same_terms e f = cc

  pub each_term : (trees : List Tree) (ts : List Term) → KeepsEach (KeepsTree text) trees ts → map (term_of text) trees ≡ ts
  each_term [] [] h = refl
  each_term (k ∷ trees) (t ∷ ts) h = same_terms h.0.1 (each_term trees ts h.1)
  each_term [] (t ∷ ts) h = absurd h
  each_term (k ∷ trees) [] h = absurd h

  pub keeps_each : (trees : List Tree) → All (IsPlacedTree text) trees → KeepsEach (KeepsTree text) trees (map (term_of text) trees)
  keeps_each [] h = tt
  keeps_each (k ∷ trees) h =
      ((All-head (IsPlacedTree text) k trees h, refl), keeps_each trees (All-tail (IsPlacedTree text) k trees h))

  -- a name with its parts keeps a term where the name and the parts do
  pub KeepsTree-Apply : (name : Name) (args : Vec Tree Global) (n : List ℕ) (ts : List Term) → KeepsName text name n → KeepsEach (KeepsTree text) args.items ts →
      KeepsTree text (Apply name args) (terms.Apply n (row_from ts))
  KeepsTree-Apply name args n ts h k = (
    (IsPlacedTree-Apply name args).1 (h.0, each_placed args.items ts k),
    term_of-Apply name args ∙ ap (λ m. terms.Apply m (row_from (map (term_of text) args.items))) h.1
        ∙ ap (λ us. terms.Apply n (row_from us)) (each_term args.items ts k),
  )
