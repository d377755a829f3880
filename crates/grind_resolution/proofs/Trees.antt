-- Trees by the items of their parts.
use Rattle.std.specs.Prelude.{◌≡◌, ◌↔◌, ℕ, List, [], ◌∷◌, All, Vec, refl}
use Rattle.std.specs.Global.{Global}
use Rattle.std.proofs.Common.{sym, ap, subst, ◌∙◌}
use Rattle.std.proofs.lemmas.List.Elements.{All-nil, All-cons, All-head, All-tail}
use mathlib.Core.Former.{Count}
use Rattle.grind_grammar.specs.declared.syntax.Name.{Name}
use Rattle.grind_grammar.specs.declared.syntax.Tree.{Tree, Apply, Apply', Row_of-Tree, end_of-Tree, more_of-Tree, items-the_row-Tree, items_hidden-the_row-Tree-0}
use Rattle.grind_grammar.specs.Terms as terms
use Rattle.grind_grammar.specs.Terms.{Term, Row, none, more}
use Rattle.grind_grammar.specs.Keeps.{IsPlaced, name_of, term_of, row_of, IsPlacedTree, IsPlacedRow}
use Rattle.grind_resolution.specs.Rows.{row_of_trees}

-- the parts of a tree
abbrev parts_of : Tree → (n : Count) × Row_of-Tree n
parts_of (Apply' name shape args) = (_, args)
parts_of _ = (_, end_of-Tree)

module _ (text : List ℕ) where
  row_of-items : (n : _) (row : Row_of-Tree n) → row_of text row ≡ row_of_trees text (items-the_row-Tree n row)
  row_of-items n end_of-Tree = refl
  row_of-items n (more_of-Tree first rest) = ap (λ row. more (term_of text first) row) (row_of-items _ rest)

  placed_items : (n : _) (row : Row_of-Tree n) → IsPlacedRow text row → All (IsPlacedTree text) (items-the_row-Tree n row)
  placed_items n end_of-Tree h = All-nil (IsPlacedTree text)
  placed_items n (more_of-Tree first rest) h = All-cons (IsPlacedTree text) first _ h.0 (placed_items _ rest h.1)

  -- the term of a name at its parts
  pub term_of-Apply : (name : Name) (args : Vec Tree Global) → term_of text (Apply name args) ≡ terms.Apply (name_of text name) (row_of_trees text args.items)
  term_of-Apply name args =
      let row = parts_of (Apply name args) in
      ap (λ parts. terms.Apply (name_of text name) parts) (row_of-items row.0 row.1 ∙ ap (row_of_trees text) (items_hidden-the_row-Tree-0 args))

  -- its name and its parts stand in the text
  pub placed-Apply : (name : Name) (args : Vec Tree Global) → IsPlacedTree text (Apply name args) → IsPlaced text name × All (IsPlacedTree text) args.items
  placed-Apply name args h =
      let row = parts_of (Apply name args) in
      (h.0, subst (All (IsPlacedTree text)) (items_hidden-the_row-Tree-0 args) (placed_items row.0 row.1 h.1))

  placed_row : (n : _) (row : Row_of-Tree n) → All (IsPlacedTree text) (items-the_row-Tree n row) → IsPlacedRow text row
  placed_row n end_of-Tree h = tt
  placed_row n (more_of-Tree first rest) h = (All-head (IsPlacedTree text) first _ h, placed_row _ rest (All-tail (IsPlacedTree text) first _ h))

  -- and a name at parts that stand in the text stands there
  pub Apply-placed : (name : Name) (args : Vec Tree Global) → IsPlaced text name → All (IsPlacedTree text) args.items → IsPlacedTree text (Apply name args)
  Apply-placed name args h all =
      let row = parts_of (Apply name args) in
      (h, placed_row row.0 row.1 (subst (All (IsPlacedTree text)) (sym (items_hidden-the_row-Tree-0 args)) all))

-- the same at a tree that is a name at its parts
pub term_at : (text : List ℕ) (node : Tree) (name : Name) (args : Vec Tree Global) (parts : List Tree) → node ≡ Apply name args → parts ≡ args.items
    → term_of text node ≡ terms.Apply (name_of text name) (row_of_trees text parts)
term_at text node name args parts is same =
    ap (term_of text) is ∙ term_of-Apply text name args ∙ ap (λ trees. terms.Apply (name_of text name) (row_of_trees text trees)) (sym same)

pub placed_at : (text : List ℕ) (node : Tree) (name : Name) (args : Vec Tree Global) (parts : List Tree) → node ≡ Apply name args → parts ≡ args.items
    → IsPlacedTree text node → IsPlaced text name × All (IsPlacedTree text) parts
placed_at text node name args parts is same h =
    let p = placed-Apply text name args (subst (IsPlacedTree text) is h) in
    (p.0, subst (All (IsPlacedTree text)) (sym same) p.1)
