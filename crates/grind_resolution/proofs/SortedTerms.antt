-- Terms of a sort by the items of their parts.
use Rattle.std.specs.Prelude.{◌≡◌, ◌↔◌, ℕ, zero, suc, ◌<◌, Bool, true, false, List, [], ◌∷◌, length, slice_index_or, Option, Some, None, IsTrue, refl}
use Rattle.std.proofs.Common.{arith, sym, ap, subst, ◌∙◌, true≢false}
use Rattle.std.proofs.lemmas.Option.{same_Some}
use Rattle.grind_grammar.specs.declared.syntax.Unary.{Unary}
use Rattle.grind_grammar.specs.declared.syntax.Binary.{Binary}
use Rattle.grind_grammar.specs.declared.syntax.Tree.{Tree}
use Rattle.grind_grammar.specs.Terms as terms
use Rattle.grind_grammar.specs.Terms.{Term}
use Rattle.grind_grammar.specs.Keeps.{term_of}
use Rattle.grind_resolution.specs.declared.meaning.Meaning.{Meaning}
use Rattle.grind_resolution.specs.Scopes.{Given, given_data, IsOnly, IsUnknown}
use Rattle.grind_resolution.specs.Sorting.{HasSort, HaveSorts, TakesSides, unary_sort, binary_sort}
use Rattle.grind_resolution.specs.Rows.{row_of_trees, EachHasSort}

-- no sort
abbrev no_sort : Option ℕ
no_sort = None

none_some : (sort : ℕ) → no_sort ≡ Some sort → ⊥
none_some sort e = cc

module _ (gives : List ℕ → Given → Type 0) (text : List ℕ) where
  -- one more part
  sorted_cons : (first : Tree) (trees : List Tree) (sort : ℕ) (sorts : List ℕ) → HasSort gives (term_of text first) sort
      → ((k : ℕ) (d : Tree) (e : ℕ) → k < length trees → HasSort gives (term_of text (slice_index_or trees k d)) (slice_index_or sorts k e))
      → (k : ℕ) (d : Tree) (e : ℕ) → k < length (first ∷ trees)
      → HasSort gives (term_of text (slice_index_or (first ∷ trees) k d)) (slice_index_or (sort ∷ sorts) k e)
  sorted_cons first trees sort sorts h rest zero d e l = h
  sorted_cons first trees sort sorts h rest (suc k) d e l = rest k d e (omega arith)

  -- parts of these sorts, one by one
  sorted_items : (trees : List Tree) (sorts : List ℕ) → HaveSorts gives (row_of_trees text trees) sorts → EachHasSort gives text trees sorts
  sorted_items [] [] h = (refl, λ k d e l. absurd (omega arith))
  sorted_items [] (sort ∷ sorts) h = absurd h
  sorted_items (first ∷ trees) [] h = absurd h
  sorted_items (first ∷ trees) (sort ∷ sorts) h =
      let rest = sorted_items trees sorts h.1 in
      let same = rest.0 in
      (omega arith, sorted_cons first trees sort sorts h.0 rest.1)

  sorted_row : (trees : List Tree) (sorts : List ℕ) → EachHasSort gives text trees sorts → HaveSorts gives (row_of_trees text trees) sorts
  sorted_row [] [] h = tt
  sorted_row [] (sort ∷ sorts) h = absurd (omega arith)
  sorted_row (first ∷ trees) [] h = absurd (omega arith)
  sorted_row (first ∷ trees) (sort ∷ sorts) h =
      (h.1 0 first sort (omega arith), sorted_row trees sorts (omega arith, λ k d e l. h.1 (suc k) d e (omega arith)))

  module _ (name : List ℕ) (trees : List Tree) (t : Term) (is : t ≡ terms.Apply name (row_of_trees text trees)) where
    -- a name that stands for nothing
    pub unknown_unsorted : IsUnknown gives name → (sort : ℕ) → HasSort gives t sort ↔ (no_sort ≡ Some sort)
    unknown_unsorted h sort = (
      λ k. let p = subst (λ x. HasSort gives x sort) is k in absurd (h p.0 p.1),
      λ e. absurd (none_some sort e),
    )

    module _ (meaning : Meaning) (args : List ℕ) (own : ℕ) (only : IsOnly gives name (given_data meaning args own)) (found : Bool)
        (have : IsTrue found ↔ EachHasSort gives text trees args) where
      -- a name at parts of other sorts
      pub named_unsorted : found ≡ false → (sort : ℕ) → HasSort gives t sort ↔ (no_sort ≡ Some sort)
      named_unsorted f sort = (
        λ k. let p = subst (λ x. HasSort gives x sort) is k in
            let same : HaveSorts gives (row_of_trees text trees) args = subst (λ (g : Given). HaveSorts gives (row_of_trees text trees) g.args) (only.1 p.0 p.1) p.2 in
            absurd (true≢false (sym (have.1 (sorted_items trees args same)) ∙ f)),
        λ e. absurd (none_some sort e),
      )

      -- and at parts of its own
      pub named_sorted : found ≡ true → (sort : ℕ) → HasSort gives t sort ↔ (Some own ≡ Some sort)
      named_sorted f sort = (
        λ k. let p = subst (λ x. HasSort gives x sort) is k in ap Some (sym (p.3 ∙ ap (λ (g : Given). g.sort) (only.1 p.0 p.1))),
        λ e. subst (λ x. HasSort gives x sort) (sym is) (given_data meaning args own, only.0, sorted_row trees args (have.0 f), sym (same_Some _ _ e)),
      )

  -- an operator at a part
  pub unary_sorted : (op : Unary) (a t : Term) (part whole : Option ℕ) → t ≡ terms.One op a → ((sort : ℕ) → HasSort gives a sort ↔ (part ≡ Some sort))
      → ((sort : ℕ) → (whole ≡ Some sort) ↔ ((part ≡ Some (unary_sort op)) × (sort ≡ unary_sort op)))
      → (sort : ℕ) → HasSort gives t sort ↔ (whole ≡ Some sort)
  unary_sorted op a t part whole is h w sort = (
    λ k. let p = subst (λ x. HasSort gives x sort) is k in (w sort).1 ((h (unary_sort op)).0 p.0, p.1),
    λ e. let p = (w sort).0 e in subst (λ x. HasSort gives x sort) (sym is) ((h (unary_sort op)).1 p.0, p.1),
  )

  -- an operator at two sides
  pub binary_sorted : (op : Binary) (a b t : Term) (left right whole : Option ℕ) → t ≡ terms.Two op a b
      → ((sort : ℕ) → HasSort gives a sort ↔ (left ≡ Some sort)) → ((sort : ℕ) → HasSort gives b sort ↔ (right ≡ Some sort))
      → ((sort : ℕ) → (whole ≡ Some sort) ↔ ((side : ℕ) × (left ≡ Some side) × (right ≡ Some side) × TakesSides op side × (sort ≡ binary_sort op)))
      → (sort : ℕ) → HasSort gives t sort ↔ (whole ≡ Some sort)
  binary_sorted op a b t left right whole is h k w sort = (
    λ x. let p = subst (λ x. HasSort gives x sort) is x in (w sort).1 (p.0, (h p.0).0 p.1, (k p.0).0 p.2, p.3, p.4),
    λ e. let p = (w sort).0 e in subst (λ x. HasSort gives x sort) (sym is) (p.0, (h p.0).1 p.1, (k p.0).1 p.2, p.3, p.4),
  )

  -- parts of which one has another sort
  pub one_unsorted : (trees : List Tree) (sorts : List ℕ) (k : ℕ) (item : Tree) (own : ℕ) (part : Option ℕ) (found : Bool) → k < length trees
      → item ≡ slice_index_or trees k item → own ≡ slice_index_or sorts k own
      → ((sort : ℕ) → HasSort gives (term_of text item) sort ↔ (part ≡ Some sort))
      → IsTrue found ↔ (part ≡ Some own) → found ≡ false → IsTrue false ↔ EachHasSort gives text trees sorts
  one_unsorted trees sorts k item own part found l at is h w f = (
    λ x. absurd (true≢false (sym x)),
    λ x.
        let here : HasSort gives (term_of text item) own =
        subst (λ n. HasSort gives (term_of text item) n) (sym is)
        (subst (λ n. HasSort gives (term_of text n) (slice_index_or sorts k own)) (sym at) (x.1 k item own l)) in
        absurd (true≢false (sym (w.1 ((h own).0 here)) ∙ f)),
  )
