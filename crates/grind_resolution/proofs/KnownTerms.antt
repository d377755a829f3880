-- Known and counted terms by the items of their parts.
use Rattle.std.specs.Prelude.{◌≡◌, ◌↔◌, ℕ, Bool, true, false, nat_eq, List, [], ◌∷◌, length, All, IsTrue, refl}
use Rattle.std.proofs.Common.{arith, sym, ap, subst, ◌∙◌, true≢false}
use Rattle.std.proofs.lemmas.Bool.Decides.{nat_tests}
use Rattle.grind_resolution.specs.declared.meaning.Meaning.{Meaning}
use Rattle.std.proofs.lemmas.List.Elements.{All-nil, All-cons, All-head, All-tail}
use Rattle.grind_grammar.specs.declared.syntax.Tree.{Tree}
use Rattle.grind_grammar.specs.Terms as terms
use Rattle.grind_grammar.specs.Terms.{Term}
use Rattle.grind_grammar.specs.Keeps.{term_of}
use Rattle.grind_resolution.specs.Scopes.{Given, given_data, IsOnly}
use Rattle.grind_resolution.specs.Sorting.{row_length, Known, KnownRow, Counted, CountedRow}
use Rattle.grind_resolution.specs.Rows.{row_of_trees}

equal_from_test : (m n : ℕ) → nat_eq m n ≡ true → n ≡ m
equal_from_test m n h = grind (arith, nat_tests)

test_from_equal : (m n : ℕ) → n ≡ m → nat_eq m n ≡ true
test_from_equal m n h = grind (arith, nat_tests)

module _ (gives : List ℕ → Given → Type 0) (text : List ℕ) where
  -- the parts are known one by one
  known_row : (trees : List Tree) → All (λ part. Known gives (term_of text part)) trees → KnownRow gives (row_of_trees text trees)
  known_row [] h = tt
  known_row (first ∷ trees) h = (
    All-head (λ part. Known gives (term_of text part)) first trees h,
    known_row trees (All-tail (λ part. Known gives (term_of text part)) first trees h),
  )

  known_items : (trees : List Tree) → KnownRow gives (row_of_trees text trees) → All (λ part. Known gives (term_of text part)) trees
  known_items [] h = All-nil (λ part. Known gives (term_of text part))
  known_items (first ∷ trees) h = All-cons (λ part. Known gives (term_of text part)) first trees h.0 (known_items trees h.1)

  -- a name that stands for something, at its parts
  pub named_known : (name : List ℕ) (trees : List Tree) (t : Term) (found result : Bool) → t ≡ terms.Apply name (row_of_trees text trees)
      → IsTrue found ↔ ((given : Given) × gives name given) → found ≡ true → IsTrue result ↔ All (λ part. Known gives (term_of text part)) trees
      → IsTrue result ↔ Known gives t
  named_known name trees t found result is e f r = (
    λ h. subst (Known gives) (sym is) (e.0 f, known_row trees (r.0 h)),
    λ h. r.1 (known_items trees (subst (Known gives) is h).1),
  )

  -- the parts are counted one by one
  counted_row : (trees : List Tree) → All (λ part. Counted gives (term_of text part)) trees → CountedRow gives (row_of_trees text trees)
  counted_row [] h = tt
  counted_row (first ∷ trees) h = (
    All-head (λ part. Counted gives (term_of text part)) first trees h,
    counted_row trees (All-tail (λ part. Counted gives (term_of text part)) first trees h),
  )

  counted_items : (trees : List Tree) → CountedRow gives (row_of_trees text trees) → All (λ part. Counted gives (term_of text part)) trees
  counted_items [] h = All-nil (λ part. Counted gives (term_of text part))
  counted_items (first ∷ trees) h = All-cons (λ part. Counted gives (term_of text part)) first trees h.0 (counted_items trees h.1)

  row_length-trees : (trees : List Tree) → row_length (row_of_trees text trees) ≡ length trees
  row_length-trees [] = refl
  row_length-trees (first ∷ trees) = let e = row_length-trees trees in omega arith

  -- a name takes so many arguments where the one thing that it stands for does
  pub only_takes : (name : List ℕ) (meaning : Meaning) (args : List ℕ) (sort count : ℕ) → IsOnly gives name (given_data meaning args sort)
      → IsTrue (nat_eq (length args) count) ↔ ((given : Given) × gives name given × (count ≡ length given.args))
  only_takes name meaning args sort count h = (
    λ e. (given_data meaning args sort, h.0, equal_from_test (length args) count e),
    λ k. test_from_equal (length args) count (k.2 ∙ ap (λ (g : Given). length g.args) (h.1 k.0 k.1)),
  )

  module _ (name : List ℕ) (trees : List Tree) (t : Term) (count : ℕ) (found : Bool) (is : t ≡ terms.Apply name (row_of_trees text trees))
      (many : count ≡ length trees) (takes : IsTrue found ↔ ((given : Given) × gives name given × (count ≡ length given.args))) where
    -- a name of the right number of arguments, at its parts
    pub named_counted : (result : Bool) → found ≡ true → IsTrue result ↔ All (λ part. Counted gives (term_of text part)) trees
        → IsTrue result ↔ Counted gives t
    named_counted result f r = (
      λ h. let k = takes.0 f in subst (Counted gives) (sym is) ((k.0, k.1, row_length-trees trees ∙ sym many ∙ k.2), counted_row trees (r.0 h)),
      λ h. r.1 (counted_items trees (subst (Counted gives) is h).1),
    )

    -- and of a wrong one
    pub named_not_counted : found ≡ false → IsTrue false ↔ Counted gives t
    named_not_counted f = (
      λ h. absurd (true≢false (sym h)),
      λ h. let k = (subst (Counted gives) is h).0 in absurd (true≢false (sym (takes.1 (k.0, k.1, many ∙ sym (row_length-trees trees) ∙ k.2)) ∙ f)),
    )
