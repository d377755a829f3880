-- The scheme of a term by the items of its parts.
use Rattle.std.specs.Prelude.{◌≡◌, ℕ, zero, suc, ◌+◌, ◌<◌, ◌≤◌, List, [], ◌∷◌, ◌++◌, length, drop, slice_index_or, All, refl}
use Rattle.std.proofs.Common.{arith, sym, ap, subst, ◌∙◌, append_assoc, append-nil, inl, inr}
use Rattle.std.proofs.lemmas.List.Elements.{All-nil, All-cons}
use Rattle.grind_schemes.specs.declared.scheme.Scheme.{Scheme}
use Rattle.grind_grammar.specs.declared.syntax.Tree.{Tree}
use Rattle.grind_grammar.specs.Terms as terms
use Rattle.grind_grammar.specs.Terms.{Term, Row}
use Rattle.grind_grammar.specs.Keeps.{term_of}
use Rattle.grind_signature.specs.Signatures.{SignatureData}
use Rattle.grind_resolution.specs.declared.meaning.Meaning.{Meaning}
use Rattle.grind_resolution.specs.declared.meaning.Meaning.TheVariants as meanings
use Rattle.grind_resolution.specs.Scopes.{ScopeData, Given, given_data, binder_meaning, Gives, IsOnly}
use Rattle.grind_resolution.specs.Sorting.{HasSort, HaveSorts, IsSorted}
use Rattle.grind_resolution.specs.Resolved.{IsMeant, StandsFor, StandForRow}
use Rattle.grind_resolution.specs.Rows.{row_of_trees}
use Rattle.grind_resolution.proofs.SizedTerms.{rest_at, rest_past}

-- a variable has no arguments
variable_args : (s : SignatureData) (scope : ScopeData) (name : List ℕ) (given : Given) (i : ℕ) → Gives s scope name given
    → given.meaning ≡ meanings.Variable i → given.args ≡ []
variable_args s scope name given i (inl (c, k, at, named, is)) e = ap (λ (g : Given). g.args) is
variable_args s scope name given i (inr (f, g, at, named, is)) e =
    let headed = ap (λ (g : Given). g.meaning) is in absurd cc

no_items : {X : Type 0} (xs : List X) → length xs ≡ 0 → xs ≡ []
no_items [] e = refl
no_items (x ∷ xs) e = absurd (omega arith)

-- as many parts as a name has arguments: none, where it is a variable
pub variable_parts : (s : SignatureData) (scope : ScopeData) (name : List ℕ) (meaning : Meaning) (args : List ℕ) (sort : ℕ) (parts : List Scheme)
    → IsOnly (Gives s scope) name (given_data meaning args sort)
    → ((given : Given) × Gives s scope name given × (length parts ≡ length given.args))
    → (i : ℕ) → meaning ≡ meanings.Variable i → parts ≡ []
variable_parts s scope name meaning args sort parts only h i e =
    let none = ap length (variable_args s scope name (given_data meaning args sort) i only.0 e) in
    let same = ap (λ (g : Given). length g.args) (only.1 h.0 h.1) in
    let count = h.2 in
    no_items parts (omega arith)

module _ (gives : List ℕ → Given → Type 0) (text : List ℕ) where
  -- the parts of a name of a sort have sorts, and there are as many as its arguments
  sorted_each : (trees : List Tree) (sorts : List ℕ) → HaveSorts gives (row_of_trees text trees) sorts → All (λ part. IsSorted gives (term_of text part)) trees
  sorted_each [] sorts h = All-nil (λ part. IsSorted gives (term_of text part))
  sorted_each (first ∷ trees) [] h = absurd h
  sorted_each (first ∷ trees) (sort ∷ sorts) h =
      All-cons (λ part. IsSorted gives (term_of text part)) first trees (sort, h.0) (sorted_each trees sorts h.1)

  length-sorts : (trees : List Tree) (sorts : List ℕ) → HaveSorts gives (row_of_trees text trees) sorts → length trees ≡ length sorts
  length-sorts [] [] h = refl
  length-sorts [] (sort ∷ sorts) h = absurd h
  length-sorts (first ∷ trees) [] h = absurd h
  length-sorts (first ∷ trees) (sort ∷ sorts) h = let e = length-sorts trees sorts h.1 in omega arith

  length-schemes : (trees : List Tree) (schemes : List Scheme) → StandForRow gives (row_of_trees text trees) schemes → length schemes ≡ length trees
  length-schemes [] [] h = refl
  length-schemes [] (scheme ∷ schemes) h = absurd h
  length-schemes (first ∷ trees) [] h = absurd h
  length-schemes (first ∷ trees) (scheme ∷ schemes) h = let e = length-schemes trees schemes h.1 in omega arith

  module _ (name : List ℕ) (trees : List Tree) (t : Term) (is : t ≡ terms.Apply name (row_of_trees text trees)) where
    pub parts_sorted : IsSorted gives t → All (λ part. IsSorted gives (term_of text part)) trees
    parts_sorted h = let k = subst (λ x. HasSort gives x h.0) is h.1 in sorted_each trees (k.0).args k.2

    pub parts_counted : IsSorted gives t → (parts : List Scheme) → StandForRow gives (row_of_trees text trees) parts
        → (given : Given) × gives name given × (length parts ≡ length given.args)
    parts_counted h parts stand =
        let k = subst (λ x. HasSort gives x h.0) is h.1 in
        (k.0, k.1, length-schemes trees parts stand ∙ length-sorts trees (k.0).args k.2)

    pub named_stands : (parts : List Scheme) (scheme : Scheme) → StandForRow gives (row_of_trees text trees) parts
        → ((given : Given) × gives name given × IsMeant given.meaning given.sort parts scheme) → StandsFor gives t scheme
    named_stands parts scheme stand h = subst (λ x. StandsFor gives x scheme) (sym is) (h.0, parts, h.1, stand, h.2)

  -- the schemes so far, and those that the rest stands for, are those that all stand for
  abbrev pub AreUnderway : List Tree → ℕ → List Scheme → Type 0
  AreUnderway trees k done =
      (schemes : List Scheme) → StandForRow gives (row_of_trees text (drop k trees)) schemes → StandForRow gives (row_of_trees text trees) (done ++ schemes)

  pub underway_start : (trees : List Tree) (done : List Scheme) → done ≡ [] → AreUnderway trees 0 done
  underway_start trees done e schemes h = subst (λ d. StandForRow gives (row_of_trees text trees) (d ++ schemes)) (sym e) h

  pub underway_next : (trees : List Tree) (k : ℕ) (item : Tree) (scheme : Scheme) (done more : List Scheme) → k < length trees
      → item ≡ slice_index_or trees k item → StandsFor gives (term_of text item) scheme → more ≡ done ++ scheme ∷ [] → AreUnderway trees k done
      → AreUnderway trees (k + 1) more
  underway_next trees k item scheme done more l is stands e h schemes rest =
      let all = h (scheme ∷ schemes) (subst (λ (ts : List Tree). StandForRow gives (row_of_trees text ts) (scheme ∷ schemes)) (sym (rest_at trees k item l is)) (stands, rest)) in
      let same : more ++ schemes ≡ done ++ scheme ∷ schemes = ap (λ d. d ++ schemes) e ∙ append_assoc done (scheme ∷ []) schemes in
      subst (StandForRow gives (row_of_trees text trees)) (sym same) all

  pub underway_end : (trees : List Tree) (k : ℕ) (done : List Scheme) → length trees ≤ k → AreUnderway trees k done → StandForRow gives (row_of_trees text trees) done
  underway_end trees k done l h =
      subst (StandForRow gives (row_of_trees text trees)) (append-nil done)
      (h [] (subst (λ (ts : List Tree). StandForRow gives (row_of_trees text ts) []) (sym (rest_past trees k l)) tt))
