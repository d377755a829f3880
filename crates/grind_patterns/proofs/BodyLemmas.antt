-- The hypotheses and the conclusion of a formula, and what a kind of annotation chooses.
use Rattle.std.proofs.Common.{◌≡◌, ℕ, List, [], ◌∷◌, Option, Some, None, All, length, Vec, Global, refl, sym, ap, ◌∙◌, subst}
use Rattle.std.specs.Prelude.{◌≢◌, IfSome}
use Rattle.std.proofs.lemmas.List.Elements.{All-nil, All-cons, All-head, All-tail}
use Rattle.grind_term_graph.specs.declared.head.Head.{Head}
use Rattle.grind_term_graph.specs.declared.head.Head.TheVariants.{Implies}
use Rattle.grind_schemes.specs.declared.scheme.Scheme.{Scheme, Var, Apply, Apply', Row_of-Scheme, end_of-Scheme, more_of-Scheme, items-the_row-Scheme, items_hidden-the_row-Scheme-0}
use Rattle.grind_schemes.specs.Theorems.{HoldsEach}
use Rattle.grind_schemes.proofs.SchemeLemmas.{row_of}
use Rattle.grind_patterns.specs.declared.kind.Kind.{Kind}
use Rattle.grind_patterns.specs.declared.kind.Kind.TheVariants.{Left, Right, Hyps, Concl, Written}
use Rattle.grind_patterns.specs.Copies.{AreCopies}
use Rattle.grind_patterns.specs.Patterns.{hypotheses_of, hypotheses_of_row, conclusion_of, conclusion_of_row, conclusion_or, if_implication, IsEquation, IsPatternTerm, Chooses, AreChosen, PatternsOf}
use Rattle.grind_patterns.specs.Walking.{ChosenOrNone}
use Rattle.grind_patterns.proofs.WalkLemmas.{AreCopies-sym, AnyHasVar-copy, IsPatternTerm-copy, Walks-one, WalksEach-one}

-- the hypotheses and the conclusion by the items of the arguments of an implication
abbrev hyps_of_items : List Scheme → List Scheme
hyps_of_items (a ∷ b ∷ []) = a ∷ hypotheses_of b
hyps_of_items _ = []

abbrev conclusion_of_items : List Scheme → Option Scheme
conclusion_of_items (a ∷ b ∷ []) = Some (conclusion_of b)
conclusion_of_items _ = None

hyps_of_row : (n : _) (row : Row_of-Scheme n) → hypotheses_of_row row ≡ hyps_of_items (items-the_row-Scheme n row)
hyps_of_row n end_of-Scheme = refl
hyps_of_row n (more_of-Scheme a end_of-Scheme) = refl
hyps_of_row n (more_of-Scheme a (more_of-Scheme b end_of-Scheme)) = refl
hyps_of_row n (more_of-Scheme a (more_of-Scheme b (more_of-Scheme c rest))) = refl

conclusion_of_items_row : (n : _) (row : Row_of-Scheme n)
    → conclusion_of_row row ≡ conclusion_of_items (items-the_row-Scheme n row)
conclusion_of_items_row n end_of-Scheme = refl
conclusion_of_items_row n (more_of-Scheme a end_of-Scheme) = refl
conclusion_of_items_row n (more_of-Scheme a (more_of-Scheme b end_of-Scheme)) = refl
conclusion_of_items_row n (more_of-Scheme a (more_of-Scheme b (more_of-Scheme c rest))) = refl

no_hyps : (xs : List Scheme) → length xs ≢ 2 → hyps_of_items xs ≡ []
no_hyps [] h = refl
no_hyps (a ∷ []) h = refl
no_hyps (a ∷ b ∷ []) h = absurd (h refl)
no_hyps (a ∷ b ∷ c ∷ rest) h = refl

no_conclusion : (xs : List Scheme) → length xs ≢ 2 → conclusion_of_items xs ≡ None
no_conclusion [] h = refl
no_conclusion (a ∷ []) h = refl
no_conclusion (a ∷ b ∷ []) h = absurd (h refl)
no_conclusion (a ∷ b ∷ c ∷ rest) h = refl

if_none : (head : Head) (xs : List Scheme) → (head ≡ Implies → xs ≡ []) → if_implication head xs ≡ []
if_none Implies xs h = h refl
if_none _ xs h = refl

or_none : (head : Head) (o : Option Scheme) (whole : Scheme) → (head ≡ Implies → o ≡ None) → conclusion_or head o whole ≡ whole
or_none Implies o whole h = ap (λ (p : Option Scheme). conclusion_or Implies p whole) (h refl)
or_none _ None whole h = refl
or_none _ (Some behind) whole h = refl

module _ (head : Head) (sort : ℕ) (args : Vec Scheme Global) (scheme : Scheme) (items : List Scheme)
    (e : scheme ≡ Apply head sort args) (f : items ≡ args.items) where
  hyps_are : hypotheses_of scheme ≡ if_implication head (hyps_of_items items)
  hyps_are =
      let row = row_of (Apply head sort args) in
      let there : hypotheses_of_row row.1 ≡ hyps_of_items items =
      hyps_of_row row.0 row.1 ∙ ap hyps_of_items (items_hidden-the_row-Scheme-0 args ∙ sym f) in
      ap hypotheses_of e ∙ ap (if_implication head) there

  conclusion_is : conclusion_of scheme ≡ conclusion_or head (conclusion_of_items items) scheme
  conclusion_is =
      let row = row_of (Apply head sort args) in
      let there : conclusion_of_row row.1 ≡ conclusion_of_items items =
      conclusion_of_items_row row.0 row.1 ∙ ap conclusion_of_items (items_hidden-the_row-Scheme-0 args ∙ sym f) in
      ap conclusion_of e
      ∙ ap (λ (o : Option Scheme). conclusion_or head o (Apply head sort args)) there
      ∙ ap (conclusion_or head (conclusion_of_items items)) (sym e)

  -- an implication has its left side for a hypothesis
  pub implication_hyps : (a b : Scheme) → head ≡ Implies → items ≡ a ∷ b ∷ [] → hypotheses_of scheme ≡ a ∷ hypotheses_of b
  implication_hyps a b g is =
      hyps_are ∙ ap (if_implication head) (ap hyps_of_items is)
      ∙ ap (λ (h : Head). if_implication h (a ∷ hypotheses_of b)) g

  -- and the conclusion of its right side
  pub implication_conclusion : (a b : Scheme) → head ≡ Implies → items ≡ a ∷ b ∷ [] → conclusion_of scheme ≡ conclusion_of b
  implication_conclusion a b g is =
      conclusion_is ∙ ap (λ (o : Option Scheme). conclusion_or head o scheme) (ap conclusion_of_items is)
      ∙ ap (λ (h : Head). conclusion_or h (Some (conclusion_of b)) scheme) g

  pub implication_no_hyps : (head ≡ Implies → length items ≢ 2) → hypotheses_of scheme ≡ []
  implication_no_hyps h = hyps_are ∙ if_none head (hyps_of_items items) (λ g. no_hyps items (h g))

  pub implication_no_more : (head ≡ Implies → length items ≢ 2) → conclusion_of scheme ≡ scheme
  implication_no_more h =
      conclusion_is ∙ or_none head (conclusion_of_items items) scheme (λ g. no_conclusion items (h g))

-- what is said of the value of an option by two facts, read as something else
pub if_both : {T : Type 0} (o : Option T) (P Q R : T → Type 0) → ((x : T) → P x → Q x → R x) → IfSome o P → IfSome o Q
    → IfSome o R
if_both None P Q R f h k = h
if_both (Some x) P Q R f h k = f x h k

-- an equation has one pair of sides
IsEquation-one : (s l r m q : Scheme) → IsEquation l r s → IsEquation m q s → (l ≡ m) × (r ≡ q)
IsEquation-one (Var number) l r m q h k = absurd h
IsEquation-one (Apply' head sort shape args) l r m q h k = sides_same l r m q (sym h.1 ∙ k.1)
  where
    sides_same : (l r m q : Scheme) → l ∷ r ∷ [] ≡ m ∷ q ∷ [] → (l ≡ m) × (r ≡ q)
    sides_same l r m q e =
        let one : l ≡ m = cc in
        let two : r ≡ q = cc in (one, two)

alone : (a b : Scheme) → a ≡ b → a ∷ [] ≡ b ∷ []
alone a b e = ap (λ (x : Scheme). x ∷ []) e

-- a kind chooses one list of terms
pub Chooses-one : (body : Scheme) (kind : Kind) (a b : List Scheme) → Chooses body kind a → Chooses body kind b → a ≡ b
Chooses-one body Left a b h k =
    h.3 ∙ alone h.0 k.0 (IsEquation-one (conclusion_of body) h.0 h.1 k.0 k.1 h.2 k.2).0 ∙ sym k.3
Chooses-one body Right a b h k =
    h.3 ∙ alone h.1 k.1 (IsEquation-one (conclusion_of body) h.0 h.1 k.0 k.1 h.2 k.2).1 ∙ sym k.3
Chooses-one body Hyps a b h k = WalksEach-one (hypotheses_of body) [] a b h.1 k.1
Chooses-one body Concl a b h k = Walks-one (conclusion_of body) [] a b h k
Chooses-one body (Written terms) a b h k = h ∙ sym k

-- copies of pattern terms are pattern terms
pub patterns_copied : (xs ys : List Scheme) → AreCopies xs ys → All IsPatternTerm xs → All IsPatternTerm ys
patterns_copied [] [] h p = All-nil IsPatternTerm
patterns_copied [] (y ∷ ys) h p = absurd h
patterns_copied (x ∷ xs) [] h p = absurd h
patterns_copied (x ∷ xs) (y ∷ ys) h p =
    All-cons IsPatternTerm y ys (IsPatternTerm-copy x y h.0 (All-head IsPatternTerm x xs p))
    (patterns_copied xs ys h.1 (All-tail IsPatternTerm x xs p))

-- and hold each variable
pub holds_copied : (vars : List ℕ) (xs ys : List Scheme) → AreCopies xs ys → HoldsEach vars xs → HoldsEach vars ys
holds_copied vars xs ys h each = λ variable below. AnyHasVar-copy variable xs ys h (each variable below)

module _ (vars : List ℕ) (body : Scheme) (kind : Kind) (terms : List Scheme) (found : ChosenOrNone body kind (Some terms)) where
  -- copies of what is chosen are the patterns
  pub are_patterns : All IsPatternTerm terms → HoldsEach vars terms → PatternsOf vars body kind terms
  are_patterns patterns variables = (
    found.0,
    record {
      chooses = found.1;
      patterns = patterns_copied terms found.0 found.2 patterns;
      variables = holds_copied vars terms found.0 found.2 variables;
    },
    found.2,
  )

  -- where one is no pattern term nothing is
  pub no_patterns : ¬ All IsPatternTerm terms → (chosen : List Scheme) → ¬ AreChosen vars body kind chosen
  no_patterns not_all chosen are =
      let same = Chooses-one body kind chosen found.0 are.chooses found.1 in
      not_all (patterns_copied found.0 terms (AreCopies-sym terms found.0 found.2)
      (subst (All IsPatternTerm) same are.patterns))

  -- nor where a variable is left out
  pub no_variables : ¬ HoldsEach vars terms → (chosen : List Scheme) → ¬ AreChosen vars body kind chosen
  no_variables not_all chosen are =
      let same = Chooses-one body kind chosen found.0 are.chooses found.1 in
      not_all (holds_copied vars found.0 terms (AreCopies-sym terms found.0 found.2)
      (subst (HoldsEach vars) same are.variables))
