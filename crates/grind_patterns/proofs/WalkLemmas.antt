-- Walks over schemes and over copies of them.
use Rattle.std.proofs.Common.{◌≡◌, ◌⊎◌, inl, inr, ℕ, List, [], ◌∷◌, ◌++◌, Vec, Global, refl, sym, ◌∙◌, subst}
use Rattle.std.specs.Prelude.{Any}
use Rattle.grind_term_graph.specs.declared.head.Head.{Head}
use Rattle.grind_schemes.specs.declared.scheme.Scheme.{Scheme, Var, Apply, Apply', Row_of-Scheme, end_of-Scheme, more_of-Scheme, items-the_row-Scheme, items_hidden-the_row-Scheme-0}
use Rattle.grind_schemes.specs.Schemes.{HasVar, RowHasVar, IsHeadedByFunction}
use Rattle.grind_schemes.proofs.SchemeLemmas.{row_of, any_first, any_rest, any_none, any_cases}
use Rattle.grind_patterns.specs.Copies.{IsCopy, AreCopies, AreCopiesRow}
use Rattle.grind_patterns.specs.Patterns.{IsTerm, AreTerms, IsTermHead, HasUncovered, IsPatternTerm, TakesAt, Walks, WalksRow, WalksEach}
use Rattle.grind_patterns.specs.Walking.{TakesOn, WalksOn, WalksEachOn}
use Rattle.grind_patterns.proofs.CopyLemmas.{AreCopies-append}

-- a scheme is a copy of its copy
mutual
  pub IsCopy-sym : (a b : Scheme) → IsCopy a b → IsCopy b a
  IsCopy-sym (Var number) (Var other) h = sym h
  IsCopy-sym (Var number) (Apply' head sort shape args) h = absurd h
  IsCopy-sym (Apply' head sort shape args) (Var other) h = absurd h
  IsCopy-sym (Apply' head sort shape args) (Apply' other_head other_sort other_shape others) h =
      (sym h.0, sym h.1, AreCopiesRow-sym _ args _ others h.2)

  pub AreCopiesRow-sym : (m : _) (row : Row_of-Scheme m) (n : _) (other : Row_of-Scheme n)
      → AreCopiesRow row other → AreCopiesRow other row
  AreCopiesRow-sym m end_of-Scheme n end_of-Scheme h = tt
  AreCopiesRow-sym m end_of-Scheme n (more_of-Scheme first rest) h = absurd h
  AreCopiesRow-sym m (more_of-Scheme first rest) n end_of-Scheme h = absurd h
  AreCopiesRow-sym m (more_of-Scheme first rest) n (more_of-Scheme other others) h =
      (IsCopy-sym first other h.0, AreCopiesRow-sym _ rest _ others h.1)

pub AreCopies-sym : (xs ys : List Scheme) → AreCopies xs ys → AreCopies ys xs
AreCopies-sym [] [] h = tt
AreCopies-sym [] (y ∷ ys) h = absurd h
AreCopies-sym (x ∷ xs) [] h = absurd h
AreCopies-sym (x ∷ xs) (y ∷ ys) h = (IsCopy-sym x y h.0, AreCopies-sym xs ys h.1)

-- it has the same variables
mutual
  pub HasVar-copy : (variable : ℕ) (a b : Scheme) → IsCopy a b → HasVar variable a → HasVar variable b
  HasVar-copy variable (Var number) (Var other) h v = sym h ∙ v
  HasVar-copy variable (Var number) (Apply' head sort shape args) h v = absurd h
  HasVar-copy variable (Apply' head sort shape args) (Var other) h v = absurd h
  HasVar-copy variable (Apply' head sort shape args) (Apply' other_head other_sort other_shape others) h v =
      RowHasVar-copy variable _ args _ others h.2 v

  pub RowHasVar-copy : (variable : ℕ) (m : _) (row : Row_of-Scheme m) (n : _) (other : Row_of-Scheme n)
      → AreCopiesRow row other → RowHasVar variable row → RowHasVar variable other
  RowHasVar-copy variable m end_of-Scheme n other h v = absurd v
  RowHasVar-copy variable m (more_of-Scheme first rest) n end_of-Scheme h v = absurd h
  RowHasVar-copy variable m (more_of-Scheme first rest) n (more_of-Scheme other others) h (inl v) =
      inl (HasVar-copy variable first other h.0 v)
  RowHasVar-copy variable m (more_of-Scheme first rest) n (more_of-Scheme other others) h (inr v) =
      inr (RowHasVar-copy variable _ rest _ others h.1 v)

pub AnyHasVar-copy : (variable : ℕ) (xs ys : List Scheme) → AreCopies xs ys → Any (HasVar variable) xs → Any (HasVar variable) ys
AnyHasVar-copy variable [] ys h v = absurd (any_none (HasVar variable) v)
AnyHasVar-copy variable (x ∷ xs) [] h v = absurd h
AnyHasVar-copy variable (x ∷ xs) (y ∷ ys) h v =
    elim (any_cases (HasVar variable) x xs v) [
      | inl here ↦ any_first (HasVar variable) y ys (HasVar-copy variable x y h.0 here)
      | inr there ↦ any_rest (HasVar variable) y ys (AnyHasVar-copy variable xs ys h.1 there)
    ]

pub HasUncovered-copies : (xs ys : List Scheme) (scheme : Scheme) → AreCopies xs ys → HasUncovered xs scheme → HasUncovered ys scheme
HasUncovered-copies xs ys scheme h u =
    (u.0, u.1, λ v. u.2 (AnyHasVar-copy u.0 ys xs (AreCopies-sym xs ys h) v))

-- a copy of a pattern term is one
mutual
  pub IsTerm-copy : (a b : Scheme) → IsCopy a b → IsTerm a → IsTerm b
  IsTerm-copy (Var number) (Var other) h t = tt
  IsTerm-copy (Var number) (Apply' head sort shape args) h t = absurd h
  IsTerm-copy (Apply' head sort shape args) (Var other) h t = absurd h
  IsTerm-copy (Apply' head sort shape args) (Apply' other_head other_sort other_shape others) h t =
      (subst IsTermHead h.0 t.0, AreTerms-copy _ args _ others h.2 t.1)

  pub AreTerms-copy : (m : _) (row : Row_of-Scheme m) (n : _) (other : Row_of-Scheme n)
      → AreCopiesRow row other → AreTerms row → AreTerms other
  AreTerms-copy m end_of-Scheme n end_of-Scheme h t = tt
  AreTerms-copy m end_of-Scheme n (more_of-Scheme first rest) h t = absurd h
  AreTerms-copy m (more_of-Scheme first rest) n end_of-Scheme h t = absurd h
  AreTerms-copy m (more_of-Scheme first rest) n (more_of-Scheme other others) h t =
      (IsTerm-copy first other h.0 t.0, AreTerms-copy _ rest _ others h.1 t.1)

pub IsHeadedByFunction-copy : (a b : Scheme) → IsCopy a b → IsHeadedByFunction a → IsHeadedByFunction b
IsHeadedByFunction-copy (Var number) (Var other) h t = t
IsHeadedByFunction-copy (Var number) (Apply' head sort shape args) h t = absurd h
IsHeadedByFunction-copy (Apply' head sort shape args) (Var other) h t = absurd h
IsHeadedByFunction-copy (Apply' head sort shape args) (Apply' other_head other_sort other_shape others) h t =
    (t.0, sym h.0 ∙ t.1)

pub IsPatternTerm-copy : (a b : Scheme) → IsCopy a b → IsPatternTerm a → IsPatternTerm b
IsPatternTerm-copy a b h t = record {
  headed = IsHeadedByFunction-copy a b h t.headed;
  built = IsTerm-copy a b h t.built;
  open_to = (t.open_to.0, HasVar-copy t.open_to.0 a b h t.open_to.1);
}

-- a term that has an uncovered variable is taken
pub takes_new : (old before : List Scheme) (term copy : Scheme) → IsPatternTerm term → HasUncovered old term
    → IsCopy copy term → AreCopies old before
    → (after : List Scheme) × TakesAt before term after × AreCopies (old ++ copy ∷ []) after
takes_new old before term copy pattern uncovered is copies = (
  before ++ term ∷ [],
  (pattern, inl (HasUncovered-copies old before term copies uncovered, refl)),
  AreCopies-append old before (copy ∷ []) (term ∷ []) copies (is, tt),
)

-- and another is not
pub takes_none : (old before : List Scheme) (term : Scheme) → IsPatternTerm term → ¬ HasUncovered old term
    → AreCopies old before → (after : List Scheme) × TakesAt before term after × AreCopies old after
takes_none old before term pattern covered copies = (
  before,
  (pattern, inr ((λ u. covered (HasUncovered-copies before old term (AreCopies-sym old before copies) u)), refl)),
  copies,
)

-- a walk over the items of a row is one over the row
pub to_walk : (n : _) (row : Row_of-Scheme n) (before after : List Scheme)
    → WalksEach before (items-the_row-Scheme n row) after → WalksRow before row after
to_walk n end_of-Scheme before after h = h
to_walk n (more_of-Scheme first rest) before after h = (h.0, h.1, to_walk _ rest h.0 after h.2)

-- a walk over a head at its arguments that is no pattern term
pub walks_inside : (old new : List Scheme) (head : Head) (sort : ℕ) (args : Vec Scheme Global) (scheme : Scheme)
    (items : List Scheme) → scheme ≡ Apply head sort args → items ≡ args.items → ¬ IsPatternTerm scheme
    → WalksEachOn old items new → WalksOn old scheme new
walks_inside old new head sort args scheme items e f no_pattern walks = λ before copies.
    let row = row_of (Apply head sort args) in
    let same = f ∙ sym (items_hidden-the_row-Scheme-0 args) in
    let goes = walks before copies in
    let inside = to_walk row.0 row.1 before goes.0
    (subst (λ (xs : List Scheme). WalksEach before xs goes.0) same goes.1) in
    (goes.0, subst (λ (s : Scheme). Walks before s goes.0) (sym e) (inr (subst (λ (s : Scheme). ¬ IsPatternTerm s) e no_pattern, inside)), goes.2)

-- and over one that is
pub walks_at : (old new : List Scheme) (head : Head) (sort : ℕ) (args : Vec Scheme Global) (scheme : Scheme)
    → scheme ≡ Apply head sort args → TakesOn old scheme new → WalksOn old scheme new
walks_at old new head sort args scheme e takes = λ before copies.
    let goes = takes before copies in (
      goes.0,
      subst (λ (s : Scheme). Walks before s goes.0) (sym e)
          (inl (subst (λ (s : Scheme). TakesAt before s goes.0) e goes.1)),
      goes.2,
    )

-- what a walk has done, and what is left of it
unfoldable pub IsWalking : List Scheme → List Scheme → List Scheme → List Scheme → Type 0
IsWalking old all taken left =
    (before : List Scheme) → AreCopies old before →
    (middle : List Scheme) × AreCopies taken middle
    × ((after : List Scheme) → WalksEach middle left after → WalksEach before all after)

pub IsWalking-first : (old all : List Scheme) → IsWalking old all old all
unfolding IsWalking
IsWalking-first old all = λ before copies. (before, copies, λ after h. h)

pub IsWalking-next : (old all taken left more new : List Scheme) (item : Scheme) → left ≡ item ∷ more
    → WalksOn taken item new → IsWalking old all taken left → IsWalking old all new more
unfolding IsWalking
IsWalking-next old all taken left more new item e step walking = λ before copies.
    let at_middle = walking before copies in
    let goes = step at_middle.0 at_middle.1 in (
      goes.0,
      goes.2,
      λ after h. at_middle.2 after
          (subst (λ (xs : List Scheme). WalksEach at_middle.0 xs after) (sym e) (goes.0, goes.1, h)),
    )

pub IsWalking-last : (old all taken left : List Scheme) → left ≡ [] → IsWalking old all taken left
    → WalksEachOn old all taken
unfolding IsWalking
IsWalking-last old all taken left e walking = λ before copies.
    let at_last = walking before copies in (
      at_last.0,
      at_last.2 at_last.0
          (subst (λ (xs : List Scheme). WalksEach at_last.0 xs at_last.0) (sym e) refl),
      at_last.1,
    )

-- a walk has one outcome
TakesAt-one : (before : List Scheme) (term : Scheme) (a b : List Scheme) → TakesAt before term a → TakesAt before term b → a ≡ b
TakesAt-one before term a b h k = takes_one h.1 k.1
  where
    takes_one : (HasUncovered before term × (a ≡ before ++ term ∷ [])) ⊎ (¬ HasUncovered before term × (a ≡ before))
        → (HasUncovered before term × (b ≡ before ++ term ∷ [])) ⊎ (¬ HasUncovered before term × (b ≡ before)) → a ≡ b
    takes_one (inl x) (inl y) = x.1 ∙ sym y.1
    takes_one (inl x) (inr y) = absurd (y.0 x.0)
    takes_one (inr x) (inl y) = absurd (x.0 y.0)
    takes_one (inr x) (inr y) = x.1 ∙ sym y.1

mutual
  pub Walks-one : (scheme : Scheme) (before a b : List Scheme) → Walks before scheme a → Walks before scheme b → a ≡ b
  Walks-one (Var number) before a b h k = h ∙ sym k
  Walks-one (Apply' head sort shape args) before a b (inl h) (inl k) =
      TakesAt-one before (Apply' head sort shape args) a b h k
  Walks-one (Apply' head sort shape args) before a b (inl h) (inr k) = absurd (k.0 h.0)
  Walks-one (Apply' head sort shape args) before a b (inr h) (inl k) = absurd (h.0 k.0)
  Walks-one (Apply' head sort shape args) before a b (inr h) (inr k) = WalksRow-one _ args before a b h.1 k.1

  pub WalksRow-one : (n : _) (row : Row_of-Scheme n) (before a b : List Scheme)
      → WalksRow before row a → WalksRow before row b → a ≡ b
  WalksRow-one n end_of-Scheme before a b h k = h ∙ sym k
  WalksRow-one n (more_of-Scheme first rest) before a b h k =
      let same = Walks-one first before k.0 h.0 k.1 h.1 in
      WalksRow-one _ rest h.0 a b h.2 (subst (λ (m : List Scheme). WalksRow m rest b) same k.2)

pub WalksEach-one : (schemes : List Scheme) (before a b : List Scheme) → WalksEach before schemes a → WalksEach before schemes b → a ≡ b
WalksEach-one [] before a b h k = h ∙ sym k
WalksEach-one (first ∷ rest) before a b h k =
    let same = Walks-one first before k.0 h.0 k.1 h.1 in
    WalksEach-one rest h.0 a b h.2 (subst (λ (m : List Scheme). WalksEach m rest b) same k.2)
