-- The patterns that an annotation gives do not rest on the room that the lists of a scheme have.
use Rattle.std.specs.Prelude.{◌≡◌, ℕ, List, [], ◌∷◌, ◌++◌, Option, Some, None, ⊤, refl}
use Rattle.std.proofs.Common.{sym, subst, ◌∙◌, inl, inr}
use Rattle.grind_term_graph.specs.declared.head.Head.{Head}
use Rattle.grind_term_graph.specs.declared.head.Head.TheVariants.{True, False, Eq, Const, Fun, Not, And, Or, Implies, Le, Int, Add, Neg, Mul}
use Rattle.grind_schemes.specs.declared.scheme.Scheme.{Scheme, Var, Apply', Row_of-Scheme, end_of-Scheme, more_of-Scheme, items-the_row-Scheme}
use Rattle.grind_resolution.specs.Same.{AreSame, AreSameRows}
use Rattle.grind_patterns.specs.declared.kind.Kind.{Kind}
use Rattle.grind_patterns.specs.declared.kind.Kind.TheVariants.{Left, Right, Hyps, Concl, Written}
use Rattle.grind_patterns.specs.Copies.{IsCopy, AreCopies, AreCopiesRow}
use Rattle.grind_patterns.specs.Patterns.{HasUncovered, TakesAt, Walks, WalksRow, WalksEach, if_implication, hypotheses_of, hypotheses_of_row, conclusion_or, conclusion_of, conclusion_of_row, IsEquation, Chooses, AreChosen}
use Rattle.grind_patterns.proofs.WalkLemmas.{IsCopy-sym, AreCopies-sym, HasVar-copy, HasUncovered-copies, IsPatternTerm-copy}
use Rattle.grind_patterns.proofs.CopyLemmas.{AreCopies-append}
use Rattle.grind_patterns.proofs.BodyLemmas.{patterns_copied, holds_copied}

mutual
  -- one scheme twice is a copy
  pub same-copy : (a b : Scheme) → AreSame a b → IsCopy a b
  same-copy (Var i) (Var j) h = h
  same-copy (Var i) (Apply' head sort shape args) h = absurd h
  same-copy (Apply' head sort shape args) (Var j) h = absurd h
  same-copy (Apply' head sort shape args) (Apply' other own form others) h = (h.0, h.1, same-copies _ _ args others h.2)

  same-copies : (m n : _) (a : Row_of-Scheme m) (b : Row_of-Scheme n) → AreSameRows a b → AreCopiesRow a b
  same-copies m n end_of-Scheme end_of-Scheme h = tt
  same-copies m n end_of-Scheme (more_of-Scheme other others) h = absurd h
  same-copies m n (more_of-Scheme first rest) end_of-Scheme h = absurd h
  same-copies m n (more_of-Scheme first rest) (more_of-Scheme other others) h = (same-copy first other h.0, same-copies _ _ rest others h.1)

uncovered-copy : (before befores : List Scheme) (term other : Scheme) → AreCopies before befores → IsCopy term other → HasUncovered before term → HasUncovered befores other
uncovered-copy before befores term other copies c u =
    HasUncovered-copies before befores other copies (u.0, HasVar-copy u.0 term other c u.1, u.2)

takes-copy : (before befores : List Scheme) (term other : Scheme) (after : List Scheme) → AreCopies before befores → IsCopy term other → TakesAt before term after
    → (afters : List Scheme) × TakesAt befores other afters × AreCopies after afters
takes-copy before befores term other after copies c (pattern, inl (u, is)) = (
  befores ++ other ∷ [],
  (IsPatternTerm-copy term other c pattern, inl (uncovered-copy before befores term other copies c u, refl)),
  subst (λ x. AreCopies x (befores ++ other ∷ [])) (sym is) (AreCopies-append before befores (term ∷ []) (other ∷ []) copies (c, tt)),
)
takes-copy before befores term other after copies c (pattern, inr (none, is)) = (
  befores,
  (
    IsPatternTerm-copy term other c pattern,
    inr (λ u. none (uncovered-copy befores before other term (AreCopies-sym before befores copies) (IsCopy-sym term other c) u), refl),
  ),
  subst (λ x. AreCopies x befores) (sym is) copies,
)

mutual
  walks-copy : (a b : Scheme) (before befores after : List Scheme) → IsCopy a b → AreCopies before befores → Walks before a after
      → (afters : List Scheme) × Walks befores b afters × AreCopies after afters
  walks-copy (Var i) (Var j) before befores after c copies h = (befores, refl, subst (λ x. AreCopies x befores) (sym h) copies)
  walks-copy (Var i) (Apply' head sort shape args) before befores after c copies h = absurd c
  walks-copy (Apply' head sort shape args) (Var j) before befores after c copies h = absurd c
  walks-copy (Apply' head sort shape args) (Apply' other own form others) before befores after c copies (inl t) =
      let x = takes-copy before befores (Apply' head sort shape args) (Apply' other own form others) after copies c t in
      (x.0, inl x.1, x.2)
  walks-copy (Apply' head sort shape args) (Apply' other own form others) before befores after c copies (inr (fails, w)) =
      let x = walks_row-copy _ _ args others before befores after c.2 copies w in (
        x.0,
        inr (
          λ p. fails (IsPatternTerm-copy (Apply' other own form others) (Apply' head sort shape args)
              (IsCopy-sym (Apply' head sort shape args) (Apply' other own form others) c) p),
          x.1,
        ),
        x.2,
      )

  walks_row-copy : (m n : _) (a : Row_of-Scheme m) (b : Row_of-Scheme n) (before befores after : List Scheme) → AreCopiesRow a b → AreCopies before befores → WalksRow before a after
      → (afters : List Scheme) × WalksRow befores b afters × AreCopies after afters
  walks_row-copy m n end_of-Scheme end_of-Scheme before befores after c copies h = (befores, refl, subst (λ x. AreCopies x befores) (sym h) copies)
  walks_row-copy m n end_of-Scheme (more_of-Scheme other others) before befores after c copies h = absurd c
  walks_row-copy m n (more_of-Scheme first rest) end_of-Scheme before befores after c copies h = absurd c
  walks_row-copy m n (more_of-Scheme first rest) (more_of-Scheme other others) before befores after c copies h =
      let x = walks-copy first other before befores h.0 c.0 copies h.1 in
      let y = walks_row-copy _ _ rest others h.0 x.0 after c.1 x.2 h.2 in
      (y.0, (x.0, x.1, y.1), y.2)

walks_each-copy : (a b : List Scheme) (before befores after : List Scheme) → AreCopies a b → AreCopies before befores → WalksEach before a after
    → (afters : List Scheme) × WalksEach befores b afters × AreCopies after afters
walks_each-copy [] [] before befores after c copies h = (befores, refl, subst (λ x. AreCopies x befores) (sym h) copies)
walks_each-copy [] (other ∷ others) before befores after c copies h = absurd c
walks_each-copy (first ∷ rest) [] before befores after c copies h = absurd c
walks_each-copy (first ∷ rest) (other ∷ others) before befores after c copies h =
    let x = walks-copy first other before befores h.0 c.0 copies h.1 in
    let y = walks_each-copy rest others h.0 x.0 after c.1 x.2 h.2 in
    (y.0, (x.0, x.1, y.1), y.2)

if_copies : (head : Head) (xs ys : List Scheme) → AreCopies xs ys → AreCopies (if_implication head xs) (if_implication head ys)
if_copies Implies xs ys h = h
if_copies True xs ys h = tt
if_copies False xs ys h = tt
if_copies Eq xs ys h = tt
if_copies (Const c) xs ys h = tt
if_copies (Fun f) xs ys h = tt
if_copies Not xs ys h = tt
if_copies And xs ys h = tt
if_copies Or xs ys h = tt
if_copies Le xs ys h = tt
if_copies (Int n) xs ys h = tt
if_copies Add xs ys h = tt
if_copies Neg xs ys h = tt
if_copies Mul xs ys h = tt

mutual
  hypotheses-copy : (a b : Scheme) → IsCopy a b → AreCopies (hypotheses_of a) (hypotheses_of b)
  hypotheses-copy (Var i) (Var j) h = tt
  hypotheses-copy (Var i) (Apply' head sort shape args) h = absurd h
  hypotheses-copy (Apply' head sort shape args) (Var j) h = absurd h
  hypotheses-copy (Apply' head sort shape args) (Apply' other own form others) h =
      subst (λ x. AreCopies (if_implication head (hypotheses_of_row args)) (if_implication x (hypotheses_of_row others))) h.0
      (if_copies head (hypotheses_of_row args) (hypotheses_of_row others) (hypotheses_row-copy _ _ args others h.2))

  hypotheses_row-copy : (m n : _) (a : Row_of-Scheme m) (b : Row_of-Scheme n) → AreCopiesRow a b → AreCopies (hypotheses_of_row a) (hypotheses_of_row b)
  hypotheses_row-copy m n end_of-Scheme end_of-Scheme h = tt
  hypotheses_row-copy m n end_of-Scheme (more_of-Scheme x end_of-Scheme) h = absurd h
  hypotheses_row-copy m n end_of-Scheme (more_of-Scheme x (more_of-Scheme y end_of-Scheme)) h = absurd h
  hypotheses_row-copy m n end_of-Scheme (more_of-Scheme x (more_of-Scheme y (more_of-Scheme z v))) h = absurd h
  hypotheses_row-copy m n (more_of-Scheme a end_of-Scheme) end_of-Scheme h = absurd h
  hypotheses_row-copy m n (more_of-Scheme a end_of-Scheme) (more_of-Scheme x end_of-Scheme) h = tt
  hypotheses_row-copy m n (more_of-Scheme a end_of-Scheme) (more_of-Scheme x (more_of-Scheme y end_of-Scheme)) h = absurd h.1
  hypotheses_row-copy m n (more_of-Scheme a end_of-Scheme) (more_of-Scheme x (more_of-Scheme y (more_of-Scheme z v))) h = absurd h.1
  hypotheses_row-copy m n (more_of-Scheme a (more_of-Scheme b end_of-Scheme)) end_of-Scheme h = absurd h
  hypotheses_row-copy m n (more_of-Scheme a (more_of-Scheme b end_of-Scheme)) (more_of-Scheme x end_of-Scheme) h = absurd h.1
  hypotheses_row-copy m n (more_of-Scheme a (more_of-Scheme b end_of-Scheme)) (more_of-Scheme x (more_of-Scheme y end_of-Scheme)) h = (h.0, hypotheses-copy b y (h.1).0)
  hypotheses_row-copy m n (more_of-Scheme a (more_of-Scheme b end_of-Scheme)) (more_of-Scheme x (more_of-Scheme y (more_of-Scheme z v))) h = absurd (h.1).1
  hypotheses_row-copy m n (more_of-Scheme a (more_of-Scheme b (more_of-Scheme c w))) end_of-Scheme h = absurd h
  hypotheses_row-copy m n (more_of-Scheme a (more_of-Scheme b (more_of-Scheme c w))) (more_of-Scheme x end_of-Scheme) h = absurd h.1
  hypotheses_row-copy m n (more_of-Scheme a (more_of-Scheme b (more_of-Scheme c w))) (more_of-Scheme x (more_of-Scheme y end_of-Scheme)) h = absurd (h.1).1
  hypotheses_row-copy m n (more_of-Scheme a (more_of-Scheme b (more_of-Scheme c w))) (more_of-Scheme x (more_of-Scheme y (more_of-Scheme z v))) h = tt

abbrev OptionCopies : Option Scheme → Option Scheme → Type 0
OptionCopies None None = ⊤
OptionCopies None (Some y) = ⊥
OptionCopies (Some x) None = ⊥
OptionCopies (Some x) (Some y) = IsCopy x y

or_copies : (head : Head) (o p : Option Scheme) (f g : Scheme) → OptionCopies o p → IsCopy f g → IsCopy (conclusion_or head o f) (conclusion_or head p g)
or_copies Implies None None f g h k = k
or_copies Implies None (Some y) f g h k = absurd h
or_copies Implies (Some x) None f g h k = absurd h
or_copies Implies (Some x) (Some y) f g h k = h
or_copies True o p f g h k = k
or_copies False o p f g h k = k
or_copies Eq o p f g h k = k
or_copies (Const c) o p f g h k = k
or_copies (Fun n) o p f g h k = k
or_copies Not o p f g h k = k
or_copies And o p f g h k = k
or_copies Or o p f g h k = k
or_copies Le o p f g h k = k
or_copies (Int n) o p f g h k = k
or_copies Add o p f g h k = k
or_copies Neg o p f g h k = k
or_copies Mul o p f g h k = k

mutual
  conclusion-copy : (a b : Scheme) → IsCopy a b → IsCopy (conclusion_of a) (conclusion_of b)
  conclusion-copy (Var i) (Var j) h = h
  conclusion-copy (Var i) (Apply' head sort shape args) h = absurd h
  conclusion-copy (Apply' head sort shape args) (Var j) h = absurd h
  conclusion-copy (Apply' head sort shape args) (Apply' other own form others) h =
      subst (λ x. IsCopy (conclusion_or head (conclusion_of_row args) (Apply' head sort shape args)) (conclusion_or x (conclusion_of_row others) (Apply' other own form others))) h.0
      (or_copies head (conclusion_of_row args) (conclusion_of_row others) (Apply' head sort shape args) (Apply' other own form others)
      (conclusion_row-copy _ _ args others h.2) h)

  conclusion_row-copy : (m n : _) (a : Row_of-Scheme m) (b : Row_of-Scheme n) → AreCopiesRow a b → OptionCopies (conclusion_of_row a) (conclusion_of_row b)
  conclusion_row-copy m n end_of-Scheme end_of-Scheme h = tt
  conclusion_row-copy m n end_of-Scheme (more_of-Scheme x end_of-Scheme) h = absurd h
  conclusion_row-copy m n end_of-Scheme (more_of-Scheme x (more_of-Scheme y end_of-Scheme)) h = absurd h
  conclusion_row-copy m n end_of-Scheme (more_of-Scheme x (more_of-Scheme y (more_of-Scheme z v))) h = absurd h
  conclusion_row-copy m n (more_of-Scheme a end_of-Scheme) end_of-Scheme h = absurd h
  conclusion_row-copy m n (more_of-Scheme a end_of-Scheme) (more_of-Scheme x end_of-Scheme) h = tt
  conclusion_row-copy m n (more_of-Scheme a end_of-Scheme) (more_of-Scheme x (more_of-Scheme y end_of-Scheme)) h = absurd h.1
  conclusion_row-copy m n (more_of-Scheme a end_of-Scheme) (more_of-Scheme x (more_of-Scheme y (more_of-Scheme z v))) h = absurd h.1
  conclusion_row-copy m n (more_of-Scheme a (more_of-Scheme b end_of-Scheme)) end_of-Scheme h = absurd h
  conclusion_row-copy m n (more_of-Scheme a (more_of-Scheme b end_of-Scheme)) (more_of-Scheme x end_of-Scheme) h = absurd h.1
  conclusion_row-copy m n (more_of-Scheme a (more_of-Scheme b end_of-Scheme)) (more_of-Scheme x (more_of-Scheme y end_of-Scheme)) h = conclusion-copy b y (h.1).0
  conclusion_row-copy m n (more_of-Scheme a (more_of-Scheme b end_of-Scheme)) (more_of-Scheme x (more_of-Scheme y (more_of-Scheme z v))) h = absurd (h.1).1
  conclusion_row-copy m n (more_of-Scheme a (more_of-Scheme b (more_of-Scheme c w))) end_of-Scheme h = absurd h
  conclusion_row-copy m n (more_of-Scheme a (more_of-Scheme b (more_of-Scheme c w))) (more_of-Scheme x end_of-Scheme) h = absurd h.1
  conclusion_row-copy m n (more_of-Scheme a (more_of-Scheme b (more_of-Scheme c w))) (more_of-Scheme x (more_of-Scheme y end_of-Scheme)) h = absurd (h.1).1
  conclusion_row-copy m n (more_of-Scheme a (more_of-Scheme b (more_of-Scheme c w))) (more_of-Scheme x (more_of-Scheme y (more_of-Scheme z v))) h = tt

items-copy : (m n : _) (a : Row_of-Scheme m) (b : Row_of-Scheme n) → AreCopiesRow a b → AreCopies (items-the_row-Scheme m a) (items-the_row-Scheme n b)
items-copy m n end_of-Scheme end_of-Scheme h = tt
items-copy m n end_of-Scheme (more_of-Scheme other others) h = absurd h
items-copy m n (more_of-Scheme first rest) end_of-Scheme h = absurd h
items-copy m n (more_of-Scheme first rest) (more_of-Scheme other others) h = (h.0, items-copy _ _ rest others h.1)

two-copy : (l r : Scheme) (ys : List Scheme) → AreCopies (l ∷ r ∷ []) ys → (m : Scheme) × (q : Scheme) × (ys ≡ m ∷ q ∷ []) × IsCopy l m × IsCopy r q
two-copy l r [] h = absurd h
two-copy l r (m ∷ []) h = absurd h.1
two-copy l r (m ∷ q ∷ []) h = (m, q, refl, h.0, (h.1).0)
two-copy l r (m ∷ q ∷ s ∷ ys) h = absurd (h.1).1

equation-copy : (l r a b : Scheme) → IsCopy a b → IsEquation l r a → (m : Scheme) × (q : Scheme) × IsEquation m q b × IsCopy l m × IsCopy r q
equation-copy l r (Var i) b c h = absurd h
equation-copy l r (Apply' head sort shape args) (Var j) c h = absurd c
equation-copy l r (Apply' head sort shape args) (Apply' other own form others) c h =
    let two = two-copy l r (items-the_row-Scheme _ others) (subst (λ xs. AreCopies xs (items-the_row-Scheme _ others)) h.1 (items-copy _ _ args others c.2)) in
    (two.0, two.1, (sym c.0 ∙ h.0, two.2), two.3, two.4)

-- two kinds that write copies
abbrev pub AreKindCopies : Kind → Kind → Type 0
AreKindCopies Left Left = ⊤
AreKindCopies Right Right = ⊤
AreKindCopies Hyps Hyps = ⊤
AreKindCopies Concl Concl = ⊤
AreKindCopies (Written xs) (Written ys) = AreCopies xs ys
AreKindCopies _ _ = ⊥

no_copies : (xs ys : List Scheme) → AreCopies xs ys → ys ≡ [] → xs ≡ []
no_copies [] ys h e = refl
no_copies (x ∷ xs) [] h e = absurd h
no_copies (x ∷ xs) (y ∷ ys) h e = absurd cc

-- what a kind chooses of the one, it chooses copies of from the other
pub chooses-copy : (body other : Scheme) (kind own : Kind) (chosen : List Scheme) → IsCopy body other → AreKindCopies kind own → Chooses body kind chosen
    → (more : List Scheme) × Chooses other own more × AreCopies chosen more
chooses-copy body other Left Left chosen c k h =
    let x = equation-copy h.0 h.1 (conclusion_of body) (conclusion_of other) (conclusion-copy body other c) h.2 in
    (x.0 ∷ [], (x.0, x.1, x.2, refl), subst (λ xs. AreCopies xs (x.0 ∷ [])) (sym h.3) (x.3, tt))
chooses-copy body other Right Right chosen c k h =
    let x = equation-copy h.0 h.1 (conclusion_of body) (conclusion_of other) (conclusion-copy body other c) h.2 in
    (x.1 ∷ [], (x.0, x.1, x.2, refl), subst (λ xs. AreCopies xs (x.1 ∷ [])) (sym h.3) (x.4, tt))
chooses-copy body other Hyps Hyps chosen c k h =
    let hyps = hypotheses-copy body other c in
    let x = walks_each-copy (hypotheses_of body) (hypotheses_of other) [] [] chosen hyps tt h.1 in
    (x.0, (λ e. h.0 (no_copies (hypotheses_of body) (hypotheses_of other) hyps e), x.1), x.2)
chooses-copy body other Concl Concl chosen c k h = walks-copy (conclusion_of body) (conclusion_of other) [] [] chosen (conclusion-copy body other c) tt h
chooses-copy body other (Written xs) (Written ys) chosen c k h = (ys, refl, subst (λ x. AreCopies x ys) (sym h) k)
chooses-copy body other Left Right chosen c k h = absurd k
chooses-copy body other Left Hyps chosen c k h = absurd k
chooses-copy body other Left Concl chosen c k h = absurd k
chooses-copy body other Left (Written ys) chosen c k h = absurd k
chooses-copy body other Right Left chosen c k h = absurd k
chooses-copy body other Right Hyps chosen c k h = absurd k
chooses-copy body other Right Concl chosen c k h = absurd k
chooses-copy body other Right (Written ys) chosen c k h = absurd k
chooses-copy body other Hyps Left chosen c k h = absurd k
chooses-copy body other Hyps Right chosen c k h = absurd k
chooses-copy body other Hyps Concl chosen c k h = absurd k
chooses-copy body other Hyps (Written ys) chosen c k h = absurd k
chooses-copy body other Concl Left chosen c k h = absurd k
chooses-copy body other Concl Right chosen c k h = absurd k
chooses-copy body other Concl Hyps chosen c k h = absurd k
chooses-copy body other Concl (Written ys) chosen c k h = absurd k
chooses-copy body other (Written xs) Left chosen c k h = absurd k
chooses-copy body other (Written xs) Right chosen c k h = absurd k
chooses-copy body other (Written xs) Hyps chosen c k h = absurd k
chooses-copy body other (Written xs) Concl chosen c k h = absurd k

-- what is chosen of the one is chosen of the other
pub chosen-copy : (vars : List ℕ) (body other : Scheme) (kind own : Kind) (chosen : List Scheme) → IsCopy body other → AreKindCopies kind own → AreChosen vars body kind chosen
    → (more : List Scheme) × AreChosen vars other own more
chosen-copy vars body other kind own chosen c k h =
    let x = chooses-copy body other kind own chosen c k h.chooses in (
      x.0,
      record { chooses = x.1; patterns = patterns_copied chosen x.0 x.2 h.patterns; variables = holds_copied vars chosen x.0 x.2 h.variables },
    )
