-- What terms and classes give.
use Rattle.std.specs.Prelude.{◌≡◌, ◌≢◌, ℕ, zero, suc, ◌<◌, ◌≤◌, ◌+◌, ◌⊎◌, List, [], ◌∷◌, Option, Some, None, All, Contains, length, slice_get, slice_index_or, refl}
use Rattle.std.specs.Option.{IsSomeAnd}
use Rattle.std.proofs.Common.{arith, sym, ap, subst, ◌∙◌, inl, inr}
use Rattle.std.proofs.lemmas.Bool.{cases_eq}
use Rattle.std.proofs.lemmas.List.Elements.{All-nil, All-cons, All-head, All-tail}
use Rattle.std.proofs.lemmas.Option.{slice_get_within, same_Some}
use Rattle.grind_term_graph.specs.declared.head.Head.{Head}
use Rattle.grind_term_graph.specs.declared.head.Head.TheVariants as heads
use Rattle.grind_term_graph.specs.declared.node.Node.{Node}
use Rattle.grind_classes.specs.Classes.{members_of, IsIn, IsActive, AreTogether, AreApart, IsPartition}
use Rattle.grind_truth_prop.specs.Kernel.{IsEquation}
use Rattle.grind_truth_prop.specs.Given.{Fits}
use Rattle.grind_truth_prop.specs.Connectives.{IsConnective}
use Rattle.grind_truth_prop.specs.declared.types.Known.{Known}

-- what is there and has the property
pub some_and : {A : Type 0} (o : Option A) (P : A → Type 0) → IsSomeAnd o P → (x : A) × (o ≡ Some x) × P x
some_and None P h = absurd h
some_and (Some x) P h = (x, refl, h)

-- and the other way round
pub and_some : {A : Type 0} (o : Option A) (P : A → Type 0) (x : A) → o ≡ Some x → P x → IsSomeAnd o P
and_some {A} o P x e h = subst (λ (it : Option A). IsSomeAnd it P) (sym e) h

-- a node below the next one is below this one or is it
pub below_next : (P : ℕ → Type 0) (i : ℕ) → ((k : ℕ) → k < i → P k) → P i → (k : ℕ) → k < i + 1 → P k
below_next P i before here k below = elim (cases_eq k i) [
  | inl is ↦ subst P (sym is) here
  | inr other ↦ before k (omega arith)
]

-- the node is that head at these arguments
abbrev pub is_at : Head → List ℕ → Node → Type 0
is_at head args it = (it.head ≡ head) × (it.args ≡ args)

-- one node has one head and one list of arguments
pub at_once : (nodes : List Node) (n : ℕ) (g h : Head) (xs ys : List ℕ) → IsSomeAnd (slice_get nodes n) (is_at g xs)
    → IsSomeAnd (slice_get nodes n) (is_at h ys) → (g ≡ h) × (xs ≡ ys)
at_once nodes n g h xs ys one other =
    let found = some_and (slice_get nodes n) (is_at g xs) one in
    let also = some_and (slice_get nodes n) (is_at h ys) other in
    let same : found.0 ≡ also.0 = same_Some found.0 also.0 (sym found.1 ∙ also.1) in (
      sym found.2.0 ∙ ap (λ (it : Node). it.head) same ∙ also.2.0,
      sym found.2.1 ∙ ap (λ (it : Node). it.args) same ∙ also.2.1,
    )

two_parts : (a b c d : ℕ) → a ∷ b ∷ [] ≡ c ∷ d ∷ [] → (a ≡ c) × (b ≡ d)
two_parts a b c d e = (cc, cc)

-- an equation has one first side and one second
pub equation_once : (nodes : List Node) (n a b c d : ℕ) → IsEquation nodes n a b → IsEquation nodes n c d → (a ≡ c) × (b ≡ d)
equation_once nodes n a b c d one other =
    two_parts a b c d (at_once nodes n heads.Eq heads.Eq (a ∷ b ∷ []) (c ∷ d ∷ []) one other).1

-- an equation stands among the terms
pub equation_within : (nodes : List Node) (n a b : ℕ) → IsEquation nodes n a b → n < length nodes
equation_within nodes n a b is =
    let found = some_and (slice_get nodes n) (is_at heads.Eq (a ∷ b ∷ [])) is in
    slice_get_within nodes n found.0 found.1

-- the arguments of an active node are active
pub args_active : (known : Known) (lists : List (List ℕ)) (n : ℕ) (head : Head) (args : List ℕ) → Fits known lists → IsActive lists n
    → IsSomeAnd (slice_get known.terms.nodes n) (is_at head args) → All (IsActive lists) args
args_active known lists n head args fits active is =
    let found = some_and (slice_get known.terms.nodes n) (is_at head args) is in
    subst (λ (xs : List ℕ). All (IsActive lists) xs) found.2.1 (fits.args n found.0 active found.1)

-- so are the sides of an active equation
pub sides_active : (known : Known) (lists : List (List ℕ)) (n a b : ℕ) → Fits known lists → IsActive lists n
    → IsEquation known.terms.nodes n a b → IsActive lists a × IsActive lists b
sides_active known lists n a b fits active is =
    let both = args_active known lists n heads.Eq (a ∷ b ∷ []) fits active is in (
      All-head (IsActive lists) a (b ∷ []) both,
      All-head (IsActive lists) b [] (All-tail (IsActive lists) a (b ∷ []) both),
    )

-- one node is one connective of one list of arguments
pub connective_once : (nodes : List Node) (n : ℕ) (g h : Head) (xs ys : List ℕ) → IsConnective nodes n g xs → IsConnective nodes n h ys
    → (g ≡ h) × (xs ≡ ys)
connective_once nodes n g h xs ys one other = at_once nodes n g h xs ys one.stands other.stands

-- what holds of each element holds along the list
pub all_of : {X : Type 0} (P : X → Type 0) (xs : List X) → ((x : X) → Contains xs x → P x) → All P xs
all_of P [] h = All-nil P
all_of P (x ∷ xs) h =
    All-cons P x xs (h x (0, omega arith, refl)) (all_of P xs (λ y has. h y (suc has.0, omega (arith, has.1), has.2)))

at_or_behind : (n : ℕ) (xs : List ℕ) (m k : ℕ) → k < length (n ∷ xs) → slice_index_or (n ∷ xs) k m ≡ m → (m ≡ n) ⊎ Contains xs m
at_or_behind n xs m zero below e = inl (sym e)
at_or_behind n xs m (suc k) below e = inr (k, omega arith, e)

-- an element of a list is the first or one of the others
pub first_or_other : (n : ℕ) (xs : List ℕ) (m : ℕ) → Contains (n ∷ xs) m → (m ≡ n) ⊎ Contains xs m
first_or_other n xs m has = at_or_behind n xs m has.0 has.1 has.2

-- each other element of a list is one of a longer one
pub one_of_longer : (n : ℕ) (xs : List ℕ) (m : ℕ) → Contains xs m → Contains (n ∷ xs) m
one_of_longer n xs m has = (suc has.0, omega (arith, has.1), has.2)

-- of several nodes that are all different, one is not n
other_of : (xs : List ℕ) (n : ℕ) → AreApart xs → 1 < length xs → (m : ℕ) × Contains xs m × (m ≢ n)
other_of [] n apart long = absurd (omega arith)
other_of (x ∷ []) n apart long = absurd (omega arith)
other_of (x ∷ y ∷ rest) n apart long = elim (cases_eq x n) [
  | inl is ↦ (y, (1, omega arith, refl), λ e. apart.0 (0, omega arith, e ∙ sym is))
  | inr other ↦ (x, (0, omega arith, refl), other)
]

lone_at : (xs : List ℕ) (n m j k : ℕ) → length xs ≤ 1 → j < length xs → k < length xs → slice_index_or xs j n ≡ n → slice_index_or xs k m ≡ m → m ≡ n
lone_at [] n m j k few below also e f = absurd (omega arith)
lone_at (x ∷ xs) n m zero zero few below also e f = sym f ∙ e
lone_at (x ∷ xs) n m (suc j) k few below also e f = absurd (omega arith)
lone_at (x ∷ xs) n m zero (suc k) few below also e f = absurd (omega arith)

-- a class of more than one node has another node beside each
pub other_together : (lists : List (List ℕ)) (r n : ℕ) → IsPartition lists → IsIn lists r n → 1 < length (members_of lists r)
    → (m : ℕ) × AreTogether lists n m × (m ≢ n)
other_together lists r n classes has long =
    let other = other_of (members_of lists r) n (classes.once r) long in
    (other.0, (r, has, other.1), other.2)

-- a class of one node has no other
pub alone_together : (lists : List (List ℕ)) (r n m : ℕ) → IsPartition lists → IsIn lists r n → length (members_of lists r) ≤ 1
    → AreTogether lists n m → m ≡ n
alone_together lists r n m classes has few together =
    let root = classes.in_one together.0 r n together.1 has in
    let also : IsIn lists r m = subst (λ (s : ℕ). IsIn lists s m) root together.2 in
    lone_at (members_of lists r) n m has.0 also.0 few has.1 also.1 has.2 also.2
