-- Steps in the building of a closure.
use Rattle.std.specs.Prelude.{ℕ, ◌≡◌, zero, suc, ◌+◌, ◌<◌, ◌≤◌, true, List, [], ◌∷◌, ◌++◌, Some, All, Contains, length, slice_get, slice_set, take, ◌⊎◌, ◌↔◌, refl}
use Rattle.std.specs.List.{AllZip}
use Rattle.std.proofs.Common.{arith, sym, ap, ◌∙◌, subst, inl, inr}
use Rattle.std.proofs.lemmas.Bool.{cases_eq}
use Rattle.std.proofs.lemmas.List.{take-append-le}
use Rattle.std.proofs.lemmas.Option.{slice_get_within}
use Rattle.grind_term_graph.specs.declared.node.Node.{Node}
use Rattle.grind_classes.specs.Classes.{members_of, IsIn, IsActive, AreTogether, joined}
use Rattle.grind_classes.proofs.ListLemmas.{members_within, Contains-cases, Contains-more}
use Rattle.grind_congruence.specs.declared.edge.Edge.{Edge}
use Rattle.grind_congruence.specs.Congruence.{Congruence, AreCongruent, Fits}
use Rattle.grind_congruence.specs.Edges.{Leads, Joins, AreClassesOf}
use Rattle.grind_congruence.specs.Asserted.{IsJoined}
use Rattle.grind_congruence.proofs.EdgeLemmas.{together-itself, active-left, active-right}
use Rattle.grind_goal_equations.specs.Building.{IsFounded, AreFounded, HasEnds, IsBuilt, KeepsTogether, IsAsserted, class_count, IsOneMore, HasRest, IsStepped, AreAsserted, IsActiveBelow, IsAsserting, IsClosure}

-- how many lists these members are
abbrev filled : List ℕ → ℕ
filled [] = 0
filled (n ∷ members) = 1

filled-some : (members : List ℕ) (n : ℕ) → Contains members n → filled members ≡ 1
filled-some [] n has = absurd (omega (arith, has.1))
filled-some (first ∷ members) n has = refl

filled-append : (members more : List ℕ) (n : ℕ) → Contains members n → filled (members ++ more) ≡ 1
filled-append [] more n has = absurd (omega (arith, has.1))
filled-append (first ∷ members) more n has = refl

-- the count once one list is another
count_set : (lists : List (List ℕ)) (r : ℕ) (members : List ℕ) → r < length lists →
    class_count (slice_set lists r members) + filled (members_of lists r) ≡ class_count lists + filled members
count_set [] r members within = absurd (omega arith)
count_set ([] ∷ lists) zero [] within = refl
count_set ([] ∷ lists) zero (m ∷ members) within = omega arith
count_set ((n ∷ first) ∷ lists) zero [] within = omega arith
count_set ((n ∷ first) ∷ lists) zero (m ∷ members) within = refl
count_set ([] ∷ lists) (suc r) members within = count_set lists r members (omega arith)
count_set ((n ∷ first) ∷ lists) (suc r) members within =
    let rest = count_set lists r members (omega arith) in omega (arith, rest)

length_set : (lists : List (List ℕ)) (r : ℕ) (members : List ℕ) → length (slice_set lists r members) ≡ length lists
length_set [] r members = refl
length_set (first ∷ lists) zero members = refl
length_set (first ∷ lists) (suc r) members = ap suc (length_set lists r members)

members_set_other : (lists : List (List ℕ)) (r s : ℕ) (members : List ℕ) → (r ≡ s → ⊥) → members_of (slice_set lists r members) s ≡ members_of lists s
members_set_other [] r s members other = refl
members_set_other (first ∷ lists) zero zero members other = absurd (other refl)
members_set_other (first ∷ lists) zero (suc s) members other = refl
members_set_other (first ∷ lists) (suc r) zero members other = refl
members_set_other (first ∷ lists) (suc r) (suc s) members other = members_set_other lists r s members (λ e. other (ap suc e))

-- two classes that are joined are one less
joined_fewer : (lists : List (List ℕ)) (kept gone a b : ℕ) → IsIn lists kept a → IsIn lists gone b → (kept ≡ gone → ⊥) →
    class_count (joined lists kept gone) < class_count lists
joined_fewer lists kept gone a b in_kept in_gone differ =
    let whole : List ℕ = members_of lists kept ++ members_of lists gone in
    let mid : List (List ℕ) = slice_set lists kept whole in
    let first = count_set lists kept whole (members_within lists kept a in_kept) in
    let kept_one = filled-some (members_of lists kept) a in_kept in
    let whole_one = filled-append (members_of lists kept) (members_of lists gone) a in_kept in
    let within_lists : gone < length lists = members_within lists gone b in_gone in
    let long : length mid ≡ length lists = length_set lists kept whole in
    let within : gone < length mid = omega (arith, within_lists, long) in
    let second = count_set mid gone [] within in
    let gone_is : filled (members_of mid gone) ≡ filled (members_of lists gone) =
    ap filled (members_set_other lists kept gone whole differ) in
    let gone_one = filled-some (members_of lists gone) b in_gone in
    omega (arith, first, kept_one, whole_one, second, gone_is, gone_one)

pub IsJoined-fewer : (old new : Congruence) (a b why : ℕ) → IsJoined old new a b why → IsActive old.lists a → IsActive old.lists b →
    (AreTogether old.lists a b → ⊥) → class_count new.lists < class_count old.lists
IsJoined-fewer old new a b why grown left right apart =
    let merge = grown.merged left.0 right.0 left.1 right.1 in
    let differ : left.0 ≡ right.0 → ⊥ = λ e. apart (left.0, left.1, subst (λ (r : ℕ). IsIn old.lists r b) (sym e) right.1) in
    elim (cases_le (length (members_of old.lists right.0)) (length (members_of old.lists left.0))) [
      | inl small ↦
          let is : new.lists ≡ joined old.lists left.0 right.0 = (merge.2.0 small).0 in
          subst (λ (lists : List (List ℕ)). class_count lists < class_count old.lists) (sym is)
          (joined_fewer old.lists left.0 right.0 a b left.1 right.1 differ)
      | inr large ↦
          let is : new.lists ≡ joined old.lists right.0 left.0 = (merge.2.1 large).0 in
          subst (λ (lists : List (List ℕ)). class_count lists < class_count old.lists) (sym is)
          (joined_fewer old.lists right.0 left.0 b a right.1 left.1 (λ e. differ (sym e)))
    ]
  where
    cases_le : (x y : ℕ) → (x ≤ y) ⊎ (y < x)
    cases_le zero y = inl (omega arith)
    cases_le (suc x) zero = inr (omega arith)
    cases_le (suc x) (suc y) = elim (cases_le x y) [ inl h ↦ inl (omega arith) | inr h ↦ inr (omega arith) ]

-- the first edges are the same once there is one more
first_edges : (edges : List Edge) (edge : Edge) (count : ℕ) → count ≤ length edges → take count (edges ++ edge ∷ []) ≡ take count edges
first_edges edges edge count few = take-append-le count edges (edge ∷ []) few

Joins-more : (edges : List Edge) (edge : Edge) (count a b : ℕ) → count ≤ length edges → Joins edges count a b → Joins (edges ++ edge ∷ []) count a b
Joins-more edges edge count a b few joins =
    (joins.0, subst (λ (front : List Edge). Leads front joins.0 a b) (sym (first_edges edges edge count few)) joins.1)

AllZip-by : (R S : ℕ → ℕ → Type 0) (xs ys : List ℕ) → ((x y : ℕ) → R x y → S x y) → AllZip R xs ys → AllZip S xs ys
AllZip-by R S [] [] f h = tt
AllZip-by R S [] (y ∷ ys) f h = absurd h
AllZip-by R S (x ∷ xs) [] f h = absurd h
AllZip-by R S (x ∷ xs) (y ∷ ys) f h = (f x y h.0, AllZip-by R S xs ys f h.1)

-- what is founded stays so
IsFounded-more : (nodes : List Node) (given edges : List Edge) (edge : Edge) (place : ℕ) (it : Edge) → place ≤ length edges →
    IsFounded nodes given edges place it → IsFounded nodes given (edges ++ edge ∷ []) place it
IsFounded-more nodes given edges edge place it few (inl has) = inl has
IsFounded-more nodes given edges edge place it few (inr joins) = inr (
  joins.0,
  record {
    left = joins.1.left;
    right = joins.1.right;
    left_is = joins.1.left_is;
    right_is = joins.1.right_is;
    head = joins.1.head;
    sort = joins.1.sort;
    has_args = joins.1.has_args;
    args = AllZip-by (Joins edges place) (Joins (edges ++ edge ∷ []) place) joins.1.left.args joins.1.right.args
        (λ x y h. Joins-more edges edge place x y few h) joins.1.args;
  },
)

-- an item of a list with one more stands in the list, or is the last
place_cases : (edges : List Edge) (edge it : Edge) (place : ℕ) → slice_get (edges ++ edge ∷ []) place ≡ Some it →
    (slice_get edges place ≡ Some it) ⊎ ((place ≡ length edges) × (edge ≡ it))
place_cases [] edge it zero e = let is : edge ≡ it = cc in inr (refl, is)
place_cases [] edge it (suc place) e = absurd cc
place_cases (first ∷ edges) edge it zero e = inl e
place_cases (first ∷ edges) edge it (suc place) e = elim (place_cases edges edge it place e) [
  | inl h ↦ inl h
  | inr h ↦ inr (ap suc h.0, h.1)
]

AreFounded-more : (nodes : List Node) (given edges : List Edge) (edge : Edge) → AreFounded nodes given edges →
    IsFounded nodes given edges (length edges) edge → AreFounded nodes given (edges ++ edge ∷ [])
AreFounded-more nodes given edges edge all one = λ place it stands. elim (place_cases edges edge it place stands) [
  | inl h ↦
      let within : place < length edges = slice_get_within edges place it h in
      IsFounded-more nodes given edges edge place it (omega (arith, within)) (all place it h)
  | inr h ↦
      let last : IsFounded nodes given (edges ++ edge ∷ []) (length edges) edge = IsFounded-more nodes given edges edge (length edges) edge (omega arith) one in
      subst (λ (p : ℕ). IsFounded nodes given (edges ++ edge ∷ []) p it) (sym h.0)
      (subst (λ (e : Edge). IsFounded nodes given (edges ++ edge ∷ []) (length edges) e) h.1 last)
]

-- an equation between two classes makes one more edge
pub one_more_edge : (nodes : List Node) (given : List Edge) (old new : Congruence) (edge : Edge) → IsBuilt nodes given old → HasEnds nodes edge →
    (AreTogether old.lists edge.left edge.right → ⊥) → IsFounded nodes given old.edges (length old.edges) edge →
    IsJoined old new edge.left edge.right edge.why → Fits new nodes → IsOneMore nodes given old new edge.left edge.right
one_more_edge nodes given old new edge built ends apart founded grown fits =
    let active_a = built.active edge.left ends.0 in
    let active_b = built.active edge.right ends.1 in
    record {
      built = record {
        fits = fits;
        active = λ n within. (grown.active n).1 (built.active n within);
        founded = subst (AreFounded nodes given) (sym grown.edges) (AreFounded-more nodes given old.edges edge built.founded founded);
      };
      keeps = record { stays = λ x y t. (grown.together x y).1 (inl t) };
      asserted = (grown.together edge.left edge.right).1
          (inr (inl (together-itself old.lists edge.left active_a, together-itself old.lists edge.right active_b)));
      fewer = IsJoined-fewer old new edge.left edge.right edge.why grown active_a active_b apart;
    }

-- what is congruent is joined by the edges that there are
pub congruent_founded : (nodes : List Node) (given : List Edge) (closure : Congruence) (a b : ℕ) → AreClassesOf closure.lists closure.edges →
    AreCongruent closure.lists nodes a b →
    IsFounded nodes given closure.edges (length closure.edges) (record { left = a; right = b; why = 0 })
congruent_founded nodes given closure a b tied is = inr (
  refl,
  record {
    left = is.left;
    right = is.right;
    left_is = is.left_is;
    right_is = is.right_is;
    head = is.head;
    sort = is.sort;
    has_args = is.has_args;
    args = AllZip-by (AreTogether closure.lists) (Joins closure.edges (length closure.edges)) is.left.args is.right.args
        (λ x y t. (tied.led x y (active-left closure.lists x y t) (active-right closure.lists x y t)).0 t) is.args;
  },
)

pub congruent_within : (nodes : List Node) (lists : List (List ℕ)) (a b : ℕ) → AreCongruent lists nodes a b → (a < length nodes) × (b < length nodes)
congruent_within nodes lists a b is =
    (slice_get_within nodes a is.left is.left_is, slice_get_within nodes b is.right is.right_is)

-- all nodes active and no edges yet
pub IsBuilt-start : (nodes : List Node) (given : List Edge) (closure : Congruence) → IsActiveBelow nodes closure (length nodes) → IsBuilt nodes given closure
IsBuilt-start nodes given closure below = record {
  fits = below.fits;
  active = below.active;
  founded = λ place edge stands.
      let none : slice_get [] place ≡ Some edge = subst (λ (edges : List Edge). slice_get edges place ≡ Some edge) below.edges stands in
      absurd (no_place place edge none);
}
  where
    no_place : (place : ℕ) (edge : Edge) → slice_get [] place ≡ Some edge → ⊥
    no_place place edge e = let below = slice_get_within [] place edge e in absurd (omega (arith, below))

-- what holds of all items holds of each
pub All-contains : {X : Type 0} (P : X → Type 0) (xs : List X) (x : X) → All P xs → Contains xs x → P x
All-contains P [] x all has = absurd (omega (arith, has.1))
All-contains P (y ∷ xs) x all (zero, within, is) = subst P is (all 0 y (omega arith))
All-contains P (y ∷ xs) x all (suc k, within, is) =
    All-contains P xs x (λ i d below. all (suc i) d (omega arith)) (k, omega (arith, within), is)

-- the first of the rest is a given edge
pub first_among : (given rest tail : List Edge) (edge : Edge) → rest ≡ edge ∷ tail → ((it : Edge) → Contains rest it → Contains given it) →
    Contains given edge
first_among given rest tail edge whole among =
    among edge (subst (λ (all : List Edge). Contains all edge) (sym whole) (0, omega arith, refl))

-- no edge is asserted yet
pub IsAsserting-start : (nodes : List Node) (given : List Edge) (closure : Congruence) → IsBuilt nodes given closure → IsAsserting nodes given given closure
IsAsserting-start nodes given closure built = record { built = built; asserted = λ edge has. inr has; among = λ edge has. has }

-- the first of the rest is asserted
pub IsAsserting-step : (nodes : List Node) (given rest tail : List Edge) (edge : Edge) (old new : Congruence) → rest ≡ edge ∷ tail →
    IsAsserting nodes given rest old → IsBuilt nodes given new → KeepsTogether old new → IsAsserted new edge → IsAsserting nodes given tail new
IsAsserting-step nodes given rest tail edge old new whole h built keeps asserted = record {
  built = built;
  asserted = λ it has. elim (h.asserted it has) [
    | inl before ↦ inl (record { ends = keeps.stays it.left it.right before.ends })
    | inr left ↦ elim (Contains-cases edge tail it (subst (λ (all : List Edge). Contains all it) whole left)) [
      | inl is ↦ inl (subst (IsAsserted new) is asserted)
      | inr behind ↦ inr behind
    ]
  ];
  among = λ it has. h.among it (subst (λ (all : List Edge). Contains all it) (sym whole) (Contains-more edge tail it has));
}

-- all are
pub IsAsserting-end : (nodes : List Node) (given rest : List Edge) (closure : Congruence) → length rest ≡ 0 → IsAsserting nodes given rest closure →
    AreAsserted given closure
IsAsserting-end nodes given rest closure none h = record {
  each = λ edge has. elim (h.asserted edge has) [
    | inl asserted ↦ asserted
    | inr left ↦ absurd (omega (arith, none, left.1))
  ];
}

-- what is asserted stays so
pub AreAsserted-stay : (given : List Edge) (old new : Congruence) → KeepsTogether old new → AreAsserted given old → AreAsserted given new
AreAsserted-stay given old new keeps h = record { each = λ edge has. record { ends = keeps.stays edge.left edge.right (h.each edge has).ends } }

-- one node more is active
pub IsActiveBelow-step : (nodes : List Node) (old new : Congruence) (n : ℕ) → IsActiveBelow nodes old n →
    ((x : ℕ) → IsActive new.lists x ↔ (IsActive old.lists x ⊎ (x ≡ n))) → new.edges ≡ old.edges → Fits new nodes →
    IsActiveBelow nodes new (n + 1)
IsActiveBelow-step nodes old new n h active same fits = record {
  fits = fits;
  active = λ x below. elim (cases_eq x n) [
    | inl is ↦ (active x).1 (inr is)
    | inr other ↦ (active x).1 (inl (h.active x (omega (arith, below, other))))
  ];
  only = λ x act. elim ((active x).0 act) [
    | inl before ↦ let low = h.only x before in omega (arith, low)
    | inr is ↦ omega (arith, is)
  ];
  edges = same ∙ h.edges;
}

pub IsClosure-from : (nodes : List Node) (given : List Edge) (old new : Congruence) → AreAsserted given old → IsBuilt nodes given new →
    KeepsTogether old new → HasRest nodes new → IsClosure nodes given new
IsClosure-from nodes given old new asserted built keeps rest =
    record { built = built; asserted = AreAsserted-stay given old new keeps asserted; rest = rest }

-- a step leaves the classes and the edges
pub IsBuilt-same : (nodes : List Node) (given : List Edge) (old new : Congruence) → IsBuilt nodes given old → new.lists ≡ old.lists →
    new.edges ≡ old.edges → Fits new nodes → IsBuilt nodes given new
IsBuilt-same nodes given old new built lists edges fits = record {
  fits = fits;
  active = λ n within. subst (λ (ls : List (List ℕ)). IsActive ls n) (sym lists) (built.active n within);
  founded = subst (AreFounded nodes given) (sym edges) built.founded;
}

pub KeepsTogether-same : (old new : Congruence) → new.lists ≡ old.lists → KeepsTogether old new
KeepsTogether-same old new lists = record { stays = λ a b t. subst (λ (ls : List (List ℕ)). AreTogether ls a b) (sym lists) t }

-- and one more edge after it makes fewer classes
pub IsStepped-more : (nodes : List Node) (given : List Edge) (old mid new : Congruence) (a b : ℕ) → mid.lists ≡ old.lists →
    IsOneMore nodes given mid new a b → IsStepped nodes given old new true
IsStepped-more nodes given old mid new a b lists more = (
  more.built,
  record { stays = λ x y t. more.keeps.stays x y (subst (λ (ls : List (List ℕ)). AreTogether ls x y) (sym lists) t) },
  subst (λ (ls : List (List ℕ)). class_count new.lists < class_count ls) lists more.fewer,
)
