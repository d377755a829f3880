-- Ways in trees, and the parts of which they are made.
use Rattle.std.specs.Prelude.{◌≡◌, ◌≢◌, ℕ, zero, suc, ◌+◌, ◌<◌, ◌≤◌, Bool, true, false, cond, min, nat_eq, not, List, [], ◌∷◌, ◌++◌, Some, All, Contains, length, take, slice_get, ◌⊎◌, refl}
use Rattle.std.proofs.Common.{arith, sym, ap, ◌∙◌, subst, inl, inr, append_assoc}
use Rattle.std.proofs.lemmas.Bool.{false≢true}
use Rattle.std.proofs.lemmas.Bool.Decides.{Decides-eqb}
use Rattle.std.proofs.lemmas.List.{append-nil}
use Rattle.std.proofs.lemmas.List.Elements.{Contains-append_cases, Contains-get_or}
use Rattle.std.proofs.lemmas.Option.{same_Some, slice_get_within}
use Rattle.grind_classes.proofs.ListLemmas.{AreApart-append, Contains-nil, Contains-cases}
use Rattle.grind_congruence.specs.declared.edge.Edge.{Edge}
use Rattle.grind_congruence.specs.declared.forest.Join.{Join}
use Rattle.grind_congruence.specs.declared.legs.Leg.{Leg}
use Rattle.grind_congruence.specs.declared.legs.Leg.TheVariants.{Pass, Between}
use Rattle.grind_congruence.specs.Edges.{Passes}
use Rattle.grind_congruence.specs.Forest.{stepped, climbed, AreSameAt, IsNeverGone, IsGoneAt, IsFirstGone, IsForest, AreJoinedBy, IsSplit, IsTreeWay, FillsLeg, Fills, IsJoinedLeg, AreJoinedLegs, time, doubled, leg_weight, weight, IsTaken}
use Rattle.grind_congruence.proofs.EdgeLemmas.{Leads-append}
use Rattle.grind_congruence.proofs.ForestLemmas.{stepped_gone, stepped_other, climbed_next, item_at, same_later, same_whole, passes_same, eq_true, eq_false, never_again, stays_root, is_top}

-- less, or at least
cases_less : (a b : ℕ) → (a < b) ⊎ (b ≤ a)
cases_less a zero = inr (omega arith)
cases_less zero (suc b) = inl (omega arith)
cases_less (suc a) (suc b) = elim (cases_less a b) [
  | inl less ↦ inl (omega (arith, less))
  | inr order ↦ inr (omega (arith, order))
]

-- no way from a node to itself
pub IsTreeWay-nil : (edges : List Edge) (joins : List Join) (a b : ℕ) → a ≡ b → IsTreeWay edges joins a b []
IsTreeWay-nil edges joins a b e = record {
  leads = e;
  apart = tt;
  below = λ k same place has. absurd (Contains-nil place has);
  near = λ k same place has. absurd (Contains-nil place has);
}

-- a way to the edge that joined two trees, that edge, and a way from it
pub IsTreeWay-through : (edges : List Edge) (joins : List Join) (a b near far place : ℕ) (edge : Edge) (xs ys : List ℕ) → AreJoinedBy edges joins
    → slice_get edges place ≡ Some edge → Passes edge near far
    → AreSameAt joins place a near → AreSameAt joins place far b → (AreSameAt joins place a b → ⊥)
    → IsTreeWay edges joins a near xs → IsTreeWay edges joins far b ys → IsTreeWay edges joins a b (xs ++ place ∷ ys)
IsTreeWay-through edges joins a b near far place edge xs ys by stands passes left right apart first second = record {
  leads = Leads-append edges xs (place ∷ ys) a near b first.leads (edge, far, stands, passes, second.leads);
  apart = AreApart-append xs (place ∷ ys) first.apart
      ((λ has. let less : place < place = second.below place right place has in absurd (omega (arith, less))), second.apart) twice;
  below = λ k same p has. elim (Contains-append_cases xs (place ∷ ys) p has) [
    | inl here ↦ let less : p < place = first.below place left p here in omega (arith, less, later k same)
    | inr there ↦ elim (Contains-cases place ys p there) [
      | inl is ↦ subst (λ i. i < k) is (later k same)
      | inr more ↦ let less : p < place = second.below place right p more in omega (arith, less, later k same)
    ]
  ];
  near = λ k same p has. elim (Contains-append_cases xs (place ∷ ys) p has) [
    | inl here ↦ first.near k (same_later joins place k a near (below_is (later k same)) left) p here
    | inr there ↦ elim (Contains-cases place ys p there) [
      | inl is ↦ subst (λ i. (e : Edge) × (slice_get edges i ≡ Some e) × AreSameAt joins k e.left a) is (edge, stands, own k (later k same) passes)
      | inr more ↦
          let it = second.near k (same_later joins place k far b (below_is (later k same)) right) p more in
          (it.0, it.1, it.2 ∙ back k (later k same))
    ]
  ];
}
  where
    below_is : {i j : ℕ} → i < j → i ≤ j
    below_is e = omega (arith, e)

    later : (k : ℕ) → AreSameAt joins k a b → place < k
    later k same = elim (cases_less place k) [
      | inl less ↦ less
      | inr order ↦ absurd (apart (same_later joins k place a b order same))
    ]

    back : (k : ℕ) → place < k → AreSameAt joins k far a
    back k less =
        sym (passes_same edges joins place k near far edge by stands less passes) ∙ sym (same_later joins place k a near (below_is less) left)

    own : (k : ℕ) → place < k → Passes edge near far → AreSameAt joins k edge.left a
    own k less (inl is) =
        ap (λ n. climbed n (take k joins)) is.0 ∙ sym (same_later joins place k a near (below_is less) left)
    own k less (inr is) = ap (λ n. climbed n (take k joins)) is.1 ∙ back k less

    omega_less : (i j : ℕ) → i ≡ j → j < i → ⊥
    omega_less i j e less = absurd (omega (arith, e, less))

    twice : (n : ℕ) → Contains xs n → Contains (place ∷ ys) n → ⊥
    twice n here there = elim (Contains-cases place ys n there) [
      | inl is ↦ omega_less place n is (first.below place left n here)
      | inr more ↦
          let one = first.near place left n here in
          let two = second.near place right n more in
          let edges_are : one.0 ≡ two.0 = same_Some one.0 two.0 (sym one.1 ∙ two.1) in
          apart (sym one.2 ∙ ap (λ (e : Edge). climbed e.left (take place joins)) edges_are ∙ two.2 ∙ right)
    ]

-- what fills parts with one more fills that one, and then the others
pub Fills-last : (edges : List Edge) (joins : List Join) (legs : List Leg) (leg : Leg) (rest : List ℕ) → Fills edges joins (legs ++ leg ∷ []) rest
    → (own : List ℕ) × (later : List ℕ) × FillsLeg edges joins leg own × Fills edges joins legs later × (rest ≡ own ++ later)
Fills-last edges joins [] leg rest (front, own, none, fill, is) =
    (own, [], fill, refl, is ∙ ap (λ xs. xs ++ own) none ∙ sym (append-nil own))
Fills-last edges joins (first ∷ legs) leg rest (front, last, fills, fill, is) =
    let inner = Fills-last edges joins legs leg front fills in (
      inner.0,
      inner.1 ++ last,
      inner.2,
      (inner.1, last, inner.3, fill, refl),
      is ∙ ap (λ xs. xs ++ last) inner.4 ∙ append_assoc inner.0 inner.1 last,
    )

AreJoinedLegs-push : (joins : List Join) (legs : List Leg) (leg : Leg) → AreJoinedLegs joins legs → IsJoinedLeg joins leg
    → AreJoinedLegs joins (legs ++ leg ∷ [])
AreJoinedLegs-push joins [] leg all here = (here, tt)
AreJoinedLegs-push joins (first ∷ legs) leg all here = (all.0, AreJoinedLegs-push joins legs leg all.1 here)

pub AreJoinedLegs-pop : (joins : List Join) (whole legs : List Leg) (leg : Leg) → whole ≡ legs ++ leg ∷ [] → AreJoinedLegs joins whole
    → IsJoinedLeg joins leg × AreJoinedLegs joins legs
AreJoinedLegs-pop joins whole legs leg is all = pop legs (subst (AreJoinedLegs joins) is all)
  where
    pop : (front : List Leg) → AreJoinedLegs joins (front ++ leg ∷ []) → IsJoinedLeg joins leg × AreJoinedLegs joins front
    pop [] both = (both.0, tt)
    pop (first ∷ front) both = let rest = pop front both.1 in (rest.0, (both.0, rest.1))

weight-push : (joins : List Join) (legs : List Leg) (leg : Leg) → weight joins (legs ++ leg ∷ []) ≡ leg_weight joins leg + weight joins legs
weight-push joins [] leg = refl
weight-push joins (first ∷ legs) leg = omega (arith, weight-push joins legs leg)

pub weight-pop : (joins : List Join) (whole legs : List Leg) (leg : Leg) → whole ≡ legs ++ leg ∷ []
    → weight joins whole ≡ leg_weight joins leg + weight joins legs
weight-pop joins whole legs leg is = ap (weight joins) is ∙ weight-push joins legs leg

-- how much is left
doubled_positive : (n : ℕ) → 1 ≤ doubled n
doubled_positive zero = omega arith
doubled_positive (suc n) = omega (arith, doubled_positive n)

doubled_le : (n m : ℕ) → n ≤ m → doubled n ≤ doubled m
doubled_le zero m order = doubled_positive m
doubled_le (suc n) zero order = absurd (omega (arith, order))
doubled_le (suc n) (suc m) order = omega (arith, doubled_le n m (omega (arith, order)))

time_same : (joins : List Join) (k a b : ℕ) → AreSameAt joins k a b → time a b joins ≤ k
time_same [] k a b same = omega arith
time_same (join ∷ joins) zero a b same =
    subst (λ t. cond t 0 (suc (time (stepped a join) (stepped b join) joins)) ≤ 0) (sym (eq_true a b same)) (omega arith)
time_same (join ∷ joins) (suc k) a b same = next (nat_eq a b) (time_same joins k (stepped a join) (stepped b join) same)
  where
    next : (t : Bool) → time (stepped a join) (stepped b join) joins ≤ k → cond t 0 (suc (time (stepped a join) (stepped b join) joins)) ≤ suc k
    next true rest = omega arith
    next false rest = omega (arith, rest)

time_apart : (joins : List Join) (p a b : ℕ) → p < length joins → (AreSameAt joins p a b → ⊥) → p < time a b joins
time_apart [] p a b within apart = absurd (omega (arith, within))
time_apart (join ∷ joins) zero a b within apart =
    subst (λ t. 0 < cond t 0 (suc (time (stepped a join) (stepped b join) joins))) (sym (eq_false a b apart)) (omega arith)
time_apart (join ∷ joins) (suc p) a b within apart =
    subst (λ t. suc p < cond t 0 (suc (time (stepped a join) (stepped b join) joins))) (sym (eq_false a b (λ e. apart (alike e))))
    (omega (arith, time_apart joins p (stepped a join) (stepped b join) (omega (arith, within)) apart))
  where
    alike : a ≡ b → AreSameAt (join ∷ joins) (suc p) a b
    alike e = ap (λ n. climbed n (take (suc p) (join ∷ joins))) e

-- the equation at a place is written
pub taken_pass : (edges : List Edge) (joins : List Join) (legs : List Leg) (place : ℕ) (way : List ℕ) → AreJoinedLegs joins legs
    → IsTaken edges joins legs (Pass place) way legs (way ++ place ∷ [])
taken_pass edges joins legs place way joined = record {
  fills = λ rest fills. (place ∷ [], rest, refl, fills, append_assoc way (place ∷ []) rest);
  joined = joined;
  lighter = omega arith;
}

-- nothing lies between a node and itself
pub taken_same : (edges : List Edge) (joins : List Join) (legs : List Leg) (a b : ℕ) (way : List ℕ) → a ≡ b → AreJoinedLegs joins legs
    → IsTaken edges joins legs (Between a b) way legs way
taken_same edges joins legs a b way is joined = record {
  fills = λ rest fills. ([], rest, IsTreeWay-nil edges joins a b is, fills, refl);
  joined = joined;
  lighter = omega (arith, doubled_positive (time a b joins));
}

-- what a split says
record AreSplit (edges : List Edge) (joins : List Join) (a b place near far : ℕ) : Type 0 where
  pub edge : Edge
  pub stands : slice_get edges place ≡ Some edge
  pub passes : Passes edge near far
  pub left : AreSameAt joins place a near
  pub right : AreSameAt joins place far b
  pub split : AreSameAt joins place a b → ⊥
  pub within : place < length joins

split_is : (edges : List Edge) (joins : List Join) (a b place near far : ℕ) → AreJoinedBy edges joins → IsForest joins
    → IsSplit joins a b place near far → AreSplit edges joins a b place near far
split_is edges joins a b place near far by forest it = sides it.sides
  where
    inside : place < length joins
    inside = slice_get_within joins place it.join it.stands

    edge_at : (e : Edge) × (slice_get edges place ≡ Some e)
    edge_at = item_at edges place (omega (arith, inside, by.count))

    sides : (((climbed a (take place joins) ≡ it.join.gone) × (climbed b (take place joins) ≡ it.join.kept) × (near ≡ it.join.from) × (far ≡ it.join.to))
        ⊎ ((climbed a (take place joins) ≡ it.join.kept) × (climbed b (take place joins) ≡ it.join.gone) × (near ≡ it.join.to) × (far ≡ it.join.from)))
        → AreSplit edges joins a b place near far
    sides (inl p) = record {
      edge = edge_at.0;
      stands = edge_at.1;
      passes = subst (λ n. Passes edge_at.0 n far) (sym p.2) (subst (λ n. Passes edge_at.0 it.join.from n) (sym p.3) (by.passes place edge_at.0 it.join edge_at.1 it.stands));
      left = p.0 ∙ sym (by.from place it.join it.stands) ∙ ap (λ n. climbed n (take place joins)) (sym p.2);
      right = ap (λ n. climbed n (take place joins)) p.3 ∙ by.to place it.join it.stands ∙ sym p.1;
      split = λ same. forest.differ place it.join it.stands (sym p.0 ∙ same ∙ p.1);
      within = inside;
    }
    sides (inr p) = record {
      edge = edge_at.0;
      stands = edge_at.1;
      passes = subst (λ n. Passes edge_at.0 n far) (sym p.2) (subst (λ n. Passes edge_at.0 it.join.to n) (sym p.3) (turned (by.passes place edge_at.0 it.join edge_at.1 it.stands)));
      left = p.0 ∙ sym (by.to place it.join it.stands) ∙ ap (λ n. climbed n (take place joins)) (sym p.2);
      right = ap (λ n. climbed n (take place joins)) p.3 ∙ by.from place it.join it.stands ∙ sym p.1;
      split = λ same. forest.differ place it.join it.stands (sym (sym p.0 ∙ same ∙ p.1));
      within = inside;
    }
      where
        turned : Passes edge_at.0 it.join.from it.join.to → Passes edge_at.0 it.join.to it.join.from
        turned (inl q) = inr (q.1, q.0)
        turned (inr q) = inl (q.1, q.0)

-- a way between two nodes is cut at the edge that joined their trees
pub taken_split : (edges : List Edge) (joins : List Join) (legs : List Leg) (a b place near far : ℕ) (way : List ℕ) → AreJoinedBy edges joins
    → IsForest joins → IsSplit joins a b place near far → AreJoinedLegs joins legs
    → IsTaken edges joins legs (Between a b) way (((legs ++ Between far b ∷ []) ++ Pass place ∷ []) ++ Between a near ∷ []) way
taken_split edges joins legs a b place near far way by forest is joined =
    let it : AreSplit edges joins a b place near far = split_is edges joins a b place near far by forest is in
    record {
      fills = λ rest fills. fill it rest fills;
      joined = AreJoinedLegs-push joins ((legs ++ Between far b ∷ []) ++ Pass place ∷ []) (Between a near)
          (AreJoinedLegs-push joins (legs ++ Between far b ∷ []) (Pass place)
          (AreJoinedLegs-push joins legs (Between far b) joined (same_whole joins place far b it.right)) tt)
          (same_whole joins place a near it.left);
      lighter = lighter it;
    }
  where
    fill : AreSplit edges joins a b place near far → (rest : List ℕ)
        → Fills edges joins (((legs ++ Between far b ∷ []) ++ Pass place ∷ []) ++ Between a near ∷ []) rest
        → (own : List ℕ) × (later : List ℕ) × FillsLeg edges joins (Between a b) own × Fills edges joins legs later × (way ++ rest ≡ way ++ (own ++ later))
    fill it rest fills =
        let one = Fills-last edges joins ((legs ++ Between far b ∷ []) ++ Pass place ∷ []) (Between a near) rest fills in
        let two = Fills-last edges joins (legs ++ Between far b ∷ []) (Pass place) one.1 one.3 in
        let three = Fills-last edges joins legs (Between far b) two.1 two.3 in (
          one.0 ++ place ∷ three.0,
          three.1,
          IsTreeWay-through edges joins a b near far place it.edge one.0 three.0 by it.stands it.passes it.left it.right it.split one.2 three.2,
          three.3,
          ap (λ xs. way ++ xs) (one.4 ∙ ap (λ xs. one.0 ++ xs) (two.4 ∙ ap (λ xs. xs ++ two.1) two.2 ∙ ap (λ xs. place ∷ xs) three.4)
              ∙ sym (append_assoc one.0 (place ∷ three.0) three.1)),
        )

    lighter : AreSplit edges joins a b place near far
        → weight joins (((legs ++ Between far b ∷ []) ++ Pass place ∷ []) ++ Between a near ∷ []) < leg_weight joins (Between a b) + weight joins legs
    lighter it =
        let first : doubled (time a near joins) ≤ doubled place = doubled_le (time a near joins) place (time_same joins place a near it.left) in
        let second : doubled (time far b joins) ≤ doubled place = doubled_le (time far b joins) place (time_same joins place far b it.right) in
        let whole : doubled (suc place) ≤ doubled (time a b joins) =
        doubled_le (suc place) (time a b joins) (omega (arith, time_apart joins place a b it.within it.split)) in
        omega (
          arith,
          first,
          second,
          whole,
          weight-push joins ((legs ++ Between far b ∷ []) ++ Pass place ∷ []) (Between a near),
          weight-push joins (legs ++ Between far b ∷ []) (Pass place),
          weight-push joins legs (Between far b),
        )

-- a way in a tree, and the first edges that lead there
pub way_among : (edges : List Edge) (joins : List Join) (a b k : ℕ) (places : List ℕ) → IsTreeWay edges joins a b places → AreSameAt joins k a b
    → All (λ place. place < k) places
way_among edges joins a b k places way same i d within = way.below k same _ (Contains-get_or places i d within)

-- one step of the search for a split
record IsStep (joins : List Join) (a b x y place : ℕ) (join : Join) : Type 0 where
  pub left : climbed a (take place joins) ≡ x
  pub right : climbed b (take place joins) ≡ y
  pub inside : place < length joins

first_step : (joins : List Join) (a b x y count place : ℕ) (join : Join) → IsForest joins → climbed a (take count joins) ≡ x
    → climbed b (take count joins) ≡ y → count ≤ length joins → slice_get joins place ≡ Some join → (join.gone ≡ x) ⊎ (join.gone ≡ y)
    → ((other : ℕ) (it : Join) → slice_get joins other ≡ Some it → (it.gone ≡ x) ⊎ (it.gone ≡ y) → place ≤ other)
    → IsStep joins a b x y place join × (count ≤ place)
first_step joins a b x y count place join forest left right within stands gone first = (
  record {
    left = stays_root joins a x count place left later (omega (arith, inside)) (λ q other standing less e.
        let low = first q other standing (inl e) in absurd (omega (arith, low, less)));
    right = stays_root joins b y count place right later (omega (arith, inside)) (λ q other standing less e.
        let low = first q other standing (inr e) in absurd (omega (arith, low, less)));
    inside = inside;
  },
  later,
)
  where
    inside : place < length joins
    inside = slice_get_within joins place join stands

    not_before : (place < count) ⊎ (count ≤ place) → (join.gone ≡ x) ⊎ (join.gone ≡ y) → count ≤ place
    not_before (inr order) which = order
    not_before (inl less) (inl is) = absurd (never_again joins a place count join forest stands less within (left ∙ sym is))
    not_before (inl less) (inr is) = absurd (never_again joins b place count join forest stands less within (right ∙ sym is))

    later : count ≤ place
    later = not_before (cases_less place count) gone

-- the first of the two nodes climbs
pub left_climbs : (joins : List Join) (a b x y count place : ℕ) (join : Join) → IsForest joins → climbed a (take count joins) ≡ x
    → climbed b (take count joins) ≡ y → count ≤ length joins → x ≢ y → IsFirstGone joins x y place → slice_get joins place ≡ Some join → join.gone ≡ x
    → (climbed a (take (place + 1) joins) ≡ join.kept) × (climbed b (take (place + 1) joins) ≡ y) × (place + 1 ≤ length joins) × (count ≤ place)
    × (join.kept ≡ y → IsSplit joins a b place join.from join.to)
left_climbs joins a b x y count place join forest left right within differ first stands gone =
    let step = first_step joins a b x y count place join forest left right within stands (inl gone) first.first in (
      climbed_next joins a place join stands ∙ stepped_gone (climbed a (take place joins)) join (step.0.left ∙ sym gone),
      climbed_next joins b place join stands ∙ stepped_other (climbed b (take place joins)) join (λ e. differ (sym gone ∙ sym e ∙ step.0.right)) ∙ step.0.right,
      omega (arith, step.0.inside),
      step.1,
      λ e. record { join = join; stands = stands; sides = inl (step.0.left ∙ sym gone, step.0.right ∙ sym e, refl, refl) },
    )

-- the second climbs
pub right_climbs : (joins : List Join) (a b x y count place : ℕ) (join : Join) → IsForest joins → climbed a (take count joins) ≡ x
    → climbed b (take count joins) ≡ y → count ≤ length joins → IsFirstGone joins x y place → slice_get joins place ≡ Some join → join.gone ≢ x
    → (climbed a (take (place + 1) joins) ≡ x) × (climbed b (take (place + 1) joins) ≡ join.kept) × (place + 1 ≤ length joins) × (count ≤ place)
    × (x ≡ join.kept → IsSplit joins a b place join.to join.from)
right_climbs joins a b x y count place join forest left right within first stands other =
    let is_same : first.join ≡ join = same_Some first.join join (sym first.stands ∙ stands) in
    let gone : join.gone ≡ y = second first.gone is_same in
    let step = first_step joins a b x y count place join forest left right within stands (inr gone) first.first in (
      climbed_next joins a place join stands ∙ stepped_other (climbed a (take place joins)) join (λ e. other (sym e ∙ step.0.left)) ∙ step.0.left,
      climbed_next joins b place join stands ∙ stepped_gone (climbed b (take place joins)) join (step.0.right ∙ sym gone),
      omega (arith, step.0.inside),
      step.1,
      λ e. record { join = join; stands = stands; sides = inr (step.0.left ∙ e, step.0.right ∙ sym gone, refl, refl) },
    )
  where
    second : (first.join.gone ≡ x) ⊎ (first.join.gone ≡ y) → first.join ≡ join → join.gone ≡ y
    second (inl is) e = absurd (other (sym (ap (λ (j : Join). j.gone) e) ∙ is))
    second (inr is) e = sym (ap (λ (j : Join). j.gone) e) ∙ is

-- two roots that never lose their place are not in one tree
pub never_both : (joins : List Join) (a b x y count : ℕ) → climbed a (take count joins) ≡ x → climbed b (take count joins) ≡ y
    → count ≤ length joins → IsNeverGone joins x → IsNeverGone joins y → climbed a joins ≡ climbed b joins → x ≡ y
never_both joins a b x y count left right within never_x never_y joined =
    sym (is_top joins a x count left within never_x) ∙ joined ∙ is_top joins b y count right within never_y

-- the first of two places
pub first_of_both : (joins : List Join) (x y left right : ℕ) → IsGoneAt joins x left → IsGoneAt joins y right
    → IsFirstGone joins x y (min left right)
first_of_both joins x y left right one two = elim (cases_less left right) [
  | inl less ↦
      let is : left ≡ min left right = omega (arith, less) in
      subst (IsFirstGone joins x y) is (record {
        join = one.join;
        stands = one.stands;
        gone = inl one.gone;
        first = λ other it stands gone. elim gone [
          | inl e ↦ let at = one.only other it stands e in omega (arith, at)
          | inr e ↦ let at = two.only other it stands e in omega (arith, at, less)
        ];
      })
  | inr order ↦
      let is : right ≡ min left right = omega (arith, order) in
      subst (IsFirstGone joins x y) is (record {
        join = two.join;
        stands = two.stands;
        gone = inr two.gone;
        first = λ other it stands gone. elim gone [
          | inl e ↦ let at = one.only other it stands e in omega (arith, at, order)
          | inr e ↦ let at = two.only other it stands e in omega (arith, at)
        ];
      })
]

-- what a test of two numbers says
pub differ_of : (a b : ℕ) → true ≡ not (nat_eq a b) → a ≢ b
differ_of a b test e = false≢true (sym (ap not (eq_true a b e)) ∙ sym test)

pub same_of : (a b : ℕ) → true ≡ nat_eq a b → a ≡ b
same_of a b test = (Decides-eqb a b).0 (sym test)

pub other_of : (a b : ℕ) → false ≡ nat_eq a b → a ≢ b
other_of a b test e = false≢true (test ∙ eq_true a b e)

-- and the other way round
pub Fills-join : (edges : List Edge) (joins : List Join) (legs : List Leg) (leg : Leg) (own later : List ℕ) → FillsLeg edges joins leg own
    → Fills edges joins legs later → Fills edges joins (legs ++ leg ∷ []) (own ++ later)
Fills-join edges joins [] leg own later fill none = ([], own, refl, fill, ap (λ xs. own ++ xs) none ∙ append-nil own)
Fills-join edges joins (first ∷ legs) leg own later fill (front, last, fills, here, is) =
    (own ++ front, last, Fills-join edges joins legs leg own front fill fills, here, ap (λ xs. own ++ xs) is ∙ sym (append_assoc own front last))

-- the whole way is the only part at first
pub Fills-first : (edges : List Edge) (joins : List Join) (a b : ℕ) (legs : List Leg) (way rest : List ℕ) → legs ≡ Between a b ∷ [] → way ≡ []
    → Fills edges joins legs rest → IsTreeWay edges joins a b (way ++ rest)
Fills-first edges joins a b legs way rest only nothing fills = start (subst (λ ls. Fills edges joins ls rest) only fills)
  where
    start : Fills edges joins (Between a b ∷ []) rest → IsTreeWay edges joins a b (way ++ rest)
    start (front, own, none, fill, is) =
        subst (IsTreeWay edges joins a b) (sym (ap (λ xs. xs ++ rest) nothing ∙ is ∙ ap (λ xs. xs ++ own) none)) fill

-- what was filled before a part was taken
pub Fills-taken : (edges : List Edge) (joins : List Join) (a b : ℕ) (whole legs left : List Leg) (leg : Leg) (way written : List ℕ)
    → whole ≡ legs ++ leg ∷ [] → IsTaken edges joins legs leg way left written
    → ((rest : List ℕ) → Fills edges joins whole rest → IsTreeWay edges joins a b (way ++ rest))
    → (rest : List ℕ) → Fills edges joins left rest → IsTreeWay edges joins a b (written ++ rest)
Fills-taken edges joins a b whole legs left leg way written is taken fills rest more =
    let it = taken.fills rest more in
    subst (IsTreeWay edges joins a b) (sym it.4)
    (fills (it.0 ++ it.1) (subst (λ ls. Fills edges joins ls (it.0 ++ it.1)) (sym is) (Fills-join edges joins legs leg it.0 it.1 it.2 it.3)))

-- nothing is left
pub Fills-end : (edges : List Edge) (joins : List Join) (a b : ℕ) (legs : List Leg) (way : List ℕ) → legs ≡ []
    → ((rest : List ℕ) → Fills edges joins legs rest → IsTreeWay edges joins a b (way ++ rest)) → IsTreeWay edges joins a b way
Fills-end edges joins a b legs way none fills =
    subst (IsTreeWay edges joins a b) (append-nil way) (fills [] (subst (λ ls. Fills edges joins ls []) (sym none) refl))
