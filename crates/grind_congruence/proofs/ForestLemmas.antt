-- Trees of classes, as joins are made.
use Rattle.std.specs.Prelude.{◌≡◌, ◌≢◌, ℕ, zero, suc, ◌+◌, ◌<◌, ◌≤◌, Bool, true, false, cond, nat_eq, List, [], ◌∷◌, ◌++◌, Option, Some, None, length, take, drop, slice_get, slice_index_or, set, ◌⊎◌, refl}
use Rattle.std.proofs.Common.{arith, sym, ap, ◌∙◌, subst, inl, inr, get_or}
use Rattle.std.proofs.lemmas.Bool.{cases_eq}
use Rattle.std.proofs.lemmas.Bool.Decides.{Decides-eqb}
use Rattle.std.proofs.lemmas.Option.{same_Some, slice_get_within, get_or_from_slice_get}
use Rattle.std.proofs.lemmas.List.{length-append, take-append-drop, take-append-le, take-take, take_all, get_or-set_same, get_or-set_other}
use Rattle.grind_congruence.specs.declared.edge.Edge.{Edge}
use Rattle.grind_congruence.specs.declared.forest.Join.{Join}
use Rattle.grind_classes.specs.Classes.{IsActive, AreTogether}
use Rattle.grind_congruence.specs.Edges.{Passes, Leads, Joins, AreClassesOf}
use Rattle.grind_congruence.specs.Forest.{stepped, climbed, AreSameAt, IsNeverGone, IsGoneAt, IsForest, AreFound, AreJoinedBy, IsJoinOf}
use Rattle.grind_congruence.proofs.EdgeLemmas.{Leads-append, Joins-all, active-left, active-right}

-- two numbers are one, or they are not
pub eq_true : (a b : ℕ) → a ≡ b → nat_eq a b ≡ true
eq_true a b e = (Decides-eqb a b).1 e

pub eq_false : (a b : ℕ) → a ≢ b → nat_eq a b ≡ false
eq_false a b other = not_true (nat_eq a b) (λ e. other ((Decides-eqb a b).0 e))
  where
    not_true : (t : Bool) → (t ≡ true → ⊥) → t ≡ false
    not_true true none = absurd (none refl)
    not_true false none = refl

-- a step
pub stepped_gone : (n : ℕ) (join : Join) → n ≡ join.gone → stepped n join ≡ join.kept
stepped_gone n join is = ap (λ b. cond b join.kept n) (eq_true n join.gone is)

pub stepped_other : (n : ℕ) (join : Join) → n ≢ join.gone → stepped n join ≡ n
stepped_other n join other = ap (λ b. cond b join.kept n) (eq_false n join.gone other)

-- steps one after another
pub climbed-append : (n : ℕ) (first second : List Join) → climbed n (first ++ second) ≡ climbed (climbed n first) second
climbed-append n [] second = refl
climbed-append n (join ∷ first) second = climbed-append (stepped n join) first second

-- an item of a list
pub item_at : {A : Type 0} (xs : List A) (k : ℕ) → k < length xs → (x : A) × (slice_get xs k ≡ Some x)
item_at [] k within = absurd (omega (arith, within))
item_at (x ∷ xs) zero within = (x, refl)
item_at (x ∷ xs) (suc k) within = item_at xs k (omega (arith, within))

pub take_next : {A : Type 0} (xs : List A) (k : ℕ) (x : A) → slice_get xs k ≡ Some x → take (k + 1) xs ≡ take k xs ++ x ∷ []
take_next [] k x stands = absurd cc
take_next (y ∷ xs) zero x stands = ap (λ z. z ∷ []) (same_Some y x stands)
take_next (y ∷ xs) (suc k) x stands =
    let same : suc k + 1 ≡ suc (k + 1) = omega arith in
    ap (λ n. take n (y ∷ xs)) same ∙ ap (λ zs. y ∷ zs) (take_next xs k x stands)

pub get_front : {A : Type 0} (xs : List A) (n k : ℕ) (x : A) → slice_get (take n xs) k ≡ Some x → (k < n) × (slice_get xs k ≡ Some x)
get_front [] zero k x stands = absurd cc
get_front [] (suc n) k x stands = absurd cc
get_front (y ∷ xs) zero k x stands = absurd cc
get_front (y ∷ xs) (suc n) zero x stands = (omega arith, stands)
get_front (y ∷ xs) (suc n) (suc k) x stands = let rest = get_front xs n k x stands in (omega (arith, rest.0), rest.1)

pub climbed_next : (joins : List Join) (n k : ℕ) (join : Join) → slice_get joins k ≡ Some join
    → climbed n (take (k + 1) joins) ≡ stepped (climbed n (take k joins)) join
climbed_next joins n k join stands = ap (climbed n) (take_next joins k join stands) ∙ climbed-append n (take k joins) (join ∷ [])

-- what is in one tree stays there
pub climbed_later : (joins : List Join) (n k m : ℕ) → k ≤ m → climbed n (take m joins) ≡ climbed (climbed n (take k joins)) (drop k (take m joins))
climbed_later joins n k m order =
    ap (climbed n) (sym (take-append-drop k (take m joins))) ∙ climbed-append n (take k (take m joins)) (drop k (take m joins))
    ∙ ap (λ js. climbed (climbed n js) (drop k (take m joins))) (take-take k m joins order)

pub same_later : (joins : List Join) (k m a b : ℕ) → k ≤ m → AreSameAt joins k a b → AreSameAt joins m a b
same_later joins k m a b order same =
    climbed_later joins a k m order ∙ ap (λ n. climbed n (drop k (take m joins))) same ∙ sym (climbed_later joins b k m order)

pub same_whole : (joins : List Join) (k a b : ℕ) → AreSameAt joins k a b → climbed a joins ≡ climbed b joins
same_whole joins k a b same =
    ap (climbed a) (sym (take-append-drop k joins)) ∙ climbed-append a (take k joins) (drop k joins)
    ∙ ap (λ n. climbed n (drop k joins)) same
    ∙ sym (climbed-append b (take k joins) (drop k joins)) ∙ ap (climbed b) (take-append-drop k joins)

-- a root that lost its place is never a root again
pub never_again : (joins : List Join) (n place k : ℕ) (join : Join) → IsForest joins → slice_get joins place ≡ Some join → place < k
    → k ≤ length joins → climbed n (take k joins) ≢ join.gone
never_again joins n place zero join forest stands less within = λ e. absurd (omega (arith, less))
never_again joins n place (suc m) join forest stands less within =
    let last = item_at joins m (omega (arith, within)) in
    let step : climbed n (take (suc m) joins) ≡ stepped (climbed n (take m joins)) last.0 =
    ap (λ i. climbed n (take i joins)) (succ m) ∙ climbed_next joins n m last.0 last.1 in
    elim (cases_eq (climbed n (take m joins)) last.0.gone) [
      | inl is ↦ λ e. kept last (sym (stepped_gone (climbed n (take m joins)) last.0 is) ∙ sym step ∙ e)
      | inr other ↦ λ e. still last other (λ before. never_again joins n place m join forest stands before (omega (arith, within)))
          (sym (stepped_other (climbed n (take m joins)) last.0 other) ∙ sym step ∙ e)
    ]
  where
    succ : (i : ℕ) → suc i ≡ i + 1
    succ i = omega arith

    here : (last : (x : Join) × (slice_get joins m ≡ Some x)) → place ≡ m → last.0 ≡ join
    here last is = same_Some last.0 join (sym last.1 ∙ subst (λ i. slice_get joins i ≡ Some join) is stands)

    kept : (last : (x : Join) × (slice_get joins m ≡ Some x)) → last.0.kept ≡ join.gone → ⊥
    kept last e = elim (cases_eq place m) [
      | inl is ↦ forest.differ place join stands (sym e ∙ ap (λ (j : Join). j.kept) (here last is))
      | inr other ↦ (forest.once place m join last.0 (omega (arith, less, other)) stands last.1).1 (sym e)
    ]

    still : (last : (x : Join) × (slice_get joins m ≡ Some x)) → climbed n (take m joins) ≢ last.0.gone
        → (place < m → climbed n (take m joins) ≢ join.gone) → climbed n (take m joins) ≡ join.gone → ⊥
    still last other deeper e = elim (cases_eq place m) [
      | inl is ↦ other (e ∙ sym (ap (λ (j : Join). j.gone) (here last is)))
      | inr before ↦ deeper (omega (arith, less, before)) e
    ]

-- a root stays while it does not lose its place
pub stays_root : (joins : List Join) (n x count p : ℕ) → climbed n (take count joins) ≡ x → count ≤ p → p ≤ length joins
    → ((q : ℕ) (join : Join) → slice_get joins q ≡ Some join → q < p → join.gone ≢ x) → climbed n (take p joins) ≡ x
stays_root joins n x count zero root order within none = subst (λ i. climbed n (take i joins) ≡ x) (zero_is count order) root
  where
    zero_is : (i : ℕ) → i ≤ 0 → i ≡ 0
    zero_is i e = omega (arith, e)
stays_root joins n x count (suc m) root order within none = elim (cases_eq count (suc m)) [
  | inl is ↦ subst (λ i. climbed n (take i joins) ≡ x) is root
  | inr other ↦
      let last = item_at joins m (omega (arith, within)) in
      let before : climbed n (take m joins) ≡ x =
      stays_root joins n x count m root (omega (arith, order, other)) (omega (arith, within))
      (λ q join stands less. none q join stands (omega (arith, less))) in
      let not_gone : climbed n (take m joins) ≢ last.0.gone = λ e. none m last.0 last.1 (omega arith) (sym e ∙ before) in
      ap (λ i. climbed n (take i joins)) (succ m) ∙ climbed_next joins n m last.0 last.1
      ∙ stepped_other (climbed n (take m joins)) last.0 not_gone ∙ before
]
  where
    succ : (i : ℕ) → suc i ≡ i + 1
    succ i = omega arith

-- a root that never loses its place is the top
pub is_top : (joins : List Join) (n x count : ℕ) → climbed n (take count joins) ≡ x → count ≤ length joins → IsNeverGone joins x
    → climbed n joins ≡ x
is_top joins n x count root within never =
    ap (climbed n) (sym (take_all (length joins) joins (omega arith)))
    ∙ stays_root joins n x count (length joins) root within (omega arith) (λ q join stands less. never q join stands)

-- the top never loses its place
pub top_never_gone : (joins : List Join) (n : ℕ) → IsForest joins → IsNeverGone joins (climbed n joins)
top_never_gone joins n forest place join stands e =
    never_again joins n place (length joins) join forest stands (slice_get_within joins place join stands) (omega arith)
    (ap (climbed n) (take_all (length joins) joins (omega arith)) ∙ sym e)

-- one step up
pub one_up : (joins : List Join) (n x count place : ℕ) (join : Join) → IsForest joins → climbed n (take count joins) ≡ x → count ≤ length joins
    → slice_get joins place ≡ Some join → join.gone ≡ x
    → ((q : ℕ) (other : Join) → slice_get joins q ≡ Some other → other.gone ≡ x → q ≡ place)
    → (climbed n (take (place + 1) joins) ≡ join.kept) × (place + 1 ≤ length joins) × (count < place + 1)
one_up joins n x count place join forest root within stands gone only =
    let inside : place < length joins = slice_get_within joins place join stands in
    let later : count ≤ place = not_before (cases_lt place count) in
    let here : climbed n (take place joins) ≡ x = stays_root joins n x count place root later (omega (arith, inside))
    (λ q other standing less e. let is = only q other standing e in absurd (omega (arith, is, less))) in
    (climbed_next joins n place join stands ∙ stepped_gone (climbed n (take place joins)) join (here ∙ sym gone), omega (arith, inside), omega (arith, later))
  where
    not_before : (place < count) ⊎ (count ≤ place) → count ≤ place
    not_before (inl less) = absurd (never_again joins n place count join forest stands less within (root ∙ sym gone))
    not_before (inr order) = order

    cases_lt : (a b : ℕ) → (a < b) ⊎ (b ≤ a)
    cases_lt a zero = inr (omega arith)
    cases_lt zero (suc b) = inl (omega arith)
    cases_lt (suc a) (suc b) = elim (cases_lt a b) [
      | inl less ↦ inl (omega (arith, less))
      | inr order ↦ inr (omega (arith, order))
    ]

-- what stands in a list with one more item stands in the list or is that item
pub last_or : {A : Type 0} (xs : List A) (x : A) (k : ℕ) (y : A) → slice_get (xs ++ x ∷ []) k ≡ Some y
    → (slice_get xs k ≡ Some y) ⊎ ((k ≡ length xs) × (y ≡ x))
last_or [] x zero y stands = inr (refl, sym (same_Some x y stands))
last_or [] x (suc k) y stands = absurd cc
last_or (z ∷ xs) x zero y stands = inl stands
last_or (z ∷ xs) x (suc k) y stands = elim (last_or xs x k y stands) [
  | inl before ↦ inl before
  | inr here ↦ inr (omega (arith, here.0), here.1)
]

-- one more join
pub IsForest-push : (joins : List Join) (join : Join) → IsForest joins → IsNeverGone joins join.gone → IsNeverGone joins join.kept
    → join.gone ≢ join.kept → IsForest (joins ++ join ∷ [])
IsForest-push joins join forest gone kept differ = record {
  differ = λ place it stands. elim (last_or joins join place it stands) [
    | inl before ↦ forest.differ place it before
    | inr here ↦ subst (λ (j : Join). j.gone ≢ j.kept) (sym here.1) differ
  ];
  once = λ place later it other less stands there. elim (last_or joins join place it stands) [
    | inl before ↦ elim (last_or joins join later other there) [
      | inl after ↦ forest.once place later it other less before after
      | inr here ↦ (λ e. gone place it before (e ∙ ap (λ (j : Join). j.gone) here.1), λ e. kept place it before (e ∙ ap (λ (j : Join). j.kept) here.1))
    ]
    | inr here ↦
        let inside = slice_get_within (joins ++ join ∷ []) later other there in
        absurd (omega (arith, here.0, less, inside, length-append joins (join ∷ [])))
  ];
}

-- the first joins
pub IsForest-take : (joins : List Join) (n : ℕ) → IsForest joins → IsForest (take n joins)
IsForest-take joins n forest = record {
  differ = λ place join stands. forest.differ place join (get_front joins n place join stands).1;
  once = λ place later join other less stands there.
      forest.once place later join other less (get_front joins n place join stands).1 (get_front joins n later other there).1;
}

-- the places that are written
pub AreFound-push : (joins : List Join) (lost longer : List (Option ℕ)) (join : Join) → AreFound joins lost
    → ((m : ℕ) → slice_index_or longer m None ≡ slice_index_or lost m None) → join.gone < length longer
    → IsNeverGone joins join.gone → IsNeverGone joins join.kept → join.gone ≢ join.kept
    → AreFound (joins ++ join ∷ []) (set longer join.gone (Some (length joins)))
AreFound-push joins lost longer join found same within gone kept differ = record {
  forest = IsForest-push joins join found.forest gone kept differ;
  written = λ place it stands. elim (last_or joins join place it stands) [
    | inl before ↦
        get_or-set_other longer join.gone it.gone (Some (length joins)) None (gone place it before)
        ∙ same it.gone ∙ found.written place it before
    | inr here ↦
        subst (λ (j : Join). get_or (set longer join.gone (Some (length joins))) j.gone None ≡ Some place) (sym here.1)
        (get_or-set_same longer join.gone (Some (length joins)) None within ∙ ap Some (sym here.0))
  ];
}

pub AreFound-longer : (joins : List Join) (lost longer : List (Option ℕ)) → AreFound joins lost
    → ((m : ℕ) → slice_index_or longer m None ≡ slice_index_or lost m None) → AreFound joins longer
AreFound-longer joins lost longer found same =
    record { forest = found.forest; written = λ place join stands. same join.gone ∙ found.written place join stands }

pub AreFound-take : (joins : List Join) (lost : List (Option ℕ)) (n : ℕ) → AreFound joins lost → AreFound (take n joins) lost
AreFound-take joins lost n found = record {
  forest = IsForest-take joins n found.forest;
  written = λ place join stands. found.written place join (get_front joins n place join stands).1;
}

-- the place that is written is the only one
pub is_gone_at : (joins : List Join) (lost : List (Option ℕ)) (n place : ℕ) (join : Join) → AreFound joins lost
    → slice_index_or lost n None ≡ Some place → slice_get joins place ≡ Some join → join.gone ≡ n → IsGoneAt joins n place
is_gone_at joins lost n place join found entry stands is = record {
  join = join;
  stands = stands;
  gone = is;
  only = λ other it there e. same_Some other place
      (sym (found.written other it there) ∙ ap (λ m. slice_index_or lost m None) e ∙ entry);
}

-- where another node, or none, stands at the place that is written, the node is not gone
pub never_gone : (joins : List Join) (lost : List (Option ℕ)) (n : ℕ) → AreFound joins lost
    → ((place : ℕ) (join : Join) → slice_index_or lost n None ≡ Some place → slice_get joins place ≡ Some join → join.gone ≢ n)
    → IsNeverGone joins n
never_gone joins lost n found none place join stands e =
    none place join (ap (λ m. slice_index_or lost m None) (sym e) ∙ found.written place join stands) stands e

-- the edge at a place puts its two nodes into one tree
joins_ends : (edges : List Edge) (joins : List Join) (place : ℕ) (join : Join) → AreJoinedBy edges joins → slice_get joins place ≡ Some join
    → AreSameAt joins (place + 1) join.from join.to
joins_ends edges joins place join by stands =
    climbed_next joins join.from place join stands ∙ stepped_gone (climbed join.from (take place joins)) join (by.from place join stands)
    ∙ kept (cases_eq (climbed join.to (take place joins)) join.gone)
  where
    kept : (climbed join.to (take place joins) ≡ join.gone) ⊎ (climbed join.to (take place joins) ≢ join.gone)
        → join.kept ≡ climbed join.to (take (place + 1) joins)
    kept (inl is) = sym (climbed_next joins join.to place join stands ∙ stepped_gone (climbed join.to (take place joins)) join is)
    kept (inr other) = sym (climbed_next joins join.to place join stands
        ∙ stepped_other (climbed join.to (take place joins)) join other ∙ by.to place join stands)

pub passes_same : (edges : List Edge) (joins : List Join) (place k a b : ℕ) (edge : Edge) → AreJoinedBy edges joins
    → slice_get edges place ≡ Some edge → place < k → Passes edge a b → AreSameAt joins k a b
passes_same edges joins place k a b edge by stands less passes =
    let it = item_at joins place (omega (arith, slice_get_within edges place edge stands, by.count)) in
    let same : AreSameAt joins k it.0.from it.0.to =
    same_later joins (place + 1) k it.0.from it.0.to (omega (arith, less)) (joins_ends edges joins place it.0 by it.1) in
    over it.0 same (by.passes place edge it.0 stands it.1) passes
  where
    over : (join : Join) → AreSameAt joins k join.from join.to → Passes edge join.from join.to → Passes edge a b → AreSameAt joins k a b
    over join same (inl p) (inl q) = both (sym p.0 ∙ q.0) (sym p.1 ∙ q.1) same
      where
        both : join.from ≡ a → join.to ≡ b → AreSameAt joins k join.from join.to → AreSameAt joins k a b
        both e f s = subst (λ x. AreSameAt joins k x b) e (subst (λ y. AreSameAt joins k join.from y) f s)
    over join same (inl p) (inr q) = both (sym p.1 ∙ q.0) (sym p.0 ∙ q.1) (sym same)
      where
        both : join.to ≡ a → join.from ≡ b → AreSameAt joins k join.to join.from → AreSameAt joins k a b
        both e f s = subst (λ x. AreSameAt joins k x b) e (subst (λ y. AreSameAt joins k join.to y) f s)
    over join same (inr p) (inl q) = both (sym p.1 ∙ q.0) (sym p.0 ∙ q.1) (sym same)
      where
        both : join.to ≡ a → join.from ≡ b → AreSameAt joins k join.to join.from → AreSameAt joins k a b
        both e f s = subst (λ x. AreSameAt joins k x b) e (subst (λ y. AreSameAt joins k join.to y) f s)
    over join same (inr p) (inr q) = both (sym p.0 ∙ q.0) (sym p.1 ∙ q.1) same
      where
        both : join.from ≡ a → join.to ≡ b → AreSameAt joins k join.from join.to → AreSameAt joins k a b
        both e f s = subst (λ x. AreSameAt joins k x b) e (subst (λ y. AreSameAt joins k join.from y) f s)

-- a way along the first edges stays in one tree
pub leads_same : (edges : List Edge) (joins : List Join) (k : ℕ) (places : List ℕ) (a b : ℕ) → AreJoinedBy edges joins
    → Leads (take k edges) places a b → AreSameAt joins k a b
leads_same edges joins k [] a b by e = ap (λ n. climbed n (take k joins)) e
leads_same edges joins k (place ∷ places) a b by (edge, mid, stands, passes, rest) =
    let at = get_front edges k place edge stands in
    passes_same edges joins place k a mid edge by at.1 at.0 passes ∙ leads_same edges joins k places mid b by rest

pub joins_same : (edges : List Edge) (joins : List Join) (k a b : ℕ) → AreJoinedBy edges joins → Joins edges k a b → AreSameAt joins k a b
joins_same edges joins k a b by way = leads_same edges joins k way.0 a b by way.1

-- nodes of one tree have a way
pub same_leads : (edges : List Edge) (joins : List Join) (k a b : ℕ) → AreJoinedBy edges joins → k ≤ length joins → AreSameAt joins k a b
    → (places : List ℕ) × Leads edges places a b
same_leads edges joins zero a b by within same = ([], same)
same_leads edges joins (suc m) a b by within same =
    let it = item_at joins m (omega (arith, within)) in
    let edge = item_at edges m (omega (arith, within, by.count)) in
    let e_a : climbed a (take (suc m) joins) ≡ stepped (climbed a (take m joins)) it.0 =
    ap (λ i. climbed a (take i joins)) (succ m) ∙ climbed_next joins a m it.0 it.1 in
    let e_b : climbed b (take (suc m) joins) ≡ stepped (climbed b (take m joins)) it.0 =
    ap (λ i. climbed b (take i joins)) (succ m) ∙ climbed_next joins b m it.0 it.1 in
    let steps : stepped (climbed a (take m joins)) it.0 ≡ stepped (climbed b (take m joins)) it.0 = sym e_a ∙ same ∙ e_b in
    elim (cases_eq (climbed a (take m joins)) it.0.gone) [
      | inl ga ↦ elim (cases_eq (climbed b (take m joins)) it.0.gone) [
        | inl gb ↦ same_leads edges joins m a b by (omega (arith, within)) (ga ∙ sym gb)
        | inr ob ↦
            let first = same_leads edges joins m a it.0.from by (omega (arith, within)) (ga ∙ sym (by.from m it.0 it.1)) in
            let second = same_leads edges joins m it.0.to b by (omega (arith, within))
            (by.to m it.0 it.1 ∙ sym (stepped_gone (climbed a (take m joins)) it.0 ga) ∙ steps ∙ stepped_other (climbed b (take m joins)) it.0 ob) in (
              first.0 ++ m ∷ second.0,
              Leads-append edges first.0 (m ∷ second.0) a it.0.from b first.1
                  (edge.0, it.0.to, edge.1, by.passes m edge.0 it.0 edge.1 it.1, second.1),
            )
      ]
      | inr oa ↦ elim (cases_eq (climbed b (take m joins)) it.0.gone) [
        | inl gb ↦
            let first = same_leads edges joins m a it.0.to by (omega (arith, within))
            (sym (stepped_other (climbed a (take m joins)) it.0 oa) ∙ steps ∙ stepped_gone (climbed b (take m joins)) it.0 gb ∙ sym (by.to m it.0 it.1)) in
            let second = same_leads edges joins m it.0.from b by (omega (arith, within)) (by.from m it.0 it.1 ∙ sym gb) in (
              first.0 ++ m ∷ second.0,
              Leads-append edges first.0 (m ∷ second.0) a it.0.to b first.1
                  (edge.0, it.0.from, edge.1, swap edge.0 it.0 (by.passes m edge.0 it.0 edge.1 it.1), second.1),
            )
        | inr ob ↦ same_leads edges joins m a b by (omega (arith, within))
            (sym (stepped_other (climbed a (take m joins)) it.0 oa) ∙ steps ∙ stepped_other (climbed b (take m joins)) it.0 ob)
      ]
    ]
  where
    succ : (i : ℕ) → suc i ≡ i + 1
    succ i = omega arith

    swap : (edge : Edge) (join : Join) → Passes edge join.from join.to → Passes edge join.to join.from
    swap edge join (inl p) = inr (p.1, p.0)
    swap edge join (inr p) = inl (p.1, p.0)

-- one more edge with its join
pub AreJoinedBy-push : (edges : List Edge) (joins : List Join) (edge : Edge) (join : Join) → AreJoinedBy edges joins
    → IsJoinOf joins edge.left edge.right join → AreJoinedBy (edges ++ edge ∷ []) (joins ++ join ∷ [])
AreJoinedBy-push edges joins edge join by of = record {
  count = omega (arith, by.count, length-append edges (edge ∷ []), length-append joins (join ∷ []));
  passes = λ place e j stands there. elim (last_or joins join place j there) [
    | inl before ↦ elim (last_or edges edge place e stands) [
      | inl here ↦ by.passes place e j here before
      | inr last ↦ let inside = slice_get_within joins place j before in absurd (omega (arith, inside, last.0, by.count))
    ]
    | inr last ↦ elim (last_or edges edge place e stands) [
      | inl here ↦ let inside = slice_get_within edges place e here in absurd (omega (arith, inside, last.0, by.count))
      | inr both ↦ subst (λ (i : Edge). Passes i j.from j.to) (sym both.1) (subst (λ (k : Join). Passes edge k.from k.to) (sym last.1) (ends of.ends))
    ]
  ];
  from = λ place j there. elim (last_or joins join place j there) [
    | inl before ↦ ap (climbed j.from) (take-append-le place joins (join ∷ []) (less (slice_get_within joins place j before))) ∙ by.from place j before
    | inr last ↦ subst (λ (k : Join). climbed k.from (take place (joins ++ join ∷ [])) ≡ k.gone) (sym last.1)
        (ap (climbed join.from) (ap (λ i. take i (joins ++ join ∷ [])) last.0 ∙ front joins (join ∷ [])) ∙ sym of.gone)
  ];
  to = λ place j there. elim (last_or joins join place j there) [
    | inl before ↦ ap (climbed j.to) (take-append-le place joins (join ∷ []) (less (slice_get_within joins place j before))) ∙ by.to place j before
    | inr last ↦ subst (λ (k : Join). climbed k.to (take place (joins ++ join ∷ [])) ≡ k.kept) (sym last.1)
        (ap (climbed join.to) (ap (λ i. take i (joins ++ join ∷ [])) last.0 ∙ front joins (join ∷ [])) ∙ sym of.kept)
  ];
}
  where
    less : {i n : ℕ} → i < n → i ≤ n
    less e = omega (arith, e)

    front : (xs ys : List Join) → take (length xs) (xs ++ ys) ≡ xs
    front xs ys = take-append-le (length xs) xs ys (omega arith) ∙ take_all (length xs) xs (omega arith)

    ends : ((join.from ≡ edge.left) × (join.to ≡ edge.right)) ⊎ ((join.from ≡ edge.right) × (join.to ≡ edge.left)) → Passes edge join.from join.to
    ends (inl p) = inl (sym p.0, sym p.1)
    ends (inr p) = inr (sym p.0, sym p.1)

-- the first edges with their joins
pub AreJoinedBy-take : (edges : List Edge) (joins : List Join) (n : ℕ) → AreJoinedBy edges joins → AreJoinedBy (take n edges) (take n joins)
AreJoinedBy-take edges joins n by = record {
  count = lengths n joins edges by.count;
  passes = λ place edge join stands there.
      by.passes place edge join (get_front edges n place edge stands).1 (get_front joins n place join there).1;
  from = λ place join there.
      let at = get_front joins n place join there in
      ap (climbed join.from) (take-take place n joins (less at.0)) ∙ by.from place join at.1;
  to = λ place join there.
      let at = get_front joins n place join there in
      ap (climbed join.to) (take-take place n joins (less at.0)) ∙ by.to place join at.1;
}
  where
    less : {i m : ℕ} → i < m → i ≤ m
    less e = omega (arith, e)

    lengths : (k : ℕ) (xs : List Join) (ys : List Edge) → length xs ≡ length ys → length (take k xs) ≡ length (take k ys)
    lengths zero xs ys same = refl
    lengths (suc k) [] [] same = refl
    lengths (suc k) [] (y ∷ ys) same = absurd (omega (arith, same))
    lengths (suc k) (x ∷ xs) [] same = absurd (omega (arith, same))
    lengths (suc k) (x ∷ xs) (y ∷ ys) same = ap suc (lengths k xs ys (omega (arith, same)))

-- the item that stands at a place is what is read there
pub item_is : {A : Type 0} (xs : List A) (k : ℕ) (x d : A) → slice_get xs k ≡ Some x → x ≡ get_or xs k d
item_is xs k x d stands = sym (get_or_from_slice_get xs k x d stands)

pub item_read : {A : Type 0} (xs : List A) (k : ℕ) (x d : A) → slice_get xs k ≡ Some x → slice_get xs k ≡ Some (get_or xs k d)
item_read xs k x d stands = stands ∙ ap Some (item_is xs k x d stands)

-- the join of two nodes that are in different classes is between different roots
pub joins_two : (lists : List (List ℕ)) (edges : List Edge) (joins : List Join) (a b : ℕ) (join : Join) → AreClassesOf lists edges
    → AreJoinedBy edges joins → IsActive lists a → IsActive lists b → (AreTogether lists a b → ⊥) → IsJoinOf joins a b join
    → join.gone ≢ join.kept
joins_two lists edges joins a b join classes by first second apart of e = apart (together of.ends)
  where
    whole : (n : ℕ) → climbed n (take (length joins) joins) ≡ climbed n joins
    whole n = ap (climbed n) (take_all (length joins) joins (omega arith))

    meets : climbed join.from joins ≡ climbed join.to joins
    meets = sym of.gone ∙ e ∙ of.kept

    way : (x y : ℕ) → climbed x joins ≡ climbed y joins → (places : List ℕ) × Leads edges places x y
    way x y same = same_leads edges joins (length joins) x y by (omega arith) (whole x ∙ same ∙ sym (whole y))

    led : (x y : ℕ) → x ≡ a → y ≡ b → climbed x joins ≡ climbed y joins → AreTogether lists a b
    led x y e_x e_y same =
        (classes.led a b first second).1 ((Joins-all edges a b).1 (way a b (subst (λ i. climbed i joins ≡ climbed b joins) e_x
        (subst (λ j. climbed x joins ≡ climbed j joins) e_y same))))

    together : ((join.from ≡ a) × (join.to ≡ b)) ⊎ ((join.from ≡ b) × (join.to ≡ a)) → AreTogether lists a b
    together (inl p) = led join.from join.to p.0 p.1 meets
    together (inr p) = led join.to join.from p.1 p.0 (sym meets)

-- two nodes that are together are in one tree
pub together_joined : (lists : List (List ℕ)) (edges : List Edge) (joins : List Join) (a b : ℕ) → AreClassesOf lists edges
    → AreJoinedBy edges joins → AreTogether lists a b → climbed a joins ≡ climbed b joins
together_joined lists edges joins a b classes by together =
    same_whole joins (length edges) a b (joins_same edges joins (length edges) a b by
    ((classes.led a b (active-left lists a b together) (active-right lists a b together)).0 together))
