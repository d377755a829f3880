-- Marks as a closure grows and goes back.
use Rattle.std.specs.Prelude.{◌≡◌, ℕ, zero, suc, ◌<◌, ◌≤◌, List, [], ◌∷◌, ◌++◌, Some, length, map, take, slice_get, refl}
use Rattle.std.proofs.Common.{arith, sym, ap, ◌∙◌, subst, get_or}
use Rattle.std.proofs.lemmas.Option.{same_Some}
use Rattle.std.proofs.lemmas.List.{length-take-le, length-append}
use Rattle.grind_classes.specs.Classes.{Grouping}
use Rattle.grind_congruence.specs.declared.edge.Edge.{Edge}
use Rattle.grind_congruence.specs.declared.view.ClosureView.{ClosureView}
use Rattle.grind_congruence.specs.declared.view.Noted.{Noted}
use Rattle.grind_congruence.specs.Table.{IsLonger, AgendaData}
use Rattle.grind_congruence.specs.Marks.{IsBefore, AreBefore, AreAfter, AreInOrder, noted_now, cut, State, view_of, state_at, states, views, IsWhole, AreWhole, IsGrown, IsKept}
use Rattle.grind_congruence.proofs.TableLemmas.{longer_itself, longer_length, longer_take}

-- before is transitive
through : (a b d : Noted) → IsBefore a b → IsBefore b d → IsBefore a d
through a b d first second = record {
  edges = omega (arith, first.edges, second.edges);
  keys = omega (arith, first.keys, second.keys);
  applications = omega (arith, first.applications, second.applications);
  work = omega (arith, first.work, second.work);
}

itself : (a : Noted) → IsBefore a a
itself a = record { edges = omega arith; keys = omega arith; applications = omega arith; work = omega arith }

pub AreBefore-more : (marks : List Noted) (top more : Noted) → IsBefore top more → AreBefore marks top → AreBefore marks more
AreBefore-more [] top more order before = tt
AreBefore-more (noted ∷ marks) top more order before = (through noted top more before.0 order, AreBefore-more marks top more order before.1)

pub AreBefore-push : (marks : List Noted) (top : Noted) → AreBefore marks top → AreBefore (marks ++ top ∷ []) top
AreBefore-push [] top before = (itself top, tt)
AreBefore-push (noted ∷ marks) top before = (before.0, AreBefore-push marks top before.1)

AreAfter-push : (low : Noted) (marks : List Noted) (top : Noted) → AreAfter low marks → IsBefore low top → AreAfter low (marks ++ top ∷ [])
AreAfter-push low [] top after order = (order, tt)
AreAfter-push low (noted ∷ marks) top after order = (after.0, AreAfter-push low marks top after.1 order)

pub AreInOrder-push : (marks : List Noted) (top : Noted) → AreInOrder marks → AreBefore marks top → AreInOrder (marks ++ top ∷ [])
AreInOrder-push [] top order before = (tt, tt)
AreInOrder-push (noted ∷ marks) top order before =
    (AreAfter-push noted marks top order.0 before.0, AreInOrder-push marks top order.1 before.1)

-- the marks before one
AreAfter-take : (low : Noted) (marks : List Noted) (k : ℕ) → AreAfter low marks → AreAfter low (take k marks)
AreAfter-take low marks zero after = tt
AreAfter-take low [] (suc k) after = tt
AreAfter-take low (noted ∷ marks) (suc k) after = (after.0, AreAfter-take low marks k after.1)

pub AreInOrder-take : (marks : List Noted) (k : ℕ) → AreInOrder marks → AreInOrder (take k marks)
AreInOrder-take marks zero order = tt
AreInOrder-take [] (suc k) order = tt
AreInOrder-take (noted ∷ marks) (suc k) order = (AreAfter-take noted marks k order.0, AreInOrder-take marks k order.1)

after_at : (low : Noted) (marks : List Noted) (k : ℕ) (mark : Noted) → slice_get marks k ≡ Some mark → AreAfter low marks → IsBefore low mark
after_at low [] k mark stands after = absurd cc
after_at low (noted ∷ marks) zero mark stands after = subst (IsBefore low) (same_Some noted mark stands) after.0
after_at low (noted ∷ marks) (suc k) mark stands after = after_at low marks k mark stands after.1

pub AreBefore-take : (marks : List Noted) (k : ℕ) (mark : Noted) → slice_get marks k ≡ Some mark → AreInOrder marks
    → AreBefore (take k marks) mark
AreBefore-take marks zero mark stands order = tt
AreBefore-take [] (suc k) mark stands order = tt
AreBefore-take (noted ∷ marks) (suc k) mark stands order =
    (after_at noted marks k mark stands order.0, AreBefore-take marks k mark stands order.1)

pub before_at : (marks : List Noted) (top : Noted) (k : ℕ) (mark : Noted) → slice_get marks k ≡ Some mark → AreBefore marks top → IsBefore mark top
before_at [] top k mark stands before = absurd cc
before_at (noted ∷ marks) top zero mark stands before = subst (λ m. IsBefore m top) (same_Some noted mark stands) before.0
before_at (noted ∷ marks) top (suc k) mark stands before = before_at marks top k mark stands before.1

-- what grew has at least as much of everything
pub noted_later : (edges more : List Edge) (agenda later : AgendaData) → IsGrown edges agenda more later
    → IsBefore (noted_now edges agenda) (noted_now more later)
noted_later edges more agenda later grown = record {
  edges = longer_length edges more grown.edges_grow;
  keys = longer_length agenda.table later.table grown.table;
  applications = longer_length agenda.applications later.applications grown.applications;
  work = longer_length agenda.work later.work grown.work;
}

-- what was noted of what grew since
pub state_at-grown : (lists : List (List ℕ)) (edges more : List Edge) (agenda later : AgendaData) (noted : Noted) → IsGrown edges agenda more later
    → IsBefore noted (noted_now edges agenda) → state_at lists more later noted ≡ state_at lists edges agenda noted
state_at-grown lists edges more agenda later noted grown before =
    let es = longer_take edges more noted.edges before.edges grown.edges_grow in
    let ks = longer_take agenda.table later.table noted.keys before.keys grown.table in
    let its = longer_take agenda.applications later.applications noted.applications before.applications grown.applications in
    let ws = longer_take agenda.work later.work noted.work before.work grown.work in
    λ i. record {
      lists = lists;
      edges = es i;
      agenda = record { table = ks i; applications = its i; work = ws i; cursor = noted.cursor };
    }

pub states-grown : (marked : List (List (List ℕ))) (edges more : List Edge) (agenda later : AgendaData) (marks : List Noted)
    → IsGrown edges agenda more later → AreBefore marks (noted_now edges agenda)
    → states marked more later marks ≡ states marked edges agenda marks
states-grown [] edges more agenda later marks grown before = refl
states-grown (lists ∷ marked) edges more agenda later [] grown before = refl
states-grown (lists ∷ marked) edges more agenda later (noted ∷ marks) grown before =
    ap (λ (it : State). it ∷ states marked more later marks) (state_at-grown lists edges more agenda later noted grown before.0)
    ∙ ap (λ (its : List State). state_at lists edges agenda noted ∷ its) (states-grown marked edges more agenda later marks grown before.1)

pub views-grown : (marked : List (List (List ℕ))) (edges more : List Edge) (agenda later : AgendaData) (marks : List Noted)
    → IsGrown edges agenda more later → AreBefore marks (noted_now edges agenda)
    → views marked more later marks ≡ views marked edges agenda marks
views-grown marked edges more agenda later marks grown before = ap (map view_of) (states-grown marked edges more agenda later marks grown before)

-- what grows by nothing
pub grown_itself : (edges : List Edge) (agenda : AgendaData) → IsGrown edges agenda edges agenda
grown_itself edges agenda = record {
  edges_grow = longer_itself edges;
  table = longer_itself agenda.table;
  applications = longer_itself agenda.applications;
  work = longer_itself agenda.work;
}

-- what is whole is what it was when nothing was taken away
whole_now : (lists : List (List ℕ)) (edges : List Edge) (agenda : AgendaData)
    → state_at lists edges agenda (noted_now edges agenda) ≡ record { lists = lists; edges = edges; agenda = agenda }
whole_now lists edges agenda =
    let es = longer_itself edges in
    let ks = longer_itself agenda.table in
    let its = longer_itself agenda.applications in
    let ws = longer_itself agenda.work in
    λ i. record { lists = lists; edges = es i; agenda = record { table = ks i; applications = its i; work = ws i; cursor = agenda.cursor } }

-- one more mark
pub states-mark : (marked : List (List (List ℕ))) (edges : List Edge) (agenda : AgendaData) (marks : List Noted) (lists : List (List ℕ))
    → length marked ≡ length marks
    → states (marked ++ lists ∷ []) edges agenda (marks ++ noted_now edges agenda ∷ [])
    ≡ states marked edges agenda marks ++ record { lists = lists; edges = edges; agenda = agenda } ∷ []
states-mark [] edges agenda [] lists count = ap (λ (it : State). it ∷ []) (whole_now lists edges agenda)
states-mark [] edges agenda (noted ∷ marks) lists count = absurd (omega (arith, count))
states-mark (first ∷ marked) edges agenda [] lists count = absurd (omega (arith, count))
states-mark (first ∷ marked) edges agenda (noted ∷ marks) lists count =
    ap (λ (its : List State). state_at first edges agenda noted ∷ its) (states-mark marked edges agenda marks lists (omega (arith, count)))

map_push : (its : List State) (it : State) → map view_of (its ++ it ∷ []) ≡ map view_of its ++ view_of it ∷ []
map_push [] it = refl
map_push (first ∷ its) it = ap (λ (vs : List ClosureView). view_of first ∷ vs) (map_push its it)

pub views-mark : (marked : List (List (List ℕ))) (edges : List Edge) (agenda : AgendaData) (marks : List Noted) (lists : List (List ℕ))
    → length marked ≡ length marks
    → views (marked ++ lists ∷ []) edges agenda (marks ++ noted_now edges agenda ∷ [])
    ≡ views marked edges agenda marks ++ view_of (record { lists = lists; edges = edges; agenda = agenda }) ∷ []
views-mark marked edges agenda marks lists count =
    ap (map view_of) (states-mark marked edges agenda marks lists count)
    ∙ map_push (states marked edges agenda marks) (record { lists = lists; edges = edges; agenda = agenda })

-- the marks before one
pub states-take : (marked : List (List (List ℕ))) (edges : List Edge) (agenda : AgendaData) (marks : List Noted) (k : ℕ)
    → states (take k marked) edges agenda (take k marks) ≡ take k (states marked edges agenda marks)
states-take marked edges agenda marks zero = refl
states-take [] edges agenda marks (suc k) = refl
states-take (lists ∷ marked) edges agenda [] (suc k) = refl
states-take (lists ∷ marked) edges agenda (noted ∷ marks) (suc k) =
    ap (λ (its : List State). state_at lists edges agenda noted ∷ its) (states-take marked edges agenda marks k)

map_take : (its : List State) (k : ℕ) → map view_of (take k its) ≡ take k (map view_of its)
map_take its zero = refl
map_take [] (suc k) = refl
map_take (first ∷ its) (suc k) = ap (λ (vs : List ClosureView). view_of first ∷ vs) (map_take its k)

-- and one of them
pub states-at : (marked : List (List (List ℕ))) (edges : List Edge) (agenda : AgendaData) (marks : List Noted) (k : ℕ) (lists : List (List ℕ))
    (mark : Noted) → slice_get marked k ≡ Some lists → slice_get marks k ≡ Some mark
    → slice_get (states marked edges agenda marks) k ≡ Some (state_at lists edges agenda mark)
states-at [] edges agenda marks k lists mark here there = absurd cc
states-at (first ∷ marked) edges agenda [] k lists mark here there = absurd cc
states-at (first ∷ marked) edges agenda (noted ∷ marks) zero lists mark here there =
    ap (λ (ls : List (List ℕ)). Some (state_at ls edges agenda noted)) (same_Some first lists here)
    ∙ ap (λ (m : Noted). Some (state_at lists edges agenda m)) (same_Some noted mark there)
states-at (first ∷ marked) edges agenda (noted ∷ marks) (suc k) lists mark here there = states-at marked edges agenda marks k lists mark here there

map_at : (its : List State) (k : ℕ) (it : State) → slice_get its k ≡ Some it → slice_get (map view_of its) k ≡ Some (view_of it)
map_at [] k it stands = absurd cc
map_at (first ∷ its) zero it stands = ap (λ (s : State). Some (view_of s)) (same_Some first it stands)
map_at (first ∷ its) (suc k) it stands = map_at its k it stands

pub views-length : (marked : List (List (List ℕ))) (edges : List Edge) (agenda : AgendaData) (marks : List Noted) → length marked ≡ length marks
    → length (views marked edges agenda marks) ≡ length marks
views-length [] edges agenda [] count = refl
views-length [] edges agenda (noted ∷ marks) count = absurd (omega (arith, count))
views-length (lists ∷ marked) edges agenda [] count = absurd (omega (arith, count))
views-length (lists ∷ marked) edges agenda (noted ∷ marks) count = ap suc (views-length marked edges agenda marks (omega (arith, count)))

AreWhole-push : (its : List State) (it : State) → AreWhole its → IsWhole it → AreWhole (its ++ it ∷ [])
AreWhole-push [] it whole here = (here, tt)
AreWhole-push (first ∷ its) it whole here = (whole.0, AreWhole-push its it whole.1 here)

AreWhole-take : (its : List State) (k : ℕ) → AreWhole its → AreWhole (take k its)
AreWhole-take its zero whole = tt
AreWhole-take [] (suc k) whole = tt
AreWhole-take (first ∷ its) (suc k) whole = (whole.0, AreWhole-take its k whole.1)

AreWhole-at : (its : List State) (k : ℕ) (it : State) → slice_get its k ≡ Some it → AreWhole its → IsWhole it
AreWhole-at [] k it stands whole = absurd cc
AreWhole-at (first ∷ its) zero it stands whole = subst IsWhole (same_Some first it stands) whole.0
AreWhole-at (first ∷ its) (suc k) it stands whole = AreWhole-at its k it stands whole.1

-- what is kept where classes change, and edges and the agenda may grow
pub IsKept-grown : (old new : Grouping) (edges more : List Edge) (agenda later : AgendaData) (marks : List Noted) → IsKept old edges agenda marks
    → new.marked ≡ old.marked → IsGrown edges agenda more later → IsWhole (record { lists = new.lists; edges = more; agenda = later })
    → IsKept new more later marks
IsKept-grown old new edges more agenda later marks kept same grown whole = record {
  present = whole;
  count = ap (λ (vs : List (List (List ℕ))). length vs) same ∙ kept.count;
  before = AreBefore-more marks (noted_now edges agenda) (noted_now more later) (noted_later edges more agenda later grown) kept.before;
  order = kept.order;
  whole = subst AreWhole (sym (states-grown old.marked edges more agenda later marks grown kept.before)
      ∙ ap (λ (vs : List (List (List ℕ))). states vs more later marks) (sym same)) kept.whole;
}

-- and where a mark is set
pub IsKept-mark : (old new : Grouping) (edges : List Edge) (agenda : AgendaData) (marks : List Noted) → IsKept old edges agenda marks
    → new.marked ≡ old.marked ++ old.lists ∷ [] → new.lists ≡ old.lists → IsKept new edges agenda (marks ++ noted_now edges agenda ∷ [])
IsKept-mark old new edges agenda marks kept marked lists = record {
  present = subst (λ (ls : List (List ℕ)). IsWhole (record { lists = ls; edges = edges; agenda = agenda })) (sym lists) kept.present;
  count = omega (arith, ap (λ (vs : List (List (List ℕ))). length vs) marked, length-append old.marked (old.lists ∷ []), length-append marks (noted_now edges agenda ∷ []), kept.count);
  before = AreBefore-push marks (noted_now edges agenda) kept.before;
  order = AreInOrder-push marks (noted_now edges agenda) kept.order kept.before;
  whole = subst AreWhole (sym (states-mark old.marked edges agenda marks old.lists kept.count)
      ∙ ap (λ (vs : List (List (List ℕ))). states vs edges agenda (marks ++ noted_now edges agenda ∷ [])) (sym marked))
      (AreWhole-push (states old.marked edges agenda marks) (record { lists = old.lists; edges = edges; agenda = agenda }) kept.whole kept.present);
}

-- what a mark in force stands for
pub get_stands : {A : Type 0} (xs : List A) (k : ℕ) (d : A) → k < length xs → slice_get xs k ≡ Some (get_or xs k d)
get_stands [] k d within = absurd (omega (arith, within))
get_stands (x ∷ xs) zero d within = refl
get_stands (x ∷ xs) (suc k) d within = get_stands xs k d (omega (arith, within))

in_range : {A : Type 0} (xs : List A) (i : ℕ) (x : A) → slice_get xs i ≡ Some x → i < length xs
in_range [] i x e = absurd cc
in_range (y ∷ xs) zero x e = omega arith
in_range (y ∷ xs) (suc i) x e = let h = in_range xs i x e in omega (arith, h)

-- a list begins with its first items
longer_first : {A : Type 0} (xs : List A) (n : ℕ) → n ≤ length xs → IsLonger (take n xs) xs
longer_first xs n within = ap (λ k. take k xs) (length-take-le n xs within)

-- what there was at a mark grew since
grown_since : (edges : List Edge) (agenda : AgendaData) (mark : Noted) → IsBefore mark (noted_now edges agenda)
    → IsGrown (take mark.edges edges) (cut mark agenda) edges agenda
grown_since edges agenda mark before = record {
  edges_grow = longer_first edges mark.edges before.edges;
  table = longer_first agenda.table mark.keys before.keys;
  applications = longer_first agenda.applications mark.applications before.applications;
  work = longer_first agenda.work mark.work before.work;
}

-- and it had as much as the mark noted
noted_then : (edges : List Edge) (agenda : AgendaData) (mark : Noted) → IsBefore mark (noted_now edges agenda)
    → IsBefore mark (noted_now (take mark.edges edges) (cut mark agenda))
noted_then edges agenda mark before = record {
  edges = omega (arith, length-take-le mark.edges edges before.edges);
  keys = omega (arith, length-take-le mark.keys agenda.table before.keys);
  applications = omega (arith, length-take-le mark.applications agenda.applications before.applications);
  work = omega (arith, length-take-le mark.work agenda.work before.work);
}

-- the marks before the one that is undone
module _ (old new : Grouping) (edges : List Edge) (agenda : AgendaData) (marks : List Noted) (k : ℕ) (mark : Noted)
    (kept : IsKept old edges agenda marks) (stands : slice_get marks k ≡ Some mark) (lists : slice_get old.marked k ≡ Some new.lists)
    (marked : new.marked ≡ take k old.marked) where
  abbrev inside_now : IsBefore mark (noted_now edges agenda)
  inside_now = before_at marks (noted_now edges agenda) k mark stands kept.before

  abbrev earlier : AreBefore (take k marks) (noted_now (take mark.edges edges) (cut mark agenda))
  earlier =
      AreBefore-more (take k marks) mark (noted_now (take mark.edges edges) (cut mark agenda)) (noted_then edges agenda mark inside_now)
      (AreBefore-take marks k mark stands kept.order)

  abbrev states_left : states new.marked (take mark.edges edges) (cut mark agenda) (take k marks) ≡ take k (states old.marked edges agenda marks)
  states_left =
      ap (λ (vs : List (List (List ℕ))). states vs (take mark.edges edges) (cut mark agenda) (take k marks)) marked
      ∙ sym (states-grown (take k old.marked) (take mark.edges edges) edges (cut mark agenda) agenda (take k marks) (grown_since edges agenda mark inside_now) earlier)
      ∙ states-take old.marked edges agenda marks k

  abbrev state_is : slice_get (states old.marked edges agenda marks) k ≡ Some (state_at new.lists edges agenda mark)
  state_is = states-at old.marked edges agenda marks k new.lists mark lists stands

  -- what is kept after undo
  pub IsKept-undo : IsKept new (take mark.edges edges) (cut mark agenda) (take k marks)
  IsKept-undo =
      let inside : k < length marks = in_range marks k mark stands in
      let less : k ≤ length marks = omega (arith, inside) in
      let less_marked : k ≤ length old.marked = omega (arith, inside, kept.count) in
      record {
        present = AreWhole-at (states old.marked edges agenda marks) k (state_at new.lists edges agenda mark) state_is kept.whole;
        count = ap (λ (vs : List (List (List ℕ))). length vs) marked ∙ length-take-le k old.marked less_marked ∙ sym (length-take-le k marks less);
        before = earlier;
        order = AreInOrder-take marks k kept.order;
        whole = subst AreWhole (sym states_left) (AreWhole-take (states old.marked edges agenda marks) k kept.whole);
      }

  -- the views that are left after undo, and the one that is given back
  pub undone_views : (slice_get (views old.marked edges agenda marks) k ≡ Some (view_of (state_at new.lists edges agenda mark)))
      × (views new.marked (take mark.edges edges) (cut mark agenda) (take k marks) ≡ take k (views old.marked edges agenda marks))
  undone_views = (
    map_at (states old.marked edges agenda marks) k (state_at new.lists edges agenda mark) state_is,
    ap (map view_of) states_left ∙ map_take (states old.marked edges agenda marks) k,
  )
