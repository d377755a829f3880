-- Lists of partial matches that wait to be joined.
use Rattle.std.proofs.Common.{◌+◌, ◌≡◌, ◌⊎◌, inl, inr, ℕ, zero, suc, ◌<◌, ◌≤◌, max, arith, List, [], ◌∷◌, ◌++◌, Option, Some, None, length, slice_get, slice_set, refl, sym, ap, ◌∙◌, subst}
use Rattle.std.specs.Prelude.{Any, IsSome, MatchOption}
use Rattle.grind_classes.specs.Classes.{IsPartition}
use Rattle.grind_schemes.specs.declared.scheme.Scheme.{Scheme}
use Rattle.grind_schemes.specs.Schemes.{HasVar}
use Rattle.grind_schemes.proofs.SchemeLemmas.{any_first, any_rest, any_cases}
use Rattle.grind_ematch.specs.declared.partial.Partial.{Partial}
use Rattle.grind_ematch.specs.declared.waiting.Choice.{Choice}
use Rattle.grind_ematch.specs.Matches.{Scene, Meets, MeetEach}
use Rattle.grind_ematch.specs.Partials.{QueryData, Joins, Thins, MeetAll, MeetsSome, IsVarOf, IsVarIn, ListsSome, ListsAll}
use Rattle.grind_ematch.specs.Waiting.{Places, AreOf, taken_of, AllWait, Waits, NoneWaits, NoneWaitsBelow, Takes}
use Rattle.grind_ematch.proofs.Algebra.{Both, Represents-same, Represents-both, Represents-thin}
use Rattle.grind_ematch.proofs.SceneLemmas.{got_below}

some_same : {X : Type 0} (x y : X) → Some (Some x) ≡ Some (Some y) → x ≡ y
some_same x y e = cc

not_none : {X : Type 0} (x : X) → Some None ≡ Some (Some x) → ⊥
not_none x e = absurd cc

-- a list that waits at one more place
pub AllWait-push : (query : QueryData) (patterns : List Scheme) (places more : Places) (pattern : Scheme) (list : List Partial)
    → AllWait query patterns places → ListsSome query pattern list → more ≡ places ++ Some list ∷ []
    → AllWait query (patterns ++ pattern ∷ []) more
AllWait-push query patterns places more pattern list h own e =
    subst (λ (all : Places). AllWait query (patterns ++ pattern ∷ []) all) (sym e)
    (are_of patterns places h.0, taken_is patterns places h.0 ∙ h.1)
  where
    are_of : (ps : List Scheme) (xs : Places) → AreOf query ps xs → AreOf query (ps ++ pattern ∷ []) (xs ++ Some list ∷ [])
    are_of [] [] h = (own, tt)
    are_of [] (x ∷ xs) h = absurd h
    are_of (p ∷ ps) [] h = absurd h
    are_of (p ∷ ps) (x ∷ xs) h = (h.0, are_of ps xs h.1)

    taken_is : (ps : List Scheme) (xs : Places) → AreOf query ps xs
        → taken_of (ps ++ pattern ∷ []) (xs ++ Some list ∷ []) ≡ taken_of ps xs
    taken_is [] [] h = refl
    taken_is [] (x ∷ xs) h = absurd h
    taken_is (p ∷ ps) [] h = absurd h
    taken_is (p ∷ ps) (None ∷ xs) h = ap (λ (done : List Scheme). p ∷ done) (taken_is ps xs h.1)
    taken_is (p ∷ ps) (Some other ∷ xs) h = taken_is ps xs h.1

-- where no list waits, all were taken
all_taken : (query : QueryData) (patterns : List Scheme) (places : Places) → AreOf query patterns places → NoneWaits places
    → taken_of patterns places ≡ patterns
all_taken query [] places h none = refl
all_taken query (p ∷ ps) [] h none = absurd h
all_taken query (p ∷ ps) (None ∷ xs) h none =
    ap (λ (done : List Scheme). p ∷ done) (all_taken query ps xs h.1 (λ k waits. none (suc k) waits))
all_taken query (p ∷ ps) (Some list ∷ xs) h none = absurd (none 0 (list, refl))

-- how many lists wait
pub waiting_count : Places → ℕ
waiting_count [] = 0
waiting_count (None ∷ places) = waiting_count places
waiting_count (Some list ∷ places) = suc (waiting_count places)

pub fewer_wait : (old new : Places) (list : List Partial) → Takes old list new → waiting_count new < waiting_count old
unfolding waiting_count
fewer_wait old new list t =
    subst (λ (places : Places). waiting_count places < waiting_count old) (sym t.2) (at_place old t.0 t.1)
  where
    at_place : (places : Places) (k : ℕ) → slice_get places k ≡ Some (Some list)
        → waiting_count (slice_set places k None) < waiting_count places
    at_place [] k e = absurd cc
    at_place (None ∷ places) zero e = absurd (not_none list e)
    at_place (Some other ∷ places) zero e = omega arith
    at_place (None ∷ places) (suc k) e = at_place places k e
    at_place (Some other ∷ places) (suc k) e = let rest = at_place places k e in omega (arith, rest)

-- the patterns are met at once, with the greater generation
abbrev MeetBoth : Scene → List Scheme → Scheme → List ℕ → ℕ → Type 0
MeetBoth scene patterns pattern subst' g =
    (one : ℕ) × (other : ℕ) × MeetEach scene subst' patterns one × ((n : ℕ) × Meets scene subst' pattern n other)
    × (g ≡ max one other)

-- a list was taken that is one of this pattern
record IsTaken (query : QueryData) (patterns : List Scheme) (old new : Places) (list : List Partial) (pattern : Scheme) : Type 0 where
  pub own : ListsSome query pattern list
  pub rest : AreOf query patterns new
  pub vars : (variable : ℕ) → Any (HasVar variable) (taken_of patterns new)
      → Any (HasVar variable) (taken_of patterns old) ⊎ HasVar variable pattern
  pub to : (subst' : List ℕ) (g : ℕ) → MeetBoth query.scene (taken_of patterns old) pattern subst' g
      → MeetEach query.scene subst' (taken_of patterns new) g
  pub back : (subst' : List ℕ) (g : ℕ) → MeetEach query.scene subst' (taken_of patterns new) g
      → MeetBoth query.scene (taken_of patterns old) pattern subst' g

swap_max : (a b g : ℕ) → g ≡ max a b → g ≡ max b a
swap_max a b g e = omega arith

regroup : (a b c one g : ℕ) → one ≡ max a b → g ≡ max one c → g ≡ max a (max b c)
regroup a b c one g e f = omega arith

regroup_back : (a b c d g : ℕ) → d ≡ max b c → g ≡ max a d → g ≡ max (max a b) c
regroup_back a b c d g e f = omega arith

IsTaken-here : (query : QueryData) (p : Scheme) (ps : List Scheme) (list : List Partial) (xs : Places) → ListsSome query p list
    → AreOf query ps xs → IsTaken query (p ∷ ps) (Some list ∷ xs) (None ∷ xs) list p
IsTaken-here query p ps list xs own rest = record {
  own = own;
  rest = (tt, rest);
  vars = λ variable there. elim (any_cases (HasVar variable) p (taken_of ps xs) there) [ inl here ↦ inr here | inr later ↦ inl later ];
  to = λ subst' g m. (m.3.0, m.1, m.0, m.3.1, m.2, swap_max m.0 m.1 g m.4);
  back = λ subst' g m. (m.2, m.1, m.4, (m.0, m.3), swap_max m.1 m.2 g m.5);
}

IsTaken-behind : (query : QueryData) (p : Scheme) (ps : List Scheme) (list : List Partial) (xs ys : Places) (pattern : Scheme)
    → IsTaken query ps xs ys list pattern → IsTaken query (p ∷ ps) (None ∷ xs) (None ∷ ys) list pattern
IsTaken-behind query p ps list xs ys pattern h = record {
  own = h.own;
  rest = (tt, h.rest);
  vars = λ variable there. elim (any_cases (HasVar variable) p (taken_of ps ys) there) [
    | inl here ↦ inl (any_first (HasVar variable) p (taken_of ps xs) here)
    | inr later ↦ elim (h.vars variable later) [
      | inl before ↦ inl (any_rest (HasVar variable) p (taken_of ps xs) before)
      | inr now ↦ inr now
    ]
  ];
  to = λ subst' g m.
      let first = m.2 in
      let inside = h.to subst' (max first.2 m.1) (first.2, m.1, first.4, m.3, refl) in
      (first.0, first.1, max first.2 m.1, first.3, inside, regroup first.1 first.2 m.1 m.0 g first.5 m.4);
  back = λ subst' g m.
      let inside = h.back subst' m.2 m.4 in (
        max m.1 inside.0,
        inside.1,
        (m.0, m.1, inside.0, m.3, inside.2, refl),
        inside.3,
        regroup_back m.1 inside.0 inside.1 m.2 g inside.4 m.5,
      );
}

IsTaken-beside : (query : QueryData) (p : Scheme) (ps : List Scheme) (list other : List Partial) (xs ys : Places) (pattern : Scheme)
    → ListsSome query p other → IsTaken query ps xs ys list pattern
    → IsTaken query (p ∷ ps) (Some other ∷ xs) (Some other ∷ ys) list pattern
IsTaken-beside query p ps list other xs ys pattern own h = record {
  own = h.own;
  rest = (own, h.rest);
  vars = h.vars;
  to = h.to;
  back = h.back;
}

taken_at : (query : QueryData) (patterns : List Scheme) (places : Places) (k : ℕ) (list : List Partial) → AreOf query patterns places
    → slice_get places k ≡ Some (Some list) → (pattern : Scheme) × IsTaken query patterns places (slice_set places k None) list pattern
taken_at query [] [] k list h e = absurd cc
taken_at query [] (x ∷ xs) k list h e = absurd h
taken_at query (p ∷ ps) [] k list h e = absurd h
taken_at query (p ∷ ps) (None ∷ xs) zero list h e = absurd (not_none list e)
taken_at query (p ∷ ps) (Some other ∷ xs) zero list h e =
    let same : other ≡ list = some_same other list e in (
      p,
      subst (λ (it : List Partial). IsTaken query (p ∷ ps) (Some other ∷ xs) (None ∷ xs) it p) same
          (IsTaken-here query p ps other xs h.0 h.1),
    )
taken_at query (p ∷ ps) (None ∷ xs) (suc k) list h e =
    let rest = taken_at query ps xs k list h.1 e in
    (rest.0, IsTaken-behind query p ps list xs (slice_set xs k None) rest.0 rest.1)
taken_at query (p ∷ ps) (Some other ∷ xs) (suc k) list h e =
    let rest = taken_at query ps xs k list h.1 e in
    (rest.0, IsTaken-beside query p ps list other xs (slice_set xs k None) rest.0 h.0 rest.1)

-- what was joined so far, and what waits
pub record AreJoined (query : QueryData) (patterns : List Scheme) (places : Places) (found : List Partial) : Type 0 where
  pub waits : AreOf query patterns places
  pub joined : ListsAll query (taken_of patterns places) found

pub AreJoined-first : (query : QueryData) (patterns : List Scheme) (places : Places) (found : List Partial)
    → AllWait query patterns places → ListsAll query [] found → AreJoined query patterns places found
AreJoined-first query patterns places found h start = record {
  waits = h.0;
  joined = subst (λ (done : List Scheme). ListsAll query done found) (sym h.1) start;
}

pub AreJoined-next : (query : QueryData) (patterns : List Scheme) (old new : Places) (found list both thin : List Partial)
    → IsPartition query.scene.classes → Takes old list new → Joins found list both → Thins both thin
    → AreJoined query patterns old found → AreJoined query patterns new thin
unfolding MeetAll MeetsSome IsVarOf IsVarIn Both
AreJoined-next query patterns old new found list both thin partition t joins thins h =
    let at = taken_at query patterns old t.0 list h.waits t.1 in
    let taken = subst (λ (places : Places). IsTaken query patterns old places list at.0) (sym t.2) at.1 in
    let before = taken_of patterns old in
    let after = taken_of patterns new in
    let whole = Represents-both query (MeetAll query.scene before) (MeetsSome query.scene at.0) (IsVarOf before) (IsVarIn at.0)
    (IsVarOf after) found list both partition joins (λ variable w. taken.vars variable w) h.joined taken.own in
    let all = Represents-same query (Both (MeetAll query.scene before) (MeetsSome query.scene at.0)) (MeetAll query.scene after)
    (IsVarOf after) (IsVarOf after) both (λ subst' g m. taken.to subst' g m) (λ subst' g fits m within. taken.back subst' g m)
    (λ variable w. w) whole in
    record {
      waits = taken.rest;
      joined = Represents-thin query (MeetAll query.scene after) (IsVarOf after) both thin thins all;
    }

pub AreJoined-last : (query : QueryData) (patterns : List Scheme) (places : Places) (found : List Partial) → NoneWaits places
    → AreJoined query patterns places found → ListsAll query patterns found
AreJoined-last query patterns places found none h =
    subst (λ (done : List Scheme). ListsAll query done found) (all_taken query patterns places h.waits none) h.joined

-- none waits at the first places and the next, so none at all
pub none_next : (places : Places) (k : ℕ) (place : Option (List Partial)) → place ≡ None → slice_get places k ≡ Some place
    → NoneWaitsBelow k places → NoneWaitsBelow (k + 1) places
none_next places k place e is h j less waits = elim (below_or_same j k less) [
  | inl below ↦ h j below waits
  | inr same ↦ clash (subst (λ (i : ℕ). slice_get places i ≡ Some (Some waits.0)) same waits.1)
]
  where
    clash : slice_get places k ≡ Some (Some waits.0) → ⊥
    clash f = not_none waits.0 (sym (is ∙ ap (λ (it : Option (List Partial)). Some it) e) ∙ f)

    below_or_same : (a b : ℕ) → a < b + 1 → (a < b) ⊎ (a ≡ b)
    below_or_same zero zero l = inr refl
    below_or_same zero (suc b) l = inl (omega arith)
    below_or_same (suc a) zero l = absurd (omega arith)
    below_or_same (suc a) (suc b) l =
        elim (below_or_same a b (omega arith)) [ inl m ↦ inl (omega arith) | inr e ↦ inr (ap suc e) ]

pub none_all : (places : Places) (count : ℕ) → length places ≤ count → NoneWaitsBelow count places → NoneWaits places
none_all places count past h k waits =
    h k (far k (length places) count (got_below places k (Some waits.0) waits.1) past) waits
  where
    far : (a b c : ℕ) → a < b → b ≤ c → a < c
    far a b c l m = omega arith

-- a place that has a list
pub waits_at : (places : Places) (k : ℕ) (place : Option (List Partial)) → slice_get places k ≡ Some place → IsSome place
    → Waits places k
waits_at places k None e some = absurd cc
waits_at places k (Some list) e some = (list, e)

pub none_first : (places : Places) → NoneWaitsBelow 0 places
none_first places k less waits = omega (arith, less)

-- the best at the first places and the next
pub better_next : (places : Places) (k : ℕ) (place : Option (List Partial)) (before after : Option Choice)
    → slice_get places k ≡ Some place → MatchOption before (NoneWaitsBelow k places) (λ choice. Waits places choice.place)
    → MatchOption after ((before ≡ None) × (place ≡ None))
    (λ choice. (before ≡ Some choice) ⊎ ((choice.place ≡ k) × IsSome place))
    → MatchOption after (NoneWaitsBelow (k + 1) places) (λ choice. Waits places choice.place)
better_next places k place before None is h new =
    none_next places k place new.1 is
    (subst (λ (it : Option Choice). MatchOption it (NoneWaitsBelow k places) (λ choice. Waits places choice.place)) new.0 h)
better_next places k place before (Some choice) is h new = elim new [
  | inl same ↦ subst (λ (it : Option Choice). MatchOption it (NoneWaitsBelow k places) (λ choice. Waits places choice.place)) same h
  | inr now ↦ subst (Waits places) (sym now.0) (waits_at places k place is now.1)
]

-- the list that was taken from a place where one waits
pub takes_by : (old new : Places) (k : ℕ) (place : Option (List Partial)) → Waits old k → slice_get old k ≡ Some place
    → new ≡ slice_set old k None → MatchOption place (NoneWaits old) (λ list. Takes old list new)
takes_by old new k None waits e is = absurd (not_none waits.0 (sym e ∙ waits.1))
takes_by old new k (Some list) waits e is = (k, e, is)
