-- What an agenda says of classes, as nodes become active, classes merge and the work goes on.
use Rattle.std.specs.Prelude.{◌≡◌, ℕ, zero, suc, ◌+◌, ◌<◌, ◌≤◌, List, [], ◌∷◌, ◌++◌, Some, All, Contains, length, drop, slice_get, ◌⊎◌, ◌↔◌, refl}
use Rattle.std.specs.List.{AllZip}
use Rattle.std.proofs.Common.{arith, sym, ap, ◌∙◌, subst, inl, inr}
use Rattle.std.proofs.lemmas.Bool.{cases_eq}
use Rattle.std.proofs.lemmas.List.{length-append, drop-append-le}
use Rattle.std.proofs.lemmas.List.Elements.{All-weaker, Contains-append_left, Contains-append_right, Contains-push, Contains-push_cases}
use Rattle.std.proofs.lemmas.Option.{same_Some, slice_get_within}
use Rattle.grind_term_graph.specs.declared.node.Node.{Node}
use Rattle.grind_classes.specs.Classes.{members_of, IsIn, IsActive, AreTogether, IsPartition, IsMerge, joined}
use Rattle.grind_classes.specs.Trail.{AreJoinable}
use Rattle.grind_classes.proofs.ClassLemmas.{root_in}
use Rattle.grind_classes.proofs.ListLemmas.{Contains-more, Contains-nil, Contains-cases}
use Rattle.grind_classes.proofs.MergeLemmas.{IsIn-joined, joinable}
use Rattle.grind_congruence.specs.declared.application.Application.{Application}
use Rattle.grind_congruence.specs.Congruence.{Congruence, AreCongruent, Fits, IsAtRest, application_of}
use Rattle.grind_congruence.specs.Table.{IsRootOf, IsKeyOf, IsMatch, IsAt, IsTrueKey, IsCovered, IsLonger, IsSound, AgendaData, agenda_of, waiting, KeepsUp, busier, with_application, HasUsers, AreFoundAmong, IsEntered, AreMoved}
use Rattle.grind_congruence.proofs.EdgeLemmas.{slice_get-more}
use Rattle.grind_congruence.proofs.ForestLemmas.{last_or}
use Rattle.grind_congruence.proofs.TableLemmas.{AllZip-weaker, zip_together, longer_itself, longer_append, Contains-longer, one_key}

-- keys stay true while classes merge
IsMatch-weaker : (old new : List (List ℕ)) (node key : Node) → ((x y : ℕ) → AreTogether old x y → AreTogether new x y)
    → IsMatch old node key → IsMatch new node key
IsMatch-weaker old new node key together like = record {
  head = like.head;
  sort = like.sort;
  args = AllZip-weaker (AreTogether old) (AreTogether new) together key.args node.args like.args;
}

pub IsSound-lists : (old new : List (List ℕ)) (applications : List Application) (table : List (Node × ℕ))
    → ((x : ℕ) → IsActive old x → IsActive new x) → ((x y : ℕ) → AreTogether old x y → AreTogether new x y)
    → IsSound old applications table → IsSound new applications table
IsSound-lists old new applications table active together sound = record {
  active = λ place it at.
      let both = sound.active place it at in
      (active it.node both.0, All-weaker (IsActive old) (IsActive new) active it.term.args both.1);
  args = sound.args;
  keys = λ key m has.
      let own = sound.keys key m has in
      record { place = own.place; it = own.it; stands = own.stands; node = own.node; like = IsMatch-weaker old new own.it.term key together own.like };
  once = sound.once;
}

IsSound-push : (lists : List (List ℕ)) (applications : List Application) (table : List (Node × ℕ)) (it : Application)
    → IsActive lists it.node → All (IsActive lists) it.term.args → (it.term.args ≡ [] → ⊥) → IsSound lists applications table
    → IsSound lists (applications ++ it ∷ []) table
IsSound-push lists applications table it node args has sound = record {
  active = λ place i at. elim (last_or applications it place i at) [
    | inl before ↦ sound.active place i before
    | inr last ↦ subst (λ (j : Application). IsActive lists j.node × All (IsActive lists) j.term.args) (sym last.1) (node, args)
  ];
  args = λ place i at. elim (last_or applications it place i at) [
    | inl before ↦ sound.args place i before
    | inr last ↦ subst (λ (j : Application). j.term.args ≡ [] → ⊥) (sym last.1) has
  ];
  keys = λ key m there.
      let own = sound.keys key m there in
      record { place = own.place; it = own.it; stands = slice_get-more applications (it ∷ []) own.place own.it own.stands; node = own.node; like = own.like };
  once = sound.once;
}

-- what waits still waits where there is more to do
waits : (agenda : AgendaData) (more : List ℕ) (place : ℕ) → agenda.cursor ≤ length agenda.work → Contains (waiting agenda) place
    → Contains (drop agenda.cursor (agenda.work ++ more)) place
waits agenda more place within has =
    subst (λ (xs : List ℕ). Contains xs place) (sym (drop-append-le agenda.cursor agenda.work more within))
    (Contains-append_left (waiting agenda) more place has)

waits_now : (agenda : AgendaData) (more : List ℕ) (place : ℕ) → agenda.cursor ≤ length agenda.work → Contains more place
    → Contains (drop agenda.cursor (agenda.work ++ more)) place
waits_now agenda more place within has =
    subst (λ (xs : List ℕ). Contains xs place) (sym (drop-append-le agenda.cursor agenda.work more within))
    (Contains-append_right (waiting agenda) more place has)

-- where each root stays the root of its nodes
pub KeepsUp-roots : (old new : List (List ℕ)) (agenda : AgendaData)
    → ((x : ℕ) → IsActive old x → IsActive new x) → ((x y : ℕ) → AreTogether old x y → AreTogether new x y)
    → ((r x : ℕ) → IsRootOf old r x → IsRootOf new r x) → KeepsUp old agenda → KeepsUp new agenda
KeepsUp-roots old new agenda active together roots stands = record {
  sound = IsSound-lists old new agenda.applications agenda.table active together stands.sound;
  covered = λ place it at. elim (stands.covered place it at) [
    | inl wait ↦ inl wait
    | inr cover ↦ inr (
      cover.0,
      cover.1,
      record { head = cover.2.head; sort = cover.2.sort; args = AllZip-weaker (IsRootOf old) (IsRootOf new) roots cover.0.args it.term.args cover.2.args },
      cover.3,
      together cover.1 it.node cover.4,
    )
  ];
  within = stands.within;
}

-- one more node with arguments, which waits
pub KeepsUp-application : (lists : List (List ℕ)) (agenda : AgendaData) (it : Application) → IsActive lists it.node
    → All (IsActive lists) it.term.args → (it.term.args ≡ [] → ⊥) → KeepsUp lists agenda → KeepsUp lists (with_application agenda it)
KeepsUp-application lists agenda it node args has stands = record {
  sound = IsSound-push lists agenda.applications agenda.table it node args has stands.sound;
  covered = λ place i at. elim (last_or agenda.applications it place i at) [
    | inl before ↦ elim (stands.covered place i before) [
      | inl wait ↦ inl (waits agenda (length agenda.applications ∷ []) place stands.within wait)
      | inr cover ↦ inr cover
    ]
    | inr last ↦ inl (waits_now agenda (length agenda.applications ∷ []) place stands.within (0, omega arith, sym last.0))
  ];
  within = omega (arith, stands.within, length-append agenda.work (length agenda.applications ∷ []));
}

-- where two classes are joined, a root that stays is the root of its nodes, and others may be
root_stays : (lists : List (List ℕ)) (kept gone r x : ℕ) → AreJoinable lists kept gone → (r ≡ gone → ⊥) → IsRootOf lists r x
    → IsRootOf (joined lists kept gone) r x
root_stays lists kept gone r x can other root = (
  (IsIn-joined lists kept gone r r can).1 (inl (other, root.0)),
  (IsIn-joined lists kept gone r x can).1 (inl (other, root.1)),
)

moved_or_stays : (lists : List (List ℕ)) (kept gone : ℕ) (rs xs : List ℕ) → AreJoinable lists kept gone → AllZip (IsRootOf lists) rs xs
    → ((x : ℕ) × Contains xs x × IsIn lists gone x) ⊎ AllZip (IsRootOf (joined lists kept gone)) rs xs
moved_or_stays lists kept gone [] [] can zip = inr tt
moved_or_stays lists kept gone [] (x ∷ xs) can zip = absurd zip
moved_or_stays lists kept gone (r ∷ rs) [] can zip = absurd zip
moved_or_stays lists kept gone (r ∷ rs) (x ∷ xs) can zip = elim (cases_eq r gone) [
  | inl is ↦ inl (x, (0, omega arith, refl), subst (λ (k : ℕ). IsIn lists k x) is zip.0.1)
  | inr other ↦ elim (moved_or_stays lists kept gone rs xs can zip.1) [
    | inl moved ↦ inl (moved.0, Contains-more x xs moved.0 moved.1, moved.2)
    | inr rest ↦ inr (root_stays lists kept gone r x can other zip.0, rest)
  ]
]

-- two classes are joined, and what has an argument among those that moved waits
KeepsUp-joined : (old new : List (List ℕ)) (kept gone : ℕ) (agenda : AgendaData) (more : List ℕ) → AreJoinable old kept gone
    → new ≡ joined old kept gone → ((x : ℕ) → IsActive old x → IsActive new x) → ((x y : ℕ) → AreTogether old x y → AreTogether new x y)
    → HasUsers agenda.applications (members_of old gone) more → KeepsUp old agenda → KeepsUp new (busier agenda more)
KeepsUp-joined old new kept gone agenda more can is active together users stands = record {
  sound = IsSound-lists old new agenda.applications agenda.table active together stands.sound;
  covered = λ place it at. elim (stands.covered place it at) [
    | inl wait ↦ inl (waits agenda more place stands.within wait)
    | inr cover ↦ elim (moved_or_stays old kept gone cover.0.args it.term.args can cover.2.args) [
      | inl moved ↦ inl (waits_now agenda more place stands.within (users moved.0 place it moved.2 at moved.1))
      | inr zip ↦ inr (
        cover.0,
        cover.1,
        record { head = cover.2.head; sort = cover.2.sort; args = subst (λ (ls : List (List ℕ)). AllZip (IsRootOf ls) cover.0.args it.term.args) (sym is) zip },
        cover.3,
        together cover.1 it.node cover.4,
      )
    ]
  ];
  within = omega (arith, stands.within, length-append agenda.work more);
}

less_or : (a b : ℕ) → (a < b) ⊎ (b ≤ a)
less_or a zero = inr (omega arith)
less_or zero (suc b) = inl (omega arith)
less_or (suc a) (suc b) = elim (less_or a b) [
  | inl less ↦ inl (omega (arith, less))
  | inr order ↦ inr (omega (arith, order))
]

pub KeepsUp-merge : (old new : List (List ℕ)) (a b : ℕ) (agenda : AgendaData) (members more : List ℕ) → IsPartition old
    → IsActive old a → IsActive old b → (AreTogether old a b → ⊥)
    → ((ra rb : ℕ) → IsIn old ra a → IsIn old rb b → (root : ℕ) × (moved : ℕ) × IsMerge old ra rb new root moved) → AreMoved old a b members
    → ((x : ℕ) → IsActive new x ↔ IsActive old x) → ((x y : ℕ) → AreTogether old x y → AreTogether new x y)
    → HasUsers agenda.applications members more → KeepsUp old agenda → KeepsUp new (busier agenda more)
KeepsUp-merge old new a b agenda members more classes in_a in_b apart merge moves active together users stands =
    elim (less_or (length (members_of old in_a.0)) (length (members_of old in_b.0))) [
      | inl less ↦
          let members_are : members ≡ members_of old in_a.0 = (moves in_a.0 in_b.0 in_a.1 in_b.1).1 less in
          KeepsUp-joined old new in_b.0 in_a.0 agenda more can.1 ((merge in_a.0 in_b.0 in_a.1 in_b.1).2.1 less).0 (λ x act. (active x).1 act) together
          (subst (λ (ms : List ℕ). HasUsers agenda.applications ms more) members_are users) stands
      | inr order ↦
          let members_are : members ≡ members_of old in_b.0 = (moves in_a.0 in_b.0 in_a.1 in_b.1).0 order in
          KeepsUp-joined old new in_a.0 in_b.0 agenda more can.0 ((merge in_a.0 in_b.0 in_a.1 in_b.1).2.0 order).0 (λ x act. (active x).1 act) together
          (subst (λ (ms : List ℕ). HasUsers agenda.applications ms more) members_are users) stands
    ]
  where
    can : AreJoinable old in_a.0 in_b.0 × AreJoinable old in_b.0 in_a.0
    can = joinable old in_a.0 in_b.0 a b classes (root_in old in_a.0 a classes in_a.1) (root_in old in_b.0 b classes in_b.1) in_a.1 in_b.1 apart

-- the members that a merge moves, where they are those of the second class, and where they are those of the first
pub moved_second : (lists : List (List ℕ)) (a b left right : ℕ) (members : List ℕ) → IsPartition lists → IsIn lists left a → IsIn lists right b
    → length (members_of lists right) ≤ length (members_of lists left) → members ≡ members_of lists right → AreMoved lists a b members
moved_second lists a b left right members classes in_a in_b order is ra rb has_a has_b =
    let first : ra ≡ left = classes.in_one ra left a has_a in_a in
    let second : rb ≡ right = classes.in_one rb right b has_b in_b in
    rw (first, second) (λ _. is, λ less. absurd (omega (arith, order, less)))

pub moved_first : (lists : List (List ℕ)) (a b left right : ℕ) (members : List ℕ) → IsPartition lists → IsIn lists left a → IsIn lists right b
    → length (members_of lists left) < length (members_of lists right) → members ≡ members_of lists left → AreMoved lists a b members
moved_first lists a b left right members classes in_a in_b less is ra rb has_a has_b =
    let first : ra ≡ left = classes.in_one ra left a has_a in_a in
    let second : rb ≡ right = classes.in_one rb right b has_b in_b in
    rw (first, second) (λ order. absurd (omega (arith, order, less)), λ _. is)

-- more keys
pub KeepsUp-keys : (lists : List (List ℕ)) (table later : List (Node × ℕ)) (applications : List Application) (work : List ℕ) (cursor : ℕ)
    → IsLonger table later → IsSound lists applications later → KeepsUp lists (agenda_of table applications work cursor)
    → KeepsUp lists (agenda_of later applications work cursor)
KeepsUp-keys lists table later applications work cursor longer sound stands = record {
  sound = sound;
  covered = λ place it at. elim (stands.covered place it at) [
    | inl wait ↦ inl wait
    | inr cover ↦ inr (cover.0, cover.1, cover.2, Contains-longer table later (cover.0, cover.1) longer cover.3, cover.4)
  ];
  within = stands.within;
}

drop_next : (xs : List ℕ) (k x : ℕ) → slice_get xs k ≡ Some x → drop k xs ≡ x ∷ drop (suc k) xs
drop_next [] k x e = absurd cc
drop_next (y ∷ xs) zero x e = ap (λ z. z ∷ xs) (same_Some y x e)
drop_next (y ∷ xs) (suc k) x e = drop_next xs k x e

-- the next place was looked at
pub KeepsUp-next : (lists : List (List ℕ)) (agenda : AgendaData) (place : ℕ) → slice_get agenda.work agenda.cursor ≡ Some place
    → ((it : Application) → IsAt agenda.applications place it → IsCovered lists agenda.table it) → KeepsUp lists agenda
    → KeepsUp lists (agenda_of agenda.table agenda.applications agenda.work (agenda.cursor + 1))
KeepsUp-next lists agenda place next cover stands = record {
  sound = stands.sound;
  covered = λ p it at. elim (cases_eq p place) [
    | inl is ↦ inr (cover it (subst (λ (k : ℕ). IsAt agenda.applications k it) is at))
    | inr other ↦ elim (stands.covered p it at) [
      | inl wait ↦ inl (after p other wait)
      | inr known ↦ inr known
    ]
  ];
  within = let inside = slice_get_within agenda.work agenda.cursor place next in omega (arith, inside);
}
  where
    succ : (i : ℕ) → suc i ≡ i + 1
    succ i = omega arith

    after : (p : ℕ) → (p ≡ place → ⊥) → Contains (drop agenda.cursor agenda.work) p → Contains (drop (agenda.cursor + 1) agenda.work) p
    after p other wait =
        elim (Contains-cases place (drop (suc agenda.cursor) agenda.work) p
        (subst (λ (xs : List ℕ). Contains xs p) (drop_next agenda.work agenda.cursor place next) wait)) [
          | inl is ↦ absurd (other (sym is))
          | inr rest ↦ subst (λ (k : ℕ). Contains (drop k agenda.work) p) (succ agenda.cursor) rest
        ]

-- the node of a key that was entered
pub entered_longer : (table later : List (Node × ℕ)) (key : Node) (n m : ℕ) → IsEntered table key n m later → IsLonger table later
entered_longer table later key n m (inl same) =
    subst (λ (es : List (Node × ℕ)). IsLonger table es) (sym same.0) (longer_itself table)
entered_longer table later key n m (inr last) =
    subst (λ (es : List (Node × ℕ)). IsLonger table es) (sym last.2) (longer_append table ((key, n) ∷ []))

pub entered_there : (table later : List (Node × ℕ)) (key : Node) (n m : ℕ) → IsEntered table key n m later → Contains later (key, m)
entered_there table later key n m (inl same) =
    subst (λ (es : List (Node × ℕ)). Contains es (key, m)) (sym same.0) same.1
entered_there table later key n m (inr last) =
    subst (λ (es : List (Node × ℕ)). Contains es (key, m)) (sym last.2)
    (subst (λ (k : ℕ). Contains (table ++ (key, n) ∷ []) (key, k)) (sym last.0) (Contains-push table (key, n)))

pub entered_sound : (lists : List (List ℕ)) (applications : List Application) (table later : List (Node × ℕ)) (key : Node) (it : Application)
    (place m : ℕ) → IsAt applications place it → IsKeyOf lists it.term key → IsEntered table key it.node m later
    → IsSound lists applications table → IsSound lists applications later
entered_sound lists applications table later key it place m at of (inl same) sound =
    subst (λ (es : List (Node × ℕ)). IsSound lists applications es) (sym same.0) sound
entered_sound lists applications table later key it place m at of (inr last) sound =
    subst (λ (es : List (Node × ℕ)). IsSound lists applications es) (sym last.2) (record {
      active = sound.active;
      args = sound.args;
      keys = λ k j has. elim (Contains-push_cases table (key, it.node) (k, j) has) [
        | inl old ↦ sound.keys k j old
        | inr is ↦ subst (λ (p : Node × ℕ). IsTrueKey lists applications p.0 p.1) is own
      ];
      once = λ k i j left right. elim (Contains-push_cases table (key, it.node) (k, i) left) [
        | inl one ↦ elim (Contains-push_cases table (key, it.node) (k, j) right) [
          | inl two ↦ sound.once k i j one two
          | inr new ↦ absurd (last.1 i (known k i j new one))
        ]
        | inr new ↦ elim (Contains-push_cases table (key, it.node) (k, j) right) [
          | inl two ↦ absurd (last.1 j (known k j i new two))
          | inr again ↦ sym (ap (λ (p : Node × ℕ). p.1) new) ∙ ap (λ (p : Node × ℕ). p.1) again
        ]
      ];
    })
  where
    own : IsTrueKey lists applications key it.node
    own = record {
      place = place;
      it = it;
      stands = at;
      node = refl;
      like = record {
        head = of.head;
        sort = of.sort;
        args = AllZip-weaker (IsRootOf lists) (AreTogether lists) (λ r a root. (r, root.0, root.1)) key.args it.term.args of.args;
      };
    }

    known : (k : Node) (i j : ℕ) → ◌≡◌ {A = Node × ℕ} (key, it.node) (k, j) → Contains table (k, i) → Contains table (key, i)
    known k i j new has = subst (λ (q : Node). Contains table (q, i)) (sym (ap (λ (p : Node × ℕ). p.0) new)) has

-- the node with which a key stands is active
pub leading_active : (lists : List (List ℕ)) (applications : List Application) (table : List (Node × ℕ)) (key : Node) (m : ℕ)
    → IsSound lists applications table → Contains table (key, m) → IsActive lists m
leading_active lists applications table key m sound has =
    let own = sound.keys key m has in
    subst (IsActive lists) own.node (sound.active own.place own.it own.stands).0

-- and congruent to each node with that key
pub found_among : (lists : List (List ℕ)) (applications : List Application) (table : List (Node × ℕ)) (key : Node) (it : Application)
    (place m : ℕ) → IsPartition lists → IsAt applications place it → IsKeyOf lists it.term key → IsSound lists applications table
    → Contains table (key, m) → (AreTogether lists m it.node → ⊥) → AreFoundAmong lists applications m it.node
found_among lists applications table key it place m classes at of sound has apart =
    let own = sound.keys key m has in
    record {
      left = own.it;
      right = it;
      left_place = own.place;
      right_place = place;
      left_stands = own.stands;
      right_stands = at;
      left_node = own.node;
      right_node = refl;
      active = (leading_active lists applications table key m sound has, (sound.active place it at).0);
      head = sym own.like.head ∙ of.head;
      sort = sym own.like.sort ∙ of.sort;
      has_args = sound.args own.place own.it own.stands;
      args = zip_together lists key.args own.it.term.args it.term.args classes own.like.args of.args;
      apart = apart;
    }

-- what is found is congruent by the table of terms
pub found_congruent : (closure : Congruence) (nodes : List Node) (m n : ℕ) → Fits closure nodes
    → AreFoundAmong closure.lists closure.applications m n → AreCongruent closure.lists nodes m n
found_congruent closure nodes m n fits found = record {
  left = found.left.term;
  right = found.right.term;
  left_is = subst (λ (k : ℕ). slice_get nodes k ≡ Some found.left.term) found.left_node (fits.same found.left_place found.left found.left_stands);
  right_is = subst (λ (k : ℕ). slice_get nodes k ≡ Some found.right.term) found.right_node (fits.same found.right_place found.right found.right_stands);
  head = found.head;
  sort = found.sort;
  has_args = found.has_args;
  args = found.args;
}

-- what was found is apart, so there is no rest
pub found_no_rest : (closure : Congruence) (nodes : List Node) (m n : ℕ) → Fits closure nodes
    → AreFoundAmong closure.lists closure.applications m n → IsAtRest closure.lists nodes → ⊥
found_no_rest closure nodes m n fits found rest =
    found.apart (rest m n found.active.0 found.active.1 (found_congruent closure nodes m n fits found))

drop_all : (xs : List ℕ) → drop (length xs) xs ≡ []
drop_all [] = refl
drop_all (x ∷ xs) = drop_all xs

-- where nothing waits, the classes are at rest
pub rest_of_done : (closure : Congruence) (nodes : List Node) (agenda : AgendaData) → IsPartition closure.lists → Fits closure nodes
    → agenda.applications ≡ closure.applications → KeepsUp closure.lists agenda → agenda.cursor ≡ length agenda.work
    → IsAtRest closure.lists nodes
rest_of_done closure nodes agenda classes fits same stands done a b act_a act_b it =
    let left = covered a it.left act_a it.left_is it.has_args in
    let right = covered b it.right act_b it.right_is (more it.left.args it.right.args it.has_args it.args) in
    let keys : left.0 ≡ right.0 = one_key closure.lists it.left it.right left.0 right.0 classes left.2 right.2 it.head it.sort it.args in
    let one : left.1 ≡ right.1 =
    stands.sound.once right.0 left.1 right.1 (subst (λ (k : Node). Contains agenda.table (k, left.1)) keys left.3) right.3 in
    join left.1 left.4 (subst (λ (m : ℕ). AreTogether closure.lists m b) (sym one) right.4)
  where
    none : (place : ℕ) → Contains (waiting agenda) place → ⊥
    none place wait = Contains-nil place
        (subst (λ (xs : List ℕ). Contains xs place) (drop_all agenda.work) (subst (λ (k : ℕ). Contains (drop k agenda.work) place) done wait))

    covered : (n : ℕ) (node : Node) → IsActive closure.lists n → slice_get nodes n ≡ Some node → (node.args ≡ [] → ⊥)
        → IsCovered closure.lists agenda.table (application_of n node)
    covered n node active is has =
        let own = fits.each n node active is has in
        let at : IsAt agenda.applications own.0 (application_of n node) =
        subst (λ (xs : List Application). IsAt xs own.0 (application_of n node)) (sym same) own.1 in
        elim (stands.covered own.0 (application_of n node) at) [
          | inl wait ↦ absurd (none own.0 wait)
          | inr cover ↦ cover
        ]

    more : (xs ys : List ℕ) → (xs ≡ [] → ⊥) → AllZip (AreTogether closure.lists) xs ys → ys ≡ [] → ⊥
    more [] ys has zip e = has refl
    more (x ∷ xs) [] has zip e = absurd zip
    more (x ∷ xs) (y ∷ ys) has zip e = absurd cc

    join : (m : ℕ) → AreTogether closure.lists m a → AreTogether closure.lists m b → AreTogether closure.lists a b
    join m t u = (t.0, t.2, subst (λ (r : ℕ). IsIn closure.lists r b) (classes.in_one u.0 t.0 m u.1 t.1) u.2)
