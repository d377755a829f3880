-- The marks of a closure, and what it was at each of them.
use Rattle.std.specs.Prelude.{◌≡◌, ℕ, ◌≤◌, List, [], ◌∷◌, length, map, take}
use Rattle.grind_classes.specs.Classes.{Grouping}
use Rattle.grind_congruence.specs.declared.edge.Edge.{Edge}
use Rattle.grind_congruence.specs.declared.view.ClosureView.{ClosureView}
use Rattle.grind_congruence.specs.declared.view.Noted.{Noted}
use Rattle.grind_congruence.specs.Congruence.{Congruence}
use Rattle.grind_congruence.specs.Edges.{AreClassesOf}
use Rattle.grind_congruence.specs.Table.{IsLonger, AgendaData, KeepsUp}

-- the first mark notes at most what the second does
pub record IsBefore (first second : Noted) : Type 0 where
  pub edges : first.edges ≤ second.edges
  pub keys : first.keys ≤ second.keys
  pub applications : first.applications ≤ second.applications
  pub work : first.work ≤ second.work

-- each of the marks notes at most this
abbrev pub AreBefore : List Noted → Noted → Type 0
AreBefore [] top = Unit {0}
AreBefore (noted ∷ marks) top = IsBefore noted top × AreBefore marks top

-- each of the marks notes at least this
abbrev pub AreAfter : Noted → List Noted → Type 0
AreAfter low [] = Unit {0}
AreAfter low (noted ∷ marks) = IsBefore low noted × AreAfter low marks

-- each mark notes at most what the later ones do
abbrev pub AreInOrder : List Noted → Type 0
AreInOrder [] = Unit {0}
AreInOrder (noted ∷ marks) = AreAfter noted marks × AreInOrder marks

-- what a mark notes now
abbrev pub noted_now : List Edge → AgendaData → Noted
noted_now edges agenda = record {
  edges = length edges;
  keys = length agenda.table;
  applications = length agenda.applications;
  work = length agenda.work;
  cursor = agenda.cursor;
}

-- the agenda as it was at a mark
abbrev pub cut : Noted → AgendaData → AgendaData
cut noted agenda = record {
  table = take noted.keys agenda.table;
  applications = take noted.applications agenda.applications;
  work = take noted.work agenda.work;
  cursor = noted.cursor;
}

-- what a closure is, but for its trees: the member lists, the edges and the agenda
pub record State : Type 0 where
  pub lists : List (List ℕ)
  pub edges : List Edge
  pub agenda : AgendaData

-- what undo gives back of it
abbrev pub view_of : State → ClosureView
view_of state = record {
  lists = state.lists;
  edges = state.edges;
  table = state.agenda.table;
  applications = state.agenda.applications;
}

-- what the closure was at a mark, where the member lists were these
abbrev pub state_at : List (List ℕ) → List Edge → AgendaData → Noted → State
state_at lists edges agenda noted = record { lists = lists; edges = take noted.edges edges; agenda = cut noted agenda }

-- what the closure was at each mark
abbrev pub states : List (List (List ℕ)) → List Edge → AgendaData → List Noted → List State
states [] edges agenda marks = []
states (lists ∷ marked) edges agenda [] = []
states (lists ∷ marked) edges agenda (noted ∷ marks) = state_at lists edges agenda noted ∷ states marked edges agenda marks

-- and what undo gives back of that
abbrev pub views : List (List (List ℕ)) → List Edge → AgendaData → List Noted → List ClosureView
views marked edges agenda marks = map view_of (states marked edges agenda marks)

-- what contracts see of a closure
abbrev pub value_of : Grouping → List Edge → AgendaData → List Noted → Congruence
value_of grouping edges agenda marks = record {
  lists = grouping.lists;
  edges = edges;
  table = agenda.table;
  applications = agenda.applications;
  marked = views grouping.marked edges agenda marks;
}

-- the classes are those that the edges make, and the agenda stands for them
pub record IsWhole (state : State) : Type 0 where
  pub classes : AreClassesOf state.lists state.edges
  pub stands : KeepsUp state.lists state.agenda

-- each of them
abbrev pub AreWhole : List State → Type 0
AreWhole [] = Unit {0}
AreWhole (state ∷ states) = IsWhole state × AreWhole states

-- the edges and the agenda begin with what there was before
pub record IsGrown (edges : List Edge) (agenda : AgendaData) (more : List Edge) (later : AgendaData) : Type 0 where
  pub edges_grow : IsLonger edges more
  pub table : IsLonger agenda.table later.table
  pub applications : IsLonger agenda.applications later.applications
  pub work : IsLonger agenda.work later.work

-- what a closure keeps is whole, now and at each mark
pub record IsKept (grouping : Grouping) (edges : List Edge) (agenda : AgendaData) (marks : List Noted) : Type 0 where
  pub present : IsWhole (record { lists = grouping.lists; edges = edges; agenda = agenda })
  pub count : length grouping.marked ≡ length marks
  pub before : AreBefore marks (noted_now edges agenda)
  pub order : AreInOrder marks
  pub whole : AreWhole (states grouping.marked edges agenda marks)
