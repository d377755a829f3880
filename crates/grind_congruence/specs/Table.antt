-- The congruence table: keys of a head, a sort and the roots of arguments, each with a node. A key whose roots have moved
-- since stays where it is.
use Rattle.std.specs.Prelude.{◌≡◌, ℕ, ◌<◌, ◌≤◌, List, [], ◌∷◌, ◌++◌, Some, All, Contains, length, take, drop, slice_get, slice_index_or, ◌⊎◌}
use Rattle.std.specs.List.{AllZip}
use Rattle.grind_term_graph.specs.declared.node.Node.{Node}
use Rattle.grind_classes.specs.Classes.{members_of, IsIn, IsActive, AreTogether}
use Rattle.grind_congruence.specs.declared.application.Application.{Application}
use Rattle.grind_congruence.specs.Congruence.{Congruence, application_of}

-- r is the root of the class of n
abbrev pub IsRootOf : List (List ℕ) → ℕ → ℕ → Type 0
IsRootOf lists r n = IsIn lists r r × IsIn lists r n

-- the key of a node: its head and sort, and the roots of its arguments
pub record IsKeyOf (lists : List (List ℕ)) (node key : Node) : Type 0 where
  pub head : key.head ≡ node.head
  pub sort : key.sort ≡ node.sort
  pub args : AllZip (IsRootOf lists) key.args node.args

-- a key that was that of a node, and whose roots may have moved since
pub record IsMatch (lists : List (List ℕ)) (node key : Node) : Type 0 where
  pub head : key.head ≡ node.head
  pub sort : key.sort ≡ node.sort
  pub args : AllZip (AreTogether lists) key.args node.args

-- the node with arguments at a place
abbrev pub IsAt : List Application → ℕ → Application → Type 0
IsAt applications place it = slice_get applications place ≡ Some it

-- a key of the table was that of its node
pub record IsTrueKey (lists : List (List ℕ)) (applications : List Application) (key : Node) (m : ℕ) : Type 0 where
  pub place : ℕ
  pub it : Application
  pub stands : IsAt applications place it
  pub node : it.node ≡ m
  pub like : IsMatch lists it.term key

-- each key of the table of a closure was that of its node
abbrev pub HasTrueKeys : Congruence → Type 0
HasTrueKeys closure = (key : Node) (m : ℕ) → Contains closure.table (key, m) → IsTrueKey closure.lists closure.applications key m

-- the table has the key of a node, with a node of its class
abbrev pub IsCovered : List (List ℕ) → List (Node × ℕ) → Application → Type 0
IsCovered lists table it = (key : Node) × (m : ℕ) × IsKeyOf lists it.term key × Contains table (key, m) × AreTogether lists m it.node

-- no key stands in the table with two nodes
abbrev pub HasEachOnce : List (Node × ℕ) → Type 0
HasEachOnce table = (key : Node) (m n : ℕ) → Contains table (key, m) → Contains table (key, n) → m ≡ n

-- a list that begins with another
abbrev pub IsLonger : {A : Type 0} → List A → List A → Type 0
IsLonger old new = take (length old) new ≡ old

-- what holds of the nodes with arguments and the table, whatever is still to be looked at
pub record IsSound (lists : List (List ℕ)) (applications : List Application) (table : List (Node × ℕ)) : Type 0 where
  pub active : (place : ℕ) (it : Application) → IsAt applications place it → IsActive lists it.node × All (IsActive lists) it.term.args
  pub args : (place : ℕ) (it : Application) → IsAt applications place it → ¬ (it.term.args ≡ [])
  pub keys : (key : Node) (m : ℕ) → Contains table (key, m) → IsTrueKey lists applications key m
  pub once : HasEachOnce table

-- what a closure keeps to find congruent nodes: the table, the nodes with arguments, places of these that have to be looked
-- at, and how many of the places were
pub record AgendaData : Type 0 where
  pub table : List (Node × ℕ)
  pub applications : List Application
  pub work : List ℕ
  pub cursor : ℕ

abbrev pub agenda_of : List (Node × ℕ) → List Application → List ℕ → ℕ → AgendaData
agenda_of table applications work cursor = record { table = table; applications = applications; work = work; cursor = cursor }

-- what is still to be looked at
abbrev pub waiting : AgendaData → List ℕ
waiting agenda = drop agenda.cursor agenda.work

-- the agenda stands for these classes: each node with arguments waits, or the table has its key with a node of its class
pub record KeepsUp (lists : List (List ℕ)) (agenda : AgendaData) : Type 0 where
  pub sound : IsSound lists agenda.applications agenda.table
  pub covered : (place : ℕ) (it : Application) → IsAt agenda.applications place it
      → Contains (waiting agenda) place ⊎ IsCovered lists agenda.table it
  pub within : agenda.cursor ≤ length agenda.work

-- the agenda with more to be looked at
abbrev pub busier : AgendaData → List ℕ → AgendaData
busier old more = record {
  table = old.table;
  applications = old.applications;
  work = old.work ++ more;
  cursor = old.cursor;
}

-- with one more node with arguments
abbrev pub with_application : AgendaData → Application → AgendaData
with_application old it = record {
  table = old.table;
  applications = old.applications ++ it ∷ [];
  work = old.work ++ length old.applications ∷ [];
  cursor = old.cursor;
}

-- a node became active: it is kept where it has arguments
pub record IsTakenIn (old : AgendaData) (n : ℕ) (node : Node) (new : AgendaData) : Type 0 where
  pub plain : node.args ≡ [] → new ≡ old
  pub applied : ¬ (node.args ≡ []) → new ≡ with_application old (application_of n node)

-- more has the places of all nodes with an argument among these nodes
abbrev pub HasUsers : List Application → List ℕ → List ℕ → Type 0
HasUsers applications members more = (x place : ℕ) (it : Application) → Contains members x → IsAt applications place it
    → Contains it.term.args x → Contains more place

-- all nodes with an argument among these nodes have to be looked at
abbrev pub IsTouched : AgendaData → List ℕ → AgendaData → Type 0
IsTouched old members new = (more : List ℕ) × (new ≡ busier old more) × HasUsers old.applications members more

-- the agenda after some of its work: what it had still stands, and the nodes are the same
pub record IsWorkedOn (old new : AgendaData) : Type 0 where
  pub table : IsLonger old.table new.table
  pub applications : new.applications ≡ old.applications
  pub work : new.work ≡ old.work

-- two kept nodes that are congruent and not together
pub record AreFoundAmong (lists : List (List ℕ)) (applications : List Application) (m n : ℕ) : Type 0 where
  pub left : Application
  pub right : Application
  pub left_place : ℕ
  pub right_place : ℕ
  pub left_stands : IsAt applications left_place left
  pub right_stands : IsAt applications right_place right
  pub left_node : left.node ≡ m
  pub right_node : right.node ≡ n
  pub active : IsActive lists m × IsActive lists n
  pub head : left.term.head ≡ right.term.head
  pub sort : left.term.sort ≡ right.term.sort
  pub has_args : ¬ (left.term.args ≡ [])
  pub args : AllZip (AreTogether lists) left.term.args right.term.args
  pub apart : ¬ AreTogether lists m n

-- a key was entered with a node, or stood there with a node before
abbrev pub IsEntered : List (Node × ℕ) → Node → ℕ → ℕ → List (Node × ℕ) → Type 0
IsEntered old key n m new =
    ((new ≡ old) × Contains old (key, m))
    ⊎ ((m ≡ n) × ((other : ℕ) → ¬ Contains old (key, other)) × (new ≡ old ++ (key, n) ∷ []))

-- the places at which a node is an argument: none past the end
abbrev pub uses_of : List (List ℕ) → ℕ → List ℕ
uses_of uses n = slice_index_or uses n []

-- those of these nodes, one after the other
abbrev pub uses_of_all : List (List ℕ) → List ℕ → List ℕ
uses_of_all uses [] = []
uses_of_all uses (n ∷ nodes) = uses_of uses n ++ uses_of_all uses nodes

-- each node with arguments is found at each of its arguments
abbrev pub AreNoted : List Application → List (List ℕ) → Type 0
AreNoted applications uses = (place : ℕ) (it : Application) → IsAt applications place it
    → (x : ℕ) → Contains it.term.args x → Contains (uses_of uses x) place

-- what was noted still is
abbrev pub KeepsUses : List (List ℕ) → List (List ℕ) → Type 0
KeepsUses old new = (x place : ℕ) → Contains (uses_of old x) place → Contains (uses_of new x) place

-- these are the members that a merge of the classes of a and b moves
abbrev pub AreMoved : List (List ℕ) → ℕ → ℕ → List ℕ → Type 0
AreMoved lists a b members = (ra rb : ℕ) → IsIn lists ra a → IsIn lists rb b
    → (length (members_of lists rb) ≤ length (members_of lists ra) → members ≡ members_of lists rb)
    × (length (members_of lists ra) < length (members_of lists rb) → members ≡ members_of lists ra)
