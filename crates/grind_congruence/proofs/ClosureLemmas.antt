-- What a closure keeps, as its calls change it.
use Rattle.std.specs.Prelude.{◌≡◌, ℕ, List, [], ◌∷◌, ◌++◌, Option, None, Some, All, Result, Ok, Err, IfOk, IfSome, IsNone, length, slice_get, ◌↔◌, refl}
use Rattle.std.proofs.Common.{sym, ap, ◌∙◌, subst, inl, inr}
use Rattle.std.proofs.lemmas.Bool.{false≢true}
use Rattle.std.proofs.lemmas.List.Elements.{All-weaker}
use Rattle.std.proofs.lemmas.Option.{same_Some}
use Rattle.grind_outside.specs.declared.memory.Memory.{Memory}
use Rattle.grind_term_graph.specs.declared.node.Node.{Node}
use Rattle.grind_classes.specs.Classes.{Grouping, IsIn, IsActive, AreTogether, IsPartition}
use Rattle.grind_classes.proofs.ClassLemmas.{IsIn-with_class}
use Rattle.grind_congruence.specs.declared.application.Application.{Application}
use Rattle.grind_congruence.specs.declared.edge.Edge.{Edge}
use Rattle.grind_congruence.specs.declared.edge.Found.{Found}
use Rattle.grind_congruence.specs.declared.view.Noted.{Noted}
use Rattle.grind_congruence.specs.Asserted.{IsActivated}
use Rattle.grind_congruence.specs.Congruence.{Congruence, Fits, IsAtRest, application_of}
use Rattle.grind_congruence.specs.Changes.{IsEnlisted, IsMerged}
use Rattle.grind_congruence.specs.Table.{IsLonger, AgendaData, KeepsUp, busier, IsTakenIn, IsTouched, IsWorkedOn, AreFoundAmong}
use Rattle.grind_congruence.specs.Marks.{cut, views, IsGrown, IsKept}
use Rattle.grind_congruence.proofs.AgendaLemmas.{KeepsUp-roots, KeepsUp-application, KeepsUp-merge, rest_of_done, found_no_rest}
use Rattle.grind_congruence.proofs.EdgeLemmas.{AreClassesOf-activate, AreClassesOf-merge}
use Rattle.grind_congruence.proofs.FitLemmas.{empty_or}
use Rattle.grind_congruence.proofs.MarkLemmas.{IsKept-grown, views-grown, grown_itself}
use Rattle.grind_congruence.proofs.TableLemmas.{longer_itself, longer_append}

-- more equations, and more work
grown_with : (edges more : List Edge) (agenda : AgendaData) (work : List ℕ) → IsGrown edges agenda (edges ++ more) (busier agenda work)
grown_with edges more agenda work = record {
  edges_grow = longer_append edges more;
  table = longer_itself agenda.table;
  applications = longer_itself agenda.applications;
  work = longer_append agenda.work work;
}

-- what grew, cut back to what it was
cut_back : (edges : List Edge) (count : ℕ) (agenda later : AgendaData) → IsGrown edges agenda edges later
    → cut (record { edges = count; keys = length agenda.table; applications = length agenda.applications; work = length agenda.work; cursor = agenda.cursor }) later
    ≡ agenda
cut_back edges count agenda later grown =
    let ks = grown.table in
    let its = grown.applications in
    let ws = grown.work in
    λ i. record { table = ks i; applications = its i; work = ws i; cursor = agenda.cursor }

grown_taken : (edges : List Edge) (agenda later : AgendaData) (n : ℕ) (node : Node) → IsTakenIn agenda n node later → IsGrown edges agenda edges later
grown_taken edges agenda later n node taken = elim (empty_or node.args) [
  | inl none ↦ subst (λ (it : AgendaData). IsGrown edges agenda edges it) (sym (taken.plain none)) (grown_itself edges agenda)
  | inr has ↦ subst (λ (it : AgendaData). IsGrown edges agenda edges it) (sym (taken.applied has)) (record {
    edges_grow = longer_itself edges;
    table = longer_itself agenda.table;
    applications = longer_append agenda.applications (application_of n node ∷ []);
    work = longer_append agenda.work (length agenda.applications ∷ []);
  })
]

pub taken_back : (count : ℕ) (agenda later : AgendaData) (n : ℕ) (node : Node) (noted : Noted) → IsTakenIn agenda n node later
    → noted ≡ record { edges = count; keys = length agenda.table; applications = length agenda.applications; work = length agenda.work; cursor = agenda.cursor }
    → cut noted later ≡ agenda
taken_back count agenda later n node noted taken is =
    ap (λ (it : Noted). cut it later) is ∙ cut_back [] count agenda later (grown_taken [] agenda later n node taken)

pub touched_back : (count : ℕ) (agenda later : AgendaData) (members : List ℕ) (noted : Noted) → IsTouched agenda members later
    → noted ≡ record { edges = count; keys = length agenda.table; applications = length agenda.applications; work = length agenda.work; cursor = agenda.cursor }
    → cut noted later ≡ agenda
touched_back count agenda later members noted touched is =
    ap (λ (it : Noted). cut it later) is
    ∙ cut_back [] count agenda later (subst (λ (it : AgendaData). IsGrown [] agenda [] it) (sym touched.1) (grown_with [] [] agenda touched.0))

-- a node that became active
pub kept_enlisted : (old new : Grouping) (edges : List Edge) (agenda later : AgendaData) (marks : List Noted) (n : ℕ) (node : Node)
    → IsKept old edges agenda marks → IsEnlisted old agenda n node new later → (IsActive old.lists n → ⊥)
    → All (IsActive old.lists) node.args → IsKept new edges later marks
kept_enlisted old new edges agenda later marks n node kept it fresh args =
    IsKept-grown old new edges edges agenda later marks kept it.marked (grown_taken edges agenda later n node it.taken) (record {
      classes = AreClassesOf-activate old.lists new.lists edges n kept.present.classes it.partition it.active it.together;
      stands = elim (empty_or node.args) [
        | inl none ↦ subst (KeepsUp new.lists) (sym (it.taken.plain none)) still
        | inr has ↦ subst (KeepsUp new.lists) (sym (it.taken.applied has))
            (KeepsUp-application new.lists agenda (application_of n node) ((it.active n).1 (inr refl))
            (All-weaker (IsActive old.lists) (IsActive new.lists) (λ x act. (it.active x).1 (inl act)) node.args args) has still)
      ];
    })
  where
    stays : (r x : ℕ) → IsIn old.lists r x → IsIn new.lists r x
    stays r x has = subst (λ (ls : List (List ℕ)). IsIn ls r x) (sym it.own)
        ((IsIn-with_class old.lists n r x kept.present.classes.partition fresh).1 (inl has))

    still : KeepsUp new.lists agenda
    still = KeepsUp-roots old.lists new.lists agenda (λ x act. (it.active x).1 (inl act)) (λ x y t. (it.together x y).1 (inl t))
        (λ r x root. (stays r r root.0, stays r x root.1)) kept.present.stands

pub views_enlisted : (old new : Grouping) (edges : List Edge) (agenda later : AgendaData) (marks : List Noted) (n : ℕ) (node : Node)
    → IsKept old edges agenda marks → IsEnlisted old agenda n node new later
    → views new.marked edges later marks ≡ views old.marked edges agenda marks
views_enlisted old new edges agenda later marks n node kept it =
    ap (λ (vs : List (List (List ℕ))). views vs edges later marks) it.marked
    ∙ views-grown old.marked edges edges agenda later marks (grown_taken edges agenda later n node it.taken) kept.before

-- the table then
pub taken_table : (agenda later : AgendaData) (n : ℕ) (node : Node) → IsTakenIn agenda n node later → later.table ≡ agenda.table
taken_table agenda later n node taken = elim (empty_or node.args) [
  | inl none ↦ ap (λ (it : AgendaData). it.table) (taken.plain none)
  | inr has ↦ ap (λ (it : AgendaData). it.table) (taken.applied has)
]

-- two classes that were joined
pub kept_merged : (old new : Grouping) (edges : List Edge) (edge : Edge) (agenda later : AgendaData) (marks : List Noted)
    → IsKept old edges agenda marks → IsMerged old agenda edge.left edge.right new later → IsActive old.lists edge.left
    → IsActive old.lists edge.right → (AreTogether old.lists edge.left edge.right → ⊥) → IsKept new (edges ++ edge ∷ []) later marks
kept_merged old new edges edge agenda later marks kept it left right apart =
    subst (λ (a : AgendaData). IsKept new (edges ++ edge ∷ []) a marks) (sym it.touched.1)
    (IsKept-grown old new edges (edges ++ edge ∷ []) agenda (busier agenda it.touched.0) marks kept it.marked
    (grown_with edges (edge ∷ []) agenda it.touched.0) (record {
      classes = AreClassesOf-merge old.lists new.lists edges edge kept.present.classes it.partition left right it.active it.together;
      stands = KeepsUp-merge old.lists new.lists edge.left edge.right agenda it.members it.touched.0 kept.present.classes.partition
          left right apart it.merged it.moves it.active (λ x y t. (it.together x y).1 (inl t)) it.touched.2 kept.present.stands;
    }))

pub views_merged : (old new : Grouping) (edges : List Edge) (edge : Edge) (agenda later : AgendaData) (marks : List Noted)
    → IsKept old edges agenda marks → IsMerged old agenda edge.left edge.right new later
    → views new.marked (edges ++ edge ∷ []) later marks ≡ views old.marked edges agenda marks
views_merged old new edges edge agenda later marks kept it =
    ap (λ (vs : List (List (List ℕ))). views vs (edges ++ edge ∷ []) later marks) it.marked
    ∙ subst (λ (a : AgendaData). views old.marked (edges ++ edge ∷ []) a marks ≡ views old.marked edges agenda marks) (sym it.touched.1)
    (views-grown old.marked edges (edges ++ edge ∷ []) agenda (busier agenda it.touched.0) marks
    (grown_with edges (edge ∷ []) agenda it.touched.0) kept.before)

-- the table and the nodes with arguments are the same then
pub touched_table : (agenda later : AgendaData) (members : List ℕ) → IsTouched agenda members later → later.table ≡ agenda.table
touched_table agenda later members touched = ap (λ (it : AgendaData). it.table) touched.1

pub touched_applications : (agenda later : AgendaData) (members : List ℕ) → IsTouched agenda members later
    → later.applications ≡ agenda.applications
touched_applications agenda later members touched = ap (λ (it : AgendaData). it.applications) touched.1

-- work that was done
grown_worked : (edges : List Edge) (agenda later : AgendaData) → IsWorkedOn agenda later → IsGrown edges agenda edges later
grown_worked edges agenda later worked = record {
  edges_grow = longer_itself edges;
  table = worked.table;
  applications = subst (λ (xs : List Application). IsLonger agenda.applications xs) (sym worked.applications) (longer_itself agenda.applications);
  work = subst (λ (xs : List ℕ). IsLonger agenda.work xs) (sym worked.work) (longer_itself agenda.work);
}

pub kept_worked : (grouping : Grouping) (edges : List Edge) (agenda later : AgendaData) (marks : List Noted) → IsKept grouping edges agenda marks
    → IsWorkedOn agenda later → KeepsUp grouping.lists later → IsKept grouping edges later marks
kept_worked grouping edges agenda later marks kept worked stands =
    IsKept-grown grouping grouping edges edges agenda later marks kept refl (grown_worked edges agenda later worked)
    (record { classes = kept.present.classes; stands = stands })

pub views_worked : (grouping : Grouping) (edges : List Edge) (agenda later : AgendaData) (marks : List Noted) → IsKept grouping edges agenda marks
    → IsWorkedOn agenda later → views grouping.marked edges later marks ≡ views grouping.marked edges agenda marks
views_worked grouping edges agenda later marks kept worked =
    views-grown grouping.marked edges edges agenda later marks (grown_worked edges agenda later worked) kept.before

-- the nodes with arguments once one became active
pub activated_is : (old new : Congruence) (nodes : List Node) (n : ℕ) (node : Node) (agenda later : AgendaData) → slice_get nodes n ≡ Some node
    → IsTakenIn agenda n node later → agenda.applications ≡ old.applications → new.applications ≡ later.applications
    → IsActivated old new nodes n
activated_is old new nodes n node agenda later stands taken was is = record {
  plain = λ it there none. is ∙ ap (λ (a : AgendaData). a.applications) (taken.plain (ap (λ (x : Node). x.args) (same it there) ∙ none)) ∙ was;
  applied = λ it there has.
      is ∙ ap (λ (a : AgendaData). a.applications) (taken.applied (λ none. has (sym (ap (λ (x : Node). x.args) (same it there)) ∙ none)))
      ∙ ap (λ (xs : List Application). xs ++ application_of n node ∷ []) was
      ∙ ap (λ (x : Node). old.applications ++ application_of n x ∷ []) (same it there);
}
  where
    same : (it : Node) → slice_get nodes n ≡ Some it → node ≡ it
    same it there = same_Some node it (sym stands ∙ there)

-- whether there is rest, after work
answered_rest : (closure : Congruence) (nodes : List Node) (later : AgendaData) (answer : Option Found) → IsPartition closure.lists
    → Fits closure nodes → later.applications ≡ closure.applications → KeepsUp closure.lists later
    → IfSome answer (λ found. AreFoundAmong closure.lists closure.applications found.left found.right)
    → (IsNone answer → later.cursor ≡ length later.work) → IsNone answer ↔ IsAtRest closure.lists nodes
answered_rest closure nodes later None classes fits same stands some none =
    (λ _. rest_of_done closure nodes later classes fits same stands (none refl), λ _. refl)
answered_rest closure nodes later (Some found) classes fits same stands some none = (
  λ e. absurd (false≢true (sym e)),
  λ rest. absurd (found_no_rest closure nodes found.left found.right fits some rest),
)

pub worked_rest : (closure : Congruence) (nodes : List Node) (later : AgendaData) (result : Result (Option Found) Memory)
    → IsPartition closure.lists → Fits closure nodes → later.applications ≡ closure.applications → KeepsUp closure.lists later
    → IfOk result (λ answer. IfSome answer (λ found. AreFoundAmong closure.lists closure.applications found.left found.right))
    → IfOk result (λ answer. IsNone answer → later.cursor ≡ length later.work)
    → IfOk result (λ answer. IsNone answer ↔ IsAtRest closure.lists nodes)
worked_rest closure nodes later (Ok answer) classes fits same stands some none =
    answered_rest closure nodes later answer classes fits same stands some none
worked_rest closure nodes later (Err refusal) classes fits same stands some none = tt
