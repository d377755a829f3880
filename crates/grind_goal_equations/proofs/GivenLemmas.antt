-- The pairs that a goal gives and denies, source by source.
use Rattle.std.specs.Prelude.{ℕ, ◌≡◌, suc, ◌+◌, ◌<◌, Bool, true, false, List, [], ◌∷◌, ◌++◌, Some, All, Contains, length, slice_get, refl}
use Rattle.std.proofs.Common.{arith, sym, ap, ◌∙◌, subst, inl, inr}
use Rattle.std.proofs.lemmas.Bool.{cases_eq}
use Rattle.std.proofs.lemmas.Option.{slice_get_within}
use Rattle.std.proofs.lemmas.List.Elements.{All-push, All-weaker, Contains-append_left}
use Rattle.grind_term_graph.specs.declared.head.Head.TheVariants as head
use Rattle.grind_term_graph.specs.declared.node.Node.{Node}
use Rattle.grind_term_graph.specs.Shape.{IsTable}
use Rattle.grind_schemes.specs.Goals.{GoalData, IsGoal}
use Rattle.grind_term_rules.specs.TermRules.{IsEquation}
use Rattle.grind_classes.specs.Classes.{AreTogether}
use Rattle.grind_congruence.specs.declared.edge.Edge.{Edge}
use Rattle.grind_congruence.specs.Congruence.{Congruence}
use Rattle.grind_goal_equations.specs.declared.fact.Fact.{Fact}
use Rattle.grind_goal_equations.specs.Congruences.{IsNegation, IsGiven}
use Rattle.grind_goal_equations.specs.Facts.{IsReadAs, IsSaid, IsFact, equates}
use Rattle.grind_goal_equations.specs.Building.{HasEnds}
use Rattle.grind_goal_equations.specs.Given.{IsOfSource, IsGivenEdge, HasPair, KeepsPairs, Covers, CoversBelow, CoversAll, IsRefuted, HoldsOut, HoldsOutBelow, NoneRefuted}
use Rattle.grind_goal_equations.proofs.LawLemmas.{some_item}
use Rattle.grind_goal_equations.proofs.FactLemmas.{given_fact, denied_fact, fact_given}

-- a node is an equation of two terms alone
one_equation : (nodes : List Node) (n a b x y : ℕ) → IsEquation nodes n a b → IsEquation nodes n x y → (a ≡ x) × (b ≡ y)
one_equation nodes n a b x y one other =
    let first = some_item (λ (it : Node). (it.head ≡ head.Eq) × (it.args ≡ a ∷ b ∷ [])) (slice_get nodes n) one in
    let second = some_item (λ (it : Node). (it.head ≡ head.Eq) × (it.args ≡ x ∷ y ∷ [])) (slice_get nodes n) other in
    let is_first : slice_get nodes n ≡ Some first.0 = first.1 in
    let is_second : slice_get nodes n ≡ Some second.0 = second.1 in
    let args_first : first.0.args ≡ a ∷ b ∷ [] = first.2.1 in
    let args_second : second.0.args ≡ x ∷ y ∷ [] = second.2.1 in
    let same : first.0 ≡ second.0 = cc in
    let args : a ∷ b ∷ [] ≡ x ∷ y ∷ [] = sym args_first ∙ ap (λ (it : Node). it.args) same ∙ args_second in
    (cc, cc)

one_negation : (nodes : List Node) (n m k : ℕ) → IsNegation nodes n m → IsNegation nodes n k → m ≡ k
one_negation nodes n m k one other =
    let first = some_item (λ (it : Node). (it.head ≡ head.Not) × (it.args ≡ m ∷ [])) (slice_get nodes n) one in
    let second = some_item (λ (it : Node). (it.head ≡ head.Not) × (it.args ≡ k ∷ [])) (slice_get nodes n) other in
    let is_first : slice_get nodes n ≡ Some first.0 = first.1 in
    let is_second : slice_get nodes n ≡ Some second.0 = second.1 in
    let args_first : first.0.args ≡ m ∷ [] = first.2.1 in
    let args_second : second.0.args ≡ k ∷ [] = second.2.1 in
    let same : first.0 ≡ second.0 = cc in
    let args : m ∷ [] ≡ k ∷ [] = sym args_first ∙ ap (λ (it : Node). it.args) same ∙ args_second in
    cc

-- and no negation
not_both : (nodes : List Node) (n a b m : ℕ) → IsEquation nodes n a b → IsNegation nodes n m → ⊥
not_both nodes n a b m one other =
    let first = some_item (λ (it : Node). (it.head ≡ head.Eq) × (it.args ≡ a ∷ b ∷ [])) (slice_get nodes n) one in
    let second = some_item (λ (it : Node). (it.head ≡ head.Not) × (it.args ≡ m ∷ [])) (slice_get nodes n) other in
    let is_first : slice_get nodes n ≡ Some first.0 = first.1 in
    let is_second : slice_get nodes n ≡ Some second.0 = second.1 in
    let head_first : first.0.head ≡ head.Eq = first.2.0 in
    let head_second : second.0.head ≡ head.Not = second.2.0 in
    let same : first.0 ≡ second.0 = cc in
    absurd cc

-- what two readings of one formula have in common
record AreOneReading (one other : Bool) (a b x y : ℕ) : Type 0 where
  plain : one ≡ other
  left : a ≡ x
  right : b ≡ y

one_reading : (nodes : List Node) (n : ℕ) (plain other : Bool) (m a b k x y : ℕ) → IsReadAs nodes n plain m a b → IsReadAs nodes n other k x y →
    AreOneReading plain other a b x y
one_reading nodes n true true m a b k x y one second =
    let sides = one_equation nodes n a b x y one.1 second.1 in record { plain = refl; left = sides.0; right = sides.1 }
one_reading nodes n true false m a b k x y one second = absurd (not_both nodes n a b k one.1 second.0)
one_reading nodes n false true m a b k x y one second = absurd (not_both nodes n x y m second.1 one.0)
one_reading nodes n false false m a b k x y one second =
    let inner = one_negation nodes n m k one.0 second.0 in
    let sides = one_equation nodes m a b x y one.1 (subst (λ (e : ℕ). IsEquation nodes e x y) (sym inner) second.1) in
    record { plain = refl; left = sides.0; right = sides.1 }

-- a source says one thing
one_source : (goal : GoalData) (k : ℕ) (holds other : Bool) (n m : ℕ) → IsSaid goal k holds n → IsSaid goal k other m → (holds ≡ other) × (n ≡ m)
one_source goal k true true n m one second = let same : Some n ≡ Some m = sym one ∙ second in (refl, cc)
one_source goal k true false n m one second =
    let within : k < length goal.hyps = slice_get_within goal.hyps k n one in absurd (omega (arith, within, second.0))
one_source goal k false true n m one second =
    let within : k < length goal.hyps = slice_get_within goal.hyps k m second in absurd (omega (arith, within, one.0))
one_source goal k false false n m one second = (refl, one.1 ∙ sym second.1)

-- two facts of one source
pub record AreAlike (one other : Fact) : Type 0 where
  pub equates : equates one ≡ equates other
  pub left : one.reading.left ≡ other.reading.left
  pub right : one.reading.right ≡ other.reading.right

pub facts_alike : (goal : GoalData) (one other : Fact) → IsFact goal one → IsFact goal other → one.source ≡ other.source → AreAlike one other
facts_alike goal one other first second same =
    let said : IsSaid goal one.source other.holds other.node =
    subst (λ (k : ℕ). IsSaid goal k other.holds other.node) (sym same) second.said in
    let source = one_source goal one.source one.holds other.holds one.node other.node first.said said in
    let holds : one.holds ≡ other.holds = source.0 in
    let read : IsReadAs goal.terms.nodes one.node other.reading.plain other.reading.equation other.reading.left other.reading.right =
    subst (λ (n : ℕ). IsReadAs goal.terms.nodes n other.reading.plain other.reading.equation other.reading.left other.reading.right)
    (sym source.1) second.reading in
    let reading = one_reading goal.terms.nodes one.node one.reading.plain other.reading.plain one.reading.equation one.reading.left
    one.reading.right other.reading.equation other.reading.left other.reading.right first.reading read in
    let plain : one.reading.plain ≡ other.reading.plain = reading.plain in
    record { equates = cc; left = reading.left; right = reading.right }

-- nothing is lost where nothing changes, nor after what loses nothing
pub KeepsPairs-same : (given : List Edge) → KeepsPairs given given
KeepsPairs-same given = record { stays = λ a b has. has }

pub KeepsPairs-through : (old mid new : List Edge) → KeepsPairs old mid → KeepsPairs mid new → KeepsPairs old new
KeepsPairs-through old mid new first second = record { stays = λ a b has. second.stays a b (first.stays a b has) }

pub Covers-stays : (goal : GoalData) (old new : List Edge) (source : ℕ) → KeepsPairs old new → Covers goal old source → Covers goal new source
Covers-stays goal old new source keeps h =
    record { each = λ fact is place e. keeps.stays fact.reading.left fact.reading.right (h.each fact is place e) }

-- a source that says nothing, or that two terms are different, gives no pair
pub Covers-nothing : (goal : GoalData) (given : List Edge) (k : ℕ) → ((fact : Fact) → IsFact goal fact → fact.source ≡ k → ⊥) → Covers goal given k
Covers-nothing goal given k none = record { each = λ fact is place e. absurd (none fact is place) }

pub Covers-difference : (goal : GoalData) (given : List Edge) (fact : Fact) (k : ℕ) → IsFact goal fact → fact.source ≡ k → equates fact ≡ false →
    Covers goal given k
Covers-difference goal given fact k is place differs = record {
  each = λ other second at e.
      let alike = facts_alike goal fact other is second (place ∙ sym at) in
      let same : equates fact ≡ equates other = alike.equates in
      absurd cc;
}

-- a source whose pair is that of an edge is covered
pub Covers-pair : (goal : GoalData) (given : List Edge) (fact : Fact) (k : ℕ) → IsFact goal fact → fact.source ≡ k →
    HasPair given fact.reading.left fact.reading.right → Covers goal given k
Covers-pair goal given fact k is place has = record {
  each = λ other second at e.
      let alike = facts_alike goal fact other is second (place ∙ sym at) in
      record { edge = has.edge; among = has.among; left = has.left ∙ alike.left; right = has.right ∙ alike.right };
}

pub CoversBelow-start : (goal : GoalData) (given : List Edge) → CoversBelow goal given 0
CoversBelow-start goal given = record { each = λ source below. absurd (omega (arith, below)) }

pub CoversBelow-step : (goal : GoalData) (old new : List Edge) (k : ℕ) → CoversBelow goal old k → KeepsPairs old new → Covers goal new k →
    CoversBelow goal new (k + 1)
CoversBelow-step goal old new k h keeps one = record {
  each = λ source below. elim (cases_eq source k) [
    | inl is ↦ subst (Covers goal new) (sym is) one
    | inr other ↦ Covers-stays goal old new source keeps (h.each source (omega (arith, below, other)))
  ];
}

pub source_within : (goal : GoalData) (k : ℕ) (holds : Bool) (n : ℕ) → IsSaid goal k holds n → k < length goal.hyps + 1
source_within goal k true n said = let within : k < length goal.hyps = slice_get_within goal.hyps k n said in omega (arith, within)
source_within goal k false n said = omega (arith, said.0)

-- once all sources are covered, so are all pairs
pub CoversAll-end : (goal : GoalData) (given : List Edge) → IsTable [] goal.terms.nodes → IsGoal goal → CoversBelow goal given (length goal.hyps + 1) →
    CoversAll goal given
CoversAll-end goal given table keeps h = record {
  each = λ a b is.
      let found = given_fact goal a b table keeps is in
      let fact : Fact = found.fact in
      let within = source_within goal fact.source fact.holds fact.node found.is.said in
      let pair = (h.each fact.source within).each fact found.is refl found.equates in
      record { edge = pair.edge; among = pair.among; left = pair.left ∙ found.left; right = pair.right ∙ found.right };
}

-- the pair of an edge that a source gives is given, and its ends are nodes
source_pair : (goal : GoalData) (edge : Edge) → IsOfSource goal edge → IsGivenEdge goal edge
source_pair goal edge h =
    subst (λ (a : ℕ). IsGiven goal a edge.right) h.left
    (subst (λ (b : ℕ). IsGiven goal h.fact.reading.left b) h.right (fact_given goal h.fact h.is h.equates))

source_ends : (goal : GoalData) (edge : Edge) → IsOfSource goal edge → HasEnds goal.terms.nodes edge
source_ends goal edge h = (
  subst (λ (a : ℕ). a < length goal.terms.nodes) h.left h.is.sorted.left,
  subst (λ (b : ℕ). b < length goal.terms.nodes) h.right h.is.sorted.right,
)

pub sources_pairs : (goal : GoalData) (given : List Edge) → All (IsOfSource goal) given → All (IsGivenEdge goal) given
sources_pairs goal given h = All-weaker (IsOfSource goal) (IsGivenEdge goal) (λ edge is. source_pair goal edge is) given h

pub sources_ends : (goal : GoalData) (given : List Edge) → All (IsOfSource goal) given → All (HasEnds goal.terms.nodes) given
sources_ends goal given h = All-weaker (IsOfSource goal) (HasEnds goal.terms.nodes) (λ edge is. source_ends goal edge is) given h

-- no edge, and one more edge of a source
pub sources_none : (goal : GoalData) (given : List Edge) → given ≡ [] → All (IsOfSource goal) given
sources_none goal given none =
    subst (λ (edges : List Edge). All (IsOfSource goal) edges) (sym none) (λ k edge below. absurd (omega (arith, below)))

pub sources_more : (goal : GoalData) (given : List Edge) (fact : Fact) (number : ℕ) → All (IsOfSource goal) given → IsFact goal fact →
    equates fact ≡ true → number ≡ fact.source + 1 →
    All (IsOfSource goal) (given ++ record { left = fact.reading.left; right = fact.reading.right; why = number } ∷ [])
sources_more goal given fact number h is equal next =
    All-push (IsOfSource goal) given (record { left = fact.reading.left; right = fact.reading.right; why = number }) h
    (record { fact = fact; is = is; equates = equal; number = next; left = refl; right = refl })

pub KeepsPairs-more : (given : List Edge) (edge : Edge) → KeepsPairs given (given ++ edge ∷ [])
KeepsPairs-more given edge = record {
  stays = λ a b has.
      record { edge = has.edge; among = Contains-append_left given (edge ∷ []) has.edge has.among; left = has.left; right = has.right };
}

last_contains : (given : List Edge) (edge : Edge) → Contains (given ++ edge ∷ []) edge
last_contains [] edge = (0, omega arith, refl)
last_contains (first ∷ given) edge =
    let rest = last_contains given edge in (suc rest.0, omega (arith, rest.1), rest.2)

pub HasPair-last : (given : List Edge) (edge : Edge) → HasPair (given ++ edge ∷ []) edge.left edge.right
HasPair-last given edge = record { edge = edge; among = last_contains given edge; left = refl; right = refl }

-- a source that says nothing, that two terms are equal, or that two are different which are not together
pub HoldsOut-nothing : (goal : GoalData) (closure : Congruence) (k : ℕ) → ((fact : Fact) → IsFact goal fact → fact.source ≡ k → ⊥) →
    HoldsOut goal closure k
HoldsOut-nothing goal closure k none = record { each = λ fact is place e together. none fact is place }

pub HoldsOut-fact : (goal : GoalData) (closure : Congruence) (fact : Fact) (k : ℕ) → IsFact goal fact → fact.source ≡ k →
    (IsRefuted goal closure fact → ⊥) → HoldsOut goal closure k
HoldsOut-fact goal closure fact k is place not_refuted = record {
  each = λ other second at e together.
      let alike = facts_alike goal fact other is second (place ∙ sym at) in
      not_refuted (record {
        is = is;
        differs = alike.equates ∙ e;
        together = subst (λ (a : ℕ). AreTogether closure.lists a fact.reading.right) (sym alike.left)
            (subst (λ (b : ℕ). AreTogether closure.lists other.reading.left b) (sym alike.right) together);
      });
}

pub HoldsOutBelow-start : (goal : GoalData) (closure : Congruence) → HoldsOutBelow goal closure 0
HoldsOutBelow-start goal closure = record { each = λ source below. absurd (omega (arith, below)) }

pub HoldsOutBelow-step : (goal : GoalData) (closure : Congruence) (k : ℕ) → HoldsOutBelow goal closure k → HoldsOut goal closure k →
    HoldsOutBelow goal closure (k + 1)
HoldsOutBelow-step goal closure k h one = record {
  each = λ source below. elim (cases_eq source k) [
    | inl is ↦ subst (HoldsOut goal closure) (sym is) one
    | inr other ↦ h.each source (omega (arith, below, other))
  ];
}

pub NoneRefuted-end : (goal : GoalData) (closure : Congruence) → IsTable [] goal.terms.nodes → IsGoal goal →
    HoldsOutBelow goal closure (length goal.hyps + 1) → NoneRefuted goal closure
NoneRefuted-end goal closure table keeps h = record {
  each = λ a b denied together.
      let found = denied_fact goal a b table keeps denied in
      let fact : Fact = found.fact in
      let within = source_within goal fact.source fact.holds fact.node found.is.said in
      (h.each fact.source within).each fact found.is refl found.equates
      (subst (λ (x : ℕ). AreTogether closure.lists x fact.reading.right) (sym found.left)
      (subst (λ (y : ℕ). AreTogether closure.lists a y) (sym found.right) together));
}

-- the same, source by source and once more
pub CoversAll-last : (goal : GoalData) (old new : List Edge) (count : ℕ) → IsTable [] goal.terms.nodes → IsGoal goal → count ≡ length goal.hyps →
    CoversBelow goal old count → KeepsPairs old new → Covers goal new count → CoversAll goal new
CoversAll-last goal old new count table goal_keeps is h keeps last =
    CoversAll-end goal new table goal_keeps
    (subst (λ (n : ℕ). CoversBelow goal new (n + 1)) is (CoversBelow-step goal old new count h keeps last))

pub NoneRefuted-last : (goal : GoalData) (closure : Congruence) (count : ℕ) → IsTable [] goal.terms.nodes → IsGoal goal → count ≡ length goal.hyps →
    HoldsOutBelow goal closure count → HoldsOut goal closure count → NoneRefuted goal closure
NoneRefuted-last goal closure count table keeps is h last =
    NoneRefuted-end goal closure table keeps
    (subst (λ (n : ℕ). HoldsOutBelow goal closure (n + 1)) is (HoldsOutBelow-step goal closure count h last))

pub goal_table : (inside goal : GoalData) → inside ≡ goal → IsTable [] inside.terms.nodes → IsTable [] goal.terms.nodes
goal_table inside goal same table = subst (λ (g : GoalData). IsTable [] g.terms.nodes) same table
