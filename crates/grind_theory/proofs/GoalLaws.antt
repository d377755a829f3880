-- What holds of the terms of a goal, and which goal they make.
use Rattle.std.specs.Prelude.{◌≡◌, ◌≢◌, ℕ, ◌<◌, ◌≤◌, List, [], ◌∷◌, length, All}
use Rattle.std.specs.List.{AllPairs, AllByRecursion}
use Rattle.std.proofs.Common.{arith, sym, ap, subst, ◌∙◌}
use Rattle.std.proofs.lemmas.List.{length-map, get_or-map}
use Rattle.std.proofs.lemmas.List.Elements.{All-cons, recursion_from_All}
use Rattle.grind_term_graph.specs.declared.node.Node.{Node}
use Rattle.grind_term_graph.specs.Terms.{Terms, prop, opening as opening_nodes}
use Rattle.grind_schemes.specs.declared.goal.Constant.{Constant}
use Rattle.grind_schemes.specs.declared.scheme.Scheme.{Scheme}
use Rattle.grind_schemes.specs.Schemes.{IsScheme}
use Rattle.grind_schemes.specs.Labels.{IsLabel}
use Rattle.grind_schemes.specs.Goals.{goal_data, IsFormula, IsGoal}
use Rattle.grind_term_graph.specs.Beginnings.{BeginsWith}
use Rattle.grind_term_graph.proofs.Beginnings.{BeginsWith-refl, BeginsWith-trans, BeginsWith-length}
use Rattle.grind_schemes.specs.Instances.{interned}
use Rattle.grind_schemes.proofs.InstanceLemmas.{interned-grows, sort_at-grows}
use Rattle.grind_grammar.specs.Terms.{Term}
use Rattle.grind_signature.specs.Signatures.{SignatureData, IsDeclared}
use Rattle.grind_resolution.specs.declared.meaning.BinderKind.TheVariants as kinds
use Rattle.grind_resolution.specs.Scopes.{ScopeData, scope_data, variable_sorts, sorts_of_variables, binder_names, Gives, Given}
use Rattle.grind_resolution.specs.Resolved.{StandsFor}
use Rattle.grind_resolution.specs.Same.{AreSame}
use Rattle.grind_resolution.specs.Laws.{IsSingle}
use Rattle.grind_annotations.specs.Asking.{IsFormulaTerm}
use Rattle.grind_annotations.specs.Giving.{StandForEach}
use Rattle.grind_theory.specs.Faults.{interned_each, most_nodes}
use Rattle.grind_theory.specs.Declaring.{IsOver, ArePutAs, AreOver, AreGoalTerms, AreTooMany}
use Rattle.grind_theory.proofs.Interning.{each-same}
use Rattle.grind_theory.proofs.GoalNodes.{AreWell, IsPut, term-puts, all_alike, opening-well}

-- a goal has no variables
pub goal_formed : (scope : ScopeData) (scheme : Scheme) → scope.kind ≡ kinds.Constant → IsScheme (variable_sorts scope) scheme → IsScheme [] scheme
goal_formed scope scheme e h = subst (λ k. IsScheme (sorts_of_variables k scope.binders) scheme) e h

module _ (gives : List ℕ → Given → Type 0) (one : (t : Term) (a b : Scheme) → StandsFor gives t a → StandsFor gives t b → AreSame a b) (hyps : List Term) (show : Term) where
  -- the conclusion does not fit, or the hypotheses do not
  pub too_many : (start after : List Node) (ids : List ℕ) (limit : ℕ) → start ≡ opening_nodes → limit ≡ most_nodes → ArePutAs gives hyps start after ids
      → IsOver gives show limit after → AreTooMany gives hyps show
  too_many start after ids limit s l put over schemes last g stands =
      let same = each-same gives one hyps put.0 schemes put.1 g opening_nodes in
      let nodes : after ≡ (interned_each opening_nodes schemes).0 =
      ap (λ (x : List Node × List ℕ). x.0) put.2 ∙ ap (λ n. (interned_each n put.0).0) s ∙ ap (λ (x : List Node × List ℕ). x.0) same in
      subst (λ n. n < length (interned (interned_each opening_nodes schemes).0 [] last).0) l
      (subst (λ n. limit < length (interned n [] last).0) nodes (over last stands))

  pub too_many_hyps : (start : List Node) (limit : ℕ) → start ≡ opening_nodes → limit ≡ most_nodes → AreOver gives hyps limit start → AreTooMany gives hyps show
  too_many_hyps start limit s l over schemes last g stands =
      let big : most_nodes < length (interned_each opening_nodes schemes).0 =
      subst (λ n. n < length (interned_each opening_nodes schemes).0) l (subst (λ n. limit < length (interned_each n schemes).0) s (over schemes g)) in
      let more = BeginsWith-length (interned_each opening_nodes schemes).0 (interned (interned_each opening_nodes schemes).0 [] last).0
      (interned-grows [] last (interned_each opening_nodes schemes).0) in
      omega arith

-- names of constants that differ
pub names_differ : (ks : List Constant) → AllPairs (λ a b. a ≢ b) (binder_names ks) → AllPairs (λ (a b : Constant). a.name ≢ b.name) ks
names_differ ks h i j d l w e =
    let name : Constant → List ℕ = λ k. k.name in
    h i j d.name l (omega (arith, length-map ks name))
    (get_or-map name ks i d d.name (omega arith) ∙ e ∙ sym (get_or-map name ks j d d.name w))

module _ (s : SignatureData) (constants : List Constant) (single : IsSingle (Gives s (scope_data kinds.Constant constants))) where
  abbrev gives : List ℕ → Given → Type 0
  gives = Gives s (scope_data kinds.Constant constants)

  -- formulas that are put among declared nodes
  record AreFormulasPut (nodes : List Node) (made : List Node × List ℕ) : Type 0 where
    well : AreWell s constants made.0
    grows : BeginsWith nodes made.0
    formulas : All (IsFormula made.0) made.1

  each-puts : (terms : List Term) (schemes : List Scheme) → AllByRecursion (IsFormulaTerm gives) terms → StandForEach gives terms schemes
      → (nodes : List Node) → AreWell s constants nodes → AreFormulasPut nodes (interned_each nodes schemes)
  each-puts [] [] h m nodes all = record { well = all; grows = BeginsWith-refl nodes; formulas = λ k d l. absurd (omega arith) }
  each-puts [] (a ∷ schemes) h m nodes all = absurd m
  each-puts (t ∷ terms) [] h m nodes all = absurd m
  each-puts (t ∷ terms) (a ∷ schemes) h m nodes all =
      let made = interned nodes [] a in
      let first = term-puts s constants single t prop a h.0 m.0 nodes all in
      let rest = each-puts terms schemes h.1 m.1 made.0 first.well in
      let others = interned_each made.0 schemes in
      record {
        well = rest.well;
        grows = BeginsWith-trans nodes made.0 others.0 first.grows rest.grows;
        formulas = All-cons (IsFormula others.0) made.1 others.1 (sort_at-grows made.0 others.0 made.1 prop rest.grows first.at) rest.formulas;
      }

  formulas_grow : (nodes more : List Node) (ids : List ℕ) → BeginsWith nodes more → All (IsFormula nodes) ids → All (IsFormula more) ids
  formulas_grow nodes more ids g all = λ k d l. sort_at-grows nodes more _ prop g (all k d l)

  module _ (hyps : List Term) (show : Term) (terms : Terms) (ids : List ℕ) (id : ℕ) (all : AllByRecursion (IsFormulaTerm gives) hyps) (formula : IsFormulaTerm gives show)
      (h : AreGoalTerms gives hyps show terms ids id) where
    before : AreFormulasPut opening_nodes (h.0, ids)
    before = subst (AreFormulasPut opening_nodes) (sym (h.1).2) (each-puts hyps (h.1).0 all (h.1).1 opening_nodes (opening-well s constants))

    last : IsPut s constants h.0 prop (terms.nodes, id)
    last = subst (IsPut s constants h.0 prop) (sym (h.2).2) (term-puts s constants single show prop (h.2).0 formula (h.2).1 h.0 before.well)

    -- the nodes are declared
    pub terms-declared : AllByRecursion (IsDeclared s constants terms.nodes) terms.nodes
    terms-declared = recursion_from_All (IsDeclared s constants terms.nodes) terms.nodes (λ k d l. (last.well k d l).declared)

    -- and they make a goal, under a name
    pub terms-kept : (name : List ℕ) → IsLabel name → AllByRecursion IsLabel (binder_names constants) → AllPairs (λ a b. a ≢ b) (binder_names constants)
        → length terms.nodes ≤ terms.limit → IsGoal (goal_data name constants terms ids id)
    terms-kept name label labels differ small = record {
      name = label;
      constant_names = labelled constants labels;
      constants_differ = names_differ constants differ;
      hyps = formulas_grow h.0 terms.nodes ids last.grows before.formulas;
      show = last.at;
      size = subst (λ l. length terms.nodes ≤ l) h.3 small;
      functions = all_alike s constants terms.nodes last.well;
    }
      where
        labelled : (ks : List Constant) → AllByRecursion IsLabel (binder_names ks) → All (λ (k : Constant). IsLabel k.name) ks
        labelled [] g = λ k d l. absurd (omega arith)
        labelled (k ∷ ks) g = All-cons (λ (k : Constant). IsLabel k.name) k ks g.0 (labelled ks g.1)

-- a scope of constants is made of its binders
pub as_goal : (scope : ScopeData) → scope.kind ≡ kinds.Constant → scope_data kinds.Constant scope.binders ≡ scope
as_goal scope e = λ i. scope_data ((sym e) i) scope.binders

module _ (s : SignatureData) (scope : ScopeData) (of_goal : scope.kind ≡ kinds.Constant) (single : IsSingle (Gives s scope)) (hyps : List Term) (show : Term) (terms : Terms) (ids : List ℕ) (id : ℕ)
    (all : AllByRecursion (IsFormulaTerm (Gives s scope)) hyps) (formula : IsFormulaTerm (Gives s scope) show) (h : AreGoalTerms (Gives s scope) hyps show terms ids id) where
  back : (P : ScopeData → Type 0) → P scope → P (scope_data kinds.Constant scope.binders)
  back P p = subst P (sym (as_goal scope of_goal)) p

  pub goal-declared : AllByRecursion (IsDeclared s scope.binders terms.nodes) terms.nodes
  goal-declared =
      terms-declared s scope.binders (back (λ x. IsSingle (Gives s x)) single) hyps show terms ids id
      (back (λ x. AllByRecursion (IsFormulaTerm (Gives s x)) hyps) all) (back (λ x. IsFormulaTerm (Gives s x) show) formula)
      (back (λ x. AreGoalTerms (Gives s x) hyps show terms ids id) h)

  pub goal-kept : (name : List ℕ) → IsLabel name → AllByRecursion IsLabel (binder_names scope.binders) → AllPairs (λ a b. a ≢ b) (binder_names scope.binders)
      → length terms.nodes ≤ terms.limit → IsGoal (goal_data name scope.binders terms ids id)
  goal-kept =
      terms-kept s scope.binders (back (λ x. IsSingle (Gives s x)) single) hyps show terms ids id
      (back (λ x. AllByRecursion (IsFormulaTerm (Gives s x)) hyps) all) (back (λ x. IsFormulaTerm (Gives s x) show) formula)
      (back (λ x. AreGoalTerms (Gives s x) hyps show terms ids id) h)
