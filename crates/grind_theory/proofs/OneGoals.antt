-- A declaration makes one goal, and limits of the same values are the same.
use Rattle.std.specs.Prelude.{◌≡◌, ℕ, ◌≤◌, List, []}
use mathlib.Core.HLevel.{is_prop→PathP}
use Rattle.std.proofs.Math.Path.{PathP}
use Rattle.std.specs.Coded.{le_prop}
use Rattle.std.proofs.Common.{sym, ap, ◌∙◌}
use Rattle.grind_term_graph.specs.Terms.{opening as opening_nodes}
use Rattle.grind_schemes.specs.declared.scheme.Scheme.{Scheme}
use Rattle.grind_schemes.specs.declared.limits.Limits.{Limits}
use Rattle.grind_schemes.specs.Goals.{GoalData, goal_data}
use Rattle.grind_schemes.specs.Instances.{interned}
use Rattle.grind_grammar.specs.Terms.{Term, Bound}
use Rattle.grind_signature.specs.Signatures.{SignatureData}
use Rattle.grind_resolution.specs.declared.meaning.BinderKind.TheVariants as kinds
use Rattle.grind_resolution.specs.Resolved.{StandsFor}
use Rattle.grind_resolution.specs.Same.{AreSame}
use Rattle.grind_theory.specs.States.{Names, LimitsData, limits_data}
use Rattle.grind_theory.specs.Faults.{IsGoalOf, interned_each}
use Rattle.grind_theory.proofs.Interning.{each-same, interned-same}

module _ (s : SignatureData) (bounds : List Bound)
    (one : (t : Term) (a b : Scheme) → StandsFor (Names kinds.Constant s bounds) t a → StandsFor (Names kinds.Constant s bounds) t b → AreSame a b) where
  pub one_goal : (name : List ℕ) (hyps : List Term) (show : Term) (g h : GoalData) → IsGoalOf s name bounds hyps show g → IsGoalOf s name bounds hyps show h → g ≡ h
  one_goal name hyps show g h p q =
      let m = p.nodes in
      let n = q.nodes in
      let lists = each-same (Names kinds.Constant s bounds) one hyps m.0 n.0 m.2 n.2 opening_nodes in
      let shown : (g.terms.nodes, g.show) ≡ (h.terms.nodes, h.show) =
      m.5 ∙ (λ i. interned (lists i).0 [] m.1) ∙ interned-same m.1 n.1 (one show m.1 n.1 m.3 n.3) (interned_each opening_nodes n.0).0 ∙ sym n.5 in
      let put : g.hyps ≡ h.hyps = m.4 ∙ (λ i. (lists i).1) ∙ sym n.4 in
      let named = p.name_is ∙ sym q.name_is in
      let constants = p.constants_are ∙ sym q.constants_are in
      let limit = p.limit ∙ sym q.limit in
      λ i. goal_data (named i) (constants i) (record { nodes = (shown i).0; limit = limit i }) (put i) (shown i).1

-- a number is in range in one way
in_range : (m x y : ℕ) (e : x ≡ y) (p : x ≤ m) (q : y ≤ m) → PathP (λ i. e i ≤ m) p q
in_range m x y e p q = is_prop→PathP (λ i. e i ≤ m) (λ i. le_prop) p q

-- limits of the same values are the same
pub same_limits : (a b : Limits) → limits_data a ≡ limits_data b → a ≡ b
same_limits a b e =
    let splits = ap (λ (x : LimitsData). x.splits) e in
    let generation = ap (λ (x : LimitsData). x.generation) e in
    let instances = ap (λ (x : LimitsData). x.instances) e in
    let cuts = ap (λ (x : LimitsData). x.cuts) e in
    let pairs = ap (λ (x : LimitsData). x.pairs) e in
    λ i. record {
      splits = splits i;
      generation = generation i;
      instances = instances i;
      cuts = cuts i;
      pairs = pairs i;
      splits_in_range = in_range 12 a.splits b.splits splits a.splits_in_range b.splits_in_range i;
      generation_in_range = in_range 20 a.generation b.generation generation a.generation_in_range b.generation_in_range i;
      instances_in_range = in_range 2000 a.instances b.instances instances a.instances_in_range b.instances_in_range i;
      cuts_in_range = in_range 10000 a.cuts b.cuts cuts a.cuts_in_range b.cuts_in_range i;
      pairs_in_range = in_range 2000 a.pairs b.pairs pairs a.pairs_in_range b.pairs_in_range i;
    }
