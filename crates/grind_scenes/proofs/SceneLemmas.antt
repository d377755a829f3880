-- Classes of the nodes of a table: at first, after a merge, and what they fit.
use Rattle.std.specs.Prelude.{◌≡◌, ℕ, ◌<◌, ◌+◌, ◌⊎◌, ◌↔◌, List, [], ◌∷◌, length, Some, slice_get, slice_index_or}
use Rattle.std.proofs.Common.{arith, zero, suc, refl, sym, ap, subst, ◌∙◌, inl, inr}
use Rattle.std.proofs.lemmas.Bool.{cases_eq}
use Rattle.grind_term_graph.specs.declared.node.Node.{Node}
use Rattle.grind_term_graph.specs.Terms.{sort_at}
use Rattle.grind_term_graph.specs.Shape.{IsTermTable}
use Rattle.grind_term_graph.proofs.Tables.{args_before}
use Rattle.grind_classes.specs.Classes.{IsActive, AreTogether, AreMergedAt}
use Rattle.grind_ematch.specs.Matches.{IsScene, scene_of}
use Rattle.grind_scenes.specs.Scenes.{AreAlone, AreClassesOf, AreOfOneSort}

-- no node is active where none was activated
pub alone_at_first : (lists : List (List ℕ)) → lists ≡ [] → AreAlone lists 0
alone_at_first lists is = record {
  active = λ n. (
    λ h. let has : IsActive [] n = subst (λ (ls : List (List ℕ)). IsActive ls n) is h in absurd (omega (arith, has.1.1)),
    λ below. absurd (omega (arith, below)),
  );
  apart = λ a b h. let has : AreTogether [] a b = subst (λ (ls : List (List ℕ)). AreTogether ls a b) is h in absurd (omega (arith, has.1.1));
}

-- the next node is not active
pub next_is_new : (lists : List (List ℕ)) (n : ℕ) → AreAlone lists n → ¬ IsActive lists n
next_is_new lists n alone h = let below = (alone.active n).0 h in omega (arith, below)

-- one more node in a class of its own
pub alone_next : (old new : List (List ℕ)) (n : ℕ) → AreAlone old n
    → ((x : ℕ) → IsActive new x ↔ (IsActive old x ⊎ (x ≡ n)))
    → ((x y : ℕ) → AreTogether new x y ↔ (AreTogether old x y ⊎ ((x ≡ n) × (y ≡ n)))) → AreAlone new (n + 1)
alone_next old new n alone active together = record {
  active = λ x. (
    λ h. elim ((active x).0 h) [
      | inl was ↦ let below = (alone.active x).0 was in omega (arith, below)
      | inr is ↦ omega (arith, is)
    ],
    λ below. elim (cases_eq x n) [
      | inl is ↦ (active x).1 (inr is)
      | inr other ↦ (active x).1 (inl ((alone.active x).1 (omega (arith, below, other))))
    ],
  );
  apart = λ a b h. elim ((together a b).0 h) [
    | inl was ↦ alone.apart a b was
    | inr both ↦ both.0 ∙ sym both.1
  ];
}

-- each node in a class of its own
pub alone_classes : (nodes : List Node) (lists : List (List ℕ)) → AreAlone lists (length nodes) → AreClassesOf nodes lists
alone_classes nodes lists alone = record {
  active = alone.active;
  sorts = λ a b together. ap (sort_at nodes) (alone.apart a b together);
}

-- two classes of one sort are joined
pub joined_classes : (nodes : List Node) (old new : List (List ℕ)) (a b : ℕ) → AreClassesOf nodes old
    → sort_at nodes a ≡ sort_at nodes b → ((x : ℕ) → IsActive new x ↔ IsActive old x)
    → ((x y : ℕ) → AreMergedAt old a b new x y) → AreClassesOf nodes new
joined_classes nodes old new a b h same active together = record {
  active = λ n. (λ now. (h.active n).0 ((active n).0 now), λ below. (active n).1 ((h.active n).1 below));
  sorts = λ x y now. elim ((together x y).0 now) [
    | inl was ↦ h.sorts x y was
    | inr crossed ↦ elim crossed [
      | inl straight ↦ h.sorts x a straight.0 ∙ same ∙ h.sorts b y straight.1
      | inr turned ↦ h.sorts x b turned.0 ∙ sym same ∙ h.sorts a y turned.1
    ]
  ];
}

-- two nodes whose classes were joined are together
pub joined_together : (nodes : List Node) (old new : List (List ℕ)) (a b : ℕ) → AreClassesOf nodes old
    → AreOfOneSort nodes a b → ((x y : ℕ) → AreMergedAt old a b new x y) → AreTogether new a b
joined_together nodes old new a b h alike together =
    let first = (h.active a).1 alike.0 in
    let second = (h.active b).1 alike.1 in
    (together a b).1 (inr (inl ((first.0, first.1, first.1), (second.0, second.1, second.1))))

-- the node of a number
node_at : (nodes : List Node) (n : ℕ) → n < length nodes
    → (node : Node) × (slice_get nodes n ≡ Some node) × (node ≡ slice_index_or nodes n node)
node_at [] n less = absurd (omega arith)
node_at (node ∷ nodes) zero less = (node, refl, refl)
node_at (node ∷ nodes) (suc n) less = node_at nodes n (omega arith)

-- the classes of a table's nodes, with a generation for each, are a scene
pub scene_by : (nodes : List Node) (limit : ℕ) (lists : List (List ℕ)) (generations : List ℕ) → IsTermTable nodes limit
    → AreClassesOf nodes lists → length generations ≡ length nodes → IsScene (scene_of nodes lists generations)
scene_by nodes limit lists generations table h long = record {
  active = λ n there.
      let below = (h.active n).0 there in
      let at = node_at nodes n below in
      let lower = args_before nodes limit n at.0 table below at.2 in (
        at.0,
        at.1,
        λ k d less.
            let before = lower k d less in
            (h.active (slice_index_or at.0.args k d)).1 (omega (arith, before, below)),
      );
  sorts = h.sorts;
  generations = long;
}
