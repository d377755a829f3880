-- Lists of partial matches: what stands for both of two ways, for either, for fewer, and for none.
use Rattle.std.proofs.Common.{◌≡◌, ◌⊎◌, inl, inr, ℕ, ◌≤◌, max, arith, List, [], Option, sym, subst}
use Rattle.grind_classes.specs.Classes.{IsPartition}
use Rattle.grind_schemes.specs.Instances.{IsSubstitution}
use Rattle.grind_ematch.specs.declared.partial.Partial.{Partial}
use Rattle.grind_ematch.specs.Partials.{QueryData, Agrees, Represents, Joins, HoldsBoth, Thins}
use Rattle.grind_ematch.proofs.Along.{none_in}
use Rattle.grind_ematch.proofs.SlotLemmas.{Agrees-union, union_of_agreeing, AreSlots-union, IsBound-left, IsBound-right}

-- both ways at once, with the greater generation
unfoldable pub Both : (List ℕ → ℕ → Type 0) → (List ℕ → ℕ → Type 0) → List ℕ → ℕ → Type 0
Both P Q subst' generation = (one : ℕ) × (other : ℕ) × P subst' one × Q subst' other × (generation ≡ max one other)

max_within : (a b g most : ℕ) → g ≡ max a b → g ≤ most → (a ≤ most) × (b ≤ most)
max_within a b g most e l = (omega arith, omega arith)

max_most : (a b most : ℕ) → a ≤ most → b ≤ most → max a b ≤ most
max_most a b most l m = omega arith

max_less : (a b c d g h : ℕ) → a ≤ c → b ≤ d → g ≡ max c d → h ≤ max a b → h ≤ g
max_less a b c d g h l m e k = omega arith

module _ (query : QueryData) where
  -- partial matches that stand for the same ways
  pub Represents-same : (P Q : List ℕ → ℕ → Type 0) (V W : ℕ → Type 0) (list : List Partial)
      → ((subst' : List ℕ) (g : ℕ) → P subst' g → Q subst' g)
      → ((subst' : List ℕ) (g : ℕ) → IsSubstitution query.scene.nodes query.vars subst' → Q subst' g → g ≤ query.most → P subst' g)
      → ((variable : ℕ) → W variable → V variable)
      → Represents query P V list → Represents query Q W list
  Represents-same P Q V W list to from less h = record {
    formed = h.formed;
    bound = λ partial there variable w. h.bound partial there variable (less variable w);
    sound = λ partial there subst' agrees. to subst' partial.generation (h.sound partial there subst' agrees);
    complete = λ subst' g fits q within. h.complete subst' g fits (from subst' g fits q within) within;
  }

  -- none stand for no way
  pub Represents-none : (Q : List ℕ → ℕ → Type 0) (W : ℕ → Type 0)
      → ((subst' : List ℕ) (g : ℕ) → IsSubstitution query.scene.nodes query.vars subst' → Q subst' g → g ≤ query.most → ⊥)
      → Represents query Q W []
  Represents-none Q W never = record {
    formed = λ partial there. absurd (none_in partial there);
    bound = λ partial there variable w. absurd (none_in partial there);
    sound = λ partial there subst' agrees. absurd (none_in partial there);
    complete = λ subst' g fits q within. absurd (never subst' g fits q within);
  }

  -- fewer that stand for the same ways
  pub Represents-thin : (P : List ℕ → ℕ → Type 0) (W : ℕ → Type 0) (list thin : List Partial) → Thins list thin
      → Represents query P W list → Represents query P W thin
  Represents-thin P W list thin t h = record {
    formed = λ partial there. h.formed partial (t.from partial there);
    bound = λ partial there variable w. h.bound partial (t.from partial there) variable w;
    sound = λ partial there subst' agrees. h.sound partial (t.from partial there) subst' agrees;
    complete = λ subst' g fits p within.
        let found = h.complete subst' g fits p within in
        let other = t.all found.0 found.1 in (
          other.0,
          other.1,
          subst (λ (slots : List (Option ℕ)). Agrees query.scene slots subst') (sym other.2) found.2,
          trans_le other.0.generation found.0.generation g other.3 found.3,
        );
  }
    where
      trans_le : (a b c : ℕ) → a ≤ b → b ≤ c → a ≤ c
      trans_le a b c l m = omega arith

  -- those of either way
  pub Represents-either : (P Q R : List ℕ → ℕ → Type 0) (W : ℕ → Type 0) (left right list : List Partial)
      → HoldsBoth left right list
      → ((subst' : List ℕ) (g : ℕ) → P subst' g → R subst' g) → ((subst' : List ℕ) (g : ℕ) → Q subst' g → R subst' g)
      → ((subst' : List ℕ) (g : ℕ) → R subst' g → P subst' g ⊎ Q subst' g)
      → Represents query P W left → Represents query Q W right → Represents query R W list
  Represents-either P Q R W left right list t first second either h k = record {
    formed = λ partial there. elim (t.from partial there) [ inl l ↦ h.formed partial l | inr r ↦ k.formed partial r ];
    bound = λ partial there variable w.
        elim (t.from partial there) [ inl l ↦ h.bound partial l variable w | inr r ↦ k.bound partial r variable w ];
    sound = λ partial there subst' agrees. elim (t.from partial there) [
      | inl l ↦ first subst' partial.generation (h.sound partial l subst' agrees)
      | inr r ↦ second subst' partial.generation (k.sound partial r subst' agrees)
    ];
    complete = λ subst' g fits q within. elim (either subst' g q) [
      | inl p ↦ let found = h.complete subst' g fits p within in (found.0, t.kept found.0 found.1, found.2, found.3)
      | inr p ↦ let found = k.complete subst' g fits p within in (found.0, t.added found.0 found.1, found.2, found.3)
    ];
  }

  -- those of both ways at once
  pub Represents-both : (P Q : List ℕ → ℕ → Type 0) (V W X : ℕ → Type 0) (left right list : List Partial)
      → IsPartition query.scene.classes → Joins left right list → ((variable : ℕ) → X variable → V variable ⊎ W variable)
      → Represents query P V left → Represents query Q W right → Represents query (Both P Q) X list
  unfolding Both
  Represents-both P Q V W X left right list partition t split h k = record {
    formed = λ partial there.
        let m = t.from partial there in
        let one = h.formed m.0 m.2 in
        let other = k.formed m.1 m.3 in
        record {
          slots = AreSlots-union query.scene query.vars m.0.slots m.1.slots partial.slots m.4 one.slots other.slots;
          generation = subst (λ (g : ℕ). g ≤ query.most) (sym m.5)
              (max_most m.0.generation m.1.generation query.most one.generation other.generation);
        };
    bound = λ partial there variable x.
        let m = t.from partial there in
        elim (split variable x) [
          | inl v ↦ IsBound-left m.0.slots m.1.slots partial.slots variable m.4 (h.bound m.0 m.2 variable v)
          | inr w ↦ IsBound-right m.0.slots m.1.slots partial.slots variable m.4 (k.bound m.1 m.3 variable w)
        ];
    sound = λ partial there subst' agrees.
        let m = t.from partial there in
        let each = Agrees-union query.scene m.0.slots m.1.slots partial.slots subst' m.4 agrees in
        (m.0.generation, m.1.generation, h.sound m.0 m.2 subst' each.0, k.sound m.1 m.3 subst' each.1, m.5);
    complete = λ subst' g fits p within.
        let bounds = max_within p.0 p.1 g query.most p.4 within in
        let l = h.complete subst' p.0 fits p.2 bounds.0 in
        let r = k.complete subst' p.1 fits p.3 bounds.1 in
        let u = union_of_agreeing query.scene partition l.0.slots r.0.slots subst' l.2 r.2 in
        let found = t.all l.0 r.0 u.0 l.1 r.1 u.1 in (
          found.0,
          found.1,
          subst (λ (slots : List (Option ℕ)). Agrees query.scene slots subst') (sym found.2) u.2,
          max_less l.0.generation r.0.generation p.0 p.1 g found.0.generation l.3 r.3 p.4 found.3,
        );
  }
