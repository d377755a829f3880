-- What a table of values that respects the terms says of one node, of a claim and of premises.
use Rattle.std.specs.Prelude.{◌≡◌, ◌↔◌, ℕ, List, [], ◌∷◌, Option, Some, None, IfSome, map, slice_get, ℤ, refl}
use Rattle.std.specs.Option.{IsSomeAnd, option_and_then, option_map}
use Rattle.std.proofs.Common.{sym, ap, ◌∙◌, subst, inl, inr}
use Rattle.std.proofs.lemmas.Option.{same_Some, none-some}
use Rattle.grind_term_graph.specs.declared.head.Head.{Head}
use Rattle.grind_term_graph.specs.declared.head.Head.TheVariants as head
use Rattle.grind_term_graph.specs.declared.node.Node.{Node}
use Rattle.grind_term_graph.specs.Terms.{prop, sort_at}
use Rattle.grind_term_graph.specs.Shape.{IsBegun}
use Rattle.grind_claims.specs.declared.claim.Claim.{Claim}
use Rattle.grind_term_rules.specs.TermRules.{IsEquation, IsEquationOf, IsNumber}
use Rattle.grind_value_tables.specs.Respects.{one, zero_value, IsTruthValue, Means, Respects}
use Rattle.grind_value_tables.specs.Truths.{ClaimTrue}

-- the premises are true
abbrev pub PremisesHold : (ℕ → ℤ) → List Claim → Type 0
PremisesHold v [] = Unit {0}
PremisesHold v (premise ∷ premises) = ClaimTrue v premise × PremisesHold v premises

-- nothing is both true and false
pub false≢one : (z : ℤ) → z ≡ zero_value → z ≡ one → ⊥
false≢one z e f = let both : zero_value ≡ one = sym e ∙ f in absurd cc

-- a truth value that is not 1 is 0
pub false_unless : (z : ℤ) → IsTruthValue z → (z ≡ one → ⊥) → z ≡ zero_value
false_unless z (inl e) h = e
false_unless z (inr e) h = absurd (h e)

-- what stands in a chain of two options
pub chained : {A B : Type 0} (f : A → Option B) (o : Option A) (x : B) → option_and_then f o ≡ Some x
    → (y : A) × (o ≡ Some y) × (f y ≡ Some x)
chained f None x e = absurd (none-some x e)
chained f (Some y) x e = (y, refl, e)

-- the item of which something holds
pub IsSomeAnd-item : {X : Type 0} (o : Option X) (P : X → Type 0) → IsSomeAnd o P → (x : X) × (o ≡ Some x) × P x
IsSomeAnd-item None P h = absurd h
IsSomeAnd-item (Some x) P h = (x, refl, h)

module _ (v : ℕ → ℤ) where
  -- a claim by another name
  pub claim_is : (claim other : Claim) → claim ≡ other → ClaimTrue v other → ClaimTrue v claim
  claim_is claim other e h = subst (ClaimTrue v) (sym e) h

  -- premises by their names
  pub premises_are : (premises others : List Claim) → premises ≡ others → PremisesHold v premises → PremisesHold v others
  premises_are premises others e h = subst (PremisesHold v) e h

  pub premise_is : (premise claim : Claim) → premise ≡ claim → ClaimTrue v premise → ClaimTrue v claim
  premise_is premise claim e h = subst (ClaimTrue v) e h

module _ (nodes : List Node) (v : ℕ → ℤ) (respects : Respects nodes v) where
  -- the value of a node by its head and its arguments
  pub means_of : (n : ℕ) (node : Node) (its_head : Head) (args : List ℕ) → slice_get nodes n ≡ Some node
      → node.head ≡ its_head → node.args ≡ args → Means its_head (map v args) (v n)
  means_of n node its_head args is e f =
      subst (λ xs. Means its_head (map v xs) (v n)) f
      (subst (λ h. Means h (map v node.args) (v n)) e (respects.heads n node is))

  -- an equation is true exactly where its sides have one value
  pub equation_value : (n a b : ℕ) → IsEquation nodes n a b → (v n ≡ one) ↔ (v a ≡ v b)
  equation_value n a b equation =
      let it = IsSomeAnd-item (slice_get nodes n) (λ (it : Node). (it.head ≡ head.Eq) × (it.args ≡ a ∷ b ∷ [])) equation in
      means_of n it.0 head.Eq (a ∷ b ∷ []) it.1 it.2.0 it.2.1

  -- in either order
  pub equation_of_value : (n a b : ℕ) → IsEquationOf nodes n a b → (v n ≡ one) ↔ (v a ≡ v b)
  equation_of_value n a b (inl equation) = equation_value n a b equation
  equation_of_value n a b (inr equation) =
      let h = equation_value n b a equation in (λ e. sym (h.0 e), λ e. h.1 (sym e))

  -- a number has itself as its value
  pub number_value : (n : ℕ) (number : ℤ) → IsNumber nodes n number → v n ≡ number
  number_value n number is =
      let it = IsSomeAnd-item (slice_get nodes n) (λ (it : Node). it.head ≡ head.Int number) is in
      means_of n it.0 (head.Int number) it.0.args it.1 it.2 refl

  value_by_sort : (n : ℕ) (o : Option Node) → slice_get nodes n ≡ o → option_map (λ (node : Node). node.sort) o ≡ Some prop
      → IsTruthValue (v n)
  value_by_sort n None e h = absurd (none-some prop h)
  value_by_sort n (Some node) e h = respects.formulas n node e (same_Some node.sort prop h)

  -- a formula has the value 0 or 1
  pub formula_value : (n : ℕ) → sort_at nodes n ≡ Some prop → IsTruthValue (v n)
  formula_value n sort = value_by_sort n (slice_get nodes n) refl sort

  -- `True` has the value 1
  pub true_value : IsBegun nodes → v 0 ≡ one
  true_value begun =
      respects.heads 0 (record { head = head.True; sort = prop; args = [] }) (ap (λ (ns : List Node). slice_get ns 0) begun.1)

  -- and `False` 0
  pub false_value : IsBegun nodes → v 1 ≡ zero_value
  false_value begun =
      respects.heads 1 (record { head = head.False; sort = prop; args = [] }) (ap (λ (ns : List Node). slice_get ns 1) begun.1)
