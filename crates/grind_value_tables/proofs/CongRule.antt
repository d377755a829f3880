-- Terms of one head whose arguments have equal values have equal values.
use Rattle.std.specs.Prelude.{◌≡◌, ◌↔◌, ℕ, List, [], ◌∷◌, Option, map, take, ℤ, ◌+ℤ◌, ◌*ℤ◌, neg_ℤ, ◌≤ℤ◌, ◌⊎◌, refl}
use Rattle.std.proofs.Common.{sym, ◌∙◌, subst, inl, inr}
use Rattle.grind_term_graph.specs.declared.head.Head.{Head}
use Rattle.grind_term_graph.specs.declared.head.Head.TheVariants as head
use Rattle.grind_term_graph.specs.declared.node.Node.{Node}
use Rattle.grind_term_graph.specs.Terms.{prop, sort_at}
use Rattle.grind_term_graph.specs.Shape.{IsShaped, IsTable}
use Rattle.grind_term_graph.proofs.Tables.{WellShaped-at}
use Rattle.grind_claims.specs.declared.claim.Claim.{Claim}
use Rattle.grind_claims.specs.declared.claim.Claim.TheVariants.{Same}
use Rattle.grind_term_rules.specs.TermRules.{IsCong, SayEqual}
use Rattle.grind_value_tables.specs.Respects.{one, zero_value, IsTruthValue, Means, OfOne, OfTwo, Respects}
use Rattle.grind_value_tables.specs.Truths.{ClaimTrue}
use Rattle.grind_value_tables.proofs.Meanings.{PremisesHold, false≢one, claim_is, premise_is, means_of}

-- two truth values of which either is 1 where the other is are equal
pub truths_equal : (x y : ℤ) → IsTruthValue x → IsTruthValue y → (x ≡ one → y ≡ one) → (y ≡ one → x ≡ one) → x ≡ y
truths_equal x y (inl e) (inl f) h k = e ∙ sym f
truths_equal x y (inl e) (inr f) h k = absurd (false≢one x e (k f))
truths_equal x y (inr e) q h k = e ∙ sym (h e)

module _ (x y : ℤ) where
  module _ (p : IsTruthValue x) (q : IsTruthValue y) where
    -- one argument, or two, say when both are true
    one_truth : (P : ℤ → Type 0) (args : List ℤ) → OfOne (λ a. (x ≡ one) ↔ P a) args → OfOne (λ a. (y ≡ one) ↔ P a) args → x ≡ y
    one_truth P [] h k = absurd h
    one_truth P (a ∷ []) h k = truths_equal x y p q (λ e. k.1 (h.0 e)) (λ e. h.1 (k.0 e))
    one_truth P (a ∷ b ∷ rest) h k = absurd h

    two_truths : (P : ℤ → ℤ → Type 0) (args : List ℤ) → OfTwo (λ a b. (x ≡ one) ↔ P a b) args
        → OfTwo (λ a b. (y ≡ one) ↔ P a b) args → x ≡ y
    two_truths P [] h k = absurd h
    two_truths P (a ∷ []) h k = absurd h
    two_truths P (a ∷ b ∷ []) h k = truths_equal x y p q (λ e. k.1 (h.0 e)) (λ e. h.1 (k.0 e))
    two_truths P (a ∷ b ∷ c ∷ rest) h k = absurd h

  -- or what both are
  one_number : (f : ℤ → ℤ) (args : List ℤ) → OfOne (λ a. x ≡ f a) args → OfOne (λ a. y ≡ f a) args → x ≡ y
  one_number f [] h k = absurd h
  one_number f (a ∷ []) h k = h ∙ sym k
  one_number f (a ∷ b ∷ rest) h k = absurd h

  two_numbers : (f : ℤ → ℤ → ℤ) (args : List ℤ) → OfTwo (λ a b. x ≡ f a b) args → OfTwo (λ a b. y ≡ f a b) args → x ≡ y
  two_numbers f [] h k = absurd h
  two_numbers f (a ∷ []) h k = absurd h
  two_numbers f (a ∷ b ∷ []) h k = h ∙ sym k
  two_numbers f (a ∷ b ∷ c ∷ rest) h k = absurd h

-- a head that is no function, and has arguments, makes one value of the same values
by_head : (its_head : Head) (sort : ℕ) (sorts : List (Option ℕ)) (args : List ℤ) (x y : ℤ) → IsShaped its_head sort sorts
    → (sort ≡ prop → IsTruthValue x) → (sort ≡ prop → IsTruthValue y) → Means its_head args x → Means its_head args y
    → ((function : ℕ) → its_head ≡ head.Fun function → x ≡ y) → (sorts ≡ [] → x ≡ y) → x ≡ y
by_head head.True sort sorts args x y s p q h k f e = h ∙ sym k
by_head head.False sort sorts args x y s p q h k f e = h ∙ sym k
by_head head.Not sort sorts args x y s p q h k f e = one_truth x y (p s.0) (q s.0) (λ a. a ≡ zero_value) args h k
by_head head.And sort sorts args x y s p q h k f e = two_truths x y (p s.0) (q s.0) (λ a b. (a ≡ one) × (b ≡ one)) args h k
by_head head.Or sort sorts args x y s p q h k f e = two_truths x y (p s.0) (q s.0) (λ a b. (a ≡ one) ⊎ (b ≡ one)) args h k
by_head head.Implies sort sorts args x y s p q h k f e = two_truths x y (p s.0) (q s.0) (λ a b. a ≡ one → b ≡ one) args h k
by_head head.Eq sort sorts args x y s p q h k f e = two_truths x y (p s.0) (q s.0) (λ a b. a ≡ b) args h k
by_head head.Le sort sorts args x y s p q h k f e = two_truths x y (p s.0) (q s.0) (λ a b. a ≤ℤ b) args h k
by_head (head.Int number) sort sorts args x y s p q h k f e = h ∙ sym k
by_head head.Add sort sorts args x y s p q h k f e = two_numbers x y (λ a b. a +ℤ b) args h k
by_head head.Neg sort sorts args x y s p q h k f e = one_number x y neg_ℤ args h k
by_head head.Mul sort sorts args x y s p q h k f e = two_numbers x y (λ a b. a *ℤ b) args h k
by_head (head.Fun function) sort sorts args x y s p q h k f e = f function refl
by_head (head.Const constant) sort sorts args x y s p q h k f e = e s

consed : (x y : ℤ) (xs ys : List ℤ) → x ≡ y → xs ≡ ys → x ∷ xs ≡ y ∷ ys
consed x y xs ys p q = cc

module _ (v : ℕ → ℤ) where
  -- arguments of which premises say that they are equal, one by one, have the same values
  equal_values : (xs ys : List ℕ) (premises : List Claim) → SayEqual xs ys premises → PremisesHold v premises
      → map v xs ≡ map v ys
  equal_values [] [] [] say hold = refl
  equal_values [] [] (p ∷ ps) say hold = absurd say
  equal_values [] (b ∷ ys) ps say hold = absurd say
  equal_values (a ∷ xs) [] ps say hold = absurd say
  equal_values (a ∷ xs) (b ∷ ys) [] say hold = absurd say
  equal_values (a ∷ xs) (b ∷ ys) (p ∷ ps) say hold =
      consed (v a) (v b) (map v xs) (map v ys) (premise_is v p (Same a b) say.0 hold.0) (equal_values xs ys ps say.1 hold.1)

-- of no arguments there are no premises
no_premises : (sort : ℕ → Option ℕ) (xs ys : List ℕ) (premises : List Claim) → SayEqual xs ys premises
    → map sort xs ≡ [] → premises ≡ []
no_premises sort [] [] [] say e = refl
no_premises sort [] [] (p ∷ ps) say e = absurd say
no_premises sort [] (b ∷ ys) ps say e = absurd say
no_premises sort (a ∷ xs) ys ps say e = absurd cc

module _ (v : ℕ → ℤ) (premises : List Claim) (claim : Claim) (hold : PremisesHold v premises) (nodes : List Node)
    (respects : Respects nodes v) (table : IsTable [] nodes) where
  pub cong_sound : IsCong nodes premises claim → ClaimTrue v claim
  cong_sound rule =
      let equal : map v rule.2.args ≡ map v rule.3.args = equal_values v rule.2.args rule.3.args premises rule.10 hold in
      let shaped = (WellShaped-at [] nodes rule.0 rule.2 table rule.5).1 in
      let here = means_of nodes v respects rule.0 rule.2 rule.2.head rule.2.args rule.5 refl refl in
      let there : Means rule.2.head (map v rule.2.args) (v rule.1) =
      subst (λ xs. Means rule.2.head xs (v rule.1)) (sym equal)
      (means_of nodes v respects rule.1 rule.3 rule.2.head rule.3.args rule.6 (sym rule.7) refl) in
      claim_is v claim (Same rule.0 rule.1) rule.4
      (by_head rule.2.head rule.2.sort (map (sort_at (take rule.0 nodes)) rule.2.args) (map v rule.2.args) (v rule.0) (v rule.1)
      shaped (respects.formulas rule.0 rule.2 rule.5) (λ e. respects.formulas rule.1 rule.3 rule.6 (sym rule.8 ∙ e)) here there
      (λ function e. respects.functions rule.0 rule.1 rule.2 rule.3 rule.5 rule.6 (function, e, sym rule.7 ∙ e, equal))
      (λ none. absurd (rule.9 (no_premises (sort_at (take rule.0 nodes)) rule.2.args rule.3.args premises rule.10 none))))
