-- What it takes for a claim to follow by truth tables.
use Rattle.std.proofs.Common.{◌≡◌, ℕ, Bool, true, false, not, IsTrue, ◌↔◌, List, [], ◌∷◌, Option, Some, None, IsSome, All, refl, sym, ap, subst, ◌∙◌, inl, inr, map}
use Rattle.std.specs.Option.{option_map}
use Rattle.std.proofs.lemmas.List.Elements.{All-head, All-tail, All-nil, All-cons, All-map}
use Rattle.grind_claims.specs.declared.claim.Claim.{Claim}
use Rattle.grind_claims.specs.declared.claim.Claim.TheVariants.{Holds, Fails, Same, Differ, AtMost, Zero, Absurd}
use Rattle.std.specs.Borrow.{Bor}
use Rattle.grind_claims.specs.Claims.{claims_of}
use Rattle.grind_truth_tables.specs.Needed.{Names, NameNode}
use Rattle.grind_truth_tables.specs.Tables.{literal_truth, conclusion_truth, Follows}

-- what holds of each image holds of each item's image
all_of_map : {X Y : Type 0} (P : Y → Type 0) (f : X → Y) (xs : List X) → All P (map f xs) → All (λ x. P (f x)) xs
all_of_map P f [] h = All-nil (λ x. P (f x))
all_of_map P f (x ∷ xs) h =
    All-cons (λ x. P (f x)) x xs (All-head P (f x) (map f xs) h) (all_of_map P f xs (All-tail P (f x) (map f xs) h))

-- The premises are those that a list of references leads to.
module _ (truth : ℕ → Option Bool) (premises : List (Bor Claim)) (claim : Claim) where
  -- what holds of each premise holds of each reference
  of_claims : (P : Claim → Type 0) → All P (claims_of premises) → All (λ p. P p.now) premises
  of_claims P h = all_of_map P (λ (p : Bor Claim). p.now) premises h

  to_claims : (P : Claim → Type 0) → All (λ p. P p.now) premises → All P (claims_of premises)
  to_claims P h = All-map P (λ (p : Bor Claim). p.now) premises h

  -- a claim that is true follows
  pub true_follows : conclusion_truth truth claim ≡ Some true → All (λ p. IsSome (literal_truth truth p.now)) premises →
      Follows truth (claims_of premises) claim
  true_follows e expressed = record {
    expressed = to_claims (λ p. IsSome (literal_truth truth p)) expressed;
    concluded = rw e refl;
    follows = λ hold. e;
  }

  -- a claim that is false follows exactly where not all premises are true
  pub false_follows : (all_true : Bool) → conclusion_truth truth claim ≡ Some false →
      All (λ p. IsSome (literal_truth truth p.now)) premises →
      (IsTrue all_true ↔ All (λ p. literal_truth truth p.now ≡ Some true) premises) →
      IsTrue (not all_true) ↔ Follows truth (claims_of premises) claim
  false_follows true e expressed told = (
    λ wrong. absurd (cc wrong),
    λ h.
        let held = h.follows (to_claims (λ p. literal_truth truth p ≡ Some true) (told.0 refl)) in
        cc,
  )
  false_follows false e expressed told =
      let some : IsSome (conclusion_truth truth claim) = rw e refl in (
        λ right. record {
          expressed = to_claims (λ p. IsSome (literal_truth truth p)) expressed;
          concluded = some;
          follows = λ hold.
              let held : false ≡ true = told.1 (of_claims (λ p. literal_truth truth p ≡ Some true) hold) in
              absurd (cc held);
        },
        λ h. refl,
      )

  -- where a premise has no truth, nothing follows
  pub none_follows : (expressed : Bool) → expressed ≡ false →
      (IsTrue expressed ↔ All (λ p. IsSome (literal_truth truth p.now)) premises) →
      IsTrue false ↔ Follows truth (claims_of premises) claim
  none_follows expressed e told = (
    λ wrong. absurd (cc wrong),
    λ h.
        let shown = told.1 (of_claims (λ p. IsSome (literal_truth truth p)) h.expressed) in
        sym e ∙ shown,
  )

-- Two readings of nodes that agree on those that the claims name: what follows under one follows under the other.

literal_agrees : (one other : ℕ → Option Bool) (claim : Claim) → ((n : ℕ) → Names claim n → one n ≡ other n) →
    literal_truth one claim ≡ literal_truth other claim
literal_agrees one other (Holds n) agree = agree n refl
literal_agrees one other (Fails n) agree = ap (option_map not) (agree n refl)
literal_agrees one other (Same a b) agree = refl
literal_agrees one other (Differ a b) agree = refl
literal_agrees one other (AtMost form) agree = refl
literal_agrees one other (Zero poly) agree = refl
literal_agrees one other Absurd agree = refl

conclusion_agrees : (one other : ℕ → Option Bool) (claim : Claim) → ((n : ℕ) → Names claim n → one n ≡ other n) →
    conclusion_truth one claim ≡ conclusion_truth other claim
conclusion_agrees one other (Holds n) agree = agree n refl
conclusion_agrees one other (Fails n) agree = ap (option_map not) (agree n refl)
conclusion_agrees one other (Same a b) agree = refl
conclusion_agrees one other (Differ a b) agree = refl
conclusion_agrees one other (AtMost form) agree = refl
conclusion_agrees one other (Zero poly) agree = refl
conclusion_agrees one other Absurd agree = refl

-- what holds of one truth of each premise holds of the other
all_agree : (P : Option Bool → Type 0) (one other : ℕ → Option Bool) (premises : List Claim) →
    ((n : ℕ) → NameNode premises n → one n ≡ other n) →
    All (λ premise. P (literal_truth one premise)) premises → All (λ premise. P (literal_truth other premise)) premises
all_agree P one other [] agree h = All-nil (λ premise. P (literal_truth other premise))
all_agree P one other (first ∷ premises) agree h =
    All-cons (λ premise. P (literal_truth other premise)) first premises
    (subst P (literal_agrees one other first (λ n names. agree n (inl names)))
    (All-head (λ premise. P (literal_truth one premise)) first premises h))
    (all_agree P one other premises (λ n names. agree n (inr names))
    (All-tail (λ premise. P (literal_truth one premise)) first premises h))

pub follows_agrees : (one other : ℕ → Option Bool) (premises : List Claim) (claim : Claim) →
    ((n : ℕ) → NameNode (claim ∷ premises) n → one n ≡ other n) → Follows one premises claim → Follows other premises claim
follows_agrees one other premises claim agree h =
    let behind = λ (n : ℕ) (names : NameNode premises n). agree n (inr names) in
    let back = λ (n : ℕ) (names : NameNode premises n). sym (behind n names) in
    let same = conclusion_agrees one other claim (λ n names. agree n (inl names)) in
    record {
      expressed = all_agree (λ truth. IsSome truth) one other premises behind h.expressed;
      concluded = subst (λ truth. IsSome truth) same h.concluded;
      follows = λ hold. sym same ∙ h.follows (all_agree (λ truth. truth ≡ Some true) other one premises back hold);
    }

-- the same, for the answer of a test
pub answer_agrees : (one other : ℕ → Option Bool) (premises : List Claim) (claim : Claim) (answer : Bool) →
    ((n : ℕ) → NameNode (claim ∷ premises) n → one n ≡ other n) →
    (IsTrue answer ↔ Follows one premises claim) → IsTrue answer ↔ Follows other premises claim
answer_agrees one other premises claim answer agree told = (
  λ y. follows_agrees one other premises claim agree (told.0 y),
  λ h. told.1 (follows_agrees other one premises claim (λ n names. sym (agree n names)) h),
)
