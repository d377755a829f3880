-- What follows by truth tables still does where terms are appended to the others.
use Rattle.std.proofs.Common.{◌≡◌, ℕ, Bool, true, not, Option, ◌++◌, List, [], ◌∷◌, Some, None, IsSome, suc, zero, length, refl, sym, ◌∙◌}
use Rattle.std.specs.Option.{option_map}
use Rattle.std.proofs.lemmas.List.Elements.{All-weaker}
use Rattle.grind_term_graph.specs.declared.node.Node.{Node}
use Rattle.grind_term_graph.specs.Terms.{prop, sort_at}
use Rattle.grind_claims.specs.declared.claim.Claim.{Claim}
use Rattle.grind_claims.specs.declared.claim.Claim.TheVariants.{Holds, Fails, Same, Differ, AtMost, Zero, Absurd}
use Rattle.grind_truth_tables.specs.Tables.{truth_at, node_truth, truths_of, truth_of, conclusion_truth, literal_truth, Follows, IsTableRule}
use Rattle.grind_truth_tables.specs.Laws.{TablesStay}
use Rattle.grind_claims.proofs.Growth.{formula_stays}

-- a truth that is known stays so
known_stays : (known more : List (Option Bool)) (n : ℕ) → IsSome (truth_at known n) → truth_at (known ++ more) n ≡ truth_at known n
known_stays [] more n h = absurd cc
known_stays (x ∷ known) more zero h = refl
known_stays (x ∷ known) more (suc n) h = known_stays known more n h

-- a truth that is known is that of the nodes after too
behind_stays : (free : List ℕ) (truths : List Bool) (known : List (Option Bool)) (nodes : List Node) (n : ℕ) →
    IsSome (truth_at known n) → truth_at (truths_of free truths known nodes) n ≡ truth_at known n
behind_stays free truths known [] n h = refl
behind_stays free truths known (node ∷ nodes) n h =
    let last = node_truth free truths known (length known) node ∷ [] in
    let here = known_stays known last n h in
    behind_stays free truths (known ++ last) nodes n (rw here h) ∙ here

-- the truths of the nodes and of those after
truths_go_on : (free : List ℕ) (truths : List Bool) (known : List (Option Bool)) (nodes more : List Node) →
    truths_of free truths known (nodes ++ more) ≡ truths_of free truths (truths_of free truths known nodes) more
truths_go_on free truths known [] more = refl
truths_go_on free truths known (node ∷ nodes) more =
    truths_go_on free truths (known ++ node_truth free truths known (length known) node ∷ []) nodes more

-- the truth of a node stays
truth_stays : (nodes more : List Node) (free : List ℕ) (truths : List Bool) (n : ℕ) →
    IsSome (truth_of nodes free truths n) → truth_of (nodes ++ more) free truths n ≡ truth_of nodes free truths n
truth_stays nodes more free truths n h =
    rw (truths_go_on free truths [] nodes more) (behind_stays free truths (truths_of free truths [] nodes) more n h)

-- the second function gives what the first gives where that gives something
abbrev GoesOn : (ℕ → Option Bool) → (ℕ → Option Bool) → Type 0
GoesOn old new = (n : ℕ) → IsSome (old n) → new n ≡ old n

-- a value turned round is there where the value is
some_before_not : (o : Option Bool) → IsSome (option_map not o) → IsSome o
some_before_not None h = h
some_before_not (Some b) h = refl

-- the truth of a conclusion stays
conclusion_stays : (old new : ℕ → Option Bool) (claim : Claim) → GoesOn old new →
    IsSome (conclusion_truth old claim) → conclusion_truth new claim ≡ conclusion_truth old claim
conclusion_stays old new (Holds n) on h = on n h
conclusion_stays old new (Fails n) on h = rw (on n (some_before_not (old n) h)) refl
conclusion_stays old new (Same a b) on h = refl
conclusion_stays old new (Differ a b) on h = refl
conclusion_stays old new (AtMost form) on h = refl
conclusion_stays old new (Zero poly) on h = refl
conclusion_stays old new Absurd on h = refl

-- the truth of a premise stays
premise_stays : (old new : ℕ → Option Bool) (premise : Claim) → GoesOn old new →
    IsSome (literal_truth old premise) → literal_truth new premise ≡ literal_truth old premise
premise_stays old new (Holds n) on h = on n h
premise_stays old new (Fails n) on h = rw (on n (some_before_not (old n) h)) refl
premise_stays old new (Same a b) on h = refl
premise_stays old new (Differ a b) on h = refl
premise_stays old new (AtMost form) on h = refl
premise_stays old new (Zero poly) on h = refl
premise_stays old new Absurd on h = refl

-- a premise that has a truth still has one
premise_stays_some : (old new : ℕ → Option Bool) (premise : Claim) → GoesOn old new →
    IsSome (literal_truth old premise) → IsSome (literal_truth new premise)
premise_stays_some old new premise on h = rw (premise_stays old new premise on h) h

-- a premise that is true was so, where it had a truth
premise_was : (old new : ℕ → Option Bool) (premise : Claim) → GoesOn old new →
    IsSome (literal_truth old premise) → literal_truth new premise ≡ Some true → literal_truth old premise ≡ Some true
premise_was old new premise on h e = sym (premise_stays old new premise on h) ∙ e

-- what follows still does
follows_stays : (old new : ℕ → Option Bool) (premises : List Claim) (claim : Claim) → GoesOn old new →
    Follows old premises claim → Follows new premises claim
follows_stays old new premises claim on h =
    let same = conclusion_stays old new claim on h.concluded in
    record {
      expressed = λ k d within. premise_stays_some old new _ on (h.expressed k d within);
      concluded = rw same h.concluded;
      follows = λ all. same ∙ h.follows (λ k d within. premise_was old new _ on (h.expressed k d within) (all k d within));
    }

-- what the rule lets a line claim stays so
pub table_stays : TablesStay
table_stays nodes more free premises claim h = record {
  few = h.few;
  different = h.different;
  formulas = All-weaker (λ n. sort_at nodes n ≡ Some prop) (λ n. sort_at (nodes ++ more) n ≡ Some prop)
      (λ n. formula_stays nodes more n) free h.formulas;
  always = λ truths count. follows_stays (truth_of nodes free truths) (truth_of (nodes ++ more) free truths) premises claim
      (λ n. truth_stays nodes more free truths n) (h.always truths count);
}
