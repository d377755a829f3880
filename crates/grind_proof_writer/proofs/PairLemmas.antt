-- A pair below a leaf.
use Rattle.std.specs.Prelude.{◌≡◌, ℕ, zero, suc, ◌+◌, ◌<◌, ◌≤◌, ◌⊎◌, List, [], ◌∷◌, ◌++◌, Option, Some, All, length, slice_get, get_or, refl}
use Rattle.std.specs.Option.{IsSomeAnd, option_map}
use Rattle.std.proofs.Common.{arith, sym, ap, ◌∙◌, subst, inl, inr, length-append}
use Rattle.std.proofs.lemmas.Bool.{cases_lt, cases_eq}
use Rattle.std.proofs.lemmas.List.{append-nil}
use Rattle.std.proofs.lemmas.List.Elements.{All-weaker}
use Rattle.std.proofs.lemmas.Option.{same_Some, get_or_from_slice_get}
use Rattle.grind_term_graph.specs.declared.node.Node.{Node}
use Rattle.grind_schemes.specs.Goals.{GoalData}
use Rattle.grind_schemes.specs.declared.lemmas.Lemmas.{Lemmas}
use Rattle.grind_claims.proofs.Growth.{some_and_then, some_and_stays}
use Rattle.grind_claims.specs.declared.claim.Claim.{Claim}
use Rattle.grind_claims.specs.declared.proof.Branch.{Branch}
use Rattle.grind_claims.specs.declared.proof.Line.{Line}
use Rattle.grind_claims.specs.declared.proof.Proof.{Proof}
use Rattle.grind_claims.specs.Claims.{IsFormed}
use Rattle.grind_proof_kernel.specs.Literals.{IsLiteral, AreOpposite}
use Rattle.grind_proof_kernel.specs.Typing.{IsTypedAs, IsPairOf, IsParent, IsFirst, IsSecond, IsInPair, branch_at, parent_of, begin_of, literal_of}
use Rattle.grind_proof_kernel.specs.Laws.{Extends, TypedLinesStay}
use Rattle.grind_proof_writer.specs.Lines.{AreTyped}
use Rattle.grind_proof_writer.specs.Branches.{IsOpen, IsPlacedSoFar, IsChild, SplitsLeaf, with_pair}
use Rattle.grind_proof_writer.specs.Laws.{PairKeepsGood}
use Rattle.grind_proof_writer.proofs.ListLemmas.{some_item, some_is, within_some, behind_first, behind_second, all_some}
use Rattle.grind_proof_writer.proofs.ClosingLemmas.{IsElsewhere, unclosed_empty}
use Rattle.grind_proof_writer.proofs.PlaceLemmas.{ArePlaced, parent_stays, parent_before, reaches_child, begin_stays, branch_stays, parent_of_first, begins_within, first_at, pairs_counted}

-- an earlier pair was one before others were appended to it
pair_before : (branches more : List Branch) (j parent : ℕ) → j + j + 2 ≤ length branches → IsPairOf (branches ++ more) j parent →
    IsPairOf branches j parent
pair_before branches more j parent listed pair =
    let next : j + j + 1 ≡ suc (j + j) = omega arith in
    let there : parent_of (branches ++ more) (suc (j + j)) ≡ Some parent =
    subst (λ (n : ℕ). parent_of (branches ++ more) n ≡ Some parent) next pair.1 in
    (listed, subst (λ (n : ℕ). parent_of branches n ≡ Some parent) (sym next) (parent_before branches more (j + j) parent (omega arith) there))

-- a pair stays one
pair_stays : (branches more : List Branch) (j parent : ℕ) → IsPairOf branches j parent → IsPairOf (branches ++ more) j parent
pair_stays branches more j parent pair =
    let listed : j + j + 2 ≤ length branches = pair.0 in
    (simp length-append (omega arith), parent_stays branches more (j + j + 1) parent pair.1)

first_keeps : (nodes : List Node) (branches more : List Branch) (lines : List Line) (k : ℕ) (it : Branch) →
    IsFirst nodes branches lines k it → IsFirst nodes (branches ++ more) lines k it
first_keeps nodes branches more lines k it first =
    let listed : k + k + 2 ≤ length branches = first.other in
    record {
      other = simp length-append (omega arith);
      above = first.above;
      within = first.within;
      begins = begin_stays branches more it.parent (λ after. after ≤ it.after) first.begins;
      parent_lines = first.parent_lines;
      alone = λ j below pair. first.alone j below (pair_before branches more j it.parent (omega arith) pair);
      literal = first.literal;
      formed = first.formed;
    }

in_pair_keeps : (nodes : List Node) (branches more : List Branch) (lines : List Line) (k b : ℕ) (it : Branch) →
    IsInPair nodes branches lines k b it → IsInPair nodes (branches ++ more) lines k b it
in_pair_keeps nodes branches more lines k b it (inl first) = inl (first.0, first_keeps nodes branches more lines k it first.1)
in_pair_keeps nodes branches more lines k b it (inr second) =
    inr (second.0, branch_stays branches more (k + k + 1) (λ (first : Branch). IsSecond first it) second.1)

-- a branch begins within the lines, also where others were put after
begin_low : (proof : Proof) (more : List Branch) (branch : ℕ) → ArePlaced proof → branch ≤ length proof.branches →
    IsSomeAnd (begin_of (proof.branches ++ more) branch) (λ after. after ≤ length proof.lines)
begin_low proof more zero places few = omega arith
begin_low proof more (suc b) places few =
    let Low : ℕ → Type 0 = λ after. after ≤ length proof.lines in
    let P : Branch → Type 0 = IsPlacedSoFar proof.terms.nodes proof.branches proof.lines (suc b) in
    let found = some_item P (slice_get proof.branches b) (places (suc b) few) in
    let here : IsSomeAnd (begin_of proof.branches (suc b)) Low =
    subst (λ (o : Option Branch). IsSomeAnd (option_map (λ (it : Branch). it.after) o) Low) (sym found.1)
    (begins_within proof b found.0 places found.1) in
    begin_stays proof.branches more (suc b) Low here

-- lines stand in branches that are there
low_lines : (lemmas : Lemmas) (goal : GoalData) (proof : Proof) → AreTyped lemmas goal proof →
    All (λ (line : Line). line.branch ≤ length proof.branches) proof.lines
low_lines lemmas goal proof typed k d below =
    let found = some_item (IsTypedAs lemmas goal proof k) (slice_get proof.lines k) (typed k below) in
    let same : get_or proof.lines k d ≡ found.0 = get_or_from_slice_get proof.lines k found.0 d found.1 in
    subst (λ (line : Line). line.branch ≤ length proof.branches) (sym same) found.2.branch

elsewhere_above : (proof : Proof) (branch : ℕ) → All (λ (line : Line). line.branch ≤ length proof.branches) proof.lines →
    length proof.branches < branch → All (IsElsewhere branch) proof.lines
elsewhere_above proof branch low high =
    All-weaker (λ (line : Line). line.branch ≤ length proof.branches) (IsElsewhere branch)
    (λ line few is. omega (arith, few, is, high)) proof.lines low

-- no parent of a pair stands after the branches
no_parent_above : (proof : Proof) (branch : ℕ) → ArePlaced proof → length proof.branches < branch → IsParent proof.branches branch → ⊥
no_parent_above proof branch places high (j, (listed, is)) =
    let P : Branch → Type 0 = IsPlacedSoFar proof.terms.nodes proof.branches proof.lines (suc (j + j)) in
    let found = some_item P (slice_get proof.branches (j + j)) (places (suc (j + j)) (omega (arith, listed))) in
    let first = first_at proof j found.0 places found.1 in
    let above : found.0.parent < j + j + 1 = first.above in
    let same : found.0.parent ≡ branch =
    same_Some found.0.parent branch (sym (parent_of_first proof.branches j found.0 found.1) ∙ is) in
    omega (arith, listed, above, same, high)

module _ (proof : Proof) (parent m : ℕ) (one other : Claim) (places : ArePlaced proof) (childless : ¬ IsParent proof.branches parent)
    (stands : parent ≤ length proof.branches) (even : length proof.branches ≡ m + m) (literal : IsLiteral one)
    (formed : IsFormed proof.terms.nodes one) (opposite : AreOpposite one other)
    (low : All (λ (line : Line). line.branch ≤ length proof.branches) proof.lines) where
  abbrev first : Branch
  first = record { parent = parent; after = length proof.lines; literal = one }

  abbrev second : Branch
  second = record { parent = parent; after = length proof.lines; literal = other }

  abbrev pair : List Branch
  pair = first ∷ second ∷ []

  abbrev all : List Branch
  all = proof.branches ++ pair

  abbrev new : Proof
  new = with_pair proof parent one other

  count : length all ≡ length proof.branches + 2
  count = length-append proof.branches pair

  first_stands : slice_get all (length proof.branches) ≡ Some first
  first_stands = behind_first proof.branches (second ∷ []) first

  second_stands : slice_get all (suc (length proof.branches)) ≡ Some second
  second_stands = behind_second proof.branches first second

  first_there : slice_get all (m + m) ≡ Some first
  first_there = subst (λ (n : ℕ). slice_get all n ≡ Some first) even first_stands

  -- the new pair is of the parent
  is_pair : IsPairOf all m parent
  is_pair = (omega (arith, count, even), parent_of_first all m first first_there)

  is_first : IsFirst proof.terms.nodes all proof.lines m first
  is_first = record {
    other = omega (arith, count, even);
    above = omega (arith, stands, even);
    within = omega arith;
    begins = begin_low proof pair parent places stands;
    parent_lines = λ i h. within_some (λ (line : Line). line.branch ≡ parent) proof.lines i h;
    alone = λ j below is. childless (j, pair_before proof.branches pair j parent (omega (arith, below, even)) is);
    literal = literal;
    formed = formed;
  }

  no_line : (branch after : ℕ) → length proof.branches < branch → (i : ℕ) →
      IsSomeAnd (slice_get proof.lines i) (λ (line : Line). line.branch ≡ branch) → after ≤ i
  no_line branch after high i h =
      let found = all_some (IsElsewhere branch) (λ (line : Line). line.branch ≡ branch) proof.lines i
      (elsewhere_above proof branch low high) h in
      absurd (found.1 found.2)

  first_place : IsPlacedSoFar proof.terms.nodes all proof.lines (suc (length proof.branches)) first
  first_place = record {
    pair = (m, inl (omega (arith, even), is_first));
    stands = no_line (suc (length proof.branches)) (length proof.lines) (omega arith);
  }

  second_place : IsPlacedSoFar proof.terms.nodes all proof.lines (suc (suc (length proof.branches))) second
  second_place =
      let Q : Branch → Type 0 = λ (it : Branch). IsSecond it second in
      let number : suc (length proof.branches) ≡ m + m + 1 = omega (arith, even) in
      let at : branch_at all (m + m + 1) ≡ Some first = subst (λ (n : ℕ). branch_at all n ≡ Some first) number first_stands in
      record {
        pair = (
          m,
          inr (
            omega (arith, even),
            some_is Q (branch_at all (m + m + 1)) first at (record { parent = refl; after = refl; literal = opposite }),
          ),
        );
        stands = no_line (suc (suc (length proof.branches))) (length proof.lines) (omega arith);
      }

  old_place : (b : ℕ) → suc b ≤ length proof.branches →
      IsSomeAnd (slice_get all b) (IsPlacedSoFar proof.terms.nodes all proof.lines (suc b))
  old_place b few =
      let P : Branch → Type 0 = IsPlacedSoFar proof.terms.nodes proof.branches proof.lines (suc b) in
      let Q : Branch → Type 0 = IsPlacedSoFar proof.terms.nodes all proof.lines (suc b) in
      some_and_then P Q (slice_get all b)
      (λ it here. record {
        pair = (here.pair.0, in_pair_keeps proof.terms.nodes proof.branches pair proof.lines here.pair.0 (suc b) it here.pair.1);
        stands = here.stands;
      })
      (some_and_stays P proof.branches pair b (places (suc b) few))

  pub places_kept : ArePlaced new
  places_kept zero few = tt
  places_kept (suc b) few =
      let Q : ℕ → Type 0 = λ n. IsSomeAnd (slice_get all n) (IsPlacedSoFar proof.terms.nodes all proof.lines (suc n)) in
      elim (cases_lt b (length proof.branches)) [
        | inl old ↦ old_place b (omega (arith, old))
        | inr high ↦ elim (cases_eq b (length proof.branches)) [
          | inl is ↦ subst Q (sym is) (some_is (IsPlacedSoFar proof.terms.nodes all proof.lines (suc (length proof.branches)))
              (slice_get all (length proof.branches)) first first_stands first_place)
          | inr further ↦
              let is : b ≡ suc (length proof.branches) = omega (arith, high, further, few, count) in
              subst Q (sym is) (some_is (IsPlacedSoFar proof.terms.nodes all proof.lines (suc (suc (length proof.branches))))
              (slice_get all (suc (length proof.branches))) second second_stands second_place)
        ]
      ]

  -- the parent of a pair was one before, or is that of the new pair
  parents : (branch : ℕ) → IsParent all branch → IsParent proof.branches branch ⊎ (branch ≡ parent)
  parents branch (j, (listed, is)) = elim (cases_lt j m) [
    | inl before ↦ inl (j, pair_before proof.branches pair j branch (omega (arith, before, even)) (listed, is))
    | inr high ↦
        let same : j ≡ m = omega (arith, high, listed, count, even) in
        let there : parent_of all (m + m + 1) ≡ Some branch = subst (λ (k : ℕ). parent_of all (k + k + 1) ≡ Some branch) same is in
        inr (same_Some branch parent (sym there ∙ is_pair.1))
  ]

  child_open : (child : ℕ) → length proof.branches < child → child ≤ length all → IsOpen new child
  child_open child high few = record {
    leaf = record {
      stands = few;
      childless = λ is. elim (parents child is) [
        | inl before ↦ no_parent_above proof child places high before
        | inr same ↦ omega (arith, same, stands, high)
      ];
    };
    unclosed = unclosed_empty proof.lines child (elsewhere_above proof child low high);
  }

  child_of : (child place : ℕ) (it : Branch) → child ≡ suc place → slice_get all place ≡ Some it → it.parent ≡ parent →
      length proof.branches < child → child ≤ length all → IsChild proof new parent child it.literal
  child_of child place it number at above high few =
      let its_parent : parent_of all child ≡ Some parent =
      subst (λ (n : ℕ). parent_of all n ≡ Some parent) (sym number)
      (ap (option_map (λ (b : Branch). b.parent)) at ∙ ap Some above) in
      record {
        is_open = child_open child high few;
        literal_is = subst (λ (n : ℕ). literal_of all n ≡ Some it.literal) (sym number)
            (ap (option_map (λ (b : Branch). b.literal)) at);
        reaches = λ up way. reaches_child proof.branches pair up parent child its_parent (omega arith) way;
      }

  pub split_kept : SplitsLeaf proof new parent one other
  split_kept = record {
    is = refl;
    parent_is = (m, is_pair);
    first = child_of (length proof.branches + 1) (length proof.branches) first (omega arith) first_stands refl (omega arith)
        (omega (arith, count));
    second = child_of (length proof.branches + 2) (suc (length proof.branches)) second (omega arith) second_stands refl (omega arith)
        (omega (arith, count));
    others = record {
      leaf = λ b apart is. record {
        stands = let few = is.stands in omega (arith, few, count);
        childless = λ too. elim (parents b too) [
          | inl before ↦ is.childless before
          | inr same ↦ apart same
        ];
      };
      parent = λ b is. (is.0, pair_stays proof.branches pair is.0 b is.1);
      closed = λ b apart is. is;
      unclosed = λ b there apart is. is;
    };
  }

pub pair_keeps_good : TypedLinesStay → PairKeepsGood
pair_keeps_good stay lemmas goal proof parent one other good leaf literal formed opposite =
    let low = low_lines lemmas goal proof good.lines in
    let half = pairs_counted proof good.branches in
    let new : Proof = with_pair proof parent one other in
    let grown : Extends proof new = record {
      nodes = ([], sym (append-nil proof.terms.nodes));
      branches = (
        record { parent = parent; after = length proof.lines; literal = one }
            ∷ record { parent = parent; after = length proof.lines; literal = other } ∷ [],
        refl,
      );
      lines = ([], sym (append-nil proof.lines));
    } in (
      record {
        terms = good.terms;
        branches = places_kept proof parent half.0 one other good.branches leaf.childless leaf.stands half.1 literal formed opposite low;
        lines = λ i below. stay lemmas goal proof new i grown (good.lines i below);
      },
      split_kept proof parent half.0 one other good.branches leaf.childless leaf.stands half.1 literal formed opposite low,
    )
