-- The places of branches, and what stays where branches are appended to the others.
use Rattle.std.specs.Prelude.{◌≡◌, ℕ, zero, suc, ◌+◌, ◌<◌, ◌≤◌, List, ◌++◌, Option, Some, None, length, slice_get, option_and_then, refl}
use Rattle.std.specs.Option.{IsSomeAnd, option_map}
use Rattle.std.proofs.Common.{arith, sym, ap, ◌∙◌, subst, inl, inr, length-append}
use Rattle.std.proofs.lemmas.Option.{slice_get_within}
use Rattle.grind_term_graph.specs.declared.node.Node.{Node}
use Rattle.grind_claims.proofs.Growth.{some_and_then, some_and_stays, field_is_still, within_stays}
use Rattle.grind_claims.specs.declared.proof.Branch.{Branch}
use Rattle.grind_claims.specs.declared.proof.Line.{Line}
use Rattle.grind_claims.specs.declared.proof.Proof.{Proof}
use Rattle.grind_proof_kernel.specs.Typing.{branch_at, parent_of, begin_of, branch_above, Reaches, IsParent, IsFirst, IsSecond, IsInPair}
use Rattle.grind_proof_writer.specs.Branches.{IsPlacedSoFar, HasPlace}
use Rattle.grind_proof_writer.specs.Laws.{TellsStays}
use Rattle.grind_proof_writer.proofs.ListLemmas.{some_item, field_holds_stays}

-- the parent of a branch stays
pub parent_stays : (branches more : List Branch) (branch parent : ℕ) →
    parent_of branches branch ≡ Some parent → parent_of (branches ++ more) branch ≡ Some parent
parent_stays branches more zero parent h = h
parent_stays branches more (suc b) parent h = field_is_still (λ (it : Branch). it.parent) branches more b parent h

-- and was what it is
pub parent_before : (branches more : List Branch) (b parent : ℕ) → b < length branches →
    parent_of (branches ++ more) (suc b) ≡ Some parent → parent_of branches (suc b) ≡ Some parent
parent_before branches more b parent within h =
    sym (ap (option_map (λ (it : Branch). it.parent)) (within_stays branches more b within)) ∙ h

step_stays : (old new : ℕ → Option ℕ) (here there : Option ℕ) (m : ℕ) → ((n k : ℕ) → old n ≡ Some k → new n ≡ Some k) →
    ((n : ℕ) → here ≡ Some n → there ≡ Some n) → option_and_then old here ≡ Some m → option_and_then new there ≡ Some m
step_stays old new None there m step keeps h = absurd cc
step_stays old new (Some n) there m step keeps h = rw (keeps n refl) (step n m h)

-- the branch that is so many steps above stays
pub above_stays : (branches more : List Branch) (steps branch above : ℕ) →
    branch_above branches steps branch ≡ Some above → branch_above (branches ++ more) steps branch ≡ Some above
above_stays branches more zero branch above h = h
above_stays branches more (suc steps) branch above h =
    step_stays (parent_of branches) (parent_of (branches ++ more)) (branch_above branches steps branch)
    (branch_above (branches ++ more) steps branch) above (parent_stays branches more)
    (λ n e. above_stays branches more steps branch n e) h

-- and so does what a branch reaches
pub reaches_more : (branches more : List Branch) (above branch : ℕ) → Reaches branches above branch → Reaches (branches ++ more) above branch
reaches_more branches more above branch h =
    let few : h.0 ≤ length branches = h.1 in
    (h.0, simp length-append (omega arith), above_stays branches more h.0 branch above h.2)

-- one step more, from a child to its parent
above_child : (branches : List Branch) (steps child parent above : ℕ) → parent_of branches child ≡ Some parent →
    branch_above branches steps parent ≡ Some above → branch_above branches (suc steps) child ≡ Some above
above_child branches zero child parent above is h = is ∙ h
above_child branches (suc steps) child parent above is h =
    step_stays (parent_of branches) (parent_of branches) (branch_above branches steps parent) (branch_above branches (suc steps) child) above
    (λ n k e. e) (λ n e. above_child branches steps child parent n is e) h

-- a child reaches what its parent does
pub reaches_child : (branches more : List Branch) (above parent child : ℕ) → parent_of (branches ++ more) child ≡ Some parent →
    0 < length more → Reaches branches above parent → Reaches (branches ++ more) above child
reaches_child branches more above parent child is longer h =
    let few : h.0 ≤ length branches = h.1 in (
      suc h.0,
      simp length-append (omega arith),
      above_child (branches ++ more) h.0 child parent above is (above_stays branches more h.0 parent above h.2),
    )

pub tells_stays : TellsStays
tells_stays old new branch number claim grown h =
    let P : Line → Type 0 = λ line. Reaches old.branches line.branch branch × (line.claim ≡ claim) in
    let Q : Line → Type 0 = λ line. Reaches new.branches line.branch branch × (line.claim ≡ claim) in
    let more_branches : List Branch = grown.branches.0 in
    let stays = some_and_stays P old.lines grown.lines.0 number h in
    let there : IsSomeAnd (slice_get (old.lines ++ grown.lines.0) number) Q =
    some_and_then P Q (slice_get (old.lines ++ grown.lines.0) number)
    (λ line both. (
      subst (λ (branches : List Branch). Reaches branches line.branch branch) (sym grown.branches.1)
          (reaches_more old.branches more_branches line.branch branch both.0),
      both.1,
    )) stays in
    subst (λ (lines : List Line). IsSomeAnd (slice_get lines number) Q) (sym grown.lines.1) there

-- the line at which a branch begins stays
pub begin_stays : (branches more : List Branch) (branch : ℕ) (P : ℕ → Type 0) →
    IsSomeAnd (begin_of branches branch) P → IsSomeAnd (begin_of (branches ++ more) branch) P
begin_stays branches more zero P h = h
begin_stays branches more (suc b) P h = field_holds_stays (λ (it : Branch). it.after) P branches more b h

-- a branch stays where it stands
pub branch_stays : (branches more : List Branch) (branch : ℕ) (P : Branch → Type 0) →
    IsSomeAnd (branch_at branches branch) P → IsSomeAnd (branch_at (branches ++ more) branch) P
branch_stays branches more zero P h = absurd h
branch_stays branches more (suc b) P h = some_and_stays P branches more b h

-- the pair of a listed branch: its first branch, which has the same parent and beginning
pub record IsOfPair (nodes : List Node) (branches : List Branch) (lines : List Line) (b : ℕ) (it : Branch) : Type 0 where
  pub k : ℕ
  pub first : Branch
  pub stands : slice_get branches (k + k) ≡ Some first
  pub is : IsFirst nodes branches lines k first
  pub after : it.after ≡ first.after
  pub parent : it.parent ≡ first.parent
  pub number : k + k ≤ b

-- each listed branch has its place
abbrev pub ArePlaced : Proof → Type 0
ArePlaced proof = (b : ℕ) → b ≤ length proof.branches → HasPlace proof b

-- the place of a listed branch
pub place_at : (proof : Proof) (b : ℕ) (it : Branch) → ArePlaced proof → slice_get proof.branches b ≡ Some it →
    IsPlacedSoFar proof.terms.nodes proof.branches proof.lines (suc b) it
place_at proof b it places stands =
    let within : b < length proof.branches = slice_get_within proof.branches b it stands in
    let P : Branch → Type 0 = IsPlacedSoFar proof.terms.nodes proof.branches proof.lines (suc b) in
    subst (λ (o : Option Branch). IsSomeAnd o P) stands (places (suc b) (omega arith))

-- a branch of odd number is the first of its pair
pub first_at : (proof : Proof) (k : ℕ) (it : Branch) → ArePlaced proof → slice_get proof.branches (k + k) ≡ Some it →
    IsFirst proof.terms.nodes proof.branches proof.lines k it
first_at proof k it places stands =
    let place = place_at proof (k + k) it places stands in
    elim place.pair.1 [
      | inl first ↦
          let number = first.0 in
          let same : place.pair.0 ≡ k = omega arith in
          subst (λ (j : ℕ). IsFirst proof.terms.nodes proof.branches proof.lines j it) same first.1
      | inr second ↦
          let number = second.0 in
          absurd (omega arith)
    ]

branch_of_pair : (proof : Proof) (b k : ℕ) (it : Branch) → ArePlaced proof → slice_get proof.branches b ≡ Some it →
    IsInPair proof.terms.nodes proof.branches proof.lines k (suc b) it → IsOfPair proof.terms.nodes proof.branches proof.lines b it
branch_of_pair proof b k it places stands (inl first) =
    let number : suc b ≡ k + k + 1 = first.0 in
    let at : b ≡ k + k = omega arith in
    record {
      k = k;
      first = it;
      stands = subst (λ (n : ℕ). slice_get proof.branches n ≡ Some it) at stands;
      is = first.1;
      after = refl;
      parent = refl;
      number = omega arith;
    }
branch_of_pair proof b k it places stands (inr second) =
    let number : suc b ≡ k + k + 2 = second.0 in
    let next : k + k + 1 ≡ suc (k + k) = omega arith in
    let P : Branch → Type 0 = λ first. IsSecond first it in
    let found = some_item P (slice_get proof.branches (k + k))
    (subst (λ (n : ℕ). IsSomeAnd (branch_at proof.branches n) P) next second.1) in
    record {
      k = k;
      first = found.0;
      stands = found.1;
      is = first_at proof k found.0 places found.1;
      after = found.2.after;
      parent = found.2.parent;
      number = omega arith;
    }

-- each listed branch is of a pair
pub pair_at : (proof : Proof) (b : ℕ) (it : Branch) → ArePlaced proof → slice_get proof.branches b ≡ Some it →
    IsOfPair proof.terms.nodes proof.branches proof.lines b it
pair_at proof b it places stands =
    let place = place_at proof b it places stands in
    branch_of_pair proof b place.pair.0 it places stands place.pair.1

-- the parent of a pair's first branch
pub parent_of_first : (branches : List Branch) (k : ℕ) (it : Branch) → slice_get branches (k + k) ≡ Some it →
    parent_of branches (k + k + 1) ≡ Some it.parent
parent_of_first branches k it stands =
    let next : k + k + 1 ≡ suc (k + k) = omega arith in
    subst (λ (n : ℕ). parent_of branches n ≡ Some it.parent) (sym next)
    (ap (option_map (λ (first : Branch). first.parent)) stands)

-- the parent of a listed branch is the parent of a pair
pub parent_is_one : (proof : Proof) (b : ℕ) (it : Branch) → ArePlaced proof → slice_get proof.branches b ≡ Some it →
    IsParent proof.branches it.parent
parent_is_one proof b it places stands =
    let pair = pair_at proof b it places stands in (
      pair.k,
      (pair.is.other, parent_of_first proof.branches pair.k pair.first pair.stands ∙ ap Some (sym pair.parent)),
    )

-- a branch begins within the lines
pub begins_within : (proof : Proof) (b : ℕ) (it : Branch) → ArePlaced proof → slice_get proof.branches b ≡ Some it →
    it.after ≤ length proof.lines
begins_within proof b it places stands =
    let pair = pair_at proof b it places stands in
    let same = pair.after in
    let low = pair.is.within in
    omega (arith, same, low)

even_of_pair : (proof : Proof) (b k n : ℕ) (it : Branch) → length proof.branches ≡ n → n ≡ suc b →
    IsInPair proof.terms.nodes proof.branches proof.lines k (suc b) it → (m : ℕ) × (n ≡ m + m)
even_of_pair proof b k n it count is (inl first) =
    let number = first.0 in
    let other = first.1.other in
    absurd (omega (arith, count, is, number, other))
even_of_pair proof b k n it count is (inr second) =
    let number = second.0 in
    (k + 1, omega (arith, is, number))

even_count : (proof : Proof) (n : ℕ) → ArePlaced proof → length proof.branches ≡ n → (m : ℕ) × (n ≡ m + m)
even_count proof zero places count = (0, refl)
even_count proof (suc b) places count =
    let P : Branch → Type 0 = IsPlacedSoFar proof.terms.nodes proof.branches proof.lines (suc b) in
    let found = some_item P (slice_get proof.branches b) (places (suc b) (omega (arith, count))) in
    even_of_pair proof b found.2.pair.0 (suc b) found.0 count refl found.2.pair.1

-- branches come in pairs
pub pairs_counted : (proof : Proof) → ArePlaced proof → (m : ℕ) × (length proof.branches ≡ m + m)
pairs_counted proof places = even_count proof (length proof.branches) places refl
