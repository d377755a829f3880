-- What may be used still may be where branches and lines are appended to the others.
use Rattle.std.proofs.Common.{◌≡◌, ℕ, Option, ◌≤◌, ◌++◌, List, [], ◌∷◌, Some, None, suc, zero, length, length-append, All, refl, ap, ◌∙◌, arith}
use Rattle.std.specs.Prelude.{slice_get, option_and_then}
use Rattle.std.specs.Option.{option_map}
use Rattle.std.proofs.lemmas.List.Elements.{All-head, All-tail}
use Rattle.grind_claims.specs.declared.proof.Branch.{Branch}
use Rattle.grind_claims.specs.declared.proof.Line.{Line}
use Rattle.grind_proof_kernel.specs.Typing.{IsBranch, parent_of, literal_of, branch_above, Reaches, Serves}
use Rattle.grind_claims.proofs.Growth.{some_and_stays, some_and_then, field_is_still, field_stays, field_of_some, within_stays}

-- a branch stays one
pub is_branch_stays : (branches more : List Branch) (branch : ℕ) → IsBranch branches branch → IsBranch (branches ++ more) branch
is_branch_stays branches more branch h = simp length-append (omega arith)

-- what a branch assumes stays
pub literal_stays : (branches more : List Branch) (branch : ℕ) → IsBranch branches branch →
    literal_of (branches ++ more) branch ≡ literal_of branches branch
literal_stays branches more zero h = refl
literal_stays branches more (suc b) h = ap (option_map (λ (it : Branch). it.literal)) (within_stays branches more b (omega arith))

-- the parent of a branch stays
parent_stays : (branches more : List Branch) (branch parent : ℕ) →
    parent_of branches branch ≡ Some parent → parent_of (branches ++ more) branch ≡ Some parent
parent_stays branches more zero parent h = h
parent_stays branches more (suc b) parent h = field_is_still (λ (it : Branch). it.parent) branches more b parent h

-- one more step, where both functions give it
step_stays : (old new : ℕ → Option ℕ) (here there : Option ℕ) (m : ℕ) → ((n k : ℕ) → old n ≡ Some k → new n ≡ Some k) →
    ((n : ℕ) → here ≡ Some n → there ≡ Some n) → option_and_then old here ≡ Some m → option_and_then new there ≡ Some m
step_stays old new None there m step keeps h = absurd cc
step_stays old new (Some n) there m step keeps h = rw (keeps n refl) (step n m h)

-- the branch that is so many steps above stays
above_stays : (branches more : List Branch) (steps branch above : ℕ) →
    branch_above branches steps branch ≡ Some above → branch_above (branches ++ more) steps branch ≡ Some above
above_stays branches more zero branch above h = h
above_stays branches more (suc steps) branch above h =
    step_stays (parent_of branches) (parent_of (branches ++ more)) (branch_above branches steps branch)
    (branch_above (branches ++ more) steps branch) above (parent_stays branches more)
    (λ n e. above_stays branches more steps branch n e) h

-- what a branch reaches stays
reaches_stays : (branches more : List Branch) (above branch : ℕ) →
    Reaches branches above branch → Reaches (branches ++ more) above branch
reaches_stays branches more above branch h =
    let few : h.0 ≤ length branches = h.1 in
    (h.0, simp length-append (omega arith), above_stays branches more h.0 branch above h.2)

-- a line that serves still does
pub serves_stays : (branches more_branches : List Branch) (lines more : List Line) (i branch premise : ℕ) →
    Serves branches lines i branch premise → Serves (branches ++ more_branches) (lines ++ more) i branch premise
serves_stays branches more_branches lines more i branch premise h =
    let P : Line → Type 0 = λ line. Reaches branches line.branch branch in
    let Q : Line → Type 0 = λ line. Reaches (branches ++ more_branches) line.branch branch in (
      h.0,
      some_and_then P Q (slice_get (lines ++ more) premise)
          (λ line. reaches_stays branches more_branches line.branch branch) (some_and_stays P lines more premise h.1),
    )
