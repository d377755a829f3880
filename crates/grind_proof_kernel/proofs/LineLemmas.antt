-- The claims of the premises of a line, and what its rule makes of them.
use Rattle.std.proofs.Common.{◌≡◌, ◌↔◌, ℕ, ◌<◌, ◌+◌, suc, Bool, IsTrue, List, [], ◌∷◌, ◌++◌, Option, Some, length, All, take, slice_index_or, refl, sym, ap, ◌∙◌, subst, arith}
use Rattle.std.specs.Borrow.{Bor}
use Rattle.std.specs.Option.{option_map}
use Rattle.std.proofs.Math.Seq.{take-suc}
use Rattle.std.proofs.lemmas.Option.{slice_get-get_or}
use Rattle.grind_term_graph.specs.declared.node.Node.{Node}
use Rattle.grind_schemes.specs.Goals.{GoalData}
use Rattle.grind_schemes.specs.declared.lemmas.Lemmas.{Lemmas}
use Rattle.grind_claims.specs.declared.claim.Claim.{Claim}
use Rattle.grind_claims.specs.declared.proof.Line.{Line}
use Rattle.grind_claims.specs.declared.proof.Rule.{Rule}
use Rattle.grind_claims.specs.Claims.{claim_at, claims_of, AreClaimsAt}
use Rattle.grind_rules.specs.Rules.{RuleAllows}
use Rattle.grind_proof_kernel.specs.Typing.{LinesAllow}

-- one more line, and its claim
more_claims : (lines : List Line) (numbers : List ℕ) (claims : List (Bor Claim)) (number : ℕ) (claim : Bor Claim) →
    AreClaimsAt lines numbers (claims_of claims) → claim_at lines number ≡ Some claim.now →
    AreClaimsAt lines (numbers ++ number ∷ []) (claims_of (claims ++ claim ∷ []))
more_claims lines [] [] number claim h last = (last, tt)
more_claims lines [] (one ∷ claims) number claim h last = absurd h
more_claims lines (n ∷ numbers) [] number claim h last = absurd h
more_claims lines (n ∷ numbers) (one ∷ claims) number claim h last =
    (h.0, more_claims lines numbers claims number claim h.1 last)

-- the claim of a line that was read
pub claim_at_read : (lines : List Line) (i : ℕ) (line : Line) → i < length lines →
    claim_at lines i ≡ Some (slice_index_or lines i line).claim
claim_at_read lines i line within =
    ap (option_map (λ (at : Line). at.claim)) (slice_get-get_or lines i line within)

-- the claims of the first premises, and of one more
pub next_claims : (lines : List Line) (premises : List ℕ) (count : ℕ) (claims more : List (Bor Claim)) (claim : Bor Claim) (line : Line) →
    count < length premises → All (λ p. p < length lines) premises → more ≡ claims ++ claim ∷ [] →
    line ≡ slice_index_or lines (slice_index_or premises count 0) line → claim.now ≡ line.claim →
    AreClaimsAt lines (take count premises) (claims_of claims) → AreClaimsAt lines (take (count + 1) premises) (claims_of more)
next_claims lines premises count claims more claim line within all grown is said h =
    let number : ℕ = slice_index_or premises count 0 in
    let last : claim_at lines number ≡ Some claim.now =
    claim_at_read lines number line (all count 0 within) ∙ ap (λ (it : Line). Some it.claim) (sym is) ∙ ap Some (sym said) in
    let P : List ℕ → List (Bor Claim) → Type 0 = λ numbers them. AreClaimsAt lines numbers (claims_of them) in
    let next : suc count ≡ count + 1 = omega arith in
    let front : take count premises ++ number ∷ [] ≡ take (count + 1) premises =
    sym (take-suc premises count 0 within) ∙ ap (λ (n : ℕ). take n premises) next in
    subst (λ (them : List (Bor Claim)). P (take (count + 1) premises) them) (sym grown)
    (subst (λ (numbers : List ℕ). P numbers (claims ++ claim ∷ [])) front
    (more_claims lines (take count premises) claims number claim h last))

-- lines claim one thing each
one_each : (lines : List Line) (numbers : List ℕ) (claims others : List Claim) →
    AreClaimsAt lines numbers claims → AreClaimsAt lines numbers others → claims ≡ others
one_each lines [] [] [] h k = refl
one_each lines [] [] (c ∷ others) h k = absurd k
one_each lines [] (c ∷ claims) others h k = absurd h
one_each lines (n ∷ numbers) [] others h k = absurd h
one_each lines (n ∷ numbers) (c ∷ claims) [] h k = absurd k
one_each lines (n ∷ numbers) (c ∷ claims) (d ∷ others) h k =
    let first : Some c ≡ Some d = sym h.0 ∙ k.0 in
    let same : c ≡ d = cc in
    let rest = one_each lines numbers claims others h.1 k.1 in
    cc (same, rest)

-- a test of the claims of some lines is one of the lines
pub allowed_by_lines : (lemmas : Lemmas) (goal : GoalData) (nodes : List Node) (lines read : List Line) (literal assumed : Option Claim)
    (rule : Rule) (premises numbers : List ℕ) (claim : Claim) (claims given : List (Bor Claim)) (answer : Bool) →
    read ≡ lines → numbers ≡ premises → assumed ≡ literal → given ≡ claims → AreClaimsAt read numbers (claims_of claims) →
    (IsTrue answer ↔ RuleAllows lemmas goal nodes assumed rule (claims_of given) claim) →
    IsTrue answer ↔ LinesAllow lemmas goal nodes lines literal rule premises claim
allowed_by_lines lemmas goal nodes lines read literal assumed rule premises numbers claim claims given answer e f g h are told =
    let all : AreClaimsAt lines premises (claims_of claims) =
    subst (λ (ls : List Line). AreClaimsAt ls premises (claims_of claims)) e
    (subst (λ (ps : List ℕ). AreClaimsAt read ps (claims_of claims)) f are) in
    let decides : IsTrue answer ↔ RuleAllows lemmas goal nodes literal rule (claims_of claims) claim =
    subst (λ (it : Option Claim). IsTrue answer ↔ RuleAllows lemmas goal nodes it rule (claims_of claims) claim) g
    (subst (λ (cs : List (Bor Claim)). IsTrue answer ↔ RuleAllows lemmas goal nodes assumed rule (claims_of cs) claim) h told) in (
      λ y. (claims_of claims, all, decides.0 y),
      λ k. decides.1 (subst (λ (cs : List Claim). RuleAllows lemmas goal nodes literal rule cs claim)
          (one_each lines premises k.0 (claims_of claims) k.1 all) k.2),
    )
