-- The last line of a branch, and which branches are closed.
use Rattle.std.specs.Prelude.{◌≡◌, ◌==◌, ℕ, true, false, List, [], ◌∷◌, ◌++◌, Option, Some, All, find, reverse}
use Rattle.std.specs.Option.{IsSomeAnd}
use Rattle.std.proofs.Common.{sym, ap, ◌∙◌, subst}
use Rattle.std.proofs.lemmas.Bool.{ne_eqb, eq-eqb}
use Rattle.std.proofs.lemmas.List.{reverse-append}
use Rattle.std.proofs.lemmas.List.Elements.{All-weaker}
use Rattle.grind_claims.specs.declared.claim.Claim.TheVariants.{Absurd}
use Rattle.grind_claims.specs.declared.proof.Line.{Line}
use Rattle.grind_proof_kernel.specs.Typing.{IsClosed, last_in}
use Rattle.grind_proof_writer.specs.Laws.{AbsurdCloses}
use Rattle.grind_proof_writer.proofs.ListLemmas.{last_item, All-reverse, find_skips}

-- the line stands in another branch
abbrev pub IsElsewhere : ℕ → Line → Type 0
IsElsewhere branch line = ¬ (line.branch ≡ branch)

skips_all : (lines more : List Line) (branch : ℕ) → All (IsElsewhere branch) more →
    find (λ (line : Line). line.branch == branch) (more ++ lines) ≡ find (λ (line : Line). line.branch == branch) lines
skips_all lines more branch all =
    find_skips (λ (line : Line). line.branch == branch) more lines
    (All-weaker (IsElsewhere branch) (λ (line : Line). (line.branch == branch) ≡ false)
    (λ line other. ne_eqb line.branch branch other) more all)

-- lines of other branches leave the last line of a branch
pub last_in-more : (lines more : List Line) (branch : ℕ) → All (IsElsewhere branch) more →
    last_in (lines ++ more) branch ≡ last_in lines branch
last_in-more lines more branch all =
    ap (find (λ (line : Line). line.branch == branch)) (reverse-append lines more)
    ∙ skips_all (reverse lines) (reverse more) branch (All-reverse (IsElsewhere branch) more all)

pub closed_stays : (lines more : List Line) (branch : ℕ) → All (IsElsewhere branch) more → IsClosed lines branch → IsClosed (lines ++ more) branch
closed_stays lines more branch all closed =
    subst (λ (o : Option Line). IsSomeAnd o (λ (line : Line). line.claim ≡ Absurd)) (sym (last_in-more lines more branch all)) closed

pub closed_before : (lines more : List Line) (branch : ℕ) → All (IsElsewhere branch) more → IsClosed (lines ++ more) branch → IsClosed lines branch
closed_before lines more branch all closed =
    subst (λ (o : Option Line). IsSomeAnd o (λ (line : Line). line.claim ≡ Absurd)) (last_in-more lines more branch all) closed

-- a branch without lines is not closed
pub unclosed_empty : (lines : List Line) (branch : ℕ) → All (IsElsewhere branch) lines → ¬ IsClosed lines branch
unclosed_empty lines branch all closed = closed_before [] lines branch all closed

-- the last of all lines is the last of its branch
last_in-last : (front : List Line) (line : Line) (branch : ℕ) → line.branch ≡ branch → last_in (front ++ line ∷ []) branch ≡ Some line
last_in-last front line branch is =
    let turned : reverse (front ++ line ∷ []) ≡ line ∷ reverse front = reverse-append front (line ∷ []) in
    let test : (line.branch == branch) ≡ true = eq-eqb line.branch branch is in
    let found : last_in (front ++ line ∷ []) branch ≡ Some line = cc in
    found

pub absurd_closes : AbsurdCloses
absurd_closes proof branch number claim ends =
    let last = last_item (λ (line : Line). (line.branch ≡ branch) × (line.claim ≡ claim)) proof.lines number ends.0 ends.1 in
    let line : Line = last.1 in
    let here : last_in proof.lines branch ≡ Some line =
    ap (λ (lines : List Line). last_in lines branch) last.2 ∙ last_in-last last.0 line branch last.3.0 in (
      λ closed. sym last.3.1 ∙ subst (λ (o : Option Line). IsSomeAnd o (λ (it : Line). it.claim ≡ Absurd)) here closed,
      λ is. subst (λ (o : Option Line). IsSomeAnd o (λ (it : Line). it.claim ≡ Absurd)) (sym here) (last.3.1 ∙ is),
    )
