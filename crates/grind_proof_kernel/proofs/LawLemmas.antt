-- The laws of typed lines, over those of claims and of rules.
use Rattle.std.proofs.Common.{◌≡◌, ℕ, ◌++◌, List, [], ◌∷◌, length, refl, sym, subst}
use Rattle.std.specs.Prelude.{slice_get}
use Rattle.std.specs.Option.{IsSomeAnd}
use Rattle.std.proofs.lemmas.List.{append-nil}
use Rattle.std.proofs.lemmas.List.Elements.{All-weaker}
use Rattle.grind_schemes.specs.Goals.{GoalData}
use Rattle.grind_schemes.specs.declared.lemmas.Lemmas.{Lemmas}
use Rattle.grind_claims.specs.declared.proof.Line.{Line}
use Rattle.grind_claims.specs.declared.proof.Proof.{Proof}
use Rattle.grind_claims.specs.Laws.{FormedStays, ClaimsStay, ClaimsCount}
use Rattle.grind_claims.proofs.Growth.{some_and_stays, some_and_then}
use Rattle.grind_rules.specs.Laws.{AllowedStays, IsPremiseCount, PremisesAreCounted}
use Rattle.grind_proof_kernel.specs.Typing.{IsTypedAs, literal_of, appended}
use Rattle.grind_proof_kernel.specs.Laws.{Extends, TypedLinesStay, TypedNextLine, TypedLinesCount}
use Rattle.grind_proof_kernel.proofs.BranchGrowth.{is_branch_stays, literal_stays, serves_stays}

module _ (formed : FormedStays) (claimed : ClaimsStay) (allowed : AllowedStays) where
  -- a line stays typed as it is
  typed_as_stays : (lemmas : Lemmas) (goal : GoalData) (old new : Proof) (i : ℕ) (line : Line) →
      Extends old new → IsTypedAs lemmas goal old i line → IsTypedAs lemmas goal new i line
  typed_as_stays lemmas goal old new i line grown h =
      let nodes = grown.nodes in
      let branches = grown.branches in
      let lines = grown.lines in
      let literal = literal_stays old.branches branches.0 line.branch h.branch in
      record {
        claim = rw nodes.1 (formed old.terms.nodes nodes.0 line.claim h.claim);
        branch = rw branches.1 (is_branch_stays old.branches branches.0 line.branch h.branch);
        premises = rw (branches.1, lines.1) (All-weaker _ _
            (λ p. serves_stays old.branches branches.0 old.lines lines.0 i line.branch p) line.premises h.premises);
        rule = (
          h.rule.0,
          rw lines.1 (claimed old.lines lines.0 line.premises h.rule.0 h.rule.1),
          rw (nodes.1, branches.1, literal)
              (allowed lemmas goal old.terms.nodes nodes.0 (literal_of old.branches line.branch) line.rule h.rule.0 line.claim h.rule.2),
        );
      }

  pub typed_lines_stay_lem : TypedLinesStay
  typed_lines_stay_lem lemmas goal old new i grown h =
      let P : List Line → Type 0 = λ lines. IsSomeAnd (slice_get lines i) (IsTypedAs lemmas goal new i) in
      subst P (sym grown.lines.1)
      (some_and_then (IsTypedAs lemmas goal old i) (IsTypedAs lemmas goal new i) (slice_get (old.lines ++ grown.lines.0) i)
      (λ line typed. typed_as_stays lemmas goal old new i line grown typed)
      (some_and_stays (IsTypedAs lemmas goal old i) old.lines grown.lines.0 i h))

  -- the line that was put at the end stands there
  last_is : {X : Type 0} (P : X → Type 0) (xs : List X) (x : X) → P x → IsSomeAnd (slice_get (xs ++ x ∷ []) (length xs)) P
  last_is P [] x h = h
  last_is P (y ∷ xs) x h = last_is P xs x h

  pub typed_next_line_lem : TypedNextLine
  typed_next_line_lem lemmas goal proof line h =
      let grown : Extends proof (appended proof line) = record {
        nodes = ([], sym (append-nil proof.terms.nodes));
        branches = ([], sym (append-nil proof.branches));
        lines = (line ∷ [], refl);
      } in
      last_is _ proof.lines line (typed_as_stays lemmas goal proof (appended proof line) (length proof.lines) line grown h)

module _ (count : ClaimsCount) (counted : PremisesAreCounted) where
  pub typed_lines_count_lem : TypedLinesCount
  typed_lines_count_lem lemmas goal proof i h =
      some_and_then (IsTypedAs lemmas goal proof i) (λ (line : Line). IsPremiseCount line.rule (length line.premises))
      (slice_get proof.lines i)
      (λ line typed. subst (IsPremiseCount line.rule) (count proof.lines line.premises typed.rule.0 typed.rule.1)
      (counted lemmas goal proof.terms.nodes (literal_of proof.branches line.branch) line.rule typed.rule.0 line.claim typed.rule.2)) h
