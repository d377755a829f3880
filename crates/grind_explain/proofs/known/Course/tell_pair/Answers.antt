use Rattle.std.specs.Prelude.{ℕ, List, All}
use Rattle.std.specs.List.{AllZip}
use Rattle.std.proofs.Common.{sym, ◌∙◌, subst}
use Rattle.grind_classes.specs.Classes.{IsActive}
use Rattle.grind_congruence.specs.Edges.{Joins}
use Rattle.grind_proof_writer.proofs.LineLemmas.{Appends-through}
use Rattle.grind_needed_edges.specs.Numbered.{HasNumber}
use Rattle.grind_explain.proofs.NotedLemmas.{Goes-through}
use Rattle.grind_explain.proofs.KnownLemmas.{AreTold-usable, IsCong-told}
use Rattle.grind_explain.proofs.known.Course.tell_pair.Goals as goal

pub lines_of_args-requires-clause-active : goal.lines_of_args-requires-clause-active
lines_of_args-requires-clause-active c =
    let joined = c.requires.known.2 in
    subst (λ (args : List ℕ). All (IsActive c.args.self.now.closure.now.lists) args)
    (sym (c.as_slice.ensures.value ∙ c.in_ok-lefts.ensures joined.left joined.left_is))
    (c.requires.given.fits.args c.args.left joined.left c.requires.left joined.left_is)

pub lines_of_args-requires-clause-known : goal.lines_of_args-requires-clause-known
lines_of_args-requires-clause-known c =
    let joined = c.requires.known.2 in
    let R : ℕ → ℕ → Type 0 = Joins c.args.self.now.closure.now.edges c.requires.known.0 in
    let zip : AllZip R c.as_slice.result.now c.as_slice-2.result.now =
    subst (λ (xs : List ℕ). AllZip R xs c.as_slice-2.result.now) (sym (c.as_slice.ensures.value ∙ c.in_ok-lefts.ensures joined.left joined.left_is))
    (subst (λ (ys : List ℕ). AllZip R joined.left.args ys) (sym (c.as_slice-2.ensures.value ∙ c.in_ok-rights.ensures joined.right joined.right_is))
    joined.args) in
    (c.requires.known.0, c.requires.known.1, zip)

pub lines_of_args-requires-clause-planned : goal.lines_of_args-requires-clause-planned
lines_of_args-requires-clause-planned c =
    let joined = c.requires.known.2 in
    let R : ℕ → ℕ → Type 0 = HasNumber c.args.self.now.plan.now.pairs in
    subst (λ (xs : List ℕ). AllZip R xs c.as_slice-2.result.now) (sym (c.as_slice.ensures.value ∙ c.in_ok-lefts.ensures joined.left joined.left_is))
    (subst (λ (ys : List ℕ). AllZip R joined.left.args ys) (sym (c.as_slice-2.ensures.value ∙ c.in_ok-rights.ensures joined.right joined.right_is))
    (c.requires.planned joined.left joined.right joined.left_is joined.right_is))

pub put_pair-requires-clause-usable : goal.put_pair-requires-clause-usable
put_pair-requires-clause-usable c =
    AreTold-usable c.lines_of_args.new.proof c.args.self.now.writer.now.branch c.as_slice.result.now c.as_slice-2.result.now
    c.in_ok-premises.premises c.in_ok-premises.ensures.told

pub put_pair-requires-clause-allowed : goal.put_pair-requires-clause-allowed
put_pair-requires-clause-allowed c =
    let joined = c.requires.known.2 in
    IsCong-told c.args.proof.now c.lines_of_args.new.proof c.args.self.now.writer.now.branch c.args.self.now.closure.now.edges _ c.args.left
    c.args.right c.as_slice.result.now c.as_slice-2.result.now c.in_ok-premises.premises c.in_ok-premises.ensures.writes.terms joined
    (c.as_slice.ensures.value ∙ c.in_ok-lefts.ensures joined.left joined.left_is)
    (c.as_slice-2.ensures.value ∙ c.in_ok-rights.ensures joined.right joined.right_is) c.in_ok-premises.ensures.told

pub returns-in_err-put_pair-clause-writes : goal.returns-in_err-put_pair-clause-writes
returns-in_err-put_pair-clause-writes c =
    let writer = c.args.self.now.writer.now in
    Appends-through writer.lemmas.now writer.goal.now c.args.proof.now c.lines_of_args.new.proof c.put_pair.new.proof writer.branch
    c.lines_of_args.ensures.writes c.put_pair.ensures.writes

pub returns-clause-writes : goal.returns-clause-writes
returns-clause-writes c =
    let writer = c.args.self.now.writer.now in
    Appends-through writer.lemmas.now writer.goal.now c.args.proof.now c.lines_of_args.new.proof c.put_pair.new.proof writer.branch
    c.lines_of_args.ensures.writes c.put_pair.ensures.writes

pub returns-clause-goes : goal.returns-clause-goes
returns-clause-goes c =
    Goes-through c.args.proof.now c.lines_of_args.new.proof c.put_pair.new.proof c.args.told.now c.lines_of_args.new.told c.put_pair.new.told
    c.in_ok-premises.ensures.goes c.in_ok-put_pair.ensures.goes
