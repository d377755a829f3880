use Rattle.std.proofs.Common.{ℕ, List, subst}
use Rattle.grind_theory_files.specs.Reading.{IsRefusal}
use Rattle.grind_theory_files.specs.TheoryFiles.{TheoryOf, IsRefusedFor}
use Rattle.grind_theory_files.proofs.files.read_theory.Goals as goal

pub returns-in-Ok-theory_of-clause-ok : goal.returns-in-Ok-theory_of-clause-ok
returns-in-Ok-theory_of-clause-ok g c = (
  c.in-Ok.bytes,
  c.in-Ok.ensures.whole,
  c.in-Ok.ensures.within,
  subst (λ (bs : List ℕ). TheoryOf bs c.in-Ok-theory_of.theory) c.as_slice.ensures.value c.in-Ok-theory_of.ensures.ok,
)

pub returns-in-Err-Refused-clause-err : goal.returns-in-Err-Refused-clause-err
returns-in-Err-Refused-clause-err g c =
    let refused = subst (IsRefusal c.as_slice.result.now) c.in-Err-Refused.field-0-is c.in-Err-Refused.ensures.refused in (
      c.in-Ok.bytes,
      c.in-Ok.ensures.whole,
      c.in-Ok.ensures.within,
      subst (λ (bs : List ℕ). IsRefusedFor bs c.in-Err-Refused.refusal) c.as_slice.ensures.value refused,
    )
