-- Where a run ends, from where it cannot have ended.
use Rattle.std.proofs.Common.{◌≡◌, ◌⊎◌, ℕ, ◌<◌, ◌≤◌, List, [], ◌∷◌, length, Option, Some, IfSome, refl, subst, sym, ap, ◌∙◌, inl, inr, arith}
use Rattle.std.specs.Prelude.{codes}
use Rattle.grind_command.specs.Commands.{IsSolve}
use Rattle.grind_command.specs.Statuses.{status_of}
use Rattle.grind_command.specs.declared.ending.Ending.{Ending}
use Rattle.grind_command.specs.declared.ending.Ending.TheVariants as endings
use Rattle.grind_outside.specs.Outside.{CountsFault}
use Rattle.grind_command.specs.declared.status.Status.{Status}
use Rattle.grind_command.specs.declared.status.Status.TheVariants.{AllClosed, SomeOpen, TheoryRefused, WordsRefused, ReadFault, WriteFault, Memory, ReportMalformed, TooLong}
use Rattle.grind_theory.specs.declared.theory.Theory.{Theory}
use Rattle.grind_theory_files.specs.TheoryFiles.{TheoryOf, RefusedHaveNone, ReadsTheory, ReadsNone, Stands, max_theory_bytes}
use Rattle.grind_answers.specs.Endings.{Ends, EndsOn, EndsOnTheory, Explains, IsAnswer}

-- the second items of equal lists are equal
second_is : {X : Type 0} (x y a b : X) (xs ys : List X) → x ∷ a ∷ xs ≡ y ∷ b ∷ ys → a ≡ b
second_is x y a b xs ys e = cc

-- the words name one file
pub one_name : (words : List (List ℕ)) (a b : List ℕ) → IsSolve words a → IsSolve words b → a ≡ b
one_name words a b p q = let e : codes "solve" ∷ a ∷ [] ≡ codes "solve" ∷ b ∷ [] = sym p.0 ∙ q.0 in second_is _ _ a b [] [] e

-- what ends so on a theory ends so on the bytes that are that theory
ends_on_bytes : (status : Status) (bytes : List ℕ) (theory : Theory) (old new : Option (List ℕ)) (before now : ℕ) → TheoryOf bytes theory
    → EndsOnTheory status theory old new before now → EndsOn status bytes old new before now
ends_on_bytes AllClosed bytes theory old new before now of (written, report, writes, closed) =
    (theory, written, report, record { theory_of = of; report_of = writes }, closed)
ends_on_bytes SomeOpen bytes theory old new before now of (written, report, writes, some) =
    (theory, written, report, record { theory_of = of; report_of = writes }, some)
ends_on_bytes WriteFault bytes theory old new before now of (fault, part) = (fault, (theory, of, part))
ends_on_bytes Memory bytes theory old new before now of part = inr (theory, of, part)
ends_on_bytes TheoryRefused bytes theory old new before now of e = absurd e
ends_on_bytes WordsRefused bytes theory old new before now of e = absurd e
ends_on_bytes ReadFault bytes theory old new before now of e = absurd e
ends_on_bytes ReportMalformed bytes theory old new before now of e = absurd e
ends_on_bytes TooLong bytes theory old new before now of e = absurd e

-- what ends so on the bytes that were read ends so on the file
ends_on_file : (status : Status) (content : Option (List ℕ)) (bytes : List ℕ) (read reads : ℕ) (old new : Option (List ℕ)) (before now : ℕ)
    → Stands content bytes → length bytes ≤ max_theory_bytes → EndsOn status bytes old new before now → Ends status content read reads old new before now
ends_on_file AllClosed content bytes read reads old new before now stands short e = (bytes, stands, short, e)
ends_on_file SomeOpen content bytes read reads old new before now stands short e = (bytes, stands, short, e)
ends_on_file TheoryRefused content bytes read reads old new before now stands short e = (bytes, stands, short, e)
ends_on_file WriteFault content bytes read reads old new before now stands short e = (bytes, stands, short, e)
ends_on_file Memory content bytes read reads old new before now stands short e = inr (bytes, stands, short, e)
ends_on_file WordsRefused content bytes read reads old new before now stands short e = absurd e
ends_on_file ReadFault content bytes read reads old new before now stands short e = absurd e
ends_on_file ReportMalformed content bytes read reads old new before now stands short e = absurd e
ends_on_file TooLong content bytes read reads old new before now stands short e = absurd e

-- what ends so on a theory ends so on the file that was read as that theory
pub ends_read : (status : Status) (content : Option (List ℕ)) (theory : Theory) (read reads : ℕ) (old new : Option (List ℕ)) (before now : ℕ)
    → ReadsTheory content theory → EndsOnTheory status theory old new before now → Ends status content read reads old new before now
ends_read status content theory read reads old new before now (bytes, stands, short, of) e =
    ends_on_file status content bytes read reads old new before now stands short
    (ends_on_bytes status bytes theory old new before now of e)

-- where no theory was read the run ends so, with nothing written
pub ends_unread : RefusedHaveNone → (ending : Ending) (content : Option (List ℕ)) (read reads : ℕ) (old : Option (List ℕ)) (before : ℕ)
    → ReadsNone ending content read reads → Ends (status_of ending) content read reads old old before before
ends_unread none (endings.Refused refusal) content read reads old before (bytes, stands, short, refused) =
    (bytes, stands, short, (none bytes refusal refused, refl))
ends_unread none endings.ReadFault content read reads old before counts = (counts, refl)
ends_unread none endings.TooLong content read reads old before long = (long, refl)
ends_unread none endings.Memory content read reads old before e = inl refl
ends_unread none endings.AllClosed content read reads old before e = absurd e
ends_unread none endings.SomeOpen content read reads old before e = absurd e
ends_unread none endings.WordsRefused content read reads old before e = absurd e
ends_unread none endings.WriteFault content read reads old before e = absurd e

-- and a refused file has that first fault
pub explains_unread : (ending : Ending) (content : Option (List ℕ)) (read reads : ℕ) → ReadsNone ending content read reads → Explains content ending
explains_unread (endings.Refused refusal) content read reads (bytes, stands, short, refused) = (bytes, stands, refused)
explains_unread endings.ReadFault content read reads e = tt
explains_unread endings.TooLong content read reads e = tt
explains_unread endings.Memory content read reads e = tt
explains_unread endings.AllClosed content read reads e = tt
explains_unread endings.SomeOpen content read reads e = tt
explains_unread endings.WordsRefused content read reads e = tt
explains_unread endings.WriteFault content read reads e = tt

-- what is known of the bytes that were read, where the shelf tells its bytes
the_bytes : (content : Option (List ℕ)) (stored bytes : List ℕ) → content ≡ Some stored → Stands content bytes → bytes ≡ stored
the_bytes content stored bytes e s = subst (λ (o : Option (List ℕ)). Stands o bytes) e s

-- the shelf tells more bytes than a theory file may have
abbrev IfLong : Option (List ℕ) → Type 0
IfLong content = IfSome content (λ stored. max_theory_bytes < length stored)

module _ (read reads : ℕ) (old new : Option (List ℕ)) (before now : ℕ) (content : Option (List ℕ)) (stored : List ℕ) (held : content ≡ Some stored) (quiet : ¬ CountsFault read reads) where
  -- a theory is answered
  pub ends_complete : (status : Status) (theory : Theory) → length stored ≤ max_theory_bytes → TheoryOf stored theory → ¬ CountsFault before now
      → Ends status content read reads old new before now → IsAnswer status ⊎ (status ≡ Memory)
  ends_complete AllClosed theory short of calm e = inl (inl refl)
  ends_complete SomeOpen theory short of calm e = inl (inr refl)
  ends_complete TheoryRefused theory short of calm (bytes, stands, within, (none, same)) =
      let is = the_bytes content stored bytes held stands in
      absurd (none theory (subst (λ (bs : List ℕ). TheoryOf bs theory) (sym is) of))
  ends_complete WordsRefused theory short of calm e = absurd e
  ends_complete ReadFault theory short of calm e = absurd (quiet e.0)
  ends_complete WriteFault theory short of calm (bytes, stands, within, (fault, part)) = absurd (calm fault)
  ends_complete Memory theory short of calm e = inr refl
  ends_complete ReportMalformed theory short of calm e = absurd e
  ends_complete TooLong theory short of calm e =
      let long : max_theory_bytes < length stored = subst (λ (o : Option (List ℕ)). IfLong o) held e.0 in
      absurd (omega arith)

  -- what is no theory is refused
  pub ends_refused : (status : Status) → length stored ≤ max_theory_bytes → ((theory : Theory) → ¬ TheoryOf stored theory)
      → Ends status content read reads old new before now → (status ≡ TheoryRefused) ⊎ (status ≡ Memory)
  ends_refused AllClosed short none (bytes, stands, within, (theory, written, report, solves, closed)) =
      absurd (none theory (subst (λ (bs : List ℕ). TheoryOf bs theory) (the_bytes content stored bytes held stands) solves.theory_of))
  ends_refused SomeOpen short none (bytes, stands, within, (theory, written, report, solves, some)) =
      absurd (none theory (subst (λ (bs : List ℕ). TheoryOf bs theory) (the_bytes content stored bytes held stands) solves.theory_of))
  ends_refused TheoryRefused short none e = inl refl
  ends_refused WordsRefused short none e = absurd e
  ends_refused ReadFault short none e = absurd (quiet e.0)
  ends_refused WriteFault short none (bytes, stands, within, (fault, (theory, of, part))) =
      absurd (none theory (subst (λ (bs : List ℕ). TheoryOf bs theory) (the_bytes content stored bytes held stands) of))
  ends_refused Memory short none e = inr refl
  ends_refused ReportMalformed short none e = absurd e
  ends_refused TooLong short none e =
      let long : max_theory_bytes < length stored = subst (λ (o : Option (List ℕ)). IfLong o) held e.0 in
      absurd (omega arith)

  -- a file that is too long is refused as that
  pub ends_long : (status : Status) → max_theory_bytes < length stored
      → Ends status content read reads old new before now → (status ≡ TooLong) ⊎ (status ≡ Memory)
  ends_long AllClosed long (bytes, stands, within, rest) =
      let is = the_bytes content stored bytes held stands in
      let same_length : length bytes ≡ length stored = ap length is in
      absurd (omega arith)
  ends_long SomeOpen long (bytes, stands, within, rest) =
      let is = the_bytes content stored bytes held stands in
      let same_length : length bytes ≡ length stored = ap length is in
      absurd (omega arith)
  ends_long TheoryRefused long (bytes, stands, within, rest) =
      let is = the_bytes content stored bytes held stands in
      let same_length : length bytes ≡ length stored = ap length is in
      absurd (omega arith)
  ends_long WordsRefused long e = absurd e
  ends_long ReadFault long e = absurd (quiet e.0)
  ends_long WriteFault long (bytes, stands, within, rest) =
      let is = the_bytes content stored bytes held stands in
      let same_length : length bytes ≡ length stored = ap length is in
      absurd (omega arith)
  ends_long Memory long e = inr refl
  ends_long ReportMalformed long e = absurd e
  ends_long TooLong long e = inl refl
