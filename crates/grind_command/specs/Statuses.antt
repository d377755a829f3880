-- The number of each status, and the note of each ending.
use Rattle.std.specs.Prelude.{ℕ, List, [], ◌++◌, codes, decimal}
use Rattle.grind_tokens.specs.declared.tokens.LexRefusal.{LexRefusal}
use Rattle.grind_tokens.specs.declared.tokens.LexRefusal.TheVariants as lexical
use Rattle.grind_theory.specs.declared.theory.Fault.{Fault}
use Rattle.grind_theory.specs.declared.theory.Fault.TheVariants as faults
use Rattle.grind_command.specs.declared.status.Status.{Status}
use Rattle.grind_command.specs.declared.status.Status.TheVariants as statuses
use Rattle.grind_command.specs.declared.refusal.Refusal.{Refusal}
use Rattle.grind_command.specs.declared.refusal.Refusal.TheVariants as refusals
use Rattle.grind_command.specs.declared.ending.Ending.{Ending}
use Rattle.grind_command.specs.declared.ending.Ending.TheVariants as endings

-- the status of the process
abbrev pub number_of : Status → ℕ
number_of statuses.AllClosed = 0
number_of statuses.SomeOpen = 1
number_of statuses.TheoryRefused = 2
number_of statuses.WordsRefused = 3
number_of statuses.ReadFault = 4
number_of statuses.WriteFault = 5
number_of statuses.Memory = 6
number_of statuses.ReportMalformed = 7
number_of statuses.TooLong = 8

-- the status of an ending
abbrev pub status_of : Ending → Status
status_of endings.AllClosed = statuses.AllClosed
status_of endings.SomeOpen = statuses.SomeOpen
status_of (endings.Refused refusal) = statuses.TheoryRefused
status_of endings.WordsRefused = statuses.WordsRefused
status_of endings.ReadFault = statuses.ReadFault
status_of endings.WriteFault = statuses.WriteFault
status_of endings.Memory = statuses.Memory
status_of endings.TooLong = statuses.TooLong

-- what the note of a file without tokens says before the offset; no file is refused for want of memory
abbrev pub lexical_lead : LexRefusal → List ℕ
lexical_lead (lexical.BadByte offset) = codes ": bad byte at offset "
lexical_lead (lexical.NumberTooLarge offset) = codes ": number too large at offset "
lexical_lead (lexical.NameTooLong offset) = codes ": name too long at offset "
lexical_lead lexical.Memory = codes ": out of memory at offset "

-- the offset
abbrev pub offset_of : LexRefusal → ℕ
offset_of (lexical.BadByte offset) = offset
offset_of (lexical.NumberTooLarge offset) = offset
offset_of (lexical.NameTooLong offset) = offset
offset_of lexical.Memory = 0

-- what the note of a refused file says before a number
abbrev pub lead_of : Refusal → List ℕ
lead_of (refusals.Lex refusal) = lexical_lead refusal
lead_of (refusals.Syntax decl) = codes ": declaration "
lead_of (refusals.TooDeep decl) = codes ": declaration "
lead_of (refusals.Bad decl fault) = codes ": declaration "

-- the number: of a byte, or of a declaration
abbrev pub place_of : Refusal → ℕ
place_of (refusals.Lex refusal) = offset_of refusal
place_of (refusals.Syntax decl) = decl
place_of (refusals.TooDeep decl) = decl
place_of (refusals.Bad decl fault) = decl

-- what is said of a fault
abbrev pub fault_words : Fault → List ℕ
fault_words faults.Duplicate = codes ": duplicate name\n"
fault_words faults.Unknown = codes ": unknown name\n"
fault_words faults.Arity = codes ": wrong number of arguments\n"
fault_words faults.Sort = codes ": wrong sort\n"
fault_words faults.Pattern = codes ": no pattern\n"
fault_words faults.Size = codes ": too large\n"

-- what stands after the number
abbrev pub trail_of : Refusal → List ℕ
trail_of (refusals.Lex refusal) = codes "\n"
trail_of (refusals.Syntax decl) = codes ": syntax\n"
trail_of (refusals.TooDeep decl) = codes ": nested too deep\n"
trail_of (refusals.Bad decl fault) = fault_words fault

-- what is said of a refused file
abbrev pub refusal_words : Refusal → List ℕ
refusal_words refusal = lead_of refusal ++ (decimal (place_of refusal) ++ trail_of refusal)

-- the line on the notes at an ending, for a file of that name
abbrev pub note_of : Ending → List ℕ → List ℕ
note_of endings.AllClosed name = []
note_of endings.SomeOpen name = []
note_of (endings.Refused refusal) name = codes "grind: " ++ (name ++ refusal_words refusal)
note_of endings.WordsRefused name = codes "grind: usage: solve FILE\n"
note_of endings.ReadFault name = codes "grind: cannot read " ++ (name ++ codes "\n")
note_of endings.WriteFault name = codes "grind: cannot write\n"
note_of endings.Memory name = codes "grind: out of memory\n"
note_of endings.TooLong name = codes "grind: " ++ (name ++ codes ": longer than 4194304 bytes\n")
