-- Which theory a file is, or why it is none.
use Rattle.std.specs.Prelude.{◌≡◌, ℕ, ◌<◌, ◌≤◌, List, length, Option, IfSome}
use Rattle.grind_outside.specs.Outside.{CountsFault}
use Rattle.grind_tokens.specs.declared.tokens.Token.{Token}
use Rattle.grind_tokens.specs.Tokens.{TokensOf, Breaks}
use Rattle.grind_grammar.specs.Lexemes.{lexemes}
use Rattle.grind_grammar.specs.Terms.{Declaration}
use Rattle.grind_grammar.specs.Files.{Fault, Syntax, TooDeep, DeclarationsOf}
use Rattle.grind_grammar.specs.Files as files
use Rattle.grind_theory.specs.declared.theory.Theory.{Theory}
use Rattle.grind_theory.specs.States.{opening_state}
use Rattle.grind_theory.specs.Theories.{IsTheoryOf, RefusedAt}
use Rattle.grind_theory.specs.Laws.{AreSameTheories}
use Rattle.grind_command.specs.declared.refusal.Refusal.{Refusal}
use Rattle.grind_command.specs.declared.refusal.Refusal.TheVariants as refusals
use Rattle.grind_command.specs.declared.ending.Ending.{Ending}
use Rattle.grind_command.specs.declared.ending.Ending.TheVariants as endings

-- the bytes have these tokens, and the tokens are these declarations of the grammar
pub record Declares (bytes : List ℕ) (tokens : List Token) (declarations : List Declaration) : Type 0 where
  pub tokens_of : TokensOf bytes tokens
  pub declarations_of : DeclarationsOf (lexemes bytes tokens) declarations

-- the bytes have tokens, the tokens are declarations of the grammar, and the declarations make this theory
abbrev pub TheoryOf : List ℕ → Theory → Type 0
TheoryOf bytes theory =
    (tokens : List Token) × (declarations : List Declaration) × Declares bytes tokens declarations × IsTheoryOf declarations theory

-- the bytes are no theory
abbrev pub HasNoTheory : List ℕ → Type 0
HasNoTheory bytes = (theory : Theory) → ¬ TheoryOf bytes theory

-- the bytes have tokens, and the first bad declaration has that number and this fault of the grammar
abbrev pub IsUngrammatical : List ℕ → ℕ → Fault → Type 0
IsUngrammatical bytes number fault =
    (tokens : List Token) × TokensOf bytes tokens × files.RefusedAt (lexemes bytes tokens) number fault

-- why the bytes are no theory: the first fault of the tokens, else of the grammar, else of the declarations
abbrev pub IsRefusedFor : List ℕ → Refusal → Type 0
IsRefusedFor bytes (refusals.Lex refusal) = Breaks bytes refusal
IsRefusedFor bytes (refusals.Syntax decl) = IsUngrammatical bytes decl Syntax
IsRefusedFor bytes (refusals.TooDeep decl) = IsUngrammatical bytes decl TooDeep
IsRefusedFor bytes (refusals.Bad decl fault) =
    (tokens : List Token) × (declarations : List Declaration) × Declares bytes tokens declarations
    × RefusedAt opening_state declarations decl fault

-- at most one theory stands for given bytes, but for the room that the schemes of its theorems have
abbrev pub OneTheoryOf : Type 0
OneTheoryOf = (bytes : List ℕ) (a b : Theory) → TheoryOf bytes a → TheoryOf bytes b → AreSameTheories a b

-- bytes that are refused are no theory
abbrev pub RefusedHaveNone : Type 0
RefusedHaveNone = (bytes : List ℕ) (refusal : Refusal) → IsRefusedFor bytes refusal → HasNoTheory bytes

-- bytes are refused for one thing at most
abbrev pub OneRefusalOf : Type 0
OneRefusalOf = (bytes : List ℕ) (a b : Refusal) → IsRefusedFor bytes a → IsRefusedFor bytes b → a ≡ b

-- how many bytes a theory file may have
abbrev pub max_theory_bytes : ℕ
max_theory_bytes = 4194304

-- the shelf tells these bytes, or tells nothing of them
abbrev pub Stands : Option (List ℕ) → List ℕ → Type 0
Stands content bytes = IfSome content (λ stored. bytes ≡ stored)

-- a file of this content was read within its limit, and its bytes are this theory
abbrev pub ReadsTheory : Option (List ℕ) → Theory → Type 0
ReadsTheory content theory = (bytes : List ℕ) × Stands content bytes × (length bytes ≤ max_theory_bytes) × TheoryOf bytes theory

-- how a run ends where no theory was read of a file of this content: the counts of faults of the shelf before and after
abbrev pub ReadsNone : Ending → Option (List ℕ) → ℕ → ℕ → Type 0
ReadsNone (endings.Refused refusal) content before now =
    (bytes : List ℕ) × Stands content bytes × (length bytes ≤ max_theory_bytes) × IsRefusedFor bytes refusal
ReadsNone endings.ReadFault content before now = CountsFault before now
ReadsNone endings.TooLong content before now = IfSome content (λ stored. max_theory_bytes < length stored)
ReadsNone endings.Memory content before now = Unit {0}
ReadsNone endings.AllClosed content before now = ⊥
ReadsNone endings.SomeOpen content before now = ⊥
ReadsNone endings.WordsRefused content before now = ⊥
ReadsNone endings.WriteFault content before now = ⊥
