-- How many parentheses are open.
use Rattle.std.specs.Prelude.{ℕ, ◌+◌, ◌-◌, ◌≤◌, List, [], ◌∷◌}
use Rattle.grind_tokens.specs.declared.tokens.Sym.{Sym}
use Rattle.grind_tokens.specs.declared.tokens.Sym.TheVariants as symbols
use Rattle.grind_grammar.specs.Lexemes.{Lexeme, Word, Number, Symbol}

-- how many are open after a symbol; a right parenthesis without a left one closes nothing
abbrev pub open_after_symbol : ℕ → Sym → ℕ
open_after_symbol count symbols.LeftParen = count + 1
open_after_symbol count symbols.RightParen = count - 1
open_after_symbol count _ = count

-- how many are open after a lexeme
abbrev pub open_after : ℕ → Lexeme → ℕ
open_after count (Symbol sym) = open_after_symbol count sym
open_after count (Word bytes) = count
open_after count (Number value) = count

-- after so many, no lexeme leaves more than the limit open
abbrev pub Within : ℕ → ℕ → List Lexeme → Type 0
Within limit count [] = Unit {0}
Within limit count (l ∷ ls) = (open_after count l ≤ limit) × Within limit (open_after count l) ls
