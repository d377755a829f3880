-- What may follow a term and go on with it.
use Rattle.std.specs.Prelude.{ℕ, ◌<◌, List, ◌∷◌}
use Rattle.grind_tokens.specs.declared.tokens.Sym.{Sym}
use Rattle.grind_tokens.specs.declared.tokens.Sym.TheVariants as symbols
use Rattle.grind_grammar.specs.Lexemes.{Lexeme, Symbol}

-- how tightly a symbol after a part goes on with it: 0 the most, 8 a symbol that goes on with none
abbrev pub strength : Sym → ℕ
strength symbols.LeftParen = 0
strength symbols.Star = 1
strength symbols.Plus = 2
strength symbols.Minus = 2
strength symbols.Eq = 3
strength symbols.Ne = 3
strength symbols.Lt = 3
strength symbols.Le = 3
strength symbols.Gt = 3
strength symbols.Ge = 3
strength symbols.And = 4
strength symbols.Or = 5
strength symbols.Arrow = 6
strength symbols.Iff = 7
strength _ = 8

-- the strength of the first lexeme; no lexeme, a word and a number go on with no part
abbrev pub next_strength : List Lexeme → ℕ
next_strength (Symbol s ∷ ls) = strength s
next_strength _ = 8

-- the lexemes cannot go on with a formula, nor with a sum
abbrev pub EndsFormula : List Lexeme → Type 0
EndsFormula ls = 7 < next_strength ls

abbrev pub EndsSum : List Lexeme → Type 0
EndsSum ls = 2 < next_strength ls
