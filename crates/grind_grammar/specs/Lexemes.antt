-- What tokens say, wherever they stand.
use Rattle.std.specs.Prelude.{ℕ, ℤ, List, [], ◌∷◌, slice_range}
use Rattle.grind_tokens.specs.declared.tokens.Sym.{Sym}
use Rattle.grind_tokens.specs.declared.tokens.TokenKind.{TokenKind}
use Rattle.grind_tokens.specs.declared.tokens.TokenKind.TheVariants as kinds
use Rattle.grind_tokens.specs.declared.tokens.Token.{Token}

-- a word by its bytes, a number, or a symbol
pub data Lexeme : Type 0 where
  Word : List ℕ → Lexeme
  Number : ℤ → Lexeme
  Symbol : Sym → Lexeme

-- what stands between two places of the text, as a token of this kind
abbrev pub lexeme_between : List ℕ → ℕ → ℕ → TokenKind → Lexeme
lexeme_between text start end kinds.Word = Word (slice_range text start end)
lexeme_between text start end (kinds.Number value) = Number value
lexeme_between text start end (kinds.Symbol sym) = Symbol sym

abbrev pub lexeme : List ℕ → Token → Lexeme
lexeme text token = lexeme_between text token.start token.end token.kind

-- the lexemes of tokens of a text
abbrev pub lexemes : List ℕ → List Token → List Lexeme
lexemes text [] = []
lexemes text (token ∷ tokens) = lexeme text token ∷ lexemes text tokens
