-- What stands before a dot.
use Rattle.std.specs.Prelude.{◌≡◌, ◌≢◌, ℕ, List, [], ◌∷◌, ◌++◌, length, All}
use Rattle.grind_tokens.specs.declared.tokens.Sym.TheVariants as symbols
use Rattle.grind_tokens.specs.declared.tokens.TokenKind.{TokenKind}
use Rattle.grind_tokens.specs.declared.tokens.TokenKind.TheVariants as kinds
use Rattle.grind_tokens.specs.declared.tokens.Token.{Token}
use Rattle.grind_grammar.specs.Parentheses.{open_after_symbol}

-- how many parentheses are open after a token
abbrev pub open_after_kind : ℕ → TokenKind → ℕ
open_after_kind count kinds.Word = count
open_after_kind count (kinds.Number value) = count
open_after_kind count (kinds.Symbol sym) = open_after_symbol count sym

-- none of the tokens is a dot
abbrev pub AreUndotted : List Token → Type 0
AreUndotted = All (λ t. t.kind ≢ kinds.Symbol symbols.Dot)

-- a dot stands first, or nothing is there
abbrev pub BeginsWithDot : List Token → Type 0
BeginsWithDot [] = Unit {0}
BeginsWithDot (t ∷ tokens) = t.kind ≡ kinds.Symbol symbols.Dot

-- so many tokens stand before the first dot, or before the end
pub record DotAfter (tokens : List Token) (count : ℕ) : Type 0 where
  pub piece : List Token
  pub after : List Token
  pub whole : tokens ≡ piece ++ after
  pub counted : length piece ≡ count
  pub undotted : AreUndotted piece
  pub ends : BeginsWithDot after

-- the piece stands before the first dot, and these tokens after it
pub record IsCut (tokens piece left : List Token) : Type 0 where
  pub dot : Token
  pub is_dot : dot.kind ≡ kinds.Symbol symbols.Dot
  pub whole : tokens ≡ piece ++ dot ∷ left
