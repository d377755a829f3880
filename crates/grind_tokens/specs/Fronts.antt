-- The piece with which a text begins, as the reader's own functions say it.
use Rattle.std.specs.Prelude.{◌≡◌, ℕ, List, [], ◌∷◌, ◌++◌, length, Option, Some, None, encode_utf8}
use Rattle.std.specs.Char.{IsScalar}
use Rattle.grind_tokens.specs.declared.tokens.TokenKind.{TokenKind}
use Rattle.grind_tokens.specs.declared.tokens.Token.{Token}
use Rattle.grind_tokens.specs.declared.characters.Run.{Run}
use Rattle.grind_tokens.specs.declared.characters.Run.TheVariants.{Name, Comment}
use Rattle.grind_tokens.specs.declared.pieces.Front.{Front}
use Rattle.grind_tokens.specs.Tokens.{IsNameStart, IsNameChar, IsCommentChar, IsText, StopsChars, Begins, IsGap, IsToken}

-- the characters of which a run is made
abbrev pub IsOf : Run → ℕ → Type 0
IsOf Name c = IsNameChar c
IsOf Comment c = IsCommentChar c

-- the first n bytes of the text are its longest run of characters of which P holds
pub record Runs (P : ℕ → Type 0) (text : List ℕ) (n : ℕ) : Type 0 where
  pub piece : List ℕ
  pub rest : List ℕ
  pub splits : text ≡ piece ++ rest
  pub size : n ≡ length piece
  pub good : IsText P piece
  pub stops : StopsChars P rest

-- a token of the kind, or what stands between tokens where there is no kind
abbrev pub IsFront : Option TokenKind → List ℕ → List ℕ → Type 0
IsFront None piece rest = IsGap piece rest
IsFront (Some kind) piece rest = IsToken kind piece rest

-- the text begins with such a piece of that length
pub record BeginsWithFront (text : List ℕ) (f : Front) : Type 0 where
  pub piece : List ℕ
  pub rest : List ℕ
  pub splits : text ≡ piece ++ rest
  pub size : f.len ≡ length piece
  pub front : IsFront f.kind piece rest

-- the text goes on with a character that may begin a name
abbrev pub BeginsName : List ℕ → ℕ → Type 0
BeginsName text c = IsScalar c × IsNameStart c × Begins text (encode_utf8 c)

-- the tokens that a piece from start to end gives
abbrev pub tokens_of : Option TokenKind → ℕ → ℕ → List Token
tokens_of None start end = []
tokens_of (Some kind) start end = record { kind = kind; start = start; end = end } ∷ []
