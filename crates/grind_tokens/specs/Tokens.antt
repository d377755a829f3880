-- The tokens of a text. A text is the list of its bytes.
use Rattle.std.specs.Prelude.{◌≡◌, ◌≢◌, ℕ, ◌+◌, ◌^◌, ◌<◌, ◌≤◌, ◌⊎◌, ℤ, pos, IsTrue, List, [], ◌∷◌, ◌++◌, length, slice_range, All, codes, IsUtf8, encode_utf8, encode_utf8_all}
use Rattle.std.specs.Char.{IsScalar}
use Rattle.std.specs.List.{AllByRecursion}
use Rattle.std.specs.Str.{StartsWithNoChar}
use Rattle.std.specs.Str.Parse.{digits_value}
use Rattle.unicode_ident.specs.Ident.{is_xid_start, is_xid_continue}
use Rattle.grind_tokens.specs.declared.tokens.LexRefusal.{LexRefusal}
use Rattle.grind_tokens.specs.declared.tokens.LexRefusal.TheVariants.{BadByte, NumberTooLarge, NameTooLong, Memory}
use Rattle.grind_tokens.specs.declared.tokens.Sym.{Sym}
use Rattle.grind_tokens.specs.declared.tokens.Sym.TheVariants.{Dot, Comma, Colon, Semicolon, LeftParen, RightParen, LeftSquare, RightSquare, Eq, Ne, Lt, Le, Iff, Gt, Ge, Plus, Minus, Star, And, Or, Not, Arrow, Turnstile}
use Rattle.grind_tokens.specs.declared.tokens.TokenKind.{TokenKind}
use Rattle.grind_tokens.specs.declared.tokens.TokenKind.TheVariants.{Word, Number, Symbol}
use Rattle.grind_tokens.specs.declared.tokens.Token.{Token}

-- white space: a space, a tab, a carriage return or a line feed
abbrev pub IsBlank : ℕ → Type 0
IsBlank b = (b ≡ 32) ⊎ (b ≡ 9) ⊎ (b ≡ 13) ⊎ (b ≡ 10)

-- `_`, or a character with the property XID_Start
abbrev pub IsNameStart : ℕ → Type 0
IsNameStart c = (c ≡ 95) ⊎ IsTrue (is_xid_start c)

-- a character with the property XID_Continue
abbrev pub IsNameChar : ℕ → Type 0
IsNameChar c = IsTrue (is_xid_continue c)

-- `0` to `9`
abbrev pub IsDigit : ℕ → Type 0
IsDigit b = (48 ≤ b) × (b ≤ 57)

-- any character but a line feed
abbrev pub IsCommentChar : ℕ → Type 0
IsCommentChar c = c ≢ 10

-- the bytes are the UTF-8 of characters, of each of which P holds
abbrev pub IsText : (ℕ → Type 0) → List ℕ → Type 0
IsText P bytes = (cs : List ℕ) × (bytes ≡ encode_utf8_all cs) × AllByRecursion (λ c. IsScalar c × P c) cs

-- the text begins with the bytes
abbrev pub Begins : List ℕ → List ℕ → Type 0
Begins text front = (rest : List ℕ) × (text ≡ front ++ rest)

-- the text is at its end, or goes on with a byte of which P does not hold
abbrev pub Stops : (ℕ → Type 0) → List ℕ → Type 0
Stops P [] = Unit {0}
Stops P (b ∷ bs) = ¬ P b

-- the text does not begin with a character of which P holds
abbrev pub StopsChars : (ℕ → Type 0) → List ℕ → Type 0
StopsChars P text = (c : ℕ) → IsScalar c → P c → ¬ Begins text (encode_utf8 c)

-- the text is at its end, or goes on with a line feed
abbrev pub EndsLine : List ℕ → Type 0
EndsLine [] = Unit {0}
EndsLine (b ∷ bs) = b ≡ 10

-- a character that may begin a name, then characters that may stand in one
abbrev pub AreNameChars : List ℕ → Type 0
AreNameChars bytes = (c : ℕ) × (rest : List ℕ) × (bytes ≡ encode_utf8 c ++ rest) × IsScalar c × IsNameStart c × IsText IsNameChar rest

-- such characters, at most 255 bytes in all
abbrev pub IsName : List ℕ → Type 0
IsName bytes = AreNameChars bytes × (length bytes ≤ 255)

-- one digit or more
abbrev pub AreDigits : List ℕ → Type 0
AreDigits bytes = (0 < length bytes) × AllByRecursion IsDigit bytes

-- digits that write a number of at most 2^127 - 1, leading zeros allowed
abbrev pub IsNumeral : ℤ → List ℕ → Type 0
IsNumeral n bytes = AreDigits bytes × (digits_value 10 bytes < 2 ^ 127) × (n ≡ pos (digits_value 10 bytes))

-- the bytes of a symbol
abbrev pub spelling : Sym → List ℕ
spelling Dot = codes "."
spelling Comma = codes ","
spelling Colon = codes ":"
spelling Semicolon = codes ";"
spelling LeftParen = codes "("
spelling RightParen = codes ")"
spelling LeftSquare = codes "["
spelling RightSquare = codes "]"
spelling Eq = codes "="
spelling Ne = codes "!="
spelling Lt = codes "<"
spelling Le = codes "<="
spelling Iff = codes "<->"
spelling Gt = codes ">"
spelling Ge = codes ">="
spelling Plus = codes "+"
spelling Minus = codes "-"
spelling Star = codes "*"
spelling And = codes "/\\"
spelling Or = codes "\\/"
spelling Not = codes "~"
spelling Arrow = codes "->"
spelling Turnstile = codes "|-"

-- with which a comment begins
abbrev pub dashes : List ℕ
dashes = codes "--"

-- no symbol that the text begins with is longer
abbrev pub IsLongest : Sym → List ℕ → Type 0
IsLongest s text = (t : Sym) → Begins text (spelling t) → length (spelling t) ≤ length (spelling s)

-- The next five are the rows of the table of tokens. Each says that a text, the piece with the rest
-- after it, begins with the piece.

-- one byte of white space
abbrev pub IsSpace : List ℕ → List ℕ → Type 0
IsSpace piece rest = (b : ℕ) × (piece ≡ b ∷ []) × IsBlank b

-- two minus signs, and what follows them on their line
abbrev pub IsComment : List ℕ → List ℕ → Type 0
IsComment piece rest = (body : List ℕ) × (piece ≡ dashes ++ body) × IsText IsCommentChar body × EndsLine rest

-- a name, the longest
abbrev pub IsWord : List ℕ → List ℕ → Type 0
IsWord piece rest = IsName piece × StopsChars IsNameChar rest

-- the digits of a number, as many as there are
abbrev pub IsNumber : ℤ → List ℕ → List ℕ → Type 0
IsNumber n piece rest = IsNumeral n piece × Stops IsDigit rest

-- a symbol, the longest, where no comment begins
abbrev pub IsSymbol : Sym → List ℕ → List ℕ → Type 0
IsSymbol s piece rest = (piece ≡ spelling s) × IsLongest s (piece ++ rest) × ¬ Begins (piece ++ rest) dashes

-- what stands between tokens
abbrev pub IsGap : List ℕ → List ℕ → Type 0
IsGap piece rest = IsSpace piece rest ⊎ IsComment piece rest

-- a token of a kind
abbrev pub IsToken : TokenKind → List ℕ → List ℕ → Type 0
IsToken Word piece rest = IsWord piece rest
IsToken (Number n) piece rest = IsNumber n piece rest
IsToken (Symbol s) piece rest = IsSymbol s piece rest

-- the tokens of a text that begins at an offset of the file
pub data TokensFrom : ℕ → List ℕ → List Token → Type 0 where
  at_end : {at : ℕ} → TokensFrom at [] []
  gap : {at : ℕ} {text : List ℕ} {ts : List Token} (piece rest : List ℕ)
      → text ≡ piece ++ rest → IsGap piece rest
      → TokensFrom (at + length piece) rest ts
      → TokensFrom at text ts
  token : {at : ℕ} {text : List ℕ} {ts : List Token} (kind : TokenKind) (piece rest : List ℕ)
      → text ≡ piece ++ rest → IsToken kind piece rest
      → TokensFrom (at + length piece) rest ts
      → TokensFrom at text (record { kind = kind; start = at; end = at + length piece } ∷ ts)

-- the tokens of a file's text
abbrev pub TokensOf : List ℕ → List Token → Type 0
TokensOf text ts = TokensFrom 0 text ts

-- The next four are the faults with which a text begins.

-- neither white space nor a name, a number, a symbol or a comment begins here: a comment begins with a symbol
pub record IsStray (text : List ℕ) : Type 0 where
  pub some : 0 < length text
  pub no_blank : Stops IsBlank text
  pub no_name : StopsChars IsNameStart text
  pub no_number : Stops IsDigit text
  pub no_symbol : (s : Sym) → ¬ Begins text (spelling s)

-- a comment begins, and after that many bytes, before its line ends, stands a byte with which no character begins
pub record IsBrokenComment (text : List ℕ) (n : ℕ) : Type 0 where
  pub body : List ℕ
  pub rest : List ℕ
  pub splits : text ≡ dashes ++ (body ++ rest)
  pub good : IsText IsCommentChar body
  pub some : 0 < length rest
  pub bad : StartsWithNoChar rest
  pub place : n ≡ length dashes + length body

-- a number begins that is larger than 2^127 - 1
pub record IsLargeNumber (text : List ℕ) : Type 0 where
  pub piece : List ℕ
  pub rest : List ℕ
  pub splits : text ≡ piece ++ rest
  pub digits : AreDigits piece
  pub longest : Stops IsDigit rest
  pub large : 2 ^ 127 ≤ digits_value 10 piece

-- a name begins that is longer than 255 bytes
pub record IsLongName (text : List ℕ) : Type 0 where
  pub piece : List ℕ
  pub rest : List ℕ
  pub splits : text ≡ piece ++ rest
  pub name : AreNameChars piece
  pub longest : StopsChars IsNameChar rest
  pub long : 255 < length piece

-- the text, which begins at an offset of the file, begins with a fault, and the refusal names it
abbrev pub IsFault : ℕ → List ℕ → LexRefusal → Type 0
IsFault at text (BadByte offset) = ((offset ≡ at) × IsStray text) ⊎ ((n : ℕ) × (offset ≡ at + n) × IsBrokenComment text n)
IsFault at text (NumberTooLarge offset) = (offset ≡ at) × IsLargeNumber text
IsFault at text (NameTooLong offset) = (offset ≡ at) × IsLongName text
IsFault at text Memory = ⊥

-- the first fault of a text that begins at an offset of the file: here, or after a token or what stands between tokens
pub data BreaksFrom : ℕ → List ℕ → LexRefusal → Type 0 where
  here : {at : ℕ} {text : List ℕ} {e : LexRefusal} → IsFault at text e → BreaksFrom at text e
  past_gap : {at : ℕ} {text : List ℕ} {e : LexRefusal} (piece rest : List ℕ)
      → text ≡ piece ++ rest → IsGap piece rest
      → BreaksFrom (at + length piece) rest e
      → BreaksFrom at text e
  past_token : {at : ℕ} {text : List ℕ} {e : LexRefusal} (kind : TokenKind) (piece rest : List ℕ)
      → text ≡ piece ++ rest → IsToken kind piece rest
      → BreaksFrom (at + length piece) rest e
      → BreaksFrom at text e

-- the first fault of a file's text
abbrev pub Breaks : List ℕ → LexRefusal → Type 0
Breaks text e = BreaksFrom 0 text e

-- what a refusal says of the text: its first fault, and want of memory says nothing
abbrev pub IsRefusal : List ℕ → LexRefusal → Type 0
IsRefusal text Memory = Unit {0}
IsRefusal text (BadByte offset) = Breaks text (BadByte offset)
IsRefusal text (NumberTooLarge offset) = Breaks text (NumberTooLarge offset)
IsRefusal text (NameTooLong offset) = Breaks text (NameTooLong offset)

-- at most one list of tokens stands for a text
abbrev pub OneReading : Type 0
OneReading = (text : List ℕ) (a b : List Token) → TokensOf text a → TokensOf text b → a ≡ b

-- a text that has tokens has no fault
abbrev pub NotBoth : Type 0
NotBoth = (text : List ℕ) (ts : List Token) (e : LexRefusal) → TokensOf text ts → ¬ Breaks text e

-- at most one fault is the first of a text
abbrev pub OneBreak : Type 0
OneBreak = (text : List ℕ) (a b : LexRefusal) → Breaks text a → Breaks text b → a ≡ b

-- each text has tokens or a first fault
abbrev pub SomeReading : Type 0
SomeReading = (text : List ℕ) → ((ts : List Token) × TokensOf text ts) ⊎ ((e : LexRefusal) × Breaks text e)

-- the bytes spell a token of a kind
abbrev pub IsSpelled : TokenKind → List ℕ → Type 0
IsSpelled Word bytes = IsName bytes
IsSpelled (Number n) bytes = IsNumeral n bytes
IsSpelled (Symbol s) bytes = bytes ≡ spelling s

-- the token is a piece of the text
pub record IsPiece (text : List ℕ) (t : Token) : Type 0 where
  pub not_empty : t.start < t.end
  pub within : t.end ≤ length text
  pub spelled : IsSpelled t.kind (slice_range text t.start t.end)

-- each token of a text is a piece of it
abbrev pub TokensArePieces : Type 0
TokensArePieces = (text : List ℕ) (ts : List Token) → TokensOf text ts → All (IsPiece text) ts

-- UTF-8 of 1 to 255 bytes, none of them a space or a line feed
pub record IsPlain (bytes : List ℕ) : Type 0 where
  pub not_empty : 0 < length bytes
  pub short : length bytes ≤ 255
  pub unbroken : All (λ b. (b ≢ 32) × (b ≢ 10)) bytes
  pub utf8 : IsUtf8 bytes

-- a name can stand as one word of a line
abbrev pub NamesArePlain : Type 0
NamesArePlain = (bytes : List ℕ) → IsName bytes → IsPlain bytes
