-- What a text begins with: a piece of one of the rows, or a fault. A text begins with at most one.
use Rattle.std.proofs.Common.{◌≡◌, ◌≢◌, ℕ, ◌+◌, ◌^◌, ◌<◌, ◌≤◌, ◌⊎◌, true, List, [], ◌∷◌, ◌++◌, length, refl, sym, ap, ◌∙◌, subst, inl, inr, arith, append_assoc, length-append}
use Rattle.std.proofs.lemmas.Bool.{cases_lt}
use Rattle.std.proofs.lemmas.Str.{char_from_byte}
use Rattle.grind_tokens.proofs.RunLemmas.{some_byte}
use Rattle.std.specs.Prelude.{ℤ, pos, encode_utf8}
use Rattle.std.specs.Char.{is_ascii_alphabetic}
use Rattle.std.specs.Str.Parse.{digits_value}
use Rattle.unicode_ident.proofs.IdentLemmas.{is_xid_start-ascii}
use Rattle.grind_tokens.specs.declared.tokens.Sym.{Sym}
use Rattle.grind_tokens.specs.declared.tokens.Sym.TheVariants.{Dot, Comma, Colon, Semicolon, LeftParen, RightParen, LeftSquare, RightSquare, Eq, Ne, Lt, Le, Iff, Gt, Ge, Plus, Minus, Star, And, Or, Not, Arrow, Turnstile}
use Rattle.grind_tokens.specs.Tokens.{IsBlank, IsNameStart, IsNameChar, IsDigit, IsCommentChar, IsText, Begins, Stops, StopsChars, EndsLine, AreNameChars, AreDigits, spelling, dashes, IsLongest, IsStray, IsBrokenComment, IsLargeNumber, IsLongName}

pub data Start : Type 0 where
  blank : Start
  comment : ℕ → Start
  word : ℕ → Start
  number : ℤ → ℕ → Start
  mark : Sym → Start
  stray : Start
  broken : ℕ → Start
  large : Start
  long : Start

-- the text goes on with a byte of which P holds
abbrev pub GoesOn : (ℕ → Type 0) → List ℕ → Type 0
GoesOn P [] = ⊥
GoesOn P (b ∷ bs) = P b

-- the text begins so; a number beside it is the length of the piece, or the offset of the bad byte
abbrev pub Opens : List ℕ → Start → Type 0
Opens text blank = GoesOn IsBlank text
Opens text (comment n) = (p : List ℕ) × (r : List ℕ) × (text ≡ dashes ++ (p ++ r)) × IsText IsCommentChar p × EndsLine r × (n ≡ 2 + length p)
Opens text (word n) = (p : List ℕ) × (r : List ℕ) × (text ≡ p ++ r) × AreNameChars p × StopsChars IsNameChar r × (n ≡ length p) × (length p ≤ 255)
Opens text (number z n) = (p : List ℕ) × (r : List ℕ) × (text ≡ p ++ r) × AreDigits p × Stops IsDigit r × (n ≡ length p) × (digits_value 10 p < 2 ^ 127) × (z ≡ pos (digits_value 10 p))
Opens text (mark s) = Begins text (spelling s) × IsLongest s text × ¬ Begins text dashes
Opens text stray = IsStray text
Opens text (broken n) = IsBrokenComment text n
Opens text large = IsLargeNumber text
Opens text long = IsLongName text

-- a letter, `_` or a byte of a character beyond ASCII
abbrev pub IsNameFirst : ℕ → Type 0
IsNameFirst b = (128 ≤ b) ⊎ (b ≡ 95) ⊎ ((65 ≤ b) × (b ≤ 90)) ⊎ ((97 ≤ b) × (b ≤ 122))

-- the byte that stands first
pub data Head (b : ℕ) : Type 0 where
  blank_byte : IsBlank b → Head b
  digit_byte : IsDigit b → Head b
  name_byte : IsNameFirst b → Head b
  other_byte : ¬ IsBlank b → ¬ IsDigit b → ¬ IsNameFirst b → Head b

abbrev class : {b : ℕ} → Head b → ℕ
class (blank_byte h) = 1
class (digit_byte h) = 2
class (name_byte h) = 3
class (other_byte f g h) = 4

same_class : {b : ℕ} (x y : Head b) → class x ≡ class y
same_class (blank_byte h) (blank_byte k) = refl
same_class (blank_byte h) (digit_byte k) = absurd (omega arith)
same_class (blank_byte h) (name_byte k) = absurd (omega arith)
same_class (blank_byte h) (other_byte f g k) = absurd (f h)
same_class (digit_byte h) (blank_byte k) = absurd (omega arith)
same_class (digit_byte h) (digit_byte k) = refl
same_class (digit_byte h) (name_byte k) = absurd (omega arith)
same_class (digit_byte h) (other_byte f g k) = absurd (g h)
same_class (name_byte h) (blank_byte k) = absurd (omega arith)
same_class (name_byte h) (digit_byte k) = absurd (omega arith)
same_class (name_byte h) (name_byte k) = refl
same_class (name_byte h) (other_byte f g k) = absurd (k h)
same_class (other_byte f g k) (blank_byte h) = absurd (f h)
same_class (other_byte f g k) (digit_byte h) = absurd (g h)
same_class (other_byte f g k) (name_byte h) = absurd (k h)
same_class (other_byte f g k) (other_byte f' g' k') = refl

-- the class of the byte with which such a text begins; 5 where that is not told
abbrev pub class_of : Start → ℕ
class_of blank = 1
class_of (comment n) = 4
class_of (word n) = 3
class_of (number z n) = 2
class_of (mark s) = 4
class_of stray = 5
class_of (broken n) = 4
class_of large = 2
class_of long = 3

-- a symbol begins as nothing else
symbol_first : (s : Sym) (rest : List ℕ) (b : ℕ) (bs : List ℕ) → b ∷ bs ≡ spelling s ++ rest → (¬ IsBlank b) × (¬ IsDigit b) × (¬ IsNameFirst b)
symbol_first Dot rest b bs e = let h : b ≡ 46 = cc in (λ k. omega arith, λ k. omega arith, λ k. omega arith)
symbol_first Comma rest b bs e = let h : b ≡ 44 = cc in (λ k. omega arith, λ k. omega arith, λ k. omega arith)
symbol_first Colon rest b bs e = let h : b ≡ 58 = cc in (λ k. omega arith, λ k. omega arith, λ k. omega arith)
symbol_first Semicolon rest b bs e = let h : b ≡ 59 = cc in (λ k. omega arith, λ k. omega arith, λ k. omega arith)
symbol_first LeftParen rest b bs e = let h : b ≡ 40 = cc in (λ k. omega arith, λ k. omega arith, λ k. omega arith)
symbol_first RightParen rest b bs e = let h : b ≡ 41 = cc in (λ k. omega arith, λ k. omega arith, λ k. omega arith)
symbol_first LeftSquare rest b bs e = let h : b ≡ 91 = cc in (λ k. omega arith, λ k. omega arith, λ k. omega arith)
symbol_first RightSquare rest b bs e = let h : b ≡ 93 = cc in (λ k. omega arith, λ k. omega arith, λ k. omega arith)
symbol_first Eq rest b bs e = let h : b ≡ 61 = cc in (λ k. omega arith, λ k. omega arith, λ k. omega arith)
symbol_first Ne rest b bs e = let h : b ≡ 33 = cc in (λ k. omega arith, λ k. omega arith, λ k. omega arith)
symbol_first Lt rest b bs e = let h : b ≡ 60 = cc in (λ k. omega arith, λ k. omega arith, λ k. omega arith)
symbol_first Le rest b bs e = let h : b ≡ 60 = cc in (λ k. omega arith, λ k. omega arith, λ k. omega arith)
symbol_first Iff rest b bs e = let h : b ≡ 60 = cc in (λ k. omega arith, λ k. omega arith, λ k. omega arith)
symbol_first Gt rest b bs e = let h : b ≡ 62 = cc in (λ k. omega arith, λ k. omega arith, λ k. omega arith)
symbol_first Ge rest b bs e = let h : b ≡ 62 = cc in (λ k. omega arith, λ k. omega arith, λ k. omega arith)
symbol_first Plus rest b bs e = let h : b ≡ 43 = cc in (λ k. omega arith, λ k. omega arith, λ k. omega arith)
symbol_first Minus rest b bs e = let h : b ≡ 45 = cc in (λ k. omega arith, λ k. omega arith, λ k. omega arith)
symbol_first Star rest b bs e = let h : b ≡ 42 = cc in (λ k. omega arith, λ k. omega arith, λ k. omega arith)
symbol_first And rest b bs e = let h : b ≡ 47 = cc in (λ k. omega arith, λ k. omega arith, λ k. omega arith)
symbol_first Or rest b bs e = let h : b ≡ 92 = cc in (λ k. omega arith, λ k. omega arith, λ k. omega arith)
symbol_first Not rest b bs e = let h : b ≡ 126 = cc in (λ k. omega arith, λ k. omega arith, λ k. omega arith)
symbol_first Arrow rest b bs e = let h : b ≡ 45 = cc in (λ k. omega arith, λ k. omega arith, λ k. omega arith)
symbol_first Turnstile rest b bs e = let h : b ≡ 124 = cc in (λ k. omega arith, λ k. omega arith, λ k. omega arith)

-- what the test of a letter says
letter : (b : ℕ) → is_ascii_alphabetic b ≡ true → ((65 ≤ b) × (b ≤ 90)) ⊎ ((97 ≤ b) × (b ≤ 122))
letter b e = grind arith

-- the ASCII characters that may begin a name
name_start-ascii : (b : ℕ) → b < 128 → IsNameStart b → IsNameFirst b
name_start-ascii b low (inl e) = inr (inl e)
name_start-ascii b low (inr e) = inr (inr (letter b (sym (is_xid_start-ascii b low) ∙ e)))

-- a name begins with such a byte
name_first : (b : ℕ) (bs p r : List ℕ) → b ∷ bs ≡ p ++ r → AreNameChars p → IsNameFirst b
name_first b bs p r e n =
    let whole : b ∷ bs ≡ encode_utf8 n.0 ++ (n.1 ++ r) = e ∙ ap (λ l. l ++ r) n.2 ∙ append_assoc (encode_utf8 n.0) n.1 r in
    elim (cases_lt b 128) as (λ w. IsNameFirst b) [
      | inl low ↦ name_start-ascii b low (subst IsNameStart (char_from_byte (b ∷ bs) (n.1 ++ r) n.0 whole low (omega arith)) n.4)
      | inr high ↦ inl high
    ]

-- digits begin with a digit
digit_first : (b : ℕ) (bs p r : List ℕ) → b ∷ bs ≡ p ++ r → AreDigits p → IsDigit b
digit_first b bs [] r e d = let some = d.0 in absurd (omega arith)
digit_first b bs (c ∷ cs) r e d = let h : c ≡ b = cc in subst IsDigit h d.1.0

-- the byte with which such a text begins
head_of : (b : ℕ) (bs : List ℕ) (a : Start) → Opens (b ∷ bs) a → class_of a ≢ 5 → (h : Head b) × (class h ≡ class_of a)
head_of b bs blank g k = (blank_byte g, refl)
head_of b bs (comment n) g k = let f = symbol_first Minus (45 ∷ (g.0 ++ g.1)) b bs g.2 in (other_byte f.0 f.1 f.2, refl)
head_of b bs (word n) g k = (name_byte (name_first b bs g.0 g.1 g.2 g.3), refl)
head_of b bs (number z n) g k = (digit_byte (digit_first b bs g.0 g.1 g.2 g.3), refl)
head_of b bs (mark s) g k = let f = symbol_first s g.0.0 b bs g.0.1 in (other_byte f.0 f.1 f.2, refl)
head_of b bs stray g k = absurd (k refl)
head_of b bs (broken n) g k = let f = symbol_first Minus (45 ∷ (g.body ++ g.rest)) b bs g.splits in (other_byte f.0 f.1 f.2, refl)
head_of b bs large g k = (digit_byte (digit_first b bs g.piece g.rest g.splits g.digits), refl)
head_of b bs long g k = (name_byte (name_first b bs g.piece g.rest g.splits g.name), refl)

-- a symbol has a byte
pub symbol_some : (s : Sym) (rest : List ℕ) → ¬ ([] ≡ spelling s ++ rest)
symbol_some Dot rest e = cc
symbol_some Comma rest e = cc
symbol_some Colon rest e = cc
symbol_some Semicolon rest e = cc
symbol_some LeftParen rest e = cc
symbol_some RightParen rest e = cc
symbol_some LeftSquare rest e = cc
symbol_some RightSquare rest e = cc
symbol_some Eq rest e = cc
symbol_some Ne rest e = cc
symbol_some Lt rest e = cc
symbol_some Le rest e = cc
symbol_some Iff rest e = cc
symbol_some Gt rest e = cc
symbol_some Ge rest e = cc
symbol_some Plus rest e = cc
symbol_some Minus rest e = cc
symbol_some Star rest e = cc
symbol_some And rest e = cc
symbol_some Or rest e = cc
symbol_some Not rest e = cc
symbol_some Arrow rest e = cc
symbol_some Turnstile rest e = cc

-- a text without bytes begins with nothing
pub opens_some : (a : Start) → ¬ Opens [] a
opens_some blank g = g
opens_some (comment n) g = let e = g.2 in cc
opens_some (word n) g = some_byte g.3.0 (g.3.1 ++ g.1) g.3.3 (g.2 ∙ ap (λ l. l ++ g.1) g.3.2 ∙ append_assoc (encode_utf8 g.3.0) g.3.1 g.1)
opens_some (number z n) g = let some = g.3.0 in let e : 0 ≡ length g.0 + length g.1 = ap length g.2 ∙ length-append g.0 g.1 in omega arith
opens_some (mark s) g = symbol_some s g.0.0 g.0.1
opens_some stray g = let some = g.some in omega arith
opens_some (broken n) g = let e = g.splits in cc
opens_some large g = let some = g.digits.0 in let e : 0 ≡ length g.piece + length g.rest = ap length g.splits ∙ length-append g.piece g.rest in omega arith
opens_some long g = let some = g.long in let e : 0 ≡ length g.piece + length g.rest = ap length g.splits ∙ length-append g.piece g.rest in omega arith

-- two beginnings of one text are of one class
pub clash : (text : List ℕ) (a b : Start) → Opens text a → Opens text b → class_of a ≢ 5 → class_of b ≢ 5 → class_of a ≡ class_of b
clash [] a b g h j k = absurd (opens_some a g)
clash (x ∷ xs) a b g h j k =
    let f = head_of x xs a g j in
    let e = head_of x xs b h k in
    sym f.1 ∙ same_class f.0 e.0 ∙ e.1

-- where a stray byte stands, nothing else begins
pub not_stray : (text : List ℕ) (b : Start) → IsStray text → Opens text b → class_of b ≡ 5
not_stray [] b s h = absurd (opens_some b h)
not_stray (x ∷ xs) blank s h = absurd (s.no_blank h)
not_stray (x ∷ xs) (comment n) s h = absurd (s.no_symbol Minus (45 ∷ (h.0 ++ h.1), h.2))
not_stray (x ∷ xs) (word n) s h = absurd (s.no_name h.3.0 h.3.3 h.3.4 (h.3.1 ++ h.1, h.2 ∙ ap (λ l. l ++ h.1) h.3.2 ∙ append_assoc (encode_utf8 h.3.0) h.3.1 h.1))
not_stray (x ∷ xs) (number z n) s h = absurd (s.no_number (digit_first x xs h.0 h.1 h.2 h.3))
not_stray (x ∷ xs) (mark t) s h = absurd (s.no_symbol t h.0)
not_stray (x ∷ xs) stray s h = refl
not_stray (x ∷ xs) (broken n) s h = absurd (s.no_symbol Minus (45 ∷ (h.body ++ h.rest), h.splits))
not_stray (x ∷ xs) large s h = absurd (s.no_number (digit_first x xs h.piece h.rest h.splits h.digits))
not_stray (x ∷ xs) long s h = absurd (s.no_name h.name.0 h.name.3 h.name.4 (h.name.1 ++ h.rest, h.splits ∙ ap (λ l. l ++ h.rest) h.name.2 ∙ append_assoc (encode_utf8 h.name.0) h.name.1 h.rest))
