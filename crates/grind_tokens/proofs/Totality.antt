-- A text has tokens or a first fault.
use Rattle.std.proofs.Common.{◌≡◌, ℕ, zero, suc, ◌+◌, ◌^◌, ◌<◌, ◌≤◌, ◌⊎◌, Bool, true, false, List, [], ◌∷◌, ◌++◌, length, take, drop, Option, Some, None, refl, sym, ap, ◌∙◌, subst, inl, inr, arith, length-append}
use Rattle.std.proofs.lemmas.List.{length-take}
use Rattle.std.proofs.lemmas.Bool.{cases_lt, cases_eq, cases_Bool, both_ways, and_parts}
use Rattle.std.proofs.lemmas.Str.{IsUtf8-encode, IsUtf8-from_is_utf8, is_utf8-from_IsUtf8}
use Rattle.std.proofs.Math.Seq.{take-append_seam}
use Rattle.std.specs.Prelude.{pos, encode_utf8, encode_utf8_all, IsUtf8}
use Rattle.std.specs.Char.{IsScalar, len_utf8}
use Rattle.std.specs.List.{AllByRecursion}
use Rattle.std.specs.Str.{StartsWithNoChar, is_utf8, all_scalars}
use Rattle.std.specs.Str.Parse.{digits_value}
use Rattle.unicode_ident.specs.Ident.{is_xid_start, is_xid_continue}
use Rattle.grind_tokens.specs.declared.tokens.LexRefusal.{LexRefusal}
use Rattle.grind_tokens.specs.declared.tokens.LexRefusal.TheVariants.{BadByte, NumberTooLarge, NameTooLong}
use Rattle.grind_tokens.specs.declared.tokens.TokenKind.{TokenKind}
use Rattle.grind_tokens.specs.declared.tokens.TokenKind.TheVariants.{Number, Symbol}
use Rattle.grind_tokens.specs.declared.tokens.Token.{Token}
use Rattle.grind_tokens.specs.Tokens.{IsBlank, IsNameStart, IsNameChar, IsDigit, IsCommentChar, Begins, Stops, StopsChars, EndsLine, IsLongest, spelling, dashes, IsFault, TokensFrom, at_end, BreaksFrom, here}
use Rattle.grind_tokens.specs.declared.pieces.Front.{Front}
use Rattle.grind_tokens.specs.Fronts.{IsFront, Runs, BeginsWithFront, BeginsName, tokens_of}
use Rattle.grind_tokens.proofs.CharacterLemmas.{encode-bounds, begins_through, begins_take, no_character-nil, stops_none, stops_other, runs_more, runs_end}
use Rattle.grind_tokens.proofs.PieceLemmas.{comment_front, comment_fault, named, word_front, word_fault}
use Rattle.grind_tokens.proofs.SymbolChoice.{starts, longest}
use Rattle.grind_tokens.proofs.Readings.{front_not_empty, reads_front, breaks_front}

-- a character begins the text
abbrev HasChar : List ℕ → Type 0
HasChar text = (c : ℕ) × IsScalar c × Begins text (encode_utf8 c)

-- the first of the characters that some bytes are
char_in : (bytes cs : List ℕ) → 0 < length bytes → all_scalars cs ≡ true → encode_utf8_all cs ≡ bytes → HasChar bytes
char_in bytes [] some good e = let size = ap length e in absurd (omega arith)
char_in bytes (c ∷ cs) some good e = (c, (and_parts _ _ good).0, (encode_utf8_all cs, sym e))

char_at_front : (text : List ℕ) (n : ℕ) → 0 < length text → 0 < n → is_utf8 (take n text) ≡ true → HasChar text
char_at_front text n some low good =
    let u = IsUtf8-from_is_utf8 (take n text) good in
    let size = length-take n text in
    let c = char_in (take n text) u.0 (omega arith) u.1.0 u.1.1 in
    (c.0, c.1, begins_through text (take n text) (encode_utf8 c.0) (begins_take text n) c.2)

first_up_to : (n : ℕ) (text : List ℕ) → 0 < length text → HasChar text ⊎ ((k : ℕ) → 1 ≤ k → k ≤ n → is_utf8 (take k text) ≡ false)
first_up_to zero text some = inr (λ k low high. absurd (omega arith))
first_up_to (suc n) text some =
    elim (cases_Bool (is_utf8 (take (suc n) text))) as (λ w. HasChar text ⊎ ((k : ℕ) → 1 ≤ k → k ≤ suc n → is_utf8 (take k text) ≡ false)) [
      | inl good ↦ inl (char_at_front text (suc n) some (omega arith) good)
      | inr bad ↦ elim (first_up_to n text some) as (λ w. HasChar text ⊎ ((k : ℕ) → 1 ≤ k → k ≤ suc n → is_utf8 (take k text) ≡ false)) [
        | inl c ↦ inl c
        | inr none ↦ inr (λ k low high. elim (cases_eq k (suc n)) as (λ w. is_utf8 (take k text) ≡ false) [
          | inl e ↦ subst (λ j. is_utf8 (take j text) ≡ false) (sym e) bad
          | inr other ↦ none k low (omega arith)
        ])
      ]
    ]

-- a character begins the text, or none does
first : (text : List ℕ) → HasChar text ⊎ StartsWithNoChar text
first [] = inr (no_character-nil [] refl)
first (b ∷ bs) =
    elim (first_up_to 4 (b ∷ bs) (omega arith)) as (λ w. HasChar (b ∷ bs) ⊎ StartsWithNoChar (b ∷ bs)) [
      | inl c ↦ inl c
      | inr none ↦ inr (λ c rest good e.
          let width = encode-bounds c in
          let cut : encode_utf8 c ≡ take (length (encode_utf8 c)) (b ∷ bs) = sym (ap (λ l. take (length (encode_utf8 c)) l) e ∙ take-append_seam (encode_utf8 c) rest) in
          both_ways (is_utf8 (take (length (encode_utf8 c)) (b ∷ bs))) (none (length (encode_utf8 c)) width.0 width.1)
          (is_utf8-from_IsUtf8 _ (subst IsUtf8 cut (IsUtf8-encode c good))))
    ]

shorter : (text rest : List ℕ) (c : ℕ) → text ≡ encode_utf8 c ++ rest → length rest < length text
shorter text rest c e =
    let width = encode-bounds c in
    let size = ap length e ∙ length-append (encode_utf8 c) rest in
    omega arith

-- the run of characters at the front of a text
run : (fuel : ℕ) (P : ℕ → Type 0) → ((c : ℕ) → P c ⊎ ¬ P c) → (text : List ℕ) → length text ≤ fuel → (n : ℕ) × Runs P text n
run zero P test [] within = (0, runs_end P [] (stops_none P [] (no_character-nil [] refl)))
run zero P test (b ∷ bs) within = absurd (omega arith)
run (suc fuel) P test text within =
    elim (first text) as (λ w. (n : ℕ) × Runs P text n) [
      | inl c ↦ elim (test c.0) as (λ w. (n : ℕ) × Runs P text n) [
        | inl holds ↦
            let rest = c.2.0 in
            let smaller = shorter text rest c.0 c.2.1 in
            let more = run fuel P test rest (omega arith) in
            (len_utf8 c.0 + more.0, runs_more P text rest c.0 more.0 c.2.1 c.1 holds more.1)
        | inr other ↦ (0, runs_end P text (stops_other P text c.0 other c.2))
      ]
      | inr none ↦ (0, runs_end P text (stops_none P text none))
    ]

-- tests
or_else : {A B : Type 0} → A ⊎ ¬ A → B ⊎ ¬ B → (A ⊎ B) ⊎ ¬ (A ⊎ B)
or_else (inl a) y = inl (inl a)
or_else (inr n) (inl b) = inl (inr b)
or_else (inr n) (inr m) = inr (λ h. elim h as (λ w. ⊥) [ inl a ↦ n a | inr b ↦ m b ])

is_true : (b : Bool) → (b ≡ true) ⊎ ¬ (b ≡ true)
is_true b = elim (cases_Bool b) as (λ w. (b ≡ true) ⊎ ¬ (b ≡ true)) [ inl e ↦ inl e | inr e ↦ inr (λ h. both_ways b e h) ]

is_blank : (b : ℕ) → IsBlank b ⊎ ¬ IsBlank b
is_blank b = or_else (cases_eq b 32) (or_else (cases_eq b 9) (or_else (cases_eq b 13) (cases_eq b 10)))

is_digit : (b : ℕ) → IsDigit b ⊎ ¬ IsDigit b
is_digit b =
    elim (cases_lt b 48) as (λ w. IsDigit b ⊎ ¬ IsDigit b) [
      | inl low ↦ inr (λ h. omega arith)
      | inr above ↦ elim (cases_lt 57 b) as (λ w. IsDigit b ⊎ ¬ IsDigit b) [
        | inl high ↦ inr (λ h. omega arith)
        | inr below ↦ inl (above, below)
      ]
    ]

is_name_start : (c : ℕ) → IsNameStart c ⊎ ¬ IsNameStart c
is_name_start c = or_else (cases_eq c 95) (is_true (is_xid_start c))

is_comment_char : (c : ℕ) → IsCommentChar c ⊎ ¬ IsCommentChar c
is_comment_char c = elim (cases_eq c 10) as (λ w. IsCommentChar c ⊎ ¬ IsCommentChar c) [ inl e ↦ inr (λ h. h e) | inr n ↦ inl n ]

ends_line : (text : List ℕ) → EndsLine text ⊎ ¬ EndsLine text
ends_line [] = inl tt
ends_line (b ∷ bs) = cases_eq b 10

-- what the text begins with
data Outcome (at : ℕ) (text : List ℕ) : Type 0 where
  piece : (kind : Option TokenKind) (p r : List ℕ) → text ≡ p ++ r → IsFront kind p r → Outcome at text
  fault : (e : LexRefusal) → IsFault at text e → Outcome at text

of_front : {f : Front} (at : ℕ) (text : List ℕ) → BeginsWithFront text f → Outcome at text
of_front {f} at text b = piece f.kind b.piece b.rest b.splits b.front

comment_step : (at : ℕ) (body : List ℕ) → Outcome at (45 ∷ 45 ∷ body)
comment_step at body =
    let r = run (length body) IsCommentChar is_comment_char body (omega arith) in
    elim (ends_line (drop r.0 body)) as (λ w. Outcome at (45 ∷ 45 ∷ body)) [
      | inl ends ↦ of_front at (45 ∷ 45 ∷ body) (comment_front body r.0 r.1 ends)
      | inr goes_on ↦ fault (BadByte (at + (2 + r.0))) (inr (2 + r.0, refl, comment_fault body r.0 r.1 goes_on))
    ]

word_step : (at : ℕ) (text : List ℕ) (c : ℕ) → BeginsName text c → Outcome at text
word_step at text c b =
    let tail = drop (len_utf8 c) text in
    let r = run (length tail) IsNameChar (λ x. is_true (is_xid_continue x)) tail (omega arith) in
    let n = named text c r.0 b r.1 in
    elim (cases_lt 255 (len_utf8 c + r.0)) as (λ w. Outcome at text) [
      | inl long ↦ fault (NameTooLong at) (refl, word_fault text (len_utf8 c + r.0) n long)
      | inr short ↦ of_front at text (word_front text (len_utf8 c + r.0) n short)
    ]

-- the digits at the front of a text
digits : (text : List ℕ) → (p : List ℕ) × (r : List ℕ) × (text ≡ p ++ r) × AllByRecursion IsDigit p × Stops IsDigit r
digits [] = ([], [], refl, tt, tt)
digits (b ∷ bs) =
    elim (is_digit b) as (λ w. (p : List ℕ) × (r : List ℕ) × (b ∷ bs ≡ p ++ r) × AllByRecursion IsDigit p × Stops IsDigit r) [
      | inl d ↦ let more = digits bs in (b ∷ more.0, more.1, ap (λ l. b ∷ l) more.2, (d, more.3), more.4)
      | inr n ↦ ([], b ∷ bs, refl, tt, n)
    ]

number_step : (at : ℕ) (b : ℕ) (bs : List ℕ) → IsDigit b → Outcome at (b ∷ bs)
number_step at b bs d =
    let more = digits bs in
    let whole = ap (λ l. b ∷ l) more.2 in
    elim (cases_lt (digits_value 10 (b ∷ more.0)) (2 ^ 127)) as (λ w. Outcome at (b ∷ bs)) [
      | inl small ↦ piece (Some (Number (pos (digits_value 10 (b ∷ more.0))))) (b ∷ more.0) more.1 whole (((omega arith, (d, more.3)), small, refl), more.4)
      | inr large ↦ fault (NumberTooLarge at) (refl, record { piece = b ∷ more.0; rest = more.1; splits = whole; digits = (omega arith, (d, more.3)); longest = more.4; large = large })
    ]

symbol_step : (at : ℕ) (b : ℕ) (bs : List ℕ) → ¬ IsBlank b → ¬ IsDigit b → StopsChars IsNameStart (b ∷ bs) → ¬ Begins (b ∷ bs) dashes → Outcome at (b ∷ bs)
symbol_step at b bs no_blank no_digit no_name no_comment =
    elim (longest (b ∷ bs)) as (λ w. Outcome at (b ∷ bs)) [
      | inl s ↦ piece (Some (Symbol s.0)) (spelling s.0) s.1.0 s.1.1 (refl, subst (IsLongest s.0) s.1.1 s.2, subst (λ l. ¬ Begins l dashes) s.1.1 no_comment)
      | inr none ↦ fault (BadByte at) (inl (refl, record { some = omega arith; no_blank = no_blank; no_name = no_name; no_number = no_digit; no_symbol = none }))
    ]

name_or_symbol : (at : ℕ) (b : ℕ) (bs : List ℕ) → ¬ IsBlank b → ¬ IsDigit b → ¬ Begins (b ∷ bs) dashes → HasChar (b ∷ bs) ⊎ StartsWithNoChar (b ∷ bs) → Outcome at (b ∷ bs)
name_or_symbol at b bs no_blank no_digit no_comment (inr none) = symbol_step at b bs no_blank no_digit (stops_none IsNameStart (b ∷ bs) none) no_comment
name_or_symbol at b bs no_blank no_digit no_comment (inl c) =
    elim (is_name_start c.0) as (λ w. Outcome at (b ∷ bs)) [
      | inl starts_name ↦ word_step at (b ∷ bs) c.0 (c.1, starts_name, c.2)
      | inr other ↦ symbol_step at b bs no_blank no_digit (stops_other IsNameStart (b ∷ bs) c.0 other c.2) no_comment
    ]

step : (at : ℕ) (b : ℕ) (bs : List ℕ) → Outcome at (b ∷ bs)
step at b bs =
    elim (starts dashes (b ∷ bs)) as (λ w. Outcome at (b ∷ bs)) [
      | inl d ↦ subst (Outcome at) (sym d.1) (comment_step at d.0)
      | inr no_comment ↦ elim (is_blank b) as (λ w. Outcome at (b ∷ bs)) [
        | inl blank ↦ piece None (b ∷ []) bs refl (inl (b, refl, blank))
        | inr no_blank ↦ elim (is_digit b) as (λ w. Outcome at (b ∷ bs)) [
          | inl d ↦ number_step at b bs d
          | inr no_digit ↦ name_or_symbol at b bs no_blank no_digit no_comment (first (b ∷ bs))
        ]
      ]
    ]

-- what stands for a text
abbrev pub Read : ℕ → List ℕ → Type 0
Read at text = ((ts : List Token) × TokensFrom at text ts) ⊎ ((e : LexRefusal) × BreaksFrom at text e)

behind : (at : ℕ) (text : List ℕ) (kind : Option TokenKind) (p r : List ℕ) → text ≡ p ++ r → IsFront kind p r → Read (at + length p) r → Read at text
behind at text kind p r e g (inl t) = inl (tokens_of kind at (at + length p) ++ t.0, reads_front at text t.0 kind p r e g t.1)
behind at text kind p r e g (inr t) = inr (t.0, breaks_front at text t.0 kind p r e g t.1)

pub read : (fuel at : ℕ) (text : List ℕ) → length text ≤ fuel → Read at text
read fuel at [] within = inl ([], at_end)
read zero at (b ∷ bs) within = absurd (omega arith)
read (suc fuel) at (b ∷ bs) within =
    elim (step at b bs) as (λ w. Read at (b ∷ bs)) [
      | piece kind p r e g ↦
          let some = front_not_empty kind p r g in
          let size = ap length e ∙ length-append p r in
          behind at (b ∷ bs) kind p r e g (read fuel (at + length p) r (omega arith))
      | fault e f ↦ inr (e, here f)
    ]
