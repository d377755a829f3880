-- Worked cases: texts with the tokens that stand for them, and texts with a fault.
use Rattle.std.proofs.Common.{◌≡◌, ℕ, ◌<◌, List, [], ◌∷◌, ◌++◌, length, refl, sym, ap, ◌∙◌, subst, inl, inr, lit<, lit≤, false, arith, length-append}
use Rattle.std.proofs.lemmas.Bool.{both_ways, eqb-false}
use Rattle.std.proofs.lemmas.List.{append-nil}
use Rattle.std.proofs.lemmas.Str.{encode_ascii, encode_same, IsUtf8-encode, is_utf8-from_IsUtf8, len_utf8_bounds, length-encode}
use Rattle.std.specs.Prelude.{◌==◌, codes, encode_utf8, pos, IsUtf8}
use Rattle.std.specs.Str.{StartsWithNoChar, is_utf8, chars}
use Rattle.unicode_ident.specs.Ident.{is_xid_start, is_xid_continue}
use Rattle.unicode_ident.proofs.IdentLemmas.{is_xid_start-ascii, is_xid_continue-ascii}
use Rattle.grind_tokens.specs.declared.tokens.LexRefusal.TheVariants.{BadByte}
use Rattle.grind_tokens.specs.declared.tokens.Sym.{Sym}
use Rattle.grind_tokens.specs.declared.tokens.Sym.TheVariants.{Dot, Comma, Colon, Semicolon, LeftParen, RightParen, LeftSquare, RightSquare, Eq, Ne, Lt, Le, Iff, Gt, Ge, Plus, Minus, Star, And, Or, Not, Arrow, Turnstile}
use Rattle.grind_tokens.specs.declared.tokens.TokenKind.TheVariants.{Word, Number, Symbol}
use Rattle.grind_tokens.specs.Tokens.{IsNameStart, IsNameChar, Begins, StopsChars, AreNameChars, IsLongest, spelling, gap, token, at_end, TokensOf, here, past_gap, past_token, Breaks}

-- texts that differ in their first byte, or in their second
apart : (b d : ℕ) (bs ds : List ℕ) → (b == d) ≡ false → ¬ (b ∷ bs ≡ d ∷ ds)
apart b d bs ds other e = let same : b ≡ d = cc in eqb-false b d other same

apart_behind : (b c d e : ℕ) (bs ds : List ℕ) → (c == e) ≡ false → ¬ (b ∷ c ∷ bs ≡ d ∷ e ∷ ds)
apart_behind b c d e bs ds other h = let same : c ≡ e = cc in eqb-false c e other same

-- `a` is a name
a_is_named : AreNameChars (codes "a")
a_is_named =
    (97, [], ap (λ l. l ++ []) (sym (encode_ascii 97 (lit< tt))), refl, inr (is_xid_start-ascii 97 (lit< tt)), ([], refl, tt))

-- a text that begins with an ASCII character of which P does not hold
stops_ascii : (P : ℕ → Type 0) (b : ℕ) (bs : List ℕ) → b < 128 → ¬ P b → StopsChars P (b ∷ bs)
stops_ascii P b bs low other c good holds h =
    let same = encode_same b c bs h.0 (ap (λ l. l ++ bs) (encode_ascii b low) ∙ h.1) in
    other (subst P (sym same.0) holds)

-- a character that is no letter, digit or `_` stands in no name
in_no_name : (b : ℕ) → b < 128 → is_xid_continue b ≡ false → ¬ IsNameChar b
in_no_name b low e h = both_ways (is_xid_continue b) e h

-- after `a` no symbol is longer than a dot
dot_longest : IsLongest Dot (codes ".")
dot_longest Dot b = omega arith
dot_longest Comma b = omega arith
dot_longest Colon b = omega arith
dot_longest Semicolon b = omega arith
dot_longest LeftParen b = omega arith
dot_longest RightParen b = omega arith
dot_longest LeftSquare b = omega arith
dot_longest RightSquare b = omega arith
dot_longest Eq b = omega arith
dot_longest Ne b = absurd (apart _ _ _ _ refl b.1)
dot_longest Lt b = omega arith
dot_longest Le b = absurd (apart _ _ _ _ refl b.1)
dot_longest Iff b = absurd (apart _ _ _ _ refl b.1)
dot_longest Gt b = omega arith
dot_longest Ge b = absurd (apart _ _ _ _ refl b.1)
dot_longest Plus b = omega arith
dot_longest Minus b = omega arith
dot_longest Star b = omega arith
dot_longest And b = absurd (apart _ _ _ _ refl b.1)
dot_longest Or b = absurd (apart _ _ _ _ refl b.1)
dot_longest Not b = omega arith
dot_longest Arrow b = absurd (apart _ _ _ _ refl b.1)
dot_longest Turnstile b = absurd (apart _ _ _ _ refl b.1)

-- `a.` is a name and a dot
pub name_and_dot : TokensOf (codes "a.") (record { kind = Word; start = 0; end = 1 } ∷ record { kind = Symbol Dot; start = 1; end = 2 } ∷ [])
name_and_dot =
    token Word (codes "a") (codes ".") refl ((a_is_named, lit≤ tt), stops_ascii IsNameChar 46 [] (lit< tt) (in_no_name 46 (lit< tt) (is_xid_continue-ascii 46 (lit< tt))))
    (token (Symbol Dot) (codes ".") [] refl (refl, dot_longest, λ h. apart _ _ _ _ refl h.1) at_end)

-- no symbol is longer than a bar and a minus sign
turnstile_longest : (text : List ℕ) → IsLongest Turnstile (124 ∷ text)
turnstile_longest text Dot b = omega arith
turnstile_longest text Comma b = omega arith
turnstile_longest text Colon b = omega arith
turnstile_longest text Semicolon b = omega arith
turnstile_longest text LeftParen b = omega arith
turnstile_longest text RightParen b = omega arith
turnstile_longest text LeftSquare b = omega arith
turnstile_longest text RightSquare b = omega arith
turnstile_longest text Eq b = omega arith
turnstile_longest text Ne b = omega arith
turnstile_longest text Lt b = omega arith
turnstile_longest text Le b = omega arith
turnstile_longest text Iff b = absurd (apart _ _ _ _ refl b.1)
turnstile_longest text Gt b = omega arith
turnstile_longest text Ge b = omega arith
turnstile_longest text Plus b = omega arith
turnstile_longest text Minus b = omega arith
turnstile_longest text Star b = omega arith
turnstile_longest text And b = omega arith
turnstile_longest text Or b = omega arith
turnstile_longest text Not b = omega arith
turnstile_longest text Arrow b = omega arith
turnstile_longest text Turnstile b = omega arith

-- `-1` begins with a minus sign alone
minus_longest : IsLongest Minus (codes "-1")
minus_longest Dot b = omega arith
minus_longest Comma b = omega arith
minus_longest Colon b = omega arith
minus_longest Semicolon b = omega arith
minus_longest LeftParen b = omega arith
minus_longest RightParen b = omega arith
minus_longest LeftSquare b = omega arith
minus_longest RightSquare b = omega arith
minus_longest Eq b = omega arith
minus_longest Ne b = absurd (apart _ _ _ _ refl b.1)
minus_longest Lt b = omega arith
minus_longest Le b = absurd (apart _ _ _ _ refl b.1)
minus_longest Iff b = absurd (apart _ _ _ _ refl b.1)
minus_longest Gt b = omega arith
minus_longest Ge b = absurd (apart _ _ _ _ refl b.1)
minus_longest Plus b = omega arith
minus_longest Minus b = omega arith
minus_longest Star b = omega arith
minus_longest And b = absurd (apart _ _ _ _ refl b.1)
minus_longest Or b = absurd (apart _ _ _ _ refl b.1)
minus_longest Not b = omega arith
minus_longest Arrow b = absurd (apart_behind _ _ _ _ _ _ refl b.1)
minus_longest Turnstile b = absurd (apart _ _ _ _ refl b.1)

-- `|--1` is `|-`, `-` and 1
pub turnstile_and_minus : TokensOf (codes "|--1") (record { kind = Symbol Turnstile; start = 0; end = 2 } ∷ record { kind = Symbol Minus; start = 2; end = 3 } ∷ record { kind = Number (pos 1); start = 3; end = 4 } ∷ [])
turnstile_and_minus =
    token (Symbol Turnstile) (codes "|-") (codes "-1") refl (refl, turnstile_longest (codes "--1"), λ h. apart _ _ _ _ refl h.1)
    (token (Symbol Minus) (codes "-") (codes "1") refl (refl, minus_longest, λ h. apart_behind _ _ _ _ _ _ refl h.1)
    (token (Number (pos 1)) (codes "1") [] refl (((lit< tt, ((lit≤ tt, lit≤ tt), tt)), lit< tt, refl), tt) at_end))

-- `|---1` is `|-` and a comment
pub turnstile_and_comment : TokensOf (codes "|---1") (record { kind = Symbol Turnstile; start = 0; end = 2 } ∷ [])
turnstile_and_comment =
    token (Symbol Turnstile) (codes "|-") (codes "--1") refl (refl, turnstile_longest (codes "---1"), λ h. apart _ _ _ _ refl h.1)
    (gap (codes "--1") [] refl (inr (codes "1", refl, (codes "1", ap (λ l. l ++ []) (sym (encode_ascii 49 (lit< tt))), ((refl, λ e. omega arith), tt)), tt)) at_end)

-- no symbol begins with `@`
at_sign_alone : (s : Sym) → ¬ Begins (codes "@") (spelling s)
at_sign_alone Dot h = apart _ _ _ _ refl h.1
at_sign_alone Comma h = apart _ _ _ _ refl h.1
at_sign_alone Colon h = apart _ _ _ _ refl h.1
at_sign_alone Semicolon h = apart _ _ _ _ refl h.1
at_sign_alone LeftParen h = apart _ _ _ _ refl h.1
at_sign_alone RightParen h = apart _ _ _ _ refl h.1
at_sign_alone LeftSquare h = apart _ _ _ _ refl h.1
at_sign_alone RightSquare h = apart _ _ _ _ refl h.1
at_sign_alone Eq h = apart _ _ _ _ refl h.1
at_sign_alone Ne h = apart _ _ _ _ refl h.1
at_sign_alone Lt h = apart _ _ _ _ refl h.1
at_sign_alone Le h = apart _ _ _ _ refl h.1
at_sign_alone Iff h = apart _ _ _ _ refl h.1
at_sign_alone Gt h = apart _ _ _ _ refl h.1
at_sign_alone Ge h = apart _ _ _ _ refl h.1
at_sign_alone Plus h = apart _ _ _ _ refl h.1
at_sign_alone Minus h = apart _ _ _ _ refl h.1
at_sign_alone Star h = apart _ _ _ _ refl h.1
at_sign_alone And h = apart _ _ _ _ refl h.1
at_sign_alone Or h = apart _ _ _ _ refl h.1
at_sign_alone Not h = apart _ _ _ _ refl h.1
at_sign_alone Arrow h = apart _ _ _ _ refl h.1
at_sign_alone Turnstile h = apart _ _ _ _ refl h.1

-- `@` begins no name
at_sign_starts_none : ¬ IsNameStart 64
at_sign_starts_none (inl e) = omega arith
at_sign_starts_none (inr e) = both_ways (is_xid_start 64) (is_xid_start-ascii 64 (lit< tt)) e

-- the first fault of `a @` is at 2
pub stray_at_sign : Breaks (codes "a @") (BadByte 2)
stray_at_sign =
    past_token Word (codes "a") (codes " @") refl ((a_is_named, lit≤ tt), stops_ascii IsNameChar 32 (codes "@") (lit< tt) (in_no_name 32 (lit< tt) (is_xid_continue-ascii 32 (lit< tt))))
    (past_gap (codes " ") (codes "@") refl (inl (32, refl, inl refl))
    (here (inl (
      refl,
      record {
        some = lit< tt;
        no_blank = λ h. omega arith;
        no_name = stops_ascii IsNameStart 64 [] (lit< tt) at_sign_starts_none;
        no_number = λ h. omega arith;
        no_symbol = at_sign_alone;
      },
    ))))

-- the byte 255 is not UTF-8
bad_255 : is_utf8 (255 ∷ []) ≡ false
unfolding is_utf8 chars
bad_255 = refl

no_character_255 : StartsWithNoChar (255 ∷ [])
no_character_255 c [] good e =
    let whole : encode_utf8 c ≡ 255 ∷ [] = sym (e ∙ append-nil (encode_utf8 c)) in
    both_ways (is_utf8 (255 ∷ [])) bad_255 (is_utf8-from_IsUtf8 (255 ∷ []) (subst IsUtf8 whole (IsUtf8-encode c good)))
no_character_255 c (r ∷ rs) good e =
    let some = (len_utf8_bounds c).0 in
    let width = length-encode c in
    let size = ap length e ∙ length-append (encode_utf8 c) (r ∷ rs) in
    omega arith

-- nor is it in a comment: its offset is named, and not that of the comment
pub bad_byte_in_a_comment : Breaks (45 ∷ 45 ∷ 255 ∷ []) (BadByte 2)
bad_byte_in_a_comment = here (inr (
  2,
  refl,
  record {
    body = [];
    rest = 255 ∷ [];
    splits = refl;
    good = ([], refl, tt);
    some = lit< tt;
    bad = no_character_255;
    place = refl;
  },
))
