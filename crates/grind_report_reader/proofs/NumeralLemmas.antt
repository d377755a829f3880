-- A numeral is the decimal of its value, and the decimal of a number is a numeral.
use Rattle.std.proofs.Common.{IsTrue, ◌↔◌, Bool, ℤ, pos, negsuc, ◌≡◌, ◌≢◌, ℕ, zero, suc, ◌+◌, ◌*◌, ◌/◌, ◌%◌, ◌^◌, ◌<◌, ◌≤◌, List, [], ◌∷◌, ◌++◌, length, decimal, refl, sym, ap, ◌∙◌, subst, append_assoc, arith, inl, inr}
use Rattle.std.specs.Char.{digit_value}
use Rattle.std.specs.List.{AllByRecursion}
use Rattle.std.specs.Str.Parse.{AllDigits, digits_value, digits_value_after}
use Rattle.std.proofs.lemmas.Fmt.{decimal_is_IsNumeral_wide, decimal_step_wide, decimal_by_steps_wide, decimal_digit}
use Rattle.std.proofs.lemmas.List.{append-nil, length-append}
use Rattle.std.proofs.lemmas.List.Elements.{recursion_from_All, All-from_recursion}
use Rattle.std.proofs.lemmas.Str.{digit_value_digit}
use Rattle.std.proofs.lemmas.Str.Parse.{digit_from_value}
use Rattle.grind_report_words.specs.Words.{IsWide, IsInteger}
use Rattle.grind_report_words.proofs.NumberSpelling.{first_is, rest_is}
use Rattle.grind_report_reader.specs.Numerals.{IsDigit, AreDigits, IsNumeral}

digits_told : (ds : List ℕ) → AllByRecursion IsDigit ds → AllDigits 10 ds
digits_told [] h = tt
digits_told (c ∷ ds) h = (omega (arith, digit_value_digit c h.0), digits_told ds h.1)

told_digits : (ds : List ℕ) → AllDigits 10 ds → AllByRecursion IsDigit ds
told_digits [] h = tt
told_digits (c ∷ ds) h = (digit_from_value c h.0, told_digits ds h.1)

le_value_after : (n : ℕ) (ds : List ℕ) → n ≤ digits_value_after 10 n ds
le_value_after n [] = omega arith
le_value_after n (c ∷ cs) = omega (arith, le_value_after (n * 10 + digit_value c) cs)

-- a value with one more digit is no less
pub value_grows : (n : ℕ) (ds : List ℕ) → n ≤ digits_value_after 10 n ds
value_grows = le_value_after

decimal_value_after : (n : ℕ) (ds : List ℕ) → 0 < n → AllDigits 10 ds → digits_value_after 10 n ds < 10 ^ 64
    → decimal (digits_value_after 10 n ds) ≡ decimal n ++ ds
decimal_value_after n [] some d small = sym (append-nil (decimal n))
decimal_value_after n (c ∷ cs) some d small =
    let m : ℕ = n * 10 + digit_value c in
    let k = digit_value_digit c (digit_from_value c d.0) in
    let front : m / 10 ≡ n = omega (arith, d.0) in
    let end : 48 + m % 10 ≡ c = omega (arith, d.0) in
    decimal_value_after m cs (omega arith) d.1 small
    ∙ ap (λ x. x ++ cs) (decimal_step_wide m (omega arith) (omega (arith, le_value_after m cs)) ∙ (λ i. decimal (front i) ++ (end i ∷ [])))
    ∙ append_assoc (decimal n) (c ∷ []) cs

-- a numeral is the decimal of its value
pub numeral_spells : (word : List ℕ) → IsNumeral word → digits_value 10 word < 10 ^ 64 → word ≡ decimal (digits_value 10 word)
numeral_spells [] h small = absurd h
numeral_spells (c ∷ cs) (inr h) small =
    let whole : c ∷ cs ≡ 48 ∷ [] = ap (λ (x : ℕ). x ∷ cs) h.0 ∙ ap (λ (xs : List ℕ). 48 ∷ xs) h.1 in
    let zero_is : decimal 0 ≡ 48 ∷ [] = decimal_digit 0 (omega arith) in
    whole ∙ sym zero_is ∙ ap (λ (ds : List ℕ). decimal (digits_value 10 ds)) (sym whole)
numeral_spells (c ∷ cs) (inl h) small =
    let d = digits_told (c ∷ cs) (recursion_from_All IsDigit (c ∷ cs) h.1) in
    let k = digit_value_digit c (digit_from_value c d.0) in
    let range = digit_from_value c d.0 in
    let first : ℕ = 0 * 10 + digit_value c in
    let some : 0 < first = omega (arith, k, range, h.0) in
    let is : 48 + first ≡ c = omega arith in
    sym (decimal_value_after first cs some d.1 small ∙ ap (λ x. x ++ cs) (decimal_digit first (omega (arith, d.0)) ∙ ap (λ x. x ∷ []) is))

-- the first byte, and 0 where there is none
abbrev first_byte : List ℕ → ℕ
first_byte [] = 0
first_byte (b ∷ bytes) = b

first_byte-append : (ds more : List ℕ) → 0 < length ds → first_byte (ds ++ more) ≡ first_byte ds
first_byte-append [] more some = absurd (omega (arith, some))
first_byte-append (b ∷ ds) more some = refl

-- the decimal of a number begins with no zero, unless it is 0
first_decimal : (n : ℕ) → n < 10 ^ 64 → (0 < length (decimal n)) × (0 < n → 48 < first_byte (decimal n))
first_decimal n small = decimal_by_steps_wide (λ m ds. (0 < length ds) × (0 < m → 48 < first_byte ds)) (λ m l. (omega arith, λ a. omega arith))
    (λ m ds l h. (omega (arith, length-append ds ((48 + m % 10) ∷ [])), λ a. omega (arith, first_byte-append ds ((48 + m % 10) ∷ []) h.0, h.1 (omega arith)))) n small

numeral_of : (word : List ℕ) (n : ℕ) → word ≡ decimal n → AllByRecursion IsDigit word → 0 < length word → (0 < n → 48 < first_byte word) → n < 10 ^ 64 → IsNumeral word
numeral_of [] n e digits some first small = absurd (omega (arith, some))
numeral_of (c ∷ cs) zero e digits some first small =
    let whole : c ∷ cs ≡ 48 ∷ [] = e ∙ decimal_digit 0 (omega arith) in
    inr (first_is c 48 cs [] whole, rest_is c 48 cs [] whole)
numeral_of (c ∷ cs) (suc n) e digits some first small =
    let high : 48 < c = first (omega arith) in
    inl (λ low. omega (arith, low, high), All-from_recursion IsDigit (c ∷ cs) digits)

-- the decimal of a number is a numeral, of that value
pub decimal_numeral : (word : List ℕ) (n : ℕ) → n < 10 ^ 64 → word ≡ decimal n → IsNumeral word × (digits_value 10 word ≡ n)
decimal_numeral word n small e =
    let is = decimal_is_IsNumeral_wide n small in
    let start = first_decimal n small in
    let P : List ℕ → Type 0 = λ ds. (AllByRecursion IsDigit ds × (0 < length ds)) × (0 < n → 48 < first_byte ds) in
    let all : P word = subst P (sym e) ((told_digits (decimal n) is.0.1, start.0), start.1) in
    (numeral_of word n e all.0.0 all.0.1 all.1 small, ap (λ (ds : List ℕ). digits_value 10 ds) e ∙ is.1)

-- a numeral has digits alone
pub numeral_digits : (word : List ℕ) → IsNumeral word → AllByRecursion IsDigit word
numeral_digits [] h = absurd h
numeral_digits (c ∷ cs) (inl h) = recursion_from_All IsDigit (c ∷ cs) h.1
numeral_digits (c ∷ cs) (inr h) =
    ((omega (arith, h.0), omega (arith, h.0)), subst (λ (ds : List ℕ). AllByRecursion IsDigit ds) (sym h.1) tt)

-- digits that do not begin with a zero are a numeral exactly where they are digits
pub digits_numeral : (word : List ℕ) (c : ℕ) (cs : List ℕ) (are : Bool) → word ≡ c ∷ cs → c ≢ 48 → IsTrue are ↔ AreDigits word → IsTrue are ↔ IsNumeral word
digits_numeral [] c cs are e unlike h = absurd (omega (arith, ap (λ (ds : List ℕ). length ds) e))
digits_numeral (d ∷ ds) c cs are e unlike h =
    let same : d ≡ c = first_is d c ds cs e in (
      λ yes_are. inl (λ zero_is. unlike (sym same ∙ zero_is), h.0 yes_are),
      λ numeral. elim numeral [ inl some ↦ h.1 some.1 | inr alone ↦ absurd (unlike (sym same ∙ alone.0)) ],
    )

-- numbers of one decimal are one
pub same_decimal : (m n : ℕ) → m < 10 ^ 64 → n < 10 ^ 64 → decimal m ≡ decimal n → m ≡ n
same_decimal m n hm hn e =
    sym (decimal_is_IsNumeral_wide m hm).1 ∙ ap (λ (ds : List ℕ). digits_value 10 ds) e ∙ (decimal_is_IsNumeral_wide n hn).1

-- a whole number is said by at least one byte
pub some_byte : (word : List ℕ) (z : ℤ) → IsInteger word z → 0 < length word
some_byte word (pos n) h =
    let small = h.1.sfits in
    subst (λ (ds : List ℕ). 0 < length ds) (sym h.0) (decimal_is_IsNumeral_wide n (omega arith)).0.0
some_byte word (negsuc n) h =
    let long : length word ≡ suc (length (decimal (suc n))) = ap (λ (ds : List ℕ). length ds) h.0 in
    omega (arith, long)

-- a word that begins with a minus sign says a negative number alone
pub minus_rest : (word digits : List ℕ) (first : ℕ) (z : ℤ) → word ≡ first ∷ digits → first ≡ 45 → IsInteger word z
    → ((k : ℕ) → IsWide (negsuc k) → digits ≡ decimal (suc k) → ⊥) → ⊥
minus_rest word digits first (pos n) e minus h none =
    let small = h.1.sfits in
    let all : AllDigits 10 (first ∷ digits) = subst (λ (ds : List ℕ). AllDigits 10 ds) (sym h.0 ∙ e) (decimal_is_IsNumeral_wide n (omega arith)).0.1 in
    let digit = digit_from_value first all.0 in
    omega (arith, minus, digit)
minus_rest word digits first (negsuc k) e minus h none =
    none k h.1 (rest_is first 45 digits (decimal (suc k)) (sym e ∙ h.0))
