-- Numbers are read back from their words.
use Rattle.std.proofs.Common.{lit<, ◌≡◌, ℕ, suc, ◌-◌, ◌<◌, false, cond, List, [], ◌∷◌, ◌++◌, length, map, take, drop, decimal, ℤ, pos, negsuc, refl, sym, subst, ap, ◌∙◌, arith}
use Rattle.std.specs.Prelude.{codes, nat_eq}
use Rattle.std.specs.Fmt.{signed_decimal}
use Rattle.std.specs.List.{AllByRecursion}
use Rattle.std.specs.Char.{digit_value}
use Rattle.std.specs.Str.Parse.{AllDigits, digits_value}
use Rattle.std.proofs.lemmas.Fmt.{decimal_is_IsNumeral, decimal_is_IsNumeral_wide, decimal_injective}
use Rattle.grind_report_words.specs.Words.{IsShort, IsWide}
use Rattle.std.proofs.lemmas.Bool.{ne_eqb}

-- ---- lists

pub first_is : {A : Type 0} (x y : A) (xs ys : List A) → x ∷ xs ≡ y ∷ ys → x ≡ y
first_is x y xs ys e = cc

pub rest_is : {A : Type 0} (x y : A) (xs ys : List A) → x ∷ xs ≡ y ∷ ys → xs ≡ ys
rest_is x y xs ys e = cc

pub cancel : {A : Type 0} (xs ys zs : List A) → xs ++ ys ≡ xs ++ zs → ys ≡ zs
cancel [] ys zs e = e
cancel (x ∷ xs) ys zs e = cancel xs ys zs (rest_is x x (xs ++ ys) (xs ++ zs) e)

-- the first word of some
abbrev pub first_of : List (List ℕ) → List ℕ
first_of [] = []
first_of (word ∷ words) = word

abbrev pub rest_of : List (List ℕ) → List (List ℕ)
rest_of [] = []
rest_of (word ∷ words) = words

-- ---- numbers

abbrev pub number : List ℕ → ℕ
number word = digits_value 10 word

pub number_back : (n : ℕ) → IsShort n → number (decimal n) ≡ n
number_back n short = (decimal_is_IsNumeral n (omega arith)).1

pub numbers_back : (ns : List ℕ) → AllByRecursion IsShort ns → map number (map decimal ns) ≡ ns
numbers_back [] h = refl
numbers_back (n ∷ ns) h = let one = number_back n h.0 in let more = numbers_back ns h.1 in cc

pub same_number : (m n : ℕ) → IsShort m → IsShort n → decimal m ≡ decimal n → m ≡ n
same_number m n hm hn e = decimal_injective m n (omega arith) (omega arith) e

pub no_colon : (n : ℕ) → IsShort n → codes ":" ≡ decimal n → ⊥
no_colon n short e =
    let digits : AllDigits 10 (codes ":") = subst (λ (ds : List ℕ). AllDigits 10 ds) (sym e) (decimal_is_IsNumeral n (omega arith)).0.1 in
    let low : digit_value 58 < 10 = digits.0 in omega (arith, low)

-- ---- digits

pub digit-ne : (c k : ℕ) → (digit_value c < 10) → (digit_value k < 10 → ⊥) → nat_eq c k ≡ false
digit-ne c k digit large = ne_eqb c k (λ (e : c ≡ k). large (let P : ℕ → Type 0 = λ x. digit_value x < 10 in subst P e digit))

-- ---- whole numbers

pub integer : List ℕ → ℤ
integer [] = pos 0
integer (b ∷ ds) = cond (nat_eq b 45) (negsuc (digits_value 10 ds - 1)) (pos (digits_value 10 (b ∷ ds)))

integer-digits : (ds : List ℕ) → AllDigits 10 ds → integer ds ≡ pos (digits_value 10 ds)
unfolding integer
integer-digits [] h = refl
integer-digits (b ∷ ds) h = rw (digit-ne b 45 h.0 (λ x. omega (arith, x))) refl

pub integer_back : (z : ℤ) → IsWide z → integer (signed_decimal z) ≡ z
unfolding integer
integer_back (pos n) fits =
    let small = fits.sfits in
    let numeral = decimal_is_IsNumeral_wide n (omega arith) in
    integer-digits (decimal n) numeral.0.1 ∙ ap pos numeral.1
integer_back (negsuc n) fits =
    let small = fits.sfits in
    let numeral = decimal_is_IsNumeral_wide (suc n) (omega arith) in
    let same : digits_value 10 (decimal (suc n)) - 1 ≡ n = omega (arith, numeral.1) in
    ap (λ (k : ℕ). negsuc k) same

pub integer_minus : (ds : List ℕ) → integer (45 ∷ ds) ≡ negsuc (digits_value 10 ds - 1)
unfolding integer
integer_minus ds = refl

-- two numbers of one spelling are one
pub same_integer : (m n : ℤ) → IsWide m → IsWide n → signed_decimal m ≡ signed_decimal n → m ≡ n
same_integer m n hm hn e = sym (integer_back m hm) ∙ ap integer e ∙ integer_back n hn

-- words of different first bytes are different
pub lower_byte : (b d : ℕ) (bs ds : List ℕ) → b < d → b ∷ bs ≡ d ∷ ds → ⊥
lower_byte b d bs ds low e = let first : b ≡ d = first_is b d bs ds e in omega (arith, first, low)

pub other_byte : (b d : ℕ) (bs ds : List ℕ) → d < b → b ∷ bs ≡ d ∷ ds → ⊥
other_byte b d bs ds low e = let first : b ≡ d = first_is b d bs ds e in omega (arith, first, low)

-- a colon spells none
pub no_integer : (z : ℤ) → IsWide z → codes ":" ≡ signed_decimal z → ⊥
no_integer (pos n) wide e =
    let small = wide.sfits in
    let digits : AllDigits 10 (codes ":") = subst (λ (ds : List ℕ). AllDigits 10 ds) (sym e) (decimal_is_IsNumeral_wide n (omega arith)).0.1 in
    let low : digit_value 58 < 10 = digits.0 in omega (arith, low)
no_integer (negsuc n) wide e = other_byte 58 45 [] (decimal (suc n)) (lit< tt) e

abbrev pub one_of : List (List ℕ) → ℕ
one_of words = number (first_of (rest_of words))

abbrev pub other_of : List (List ℕ) → ℕ
other_of words = number (first_of (rest_of (rest_of words)))

pub both_back : {A : Type 0} (f : ℕ → ℕ → A) (a b : ℕ) → IsShort a × IsShort b → f (number (decimal a)) (number (decimal b)) ≡ f a b
both_back f a b fits = ap (λ (x : ℕ). f x (number (decimal b))) (number_back a fits.0) ∙ ap (λ (x : ℕ). f a x) (number_back b fits.1)

-- so many first items
pub first_items : ℕ → List (List ℕ) → List ℕ
first_items count words = map number (take count words)

pub first_items-back : (ns : List ℕ) (words : List (List ℕ)) → AllByRecursion IsShort ns → first_items (length ns) (map decimal ns ++ words) ≡ ns
unfolding first_items
first_items-back [] words h = refl
first_items-back (n ∷ ns) words h = let one = number_back n h.0 in let more = first_items-back ns words h.1 in ap (λ (x : ℕ). x ∷ first_items (length ns) (map decimal ns ++ words)) one ∙ ap (λ (rest : List ℕ). n ∷ rest) more

-- what is after them
pub past_items-back : (ns : List ℕ) (words : List (List ℕ)) → drop (length ns) (map decimal ns ++ words) ≡ words
past_items-back [] words = refl
past_items-back (n ∷ ns) words = past_items-back ns words
