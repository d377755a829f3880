-- The word of a premise of a post says one premise.
use Rattle.std.proofs.Common.{◌≡◌, ℕ, Bool, false, ◌<◌, cond, List, [], ◌∷◌, ◌++◌, length, decimal, refl, sym, ap, ◌∙◌, arith}
use Rattle.std.specs.Prelude.{nat_eq}
use Rattle.std.specs.Char.{digit_value}
use Rattle.std.specs.Str.Parse.{AllDigits}
use Rattle.std.proofs.lemmas.Fmt.{decimal_is_IsNumeral}
use Rattle.grind_report_words.specs.declared.board.Premise.{Premise}
use Rattle.grind_report_words.specs.declared.board.Premise.TheVariants.{Post, Pair}
use Rattle.grind_report_words.specs.Words.{IsShort}
use Rattle.grind_report_words.specs.RuleRows.{premise_word, PremiseFits}
use Rattle.grind_report_words.proofs.NumberSpelling.{number, number_back, digit-ne}

-- the bytes before the first `~`, and those after it
abbrev before_tilde : List ℕ → List ℕ
before_tilde [] = []
before_tilde (b ∷ bytes) = cond (nat_eq b 126) [] (b ∷ before_tilde bytes)

abbrev after_tilde : List ℕ → List ℕ
after_tilde [] = []
after_tilde (b ∷ bytes) = cond (nat_eq b 126) bytes (after_tilde bytes)

no_tilde : (c : ℕ) → digit_value c < 10 → nat_eq c 126 ≡ false
no_tilde c digit = digit-ne c 126 digit (λ x. omega (arith, x))

before_digits : (ds rest : List ℕ) → AllDigits 10 ds → before_tilde (ds ++ 126 ∷ rest) ≡ ds
before_digits [] rest h = refl
before_digits (c ∷ ds) rest h =
    ap (λ (is : Bool). cond is [] (c ∷ before_tilde (ds ++ 126 ∷ rest))) (no_tilde c h.0) ∙ ap (λ (more : List ℕ). c ∷ more) (before_digits ds rest h.1)

after_digits : (ds rest : List ℕ) → AllDigits 10 ds → after_tilde (ds ++ 126 ∷ rest) ≡ rest
after_digits [] rest h = refl
after_digits (c ∷ ds) rest h =
    ap (λ (is : Bool). cond is (ds ++ 126 ∷ rest) (after_tilde (ds ++ 126 ∷ rest))) (no_tilde c h.0) ∙ after_digits ds rest h.1

none_after_digits : (ds : List ℕ) → AllDigits 10 ds → after_tilde ds ≡ []
none_after_digits [] h = refl
none_after_digits (c ∷ ds) h = ap (λ (is : Bool). cond is ds (after_tilde ds)) (no_tilde c h.0) ∙ none_after_digits ds h.1

abbrev premise_of : List ℕ → List ℕ → List ℕ → Premise
premise_of word before [] = Post (number word)
premise_of word before (b ∷ after) = Pair (number before) (number (b ∷ after))

premise_from : List ℕ → Premise
premise_from word = premise_of word (before_tilde word) (after_tilde word)

digits_of : (n : ℕ) → IsShort n → AllDigits 10 (decimal n)
digits_of n short = (decimal_is_IsNumeral n (omega arith)).0.1

pair_by_parts : (word before after : List ℕ) → 0 < length after → premise_of word before after ≡ Pair (number before) (number after)
pair_by_parts word before [] some = absurd (omega (arith, some))
pair_by_parts word before (b ∷ after) some = refl

premise_back : (p : Premise) → PremiseFits p → premise_from (premise_word p) ≡ p
unfolding premise_from
premise_back (Post i) fits =
    ap (λ (after : List ℕ). premise_of (decimal i) (before_tilde (decimal i)) after) (none_after_digits (decimal i) (digits_of i fits))
    ∙ ap (λ (n : ℕ). Post n) (number_back i fits)
premise_back (Pair a b) fits =
    let word : List ℕ = decimal a ++ 126 ∷ decimal b in
    ap (λ (before : List ℕ). premise_of word before (after_tilde word)) (before_digits (decimal a) (decimal b) (digits_of a fits.0))
    ∙ ap (λ (after : List ℕ). premise_of word (decimal a) after) (after_digits (decimal a) (decimal b) (digits_of a fits.0))
    ∙ pair_by_parts word (decimal a) (decimal b) (decimal_is_IsNumeral b (omega (arith, fits.1))).0.0
    ∙ ap (λ (n : ℕ). Pair n (number (decimal b))) (number_back a fits.0) ∙ ap (λ (n : ℕ). Pair a n) (number_back b fits.1)

pub same_premise : (p q : Premise) → PremiseFits p → PremiseFits q → premise_word p ≡ premise_word q → p ≡ q
same_premise p q hp hq e = sym (premise_back p hp) ∙ ap premise_from e ∙ premise_back q hq
