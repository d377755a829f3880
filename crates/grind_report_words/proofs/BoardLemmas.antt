-- The lines of a board say one thing each.
use Rattle.std.proofs.Common.{◌≡◌, ℕ, ◌<◌, List, [], ◌∷◌, length, map, All, Option, Some, None, decimal, ℤ, refl, sym, ap, ◌∙◌, subst, arith}
use Rattle.std.specs.Prelude.{codes}
use Rattle.std.specs.Fmt.{signed_decimal}
use Rattle.std.specs.Char.{digit_value}
use Rattle.std.specs.Str.Parse.{AllDigits}
use Rattle.std.specs.List.{AllByRecursion, flat_map}
use Rattle.std.proofs.lemmas.Fmt.{decimal_is_IsNumeral}
use Rattle.std.proofs.lemmas.List.Elements.{recursion_from_All}
use Rattle.grind_report_words.specs.declared.board.Entry.{Entry}
use Rattle.grind_report_words.specs.declared.board.Value.{Value}
use Rattle.grind_report_words.specs.Words.{Words, IsShort, IsRow}
use Rattle.grind_report_words.specs.Boards.{generation_word, GenerationFits, AreGenerations, IsClass, AreCursors, IsBasis, value_words, ValueFits, AreValues, IsEntry}
use Rattle.grind_report_words.proofs.NumberSpelling.{first_is, rest_is, number, numbers_back, same_number, same_integer}

-- numbers of one spelling are one list
pub same_numbers : (ms ns : List ℕ) → All IsShort ms → All IsShort ns → map decimal ms ≡ map decimal ns → ms ≡ ns
same_numbers ms ns hm hn e =
    sym (numbers_back ms (recursion_from_All IsShort ms hm)) ∙ ap (λ (ws : Words). map number ws) e ∙ numbers_back ns (recursion_from_All IsShort ns hn)

-- a title and numbers say these numbers alone
pub one_row : (words : Words) (title : List ℕ) (ms ns : List ℕ) → IsRow words title ms → IsRow words title ns → ms ≡ ns
one_row words title ms ns hm hn = same_numbers ms ns hm.1 hn.1 (rest_is title title (map decimal ms) (map decimal ns) (sym hm.0 ∙ hn.0))

first_number : (m n : ℕ) (ms ns : List ℕ) → m ∷ ms ≡ n ∷ ns → m ≡ n
first_number m n ms ns e = cc

-- a count says one number
pub one_count : (words : Words) (title : List ℕ) (m n : ℕ) → IsRow words title (m ∷ []) → IsRow words title (n ∷ []) → m ≡ n
one_count words title m n hm hn = first_number m n [] [] (one_row words title (m ∷ []) (n ∷ []) hm hn)

-- a dash is no number
no_dash : (n : ℕ) → IsShort n → codes "-" ≡ decimal n → ⊥
no_dash n short e =
    let digits : AllDigits 10 (decimal n) = (decimal_is_IsNumeral n (omega arith)).0.1 in
    let dash : AllDigits 10 (codes "-") = subst (λ (ds : List ℕ). AllDigits 10 ds) (sym e) digits in
    let low : digit_value 45 < 10 = dash.0 in omega (arith, low)

same_generation : (a b : Option ℕ) → GenerationFits a → GenerationFits b → generation_word a ≡ generation_word b → a ≡ b
same_generation None None ha hb e = refl
same_generation None (Some n) ha hb e = absurd (no_dash n hb e)
same_generation (Some m) None ha hb e = absurd (no_dash m ha (sym e))
same_generation (Some m) (Some n) ha hb e = ap (λ (k : ℕ). Some k) (same_number m n ha hb e)

same_generations : (xs ys : List (Option ℕ)) → AllByRecursion GenerationFits xs → AllByRecursion GenerationFits ys → map generation_word xs ≡ map generation_word ys → xs ≡ ys
same_generations [] [] ha hb e = refl
same_generations [] (b ∷ ys) ha hb e = absurd cc
same_generations (a ∷ xs) [] ha hb e = absurd cc
same_generations (a ∷ xs) (b ∷ ys) ha hb e =
    let one : a ≡ b = same_generation a b ha.0 hb.0 (first_is (generation_word a) (generation_word b) (map generation_word xs) (map generation_word ys) e) in
    let more : xs ≡ ys = same_generations xs ys ha.1 hb.1 (rest_is (generation_word a) (generation_word b) (map generation_word xs) (map generation_word ys) e) in
    cc

pub one_generations : (words : Words) (count : ℕ) (xs ys : List (Option ℕ)) → AreGenerations words count xs → AreGenerations words count ys → xs ≡ ys
one_generations words count xs ys ha hb =
    same_generations xs ys (recursion_from_All GenerationFits xs ha.fit) (recursion_from_All GenerationFits ys hb.fit)
    (rest_is (codes "generations") (codes "generations") (map generation_word xs) (map generation_word ys) (sym ha.are ∙ hb.are))

pub one_class : (words : Words) (ms ns : List ℕ) → IsClass words ms → IsClass words ns → ms ≡ ns
one_class words ms ns hm hn = same_numbers ms ns hm.fit hn.fit (sym hm.are ∙ hn.are)

pub one_cursors : (words : Words) (ms ns : List ℕ) → AreCursors words ms → AreCursors words ns → ms ≡ ns
one_cursors words ms ns hm hn = one_row words (codes "cursors") ms ns hm.are hn.are

pub one_basis : (words : Words) (ms ns : List ℕ) → IsBasis words ms → IsBasis words ns → ms ≡ ns
one_basis words ms ns hm hn =
    rest_is (length ms) (length ns) ms ns (one_row words (codes "basis") (length ms ∷ ms) (length ns ∷ ns) hm.are hn.are)

abbrev value_of_parts : ℕ → ℤ → Value
value_of_parts node value = record { node = node; value = value }

same_values : (xs ys : List Value) → AllByRecursion ValueFits xs → AllByRecursion ValueFits ys → flat_map value_words xs ≡ flat_map value_words ys → xs ≡ ys
same_values [] [] ha hb e = refl
same_values [] (b ∷ ys) ha hb e = absurd cc
same_values (a ∷ xs) [] ha hb e = absurd cc
same_values (a ∷ xs) (b ∷ ys) ha hb e =
    let rest_a : Words = signed_decimal a.value ∷ flat_map value_words xs in
    let rest_b : Words = signed_decimal b.value ∷ flat_map value_words ys in
    let node : a.node ≡ b.node = same_number a.node b.node ha.0.node hb.0.node (first_is (decimal a.node) (decimal b.node) rest_a rest_b e) in
    let behind : rest_a ≡ rest_b = rest_is (decimal a.node) (decimal b.node) rest_a rest_b e in
    let value : a.value ≡ b.value = same_integer a.value b.value ha.0.value hb.0.value (first_is (signed_decimal a.value) (signed_decimal b.value) (flat_map value_words xs) (flat_map value_words ys) behind) in
    let more : xs ≡ ys = same_values xs ys ha.1 hb.1 (rest_is (signed_decimal a.value) (signed_decimal b.value) (flat_map value_words xs) (flat_map value_words ys) behind) in
    let one : a ≡ b = ap (λ (n : ℕ). value_of_parts n a.value) node ∙ ap (λ (z : ℤ). value_of_parts b.node z) value in
    cc

-- `none` is no number
no_none : (n : ℕ) → IsShort n → codes "none" ≡ decimal n → ⊥
no_none n short e =
    let digits : AllDigits 10 (decimal n) = (decimal_is_IsNumeral n (omega arith)).0.1 in
    let none : AllDigits 10 (codes "none") = subst (λ (ds : List ℕ). AllDigits 10 ds) (sym e) digits in
    let low : digit_value 110 < 10 = none.0 in omega (arith, low)

second_is : (a x y : List ℕ) (xs ys : Words) → a ∷ x ∷ xs ≡ a ∷ y ∷ ys → x ≡ y
second_is a x y xs ys e = cc

pub one_values : (words : Words) (a b : Option (List Value)) → AreValues words a → AreValues words b → a ≡ b
one_values words None None ha hb = refl
one_values words None (Some ys) ha hb =
    absurd (no_none (length ys) hb.1 (second_is (codes "values") (codes "none") (decimal (length ys)) [] (flat_map value_words ys) (sym ha ∙ hb.0)))
one_values words (Some xs) None ha hb =
    absurd (no_none (length xs) ha.1 (second_is (codes "values") (codes "none") (decimal (length xs)) [] (flat_map value_words xs) (sym hb ∙ ha.0)))
one_values words (Some xs) (Some ys) ha hb =
    let e : codes "values" ∷ decimal (length xs) ∷ flat_map value_words xs ≡ codes "values" ∷ decimal (length ys) ∷ flat_map value_words ys = sym ha.0 ∙ hb.0 in
    let behind : flat_map value_words xs ≡ flat_map value_words ys =
    rest_is (decimal (length xs)) (decimal (length ys)) (flat_map value_words xs) (flat_map value_words ys)
    (rest_is (codes "values") (codes "values") (decimal (length xs) ∷ flat_map value_words xs) (decimal (length ys) ∷ flat_map value_words ys) e) in
    ap (λ (vs : List Value). Some vs) (same_values xs ys (recursion_from_All ValueFits xs ha.2) (recursion_from_All ValueFits ys hb.2) behind)

abbrev entry_of_parts : ℕ → List ℕ → Entry
entry_of_parts theorem subst = record { theorem = theorem; subst = subst }

pub one_entry : (words : Words) (a b : Entry) → IsEntry words a → IsEntry words b → a ≡ b
one_entry words a b ha hb =
    let all : a.theorem ∷ a.subst ≡ b.theorem ∷ b.subst = same_numbers (a.theorem ∷ a.subst) (b.theorem ∷ b.subst) ha.fit hb.fit (sym ha.are ∙ hb.are) in
    ap (λ (x : ℕ). entry_of_parts x a.subst) (first_number a.theorem b.theorem a.subst b.subst all)
    ∙ ap (λ (x : List ℕ). entry_of_parts b.theorem x) (rest_is a.theorem b.theorem a.subst b.subst all)
