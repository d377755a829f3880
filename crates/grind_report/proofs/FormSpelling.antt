-- Linear forms, polynomials and factors are read back from their words.
use Rattle.std.proofs.Common.{◌≡◌, ℕ, zero, suc, List, [], ◌∷◌, ◌++◌, length, map, drop, decimal, ℤ, refl, sym, ap, ◌∙◌, append_assoc, arith}
use Rattle.std.specs.Prelude.{codes}
use Rattle.std.specs.Fmt.{signed_decimal}
use Rattle.std.specs.List.{AllByRecursion, flat_map}
use Rattle.std.proofs.lemmas.List.Elements.{recursion_from_All}
use Rattle.grind_linear_forms.specs.declared.form.Part.{Part}
use Rattle.grind_linear_forms.specs.Forms.{FormData, form_data, part_of}
use Rattle.grind_polynomials.specs.declared.poly.Term.{Term}
use Rattle.grind_polynomials.specs.Polynomials.{term_of}
use Rattle.grind_report.specs.Report.{part_words, form_words, monomial_words, poly_words, paired, factor_first, factor_behind, IsShort, IsWide, PartFits, FormFits, MonomialFits, PolyFits}
use Rattle.grind_report.proofs.NumberSpelling.{first_is, rest_is, cancel, first_of, rest_of, number, number_back, same_number, no_colon, integer, integer_back, same_integer, no_integer, one_of, first_items, first_items-back, past_items-back}

-- ---- linear forms

abbrev parts_from : List (List ℕ) → List Part
parts_from [] = []
parts_from (coefficient ∷ []) = []
parts_from (coefficient ∷ node ∷ words) = part_of (number node) (integer coefficient) ∷ parts_from words

part_back : (part : Part) → PartFits part → part_of (number (decimal part.node)) (integer (signed_decimal part.coefficient)) ≡ part
part_back part fits =
    ap (λ (n : ℕ). part_of n (integer (signed_decimal part.coefficient))) (number_back part.node fits.node)
    ∙ ap (λ (z : ℤ). part_of part.node z) (integer_back part.coefficient fits.coefficient)

parts_back : (parts : List Part) → AllByRecursion PartFits parts → parts_from (flat_map part_words parts) ≡ parts
parts_back [] h = refl
parts_back (part ∷ parts) h =
    ap (λ (p : Part). p ∷ parts_from (flat_map part_words parts)) (part_back part h.0) ∙ ap (λ (ps : List Part). part ∷ ps) (parts_back parts h.1)

abbrev pub form_from : List (List ℕ) → FormData
form_from words = form_data (parts_from (rest_of words)) (integer (first_of words))

pub form_back : (form : FormData) → FormFits form → form_from (form_words form) ≡ form
form_back form fits =
    ap (λ (z : ℤ). form_data (parts_from (flat_map part_words form.parts)) z) (integer_back form.constant fits.constant)
    ∙ ap (λ (parts : List Part). form_data parts form.constant) (parts_back form.parts (recursion_from_All PartFits form.parts fits.parts))

-- ---- polynomials

abbrev terms_from : ℕ → List (List ℕ) → List Term
terms_from zero words = []
terms_from (suc count) words =
    term_of (integer (first_of words)) (first_items (one_of words) (rest_of (rest_of words))) ∷ terms_from count (drop (one_of words) (rest_of (rest_of words)))

-- a monomial of this coefficient and degree, and so many others after it
abbrev term_before : ℕ → ℤ → ℕ → List (List ℕ) → List Term
term_before count coefficient degree words = term_of coefficient (first_items degree words) ∷ terms_from count (drop degree words)

terms_back : (terms : List Term) (words : List (List ℕ)) → AllByRecursion MonomialFits terms → terms_from (length terms) (flat_map monomial_words terms ++ words) ≡ terms
terms_back [] words h = refl
terms_back (term ∷ terms) words h =
    let count = length terms in
    let nodes = term.monomial in
    let more = flat_map monomial_words terms in
    let behind = (map decimal nodes ++ more) ++ words in
    let degree = number (decimal (length nodes)) in
    ap (λ (z : ℤ). term_before count z degree behind) (integer_back term.coefficient h.0.coefficient)
    ∙ ap (λ (k : ℕ). term_before count term.coefficient k behind) (number_back (length nodes) h.0.degree)
    ∙ ap (λ (ws : List (List ℕ)). term_before count term.coefficient (length nodes) ws) (append_assoc (map decimal nodes) more words)
    ∙ ap (λ (ns : List ℕ). term_of term.coefficient ns ∷ terms_from count (drop (length nodes) (map decimal nodes ++ (more ++ words)))) (first_items-back nodes (more ++ words) (recursion_from_All IsShort nodes h.0.nodes))
    ∙ ap (λ (ws : List (List ℕ)). term ∷ terms_from count ws) (past_items-back nodes (more ++ words))
    ∙ ap (λ (ts : List Term). term ∷ ts) (terms_back terms words h.1)

abbrev pub poly_from : List (List ℕ) → List Term
poly_from words = terms_from (number (first_of words)) (rest_of words)

pub poly_back : (poly : List Term) (words : List (List ℕ)) → PolyFits poly → poly_from (poly_words poly ++ words) ≡ poly
poly_back poly words fits =
    ap (λ (k : ℕ). terms_from k (flat_map monomial_words poly ++ words)) (number_back (length poly) fits.count)
    ∙ terms_back poly words (recursion_from_All MonomialFits poly fits.terms)

same_poly : (p q : List Term) (xs ys : List (List ℕ)) → PolyFits p → PolyFits q → poly_words p ++ xs ≡ poly_words q ++ ys → (p ≡ q) × (xs ≡ ys)
same_poly p q xs ys hp hq e =
    let inject : p ≡ q = sym (poly_back p xs hp) ∙ ap poly_from e ∙ poly_back q ys hq in
    let moved : poly_words p ++ xs ≡ poly_words p ++ ys = e ∙ ap (λ (r : List Term). poly_words r ++ ys) (sym inject) in
    (inject, cancel (poly_words p) xs ys moved)

-- ---- factors with their premises

abbrev pub AreSame : {A : Type 0} → A → A → ℕ → ℕ → List (List ℕ) → List (List ℕ) → Type 0
AreSame a b p q xs ys = (a ≡ b) × (p ≡ q) × (xs ≡ ys)

first_same : (a b : ℤ) (p q : ℕ) (xs ys : List (List ℕ)) → IsWide a → IsWide b → IsShort p → IsShort q
    → factor_first a p ++ xs ≡ factor_first b q ++ ys → AreSame a b p q xs ys
first_same a b p q xs ys ha hb hp hq e =
    let front : signed_decimal a ≡ signed_decimal b = first_is (signed_decimal a) (signed_decimal b) (decimal p ∷ xs) (decimal q ∷ ys) e in
    let behind : decimal p ∷ xs ≡ decimal q ∷ ys = rest_is (signed_decimal a) (signed_decimal b) (decimal p ∷ xs) (decimal q ∷ ys) e in
    (same_integer a b ha hb front, same_number p q hp hq (first_is (decimal p) (decimal q) xs ys behind), rest_is (decimal p) (decimal q) xs ys behind)

first_no_colon : (a : ℤ) (p : ℕ) (xs ys : List (List ℕ)) → IsWide a → IsShort p → codes ":" ∷ xs ≡ factor_first a p ++ ys → ⊥
first_no_colon a p xs ys ha hp e = no_integer a ha (first_is (codes ":") (signed_decimal a) xs (decimal p ∷ ys) e)

behind_same : (a b : List Term) (p q : ℕ) (xs ys : List (List ℕ)) → PolyFits a → PolyFits b → IsShort p → IsShort q
    → factor_behind a p ++ xs ≡ factor_behind b q ++ ys → AreSame a b p q xs ys
behind_same a b p q xs ys ha hb hp hq e =
    let front : decimal p ≡ decimal q = first_is (decimal p) (decimal q) (poly_words a ++ xs) (poly_words b ++ ys) e in
    let behind = same_poly a b xs ys ha hb (rest_is (decimal p) (decimal q) (poly_words a ++ xs) (poly_words b ++ ys) e) in
    (behind.0, same_number p q hp hq front, behind.1)

behind_no_colon : (a : List Term) (p : ℕ) (xs ys : List (List ℕ)) → PolyFits a → IsShort p → codes ":" ∷ xs ≡ factor_behind a p ++ ys → ⊥
behind_no_colon a p xs ys ha hp e = no_colon p hp (first_is (codes ":") (decimal p) xs (poly_words a ++ ys) e)

-- the factors and premises before a colon, and what is after it
same_paired : {A : Type 0} (words : A → ℕ → List (List ℕ)) (Fits : A → Type 0)
    (same : (a b : A) (p q : ℕ) (xs ys : List (List ℕ)) → Fits a → Fits b → IsShort p → IsShort q → words a p ++ xs ≡ words b q ++ ys → AreSame a b p q xs ys)
    (other : (a : A) (p : ℕ) (xs ys : List (List ℕ)) → Fits a → IsShort p → codes ":" ∷ xs ≡ words a p ++ ys → ⊥)
    (lefts : List A) (ps : List ℕ) (rights : List A) (qs : List ℕ) (xs ys : List (List ℕ)) → length ps ≡ length lefts → length qs ≡ length rights
    → AllByRecursion Fits lefts → AllByRecursion Fits rights → AllByRecursion IsShort ps → AllByRecursion IsShort qs
    → paired words lefts ps ++ codes ":" ∷ xs ≡ paired words rights qs ++ codes ":" ∷ ys → (lefts ≡ rights) × (ps ≡ qs) × (xs ≡ ys)
same_paired words Fits same other [] (p ∷ ps) rights qs xs ys la lb ha hb hp hq e = absurd (omega (arith, la))
same_paired words Fits same other (a ∷ lefts) [] rights qs xs ys la lb ha hb hp hq e = absurd (omega (arith, la))
same_paired words Fits same other [] [] [] (q ∷ qs) xs ys la lb ha hb hp hq e = absurd (omega (arith, lb))
same_paired words Fits same other [] [] (b ∷ rights) [] xs ys la lb ha hb hp hq e = absurd (omega (arith, lb))
same_paired words Fits same other [] [] [] [] xs ys la lb ha hb hp hq e = (refl, refl, rest_is (codes ":") (codes ":") xs ys e)
same_paired words Fits same other [] [] (b ∷ rights) (q ∷ qs) xs ys la lb ha hb hp hq e =
    let tail = paired words rights qs ++ codes ":" ∷ ys in
    absurd (other b q xs tail hb.0 hq.0 (e ∙ append_assoc (words b q) (paired words rights qs) (codes ":" ∷ ys)))
same_paired words Fits same other (a ∷ lefts) (p ∷ ps) [] (q ∷ qs) xs ys la lb ha hb hp hq e = absurd (omega (arith, lb))
same_paired words Fits same other (a ∷ lefts) (p ∷ ps) (b ∷ rights) [] xs ys la lb ha hb hp hq e = absurd (omega (arith, lb))
same_paired words Fits same other (a ∷ lefts) (p ∷ ps) [] [] xs ys la lb ha hb hp hq e =
    let tail = paired words lefts ps ++ codes ":" ∷ xs in
    absurd (other a p ys tail ha.0 hp.0 (sym e ∙ append_assoc (words a p) (paired words lefts ps) (codes ":" ∷ xs)))
same_paired words Fits same other (a ∷ lefts) (p ∷ ps) (b ∷ rights) (q ∷ qs) xs ys la lb ha hb hp hq e =
    let left = paired words lefts ps ++ codes ":" ∷ xs in
    let right = paired words rights qs ++ codes ":" ∷ ys in
    let moved : words a p ++ left ≡ words b q ++ right =
    sym (append_assoc (words a p) (paired words lefts ps) (codes ":" ∷ xs)) ∙ e ∙ append_assoc (words b q) (paired words rights qs) (codes ":" ∷ ys) in
    let one = same a b p q left right ha.0 hb.0 hp.0 hq.0 moved in
    let left_count : length ps ≡ length lefts = omega (arith, la) in
    let right_count : length qs ≡ length rights = omega (arith, lb) in
    let more = same_paired words Fits same other lefts ps rights qs xs ys left_count right_count ha.1 hb.1 hp.1 hq.1 one.2 in
    let factor : a ≡ b = one.0 in
    let premise : p ≡ q = one.1 in
    let factors : lefts ≡ rights = more.0 in
    let premises : ps ≡ qs = more.1 in
    (cc, cc, more.2)

-- so it is with numbers before premises
pub same_combined : (lefts : List ℤ) (ps : List ℕ) (rights : List ℤ) (qs : List ℕ) (xs ys : List (List ℕ)) → length ps ≡ length lefts → length qs ≡ length rights
    → AllByRecursion IsWide lefts → AllByRecursion IsWide rights → AllByRecursion IsShort ps → AllByRecursion IsShort qs
    → paired factor_first lefts ps ++ codes ":" ∷ xs ≡ paired factor_first rights qs ++ codes ":" ∷ ys → (lefts ≡ rights) × (ps ≡ qs) × (xs ≡ ys)
same_combined = same_paired factor_first IsWide first_same first_no_colon

-- and with polynomials after premises
pub same_gathered : (lefts : List (List Term)) (ps : List ℕ) (rights : List (List Term)) (qs : List ℕ) (xs ys : List (List ℕ)) → length ps ≡ length lefts → length qs ≡ length rights
    → AllByRecursion PolyFits lefts → AllByRecursion PolyFits rights → AllByRecursion IsShort ps → AllByRecursion IsShort qs
    → paired factor_behind lefts ps ++ codes ":" ∷ xs ≡ paired factor_behind rights qs ++ codes ":" ∷ ys → (lefts ≡ rights) × (ps ≡ qs) × (xs ≡ ys)
same_gathered = same_paired factor_behind PolyFits behind_same behind_no_colon
