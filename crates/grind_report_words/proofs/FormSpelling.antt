-- Linear forms and polynomials are read back from their words.
use Rattle.std.proofs.Common.{◌≡◌, ℕ, zero, suc, List, [], ◌∷◌, ◌++◌, length, map, drop, decimal, ℤ, refl, sym, ap, ◌∙◌, append_assoc}
use Rattle.std.specs.Fmt.{signed_decimal}
use Rattle.std.specs.List.{AllByRecursion, flat_map}
use Rattle.std.proofs.lemmas.List.Elements.{recursion_from_All}
use Rattle.grind_linear_forms.specs.declared.form.Part.{Part}
use Rattle.grind_linear_forms.specs.Forms.{FormData, form_data, part_of}
use Rattle.grind_polynomials.specs.declared.poly.Term.{Term}
use Rattle.grind_polynomials.specs.Polynomials.{term_of}
use Rattle.grind_report_words.specs.Words.{IsShort}
use Rattle.grind_report_words.specs.Claims.{part_words, form_words, monomial_words, poly_words, PartFits, FormFits, MonomialFits, PolyFits}
use Rattle.grind_report_words.proofs.NumberSpelling.{cancel, first_of, rest_of, number, number_back, integer, integer_back, one_of, first_items, first_items-back, past_items-back}

-- ---- linear forms

abbrev parts_from : List (List ℕ) → List Part
parts_from [] = []
parts_from (coefficient ∷ []) = []
parts_from (coefficient ∷ node ∷ words) = part_of (number node) (integer coefficient) ∷ parts_from words

part_back : (part : Part) → PartFits part → part_of (number (decimal part.node)) (integer (signed_decimal part.coefficient)) ≡ part
part_back part fits =
    ap (λ (n : ℕ). part_of n (integer (signed_decimal part.coefficient))) (number_back part.node fits.node)
    ∙ ap (λ (z : ℤ). part_of part.node z) (integer_back part.coefficient fits.coefficient)

parts_back : (parts : List Part) → AllByRecursion PartFits parts → parts_from (flat_map part_words parts) ≡ parts
parts_back [] h = refl
parts_back (part ∷ parts) h =
    ap (λ (p : Part). p ∷ parts_from (flat_map part_words parts)) (part_back part h.0) ∙ ap (λ (ps : List Part). part ∷ ps) (parts_back parts h.1)

abbrev pub form_from : List (List ℕ) → FormData
form_from words = form_data (parts_from (rest_of words)) (integer (first_of words))

pub form_back : (form : FormData) → FormFits form → form_from (form_words form) ≡ form
form_back form fits =
    ap (λ (z : ℤ). form_data (parts_from (flat_map part_words form.parts)) z) (integer_back form.constant fits.constant)
    ∙ ap (λ (parts : List Part). form_data parts form.constant) (parts_back form.parts (recursion_from_All PartFits form.parts fits.parts))

-- ---- polynomials

abbrev terms_from : ℕ → List (List ℕ) → List Term
terms_from zero words = []
terms_from (suc count) words =
    term_of (integer (first_of words)) (first_items (one_of words) (rest_of (rest_of words))) ∷ terms_from count (drop (one_of words) (rest_of (rest_of words)))

-- a monomial of this coefficient and degree, and so many others after it
abbrev term_before : ℕ → ℤ → ℕ → List (List ℕ) → List Term
term_before count coefficient degree words = term_of coefficient (first_items degree words) ∷ terms_from count (drop degree words)

terms_back : (terms : List Term) (words : List (List ℕ)) → AllByRecursion MonomialFits terms → terms_from (length terms) (flat_map monomial_words terms ++ words) ≡ terms
terms_back [] words h = refl
terms_back (term ∷ terms) words h =
    let count = length terms in
    let nodes = term.monomial in
    let more = flat_map monomial_words terms in
    let behind = (map decimal nodes ++ more) ++ words in
    let degree = number (decimal (length nodes)) in
    ap (λ (z : ℤ). term_before count z degree behind) (integer_back term.coefficient h.0.coefficient)
    ∙ ap (λ (k : ℕ). term_before count term.coefficient k behind) (number_back (length nodes) h.0.degree)
    ∙ ap (λ (ws : List (List ℕ)). term_before count term.coefficient (length nodes) ws) (append_assoc (map decimal nodes) more words)
    ∙ ap (λ (ns : List ℕ). term_of term.coefficient ns ∷ terms_from count (drop (length nodes) (map decimal nodes ++ (more ++ words)))) (first_items-back nodes (more ++ words) (recursion_from_All IsShort nodes h.0.nodes))
    ∙ ap (λ (ws : List (List ℕ)). term ∷ terms_from count ws) (past_items-back nodes (more ++ words))
    ∙ ap (λ (ts : List Term). term ∷ ts) (terms_back terms words h.1)

abbrev pub poly_from : List (List ℕ) → List Term
poly_from words = terms_from (number (first_of words)) (rest_of words)

pub poly_back : (poly : List Term) (words : List (List ℕ)) → PolyFits poly → poly_from (poly_words poly ++ words) ≡ poly
poly_back poly words fits =
    ap (λ (k : ℕ). terms_from k (flat_map monomial_words poly ++ words)) (number_back (length poly) fits.count)
    ∙ terms_back poly words (recursion_from_All MonomialFits poly fits.terms)

pub same_poly : (p q : List Term) (xs ys : List (List ℕ)) → PolyFits p → PolyFits q → poly_words p ++ xs ≡ poly_words q ++ ys → (p ≡ q) × (xs ≡ ys)
same_poly p q xs ys hp hq e =
    let inject : p ≡ q = sym (poly_back p xs hp) ∙ ap poly_from e ∙ poly_back q ys hq in
    let moved : poly_words p ++ xs ≡ poly_words p ++ ys = e ∙ ap (λ (r : List Term). poly_words r ++ ys) (sym inject) in
    (inject, cancel (poly_words p) xs ys moved)
