-- Bytes have one first line, one second line, and so on; and so they are one report at most, and malformed at one line at most.
use Rattle.std.proofs.Common.{◌≡◌, ◌≢◌, ℕ, zero, suc, ◌≤◌, ◌<◌, false, cond, List, [], ◌∷◌, ◌++◌, take, drop, refl, sym, ap, ◌∙◌, subst, append_assoc, arith}
use Rattle.std.specs.Prelude.{nat_eq}
use Rattle.std.specs.List.{AllByRecursion, flat_map}
use Rattle.std.proofs.lemmas.Bool.{ne_eqb}
use Rattle.std.proofs.lemmas.Grind.{flat_map-append}
use Rattle.std.proofs.lemmas.List.{append-nil, take-append-drop, length-take-le}
use Rattle.std.proofs.lemmas.List.Elements.{recursion_from_All, All-take}
use Rattle.grind_report_words.specs.Words.{Words}
use Rattle.grind_report_words.specs.Steps.{AtStart, Done}
use Rattle.grind_report_words.specs.Reports.{line_bytes, page_bytes, IsSolid, IsSolidLine, AreLinesOf, ArePage, BeginsWith, IsMalformedAt}
use Rattle.grind_report_words.specs.Laws.{OneReport, OneMalformedLine}
use Rattle.grind_report_words.proofs.StepLemmas.{one_end}

-- each byte after the first of a line's other words
abbrev spaced : Words → List ℕ
spaced words = flat_map (λ (other : List ℕ). 32 ∷ other) words

-- a byte that goes on in a word
abbrev GoesOn : ℕ → Type 0
GoesOn b = (nat_eq b 32 ≡ false) × (nat_eq b 10 ≡ false)

go_on : (word : List ℕ) → AllByRecursion (λ byte. (byte ≢ 32) × (byte ≢ 10)) word → AllByRecursion GoesOn word
go_on [] h = tt
go_on (b ∷ word) h = ((ne_eqb b 32 h.0.0, ne_eqb b 10 h.0.1), go_on word h.1)

goes_on : (word : List ℕ) → IsSolid word → AllByRecursion GoesOn word
goes_on word solid = go_on word (recursion_from_All (λ byte. (byte ≢ 32) × (byte ≢ 10)) word solid)

-- a byte goes to the front of the first word of the first line
abbrev with_byte : ℕ → List Words → List Words
with_byte b [] = []
with_byte b ([] ∷ page) = [] ∷ page
with_byte b ((word ∷ words) ∷ page) = ((b ∷ word) ∷ words) ∷ page

-- an empty word goes to the front of the first line
abbrev with_word : List Words → List Words
with_word [] = []
with_word (words ∷ page) = ([] ∷ words) ∷ page

abbrev page_from : ℕ → List Words → List Words
page_from b page = cond (nat_eq b 10) (([] ∷ []) ∷ page) (cond (nat_eq b 32) (with_word page) (with_byte b page))

-- the lines of bytes
abbrev pub page_of : List ℕ → List Words
page_of [] = []
page_of (b ∷ bytes) = page_from b (page_of bytes)

page_from-goes_on : (b : ℕ) (page : List Words) → GoesOn b → page_from b page ≡ with_byte b page
page_from-goes_on b page h = rw (h.1, h.0) refl

page_of-word : (word rest first : List ℕ) (words : Words) (page : List Words) → AllByRecursion GoesOn word
    → page_of rest ≡ (first ∷ words) ∷ page → page_of (word ++ rest) ≡ ((word ++ first) ∷ words) ∷ page
page_of-word [] rest first words page solid e = e
page_of-word (b ∷ word) rest first words page solid e =
    page_from-goes_on b (page_of (word ++ rest)) solid.0 ∙ ap (with_byte b) (page_of-word word rest first words page solid.1 e)

page_of-spaced : (words : Words) (rest : List ℕ) → AllByRecursion IsSolid words → page_of (spaced words ++ (10 ∷ rest)) ≡ ([] ∷ words) ∷ page_of rest
page_of-spaced [] rest solid = refl
page_of-spaced (word ∷ words) rest solid =
    let more : page_of (spaced words ++ (10 ∷ rest)) ≡ ([] ∷ words) ∷ page_of rest = page_of-spaced words rest solid.1 in
    let one : page_of (word ++ (spaced words ++ (10 ∷ rest))) ≡ ((word ++ []) ∷ words) ∷ page_of rest = page_of-word word (spaced words ++ (10 ∷ rest)) [] words (page_of rest) (goes_on word solid.0) more in
    ap (λ (bytes : List ℕ). page_of (32 ∷ bytes)) (append_assoc word (spaced words) (10 ∷ rest))
    ∙ ap with_word one ∙ ap (λ (w : List ℕ). ([] ∷ w ∷ words) ∷ page_of rest) (append-nil word)

page_of-line : (line : Words) (rest : List ℕ) → IsSolidLine line → page_of (line_bytes line ++ rest) ≡ line ∷ page_of rest
page_of-line [] rest solid = absurd (solid.some refl)
page_of-line (word ∷ words) rest solid =
    let each = recursion_from_All IsSolid (word ∷ words) solid.solid in
    ap page_of (append_assoc word (spaced words ++ 10 ∷ []) rest ∙ ap (λ (bytes : List ℕ). word ++ bytes) (append_assoc (spaced words) (10 ∷ []) rest))
    ∙ page_of-word word (spaced words ++ (10 ∷ rest)) [] words (page_of rest) (goes_on word each.0) (page_of-spaced words rest each.1)
    ∙ ap (λ (w : List ℕ). (w ∷ words) ∷ page_of rest) (append-nil word)

-- lines are read back from their bytes
page_of-page : (page : List Words) (rest : List ℕ) → AllByRecursion IsSolidLine page → page_of (page_bytes page ++ rest) ≡ page ++ page_of rest
page_of-page [] rest solid = refl
page_of-page (line ∷ page) rest solid =
    ap page_of (append_assoc (line_bytes line) (page_bytes page) rest)
    ∙ page_of-line line (page_bytes page ++ rest) solid.0
    ∙ ap (λ (lines : List Words). line ∷ lines) (page_of-page page rest solid.1)

pub lines_of : (bytes : List ℕ) (page : List Words) (rest : List ℕ) → AreLinesOf bytes page rest → page_of bytes ≡ page ++ page_of rest
lines_of bytes page rest lines = ap page_of lines.are ∙ page_of-page page rest (recursion_from_All IsSolidLine page lines.solid)

-- bytes are one report at most
pub one_report : OneReport
one_report bytes one other (page, lines, reads) (page_b, lines_b, reads_b) =
    let same : page ≡ page_b = sym (append-nil page) ∙ sym (lines_of bytes page [] lines) ∙ lines_of bytes page_b [] lines_b ∙ append-nil page_b in
    let ends : Done one ≡ Done other =
    one_end page_b AtStart (Done one) (Done other) (subst (λ (lines : List Words). ArePage lines one) same reads) reads_b in
    cc

-- fewer of the first lines are the first lines too
pub fewer_lines : (bytes : List ℕ) (fewer : ℕ) (page : List Words) (rest : List ℕ) → AreLinesOf bytes page rest
    → AreLinesOf bytes (take fewer page) (page_bytes (drop fewer page) ++ rest)
fewer_lines bytes fewer page rest lines =
    let front : List Words = take fewer page in
    let back : List Words = drop fewer page in
    let whole : front ++ back ≡ page = take-append-drop fewer page in
    let spelled : page_bytes page ++ rest ≡ page_bytes front ++ (page_bytes back ++ rest) =
    ap (λ (all : List Words). page_bytes all ++ rest) (sym whole)
    ∙ ap (λ (all : List ℕ). all ++ rest) (flat_map-append line_bytes front back)
    ∙ append_assoc (page_bytes front) (page_bytes back) rest in
    record { are = lines.are ∙ spelled; solid = All-take IsSolidLine fewer page lines.solid }

-- where the first lines begin a report, so do fewer of them
begins_down : (bytes : List ℕ) (fewer count : ℕ) → fewer ≤ count → BeginsWith bytes count → BeginsWith bytes fewer
begins_down bytes fewer count below (page, rest, lines, long, begins) =
    let front : List Words = take fewer page in
    let back : List Words = drop fewer page in
    let whole : front ++ back ≡ page = take-append-drop fewer page in
    let reads : ArePage (front ++ (back ++ begins.0)) begins.1 =
    subst (λ (all : List Words). ArePage all begins.1) (append_assoc front back begins.0)
    (subst (λ (all : List Words). ArePage (all ++ begins.0) begins.1) (sym whole) begins.2) in (
      front,
      page_bytes back ++ rest,
      fewer_lines bytes fewer page rest lines,
      length-take-le fewer page (omega (arith, below, long)),
      (back ++ begins.0, begins.1, reads),
    )

not_before : (bytes : List ℕ) (one other : ℕ) → one < other → IsMalformedAt bytes one → IsMalformedAt bytes other → ⊥
not_before bytes one other below first second =
    let count : ℕ = second.before.0 in
    let next : other ≡ suc count = second.before.1 in
    first.here (begins_down bytes one count (omega (arith, below, next)) second.before.2)

one_of_three : (m n : ℕ) → (m < n → ⊥) → (n < m → ⊥) → m ≡ n
one_of_three zero zero low high = refl
one_of_three zero (suc n) low high = absurd (low (omega arith))
one_of_three (suc m) zero low high = absurd (high (omega arith))
one_of_three (suc m) (suc n) low high =
    ap suc (one_of_three m n (λ below. low (omega (arith, below))) (λ above. high (omega (arith, above))))

-- bytes are malformed at one line at most
pub one_malformed_line : OneMalformedLine
one_malformed_line bytes one other first second =
    one_of_three one other (λ below. not_before bytes one other below first second)
    (λ above. not_before bytes other one above second first)
