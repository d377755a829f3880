-- Bytes spell at most one page of lines: each page is read back from its bytes.
use Rattle.std.proofs.Common.{◌≡◌, ℕ, false, cond, List, [], ◌∷◌, ◌++◌, refl, ap, ◌∙◌, append_assoc}
use Rattle.std.specs.List.{AllByRecursion}
use Rattle.std.proofs.lemmas.List.{append-nil}
use Rattle.std.proofs.Common.{nat_eq}
use Rattle.grind_report.specs.Report.{spaced, line_bytes, spelled}

-- a word without a space or a line feed
abbrev pub IsSolid : List ℕ → Type 0
IsSolid word = AllByRecursion (λ (b : ℕ). (nat_eq b 32 ≡ false) × (nat_eq b 10 ≡ false)) word

-- a line of such words, at least one
abbrev pub IsSolidLine : List (List ℕ) → Type 0
IsSolidLine [] = ⊥
IsSolidLine (word ∷ words) = IsSolid word × AllByRecursion IsSolid words

-- a byte goes to the front of the first word of the first line
abbrev with_byte : ℕ → List (List (List ℕ)) → List (List (List ℕ))
with_byte b [] = []
with_byte b ([] ∷ page) = [] ∷ page
with_byte b ((word ∷ words) ∷ page) = ((b ∷ word) ∷ words) ∷ page

-- an empty word goes to the front of the first line
abbrev with_word : List (List (List ℕ)) → List (List (List ℕ))
with_word [] = []
with_word (words ∷ page) = ([] ∷ words) ∷ page

abbrev page_from : ℕ → List (List (List ℕ)) → List (List (List ℕ))
page_from b page = cond (nat_eq b 10) (([] ∷ []) ∷ page) (cond (nat_eq b 32) (with_word page) (with_byte b page))

-- the lines that these bytes spell
abbrev pub page_of : List ℕ → List (List (List ℕ))
page_of [] = []
page_of (b ∷ bytes) = page_from b (page_of bytes)

page_from-solid : (b : ℕ) (page : List (List (List ℕ))) → (nat_eq b 32 ≡ false) × (nat_eq b 10 ≡ false) → page_from b page ≡ with_byte b page
page_from-solid b page h = rw (h.1, h.0) refl

page_of-word : (word rest first : List ℕ) (words : List (List ℕ)) (page : List (List (List ℕ))) → IsSolid word
    → page_of rest ≡ (first ∷ words) ∷ page → page_of (word ++ rest) ≡ ((word ++ first) ∷ words) ∷ page
page_of-word [] rest first words page solid e = e
page_of-word (b ∷ word) rest first words page solid e =
    page_from-solid b (page_of (word ++ rest)) solid.0 ∙ ap (with_byte b) (page_of-word word rest first words page solid.1 e)

page_of-spaced : (words : List (List ℕ)) (rest : List ℕ) → AllByRecursion IsSolid words → page_of (spaced words ++ (10 ∷ rest)) ≡ ([] ∷ words) ∷ page_of rest
page_of-spaced [] rest solid = refl
page_of-spaced (word ∷ words) rest solid =
    let more : page_of (spaced words ++ (10 ∷ rest)) ≡ ([] ∷ words) ∷ page_of rest = page_of-spaced words rest solid.1 in
    let one : page_of (word ++ (spaced words ++ (10 ∷ rest))) ≡ ((word ++ []) ∷ words) ∷ page_of rest = page_of-word word (spaced words ++ (10 ∷ rest)) [] words (page_of rest) solid.0 more in
    ap (λ (bytes : List ℕ). page_of (32 ∷ bytes)) (append_assoc word (spaced words) (10 ∷ rest))
    ∙ ap with_word one ∙ ap (λ (w : List ℕ). ([] ∷ w ∷ words) ∷ page_of rest) (append-nil word)

page_of-line : (line : List (List ℕ)) (rest : List ℕ) → IsSolidLine line → page_of (line_bytes line ++ rest) ≡ line ∷ page_of rest
page_of-line [] rest solid = elim solid [ ]
page_of-line (word ∷ words) rest solid =
    ap page_of (append_assoc word (spaced words ++ 10 ∷ []) rest ∙ ap (λ (bytes : List ℕ). word ++ bytes) (append_assoc (spaced words) (10 ∷ []) rest))
    ∙ page_of-word word (spaced words ++ (10 ∷ rest)) [] words (page_of rest) solid.0 (page_of-spaced words rest solid.1)
    ∙ ap (λ (w : List ℕ). (w ∷ words) ∷ page_of rest) (append-nil word)

-- a page is read back from its bytes
pub page_of-spelled : (page : List (List (List ℕ))) → AllByRecursion IsSolidLine page → page_of (spelled page) ≡ page
page_of-spelled [] solid = refl
page_of-spelled (line ∷ page) solid =
    page_of-line line (spelled page) solid.0 ∙ ap (λ (lines : List (List (List ℕ))). line ∷ lines) (page_of-spelled page solid.1)
