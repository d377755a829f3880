-- Factors and premises, one pair at a time.
use Rattle.std.proofs.Common.{◌≡◌, ℕ, List, ◌∷◌, ◌++◌, All, sym, subst, ap, ◌∙◌, append_assoc}
use Rattle.std.proofs.lemmas.Grind.{flat_map-append}
use Rattle.std.proofs.lemmas.List.Elements.{All-from_recursion, recursion_from_All}
use Rattle.grind_report.specs.Report.{spaced, paired}

-- what is true of an item and of all after it is true of the whole
pub all_before : {A : Type 0} (P : A → Type 0) (whole : List A) (x : A) (rest : List A) → whole ≡ x ∷ rest → P x → All P rest → All P whole
all_before P whole x rest e here behind =
    subst (λ xs. All P xs) (sym e) (All-from_recursion P (x ∷ rest) (here, recursion_from_All P rest behind))

-- two pieces of a line, one after the other
pieces : (start : List ℕ) (a b : List (List ℕ)) → (start ++ spaced a) ++ spaced b ≡ start ++ spaced (a ++ b)
pieces start a b =
    append_assoc start (spaced a) (spaced b) ∙ ap (λ (bytes : List ℕ). start ++ bytes) (sym (flat_map-append (λ (word : List ℕ). 32 ∷ word) a b))

-- what is printed of one pair, with what is left after it
pub pair_printed : {A : Type 0} (words : A → ℕ → List (List ℕ)) (a b : List (List ℕ)) (whole before middle after : List ℕ)
    (others : List A) (factor : A) (left : List A) (rest : List ℕ) (premise : ℕ) (tail : List ℕ)
    → before ++ spaced (paired words others rest) ≡ whole → others ≡ factor ∷ left → rest ≡ premise ∷ tail
    → middle ≡ before ++ spaced a → after ≡ middle ++ spaced b → words factor premise ≡ a ++ b → after ++ spaced (paired words left tail) ≡ whole
pair_printed {A} words a b whole before middle after others factor left rest premise tail so_far is_factor is_premise one two pair =
    let more = paired words left tail in
    let printed : after ≡ before ++ spaced (words factor premise) =
    two ∙ ap (λ (bytes : List ℕ). bytes ++ spaced b) one ∙ pieces before a b ∙ ap (λ (ws : List (List ℕ)). before ++ spaced ws) (sym pair) in
    ap (λ (bytes : List ℕ). bytes ++ spaced more) printed
    ∙ pieces before (words factor premise) more
    ∙ ap (λ (fs : List A). before ++ spaced (paired words fs (premise ∷ tail))) (sym is_factor)
    ∙ ap (λ (ps : List ℕ). before ++ spaced (paired words others ps)) (sym is_premise)
    ∙ so_far
