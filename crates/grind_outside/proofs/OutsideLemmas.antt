-- Bytes that are written piece by piece.
use Rattle.std.proofs.Common.{◌≡◌, ℕ, List, ◌++◌, Option, Some, None, take, drop, refl, sym, ap, ◌∙◌, append_assoc}
use Rattle.std.proofs.lemmas.List.{take-append-drop}
use Rattle.grind_outside.specs.Outside.{appended}

-- two pieces after one another are one piece
pub appended-appended : (written : Option (List ℕ)) (front piece : List ℕ) → appended (appended written front) piece ≡ appended written (front ++ piece)
appended-appended None front piece = refl
appended-appended (Some bytes) front piece = ap Some (append_assoc bytes front piece)

-- some first items of the rest move after what stands before it
pub front-more : (whole front rest after : List ℕ) (n : ℕ) → whole ≡ front ++ rest → after ≡ drop n rest → whole ≡ (front ++ take n rest) ++ after
front-more whole front rest after n e f =
    e ∙ ap (λ r. front ++ r) (sym (take-append-drop n rest) ∙ ap (λ r. take n rest ++ r) (sym f))
    ∙ sym (append_assoc front (take n rest) after)
