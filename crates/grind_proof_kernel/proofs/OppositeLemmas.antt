-- Opposite forms.
use Rattle.std.proofs.Common.{◌≡◌, ℕ, suc, List, [], ◌∷◌, ◌++◌, All, map, ℤ, pos, neg_ℤ, FitsSigned, arith, sym, ap, ◌∙◌, subst, append_assoc}
use Rattle.std.specs.Int.{w128}
use Rattle.std.proofs.lemmas.List.Elements.{All-tail}
use Rattle.grind_lemmas.proofs.Rings.{linear}
use Rattle.grind_linear_forms.specs.declared.form.Part.{Part}
use Rattle.grind_linear_forms.specs.Forms.{RisesFrom}
use Rattle.grind_differences.specs.Bounds.{negated_part}

none_negated : (z : ℤ) → neg_ℤ z ≡ pos 0 → z ≡ pos 0
none_negated z e = omega (arith, linear)

-- negated coefficients are not 0 either, and the nodes rise as they did
rises_negated : (least : ℕ) (parts : List Part) → RisesFrom least parts → RisesFrom least (map negated_part parts)
rises_negated least [] h = tt
rises_negated least (part ∷ rest) h =
    (h.0, (λ e. h.1 (none_negated part.coefficient e)), rises_negated (suc part.node) rest h.2)

-- so the opposite of a form is one
pub opposite_is_form : (parts read negated : List Part) → RisesFrom 0 parts → read ≡ parts → negated ≡ map negated_part read →
    RisesFrom 0 negated
opposite_is_form parts read negated h e f =
    subst (RisesFrom 0) (sym (f ∙ ap (map negated_part) e)) (rises_negated 0 parts h)

-- one more part
pub negated_goes_on : (others more rest tail all : List Part) (part other : Part) → rest ≡ part ∷ tail → more ≡ others ++ other ∷ [] →
    other ≡ negated_part part → others ++ map negated_part rest ≡ map negated_part all →
    more ++ map negated_part tail ≡ map negated_part all
negated_goes_on others more rest tail all part other e f g h =
    ap (λ (ps : List Part). ps ++ map negated_part tail) f ∙ append_assoc others (other ∷ []) (map negated_part tail)
    ∙ ap (λ (it : Part). others ++ it ∷ map negated_part tail) g ∙ ap (λ (ps : List Part). others ++ map negated_part ps) (sym e) ∙ h

abbrev CanBeNegated : Part → Type 0
CanBeNegated part = FitsSigned w128 (neg_ℤ part.coefficient)

pub others_fit : (rest tail : List Part) (part : Part) → rest ≡ part ∷ tail → All CanBeNegated rest → All CanBeNegated tail
others_fit rest tail part e h = All-tail CanBeNegated part tail (subst (All CanBeNegated) e h)
