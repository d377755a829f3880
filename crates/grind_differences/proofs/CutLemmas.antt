-- Cuts of sums.
use Rattle.std.proofs.Common.{◌≡◌, List, [], ◌∷◌, ℤ, pos, sym, refl, subst, Bool, false, true≢false, All, ◌↔◌, ◌≤ℤ◌, ◌<ℤ◌, ◌*ℤ◌}
use Rattle.std.specs.Prelude.{IsTrue}
use Rattle.std.proofs.lemmas.List.Elements.{All-nil, All-cons}
use Rattle.grind_linear_forms.specs.declared.form.Part.{Part}
use Rattle.grind_linear_forms.specs.Forms.{part_of}
use Rattle.grind_linear_forms.specs.Cuts.{Divides, DividesAll, IsCut, times}
use Rattle.grind_linear_forms.specs.Laws.{OneCut}
use Rattle.grind_differences.specs.Bounds.{IsWithinCut}
use Rattle.grind_linear_forms.specs.Forms.{FormData}

-- ---- cuts

times_divided : (g : ℤ) (parts : List Part) → All (Divides g) (times g parts)
times_divided g [] = All-nil (Divides g)
times_divided g (part ∷ parts) =
    All-cons (Divides g) (part_of part.node (g *ℤ part.coefficient)) (times g parts) (part.coefficient, refl) (times_divided g parts)

-- what has a cut by a number is divided by it
pub cut_divides : (sum cut : FormData) (g : ℤ) → IsCut sum g cut → DividesAll g sum.parts
cut_divides sum cut g is = subst (All (Divides g)) (sym is.parts_of) (times_divided g cut.parts)

pub no_cut : (sum form : FormData) (g : ℤ) → (DividesAll g sum.parts → ⊥) → IsTrue false ↔ IsWithinCut sum g form
no_cut sum form g none = (λ h. absurd (true≢false (sym h)), λ h. absurd (none (cut_divides sum h.0 g h.2)))

pub no_divisor : (sum form : FormData) (g : ℤ) → (pos 0 <ℤ g → ⊥) → IsTrue false ↔ IsWithinCut sum g form
no_divisor sum form g none = (λ h. absurd (true≢false (sym h)), λ h. absurd (none h.1))

-- a test of the cut, read as one of the sum
pub by_cut : OneCut → (sum form whole : FormData) (g : ℤ) (is : Bool) → pos 0 <ℤ g → IsCut sum g whole
    → (IsTrue is ↔ ((form.parts ≡ whole.parts) × (form.constant ≤ℤ whole.constant))) → IsTrue is ↔ IsWithinCut sum g form
by_cut one_cut sum form whole g is positive cut decides = (
  λ h. let both = decides.0 h in (whole, positive, cut, both.0, both.1),
  λ h. decides.1 (subst (λ (it : FormData). (form.parts ≡ it.parts) × (form.constant ≤ℤ it.constant))
      (one_cut sum h.0 whole g positive h.2 cut) (h.3, h.4)),
)
