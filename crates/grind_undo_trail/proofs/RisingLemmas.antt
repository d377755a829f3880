-- Marks that note rising numbers.
use Rattle.std.specs.Prelude.{◌≡◌, ℕ, zero, suc, ◌≤◌, List, [], ◌∷◌, ◌++◌, Some, map, take, slice_get, refl}
use Rattle.std.proofs.Common.{arith, ap, ◌∙◌, subst}
use Rattle.std.proofs.lemmas.Option.{same_Some}
use Rattle.grind_undo_trail.specs.Rising.{AreRising}

-- the last number is at least the first
pub AreRising-le : {M : Type 0} (noted : M → ℕ) (low : ℕ) (marks : List M) (top : ℕ) → AreRising noted low marks top → low ≤ top
AreRising-le noted low [] top rising = rising
AreRising-le noted low (mark ∷ marks) top rising =
    omega (arith, rising.0, AreRising-le noted (noted mark) marks top rising.1)

-- they rise to each greater number
pub AreRising-more : {M : Type 0} (noted : M → ℕ) (low : ℕ) (marks : List M) (top more : ℕ) → top ≤ more
    → AreRising noted low marks top → AreRising noted low marks more
AreRising-more noted low [] top more order rising = omega (arith, order, rising)
AreRising-more noted low (mark ∷ marks) top more order rising =
    (rising.0, AreRising-more noted (noted mark) marks top more order rising.1)

-- one more mark, which notes the last number
pub AreRising-push : {M : Type 0} (noted : M → ℕ) (low : ℕ) (marks : List M) (top : ℕ) (mark : M) → noted mark ≡ top
    → AreRising noted low marks top → AreRising noted low (marks ++ mark ∷ []) top
AreRising-push noted low [] top mark is rising = (omega (arith, is, rising), omega (arith, is))
AreRising-push noted low (first ∷ marks) top mark is rising =
    (rising.0, AreRising-push noted (noted first) marks top mark is rising.1)

-- the marks before one rise to what that one notes
pub AreRising-take : {M : Type 0} (noted : M → ℕ) (low : ℕ) (marks : List M) (top : ℕ) (k : ℕ) (mark : M)
    → slice_get marks k ≡ Some mark → AreRising noted low marks top → AreRising noted low (take k marks) (noted mark)
AreRising-take noted low [] top k mark stands rising = absurd cc
AreRising-take noted low (first ∷ marks) top zero mark stands rising =
    subst (λ m. low ≤ noted m) (same_Some first mark stands) rising.0
AreRising-take noted low (first ∷ marks) top (suc k) mark stands rising =
    (rising.0, AreRising-take noted (noted first) marks top k mark stands rising.1)

-- what a mark notes is at most the last number
pub AreRising-within : {M : Type 0} (noted : M → ℕ) (low : ℕ) (marks : List M) (top : ℕ) (k : ℕ) (mark : M)
    → slice_get marks k ≡ Some mark → AreRising noted low marks top → noted mark ≤ top
AreRising-within noted low [] top k mark stands rising = absurd cc
AreRising-within noted low (first ∷ marks) top zero mark stands rising =
    subst (λ m. noted m ≤ top) (same_Some first mark stands) (AreRising-le noted (noted first) marks top rising.1)
AreRising-within noted low (first ∷ marks) top (suc k) mark stands rising =
    AreRising-within noted (noted first) marks top k mark stands rising.1

-- two functions that agree on each mark up to the last number give one list
pub AreRising-map : {M V : Type 0} (noted : M → ℕ) (low : ℕ) (marks : List M) (top : ℕ) (f g : M → V)
    → ((mark : M) → noted mark ≤ top → f mark ≡ g mark) → AreRising noted low marks top → map f marks ≡ map g marks
AreRising-map noted low [] top f g agree rising = refl
AreRising-map noted low (mark ∷ marks) top f g agree rising =
    ap (λ v. v ∷ map f marks) (agree mark (AreRising-le noted (noted mark) marks top rising.1))
    ∙ ap (λ vs. g mark ∷ vs) (AreRising-map noted (noted mark) marks top f g agree rising.1)
