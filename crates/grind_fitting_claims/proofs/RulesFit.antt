-- What a rule other than `combine` allows fits.
use Rattle.std.proofs.Common.{◌≡◌, ℕ, suc, List, [], ◌∷◌, Bool, true, Option, pos, length, refl, sym, ap, subst, inl, inr}
use Rattle.std.specs.Prelude.{IfSome}
use Rattle.grind_term_graph.specs.declared.node.Node.{Node}
use Rattle.grind_linear_forms.specs.Forms.{FormData}
use Rattle.grind_differences.specs.Bounds.{plus}
use Rattle.grind_claims.specs.declared.claim.Claim.{Claim}
use Rattle.grind_claims.specs.declared.claim.Claim.TheVariants.{Holds, Fails, Same, Differ, AtMost, Zero, Absurd}
use Rattle.grind_claims.specs.declared.proof.Rule.TheVariants as rules
use Rattle.grind_truth_tables.specs.Tables.{IsTableRule}
use Rattle.grind_arithmetic_rules.specs.LinearRules.{IsRead, IsStrict}
use Rattle.grind_fitting_claims.specs.Fitting.{FormNumbersFit, ClaimNumbersFit, AllowedFits}
use Rattle.grind_fitting_claims.proofs.FormsFit.{difference_fits, with_parts}
use Rattle.grind_fitting_claims.proofs.PolysFit.{poly_difference_fits}

-- a claim that is known
is_this : (claim known : Claim) → claim ≡ known → ClaimNumbersFit known → ClaimNumbersFit claim
is_this claim known e fits = subst ClaimNumbersFit (sym e) fits

read_fits : (nodes : List Node) (premises : List Claim) (claim : Claim) → IsRead nodes premises claim → ClaimNumbersFit claim
read_fits nodes premises claim h = is_this claim (AtMost h.1) h.2 (elim h.3 [
  | inl holds ↦ let sides = holds.1 in difference_fits nodes sides.0 sides.1 h.1 sides.3
  | inr fails ↦
      let sides = fails.1 in
      let base = sides.3 in
      let fits = difference_fits nodes sides.1 sides.0 base.0 base.1 in
      with_parts h.1 base.0 (ap (λ (form : FormData). form.parts) base.2) fits fails.2
])

strict_fits : (nodes : List Node) (premises : List Claim) (claim : Claim) → IsStrict nodes premises claim → ClaimNumbersFit claim
strict_fits nodes premises claim h =
    let fits : FormNumbersFit h.2 = elim h.5 [
      | inl e ↦ difference_fits nodes h.0 h.1 h.2 e
      | inr e ↦ difference_fits nodes h.1 h.0 h.2 e
    ] in
    is_this claim (AtMost (plus h.2 (pos 1))) h.4 (with_parts (plus h.2 (pos 1)) h.2 refl fits h.6)

-- a truth for each node
trues : (free : List ℕ) → (truths : List Bool) × (length truths ≡ length free)
trues [] = ([], refl)
trues (n ∷ free) = let rest = trues free in (true ∷ rest.0, ap suc rest.1)

table_fits : (nodes : List Node) (free : List ℕ) (premises : List Claim) (claim : Claim) → IsTableRule nodes free premises claim → ClaimNumbersFit claim
table_fits nodes free premises (Holds n) h = tt
table_fits nodes free premises (Fails n) h = tt
table_fits nodes free premises (Same a b) h = tt
table_fits nodes free premises (Differ a b) h = tt
table_fits nodes free premises (AtMost form) h = let truths = trues free in let wrong = (h.always truths.0 truths.1).concluded in absurd cc
table_fits nodes free premises (Zero poly) h = let truths = trues free in let wrong = (h.always truths.0 truths.1).concluded in absurd cc
table_fits nodes free premises Absurd h = tt

pub allowed_fits : AllowedFits
allowed_fits lemmas goal nodes literal (rules.Hyp i) premises claim numbers assumed exact h = is_this claim (Holds h.1) h.5 tt
allowed_fits lemmas goal nodes literal rules.Negated premises claim numbers assumed exact h = is_this claim (Fails goal.show) h.1 tt
allowed_fits lemmas goal nodes literal (rules.Inst t ids) premises claim numbers assumed exact h = is_this claim (Holds h.0) h.3 tt
allowed_fits lemmas goal nodes literal rules.Branch premises claim numbers assumed exact h =
    subst (λ (o : Option Claim). IfSome o ClaimNumbersFit) h.1 assumed
allowed_fits lemmas goal nodes literal rules.Refl premises claim numbers assumed exact h = is_this claim (Same h.0 h.0) h.2 tt
allowed_fits lemmas goal nodes literal rules.Sym premises claim numbers assumed exact h = is_this claim (Same h.1 h.0) h.3 tt
allowed_fits lemmas goal nodes literal rules.Trans premises claim numbers assumed exact h = is_this claim (Same h.0 h.2) h.4 tt
allowed_fits lemmas goal nodes literal rules.Cong premises claim numbers assumed exact h = is_this claim (Same h.0 h.1) h.4 tt
allowed_fits lemmas goal nodes literal rules.Eq premises claim numbers assumed exact h =
    elim h.4 [ inl e ↦ is_this claim (Same h.1 h.2) e.1 tt | inr e ↦ is_this claim (Differ h.1 h.2) e.1 tt ]
allowed_fits lemmas goal nodes literal rules.Back premises claim numbers assumed exact h =
    elim h.4 [ inl e ↦ is_this claim (Holds h.2) e.1 tt | inr e ↦ is_this claim (Fails h.2) e.1 tt ]
allowed_fits lemmas goal nodes literal rules.Truth premises claim numbers assumed exact h =
    elim h.1 [ inl e ↦ is_this claim (Same h.0 0) e.1 tt | inr e ↦ is_this claim (Same h.0 1) e.1 tt ]
allowed_fits lemmas goal nodes literal rules.Untruth premises claim numbers assumed exact h =
    elim h.1 [ inl e ↦ is_this claim (Holds h.0) e.1 tt | inr e ↦ is_this claim (Fails h.0) e.1 tt ]
allowed_fits lemmas goal nodes literal (rules.Table free) premises claim numbers assumed exact h = table_fits nodes free premises claim h
allowed_fits lemmas goal nodes literal rules.Read premises claim numbers assumed exact h = read_fits nodes premises claim h
allowed_fits lemmas goal nodes literal rules.Write premises claim numbers assumed exact h =
    elim h.3 [ inl e ↦ is_this claim (Holds h.0) e.0 tt | inr e ↦ is_this claim (Fails h.0) e.0 tt ]
allowed_fits lemmas goal nodes literal rules.Line premises claim numbers assumed exact h =
    is_this claim (AtMost h.2) h.4 (difference_fits nodes h.0 h.1 h.2 h.5)
allowed_fits lemmas goal nodes literal rules.Poly premises claim numbers assumed exact h =
    is_this claim (Zero h.2) h.4 (poly_difference_fits nodes h.0 h.1 h.2 numbers h.5)
allowed_fits lemmas goal nodes literal (rules.Combine divisor factors) premises claim numbers assumed exact h = absurd exact
allowed_fits lemmas goal nodes literal rules.Pinch premises claim numbers assumed exact h = is_this claim (Same h.0 h.1) h.5 tt
allowed_fits lemmas goal nodes literal rules.Strict premises claim numbers assumed exact h = strict_fits nodes premises claim h
allowed_fits lemmas goal nodes literal rules.Apart premises claim numbers assumed exact h = is_this claim (Differ h.0 h.1) h.2 tt
allowed_fits lemmas goal nodes literal (rules.Ideal divisor factors) premises claim numbers assumed exact h = is_this claim (Zero h.0) h.1 h.4
allowed_fits lemmas goal nodes literal rules.Equal premises claim numbers assumed exact h = is_this claim (Same h.0 h.1) h.4 tt
allowed_fits lemmas goal nodes literal rules.Clash premises claim numbers assumed exact h = is_this claim Absurd h.0 tt
