-- What a table of values makes true.
use Rattle.std.specs.Prelude.{◌≡◌, ◌≢◌, ℕ, ◌<◌, List, All, ⊤, ℤ, pos, ◌≤ℤ◌, slice_get}
use Rattle.std.specs.Option.{IsSomeAnd}
use Rattle.grind_linear_forms.specs.declared.form.Part.{Part}
use Rattle.grind_linear_forms.specs.Values.{form_value}
use Rattle.grind_polynomials.specs.declared.poly.Term.{Term}
use Rattle.grind_polynomials.specs.Values.{poly_value}
use Rattle.grind_schemes.specs.Goals.{GoalData}
use Rattle.grind_claims.specs.declared.claim.Claim.{Claim}
use Rattle.grind_claims.specs.declared.claim.Claim.TheVariants.{Holds, Fails, Same, Differ, AtMost, Zero, Absurd}
use Rattle.grind_claims.specs.declared.proof.Line.{Line}
use Rattle.grind_claims.specs.declared.proof.Proof.{Proof}
use Rattle.grind_claims.specs.declared.proof.Rule.{Rule}
use Rattle.grind_claims.specs.declared.proof.Rule.TheVariants as rules
use Rattle.grind_value_tables.specs.Respects.{one, zero_value}

-- the claim is true at these values
abbrev pub ClaimTrue : (ℕ → ℤ) → Claim → Type 0
ClaimTrue v (Holds n) = v n ≡ one
ClaimTrue v (Fails n) = v n ≡ zero_value
ClaimTrue v (Same a b) = v a ≡ v b
ClaimTrue v (Differ a b) = v a ≢ v b
ClaimTrue v (AtMost form) = form_value v form ≤ℤ pos 0
ClaimTrue v (Zero poly) = poly_value v poly ≡ pos 0
ClaimTrue v Absurd = ⊥

-- the claim speaks of the first nodes alone, so many of them
abbrev pub IsWithin : ℕ → Claim → Type 0
IsWithin count (Holds n) = n < count
IsWithin count (Fails n) = n < count
IsWithin count (Same a b) = (a < count) × (b < count)
IsWithin count (Differ a b) = (a < count) × (b < count)
IsWithin count (AtMost form) = All (λ (part : Part). part.node < count) form.parts
IsWithin count (Zero poly) = All (λ (term : Term). All (λ n. n < count) term.monomial) poly
IsWithin count Absurd = ⊤

-- these formulas are all true
abbrev pub AreTrue : (ℕ → ℤ) → List ℕ → Type 0
AreTrue v formulas = All (λ n. v n ≡ one) formulas

-- the rule is `inst`
abbrev pub IsByInst : Rule → Type 0
IsByInst rule = (theorem : ℕ) × (nodes : List ℕ) × (rule ≡ rules.Inst theorem nodes)

-- the node is one that a line of the proof by `inst` claims to hold: the proof lists it as an instance
abbrev pub IsListed : Proof → ℕ → Type 0
IsListed proof n = (i : ℕ) × IsSomeAnd (slice_get proof.lines i) (λ (line : Line). IsByInst line.rule × (line.claim ≡ Holds n))

-- each instance of a theorem that the proof lists is true
abbrev pub InstancesTrue : (ℕ → ℤ) → Proof → Type 0
InstancesTrue v proof = (n : ℕ) → IsListed proof n → v n ≡ one

-- where the hypotheses of the goal and the instances that the proof lists are true, so is the conclusion
abbrev pub GoalTrue : GoalData → Proof → (ℕ → ℤ) → Type 0
GoalTrue goal proof v = AreTrue v goal.hyps → InstancesTrue v proof → v goal.show ≡ one
