-- What a rule allows it allows where terms are appended to the others, too.
use Rattle.std.proofs.Common.{ℕ, Option, ◌++◌, List, inl, inr, refl, ℤ, pos}
use Rattle.std.specs.Prelude.{slice_get}
use Rattle.grind_term_graph.specs.declared.node.Node.{Node}
use Rattle.grind_schemes.specs.Theorems.{TheoremData}
use Rattle.grind_schemes.specs.declared.lemmas.Lemmas.{Lemmas}
use Rattle.grind_schemes.proofs.InstanceLemmas.{IsSubstitution-grows}
use Rattle.grind_schemes.proofs.InstanceLaws.{IsInstance-grows}
use Rattle.grind_claims.specs.declared.claim.Claim.{Claim}
use Rattle.grind_claims.specs.declared.proof.Rule.TheVariants as rules
use Rattle.grind_term_rules.specs.TermRules.{IsBodyAt, IsInst, IsEquationOf, IsCong, IsEq, IsBack}
use Rattle.grind_rules.specs.Rules.{AreTwoNumbers, IsImpossible, IsClash}
use Rattle.grind_linear_forms.specs.Forms.{FormData}
use Rattle.grind_differences.specs.Differences.{IsDifferencePlus, IsDifferenceOver}
use Rattle.grind_differences.specs.Laws.{DifferencesStay, PolyDifferencesStay}
use Rattle.grind_arithmetic_rules.specs.LinearRules.{Compares, IsRead, IsWrite, IsLine, IsPinch, IsStrict, KeepApart, IsApart}
use Rattle.grind_arithmetic_rules.specs.PolyRules.{IsPolyRule, IsEqual}
use Rattle.grind_rules.specs.Laws.{AllowedStays}
use Rattle.grind_claims.proofs.Growth.{some_and_stays, some_and_then, item_stays}
use Rattle.grind_truth_tables.specs.Laws.{TablesStay}

-- an equation of two nodes in either order stays one
equation_stays : (nodes more : List Node) (node a b : ℕ) → IsEquationOf nodes node a b → IsEquationOf (nodes ++ more) node a b
equation_stays nodes more node a b (inl h) = inl (some_and_stays _ nodes more node h)
equation_stays nodes more node a b (inr h) = inr (some_and_stays _ nodes more node h)

cong_stays : (nodes more : List Node) (premises : List Claim) (claim : Claim) →
    IsCong nodes premises claim → IsCong (nodes ++ more) premises claim
cong_stays nodes more premises claim h =
    (h.0, h.1, h.2, h.3, h.4, item_stays nodes more h.0 h.2 h.5, item_stays nodes more h.1 h.3 h.6, h.7, h.8, h.9, h.10)

eq_stays : (nodes more : List Node) (premises : List Claim) (claim : Claim) →
    IsEq nodes premises claim → IsEq (nodes ++ more) premises claim
eq_stays nodes more premises claim h = (h.0, h.1, h.2, some_and_stays _ nodes more h.0 h.3, h.4)

back_stays : (nodes more : List Node) (premises : List Claim) (claim : Claim) →
    IsBack nodes premises claim → IsBack (nodes ++ more) premises claim
back_stays nodes more premises claim h = (h.0, h.1, h.2, equation_stays nodes more h.2 h.0 h.1 h.3, h.4)

-- two different numbers stay so
numbers_stay : (nodes more : List Node) (a b : ℕ) → AreTwoNumbers nodes a b → AreTwoNumbers (nodes ++ more) a b
numbers_stay nodes more a b h =
    (h.0, h.1, some_and_stays _ nodes more a h.2, some_and_stays _ nodes more b h.3, h.4)

-- a claim that cannot be stays so
impossible_stays : (nodes more : List Node) (one : Claim) → IsImpossible nodes one → IsImpossible (nodes ++ more) one
impossible_stays nodes more one (inl h) =
    inl (h.0, h.1, h.2, elim h.3 [ inl truths ↦ inl truths | inr numbers ↦ inr (numbers_stay nodes more h.0 h.1 numbers) ])
impossible_stays nodes more one (inr h) = inr h

clash_stays : (nodes more : List Node) (premises : List Claim) (claim : Claim) →
    IsClash nodes premises claim → IsClash (nodes ++ more) premises claim
clash_stays nodes more premises claim h =
    (h.0, elim h.1 [ inl two ↦ inl two | inr lone ↦ inr (lone.0, lone.1, impossible_stays nodes more lone.0 lone.2) ])

-- what a theorem says of nodes it still says of them
body_stays : (nodes more : List Node) (subst : List ℕ) (n : ℕ) (theorem : TheoremData) →
    IsBodyAt nodes theorem subst n → IsBodyAt (nodes ++ more) theorem subst n
body_stays nodes more subst n theorem h = (
  IsSubstitution-grows nodes (nodes ++ more) theorem.vars subst (more, refl) h.0,
  IsInstance-grows subst theorem.body nodes (nodes ++ more) n (more, refl) h.1,
)

inst_stays : (lemmas : Lemmas) (nodes more : List Node) (t : ℕ) (subst : List ℕ) (premises : List Claim) (claim : Claim) →
    IsInst lemmas nodes t subst premises claim → IsInst lemmas (nodes ++ more) t subst premises claim
inst_stays lemmas nodes more t subst premises claim h = (
  h.0,
  some_and_then _ _ (slice_get lemmas.theorems t) (body_stays nodes more subst h.0) h.1,
  h.2,
  h.3,
)

-- over the laws that differences stay
module _ (differences : DifferencesStay) (polys : PolyDifferencesStay) (nodes more : List Node) where
  compares_stay : (n : ℕ) (P Q : ℕ → ℕ → Type 0) → ((a b : ℕ) → P a b → Q a b) → Compares nodes n P → Compares (nodes ++ more) n Q
  compares_stay n P Q stays h = (h.0, h.1, some_and_stays _ nodes more n h.2, stays h.0 h.1 h.3)

  plus_stays : (a b : ℕ) (number : ℤ) (form : FormData) → IsDifferencePlus nodes a b number form
      → IsDifferencePlus (nodes ++ more) a b number form
  plus_stays a b number form h = (h.0, differences nodes more a b h.0 h.1, h.2)

  over_stays : (a b : ℕ) (least : ℤ) (form : FormData) → IsDifferenceOver nodes a b least form
      → IsDifferenceOver (nodes ++ more) a b least form
  over_stays a b least form h = (h.0, differences nodes more a b h.0 h.1, h.2)

  read_stays : (premises : List Claim) (claim : Claim) → IsRead nodes premises claim → IsRead (nodes ++ more) premises claim
  read_stays premises claim h = (
    h.0,
    h.1,
    h.2,
    elim h.3 [
      | inl e ↦ inl (e.0, compares_stay h.0 _ _ (λ a b. differences nodes more a b h.1) e.1)
      | inr e ↦ inr (e.0, compares_stay h.0 _ _ (λ a b. plus_stays b a (pos 1) h.1) e.1, e.2)
    ],
  )

  write_stays : (premises : List Claim) (claim : Claim) → IsWrite nodes premises claim → IsWrite (nodes ++ more) premises claim
  write_stays premises claim h = (
    h.0,
    h.1,
    h.2,
    elim h.3 [
      | inl e ↦ inl (e.0, compares_stay h.0 _ _ (λ a b. over_stays a b (pos 0) h.1) e.1)
      | inr e ↦ inr (e.0, compares_stay h.0 _ _ (λ a b. over_stays b a (pos 1) h.1) e.1)
    ],
  )

  line_stays : (premises : List Claim) (claim : Claim) → IsLine nodes premises claim → IsLine (nodes ++ more) premises claim
  line_stays premises claim h = (h.0, h.1, h.2, h.3, h.4, differences nodes more h.0 h.1 h.2 h.5)

  pinch_stays : (premises : List Claim) (claim : Claim) → IsPinch nodes premises claim → IsPinch (nodes ++ more) premises claim
  pinch_stays premises claim h = (
    h.0,
    h.1,
    h.2,
    h.3,
    h.4,
    h.5,
    differences nodes more h.0 h.1 h.2 h.6,
    differences nodes more h.1 h.0 h.3 h.7,
  )

  strict_stays : (premises : List Claim) (claim : Claim) → IsStrict nodes premises claim → IsStrict (nodes ++ more) premises claim
  strict_stays premises claim h = (
    h.0,
    h.1,
    h.2,
    h.3,
    h.4,
    elim h.5 [
      | inl e ↦ inl (differences nodes more h.0 h.1 h.2 e)
      | inr e ↦ inr (differences nodes more h.1 h.0 h.2 e)
    ],
    h.6,
  )

  keep_apart_stays : (premises : List Claim) (a b : ℕ) → KeepApart nodes premises a b → KeepApart (nodes ++ more) premises a b
  keep_apart_stays premises a b (inl h) = inl (h.0, (h.1.0, differences nodes more a b h.1.0 h.1.1, h.1.2, h.1.3))
  keep_apart_stays premises a b (inr (inl h)) =
      inr (inl (h.0, h.1, (h.2.0, h.2.1, over_stays a b (pos 1) h.2.0 h.2.2)))
  keep_apart_stays premises a b (inr (inr h)) = inr (inr h)

  apart_stays : (premises : List Claim) (claim : Claim) → IsApart nodes premises claim → IsApart (nodes ++ more) premises claim
  apart_stays premises claim h = (
    h.0,
    h.1,
    h.2,
    elim h.3 [
      | inl k ↦ inl (keep_apart_stays premises h.0 h.1 k)
      | inr k ↦ inr (keep_apart_stays premises h.1 h.0 k)
    ],
  )

  poly_rule_stays : (premises : List Claim) (claim : Claim) → IsPolyRule nodes premises claim
      → IsPolyRule (nodes ++ more) premises claim
  poly_rule_stays premises claim h = (h.0, h.1, h.2, h.3, h.4, polys nodes more h.0 h.1 h.2 h.5)

  equal_stays : (premises : List Claim) (claim : Claim) → IsEqual nodes premises claim
      → IsEqual (nodes ++ more) premises claim
  equal_stays premises claim h = (h.0, h.1, h.2, h.3, h.4, polys nodes more h.0 h.1 h.2 h.5)

pub allowed_stays : TablesStay → DifferencesStay → PolyDifferencesStay → AllowedStays
allowed_stays tables differences polys lemmas goal nodes more literal (rules.Hyp i) premises claim h = h
allowed_stays tables differences polys lemmas goal nodes more literal rules.Negated premises claim h = h
allowed_stays tables differences polys lemmas goal nodes more literal (rules.Inst t subst) premises claim h = inst_stays lemmas nodes more t subst premises claim h
allowed_stays tables differences polys lemmas goal nodes more literal rules.Branch premises claim h = h
allowed_stays tables differences polys lemmas goal nodes more literal rules.Refl premises claim h = h
allowed_stays tables differences polys lemmas goal nodes more literal rules.Sym premises claim h = h
allowed_stays tables differences polys lemmas goal nodes more literal rules.Trans premises claim h = h
allowed_stays tables differences polys lemmas goal nodes more literal rules.Cong premises claim h = cong_stays nodes more premises claim h
allowed_stays tables differences polys lemmas goal nodes more literal rules.Eq premises claim h = eq_stays nodes more premises claim h
allowed_stays tables differences polys lemmas goal nodes more literal rules.Back premises claim h = back_stays nodes more premises claim h
allowed_stays tables differences polys lemmas goal nodes more literal rules.Truth premises claim h = h
allowed_stays tables differences polys lemmas goal nodes more literal rules.Untruth premises claim h = h
allowed_stays tables differences polys lemmas goal nodes more literal (rules.Table free) premises claim h = tables nodes more free premises claim h
allowed_stays tables differences polys lemmas goal nodes more literal rules.Read premises claim h = read_stays differences polys nodes more premises claim h
allowed_stays tables differences polys lemmas goal nodes more literal rules.Write premises claim h = write_stays differences polys nodes more premises claim h
allowed_stays tables differences polys lemmas goal nodes more literal rules.Line premises claim h = line_stays differences polys nodes more premises claim h
allowed_stays tables differences polys lemmas goal nodes more literal rules.Poly premises claim h = poly_rule_stays differences polys nodes more premises claim h
allowed_stays tables differences polys lemmas goal nodes more literal (rules.Combine divisor factors) premises claim h = h
allowed_stays tables differences polys lemmas goal nodes more literal rules.Pinch premises claim h = pinch_stays differences polys nodes more premises claim h
allowed_stays tables differences polys lemmas goal nodes more literal rules.Strict premises claim h = strict_stays differences polys nodes more premises claim h
allowed_stays tables differences polys lemmas goal nodes more literal rules.Apart premises claim h = apart_stays differences polys nodes more premises claim h
allowed_stays tables differences polys lemmas goal nodes more literal (rules.Ideal divisor factors) premises claim h = h
allowed_stays tables differences polys lemmas goal nodes more literal rules.Equal premises claim h = equal_stays differences polys nodes more premises claim h
allowed_stays tables differences polys lemmas goal nodes more literal rules.Clash premises claim h = clash_stays nodes more premises claim h
