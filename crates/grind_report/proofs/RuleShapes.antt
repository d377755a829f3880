-- Rules with factors among their premises, and rules without.
use Rattle.std.proofs.Common.{◌≡◌, ℕ, List, [], map, decimal, ℤ, refl, sym, ap, ◌∙◌, arith}
use Rattle.grind_polynomials.specs.declared.poly.Term.{Term}
use Rattle.grind_claims.specs.declared.proof.Rule.{Rule}
use Rattle.grind_claims.specs.declared.proof.Rule.TheVariants as rules_of
use Rattle.grind_report.specs.Report.{rule_words, premise_words}

-- the rule without its factors, as it stands before the premises
abbrev pub bare : Rule → Rule
bare (rules_of.Combine divisor factors) = rules_of.Combine divisor []
bare (rules_of.Ideal divisor factors) = rules_of.Ideal divisor []
bare rule = rule

-- 0 for a rule without factors, 1 for `combine`, 2 for `ideal`
abbrev pub kind : Rule → ℕ
kind (rules_of.Combine divisor factors) = 1
kind (rules_of.Ideal divisor factors) = 2
kind rule = 0

-- how a rule stands to its factors
pub data Shape : Rule → Type 0 where
  plain : {rule : Rule} → bare rule ≡ rule → kind rule ≡ 0 → ((ps : List ℕ) → premise_words rule ps ≡ map decimal ps) → Shape rule
  combined : (divisor : ℤ) (factors : List ℤ) → Shape (rules_of.Combine divisor factors)
  gathered : (divisor : ℤ) (factors : List (List Term)) → Shape (rules_of.Ideal divisor factors)

pub shape : (rule : Rule) → Shape rule
shape (rules_of.Combine divisor factors) = combined divisor factors
shape (rules_of.Ideal divisor factors) = gathered divisor factors
shape rule = plain refl refl (λ ps. refl)

kind_kept : {rule : Rule} → Shape rule → kind (bare rule) ≡ kind rule
kind_kept (plain same kind_is words) = ap kind same
kind_kept (combined divisor factors) = refl
kind_kept (gathered divisor factors) = refl

-- two rules that are one without their factors are of one kind
pub same_kind : {a b : Rule} → Shape a → Shape b → bare a ≡ bare b → kind a ≡ kind b
same_kind one other e = sym (kind_kept one) ∙ ap kind e ∙ kind_kept other

-- a rule has the words that it has without its factors
pub words_kept : {rule : Rule} → Shape rule → rule_words (bare rule) ≡ rule_words rule
words_kept (plain same kind_is words) = ap rule_words same
words_kept (combined divisor factors) = refl
words_kept (gathered divisor factors) = refl

pub not_zero_and_one : (k m : ℕ) → k ≡ m → k ≡ 0 → m ≡ 1 → ⊥
not_zero_and_one k m e low high = omega (arith, e, low, high)

pub not_zero_and_two : (k m : ℕ) → k ≡ m → k ≡ 0 → m ≡ 2 → ⊥
not_zero_and_two k m e low high = omega (arith, e, low, high)

pub not_one_and_two : (k m : ℕ) → k ≡ m → k ≡ 1 → m ≡ 2 → ⊥
not_one_and_two k m e low high = omega (arith, e, low, high)
