-- The words of a rule with its premises say one rule, and one list of premises.
use Rattle.std.proofs.Common.{lit<, ◌≡◌, ℕ, ◌<◌, cond, List, [], ◌∷◌, ◌++◌, length, map, All, decimal, ℤ, refl, sym, subst, ap, ◌∙◌, arith}
use Rattle.std.specs.Prelude.{codes, bytes_eq}
use Rattle.std.specs.Fmt.{signed_decimal}
use Rattle.std.specs.List.{AllByRecursion}
use Rattle.std.proofs.lemmas.List.{append-nil}
use Rattle.std.proofs.lemmas.List.Elements.{recursion_from_All}
use Rattle.grind_polynomials.specs.declared.poly.Term.{Term}
use Rattle.grind_claims.specs.declared.proof.Rule.{Rule}
use Rattle.grind_claims.specs.declared.proof.Rule.TheVariants as rules
use Rattle.grind_report_words.specs.Words.{Words, IsShort, IsWide}
use Rattle.grind_report_words.specs.Claims.{poly_words, PolyFits}
use Rattle.grind_report_words.specs.RuleRows.{paired, factor_first, factor_behind, IsRule}
use Rattle.grind_report_words.proofs.NumberSpelling.{first_is, rest_is, cancel, first_of, rest_of, number, number_back, numbers_back, integer, integer_back, same_integer, one_of, first_items, first_items-back}
use Rattle.grind_report_words.proofs.FormSpelling.{same_poly}
use Rattle.grind_report_words.proofs.ItemLemmas.{short_one}

-- the rule without its factors, as it stands before the premises
abbrev bare : Rule → Rule
bare (rules.Hyp i) = rules.Hyp i
bare rules.Negated = rules.Negated
bare (rules.Inst t ids) = rules.Inst t ids
bare rules.Branch = rules.Branch
bare rules.Refl = rules.Refl
bare rules.Sym = rules.Sym
bare rules.Trans = rules.Trans
bare rules.Cong = rules.Cong
bare rules.Eq = rules.Eq
bare rules.Back = rules.Back
bare rules.Truth = rules.Truth
bare rules.Untruth = rules.Untruth
bare (rules.Table free) = rules.Table free
bare rules.Read = rules.Read
bare rules.Write = rules.Write
bare rules.Line = rules.Line
bare rules.Poly = rules.Poly
bare (rules.Combine divisor factors) = rules.Combine divisor []
bare rules.Pinch = rules.Pinch
bare rules.Strict = rules.Strict
bare rules.Apart = rules.Apart
bare (rules.Ideal divisor factors) = rules.Ideal divisor []
bare rules.Equal = rules.Equal
bare rules.Clash = rules.Clash

-- 0 for a rule without factors, 1 for `combine`, 2 for `ideal`
abbrev kind : Rule → ℕ
kind (rules.Hyp i) = 0
kind rules.Negated = 0
kind (rules.Inst t ids) = 0
kind rules.Branch = 0
kind rules.Refl = 0
kind rules.Sym = 0
kind rules.Trans = 0
kind rules.Cong = 0
kind rules.Eq = 0
kind rules.Back = 0
kind rules.Truth = 0
kind rules.Untruth = 0
kind (rules.Table free) = 0
kind rules.Read = 0
kind rules.Write = 0
kind rules.Line = 0
kind rules.Poly = 0
kind (rules.Combine divisor factors) = 1
kind rules.Pinch = 0
kind rules.Strict = 0
kind rules.Apart = 0
kind (rules.Ideal divisor factors) = 2
kind rules.Equal = 0
kind rules.Clash = 0

-- the words before the premises of a rule that has no factors
abbrev head_words : Rule → Words
head_words (rules.Hyp i) = codes "hyp" ∷ decimal i ∷ []
head_words rules.Negated = codes "negated" ∷ []
head_words (rules.Inst t ids) = codes "inst" ∷ decimal t ∷ map decimal ids
head_words rules.Branch = codes "branch" ∷ []
head_words rules.Refl = codes "refl" ∷ []
head_words rules.Sym = codes "sym" ∷ []
head_words rules.Trans = codes "trans" ∷ []
head_words rules.Cong = codes "cong" ∷ []
head_words rules.Eq = codes "eq" ∷ []
head_words rules.Back = codes "back" ∷ []
head_words rules.Truth = codes "truth" ∷ []
head_words rules.Untruth = codes "untruth" ∷ []
head_words (rules.Table free) = codes "table" ∷ decimal (length free) ∷ map decimal free
head_words rules.Read = codes "read" ∷ []
head_words rules.Write = codes "write" ∷ []
head_words rules.Line = codes "line" ∷ []
head_words rules.Poly = codes "poly" ∷ []
head_words (rules.Combine divisor factors) = []
head_words rules.Pinch = codes "pinch" ∷ []
head_words rules.Strict = codes "strict" ∷ []
head_words rules.Apart = codes "apart" ∷ []
head_words (rules.Ideal divisor factors) = []
head_words rules.Equal = codes "equal" ∷ []
head_words rules.Clash = codes "clash" ∷ []

-- the rule over whole numbers that these words begin with
arithmetic_from : Words → Rule
arithmetic_from words =
    cond (bytes_eq (first_of words) (codes "read")) rules.Read (cond (bytes_eq (first_of words) (codes "write")) rules.Write
    (cond (bytes_eq (first_of words) (codes "line")) rules.Line (cond (bytes_eq (first_of words) (codes "poly")) rules.Poly
    (cond (bytes_eq (first_of words) (codes "combine")) (rules.Combine (integer (first_of (rest_of words))) [])
    (cond (bytes_eq (first_of words) (codes "pinch")) rules.Pinch (cond (bytes_eq (first_of words) (codes "strict")) rules.Strict
    (cond (bytes_eq (first_of words) (codes "ideal")) (rules.Ideal (integer (first_of (rest_of words))) [])
    (cond (bytes_eq (first_of words) (codes "equal")) rules.Equal rules.Clash))))))))

-- the rule that these words begin with, without its factors
rule_from : Words → Rule
rule_from words =
    cond (bytes_eq (first_of words) (codes "hyp")) (rules.Hyp (one_of words)) (cond (bytes_eq (first_of words) (codes "negated")) rules.Negated
    (cond (bytes_eq (first_of words) (codes "branch")) rules.Branch (cond (bytes_eq (first_of words) (codes "refl")) rules.Refl
    (cond (bytes_eq (first_of words) (codes "sym")) rules.Sym (cond (bytes_eq (first_of words) (codes "trans")) rules.Trans
    (cond (bytes_eq (first_of words) (codes "cong")) rules.Cong (cond (bytes_eq (first_of words) (codes "eq")) rules.Eq
    (cond (bytes_eq (first_of words) (codes "back")) rules.Back (cond (bytes_eq (first_of words) (codes "truth")) rules.Truth
    (cond (bytes_eq (first_of words) (codes "untruth")) rules.Untruth
    (cond (bytes_eq (first_of words) (codes "table")) (rules.Table (first_items (one_of words) (rest_of (rest_of words))))
    (cond (bytes_eq (first_of words) (codes "inst")) (rules.Inst (one_of words) (map number (rest_of (rest_of words))))
    (cond (bytes_eq (first_of words) (codes "apart")) rules.Apart (arithmetic_from words))))))))))))))

module _ (P : Type 0) (word : P → List ℕ) (Fits : P → Type 0) where
  rule_back : (words : Words) (rule : Rule) (ps : List P) → IsRule word Fits words rule ps → rule_from words ≡ bare rule
  unfolding rule_from arithmetic_from
  rule_back words (rules.Hyp i) ps h = ap rule_from h.0.0 ∙ ap (λ (x : ℕ). rules.Hyp x) (number_back i (short_one i h.0.1))
  rule_back words rules.Negated ps h = ap rule_from h.0.0
  rule_back words (rules.Inst t ids) ps h =
      let each = recursion_from_All IsShort (t ∷ ids) h.0.1 in
      ap rule_from h.0.0 ∙ ap (λ (x : ℕ). rules.Inst x (map number (map decimal ids))) (number_back t each.0)
      ∙ ap (λ (ns : List ℕ). rules.Inst t ns) (numbers_back ids each.1)
  rule_back words rules.Branch ps h = ap rule_from h.0.0
  rule_back words rules.Refl ps h = ap rule_from h.0.0
  rule_back words rules.Sym ps h = ap rule_from h.0.0
  rule_back words rules.Trans ps h = ap rule_from h.0.0
  rule_back words rules.Cong ps h = ap rule_from h.0
  rule_back words rules.Eq ps h = ap rule_from h.0.0
  rule_back words rules.Back ps h = ap rule_from h.0.0
  rule_back words rules.Truth ps h = ap rule_from h.0.0
  rule_back words rules.Untruth ps h = ap rule_from h.0.0
  rule_back words (rules.Table free) ps h =
      ap rule_from h.0.0
      ∙ ap (λ (k : ℕ). rules.Table (first_items k (map decimal free ++ map word ps))) (number_back (length free) h.1)
      ∙ ap (λ (ns : List ℕ). rules.Table ns) (first_items-back free (map word ps) (recursion_from_All IsShort free h.2))
  rule_back words rules.Read ps h = ap rule_from h.0.0
  rule_back words rules.Write ps h = ap rule_from h.0.0
  rule_back words rules.Line ps h = ap rule_from h.0.0
  rule_back words rules.Poly ps h = ap rule_from h.0.0
  rule_back words (rules.Combine divisor factors) ps h =
      ap rule_from h.0 ∙ ap (λ (z : ℤ). rules.Combine z []) (integer_back divisor h.1)
  rule_back words rules.Pinch ps h = ap rule_from h.0.0
  rule_back words rules.Strict ps h = ap rule_from h.0.0
  rule_back words rules.Apart ps h = ap rule_from h.0.0
  rule_back words (rules.Ideal divisor factors) ps h =
      ap rule_from h.0 ∙ ap (λ (z : ℤ). rules.Ideal z []) (integer_back divisor h.1)
  rule_back words rules.Equal ps h = ap rule_from h.0.0
  rule_back words rules.Clash ps h = ap rule_from h.0.0

  -- how the words stand to a rule: premises after its words, or factors among them
  data Shape (words : Words) (ps : List P) : Rule → Type 0 where
    plain : {rule : Rule} → bare rule ≡ rule → kind rule ≡ 0 → words ≡ head_words rule ++ map word ps → All Fits ps → Shape words ps rule
    combined : (divisor : ℤ) (factors : List ℤ) → words ≡ codes "combine" ∷ signed_decimal divisor ∷ paired word Fits (factor_first word Fits) factors ps
        → All IsWide factors → All Fits ps → length ps ≡ length factors → Shape words ps (rules.Combine divisor factors)
    gathered : (divisor : ℤ) (factors : List (List Term)) → words ≡ codes "ideal" ∷ signed_decimal divisor ∷ paired word Fits (factor_behind word Fits) factors ps
        → All PolyFits factors → All Fits ps → length ps ≡ length factors → Shape words ps (rules.Ideal divisor factors)

  none_fits : (ps : List P) → ps ≡ [] → All Fits ps
  none_fits ps e = subst (λ (qs : List P). All Fits qs) (sym e) (λ i x below. absurd (omega (arith, below)))

  none_after : (words head : Words) (ps : List P) → words ≡ head → ps ≡ [] → words ≡ head ++ map word ps
  none_after words head ps e none = e ∙ sym (append-nil head) ∙ ap (λ (qs : List P). head ++ map word qs) (sym none)

  shape : (words : Words) (rule : Rule) (ps : List P) → IsRule word Fits words rule ps → Shape words ps rule
  shape words (rules.Hyp i) ps h = plain refl refl (none_after words (head_words (rules.Hyp i)) ps h.0.0 h.1) (none_fits ps h.1)
  shape words rules.Negated ps h = plain refl refl h.0.0 h.0.1
  shape words (rules.Inst t ids) ps h = plain refl refl (none_after words (head_words (rules.Inst t ids)) ps h.0.0 h.1) (none_fits ps h.1)
  shape words rules.Branch ps h = plain refl refl h.0.0 h.0.1
  shape words rules.Refl ps h = plain refl refl h.0.0 h.0.1
  shape words rules.Sym ps h = plain refl refl h.0.0 h.0.1
  shape words rules.Trans ps h = plain refl refl h.0.0 h.0.1
  shape words rules.Cong ps h = plain refl refl h.0 h.1
  shape words rules.Eq ps h = plain refl refl h.0.0 h.0.1
  shape words rules.Back ps h = plain refl refl h.0.0 h.0.1
  shape words rules.Truth ps h = plain refl refl h.0.0 h.0.1
  shape words rules.Untruth ps h = plain refl refl h.0.0 h.0.1
  shape words (rules.Table free) ps h = plain refl refl h.0.0 h.0.1
  shape words rules.Read ps h = plain refl refl h.0.0 h.0.1
  shape words rules.Write ps h = plain refl refl h.0.0 h.0.1
  shape words rules.Line ps h = plain refl refl h.0.0 h.0.1
  shape words rules.Poly ps h = plain refl refl h.0.0 h.0.1
  shape words (rules.Combine divisor factors) ps h = combined divisor factors h.0 h.2 h.3 h.4
  shape words rules.Pinch ps h = plain refl refl h.0.0 h.0.1
  shape words rules.Strict ps h = plain refl refl h.0.0 h.0.1
  shape words rules.Apart ps h = plain refl refl h.0.0 h.0.1
  shape words (rules.Ideal divisor factors) ps h = gathered divisor factors h.0 h.2 h.3 h.4
  shape words rules.Equal ps h = plain refl refl h.0.0 h.0.1
  shape words rules.Clash ps h = plain refl refl h.0.0 h.0.1

  module _ (same_word : (p q : P) → Fits p → Fits q → word p ≡ word q → p ≡ q) where
    same_premises : (ps qs : List P) → AllByRecursion Fits ps → AllByRecursion Fits qs → map word ps ≡ map word qs → ps ≡ qs
    same_premises [] [] hp hq e = refl
    same_premises [] (q ∷ qs) hp hq e = absurd cc
    same_premises (p ∷ ps) [] hp hq e = absurd cc
    same_premises (p ∷ ps) (q ∷ qs) hp hq e =
        let one : p ≡ q = same_word p q hp.0 hq.0 (first_is (word p) (word q) (map word ps) (map word qs) e) in
        let more : ps ≡ qs = same_premises ps qs hp.1 hq.1 (rest_is (word p) (word q) (map word ps) (map word qs) e) in
        cc

    -- factors with their premises
    module _ (A : Type 0) (both : A → P → Words) (AFits : A → Type 0) (some : (a : A) (p : P) (xs : Words) → [] ≡ both a p ++ xs → ⊥)
        (same_both : (a b : A) (p q : P) (xs ys : Words) → AFits a → AFits b → Fits p → Fits q → both a p ++ xs ≡ both b q ++ ys → (a ≡ b) × (p ≡ q) × (xs ≡ ys)) where
      same_paired : (lefts rights : List A) (ps qs : List P) → length ps ≡ length lefts → length qs ≡ length rights
          → AllByRecursion AFits lefts → AllByRecursion AFits rights → AllByRecursion Fits ps → AllByRecursion Fits qs
          → paired word Fits both lefts ps ≡ paired word Fits both rights qs → (lefts ≡ rights) × (ps ≡ qs)
      same_paired [] [] [] [] la lb ha hb hp hq e = (refl, refl)
      same_paired [] rights (p ∷ ps) qs la lb ha hb hp hq e = absurd (omega (arith, la))
      same_paired [] [] [] (q ∷ qs) la lb ha hb hp hq e = absurd (omega (arith, lb))
      same_paired [] (b ∷ rights) [] [] la lb ha hb hp hq e = absurd (omega (arith, lb))
      same_paired [] (b ∷ rights) [] (q ∷ qs) la lb ha hb hp hq e = absurd (some b q (paired word Fits both rights qs) e)
      same_paired (a ∷ lefts) rights [] qs la lb ha hb hp hq e = absurd (omega (arith, la))
      same_paired (a ∷ lefts) [] (p ∷ ps) qs la lb ha hb hp hq e = absurd (some a p (paired word Fits both lefts ps) (sym e))
      same_paired (a ∷ lefts) (b ∷ rights) (p ∷ ps) [] la lb ha hb hp hq e = absurd (omega (arith, lb))
      same_paired (a ∷ lefts) (b ∷ rights) (p ∷ ps) (q ∷ qs) la lb ha hb hp hq e =
          let one = same_both a b p q (paired word Fits both lefts ps) (paired word Fits both rights qs) ha.0 hb.0 hp.0 hq.0 e in
          let left_count : length ps ≡ length lefts = omega (arith, la) in
          let right_count : length qs ≡ length rights = omega (arith, lb) in
          let more = same_paired lefts rights ps qs left_count right_count ha.1 hb.1 hp.1 hq.1 one.2 in
          let factor : a ≡ b = one.0 in
          let premise : p ≡ q = one.1 in
          let factors : lefts ≡ rights = more.0 in
          let premises : ps ≡ qs = more.1 in
          (cc, cc)

    first_some : (a : ℤ) (p : P) (xs : Words) → [] ≡ factor_first word Fits a p ++ xs → ⊥
    first_some a p xs e = absurd cc

    first_same : (a b : ℤ) (p q : P) (xs ys : Words) → IsWide a → IsWide b → Fits p → Fits q
        → factor_first word Fits a p ++ xs ≡ factor_first word Fits b q ++ ys → (a ≡ b) × (p ≡ q) × (xs ≡ ys)
    first_same a b p q xs ys ha hb hp hq e =
        let front : signed_decimal a ≡ signed_decimal b = first_is (signed_decimal a) (signed_decimal b) (word p ∷ xs) (word q ∷ ys) e in
        let behind : word p ∷ xs ≡ word q ∷ ys = rest_is (signed_decimal a) (signed_decimal b) (word p ∷ xs) (word q ∷ ys) e in
        (same_integer a b ha hb front, same_word p q hp hq (first_is (word p) (word q) xs ys behind), rest_is (word p) (word q) xs ys behind)

    behind_some : (a : List Term) (p : P) (xs : Words) → [] ≡ factor_behind word Fits a p ++ xs → ⊥
    behind_some a p xs e = absurd cc

    behind_same : (a b : List Term) (p q : P) (xs ys : Words) → PolyFits a → PolyFits b → Fits p → Fits q
        → factor_behind word Fits a p ++ xs ≡ factor_behind word Fits b q ++ ys → (a ≡ b) × (p ≡ q) × (xs ≡ ys)
    behind_same a b p q xs ys ha hb hp hq e =
        let front : word p ≡ word q = first_is (word p) (word q) (poly_words a ++ xs) (poly_words b ++ ys) e in
        let behind = same_poly a b xs ys ha hb (rest_is (word p) (word q) (poly_words a ++ xs) (poly_words b ++ ys) e) in
        (behind.0, same_word p q hp hq front, behind.1)

    not_alike : (k m i j : ℕ) → k ≡ m → k ≡ i → m ≡ j → i < j → ⊥
    not_alike k m i j e low high less = omega (arith, e, low, high, less)

    kind_kept : {words : Words} {ps : List P} {rule : Rule} → Shape words ps rule → kind (bare rule) ≡ kind rule
    kind_kept (plain same is words fits) = ap kind same
    kind_kept (combined divisor factors words wide fits count) = refl
    kind_kept (gathered divisor factors words wide fits count) = refl

    same_kind : {words : Words} {ps qs : List P} {a b : Rule} → Shape words ps a → Shape words qs b → bare a ≡ bare b → kind a ≡ kind b
    same_kind one other e = sym (kind_kept one) ∙ ap kind e ∙ kind_kept other

    same_shape : {words : Words} {ps qs : List P} {a b : Rule} → Shape words ps a → Shape words qs b → bare a ≡ bare b → (a ≡ b) × (ps ≡ qs)
    same_shape {words = words} {ps = ps} {qs = qs} {a = a} {b = b} (plain one zero_a words_a fit_a) (plain two zero_b words_b fit_b) rule =
        let same : a ≡ b = sym one ∙ rule ∙ two in
        let heads : head_words a ++ map word ps ≡ head_words a ++ map word qs =
        sym words_a ∙ words_b ∙ ap (λ (r : Rule). head_words r ++ map word qs) (sym same) in (
          same,
          same_premises ps qs (recursion_from_All Fits ps fit_a) (recursion_from_All Fits qs fit_b)
              (cancel (head_words a) (map word ps) (map word qs) heads),
        )
    same_shape {words = words} {ps = ps} {qs = qs} (combined m lefts words_a wide_a fit_a la) (combined n rights words_b wide_b fit_b lb) rule =
        let left : Words = paired word Fits (factor_first word Fits) lefts ps in
        let right : Words = paired word Fits (factor_first word Fits) rights qs in
        let e : codes "combine" ∷ signed_decimal m ∷ left ≡ codes "combine" ∷ signed_decimal n ∷ right = sym words_a ∙ words_b in
        let both : left ≡ right = rest_is (signed_decimal m) (signed_decimal n) left right
        (rest_is (codes "combine") (codes "combine") (signed_decimal m ∷ left) (signed_decimal n ∷ right) e) in
        let same = same_paired ℤ (factor_first word Fits) IsWide first_some first_same lefts rights ps qs la lb
        (recursion_from_All IsWide lefts wide_a) (recursion_from_All IsWide rights wide_b)
        (recursion_from_All Fits ps fit_a) (recursion_from_All Fits qs fit_b) both in
        let divisor : m ≡ n = cc rule in
        (ap (λ (z : ℤ). rules.Combine z lefts) divisor ∙ ap (λ (fs : List ℤ). rules.Combine n fs) same.0, same.1)
    same_shape {words = words} {ps = ps} {qs = qs} (gathered m lefts words_a wide_a fit_a la) (gathered n rights words_b wide_b fit_b lb) rule =
        let left : Words = paired word Fits (factor_behind word Fits) lefts ps in
        let right : Words = paired word Fits (factor_behind word Fits) rights qs in
        let e : codes "ideal" ∷ signed_decimal m ∷ left ≡ codes "ideal" ∷ signed_decimal n ∷ right = sym words_a ∙ words_b in
        let both : left ≡ right = rest_is (signed_decimal m) (signed_decimal n) left right
        (rest_is (codes "ideal") (codes "ideal") (signed_decimal m ∷ left) (signed_decimal n ∷ right) e) in
        let same = same_paired (List Term) (factor_behind word Fits) PolyFits behind_some behind_same lefts rights ps qs la lb
        (recursion_from_All PolyFits lefts wide_a) (recursion_from_All PolyFits rights wide_b)
        (recursion_from_All Fits ps fit_a) (recursion_from_All Fits qs fit_b) both in
        let divisor : m ≡ n = cc rule in
        (ap (λ (z : ℤ). rules.Ideal z lefts) divisor ∙ ap (λ (fs : List (List Term)). rules.Ideal n fs) same.0, same.1)
    same_shape {a = a} {b = b} (plain one zero_a words_a fit_a) (combined n rights words_b wide_b fit_b lb) rule =
        absurd (not_alike (kind a) (kind b) 0 1 (same_kind (plain one zero_a words_a fit_a) (combined n rights words_b wide_b fit_b lb) rule) zero_a refl (lit< tt))
    same_shape {a = a} {b = b} (plain one zero_a words_a fit_a) (gathered n rights words_b wide_b fit_b lb) rule =
        absurd (not_alike (kind a) (kind b) 0 2 (same_kind (plain one zero_a words_a fit_a) (gathered n rights words_b wide_b fit_b lb) rule) zero_a refl (lit< tt))
    same_shape {a = a} {b = b} (combined m lefts words_a wide_a fit_a la) (plain two zero_b words_b fit_b) rule =
        absurd (not_alike (kind b) (kind a) 0 1 (sym (same_kind (combined m lefts words_a wide_a fit_a la) (plain two zero_b words_b fit_b) rule)) zero_b refl (lit< tt))
    same_shape {a = a} {b = b} (gathered m lefts words_a wide_a fit_a la) (plain two zero_b words_b fit_b) rule =
        absurd (not_alike (kind b) (kind a) 0 2 (sym (same_kind (gathered m lefts words_a wide_a fit_a la) (plain two zero_b words_b fit_b) rule)) zero_b refl (lit< tt))
    same_shape {a = a} {b = b} (combined m lefts words_a wide_a fit_a la) (gathered n rights words_b wide_b fit_b lb) rule =
        absurd (not_alike (kind a) (kind b) 1 2 (same_kind (combined m lefts words_a wide_a fit_a la) (gathered n rights words_b wide_b fit_b lb) rule) refl refl (lit< tt))
    same_shape {a = a} {b = b} (gathered m lefts words_a wide_a fit_a la) (combined n rights words_b wide_b fit_b lb) rule =
        absurd (not_alike (kind b) (kind a) 1 2 (sym (same_kind (gathered m lefts words_a wide_a fit_a la) (combined n rights words_b wide_b fit_b lb) rule)) refl refl (lit< tt))

    -- the words say one rule with its premises
    pub one_rule : (words : Words) (a b : Rule) (ps qs : List P) → IsRule word Fits words a ps → IsRule word Fits words b qs → (a ≡ b) × (ps ≡ qs)
    one_rule words a b ps qs ha hb =
        same_shape (shape words a ps ha) (shape words b qs hb) (sym (rule_back words a ps ha) ∙ rule_back words b qs hb)
