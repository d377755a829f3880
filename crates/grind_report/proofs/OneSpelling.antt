-- A report that fits is read back from its lines.
use Rattle.std.proofs.Common.{◌≡◌, ℕ, ◌+◌, Bool, true, false, cond, List, [], ◌∷◌, ◌++◌, length, map, All, decimal, ℤ, refl, sym, ap, ◌∙◌, append_assoc, arith}
use Rattle.std.specs.Prelude.{codes, bytes_eq}
use Rattle.std.specs.List.{AllByRecursion, flat_map}
use Rattle.std.proofs.lemmas.List.{append-nil}
use Rattle.std.proofs.lemmas.Slice.Eq.{bytes_eq-Decides}
use Rattle.std.proofs.lemmas.List.Elements.{recursion_from_All}
use Rattle.grind_linear_forms.specs.Forms.{FormData}
use Rattle.grind_polynomials.specs.declared.poly.Term.{Term}
use Rattle.grind_claims.specs.declared.claim.Claim.{Claim}
use Rattle.grind_claims.specs.declared.claim.Claim.TheVariants as claims
use Rattle.grind_claims.specs.declared.proof.Branch.{Branch}
use Rattle.grind_claims.specs.declared.proof.Line.{Line}
use Rattle.grind_claims.specs.declared.proof.Rule.{Rule}
use Rattle.grind_claims.specs.declared.proof.Rule.TheVariants as rules_of
use Rattle.grind_report.specs.Report.{RawTerm, RawProof, Block, Report, True, False, Const, Fun, Int, Not, And, Or, Implies, Eq, Le, Add, Neg, Mul, Closed, Unexplored, term_words, poly_words, rule_words, premise_words, claim_words, branch_words, line_words, indexed_lines, counted_lines, block_page, header_words, end_words, report_page, IsShort, IsWide, TermFits, PolyFits, RuleFits, FactorsFit, TakesPremises, ClaimFits, BranchFits, LineFits, ProofFits, BlockFits, ReportFits, ReportOf}
use Rattle.grind_report.proofs.NumberSpelling.{first_is, rest_is, cancel, first_of, rest_of, number, number_back, numbers_back, same_number, no_colon, integer, integer_back, one_of, other_of, both_back, first_items, first_items-back}
use Rattle.grind_report.proofs.FormSpelling.{form_from, form_back, poly_from, poly_back, same_combined, same_gathered}
use Rattle.grind_report.proofs.RuleShapes.{bare, kind, Shape, plain, combined, gathered, shape, same_kind, words_kept, not_zero_and_one, not_zero_and_two, not_one_and_two}
use Rattle.grind_report.proofs.Spelling.{page_of, page_of-spelled}
use Rattle.grind_report.proofs.SolidWords.{report_solid}

-- ---- terms

term_from : List (List ℕ) → RawTerm
term_from words =
    cond (bytes_eq (first_of words) (codes "true")) True (cond (bytes_eq (first_of words) (codes "false")) False
    (cond (bytes_eq (first_of words) (codes "const")) (Const (first_of (rest_of words)))
    (cond (bytes_eq (first_of words) (codes "fun")) (Fun (first_of (rest_of words)) (map number (rest_of (rest_of words))))
    (cond (bytes_eq (first_of words) (codes "int")) (Int (integer (first_of (rest_of words))))
    (cond (bytes_eq (first_of words) (codes "not")) (Not (one_of words)) (cond (bytes_eq (first_of words) (codes "and")) (And (one_of words) (other_of words))
    (cond (bytes_eq (first_of words) (codes "or")) (Or (one_of words) (other_of words)) (cond (bytes_eq (first_of words) (codes "implies")) (Implies (one_of words) (other_of words))
    (cond (bytes_eq (first_of words) (codes "eq")) (Eq (one_of words) (other_of words)) (cond (bytes_eq (first_of words) (codes "le")) (Le (one_of words) (other_of words))
    (cond (bytes_eq (first_of words) (codes "add")) (Add (one_of words) (other_of words)) (cond (bytes_eq (first_of words) (codes "neg")) (Neg (one_of words)) (Mul (one_of words) (other_of words))))))))))))))

term_back : (t : RawTerm) → TermFits t → term_from (term_words t) ≡ t
unfolding term_from
term_back True fits = refl
term_back False fits = refl
term_back (Const name) fits = refl
term_back (Fun name args) fits = ap (Fun name) (numbers_back args (recursion_from_All IsShort args fits.1))
term_back (Int value) fits = ap (λ (z : ℤ). Int z) (integer_back value fits)
term_back (Not a) fits = ap (λ (x : ℕ). Not x) (number_back a fits)
term_back (And a b) fits = both_back (λ (x y : ℕ). And x y) a b fits
term_back (Or a b) fits = both_back (λ (x y : ℕ). Or x y) a b fits
term_back (Implies a b) fits = both_back (λ (x y : ℕ). Implies x y) a b fits
term_back (Eq a b) fits = both_back (λ (x y : ℕ). Eq x y) a b fits
term_back (Le a b) fits = both_back (λ (x y : ℕ). Le x y) a b fits
term_back (Add a b) fits = both_back (λ (x y : ℕ). Add x y) a b fits
term_back (Neg a) fits = ap (λ (x : ℕ). Neg x) (number_back a fits)
term_back (Mul a b) fits = both_back (λ (x y : ℕ). Mul x y) a b fits

same_term : (s t : RawTerm) → TermFits s → TermFits t → term_words s ≡ term_words t → s ≡ t
same_term s t hs ht e = sym (term_back s hs) ∙ ap term_from e ∙ term_back t ht

-- ---- lines of a proof

-- the numbers before a colon
before_colon : List (List ℕ) → List ℕ
before_colon [] = []
before_colon (word ∷ words) = cond (bytes_eq word (codes ":")) [] (number word ∷ before_colon words)

is_no_colon : (n : ℕ) → IsShort n → (b : Bool) → bytes_eq (decimal n) (codes ":") ≡ b → b ≡ false
is_no_colon n short false e = refl
is_no_colon n short true e = absurd (no_colon n short (sym ((bytes_eq-Decides (decimal n) (codes ":")).0 e)))

before_colon-back : (ns : List ℕ) (words : List (List ℕ)) → AllByRecursion IsShort ns → before_colon (map decimal ns ++ codes ":" ∷ words) ≡ ns
unfolding before_colon
before_colon-back [] words h = refl
before_colon-back (n ∷ ns) words h =
    let other = is_no_colon n h.0 (bytes_eq (decimal n) (codes ":")) refl in
    let rest = before_colon (map decimal ns ++ codes ":" ∷ words) in
    ap (λ (b : Bool). cond b [] (number (decimal n) ∷ rest)) other
    ∙ ap (λ (x : ℕ). x ∷ rest) (number_back n h.0) ∙ ap (λ (others : List ℕ). n ∷ others) (before_colon-back ns words h.1)

-- what stands after the words of a rule: a colon where the rule lists nodes without their count
abbrev Follows : Rule → List (List ℕ) → Type 0
Follows (rules_of.Inst t ids) words = (more : List (List ℕ)) × (words ≡ codes ":" ∷ more)
Follows rule words = Unit {0}

-- after no premises stands a colon
colon_first : (premises : List ℕ) (words : List (List ℕ)) → length premises ≡ 0
    → (more : List (List ℕ)) × (map decimal premises ++ codes ":" ∷ words ≡ codes ":" ∷ more)
colon_first [] words e = (words, refl)
colon_first (p ∷ premises) words e = absurd (omega (arith, e))

line_follows : (rule : Rule) (premises : List ℕ) (words : List (List ℕ)) → TakesPremises rule (length premises)
    → Follows rule (premise_words rule premises ++ codes ":" ∷ words)
line_follows (rules_of.Inst t ids) premises words count = colon_first premises words count
line_follows rule premises words count = tt

-- the rule over whole numbers that these words begin with
arithmetic_from : List (List ℕ) → Rule
arithmetic_from words =
    cond (bytes_eq (first_of words) (codes "read")) rules_of.Read (cond (bytes_eq (first_of words) (codes "write")) rules_of.Write
    (cond (bytes_eq (first_of words) (codes "line")) rules_of.Line (cond (bytes_eq (first_of words) (codes "poly")) rules_of.Poly
    (cond (bytes_eq (first_of words) (codes "combine")) (rules_of.Combine (integer (first_of (rest_of words))) [])
    (cond (bytes_eq (first_of words) (codes "pinch")) rules_of.Pinch (cond (bytes_eq (first_of words) (codes "strict")) rules_of.Strict
    (cond (bytes_eq (first_of words) (codes "ideal")) (rules_of.Ideal (integer (first_of (rest_of words))) [])
    (cond (bytes_eq (first_of words) (codes "equal")) rules_of.Equal rules_of.Clash))))))))

-- the rule that these words begin with, without its factors
rule_from : List (List ℕ) → Rule
rule_from words =
    cond (bytes_eq (first_of words) (codes "hyp")) (rules_of.Hyp (one_of words)) (cond (bytes_eq (first_of words) (codes "negated")) rules_of.Negated
    (cond (bytes_eq (first_of words) (codes "branch")) rules_of.Branch (cond (bytes_eq (first_of words) (codes "refl")) rules_of.Refl
    (cond (bytes_eq (first_of words) (codes "sym")) rules_of.Sym (cond (bytes_eq (first_of words) (codes "trans")) rules_of.Trans
    (cond (bytes_eq (first_of words) (codes "cong")) rules_of.Cong (cond (bytes_eq (first_of words) (codes "eq")) rules_of.Eq
    (cond (bytes_eq (first_of words) (codes "back")) rules_of.Back (cond (bytes_eq (first_of words) (codes "truth")) rules_of.Truth
    (cond (bytes_eq (first_of words) (codes "untruth")) rules_of.Untruth
    (cond (bytes_eq (first_of words) (codes "table")) (rules_of.Table (first_items (one_of words) (rest_of (rest_of words))))
    (cond (bytes_eq (first_of words) (codes "inst")) (rules_of.Inst (one_of words) (before_colon (rest_of (rest_of words))))
    (cond (bytes_eq (first_of words) (codes "apart")) rules_of.Apart (arithmetic_from words))))))))))))))

rule_back : (rule : Rule) (words : List (List ℕ)) → RuleFits rule → Follows rule words → rule_from (rule_words rule ++ words) ≡ bare rule
unfolding rule_from arithmetic_from
rule_back (rules_of.Hyp i) words fits behind = ap (λ (x : ℕ). rules_of.Hyp x) (number_back i fits)
rule_back (rules_of.Inst t ids) words fits behind =
    ap (λ (ws : List (List ℕ)). rules_of.Inst (number (decimal t)) (before_colon (map decimal ids ++ ws))) behind.1
    ∙ ap (λ (x : ℕ). rules_of.Inst x (before_colon (map decimal ids ++ codes ":" ∷ behind.0))) (number_back t fits.0)
    ∙ ap (λ (ns : List ℕ). rules_of.Inst t ns) (before_colon-back ids behind.0 (recursion_from_All IsShort ids fits.1))
rule_back (rules_of.Table free) words fits behind =
    ap (λ (k : ℕ). rules_of.Table (first_items k (map decimal free ++ words))) (number_back (length free) fits.0)
    ∙ ap (λ (ns : List ℕ). rules_of.Table ns) (first_items-back free words (recursion_from_All IsShort free fits.1))
rule_back (rules_of.Combine divisor factors) words fits behind = ap (λ (z : ℤ). rules_of.Combine z []) (integer_back divisor fits)
rule_back (rules_of.Ideal divisor factors) words fits behind = ap (λ (z : ℤ). rules_of.Ideal z []) (integer_back divisor fits)
rule_back rule words fits behind = refl

same_rule : (a b : Rule) (xs ys : List (List ℕ)) → RuleFits a → RuleFits b → Follows a xs → Follows b ys → rule_words a ++ xs ≡ rule_words b ++ ys → (bare a ≡ bare b) × (xs ≡ ys)
same_rule a b xs ys ha hb behind_a behind_b e =
    let inject : bare a ≡ bare b = sym (rule_back a xs ha behind_a) ∙ ap rule_from e ∙ rule_back b ys hb behind_b in
    let words : rule_words b ≡ rule_words a = sym (words_kept (shape b)) ∙ ap rule_words (sym inject) ∙ words_kept (shape a) in
    let moved : rule_words a ++ xs ≡ rule_words a ++ ys = e ∙ ap (λ (ws : List (List ℕ)). ws ++ ys) words in
    (inject, cancel (rule_words a) xs ys moved)

claim_from : List (List ℕ) → Claim
claim_from words =
    cond (bytes_eq (first_of words) (codes "holds")) (claims.Holds (number (first_of (rest_of words))))
    (cond (bytes_eq (first_of words) (codes "fails")) (claims.Fails (number (first_of (rest_of words))))
    (cond (bytes_eq (first_of words) (codes "same")) (claims.Same (one_of words) (other_of words))
    (cond (bytes_eq (first_of words) (codes "differ")) (claims.Differ (one_of words) (other_of words))
    (cond (bytes_eq (first_of words) (codes "atmost")) (claims.AtMost (form_from (rest_of words)))
    (cond (bytes_eq (first_of words) (codes "zero")) (claims.Zero (poly_from (rest_of words))) claims.Absurd)))))

claim_back : (claim : Claim) → ClaimFits claim → claim_from (claim_words claim) ≡ claim
unfolding claim_from
claim_back (claims.Holds n) fits = ap (λ (x : ℕ). claims.Holds x) (number_back n fits)
claim_back (claims.Fails n) fits = ap (λ (x : ℕ). claims.Fails x) (number_back n fits)
claim_back (claims.Same a b) fits = both_back (λ (x y : ℕ). claims.Same x y) a b fits
claim_back (claims.Differ a b) fits = both_back (λ (x y : ℕ). claims.Differ x y) a b fits
claim_back (claims.AtMost form) fits = ap (λ (f : FormData). claims.AtMost f) (form_back form fits)
claim_back (claims.Zero poly) fits =
    ap (λ (words : List (List ℕ)). claims.Zero (poly_from words)) (sym (append-nil (poly_words poly)))
    ∙ ap (λ (p : List Term). claims.Zero p) (poly_back poly [] fits)
claim_back claims.Absurd fits = refl

same_claim : (a b : Claim) → ClaimFits a → ClaimFits b → claim_words a ≡ claim_words b → a ≡ b
same_claim a b ha hb e = sym (claim_back a ha) ∙ ap claim_from e ∙ claim_back b hb

-- the numbers before a colon, and what is after it
same_premises : (ms ns : List ℕ) (xs ys : List (List ℕ)) → AllByRecursion IsShort ms → AllByRecursion IsShort ns
    → map decimal ms ++ codes ":" ∷ xs ≡ map decimal ns ++ codes ":" ∷ ys → (ms ≡ ns) × (xs ≡ ys)
same_premises [] [] xs ys hm hn e = (refl, rest_is (codes ":") (codes ":") xs ys e)
same_premises [] (n ∷ ns) xs ys hm hn e =
    absurd (no_colon n hn.0 (first_is (codes ":") (decimal n) xs (map decimal ns ++ codes ":" ∷ ys) e))
same_premises (m ∷ ms) [] xs ys hm hn e =
    absurd (no_colon m hm.0 (sym (first_is (decimal m) (codes ":") (map decimal ms ++ codes ":" ∷ xs) ys e)))
same_premises (m ∷ ms) (n ∷ ns) xs ys hm hn e =
    let one : m ≡ n = same_number m n hm.0 hn.0 (first_is (decimal m) (decimal n) (map decimal ms ++ codes ":" ∷ xs) (map decimal ns ++ codes ":" ∷ ys) e) in
    let more = same_premises ms ns xs ys hm.1 hn.1 (rest_is (decimal m) (decimal n) (map decimal ms ++ codes ":" ∷ xs) (map decimal ns ++ codes ":" ∷ ys) e) in
    let first : ms ≡ ns = more.0 in
    (cc, more.1)

abbrev AreOneLine : Rule → Rule → List ℕ → List ℕ → List (List ℕ) → List (List ℕ) → Type 0
AreOneLine a b ps qs xs ys = (a ≡ b) × (ps ≡ qs) × (xs ≡ ys)

-- the factors and premises of a rule before a colon, and what is after it
same_whole : {a b : Rule} → Shape a → Shape b → (ps qs : List ℕ) (xs ys : List (List ℕ)) → FactorsFit a → FactorsFit b
    → TakesPremises a (length ps) → TakesPremises b (length qs) → AllByRecursion IsShort ps → AllByRecursion IsShort qs → bare a ≡ bare b
    → premise_words a ps ++ codes ":" ∷ xs ≡ premise_words b qs ++ codes ":" ∷ ys → AreOneLine a b ps qs xs ys
same_whole (plain one zero_a words_a) (plain two zero_b words_b) ps qs xs ys fa fb ta tb ha hb rule e =
    let moved : map decimal ps ++ codes ":" ∷ xs ≡ map decimal qs ++ codes ":" ∷ ys =
    ap (λ (ws : List (List ℕ)). ws ++ codes ":" ∷ xs) (sym (words_a ps)) ∙ e ∙ ap (λ (ws : List (List ℕ)). ws ++ codes ":" ∷ ys) (words_b qs) in
    let same = same_premises ps qs xs ys ha hb moved in
    (sym one ∙ rule ∙ two, same.0, same.1)
same_whole (combined m lefts) (combined n rights) ps qs xs ys fa fb ta tb ha hb rule e =
    let same = same_combined lefts ps rights qs xs ys ta tb (recursion_from_All IsWide lefts fa) (recursion_from_All IsWide rights fb) ha hb e in
    let divisor : m ≡ n = cc rule in
    (ap (λ (z : ℤ). rules_of.Combine z lefts) divisor ∙ ap (λ (fs : List ℤ). rules_of.Combine n fs) same.0, same.1, same.2)
same_whole (gathered m lefts) (gathered n rights) ps qs xs ys fa fb ta tb ha hb rule e =
    let same = same_gathered lefts ps rights qs xs ys ta tb (recursion_from_All PolyFits lefts fa) (recursion_from_All PolyFits rights fb) ha hb e in
    let divisor : m ≡ n = cc rule in
    (ap (λ (z : ℤ). rules_of.Ideal z lefts) divisor ∙ ap (λ (fs : List (List Term)). rules_of.Ideal n fs) same.0, same.1, same.2)
same_whole {a} {b} (plain one zero_a words_a) (combined n rights) ps qs xs ys fa fb ta tb ha hb rule e =
    absurd (not_zero_and_one (kind a) (kind b) (same_kind (plain one zero_a words_a) (combined n rights) rule) zero_a refl)
same_whole {a} {b} (plain one zero_a words_a) (gathered n rights) ps qs xs ys fa fb ta tb ha hb rule e =
    absurd (not_zero_and_two (kind a) (kind b) (same_kind (plain one zero_a words_a) (gathered n rights) rule) zero_a refl)
same_whole {a} {b} (combined m lefts) (plain two zero_b words_b) ps qs xs ys fa fb ta tb ha hb rule e =
    absurd (not_zero_and_one (kind b) (kind a) (sym (same_kind (combined m lefts) (plain two zero_b words_b) rule)) zero_b refl)
same_whole {a} {b} (gathered m lefts) (plain two zero_b words_b) ps qs xs ys fa fb ta tb ha hb rule e =
    absurd (not_zero_and_two (kind b) (kind a) (sym (same_kind (gathered m lefts) (plain two zero_b words_b) rule)) zero_b refl)
same_whole {a} {b} (combined m lefts) (gathered n rights) ps qs xs ys fa fb ta tb ha hb rule e =
    absurd (not_one_and_two (kind a) (kind b) (same_kind (combined m lefts) (gathered n rights) rule) refl refl)
same_whole {a} {b} (gathered m lefts) (combined n rights) ps qs xs ys fa fb ta tb ha hb rule e =
    absurd (not_one_and_two (kind b) (kind a) (sym (same_kind (gathered m lefts) (combined n rights) rule)) refl refl)

abbrev line_of_parts : ℕ → Rule → List ℕ → Claim → Line
line_of_parts branch rule premises claim = record { branch = branch; rule = rule; premises = premises; claim = claim }

same_parts : (i j : ℕ) (r s : Rule) (ps qs : List ℕ) (c d : Claim) → i ≡ j → r ≡ s → ps ≡ qs → c ≡ d → line_of_parts i r ps c ≡ line_of_parts j s qs d
same_parts i j r s ps qs c d e1 e2 e3 e4 =
    ap (λ (x : ℕ). line_of_parts x r ps c) e1 ∙ ap (λ (x : Rule). line_of_parts j x ps c) e2 ∙ ap (λ (x : List ℕ). line_of_parts j s x c) e3 ∙ ap (λ (x : Claim). line_of_parts j s qs x) e4

same_line : (a b : Line) → LineFits a → LineFits b → line_words a ≡ line_words b → a ≡ b
same_line a b ha hb e =
    let behind_a = premise_words a.rule a.premises ++ codes ":" ∷ claim_words a.claim in
    let behind_b = premise_words b.rule b.premises ++ codes ":" ∷ claim_words b.claim in
    let tail_a = rule_words a.rule ++ behind_a in
    let tail_b = rule_words b.rule ++ behind_b in
    let branch : a.branch ≡ b.branch = same_number a.branch b.branch ha.branch hb.branch (first_is (decimal a.branch) (decimal b.branch) tail_a tail_b e) in
    let rule = same_rule a.rule b.rule behind_a behind_b ha.rule hb.rule
    (line_follows a.rule a.premises (claim_words a.claim) ha.count) (line_follows b.rule b.premises (claim_words b.claim) hb.count)
    (rest_is (decimal a.branch) (decimal b.branch) tail_a tail_b e) in
    let whole = same_whole (shape a.rule) (shape b.rule) a.premises b.premises (claim_words a.claim) (claim_words b.claim) ha.factors hb.factors ha.count hb.count
    (recursion_from_All IsShort a.premises ha.premises) (recursion_from_All IsShort b.premises hb.premises) rule.0 rule.1 in
    let claim : a.claim ≡ b.claim = same_claim a.claim b.claim ha.claim hb.claim whole.2 in
    let e1 : a.rule ≡ b.rule = whole.0 in
    let e2 : a.premises ≡ b.premises = whole.1 in
    same_parts a.branch b.branch a.rule b.rule a.premises b.premises a.claim b.claim branch e1 e2 claim

-- ---- branches

abbrev branch_of_parts : ℕ → ℕ → Claim → Branch
branch_of_parts parent after literal = record { parent = parent; after = after; literal = literal }

same_branch : (a b : Branch) → BranchFits a → BranchFits b → branch_words a ≡ branch_words b → a ≡ b
same_branch a b ha hb e =
    let rest_a = decimal a.after ∷ claim_words a.literal in
    let rest_b = decimal b.after ∷ claim_words b.literal in
    let rest : rest_a ≡ rest_b = rest_is (decimal a.parent) (decimal b.parent) rest_a rest_b e in
    let parent : a.parent ≡ b.parent = same_number a.parent b.parent ha.parent hb.parent (first_is (decimal a.parent) (decimal b.parent) rest_a rest_b e) in
    let after : a.after ≡ b.after = same_number a.after b.after ha.after hb.after (first_is (decimal a.after) (decimal b.after) (claim_words a.literal) (claim_words b.literal) rest) in
    let literal : a.literal ≡ b.literal = same_claim a.literal b.literal ha.literal hb.literal (rest_is (decimal a.after) (decimal b.after) (claim_words a.literal) (claim_words b.literal) rest) in
    ap (λ (x : ℕ). branch_of_parts x a.after a.literal) parent ∙ ap (λ (x : ℕ). branch_of_parts b.parent x a.literal) after ∙ ap (λ (x : Claim). branch_of_parts b.parent b.after x) literal

-- ---- lines after indices

same_indexed : {A : Type 0} (words : A → List (List ℕ)) (Fits : A → Type 0) (inject : (a b : A) → Fits a → Fits b → words a ≡ words b → a ≡ b)
    (index : ℕ) (lefts rights : List A) (p q : List (List (List ℕ))) → AllByRecursion Fits lefts → AllByRecursion Fits rights → length lefts ≡ length rights
    → indexed_lines words index lefts ++ p ≡ indexed_lines words index rights ++ q → (lefts ≡ rights) × (p ≡ q)
same_indexed words Fits inject index [] [] p q ha hb len e = (refl, e)
same_indexed words Fits inject index [] (b ∷ rights) p q ha hb len e = absurd (omega (arith, len))
same_indexed words Fits inject index (a ∷ lefts) [] p q ha hb len e = absurd (omega (arith, len))
same_indexed words Fits inject index (a ∷ lefts) (b ∷ rights) p q ha hb len e =
    let front = first_is (decimal index ∷ words a) (decimal index ∷ words b) (indexed_lines words (index + 1) lefts ++ p) (indexed_lines words (index + 1) rights ++ q) e in
    let back = rest_is (decimal index ∷ words a) (decimal index ∷ words b) (indexed_lines words (index + 1) lefts ++ p) (indexed_lines words (index + 1) rights ++ q) e in
    let one : a ≡ b = inject a b ha.0 hb.0 (rest_is (decimal index) (decimal index) (words a) (words b) front) in
    let shorter : length lefts ≡ length rights = omega (arith, len) in
    let more = same_indexed words Fits inject (index + 1) lefts rights p q ha.1 hb.1 shorter back in
    let others : lefts ≡ rights = more.0 in
    (cc, more.1)

same_counted : {A : Type 0} (title : List ℕ) (words : A → List (List ℕ)) (Fits : A → Type 0) (inject : (a b : A) → Fits a → Fits b → words a ≡ words b → a ≡ b)
    (index : ℕ) (lefts rights : List A) (p q : List (List (List ℕ))) → All Fits lefts → All Fits rights → IsShort (length lefts) → IsShort (length rights)
    → counted_lines title words index lefts ++ p ≡ counted_lines title words index rights ++ q → (lefts ≡ rights) × (p ≡ q)
same_counted title words Fits inject index lefts rights p q ha hb la lb e =
    let head_a = title ∷ decimal (length lefts) ∷ [] in
    let head_b = title ∷ decimal (length rights) ∷ [] in
    let front : head_a ≡ head_b = first_is head_a head_b (indexed_lines words index lefts ++ p) (indexed_lines words index rights ++ q) e in
    let counts : decimal (length lefts) ≡ decimal (length rights) = cc front in
    let len : length lefts ≡ length rights = same_number (length lefts) (length rights) la lb counts in
    same_indexed words Fits inject index lefts rights p q (recursion_from_All Fits lefts ha) (recursion_from_All Fits rights hb) len
    (rest_is head_a head_b (indexed_lines words index lefts ++ p) (indexed_lines words index rights ++ q) e)

-- ---- blocks

abbrev terms_page : RawProof → List (List (List ℕ))
terms_page proof = counted_lines (codes "terms") term_words 0 proof.terms

abbrev branches_page : RawProof → List (List (List ℕ))
branches_page proof = counted_lines (codes "branches") branch_words 1 proof.branches

abbrev lines_page : RawProof → List (List (List ℕ))
lines_page proof = counted_lines (codes "lines") line_words 0 proof.lines

abbrev proof_page : RawProof → List (List (List ℕ))
proof_page proof = terms_page proof ++ (branches_page proof ++ lines_page proof)

-- three pieces before a rest, one after the other
regrouped : (a b c p : List (List (List ℕ))) → (a ++ (b ++ c)) ++ p ≡ a ++ (b ++ (c ++ p))
regrouped a b c p = append_assoc a (b ++ c) p ∙ ap (λ (rest : List (List (List ℕ))). a ++ rest) (append_assoc b c p)

abbrev proof_of_parts : List RawTerm → List Branch → List Line → RawProof
proof_of_parts terms branches lines = record { terms = terms; branches = branches; lines = lines }

same_proof : (a b : RawProof) (p q : List (List (List ℕ))) → ProofFits a → ProofFits b → proof_page a ++ p ≡ proof_page b ++ q → (a ≡ b) × (p ≡ q)
same_proof a b p q ha hb e =
    let behind_a = branches_page a ++ (lines_page a ++ p) in
    let behind_b = branches_page b ++ (lines_page b ++ q) in
    let pieces : terms_page a ++ behind_a ≡ terms_page b ++ behind_b =
    sym (regrouped (terms_page a) (branches_page a) (lines_page a) p) ∙ e ∙ regrouped (terms_page b) (branches_page b) (lines_page b) q in
    let terms = same_counted (codes "terms") term_words TermFits same_term 0 a.terms b.terms behind_a behind_b ha.terms hb.terms ha.term_count hb.term_count pieces in
    let branches = same_counted (codes "branches") branch_words BranchFits same_branch 1 a.branches b.branches (lines_page a ++ p) (lines_page b ++ q) ha.branches hb.branches ha.branch_count hb.branch_count terms.1 in
    let lines = same_counted (codes "lines") line_words LineFits same_line 0 a.lines b.lines p q ha.lines hb.lines ha.line_count hb.line_count branches.1 in
    let e1 : a.terms ≡ b.terms = terms.0 in
    let e2 : a.branches ≡ b.branches = branches.0 in
    let e3 : a.lines ≡ b.lines = lines.0 in
    (ap (λ (x : List RawTerm). proof_of_parts x a.branches a.lines) e1 ∙ ap (λ (x : List Branch). proof_of_parts b.terms x a.lines) e2 ∙ ap (λ (x : List Line). proof_of_parts b.terms b.branches x) e3, lines.1)

second_is : (a b x y : List ℕ) (xs ys : List (List ℕ)) → a ∷ x ∷ xs ≡ b ∷ y ∷ ys → x ≡ y
second_is a b x y xs ys e = cc

same_block : (a b : Block) (p q : List (List (List ℕ))) → BlockFits a → BlockFits b → block_page a ++ p ≡ block_page b ++ q → (a ≡ b) × (p ≡ q)
same_block (Closed m a) (Closed n b) p q ha hb e =
    let title_a = codes "goal" ∷ m ∷ codes "closed" ∷ [] in
    let title_b = codes "goal" ∷ n ∷ codes "closed" ∷ [] in
    let name : m ≡ n = second_is (codes "goal") (codes "goal") m n (codes "closed" ∷ []) (codes "closed" ∷ []) (first_is title_a title_b (proof_page a ++ p) (proof_page b ++ q) e) in
    let proof = same_proof a b p q ha.1 hb.1 (rest_is title_a title_b (proof_page a ++ p) (proof_page b ++ q) e) in
    let e1 : a ≡ b = proof.0 in
    (cc, proof.1)
same_block (Closed m a) (Unexplored n) p q ha hb e =
    let title_a = codes "goal" ∷ m ∷ codes "closed" ∷ [] in
    let title_b = codes "goal" ∷ n ∷ codes "open" ∷ codes "unexplored" ∷ [] in
    let titles : title_a ≡ title_b = first_is title_a title_b (proof_page a ++ p) q e in
    absurd (cc titles)
same_block (Unexplored m) (Closed n b) p q ha hb e =
    let title_a = codes "goal" ∷ m ∷ codes "open" ∷ codes "unexplored" ∷ [] in
    let title_b = codes "goal" ∷ n ∷ codes "closed" ∷ [] in
    let titles : title_a ≡ title_b = first_is title_a title_b p (proof_page b ++ q) e in
    absurd (cc titles)
same_block (Unexplored m) (Unexplored n) p q ha hb e =
    let title_a = codes "goal" ∷ m ∷ codes "open" ∷ codes "unexplored" ∷ [] in
    let title_b = codes "goal" ∷ n ∷ codes "open" ∷ codes "unexplored" ∷ [] in
    let name : m ≡ n = second_is (codes "goal") (codes "goal") m n (codes "open" ∷ codes "unexplored" ∷ []) (codes "open" ∷ codes "unexplored" ∷ []) (first_is title_a title_b p q e) in
    (cc, rest_is title_a title_b p q e)

-- a block begins with another word than the end of a report does
abbrev begins : List (List (List ℕ)) → List ℕ
begins [] = []
begins (line ∷ page) = first_of line

begins-block : (block : Block) (page : List (List (List ℕ))) → begins (block_page block ++ page) ≡ codes "goal"
begins-block (Closed name proof) page = refl
begins-block (Unexplored name) page = refl

no_end : (block : Block) (page others : List (List (List ℕ))) (count : ℕ) → end_words count ∷ others ≡ block_page block ++ page → ⊥
no_end block page others count e =
    let words : codes "end" ≡ codes "goal" = ap begins e ∙ begins-block block page in
    absurd (cc words)

same_blocks : (lefts rights : List Block) (m n : ℕ) → AllByRecursion BlockFits lefts → AllByRecursion BlockFits rights
    → flat_map block_page lefts ++ end_words m ∷ [] ≡ flat_map block_page rights ++ end_words n ∷ [] → lefts ≡ rights
same_blocks [] [] m n ha hb e = refl
same_blocks [] (b ∷ rights) m n ha hb e =
    absurd (no_end b (flat_map block_page rights ++ end_words n ∷ []) [] m (e ∙ append_assoc (block_page b) (flat_map block_page rights) (end_words n ∷ [])))
same_blocks (a ∷ lefts) [] m n ha hb e =
    absurd (no_end a (flat_map block_page lefts ++ end_words m ∷ []) [] n (sym e ∙ append_assoc (block_page a) (flat_map block_page lefts) (end_words m ∷ [])))
same_blocks (a ∷ lefts) (b ∷ rights) m n ha hb e =
    let regrouped : block_page a ++ (flat_map block_page lefts ++ end_words m ∷ []) ≡ block_page b ++ (flat_map block_page rights ++ end_words n ∷ []) =
    sym (append_assoc (block_page a) (flat_map block_page lefts) (end_words m ∷ [])) ∙ e ∙ append_assoc (block_page b) (flat_map block_page rights) (end_words n ∷ []) in
    let one = same_block a b (flat_map block_page lefts ++ end_words m ∷ []) (flat_map block_page rights ++ end_words n ∷ []) ha.0 hb.0 regrouped in
    let more : lefts ≡ rights = same_blocks lefts rights m n ha.1 hb.1 one.1 in
    let first : a ≡ b = one.0 in
    cc

-- ---- reports

abbrev report_of_parts : List Block → Report
report_of_parts blocks = record { blocks = blocks }

same_page : (a b : Report) → ReportFits a → ReportFits b → report_page a ≡ report_page b → a ≡ b
same_page a b ha hb e =
    let inner_a = flat_map block_page a.blocks ++ end_words (length a.blocks) ∷ [] in
    let inner_b = flat_map block_page b.blocks ++ end_words (length b.blocks) ∷ [] in
    let inner : inner_a ≡ inner_b = rest_is header_words header_words inner_a inner_b e in
    let blocks : a.blocks ≡ b.blocks = same_blocks a.blocks b.blocks (length a.blocks) (length b.blocks)
    (recursion_from_All BlockFits a.blocks ha.blocks) (recursion_from_All BlockFits b.blocks hb.blocks) inner in
    ap (λ (x : List Block). report_of_parts x) blocks

-- at most one report stands for given bytes
pub one_report_of : (bytes : List ℕ) (a b : Report) → ReportOf bytes a → ReportOf bytes b → a ≡ b
one_report_of bytes a b ha hb =
    let page : report_page a ≡ report_page b =
    sym (page_of-spelled (report_page a) (report_solid a ha.0)) ∙ ap page_of (sym ha.1 ∙ hb.1) ∙ page_of-spelled (report_page b) (report_solid b hb.0) in
    same_page a b ha.0 hb.0 page
