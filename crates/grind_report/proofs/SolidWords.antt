-- The words of a report that fits hold no space and no line feed.
use Rattle.std.proofs.Common.{◌≡◌, ◌≢◌, ℕ, suc, ◌+◌, ◌<◌, ◌^◌, Bool, true, false, not, ◌&&◌, List, [], ◌∷◌, ◌++◌, length, map, All, decimal, ℤ, pos, negsuc, refl, sym, subst, arith}
use Rattle.std.specs.Prelude.{codes, nat_eq}
use Rattle.std.specs.Fmt.{signed_decimal}
use Rattle.std.specs.List.{AllByRecursion, flat_map}
use Rattle.std.specs.Char.{digit_value}
use Rattle.std.specs.Str.Parse.{AllDigits}
use Rattle.std.proofs.lemmas.Bool.{ne_eqb}
use Rattle.std.proofs.lemmas.Fmt.{decimal_is_IsNumeral, decimal_is_IsNumeral_wide}
use Rattle.std.proofs.lemmas.List.Elements.{recursion_from_All}
use Rattle.grind_schemes.specs.Labels.{IsLabel}
use Rattle.grind_linear_forms.specs.declared.form.Part.{Part}
use Rattle.grind_linear_forms.specs.Forms.{FormData}
use Rattle.grind_polynomials.specs.declared.poly.Term.{Term}
use Rattle.grind_claims.specs.declared.claim.Claim.{Claim}
use Rattle.grind_claims.specs.declared.claim.Claim.TheVariants as claims
use Rattle.grind_claims.specs.declared.proof.Branch.{Branch}
use Rattle.grind_claims.specs.declared.proof.Line.{Line}
use Rattle.grind_claims.specs.declared.proof.Rule.{Rule}
use Rattle.grind_claims.specs.declared.proof.Rule.TheVariants as rules_of
use Rattle.grind_report.specs.Report.{RawTerm, Block, Report, True, False, Const, Fun, Int, Not, And, Or, Implies, Eq, Le, Add, Neg, Mul, Closed, Unexplored, term_words, part_words, form_words, monomial_words, poly_words, rule_word, rule_details, rule_words, paired, factor_first, factor_behind, premise_words, claim_words, branch_words, line_words, indexed_lines, counted_lines, block_page, end_words, report_page, IsShort, IsWide, TermFits, PartFits, FormFits, MonomialFits, PolyFits, RuleFits, FactorsFit, ClaimFits, BranchFits, LineFits, BlockFits, ReportFits}
use Rattle.grind_report.proofs.RuleShapes.{Shape, plain, combined, gathered, shape}
use Rattle.grind_report.proofs.Spelling.{IsSolid, IsSolidLine}

-- ---- words that are written out

abbrev is_solid : List ℕ → Bool
is_solid [] = true
is_solid (b ∷ word) = not (nat_eq b 32) && (not (nat_eq b 10) && is_solid word)

both : (a b : Bool) → (a && b) ≡ true → (a ≡ true) × (b ≡ true)
both true b e = (refl, e)
both false b e = absurd cc

not_true : (a : Bool) → not a ≡ true → a ≡ false
not_true true e = absurd cc
not_true false e = refl

written : (word : List ℕ) → is_solid word ≡ true → IsSolid word
written [] e = tt
written (b ∷ word) e =
    let one = both (not (nat_eq b 32)) (not (nat_eq b 10) && is_solid word) e in
    let two = both (not (nat_eq b 10)) (is_solid word) one.1 in
    ((not_true (nat_eq b 32) one.0, not_true (nat_eq b 10) two.0), written word two.1)

-- ---- numbers and names

pub digit-ne : (c k : ℕ) → (digit_value c < 10) → (digit_value k < 10 → ⊥) → nat_eq c k ≡ false
digit-ne c k digit large = ne_eqb c k (λ (e : c ≡ k). large (let P : ℕ → Type 0 = λ x. digit_value x < 10 in subst P e digit))

digits_solid : (ds : List ℕ) → AllDigits 10 ds → IsSolid ds
digits_solid [] h = tt
digits_solid (c ∷ ds) h = ((digit-ne c 32 h.0 (λ x. omega (arith, x)), digit-ne c 10 h.0 (λ x. omega (arith, x))), digits_solid ds h.1)

decimal_solid : (n : ℕ) → n < 2 ^ 64 → IsSolid (decimal n)
decimal_solid n short = digits_solid (decimal n) (decimal_is_IsNumeral n short).0.1

short_solid : (n : ℕ) → IsShort n → IsSolid (decimal n)
short_solid n short = decimal_solid n (omega arith)

signed_solid : (z : ℤ) → IsWide z → IsSolid (signed_decimal z)
signed_solid (pos n) fits = let small = fits.sfits in digits_solid (decimal n) (decimal_is_IsNumeral_wide n (omega arith)).0.1
signed_solid (negsuc n) fits = let small = fits.sfits in ((refl, refl), digits_solid (decimal (suc n)) (decimal_is_IsNumeral_wide (suc n) (omega arith)).0.1)

bytes_solid : (bytes : List ℕ) → AllByRecursion (λ byte. (byte ≢ 32) × (byte ≢ 10)) bytes → IsSolid bytes
bytes_solid [] h = tt
bytes_solid (b ∷ bytes) h = ((ne_eqb b 32 h.0.0, ne_eqb b 10 h.0.1), bytes_solid bytes h.1)

name_solid : (name : List ℕ) → IsLabel name → IsSolid name
name_solid name label = bytes_solid name (recursion_from_All (λ byte. (byte ≢ 32) × (byte ≢ 10)) name label.solid)

numbers_solid : (ns : List ℕ) → AllByRecursion IsShort ns → AllByRecursion IsSolid (map decimal ns)
numbers_solid [] h = tt
numbers_solid (n ∷ ns) h = (short_solid n h.0, numbers_solid ns h.1)

all_both : {A : Type 0} (P : A → Type 0) (xs ys : List A) → AllByRecursion P xs → AllByRecursion P ys → AllByRecursion P (xs ++ ys)
all_both P [] ys hx hy = hy
all_both P (x ∷ xs) ys hx hy = (hx.0, all_both P xs ys hx.1 hy)

-- ---- linear forms, polynomials and factors

items_solid : {A : Type 0} (words : A → List (List ℕ)) (Fits : A → Type 0) (solid : (x : A) → Fits x → AllByRecursion IsSolid (words x))
    (items : List A) → AllByRecursion Fits items → AllByRecursion IsSolid (flat_map words items)
items_solid words Fits solid [] fits = tt
items_solid words Fits solid (x ∷ items) fits =
    all_both IsSolid (words x) (flat_map words items) (solid x fits.0) (items_solid words Fits solid items fits.1)

part_solid : (part : Part) → PartFits part → AllByRecursion IsSolid (part_words part)
part_solid part fits = (signed_solid part.coefficient fits.coefficient, (short_solid part.node fits.node, tt))

form_solid : (form : FormData) → FormFits form → AllByRecursion IsSolid (form_words form)
form_solid form fits =
    (signed_solid form.constant fits.constant, items_solid part_words PartFits part_solid form.parts (recursion_from_All PartFits form.parts fits.parts))

monomial_solid : (term : Term) → MonomialFits term → AllByRecursion IsSolid (monomial_words term)
monomial_solid term fits = (
  signed_solid term.coefficient fits.coefficient,
  (short_solid (length term.monomial) fits.degree, numbers_solid term.monomial (recursion_from_All IsShort term.monomial fits.nodes)),
)

poly_solid : (poly : List Term) → PolyFits poly → AllByRecursion IsSolid (poly_words poly)
poly_solid poly fits =
    (short_solid (length poly) fits.count, items_solid monomial_words MonomialFits monomial_solid poly (recursion_from_All MonomialFits poly fits.terms))

first_solid : (factor : ℤ) (premise : ℕ) → IsWide factor → IsShort premise → AllByRecursion IsSolid (factor_first factor premise)
first_solid factor premise wide short = (signed_solid factor wide, (short_solid premise short, tt))

behind_solid : (factor : List Term) (premise : ℕ) → PolyFits factor → IsShort premise → AllByRecursion IsSolid (factor_behind factor premise)
behind_solid factor premise fits short = (short_solid premise short, poly_solid factor fits)

paired_solid : {A : Type 0} (words : A → ℕ → List (List ℕ)) (Fits : A → Type 0) (solid : (x : A) (p : ℕ) → Fits x → IsShort p → AllByRecursion IsSolid (words x p))
    (items : List A) (ps : List ℕ) → AllByRecursion Fits items → AllByRecursion IsShort ps → AllByRecursion IsSolid (paired words items ps)
paired_solid words Fits solid [] ps fits short = tt
paired_solid words Fits solid (x ∷ items) [] fits short = tt
paired_solid words Fits solid (x ∷ items) (p ∷ ps) fits short =
    all_both IsSolid (words x p) (paired words items ps) (solid x p fits.0 short.0) (paired_solid words Fits solid items ps fits.1 short.1)

-- ---- lines

term_solid : (t : RawTerm) → TermFits t → AllByRecursion IsSolid (term_words t)
term_solid True fits = (written (codes "true") refl, tt)
term_solid False fits = (written (codes "false") refl, tt)
term_solid (Const name) fits = (written (codes "const") refl, (name_solid name fits, tt))
term_solid (Fun name args) fits =
    (written (codes "fun") refl, (name_solid name fits.0, numbers_solid args (recursion_from_All IsShort args fits.1)))
term_solid (Int value) fits = (written (codes "int") refl, (signed_solid value fits, tt))
term_solid (Not a) fits = (written (codes "not") refl, (short_solid a fits, tt))
term_solid (And a b) fits = (written (codes "and") refl, (short_solid a fits.0, (short_solid b fits.1, tt)))
term_solid (Or a b) fits = (written (codes "or") refl, (short_solid a fits.0, (short_solid b fits.1, tt)))
term_solid (Implies a b) fits = (written (codes "implies") refl, (short_solid a fits.0, (short_solid b fits.1, tt)))
term_solid (Eq a b) fits = (written (codes "eq") refl, (short_solid a fits.0, (short_solid b fits.1, tt)))
term_solid (Le a b) fits = (written (codes "le") refl, (short_solid a fits.0, (short_solid b fits.1, tt)))
term_solid (Add a b) fits = (written (codes "add") refl, (short_solid a fits.0, (short_solid b fits.1, tt)))
term_solid (Neg a) fits = (written (codes "neg") refl, (short_solid a fits, tt))
term_solid (Mul a b) fits = (written (codes "mul") refl, (short_solid a fits.0, (short_solid b fits.1, tt)))

-- the word of a rule, and the words after it
word_solid : (rule : Rule) → is_solid (rule_word rule) ≡ true
word_solid (rules_of.Hyp i) = refl
word_solid rule = refl

details_solid : (rule : Rule) → RuleFits rule → AllByRecursion IsSolid (rule_details rule)
details_solid (rules_of.Hyp i) fits = (short_solid i fits, tt)
details_solid (rules_of.Inst t ids) fits = (short_solid t fits.0, numbers_solid ids (recursion_from_All IsShort ids fits.1))
details_solid (rules_of.Table free) fits = (short_solid (length free) fits.0, numbers_solid free (recursion_from_All IsShort free fits.1))
details_solid (rules_of.Combine divisor factors) fits = (signed_solid divisor fits, tt)
details_solid (rules_of.Ideal divisor factors) fits = (signed_solid divisor fits, tt)
details_solid rule fits = tt

rule_solid : (rule : Rule) → RuleFits rule → AllByRecursion IsSolid (rule_words rule)
rule_solid rule fits = (written (rule_word rule) (word_solid rule), details_solid rule fits)

premise_solid : {rule : Rule} → Shape rule → (ps : List ℕ) → FactorsFit rule → AllByRecursion IsShort ps → AllByRecursion IsSolid (premise_words rule ps)
premise_solid (plain same kind_is words) ps fits short =
    subst (λ (ws : List (List ℕ)). AllByRecursion IsSolid ws) (sym (words ps)) (numbers_solid ps short)
premise_solid (combined divisor factors) ps fits short =
    paired_solid factor_first IsWide first_solid factors ps (recursion_from_All IsWide factors fits) short
premise_solid (gathered divisor factors) ps fits short =
    paired_solid factor_behind PolyFits behind_solid factors ps (recursion_from_All PolyFits factors fits) short

claim_solid : (claim : Claim) → ClaimFits claim → AllByRecursion IsSolid (claim_words claim)
claim_solid (claims.Holds n) fits = (written (codes "holds") refl, (short_solid n fits, tt))
claim_solid (claims.Fails n) fits = (written (codes "fails") refl, (short_solid n fits, tt))
claim_solid (claims.Same a b) fits = (written (codes "same") refl, (short_solid a fits.0, (short_solid b fits.1, tt)))
claim_solid (claims.Differ a b) fits = (written (codes "differ") refl, (short_solid a fits.0, (short_solid b fits.1, tt)))
claim_solid (claims.AtMost form) fits = (written (codes "atmost") refl, form_solid form fits)
claim_solid (claims.Zero poly) fits = (written (codes "zero") refl, poly_solid poly fits)
claim_solid claims.Absurd fits = (written (codes "absurd") refl, tt)

branch_solid : (branch : Branch) → BranchFits branch → AllByRecursion IsSolid (branch_words branch)
branch_solid branch fits =
    (short_solid branch.parent fits.parent, (short_solid branch.after fits.after, claim_solid branch.literal fits.literal))

line_solid : (line : Line) → LineFits line → AllByRecursion IsSolid (line_words line)
line_solid line fits = (
  short_solid line.branch fits.branch,
  all_both IsSolid (rule_words line.rule) (premise_words line.rule line.premises ++ codes ":" ∷ claim_words line.claim) (rule_solid line.rule fits.rule)
      (all_both IsSolid (premise_words line.rule line.premises) (codes ":" ∷ claim_words line.claim)
      (premise_solid (shape line.rule) line.premises fits.factors (recursion_from_All IsShort line.premises fits.premises))
      (written (codes ":") refl, claim_solid line.claim fits.claim)),
)

indexed_solid : {A : Type 0} (words : A → List (List ℕ)) (Fits : A → Type 0) (solid : (x : A) → Fits x → AllByRecursion IsSolid (words x))
    (index : ℕ) (items : List A) → index + length items < 2 ^ 33 → AllByRecursion Fits items → AllByRecursion IsSolidLine (indexed_lines words index items)
indexed_solid words Fits solid index [] low fits = tt
indexed_solid words Fits solid index (x ∷ items) low fits =
    let next : index + 1 + length items < 2 ^ 33 = omega arith in
    ((decimal_solid index (omega arith), solid x fits.0), indexed_solid words Fits solid (index + 1) items next fits.1)

counted_solid : {A : Type 0} (title : List ℕ) (words : A → List (List ℕ)) (Fits : A → Type 0) (solid : (x : A) → Fits x → AllByRecursion IsSolid (words x))
    (index : ℕ) (items : List A) → IsSolid title → index < 2 → IsShort (length items) → All Fits items → AllByRecursion IsSolidLine (counted_lines title words index items)
counted_solid title words Fits solid index items named small low fits =
    ((named, (short_solid (length items) low, tt)), indexed_solid words Fits solid index items (omega arith) (recursion_from_All Fits items fits))

-- ---- pages

block_solid : (block : Block) → BlockFits block → AllByRecursion IsSolidLine (block_page block)
block_solid (Closed name proof) fits =
    let branches = counted_lines (codes "branches") branch_words 1 proof.branches in
    let lines = counted_lines (codes "lines") line_words 0 proof.lines in (
      (written (codes "goal") refl, (name_solid name fits.0, (written (codes "closed") refl, tt))),
      all_both IsSolidLine (counted_lines (codes "terms") term_words 0 proof.terms) (branches ++ lines)
          (counted_solid (codes "terms") term_words TermFits term_solid 0 proof.terms (written (codes "terms") refl) (omega arith) fits.1.term_count fits.1.terms)
          (all_both IsSolidLine branches lines
          (counted_solid (codes "branches") branch_words BranchFits branch_solid 1 proof.branches (written (codes "branches") refl) (omega arith) fits.1.branch_count fits.1.branches)
          (counted_solid (codes "lines") line_words LineFits line_solid 0 proof.lines (written (codes "lines") refl) (omega arith) fits.1.line_count fits.1.lines)),
    )
block_solid (Unexplored name) fits =
    ((written (codes "goal") refl, (name_solid name fits, (written (codes "open") refl, (written (codes "unexplored") refl, tt)))), tt)

blocks_solid : (blocks : List Block) → AllByRecursion BlockFits blocks → AllByRecursion IsSolidLine (flat_map block_page blocks)
blocks_solid [] fits = tt
blocks_solid (block ∷ blocks) fits = all_both IsSolidLine (block_page block) (flat_map block_page blocks) (block_solid block fits.0) (blocks_solid blocks fits.1)

pub report_solid : (report : Report) → ReportFits report → AllByRecursion IsSolidLine (report_page report)
report_solid report fits = (
  (written (codes "grind") refl, (written (codes "report") refl, (written (codes "1") refl, tt))),
  all_both IsSolidLine (flat_map block_page report.blocks) (end_words (length report.blocks) ∷ [])
      (blocks_solid report.blocks (recursion_from_All BlockFits report.blocks fits.blocks))
      ((written (codes "end") refl, (short_solid (length report.blocks) fits.block_count, tt)), tt),
)
