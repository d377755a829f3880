-- What a report is: its lines of words, and the bytes that spell them.
use Rattle.std.specs.Prelude.{◌≡◌, ℕ, ◌+◌, ◌<◌, ◌^◌, List, [], ◌∷◌, ◌++◌, length, map, flat_map, All, codes, decimal, ℤ, FitsSigned}
use Rattle.std.specs.Fmt.{signed_decimal}
use Rattle.std.specs.Int.{w128}
use Rattle.grind_schemes.specs.Labels.{IsLabel}
use Rattle.grind_linear_forms.specs.declared.form.Part.{Part}
use Rattle.grind_linear_forms.specs.Forms.{FormData, IsForm}
use Rattle.grind_polynomials.specs.declared.poly.Term.{Term}
use Rattle.grind_polynomials.specs.Polynomials.{IsPoly}
use Rattle.grind_claims.specs.declared.claim.Claim.{Claim}
use Rattle.grind_claims.specs.declared.claim.Claim.TheVariants as claims
use Rattle.grind_claims.specs.declared.proof.Branch.{Branch}
use Rattle.grind_claims.specs.declared.proof.Line.{Line}
use Rattle.grind_claims.specs.declared.proof.Rule.{Rule}
use Rattle.grind_claims.specs.declared.proof.Rule.TheVariants as rules
use Rattle.grind_rules.specs.Laws.{IsPremiseCount}

-- a term as a report names it: by the names of constants and functions, by whole numbers, and by the indices of terms before it
pub data RawTerm : Type 0 where
  True : RawTerm
  False : RawTerm
  Const : List ℕ → RawTerm
  Fun : List ℕ → List ℕ → RawTerm
  Int : ℤ → RawTerm
  Not : ℕ → RawTerm
  And : ℕ → ℕ → RawTerm
  Or : ℕ → ℕ → RawTerm
  Implies : ℕ → ℕ → RawTerm
  Eq : ℕ → ℕ → RawTerm
  Le : ℕ → ℕ → RawTerm
  Add : ℕ → ℕ → RawTerm
  Neg : ℕ → RawTerm
  Mul : ℕ → ℕ → RawTerm

-- a proof as a report gives it
pub record RawProof : Type 0 where
  pub terms : List RawTerm
  pub branches : List Branch
  pub lines : List Line

-- what a report says of a goal of this name: a proof, or that nobody looked for one
pub data Block : Type 0 where
  Closed : List ℕ → RawProof → Block
  Unexplored : List ℕ → Block

-- a report: a block for each goal, in order
pub record Report : Type 0 where
  pub blocks : List Block

-- the word that a term begins with
abbrev pub term_word : RawTerm → List ℕ
term_word True = codes "true"
term_word False = codes "false"
term_word (Const name) = codes "const"
term_word (Fun name args) = codes "fun"
term_word (Int value) = codes "int"
term_word (Not a) = codes "not"
term_word (And a b) = codes "and"
term_word (Or a b) = codes "or"
term_word (Implies a b) = codes "implies"
term_word (Eq a b) = codes "eq"
term_word (Le a b) = codes "le"
term_word (Add a b) = codes "add"
term_word (Neg a) = codes "neg"
term_word (Mul a b) = codes "mul"

-- the words after it
abbrev pub term_details : RawTerm → List (List ℕ)
term_details True = []
term_details False = []
term_details (Const name) = name ∷ []
term_details (Fun name args) = name ∷ map decimal args
term_details (Int value) = signed_decimal value ∷ []
term_details (Not a) = decimal a ∷ []
term_details (And a b) = decimal a ∷ decimal b ∷ []
term_details (Or a b) = decimal a ∷ decimal b ∷ []
term_details (Implies a b) = decimal a ∷ decimal b ∷ []
term_details (Eq a b) = decimal a ∷ decimal b ∷ []
term_details (Le a b) = decimal a ∷ decimal b ∷ []
term_details (Add a b) = decimal a ∷ decimal b ∷ []
term_details (Neg a) = decimal a ∷ []
term_details (Mul a b) = decimal a ∷ decimal b ∷ []

-- the words of a term
abbrev pub term_words : RawTerm → List (List ℕ)
term_words term = term_word term ∷ term_details term

-- the words of a node with its coefficient
abbrev pub part_words : Part → List (List ℕ)
part_words part = signed_decimal part.coefficient ∷ decimal part.node ∷ []

-- the words of a linear form: its constant, and then each node after its coefficient
abbrev pub form_words : FormData → List (List ℕ)
form_words form = signed_decimal form.constant ∷ flat_map part_words form.parts

-- the words of a monomial with its coefficient: the coefficient, the degree, and the nodes
abbrev pub monomial_words : Term → List (List ℕ)
monomial_words term = signed_decimal term.coefficient ∷ decimal (length term.monomial) ∷ map decimal term.monomial

-- the words of a polynomial: how many monomials it has, and then each with its coefficient
abbrev pub poly_words : List Term → List (List ℕ)
poly_words poly = decimal (length poly) ∷ flat_map monomial_words poly

-- the word that a rule begins with
abbrev pub rule_word : Rule → List ℕ
rule_word (rules.Hyp i) = codes "hyp"
rule_word rules.Negated = codes "negated"
rule_word (rules.Inst t subst) = codes "inst"
rule_word rules.Branch = codes "branch"
rule_word rules.Refl = codes "refl"
rule_word rules.Sym = codes "sym"
rule_word rules.Trans = codes "trans"
rule_word rules.Cong = codes "cong"
rule_word rules.Eq = codes "eq"
rule_word rules.Back = codes "back"
rule_word rules.Truth = codes "truth"
rule_word rules.Untruth = codes "untruth"
rule_word (rules.Table free) = codes "table"
rule_word rules.Read = codes "read"
rule_word rules.Write = codes "write"
rule_word rules.Line = codes "line"
rule_word rules.Poly = codes "poly"
rule_word (rules.Combine divisor factors) = codes "combine"
rule_word rules.Pinch = codes "pinch"
rule_word rules.Strict = codes "strict"
rule_word rules.Apart = codes "apart"
rule_word (rules.Ideal divisor factors) = codes "ideal"
rule_word rules.Equal = codes "equal"
rule_word rules.Clash = codes "clash"

-- the words after it, before the premises: `table` counts the free nodes, and lists them; `inst` lists its nodes up to the
-- colon, since it has no premise; the factors of `combine` and `ideal` stand among the premises
abbrev pub rule_details : Rule → List (List ℕ)
rule_details (rules.Hyp i) = decimal i ∷ []
rule_details (rules.Inst t subst) = decimal t ∷ map decimal subst
rule_details (rules.Table free) = decimal (length free) ∷ map decimal free
rule_details (rules.Combine divisor factors) = signed_decimal divisor ∷ []
rule_details (rules.Ideal divisor factors) = signed_decimal divisor ∷ []
rule_details rule = []

-- the words of a rule, before its premises
abbrev pub rule_words : Rule → List (List ℕ)
rule_words rule = rule_word rule ∷ rule_details rule

-- the words of factors and of the premises that they belong to
abbrev pub paired : {A : Type 0} → (A → ℕ → List (List ℕ)) → List A → List ℕ → List (List ℕ)
paired words [] premises = []
paired words (factor ∷ factors) [] = []
paired words (factor ∷ factors) (premise ∷ premises) = words factor premise ++ paired words factors premises

-- a number stands before the premise that it belongs to
abbrev pub factor_first : ℤ → ℕ → List (List ℕ)
factor_first factor premise = signed_decimal factor ∷ decimal premise ∷ []

-- a polynomial stands after the premise that it belongs to
abbrev pub factor_behind : List Term → ℕ → List (List ℕ)
factor_behind factor premise = decimal premise ∷ poly_words factor

-- the words of a rule's premises, with their factors if the rule has such
abbrev pub premise_words : Rule → List ℕ → List (List ℕ)
premise_words (rules.Combine divisor factors) premises = paired factor_first factors premises
premise_words (rules.Ideal divisor factors) premises = paired factor_behind factors premises
premise_words rule premises = map decimal premises

-- the words of a claim
abbrev pub claim_words : Claim → List (List ℕ)
claim_words (claims.Holds n) = codes "holds" ∷ decimal n ∷ []
claim_words (claims.Fails n) = codes "fails" ∷ decimal n ∷ []
claim_words (claims.Same a b) = codes "same" ∷ decimal a ∷ decimal b ∷ []
claim_words (claims.Differ a b) = codes "differ" ∷ decimal a ∷ decimal b ∷ []
claim_words (claims.AtMost form) = codes "atmost" ∷ form_words form
claim_words (claims.Zero poly) = codes "zero" ∷ poly_words poly
claim_words claims.Absurd = codes "absurd" ∷ []

-- the words of a branch: its parent, the first line that may stand in it, and what it assumes
abbrev pub branch_words : Branch → List (List ℕ)
branch_words branch = decimal branch.parent ∷ decimal branch.after ∷ claim_words branch.literal

-- the words of a line of a proof: its branch, its rule with the premises, and its claim after a colon
abbrev pub line_words : Line → List (List ℕ)
line_words line =
    (decimal line.branch ∷ rule_words line.rule) ++ (premise_words line.rule line.premises ++ codes ":" ∷ claim_words line.claim)

-- the items' lines, each after its index, from this index on
abbrev pub indexed_lines : {A : Type 0} → (A → List (List ℕ)) → ℕ → List A → List (List (List ℕ))
indexed_lines words index [] = []
indexed_lines words index (item ∷ items) = (decimal index ∷ words item) ∷ indexed_lines words (index + 1) items

-- how many items there are, and then a line for each, with indices from this one on
abbrev pub counted_lines : {A : Type 0} → List ℕ → (A → List (List ℕ)) → ℕ → List A → List (List (List ℕ))
counted_lines title words index items = (title ∷ decimal (length items) ∷ []) ∷ indexed_lines words index items

-- the lines of a block. The root is not listed, and so branches count from 1
abbrev pub block_page : Block → List (List (List ℕ))
block_page (Closed name proof) =
    (codes "goal" ∷ name ∷ codes "closed" ∷ []) ∷ (counted_lines (codes "terms") term_words 0 proof.terms
    ++ (counted_lines (codes "branches") branch_words 1 proof.branches
    ++ counted_lines (codes "lines") line_words 0 proof.lines))
block_page (Unexplored name) = (codes "goal" ∷ name ∷ codes "open" ∷ codes "unexplored" ∷ []) ∷ []

-- the first line of a report
abbrev pub header_words : List (List ℕ)
header_words = codes "grind" ∷ codes "report" ∷ codes "1" ∷ []

-- the last line of a report of so many blocks
abbrev pub end_words : ℕ → List (List ℕ)
end_words count = codes "end" ∷ decimal count ∷ []

-- the lines of a report
abbrev pub report_page : Report → List (List (List ℕ))
report_page report = header_words ∷ (flat_map block_page report.blocks ++ end_words (length report.blocks) ∷ [])

-- each word after a space
abbrev pub spaced : List (List ℕ) → List ℕ
spaced words = flat_map (λ (word : List ℕ). 32 ∷ word) words

-- the bytes of a line: its words with a space between two, and a line feed at the end
abbrev pub line_bytes : List (List ℕ) → List ℕ
line_bytes [] = 10 ∷ []
line_bytes (word ∷ words) = word ++ (spaced words ++ 10 ∷ [])

-- the bytes of lines
abbrev pub spelled : List (List (List ℕ)) → List ℕ
spelled page = flat_map line_bytes page

-- a number that a report may hold
abbrev pub IsShort : ℕ → Type 0
IsShort n = n < 2 ^ 32

-- a term that can be spelled: its name is one, its indices are short, and its whole number has at most 128 bits
abbrev pub TermFits : RawTerm → Type 0
TermFits True = Unit {0}
TermFits False = Unit {0}
TermFits (Const name) = IsLabel name
TermFits (Fun name args) = IsLabel name × All IsShort args
TermFits (Int value) = FitsSigned w128 value
TermFits (Not a) = IsShort a
TermFits (And a b) = IsShort a × IsShort b
TermFits (Or a b) = IsShort a × IsShort b
TermFits (Implies a b) = IsShort a × IsShort b
TermFits (Eq a b) = IsShort a × IsShort b
TermFits (Le a b) = IsShort a × IsShort b
TermFits (Add a b) = IsShort a × IsShort b
TermFits (Neg a) = IsShort a
TermFits (Mul a b) = IsShort a × IsShort b

-- a number of at most 128 bits
abbrev pub IsWide : ℤ → Type 0
IsWide z = FitsSigned w128 z

-- a node with its coefficient that can be spelled
pub record PartFits (part : Part) : Type 0 where
  pub coefficient : IsWide part.coefficient
  pub node : IsShort part.node

-- a linear form that can be spelled
pub record FormFits (form : FormData) : Type 0 where
  pub constant : IsWide form.constant
  pub parts : All PartFits form.parts
  pub rises : IsForm form

-- a monomial with its coefficient that can be spelled
pub record MonomialFits (term : Term) : Type 0 where
  pub coefficient : IsWide term.coefficient
  pub degree : IsShort (length term.monomial)
  pub nodes : All IsShort term.monomial

-- a polynomial that can be spelled
pub record PolyFits (poly : List Term) : Type 0 where
  pub count : IsShort (length poly)
  pub terms : All MonomialFits poly
  pub falls : IsPoly poly

-- a rule that can be spelled: its numbers are short, and its divisor has at most 128 bits
abbrev pub RuleFits : Rule → Type 0
RuleFits (rules.Hyp i) = IsShort i
RuleFits (rules.Inst t subst) = IsShort t × All IsShort subst
RuleFits (rules.Table free) = IsShort (length free) × All IsShort free
RuleFits (rules.Combine divisor factors) = IsWide divisor
RuleFits (rules.Ideal divisor factors) = IsWide divisor
RuleFits rule = Unit {0}

-- and so can its factors, if it has such
abbrev pub FactorsFit : Rule → Type 0
FactorsFit (rules.Combine divisor factors) = All IsWide factors
FactorsFit (rules.Ideal divisor factors) = All PolyFits factors
FactorsFit rule = Unit {0}

-- a rule is printed with as many premises as it asks for, and `cong` with any number
abbrev pub TakesPremises : Rule → ℕ → Type 0
TakesPremises rules.Cong count = Unit {0}
TakesPremises rule count = IsPremiseCount rule count

-- a claim that can be spelled
abbrev pub ClaimFits : Claim → Type 0
ClaimFits (claims.Holds n) = IsShort n
ClaimFits (claims.Fails n) = IsShort n
ClaimFits (claims.Same a b) = IsShort a × IsShort b
ClaimFits (claims.Differ a b) = IsShort a × IsShort b
ClaimFits (claims.AtMost form) = FormFits form
ClaimFits (claims.Zero poly) = PolyFits poly
ClaimFits claims.Absurd = Unit {0}

-- a branch that can be spelled
pub record BranchFits (branch : Branch) : Type 0 where
  pub parent : IsShort branch.parent
  pub after : IsShort branch.after
  pub literal : ClaimFits branch.literal

-- a line of a proof that can be spelled
pub record LineFits (line : Line) : Type 0 where
  pub branch : IsShort line.branch
  pub rule : RuleFits line.rule
  pub factors : FactorsFit line.rule
  pub count : TakesPremises line.rule (length line.premises)
  pub premises : All IsShort line.premises
  pub claim : ClaimFits line.claim

-- a proof that can be spelled
pub record ProofFits (proof : RawProof) : Type 0 where
  pub terms : All TermFits proof.terms
  pub branches : All BranchFits proof.branches
  pub lines : All LineFits proof.lines
  pub term_count : IsShort (length proof.terms)
  pub branch_count : IsShort (length proof.branches)
  pub line_count : IsShort (length proof.lines)

-- a block that can be spelled
abbrev pub BlockFits : Block → Type 0
BlockFits (Closed name proof) = IsLabel name × ProofFits proof
BlockFits (Unexplored name) = IsLabel name

-- a report that can be spelled
pub record ReportFits (report : Report) : Type 0 where
  pub blocks : All BlockFits report.blocks
  pub block_count : IsShort (length report.blocks)

-- the bytes are those of this report
abbrev pub ReportOf : List ℕ → Report → Type 0
ReportOf bytes report = ReportFits report × (bytes ≡ spelled (report_page report))

-- the bytes of the first line
abbrev pub header_bytes : List ℕ
header_bytes = line_bytes header_words

-- the bytes of a block
abbrev pub block_bytes : Block → List ℕ
block_bytes block = spelled (block_page block)

-- the bytes of the last line of a report of so many blocks
abbrev pub end_bytes : ℕ → List ℕ
end_bytes count = line_bytes (end_words count)
