-- Each declared node of a table has a term, and the term stands for it.
use Rattle.std.proofs.Common.{◌≡◌, ℕ, List, [], ◌∷◌, ◌++◌, length, map, slice_get, slice_index, Option, Some, All, refl, ap, ◌∙◌, arith}
use Rattle.std.specs.Prelude.{unwrap_or}
use Rattle.std.specs.Option.{option_map}
use Rattle.std.specs.List.{AllZip, AllByRecursion}
use Rattle.std.proofs.lemmas.Option.{slice_get_within}
use Rattle.std.proofs.lemmas.List.{length-map}
use Rattle.std.proofs.lemmas.List.Elements.{All-from_recursion, recursion_from_All, All-map}
use Rattle.grind_term_graph.specs.declared.head.Head.{Head}
use Rattle.grind_term_graph.specs.declared.head.Head.TheVariants as heads
use Rattle.grind_term_graph.specs.declared.node.Node.{Node}
use Rattle.grind_term_graph.specs.Terms.{prop, int, sort_at}
use Rattle.grind_term_graph.specs.Shape.{AreTwoAlike, IsShaped, IsTable}
use Rattle.grind_schemes.specs.declared.goal.Constant.{Constant}
use Rattle.grind_schemes.specs.Goals.{GoalData}
use Rattle.grind_schemes.specs.Labels.{IsLabel}
use Rattle.grind_claims.specs.declared.proof.Proof.{Proof}
use Rattle.grind_signature.specs.Signatures.{Function, SignatureData, IsDeclaredAs, IsDeclared}
use Rattle.grind_report.specs.Report.{Closed, TermFits, BranchFits, LineFits, IsShort, BlockFits}
use Rattle.grind_report.specs.Naming.{constant_name, function_name, term_of_head, term_of, HeadNamed, HasTerm, raw_of}
use Rattle.grind_report.specs.Blocks.{node_of, NamesNode, ProofOf, IsPrintable}

same_node : (head : Head) (s t : ℕ) (as' bs : List ℕ) → s ≡ t → as' ≡ bs → node_of head s as' ≡ node_of head t bs
same_node head s t as' bs e1 e2 = ap (λ (x : ℕ). node_of head x as') e1 ∙ ap (λ (x : List ℕ). node_of head t x) e2

-- no arguments, by their sorts
no_args : (f : ℕ → Option ℕ) (args : List ℕ) → map f args ≡ [] → args ≡ []
no_args f [] e = refl
no_args f (a ∷ args) e = absurd cc

-- one argument, by its sort
one_is : (f : ℕ → Option ℕ) (args : List ℕ) (s : Option ℕ) → map f args ≡ s ∷ [] → args ≡ slice_index args 0 ∷ []
one_is f [] s e = absurd cc
one_is f (a ∷ []) s e = refl
one_is f (a ∷ b ∷ args) s e = absurd cc

-- two arguments, by their sorts
two_are : (f : ℕ → Option ℕ) (args : List ℕ) (s t : Option ℕ) → map f args ≡ s ∷ t ∷ [] → args ≡ slice_index args 0 ∷ slice_index args 1 ∷ []
two_are f [] s t e = absurd cc
two_are f (a ∷ []) s t e = absurd cc
two_are f (a ∷ b ∷ []) s t e = refl
two_are f (a ∷ b ∷ c ∷ args) s t e = absurd cc

-- two arguments of one sort
pair_is : (f : ℕ → Option ℕ) (args : List ℕ) → AreTwoAlike (map f args) → args ≡ slice_index args 0 ∷ slice_index args 1 ∷ []
pair_is f [] h = absurd h
pair_is f (a ∷ []) h = absurd h
pair_is f (a ∷ b ∷ []) h = refl
pair_is f (a ∷ b ∷ c ∷ args) h = absurd h

-- a declared node has a term
has_head : (signature : SignatureData) (constants : List Constant) (nodes before : List Node) (head : Head) (sort : ℕ) (args : List ℕ)
    → IsShaped head sort (map (sort_at before) args) → IsDeclaredAs signature constants nodes (node_of head sort args) head → HeadNamed signature constants args head
has_head signature constants nodes before heads.True sort args shape declared = ap length (no_args (sort_at before) args shape.1)
has_head signature constants nodes before heads.False sort args shape declared = ap length (no_args (sort_at before) args shape.1)
has_head signature constants nodes before heads.Not sort args shape declared = ap length (one_is (sort_at before) args (Some prop) shape.1)
has_head signature constants nodes before heads.And sort args shape declared = ap length (two_are (sort_at before) args (Some prop) (Some prop) shape.1)
has_head signature constants nodes before heads.Or sort args shape declared = ap length (two_are (sort_at before) args (Some prop) (Some prop) shape.1)
has_head signature constants nodes before heads.Implies sort args shape declared = ap length (two_are (sort_at before) args (Some prop) (Some prop) shape.1)
has_head signature constants nodes before heads.Eq sort args shape declared = ap length (pair_is (sort_at before) args shape.1)
has_head signature constants nodes before heads.Le sort args shape declared = ap length (two_are (sort_at before) args (Some int) (Some int) shape.1)
has_head signature constants nodes before (heads.Int n) sort args shape declared = ap length (no_args (sort_at before) args shape.1)
has_head signature constants nodes before heads.Add sort args shape declared = ap length (two_are (sort_at before) args (Some int) (Some int) shape.1)
has_head signature constants nodes before heads.Neg sort args shape declared = ap length (one_is (sort_at before) args (Some int) shape.1)
has_head signature constants nodes before heads.Mul sort args shape declared = ap length (two_are (sort_at before) args (Some int) (Some int) shape.1)
has_head signature constants nodes before (heads.Fun number) sort args shape declared =
    slice_get_within signature.functions number declared.0 declared.1
has_head signature constants nodes before (heads.Const number) sort args shape declared =
    slice_get_within constants number declared.0 declared.1

constant_name_is : (constants : List Constant) (number : ℕ) (constant : Constant) → slice_get constants number ≡ Some constant → constant_name constants number ≡ constant.name
constant_name_is constants number constant e = ap (λ (o : Option Constant). unwrap_or (option_map (λ (c : Constant). c.name) o) []) e

pub function_name_is : (signature : SignatureData) (number : ℕ) (function : Function) → slice_get signature.functions number ≡ Some function → function_name signature number ≡ function.name
function_name_is signature number function e = ap (λ (o : Option Function). unwrap_or (option_map (λ (f : Function). f.name) o) []) e

-- and the term stands for the node
stands_for_head : (signature : SignatureData) (constants : List Constant) (nodes before : List Node) (head : Head) (sort : ℕ) (args : List ℕ)
    → IsShaped head sort (map (sort_at before) args) → IsDeclaredAs signature constants nodes (node_of head sort args) head
    → NamesNode signature constants nodes (term_of_head signature constants args head) (node_of head sort args)
stands_for_head signature constants nodes before heads.True sort args shape declared =
    same_node heads.True sort prop args [] shape.0 (no_args (sort_at before) args shape.1)
stands_for_head signature constants nodes before heads.False sort args shape declared =
    same_node heads.False sort prop args [] shape.0 (no_args (sort_at before) args shape.1)
stands_for_head signature constants nodes before heads.Not sort args shape declared =
    same_node heads.Not sort prop args (slice_index args 0 ∷ []) shape.0 (one_is (sort_at before) args (Some prop) shape.1)
stands_for_head signature constants nodes before heads.And sort args shape declared =
    same_node heads.And sort prop args (slice_index args 0 ∷ slice_index args 1 ∷ []) shape.0 (two_are (sort_at before) args (Some prop) (Some prop) shape.1)
stands_for_head signature constants nodes before heads.Or sort args shape declared =
    same_node heads.Or sort prop args (slice_index args 0 ∷ slice_index args 1 ∷ []) shape.0 (two_are (sort_at before) args (Some prop) (Some prop) shape.1)
stands_for_head signature constants nodes before heads.Implies sort args shape declared =
    same_node heads.Implies sort prop args (slice_index args 0 ∷ slice_index args 1 ∷ []) shape.0 (two_are (sort_at before) args (Some prop) (Some prop) shape.1)
stands_for_head signature constants nodes before heads.Eq sort args shape declared =
    same_node heads.Eq sort prop args (slice_index args 0 ∷ slice_index args 1 ∷ []) shape.0 (pair_is (sort_at before) args shape.1)
stands_for_head signature constants nodes before heads.Le sort args shape declared =
    same_node heads.Le sort prop args (slice_index args 0 ∷ slice_index args 1 ∷ []) shape.0 (two_are (sort_at before) args (Some int) (Some int) shape.1)
stands_for_head signature constants nodes before (heads.Int n) sort args shape declared =
    same_node (heads.Int n) sort int args [] shape.0 (no_args (sort_at before) args shape.1)
stands_for_head signature constants nodes before heads.Add sort args shape declared =
    same_node heads.Add sort int args (slice_index args 0 ∷ slice_index args 1 ∷ []) shape.0 (two_are (sort_at before) args (Some int) (Some int) shape.1)
stands_for_head signature constants nodes before heads.Neg sort args shape declared =
    same_node heads.Neg sort int args (slice_index args 0 ∷ []) shape.0 (one_is (sort_at before) args (Some int) shape.1)
stands_for_head signature constants nodes before heads.Mul sort args shape declared =
    same_node heads.Mul sort int args (slice_index args 0 ∷ slice_index args 1 ∷ []) shape.0 (two_are (sort_at before) args (Some int) (Some int) shape.1)
stands_for_head signature constants nodes before (heads.Fun number) sort args shape declared = (
  number,
  declared.0,
  declared.1,
  function_name_is signature number declared.0 declared.1,
  declared.3,
  same_node (heads.Fun number) sort declared.0.result args args declared.2 refl,
)
stands_for_head signature constants nodes before (heads.Const number) sort args shape declared = (
  number,
  declared.0,
  declared.1,
  constant_name_is constants number declared.0 declared.1,
  same_node (heads.Const number) sort declared.0.sort args [] declared.2 (no_args (sort_at before) args shape),
)

-- ---- tables

have_terms : (signature : SignatureData) (constants : List Constant) (nodes before rest : List Node) → IsTable before rest
    → AllByRecursion (IsDeclared signature constants nodes) rest → AllByRecursion (HasTerm signature constants) rest
have_terms signature constants nodes before [] table declared = tt
have_terms signature constants nodes before (node ∷ rest) table declared = (
  has_head signature constants nodes before node.head node.sort node.args table.0.1 declared.0,
  have_terms signature constants nodes (before ++ node ∷ []) rest table.2 declared.1,
)

-- each node of a table of declared nodes has a term
pub all_have_terms : (signature : SignatureData) (constants : List Constant) (nodes : List Node) → IsTable [] nodes
    → All (IsDeclared signature constants nodes) nodes → All (HasTerm signature constants) nodes
all_have_terms signature constants nodes table declared =
    All-from_recursion (HasTerm signature constants) nodes
    (have_terms signature constants nodes [] nodes table (recursion_from_All (IsDeclared signature constants nodes) nodes declared))

all_stand : (signature : SignatureData) (constants : List Constant) (nodes before rest : List Node) → IsTable before rest
    → AllByRecursion (IsDeclared signature constants nodes) rest → AllZip (NamesNode signature constants nodes) (map (term_of signature constants) rest) rest
all_stand signature constants nodes before [] table declared = tt
all_stand signature constants nodes before (node ∷ rest) table declared = (
  stands_for_head signature constants nodes before node.head node.sort node.args table.0.1 declared.0,
  all_stand signature constants nodes (before ++ node ∷ []) rest table.2 declared.1,
)

-- ---- the block that is printed

pub raw_proof_of : (signature : SignatureData) (goal : GoalData) (proof : Proof) → IsPrintable signature goal proof → IsTable [] proof.terms.nodes
    → ProofOf signature goal (raw_of signature goal.constants proof) proof
raw_proof_of signature goal proof printable table = record {
  terms = all_stand signature goal.constants proof.terms.nodes [] proof.terms.nodes table
      (recursion_from_All (IsDeclared signature goal.constants proof.terms.nodes) proof.terms.nodes printable.declared);
  table = table;
  front = printable.front;
  limit = printable.limit;
  branches = refl;
  lines = refl;
}

-- the printed block fits
pub closed_fits : (signature : SignatureData) (constants : List Constant) (name : List ℕ) (proof : Proof) → IsLabel name
    → All (λ (node : Node). TermFits (term_of signature constants node)) proof.terms.nodes → All BranchFits proof.branches → All LineFits proof.lines
    → IsShort (length proof.terms.nodes) → IsShort (length proof.branches) → IsShort (length proof.lines) → BlockFits (Closed name (raw_of signature constants proof))
closed_fits signature constants name proof label terms branches lines few_terms few_branches few_lines = (
  label,
  record {
    terms = All-map TermFits (term_of signature constants) proof.terms.nodes terms;
    branches = branches;
    lines = lines;
    term_count = omega (arith, few_terms, length-map proof.terms.nodes (term_of signature constants));
    branch_count = few_branches;
    line_count = few_lines;
  },
)
