-- The term that is printed for a node.
use Rattle.std.specs.Prelude.{◌≡◌, ℕ, ◌<◌, List, [], length, map, slice_get, slice_index, unwrap_or}
use Rattle.std.specs.Option.{option_map}
use Rattle.grind_term_graph.specs.declared.head.Head.{Head}
use Rattle.grind_term_graph.specs.declared.head.Head.TheVariants as heads
use Rattle.grind_term_graph.specs.declared.node.Node.{Node}
use Rattle.grind_schemes.specs.declared.goal.Constant.{Constant}
use Rattle.grind_signature.specs.Signatures.{Function, SignatureData}
use Rattle.grind_claims.specs.declared.proof.Proof.{Proof}
use Rattle.grind_report.specs.Report.{RawTerm, RawProof, True, False, Const, Fun, Int, Not, And, Or, Implies, Eq, Le, Add, Neg, Mul, term_words}

-- the name of the constant of that number
abbrev pub constant_name : List Constant → ℕ → List ℕ
constant_name constants number = unwrap_or (option_map (λ (constant : Constant). constant.name) (slice_get constants number)) []

-- the name of the function of that number
abbrev pub function_name : SignatureData → ℕ → List ℕ
function_name signature number = unwrap_or (option_map (λ (function : Function). function.name) (slice_get signature.functions number)) []

-- the term of a head with these arguments
abbrev pub term_of_head : SignatureData → List Constant → List ℕ → Head → RawTerm
term_of_head signature constants args heads.True = True
term_of_head signature constants args heads.False = False
term_of_head signature constants args heads.Not = Not (slice_index args 0)
term_of_head signature constants args heads.And = And (slice_index args 0) (slice_index args 1)
term_of_head signature constants args heads.Or = Or (slice_index args 0) (slice_index args 1)
term_of_head signature constants args heads.Implies = Implies (slice_index args 0) (slice_index args 1)
term_of_head signature constants args heads.Eq = Eq (slice_index args 0) (slice_index args 1)
term_of_head signature constants args heads.Le = Le (slice_index args 0) (slice_index args 1)
term_of_head signature constants args (heads.Int value) = Int value
term_of_head signature constants args heads.Add = Add (slice_index args 0) (slice_index args 1)
term_of_head signature constants args heads.Neg = Neg (slice_index args 0)
term_of_head signature constants args heads.Mul = Mul (slice_index args 0) (slice_index args 1)
term_of_head signature constants args (heads.Fun number) = Fun (function_name signature number) args
term_of_head signature constants args (heads.Const number) = Const (constant_name constants number)

-- the term that is printed for a node
abbrev pub term_of : SignatureData → List Constant → Node → RawTerm
term_of signature constants node = term_of_head signature constants node.args node.head

-- a node of this head has a term: its constant or function is there, and other heads have as many arguments as they ask for
abbrev pub HeadNamed : SignatureData → List Constant → List ℕ → Head → Type 0
HeadNamed signature constants args heads.True = length args ≡ 0
HeadNamed signature constants args heads.False = length args ≡ 0
HeadNamed signature constants args heads.Not = length args ≡ 1
HeadNamed signature constants args heads.And = length args ≡ 2
HeadNamed signature constants args heads.Or = length args ≡ 2
HeadNamed signature constants args heads.Implies = length args ≡ 2
HeadNamed signature constants args heads.Eq = length args ≡ 2
HeadNamed signature constants args heads.Le = length args ≡ 2
HeadNamed signature constants args (heads.Int value) = length args ≡ 0
HeadNamed signature constants args heads.Add = length args ≡ 2
HeadNamed signature constants args heads.Neg = length args ≡ 1
HeadNamed signature constants args heads.Mul = length args ≡ 2
HeadNamed signature constants args (heads.Fun number) = number < length signature.functions
HeadNamed signature constants args (heads.Const number) = number < length constants

-- a node that has a term
abbrev pub HasTerm : SignatureData → List Constant → Node → Type 0
HasTerm signature constants node = HeadNamed signature constants node.args node.head

-- the words that are printed for a node
abbrev pub node_words : SignatureData → List Constant → Node → List (List ℕ)
node_words signature constants node = term_words (term_of signature constants node)

-- the proof as it is printed
abbrev pub raw_of : SignatureData → List Constant → Proof → RawProof
raw_of signature constants proof = record {
  terms = map (term_of signature constants) proof.terms.nodes;
  branches = proof.branches;
  lines = proof.lines;
}
