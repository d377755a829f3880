-- Which proof a block of a report stands for.
use Rattle.std.specs.Prelude.{◌≡◌, ℕ, ◌-◌, ◌^◌, List, [], ◌∷◌, length, map, Some, slice_get, All}
use Rattle.std.specs.List.{AllZip}
use Rattle.grind_term_graph.specs.declared.head.Head.{Head}
use Rattle.grind_term_graph.specs.declared.head.Head.TheVariants as heads
use Rattle.grind_term_graph.specs.declared.node.Node.{Node}
use Rattle.grind_term_graph.specs.Terms.{prop, int, sort_at}
use Rattle.grind_term_graph.specs.Shape.{IsTable}
use Rattle.grind_schemes.specs.declared.goal.Constant.{Constant}
use Rattle.grind_schemes.specs.Goals.{GoalData}
use Rattle.grind_claims.specs.declared.proof.Line.{Line}
use Rattle.grind_claims.specs.declared.proof.Proof.{Proof}
use Rattle.grind_proof_kernel.specs.Typing.{HasTerms}
use Rattle.grind_report.specs.declared.report.Outcome.{Outcome}
use Rattle.grind_report.specs.declared.report.Outcome.TheVariants as outcomes
use Rattle.grind_signature.specs.Signatures.{Function, SignatureData, IsDeclared}
use Rattle.grind_report.specs.Report.{RawTerm, RawProof, Block, True, False, Const, Fun, Int, Not, And, Or, Implies, Eq, Le, Add, Neg, Mul, Closed, Unexplored, TakesPremises}

-- the node of a head of this sort at these arguments
abbrev pub node_of : Head → ℕ → List ℕ → Node
node_of head sort args = record { head = head; sort = sort; args = args }

-- the term names this node: a constant of that name, a declared function of that name at arguments of its sorts, or a
-- truth, a connective, an equation, an order, a whole number or an operation on whole numbers
abbrev pub NamesNode : SignatureData → List Constant → List Node → RawTerm → Node → Type 0
NamesNode signature constants nodes True node = node ≡ node_of heads.True prop []
NamesNode signature constants nodes False node = node ≡ node_of heads.False prop []
NamesNode signature constants nodes (Const name) node =
    (number : ℕ) × (constant : Constant) × (slice_get constants number ≡ Some constant) × (name ≡ constant.name)
    × (node ≡ node_of (heads.Const number) constant.sort [])
NamesNode signature constants nodes (Fun name args) node =
    (number : ℕ) × (function : Function) × (slice_get signature.functions number ≡ Some function) × (name ≡ function.name)
    × (map (sort_at nodes) args ≡ map Some function.args)
    × (node ≡ node_of (heads.Fun number) function.result args)
NamesNode signature constants nodes (Int value) node = node ≡ node_of (heads.Int value) int []
NamesNode signature constants nodes (Not a) node = node ≡ node_of heads.Not prop (a ∷ [])
NamesNode signature constants nodes (And a b) node = node ≡ node_of heads.And prop (a ∷ b ∷ [])
NamesNode signature constants nodes (Or a b) node = node ≡ node_of heads.Or prop (a ∷ b ∷ [])
NamesNode signature constants nodes (Implies a b) node = node ≡ node_of heads.Implies prop (a ∷ b ∷ [])
NamesNode signature constants nodes (Eq a b) node = node ≡ node_of heads.Eq prop (a ∷ b ∷ [])
NamesNode signature constants nodes (Le a b) node = node ≡ node_of heads.Le prop (a ∷ b ∷ [])
NamesNode signature constants nodes (Add a b) node = node ≡ node_of heads.Add int (a ∷ b ∷ [])
NamesNode signature constants nodes (Neg a) node = node ≡ node_of heads.Neg int (a ∷ [])
NamesNode signature constants nodes (Mul a b) node = node ≡ node_of heads.Mul int (a ∷ b ∷ [])

-- how many nodes the table of a proof that was read may hold
abbrev pub widest : ℕ
widest = 2 ^ 32 - 1

-- no term of the block is bad, and this is the proof that it spells
pub record ProofOf (signature : SignatureData) (goal : GoalData) (raw : RawProof) (proof : Proof) : Type 0 where
  pub terms : AllZip (NamesNode signature goal.constants proof.terms.nodes) raw.terms proof.terms.nodes
  pub table : IsTable [] proof.terms.nodes
  pub front : HasTerms goal proof
  pub limit : proof.terms.limit ≡ widest
  pub branches : raw.branches ≡ proof.branches
  pub lines : raw.lines ≡ proof.lines

-- the block says this outcome of the goal
abbrev pub IsBlockOf : SignatureData → GoalData → Outcome → Block → Type 0
IsBlockOf signature goal (outcomes.Closed proof) block =
    (raw : RawProof) × (block ≡ Closed goal.name raw) × ProofOf signature goal raw proof
IsBlockOf signature goal outcomes.Unexplored block = block ≡ Unexplored goal.name

-- a proof that can be printed: its table is as wide as a read one, begins with the goal's terms and names what is
-- declared, and each rule has premises as many as are printed with it
pub record IsPrintable (signature : SignatureData) (goal : GoalData) (proof : Proof) : Type 0 where
  pub front : HasTerms goal proof
  pub limit : proof.terms.limit ≡ widest
  pub declared : All (IsDeclared signature goal.constants proof.terms.nodes) proof.terms.nodes
  pub counts : All (λ (line : Line). TakesPremises line.rule (length line.premises)) proof.lines

-- an outcome that can be printed
abbrev pub OutcomePrintable : SignatureData → GoalData → Outcome → Type 0
OutcomePrintable signature goal (outcomes.Closed proof) = IsPrintable signature goal proof
OutcomePrintable signature goal outcomes.Unexplored = Unit {0}
