-- Worked cases: a constant, its negation, a function of that, and the sum of the two.
use Rattle.std.specs.Prelude.{◌≡◌, ℕ, List, [], ◌∷◌, slice_get}
use Rattle.std.proofs.Common.{ap, sym, ◌∙◌, refl, arith, inl, inr}
use Rattle.std.proofs.lemmas.Bool.{false≢true}
use Rattle.std.proofs.lemmas.Option.{same_Some}
use Rattle.grind_lemmas.proofs.Lists.{contains-cases}
use Rattle.grind_term_graph.specs.declared.head.Head.{Head}
use Rattle.grind_term_graph.specs.declared.head.Head.TheVariants as head
use Rattle.grind_term_graph.specs.declared.node.Node.{Node}
use Rattle.grind_reach.specs.Reached.{reads_arguments, IsNeeded, root, argument}

-- a whole number of that head and arguments
abbrev term : Head → List ℕ → Node
term its_head args = record { head = its_head; sort = 1; args = args }

-- a constant, its negation, a function of that, and the sum of the two
abbrev pub terms : List Node
terms = term (head.Const 0) [] ∷ term head.Neg (0 ∷ []) ∷ term (head.Fun 0) (1 ∷ []) ∷ term head.Add (1 ∷ 2 ∷ []) ∷ []

-- the sum needs the constant, by its first summand
pub sum_needs_the_constant : IsNeeded terms (3 ∷ []) 0
sum_needs_the_constant =
    argument (term head.Neg (0 ∷ []))
    (argument (term head.Add (1 ∷ 2 ∷ [])) (root (0, omega arith, refl)) refl refl (0, omega arith, refl)) refl refl (0, omega arith, refl)

-- the function needs itself alone
pub function_needs_itself : (n : ℕ) → IsNeeded terms (2 ∷ []) n → n ≡ 2
function_needs_itself n (root among) = elim (contains-cases 2 [] n among) [
  | inl same ↦ sym same
  | inr later ↦ absurd (omega (arith, later.1))
]
function_needs_itself a (argument {n} node needed is reads among) =
    let same : term (head.Fun 0) (1 ∷ []) ≡ node = same_Some _ node (ap (slice_get terms) (sym (function_needs_itself n needed)) ∙ is) in
    absurd (false≢true (ap (λ (node : Node). reads_arguments node.head) same ∙ reads))

pub function_needs_no_constant : IsNeeded terms (2 ∷ []) 0 → ⊥
function_needs_no_constant needed = let same = function_needs_itself 0 needed in absurd (omega arith)
