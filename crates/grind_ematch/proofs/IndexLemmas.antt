-- An index of nodes by the functions that they apply.
use Rattle.std.proofs.Common.{◌+◌, ◌≡◌, ℕ, ◌<◌, ◌≤◌, arith, Bool, true, false, true≢false, eqb-true, eq-eqb, cond, List, [], ◌∷◌, ◌++◌, Option, Some, None, length, nat_eq, slice_get, Contains, refl, sym, ap, ◌∙◌, subst}
use Rattle.std.specs.Option.{unwrap_or}
use Rattle.std.specs.Map.{lookup}
use Rattle.grind_term_graph.specs.declared.head.Head.{Head}
use Rattle.grind_term_graph.specs.declared.head.Head.TheVariants.{Fun}
use Rattle.grind_term_graph.specs.declared.node.Node.{Node}
use Rattle.grind_classes.specs.Classes.{IsActive}
use Rattle.grind_ematch.specs.Matches.{Scene}
use Rattle.grind_ematch.specs.Partials.{IsCandidate, AreCandidates, AddsCandidate}
use Rattle.grind_ematch.specs.Index.{IsFunction, Entries, nodes_at, IsIndex, IsIndexBelow, AddsNode}
use Rattle.grind_ematch.proofs.Along.{none_in}
use Rattle.grind_ematch.proofs.SceneLemmas.{some_is, adds_one, adds_none, candidates_next, candidates_all}

fun_is : (a b : ℕ) → Fun a ≡ Fun b → a ≡ b
fun_is a b e = cc

below_none : (n : ℕ) → n < 0 → ⊥
below_none n less = omega (arith, less)

module _ (scene : Scene) where
  -- no nodes
  pub index_first : (entries : Entries) → entries ≡ [] → IsIndexBelow scene 0 entries
  unfolding nodes_at
  index_first entries e function n = (
    λ there. absurd (none_in n (subst (λ (es : Entries). Contains (unwrap_or (lookup (nat_eq function) es) []) n) e there)),
    λ is. absurd (below_none n is.0),
  )

  -- the nodes below a number, and the number
  pub index_next : (number n : ℕ) (old new : Entries) → n ≡ number → IsIndexBelow scene number old → AddsNode scene n old new
      → IsIndexBelow scene (number + 1) new
  index_next number n old new e h adds function =
      candidates_next scene (Fun function) number n (nodes_at old function) (nodes_at new function) e (h function) (adds function)

  -- all nodes
  pub index_all : (number : ℕ) (entries : Entries) → length scene.nodes ≤ number → IsIndexBelow scene number entries
      → IsIndex scene entries
  index_all number entries past h function =
      candidates_all scene (Fun function) number (nodes_at entries function) past (h function)

  module _ (n : ℕ) (old : Entries) where
    pub inactive_node : (IsActive scene.classes n → ⊥) → AddsNode scene n old old
    inactive_node never function = adds_none scene (Fun function) n (nodes_at old function) (λ is. never is.0)

    pub other_head : (node : Node) → slice_get scene.nodes n ≡ Some node → (IsFunction node.head → ⊥) → AddsNode scene n old old
    other_head node got never function =
        adds_none scene (Fun function) n (nodes_at old function) (λ is.
        let same : is.1.0 ≡ node = some_is is.1.0 node (sym is.1.1 ∙ got) in
        never (function, subst (λ (it : Node). it.head ≡ Fun function) same is.1.2))

    -- by what the calls answer: the node is put after those of its function
    pub adds_by : (node : Node) (function : ℕ) (nodes more : List ℕ) (new : Entries) → IsActive scene.classes n
        → slice_get scene.nodes n ≡ Some node → node.head ≡ Fun function → nodes ≡ nodes_at old function → more ≡ nodes ++ n ∷ []
        → ((other : ℕ) → lookup (nat_eq other) new ≡ cond (nat_eq function other) (Some more) (lookup (nat_eq other) old))
        → AddsNode scene n old new
    unfolding nodes_at
    adds_by node function nodes more new active got head is pushed put other = at_test (nat_eq function other) refl
      where
        here : nat_eq function other ≡ true → function ≡ other → AddsCandidate scene (Fun other) n
            (unwrap_or (lookup (nat_eq other) old) []) (unwrap_or (lookup (nat_eq other) new) [])
        here e same =
            let now : unwrap_or (lookup (nat_eq other) new) [] ≡ more =
            ap (λ o. unwrap_or o []) (put other ∙ ap (λ (b : Bool). cond b (Some more) (lookup (nat_eq other) old)) e) in
            let before : nodes ≡ unwrap_or (lookup (nat_eq other) old) [] =
            is ∙ ap (λ (k : ℕ). unwrap_or (lookup (nat_eq k) old) []) same in
            adds_one scene (Fun other) n (unwrap_or (lookup (nat_eq other) old) []) (unwrap_or (lookup (nat_eq other) new) [])
            (active, (node, got, head ∙ ap (λ (k : ℕ). Fun k) same))
            (now ∙ pushed ∙ ap (λ (list : List ℕ). list ++ n ∷ []) before)

        elsewhere : nat_eq function other ≡ false → AddsCandidate scene (Fun other) n
            (unwrap_or (lookup (nat_eq other) old) []) (unwrap_or (lookup (nat_eq other) new) [])
        elsewhere e =
            let now : unwrap_or (lookup (nat_eq other) old) [] ≡ unwrap_or (lookup (nat_eq other) new) [] =
            sym (ap (λ o. unwrap_or o []) (put other ∙ ap (λ (b : Bool). cond b (Some more) (lookup (nat_eq other) old)) e)) in
            let never : IsCandidate scene (Fun other) n → ⊥ = λ is.
            let same : is.1.0 ≡ node = some_is is.1.0 node (sym is.1.1 ∙ got) in
            let other_is : function ≡ other = fun_is function other (sym head ∙ subst (λ (it : Node). it.head ≡ Fun other) same is.1.2) in
            true≢false (sym (eq-eqb function other other_is) ∙ e) in
            subst (λ (list : List ℕ). AddsCandidate scene (Fun other) n (unwrap_or (lookup (nat_eq other) old) []) list) now
            (adds_none scene (Fun other) n (unwrap_or (lookup (nat_eq other) old) []) never)

        at_test : (b : Bool) → nat_eq function other ≡ b → AddsCandidate scene (Fun other) n
            (unwrap_or (lookup (nat_eq other) old) []) (unwrap_or (lookup (nat_eq other) new) [])
        at_test true e = here e (eqb-true function other e)
        at_test false e = elsewhere e

-- the nodes that the table has for a function
pub nodes_found : (entries : Entries) (function : ℕ) (nodes : List ℕ) → Some nodes ≡ lookup (nat_eq function) entries
    → nodes ≡ nodes_at entries function
unfolding nodes_at
nodes_found entries function nodes e = ap (λ (o : Option (List ℕ)). unwrap_or o []) e

pub nodes_absent : (entries : Entries) (function : ℕ) → None ≡ lookup (nat_eq function) entries → [] ≡ nodes_at entries function
unfolding nodes_at
nodes_absent entries function e = ap (λ (o : Option (List ℕ)). unwrap_or o []) e

-- the candidates of the head that the function is
pub candidates_of : (scene : Scene) (entries : Entries) (head : Head) (function : ℕ) (nodes : List ℕ) → head ≡ Fun function
    → nodes ≡ nodes_at entries function → IsIndex scene entries → AreCandidates scene head nodes
candidates_of scene entries head function nodes e is h =
    subst (λ (it : Head). AreCandidates scene it nodes) (sym e)
    (subst (λ (list : List ℕ). AreCandidates scene (Fun function) list) (sym is) (h function))
