-- Schemes among nodes.
use Rattle.std.proofs.Common.{drop, ◌+◌, ◌≡◌, ℕ, zero, suc, ◌<◌, ◌≤◌, arith, List, [], ◌∷◌, ◌++◌, Option, Some, None, All, length, slice_index_or, Vec, Global, refl, sym, ap, ◌∙◌, subst, append_assoc}
use Rattle.std.specs.Prelude.{map, slice_get, Contains}
use Rattle.std.proofs.Math.Seq.{drop-cons, drop-nil}
use Rattle.std.specs.Option.{option_map}
use Rattle.std.proofs.lemmas.Option.{slice_get-get_or, slice_get_within}
use Rattle.std.proofs.lemmas.List.{append-nil, length-append, length-map}
use Rattle.std.proofs.lemmas.List.Elements.{All-nil, All-cons, All-head, All-tail}
use Rattle.grind_term_graph.specs.declared.head.Head.{Head}
use Rattle.grind_term_graph.specs.declared.head.Head.TheVariants.{True, False, Not, And, Or, Implies, Eq, Le, Int, Add, Neg, Mul, Fun, Const}
use Rattle.grind_term_graph.specs.declared.node.Node.{Node}
use Rattle.grind_term_graph.specs.Terms.{Terms, sort_at}
use Rattle.grind_term_graph.specs.Shape.{IsShaped, WellShaped, AreTwoAlike}
use Rattle.grind_term_graph.specs.Placed.{placed}
use Rattle.grind_term_graph.proofs.Placing.{slice_get-placed, placed-grows, placed-absent}
use Rattle.grind_term_graph.proofs.Tables.{sort_at-append, sort_at-slice_get}
pub use Rattle.grind_term_graph.proofs.Beginnings.{BeginsWith-refl, BeginsWith-trans, BeginsWith-length}
use Rattle.grind_schemes.specs.declared.scheme.Scheme.{Scheme, Var, Apply, Apply', Row_of-Scheme, end_of-Scheme, more_of-Scheme, items-the_row-Scheme, items_hidden-the_row-Scheme-0}
use Rattle.grind_schemes.specs.Schemes.{scheme_sort, IsScheme}
use Rattle.grind_schemes.specs.Instances.{node_of, interned, interned_row, BeginsWith, IsUnderway, IsSubstitution, Suits}
use Rattle.grind_schemes.specs.InstanceRows.{interned_list, interned_at, SuitsEach}
use Rattle.grind_schemes.proofs.SchemeLemmas.{row_of, IsScheme-Apply}

-- items of a row are put there as the row is
pub interned_row-list : (substitution : List ℕ) (n : _) (row : Row_of-Scheme n) (nodes : List Node)
    → interned_row nodes substitution row ≡ interned_list nodes substitution (items-the_row-Scheme n row)
unfolding interned_list
interned_row-list substitution n end_of-Scheme nodes = refl
interned_row-list substitution n (more_of-Scheme first rest) nodes =
    let one = interned nodes substitution first in
    ap (λ (done : List Node × List ℕ). (done.0, one.1 ∷ done.1)) (interned_row-list substitution _ rest one.0)

-- a head at its arguments is put there after them
pub interned-Apply : (nodes : List Node) (substitution : List ℕ) (head : Head) (sort : ℕ) (args : Vec Scheme Global)
    → interned nodes substitution (Apply head sort args) ≡ interned_at nodes substitution head sort args.items
unfolding interned_at
interned-Apply nodes substitution head sort args =
    let row = row_of (Apply head sort args) in
    let done : interned_row nodes substitution row.1 ≡ interned_list nodes substitution args.items =
    interned_row-list substitution row.0 row.1 nodes ∙ ap (interned_list nodes substitution) (items_hidden-the_row-Scheme-0 args) in
    ap (λ (d : List Node × List ℕ). placed d.0 (node_of head sort d.1)) done

-- the nodes before stay where they are
mutual
  pub interned-grows : (substitution : List ℕ) (scheme : Scheme) (nodes : List Node)
      → BeginsWith nodes (interned nodes substitution scheme).0
  interned-grows substitution (Var number) nodes = BeginsWith-refl nodes
  interned-grows substitution (Apply' head sort shape args) nodes =
      let done = interned_row nodes substitution args in
      BeginsWith-trans nodes done.0 (placed done.0 (node_of head sort done.1)).0
      (interned_row-grows substitution _ args nodes) (placed-grows done.0 (node_of head sort done.1))

  pub interned_row-grows : (substitution : List ℕ) (n : _) (row : Row_of-Scheme n) (nodes : List Node)
      → BeginsWith nodes (interned_row nodes substitution row).0
  interned_row-grows substitution n end_of-Scheme nodes = BeginsWith-refl nodes
  interned_row-grows substitution n (more_of-Scheme first rest) nodes =
      let one = interned nodes substitution first in
      BeginsWith-trans nodes one.0 (interned_row one.0 substitution rest).0
      (interned-grows substitution first nodes) (interned_row-grows substitution _ rest one.0)

pub interned_list-grows : (substitution : List ℕ) (schemes : List Scheme) (nodes : List Node)
    → BeginsWith nodes (interned_list nodes substitution schemes).0
unfolding interned_list
interned_list-grows substitution [] nodes = BeginsWith-refl nodes
interned_list-grows substitution (first ∷ rest) nodes =
    let one = interned nodes substitution first in
    BeginsWith-trans nodes one.0 (interned_list one.0 substitution rest).0
    (interned-grows substitution first nodes) (interned_list-grows substitution rest one.0)

pub interned_at-grows : (nodes : List Node) (substitution : List ℕ) (head : Head) (sort : ℕ) (schemes : List Scheme)
    → BeginsWith (interned_list nodes substitution schemes).0 (interned_at nodes substitution head sort schemes).0
unfolding interned_at
interned_at-grows nodes substitution head sort schemes =
    let done = interned_list nodes substitution schemes in placed-grows done.0 (node_of head sort done.1)

-- a node with a sort stands below the length
node_of_sort : (o : Option Node) (sort : ℕ) → option_map (λ (node : Node). node.sort) o ≡ Some sort → (node : Node) × (o ≡ Some node)
node_of_sort None sort e = absurd cc
node_of_sort (Some node) sort e = (node, refl)

pub sort_at-within : (nodes : List Node) (id sort : ℕ) → sort_at nodes id ≡ Some sort → id < length nodes
sort_at-within nodes id sort e =
    let stands = node_of_sort (slice_get nodes id) sort e in slice_get_within nodes id stands.0 stands.1

-- and keeps its sort in a longer list
pub sort_at-grows : (nodes more : List Node) (id sort : ℕ) → BeginsWith nodes more → sort_at nodes id ≡ Some sort
    → sort_at more id ≡ Some sort
sort_at-grows nodes more id sort grows e =
    rw (grows.1) (sort_at-append nodes grows.0 id (sort_at-within nodes id sort e) ∙ e)

-- a substitution stays one where the nodes grow
pub IsSubstitution-grows : (nodes more : List Node) (vars substitution : List ℕ) → BeginsWith nodes more
    → IsSubstitution nodes vars substitution → IsSubstitution more vars substitution
IsSubstitution-grows nodes more [] [] grows e = refl
IsSubstitution-grows nodes more [] (id ∷ ids) grows e = absurd cc
IsSubstitution-grows nodes more (sort ∷ sorts) [] grows e = absurd cc
IsSubstitution-grows nodes more (sort ∷ sorts) (id ∷ ids) grows e =
    let here : sort_at nodes id ≡ Some sort = cc in
    let there : map (sort_at nodes) ids ≡ map Some sorts = cc in
    let here_too = sort_at-grows nodes more id sort grows here in
    let there_too = IsSubstitution-grows nodes more sorts ids grows there in cc

-- the node of a variable has its sort
var_sort : (nodes : List Node) (vars substitution : List ℕ) (number : ℕ) → IsSubstitution nodes vars substitution
    → number < length vars → sort_at nodes (slice_index_or substitution number 0) ≡ slice_get vars number
var_sort nodes [] substitution number e below = absurd (omega arith)
var_sort nodes (sort ∷ sorts) [] number e below = absurd cc
var_sort nodes (sort ∷ sorts) (id ∷ ids) zero e below = cc
var_sort nodes (sort ∷ sorts) (id ∷ ids) (suc number) e below =
    let there : map (sort_at nodes) ids ≡ map Some sorts = cc in var_sort nodes sorts ids number there (omega arith)

-- the node that a scheme becomes has its sort
pub interned-sort : (nodes : List Node) (vars substitution : List ℕ) (scheme : Scheme)
    → IsSubstitution nodes vars substitution → IsScheme vars scheme
    → sort_at (interned nodes substitution scheme).0 (interned nodes substitution scheme).1 ≡ scheme_sort vars scheme
interned-sort nodes vars substitution (Var number) e formed = var_sort nodes vars substitution number e formed
interned-sort nodes vars substitution (Apply' head sort shape args) e formed =
    let done = interned_row nodes substitution args in
    let node = node_of head sort done.1 in
    sort_at-slice_get (placed done.0 node).0 (placed done.0 node).1 node (slice_get-placed done.0 node)

-- a well-formed scheme has a sort
pub scheme_sort-some : (vars : List ℕ) (scheme : Scheme) → IsScheme vars scheme
    → (sort : ℕ) × (scheme_sort vars scheme ≡ Some sort)
scheme_sort-some vars (Var number) formed = (slice_index_or vars number 0, slice_get-get_or vars number 0 formed)
scheme_sort-some vars (Apply' head sort shape args) formed = (sort, refl)

items_same : (a b : Option ℕ) (xs ys : List (Option ℕ)) → a ≡ b → xs ≡ ys → a ∷ xs ≡ b ∷ ys
items_same a b xs ys e f = cc

-- the nodes that schemes become have their sorts
pub interned_list-sorts : (vars substitution : List ℕ) (schemes : List Scheme) (nodes : List Node)
    → IsSubstitution nodes vars substitution → All (IsScheme vars) schemes
    → map (sort_at (interned_list nodes substitution schemes).0) (interned_list nodes substitution schemes).1
    ≡ map (scheme_sort vars) schemes
unfolding interned_list
interned_list-sorts vars substitution [] nodes e formed = refl
interned_list-sorts vars substitution (first ∷ rest) nodes e formed =
    let one = interned nodes substitution first in
    let all = interned_list one.0 substitution rest in
    let first_formed = All-head (IsScheme vars) first rest formed in
    let has = scheme_sort-some vars first first_formed in
    let here : sort_at all.0 one.1 ≡ Some has.0 =
    sort_at-grows one.0 all.0 one.1 has.0 (interned_list-grows substitution rest one.0)
    (interned-sort nodes vars substitution first e first_formed ∙ has.1) in
    let here_too : sort_at all.0 one.1 ≡ scheme_sort vars first = here ∙ sym has.1 in
    let there : map (sort_at all.0) all.1 ≡ map (scheme_sort vars) rest =
    interned_list-sorts vars substitution rest one.0
    (IsSubstitution-grows nodes one.0 vars substitution (interned-grows substitution first nodes) e)
    (All-tail (IsScheme vars) first rest formed) in
    items_same (sort_at all.0 one.1) (scheme_sort vars first) (map (sort_at all.0) all.1) (map (scheme_sort vars) rest)
    here_too there

-- nodes that have the sorts of schemes stand below the length
pub below_of_sorts : (nodes : List Node) (vars : List ℕ) (schemes : List Scheme) (ids : List ℕ) → All (IsScheme vars) schemes
    → map (sort_at nodes) ids ≡ map (scheme_sort vars) schemes → All (λ id. id < length nodes) ids
below_of_sorts nodes vars schemes [] formed e = All-nil (λ id. id < length nodes)
below_of_sorts nodes vars [] (id ∷ ids) formed e = absurd cc
below_of_sorts nodes vars (first ∷ rest) (id ∷ ids) formed e =
    let has = scheme_sort-some vars first (All-head (IsScheme vars) first rest formed) in
    let here : sort_at nodes id ≡ scheme_sort vars first = cc in
    let there : map (sort_at nodes) ids ≡ map (scheme_sort vars) rest = cc in
    All-cons (λ id. id < length nodes) id ids (sort_at-within nodes id has.0 (here ∙ has.1))
    (below_of_sorts nodes vars rest ids (All-tail (IsScheme vars) first rest formed) there)

few_of_two : (sorts : List (Option ℕ)) → AreTwoAlike sorts → length sorts ≤ 16
few_of_two [] h = absurd h
few_of_two (a ∷ []) h = absurd h
few_of_two (a ∷ b ∷ []) h = omega arith
few_of_two (a ∷ b ∷ c ∷ rest) h = absurd h

-- no head has more than sixteen arguments
few_of_shape : (head : Head) (sort : ℕ) (sorts : List (Option ℕ)) → IsShaped head sort sorts → length sorts ≤ 16
few_of_shape True sort sorts h = omega (arith, ap length h.1)
few_of_shape False sort sorts h = omega (arith, ap length h.1)
few_of_shape Not sort sorts h = omega (arith, ap length h.1)
few_of_shape And sort sorts h = omega (arith, ap length h.1)
few_of_shape Or sort sorts h = omega (arith, ap length h.1)
few_of_shape Implies sort sorts h = omega (arith, ap length h.1)
few_of_shape Eq sort sorts h = few_of_two sorts h.1
few_of_shape Le sort sorts h = omega (arith, ap length h.1)
few_of_shape (Int value) sort sorts h = omega (arith, ap length h.1)
few_of_shape Add sort sorts h = omega (arith, ap length h.1)
few_of_shape Neg sort sorts h = omega (arith, ap length h.1)
few_of_shape Mul sort sorts h = omega (arith, ap length h.1)
few_of_shape (Fun function) sort sorts h = h
few_of_shape (Const constant) sort sorts h = omega (arith, ap length h)

-- nodes beside what was found among them
abbrev pub nodes_with : {A : Type 0} → List Node → A → List Node × A
nodes_with nodes found = (nodes, found)

-- the numbers that schemes became, after which this list of nodes is left
abbrev pub AreMade : List Node → List ℕ → List Scheme → List Node → List ℕ → Type 0
AreMade nodes substitution schemes after ids = (after, ids) ≡ interned_list nodes substitution schemes

-- the arguments of a scheme that suits suit
pub SuitsEach-Apply : (nodes : List Node) (substitution : List ℕ) (head : Head) (sort : ℕ) (args : Vec Scheme Global)
    (scheme : Scheme) (items : List Scheme) → scheme ≡ Apply head sort args → items ≡ args.items
    → Suits nodes substitution scheme → SuitsEach nodes substitution items
SuitsEach-Apply nodes substitution head sort args scheme items e f h =
    let formed = (IsScheme-Apply h.0 head sort args).0 (subst (IsScheme h.0) e h.2) in
    (h.0, h.1, subst (All (IsScheme h.0)) (sym f) formed.1)

-- and its node fits after them
pub fits_behind : (nodes after : List Node) (substitution ids slice : List ℕ) (head : Head) (sort : ℕ)
    (args : Vec Scheme Global) (scheme : Scheme) (items : List Scheme) → scheme ≡ Apply head sort args
    → items ≡ args.items → AreMade nodes substitution items after ids → slice ≡ ids → Suits nodes substitution scheme
    → WellShaped after (node_of head sort slice) × (length slice ≤ 16)
fits_behind nodes after substitution ids slice head sort args scheme items e f made g h =
    let formed = (IsScheme-Apply h.0 head sort args).0 (subst (IsScheme h.0) e h.2) in
    let each = subst (All (IsScheme h.0)) (sym f) formed.1 in
    let after_is : after ≡ (interned_list nodes substitution items).0 = ap (λ (d : List Node × List ℕ). d.0) made in
    let ids_are : slice ≡ (interned_list nodes substitution items).1 = g ∙ ap (λ (d : List Node × List ℕ). d.1) made in
    let sorts : map (sort_at after) slice ≡ map (scheme_sort h.0) items =
    rw (after_is, ids_are) (interned_list-sorts h.0 substitution items nodes h.1 each) in
    let shaped : IsShaped head sort (map (scheme_sort h.0) items) = rw f formed.0 in
    let few : length (map (scheme_sort h.0) items) ≤ 16 = few_of_shape head sort (map (scheme_sort h.0) items) shaped in
    let count : length slice ≤ 16 = omega (arith, few, length-map slice (sort_at after), ap length sorts) in
    ((below_of_sorts after h.0 items slice each sorts, rw sorts shaped), count)

-- a head at its arguments, once they are there
pub built : (nodes after : List Node) (substitution ids slice : List ℕ) (head : Head) (sort : ℕ)
    (args : Vec Scheme Global) (scheme : Scheme) (items : List Scheme) → scheme ≡ Apply head sort args
    → items ≡ args.items → AreMade nodes substitution items after ids → slice ≡ ids
    → placed after (node_of head sort slice) ≡ interned nodes substitution scheme
unfolding interned_at
built nodes after substitution ids slice head sort args scheme items e f made g =
    let there = ap (λ (d : List Node × List ℕ). placed d.0 (node_of head sort d.1)) made in
    let whole = ap (interned nodes substitution) e ∙ interned-Apply nodes substitution head sort args in
    ap (λ (d : List ℕ). placed after (node_of head sort d)) g ∙ there
    ∙ ap (interned_at nodes substitution head sort) f ∙ sym whole

-- the nodes of a scheme begin with those of its arguments
pub args_within : (nodes : List Node) (substitution : List ℕ) (head : Head) (sort : ℕ) (args : Vec Scheme Global)
    (scheme : Scheme) (items : List Scheme) → scheme ≡ Apply head sort args → items ≡ args.items
    → BeginsWith (interned_list nodes substitution items).0 (interned nodes substitution scheme).0
args_within nodes substitution head sort args scheme items e f =
    let whole : interned nodes substitution scheme ≡ interned_at nodes substitution head sort items =
    ap (interned nodes substitution) e ∙ interned-Apply nodes substitution head sort args
    ∙ ap (interned_at nodes substitution head sort) (sym f) in
    rw whole (interned_at-grows nodes substitution head sort items)

-- a table on its way to some nodes is on its way to more
pub IsUnderway-more : (before after : Terms) (nodes more : List Node) → IsUnderway before after nodes
    → BeginsWith nodes more → IsUnderway before after more
IsUnderway-more before after nodes more way longer = record {
  grows = way.grows;
  within = BeginsWith-trans after.nodes nodes more way.within longer;
  limit = way.limit;
}

-- and one way goes on with another
pub IsUnderway-then : (before middle after : Terms) (nodes more : List Node) → IsUnderway before middle nodes
    → IsUnderway middle after more → IsUnderway before after more
IsUnderway-then before middle after nodes more way on = record {
  grows = BeginsWith-trans before.nodes middle.nodes after.nodes way.grows on.grows;
  within = on.within;
  limit = on.limit ∙ way.limit;
}

-- a table that stays is on its way to each that begins with it
pub IsUnderway-stays : (table : Terms) (nodes : List Node) → BeginsWith table.nodes nodes → IsUnderway table table nodes
IsUnderway-stays table nodes longer = record {
  grows = BeginsWith-refl table.nodes;
  within = longer;
  limit = refl;
}

-- a new node has no room where as many stand as may
pub over_when_full : (nodes : List Node) (node : Node) (limit : ℕ) → ¬ Contains nodes node → length nodes ≡ limit
    → limit < length (placed nodes node).0
over_when_full nodes node limit new full = rw (placed-absent nodes node new) (omega (arith, length-append nodes (node ∷ [])))

-- the rest of the schemes goes after what is done
unfoldable pub IsLeft : List Node → List ℕ → List Scheme → List Node → List ℕ → List Scheme → Type 0
IsLeft nodes substitution all now ids rest =
    let done = interned_list now substitution rest in
    interned_list nodes substitution all ≡ (done.0, ids ++ done.1)

-- at first all is left
pub IsLeft-first : (nodes : List Node) (substitution : List ℕ) (all : List Scheme)
    → IsLeft nodes substitution all nodes [] all
unfolding IsLeft
IsLeft-first nodes substitution all = refl

-- and at last nothing
pub IsLeft-last : (nodes : List Node) (substitution : List ℕ) (all : List Scheme) (now : List Node) (ids : List ℕ)
    (rest : List Scheme) → rest ≡ [] → IsLeft nodes substitution all now ids rest → AreMade nodes substitution all now ids
unfolding IsLeft interned_list
IsLeft-last nodes substitution all now ids rest e left =
    sym (subst (IsLeft nodes substitution all now ids) e left ∙ ap (λ (ns : List ℕ). nodes_with now ns) (append-nil ids))

-- a scheme is done
pub IsLeft-next : (nodes : List Node) (substitution : List ℕ) (all : List Scheme) (now : List Node) (ids : List ℕ)
    (rest more : List Scheme) (first : Scheme) (next : List Node) (id : ℕ) → rest ≡ first ∷ more
    → nodes_with next id ≡ interned now substitution first → IsLeft nodes substitution all now ids rest
    → IsLeft nodes substitution all next (ids ++ id ∷ []) more
unfolding IsLeft interned_list
IsLeft-next nodes substitution all now ids rest more first next id e made left =
    let at_first = subst (IsLeft nodes substitution all now ids) e left in
    let then = λ (d : List Node × ℕ).
    interned_list nodes substitution all
    ≡ ((interned_list d.0 substitution more).0, ids ++ d.1 ∷ (interned_list d.0 substitution more).1) in
    let here = subst then (sym made) at_first in
    let done = interned_list next substitution more in
    here ∙ ap (λ (ns : List ℕ). nodes_with done.0 ns) (sym (append_assoc ids (id ∷ []) done.1))

-- the nodes of a scheme that is left are some of the nodes of all
pub IsLeft-within : (nodes : List Node) (substitution : List ℕ) (all : List Scheme) (now : List Node) (ids : List ℕ)
    (rest more : List Scheme) (first : Scheme) → rest ≡ first ∷ more → IsLeft nodes substitution all now ids rest
    → BeginsWith (interned now substitution first).0 (interned_list nodes substitution all).0
unfolding IsLeft interned_list
IsLeft-within nodes substitution all now ids rest more first e left =
    let at_first = subst (IsLeft nodes substitution all now ids) e left in
    let one = interned now substitution first in
    rw at_first (interned_list-grows substitution more one.0)

-- the item at a position goes before the rest
pub drop_at : (all : List Scheme) (k : ℕ) (item : Scheme) → k < length all → item ≡ slice_index_or all k item
    → drop k all ≡ item ∷ drop (k + 1) all
drop_at all k item below is =
    let next : suc k ≡ k + 1 = omega arith in
    drop-cons all k item below
    ∙ ap (λ (x : Scheme). x ∷ drop (suc k) all) (sym is)
    ∙ ap (λ (n : ℕ). item ∷ drop n all) next

-- after the last nothing is left
pub drop_all : (all : List Scheme) (k : ℕ) → length all ≤ k → drop k all ≡ []
drop_all [] k past = drop-nil k
drop_all (first ∷ rest) zero past = absurd (omega arith)
drop_all (first ∷ rest) (suc k) past = drop_all rest k (omega arith)

-- each of several schemes that suit suits, also where the nodes grew
pub SuitsEach-item : (nodes now : List Node) (substitution : List ℕ) (all : List Scheme) (k : ℕ) (item : Scheme)
    → k < length all → item ≡ slice_index_or all k item → BeginsWith nodes now → SuitsEach nodes substitution all
    → Suits now substitution item
SuitsEach-item nodes now substitution all k item below is grows h =
    (h.0, IsSubstitution-grows nodes now h.0 substitution grows h.1, subst (IsScheme h.0) (sym is) (h.2 k item below))

-- a table that grew goes on to more
pub IsUnderway-on : (before middle after : Terms) (nodes more : List Node) → BeginsWith before.nodes middle.nodes
    → middle.limit ≡ before.limit → IsUnderway middle after nodes → BeginsWith nodes more → IsUnderway before after more
IsUnderway-on before middle after nodes more grows same_limit way longer = record {
  grows = BeginsWith-trans before.nodes middle.nodes after.nodes grows way.grows;
  within = BeginsWith-trans after.nodes nodes more way.within longer;
  limit = way.limit ∙ same_limit;
}

-- a table that has come to the nodes
pub IsUnderway-done : (before after : Terms) (nodes : List Node) → BeginsWith before.nodes after.nodes
    → after.limit ≡ before.limit → after.nodes ≡ nodes → IsUnderway before after nodes
IsUnderway-done before after nodes grows same_limit e = record {
  grows = grows;
  within = ([], sym e ∙ sym (append-nil after.nodes));
  limit = same_limit;
}

-- nodes begin the nodes that schemes leave
pub BeginsWith-made : (nodes next : List Node) (substitution : List ℕ) (scheme : Scheme) (id : ℕ)
    → nodes_with next id ≡ interned nodes substitution scheme → BeginsWith nodes next
BeginsWith-made nodes next substitution scheme id made =
    subst (λ (d : List Node × ℕ). BeginsWith nodes d.0) (sym made) (interned-grows substitution scheme nodes)
