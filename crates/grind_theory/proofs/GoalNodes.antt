-- The nodes that the formulas of a goal make are declared.
use Rattle.std.specs.Prelude.{◌≡◌, ℕ, ◌<◌, Bool, true, false, List, [], ◌∷◌, ◌++◌, length, map, All, Contains, Some, refl}
use Rattle.std.specs.List.{list_any, AllPairs}
use Rattle.std.proofs.Common.{arith, sym, ap, subst, ◌∙◌, inl, inr}
use Rattle.std.proofs.lemmas.List.{length-append}
use Rattle.std.proofs.lemmas.List.Elements.{All-cons, All-push}
use Rattle.std.proofs.lemmas.Option.{same_Some}
use Rattle.grind_term_graph.specs.declared.node.Node.{Node}
use Rattle.grind_term_graph.specs.declared.head.Head.{Head}
use Rattle.grind_term_graph.specs.declared.head.Head.TheVariants as heads
use Rattle.grind_term_graph.specs.Terms.{prop, int, sort_at, opening as opening_nodes}
use Rattle.grind_term_graph.specs.Placed.{placed, node_eq}
use Rattle.grind_term_graph.proofs.Placing.{placed-present, placed-absent, list_any-decides, slice_get-placed, placed-grows}
use Rattle.grind_term_graph.proofs.Tables.{sorts-append, sort_at-slice_get}
use Rattle.grind_term_graph.specs.Beginnings.{BeginsWith}
use Rattle.grind_term_graph.proofs.Beginnings.{BeginsWith-refl, BeginsWith-trans}
use Rattle.grind_schemes.specs.declared.goal.Constant.{Constant}
use Rattle.grind_schemes.specs.declared.scheme.Scheme.{Scheme}
use Rattle.grind_schemes.specs.Goals.{AreAlike}
use Rattle.grind_schemes.specs.Instances.{node_of, interned}
use Rattle.grind_schemes.specs.InstanceRows.{interned_list, interned_at}
use Rattle.grind_schemes.proofs.InstanceLemmas.{interned-Apply, sort_at-within, sort_at-grows}
use Rattle.grind_grammar.specs.declared.syntax.Unary.{Unary}
use Rattle.grind_grammar.specs.declared.syntax.Unary.TheVariants as unaries
use Rattle.grind_grammar.specs.declared.syntax.Binary.{Binary}
use Rattle.grind_grammar.specs.declared.syntax.Binary.TheVariants as binaries
use Rattle.grind_grammar.specs.Terms.{Term, Row, True, False, Number, Apply as Named, One, Two, none, more}
use Rattle.grind_signature.specs.Signatures.{Function, SignatureData, IsDeclaredAs, IsDeclared}
use Rattle.grind_resolution.specs.declared.meaning.BinderKind.TheVariants as kinds
use Rattle.grind_resolution.specs.Scopes.{Given, scope_data, Gives}
use Rattle.grind_resolution.specs.Sorting.{HasSort, HaveSorts, unary_sort, binary_sort}
use Rattle.grind_resolution.specs.Resolved.{IsMade, IsMeant, IsUnary, IsBinary, StandsFor, StandForRow}
use Rattle.grind_resolution.specs.Laws.{IsSingle}

-- nodes of these sorts stand among the nodes
pub sorts_below : (nodes : List Node) (ids sorts : List ℕ) → map (sort_at nodes) ids ≡ map Some sorts → All (λ id. id < length nodes) ids
sorts_below nodes [] sorts e = λ k d l. absurd (omega arith)
sorts_below nodes (id ∷ ids) [] e = absurd cc
sorts_below nodes (id ∷ ids) (s ∷ sorts) e =
    let first : sort_at nodes id ≡ Some s = cc in
    let rest : map (sort_at nodes) ids ≡ map Some sorts = cc in
    All-cons (λ i. i < length nodes) id ids (sort_at-within nodes id s first) (sorts_below nodes ids sorts rest)

-- a node is declared, and its arguments stand among the nodes
pub record IsWell (s : SignatureData) (constants : List Constant) (nodes : List Node) (node : Node) : Type 0 where
  pub below : All (λ id. id < length nodes) node.args
  pub declared : IsDeclared s constants nodes node

module _ (s : SignatureData) (constants : List Constant) where
  declared_append : (nodes rest : List Node) (node : Node) (head : Head) → All (λ id. id < length nodes) node.args
      → IsDeclaredAs s constants nodes node head → IsDeclaredAs s constants (nodes ++ rest) node head
  declared_append nodes rest node heads.True below h = h
  declared_append nodes rest node heads.False below h = h
  declared_append nodes rest node heads.Eq below h = h
  declared_append nodes rest node (heads.Const c) below h = h
  declared_append nodes rest node (heads.Fun f) below h = (h.0, h.1, h.2, sorts-append nodes rest node.args below ∙ h.3)
  declared_append nodes rest node heads.Not below h = h
  declared_append nodes rest node heads.And below h = h
  declared_append nodes rest node heads.Or below h = h
  declared_append nodes rest node heads.Implies below h = h
  declared_append nodes rest node heads.Le below h = h
  declared_append nodes rest node (heads.Int n) below h = h
  declared_append nodes rest node heads.Add below h = h
  declared_append nodes rest node heads.Neg below h = h
  declared_append nodes rest node heads.Mul below h = h

  well_append : (nodes rest : List Node) (node : Node) → IsWell s constants nodes node → IsWell s constants (nodes ++ rest) node
  well_append nodes rest node h = record {
    below = λ k d l. let b = h.below k d l in omega (arith, length-append nodes rest);
    declared = declared_append nodes rest node node.head h.below h.declared;
  }

  -- each node is declared
  abbrev pub AreWell : List Node → Type 0
  AreWell nodes = All (IsWell s constants nodes) nodes

  well_push : (nodes : List Node) (node : Node) → AreWell nodes → IsWell s constants nodes node → AreWell (nodes ++ node ∷ [])
  well_push nodes node all h =
      All-push (IsWell s constants (nodes ++ node ∷ [])) nodes node (λ k d l. well_append nodes (node ∷ []) _ (all k d l)) (well_append nodes (node ∷ []) node h)

  well_by : (nodes : List Node) (node : Node) → AreWell nodes → IsWell s constants nodes node → (b : Bool) → list_any (node_eq node) nodes ≡ b → AreWell (placed nodes node).0
  well_by nodes node all h true e = subst AreWell (sym (placed-present nodes node ((list_any-decides nodes node).0 e))) all
  well_by nodes node all h false e =
      let new : ¬ Contains nodes node = λ has. absurd cc ((list_any-decides nodes node).1 has) in
      subst AreWell (sym (placed-absent nodes node new)) (well_push nodes node all h)

  well_placed : (nodes : List Node) (node : Node) → AreWell nodes → IsWell s constants nodes node → AreWell (placed nodes node).0
  well_placed nodes node all h = well_by nodes node all h (list_any (node_eq node) nodes) refl

  -- a scheme of this sort, and schemes of these sorts, put among declared nodes
  pub record IsPut (nodes : List Node) (sort : ℕ) (made : List Node × ℕ) : Type 0 where
    pub well : AreWell made.0
    pub grows : BeginsWith nodes made.0
    pub at : sort_at made.0 made.1 ≡ Some sort

  record ArePut (nodes : List Node) (sorts : List ℕ) (made : List Node × List ℕ) : Type 0 where
    well : AreWell made.0
    grows : BeginsWith nodes made.0
    at : map (sort_at made.0) made.1 ≡ map Some sorts

  abbrev pub Puts : Scheme → ℕ → Type 0
  Puts scheme sort = (nodes : List Node) → AreWell nodes → IsPut nodes sort (interned nodes [] scheme)

  abbrev PutsRow : List Scheme → List ℕ → Type 0
  PutsRow parts sorts = (nodes : List Node) → AreWell nodes → ArePut nodes sorts (interned_list nodes [] parts)

  puts-none : PutsRow [] []
  unfolding interned_list
  puts-none nodes all = record { well = all; grows = BeginsWith-refl nodes; at = refl }

  puts-more : (a : Scheme) (sort : ℕ) (parts : List Scheme) (sorts : List ℕ) → Puts a sort → PutsRow parts sorts → PutsRow (a ∷ parts) (sort ∷ sorts)
  unfolding interned_list
  puts-more a sort parts sorts p q nodes all =
      let one = interned nodes [] a in
      let first = p nodes all in
      let rest = q one.0 first.well in
      let others = interned_list one.0 [] parts in
      let here = sort_at-grows one.0 others.0 one.1 sort rest.grows first.at in
      record {
        well = rest.well;
        grows = BeginsWith-trans nodes one.0 others.0 first.grows rest.grows;
        at = λ i. here i ∷ rest.at i;
      }

  -- what is asked of a head: its function or constant is declared
  abbrev IsHeadDeclared : Head → ℕ → List ℕ → Type 0
  IsHeadDeclared head sort sorts =
      (nodes : List Node) (ids : List ℕ) → map (sort_at nodes) ids ≡ map Some sorts → IsDeclaredAs s constants nodes (node_of head sort ids) head

  made-is : (head : Head) (sort : ℕ) (parts : List Scheme) (scheme : Scheme) → IsMade head sort parts scheme → (nodes : List Node)
      → interned nodes [] scheme ≡ interned_at nodes [] head sort parts
  made-is head sort parts scheme h nodes =
      ap (interned nodes []) h.2 ∙ interned-Apply nodes [] head sort h.0 ∙ ap (interned_at nodes [] head sort) h.1

  puts-at : (head : Head) (sort : ℕ) (parts : List Scheme) (sorts : List ℕ) → PutsRow parts sorts → IsHeadDeclared head sort sorts
      → (nodes : List Node) → AreWell nodes → IsPut nodes sort (interned_at nodes [] head sort parts)
  unfolding interned_at
  puts-at head sort parts sorts p d nodes all =
      let done = interned_list nodes [] parts in
      let row = p nodes all in
      let node = node_of head sort done.1 in
      record {
        well = well_placed done.0 node row.well (record { below = sorts_below done.0 done.1 sorts row.at; declared = d done.0 done.1 row.at });
        grows = BeginsWith-trans nodes done.0 (placed done.0 node).0 row.grows (placed-grows done.0 node);
        at = sort_at-slice_get (placed done.0 node).0 (placed done.0 node).1 node (slice_get-placed done.0 node);
      }

  puts-made : (head : Head) (sort : ℕ) (parts : List Scheme) (sorts : List ℕ) (scheme : Scheme) → PutsRow parts sorts → IsMade head sort parts scheme
      → IsHeadDeclared head sort sorts → Puts scheme sort
  puts-made head sort parts sorts scheme p h d nodes all =
      subst (IsPut nodes sort) (sym (made-is head sort parts scheme h nodes)) (puts-at head sort parts sorts p d nodes all)

  -- one part, and two
  puts-one : (a : Scheme) (sort : ℕ) → Puts a sort → PutsRow (a ∷ []) (sort ∷ [])
  puts-one a sort p = puts-more a sort [] [] p puts-none

  puts-two : (a b : Scheme) (sort other : ℕ) → Puts a sort → Puts b other → PutsRow (a ∷ b ∷ []) (sort ∷ other ∷ [])
  puts-two a b sort other p q = puts-more a sort (b ∷ []) (other ∷ []) p (puts-one b other q)

  unary-puts : (op : Unary) (a scheme : Scheme) (sort : ℕ) → Puts a sort → IsUnary op a scheme → Puts scheme (unary_sort op)
  unary-puts unaries.Not a scheme sort p h = puts-made heads.Not prop (a ∷ []) (sort ∷ []) scheme (puts-one a sort p) h (λ n ids e. tt)
  unary-puts unaries.Neg a scheme sort p h = puts-made heads.Neg int (a ∷ []) (sort ∷ []) scheme (puts-one a sort p) h (λ n ids e. tt)

  module _ (a b : Scheme) (side : ℕ) (p : Puts a side) (q : Puts b side) where
    pair : PutsRow (a ∷ b ∷ []) (side ∷ side ∷ [])
    pair = puts-two a b side side p q

    turned : PutsRow (b ∷ a ∷ []) (side ∷ side ∷ [])
    turned = puts-two b a side side q p

    negation-puts : (one scheme : Scheme) → Puts one prop → IsMade heads.Not prop (one ∷ []) scheme → Puts scheme prop
    negation-puts one scheme r h = puts-made heads.Not prop (one ∷ []) (prop ∷ []) scheme (puts-one one prop r) h (λ n ids e. tt)

    binary-puts : (op : Binary) (scheme : Scheme) → IsBinary op a b scheme → Puts scheme (binary_sort op)
    binary-puts binaries.Iff scheme h = puts-made heads.Eq prop (a ∷ b ∷ []) (side ∷ side ∷ []) scheme pair h (λ n ids e. tt)
    binary-puts binaries.Implies scheme h = puts-made heads.Implies prop (a ∷ b ∷ []) (side ∷ side ∷ []) scheme pair h (λ n ids e. tt)
    binary-puts binaries.Or scheme h = puts-made heads.Or prop (a ∷ b ∷ []) (side ∷ side ∷ []) scheme pair h (λ n ids e. tt)
    binary-puts binaries.And scheme h = puts-made heads.And prop (a ∷ b ∷ []) (side ∷ side ∷ []) scheme pair h (λ n ids e. tt)
    binary-puts binaries.Eq scheme h = puts-made heads.Eq prop (a ∷ b ∷ []) (side ∷ side ∷ []) scheme pair h (λ n ids e. tt)
    binary-puts binaries.Ne scheme h =
        negation-puts h.0 scheme (puts-made heads.Eq prop (a ∷ b ∷ []) (side ∷ side ∷ []) h.0 pair h.1 (λ n ids e. tt)) h.2
    binary-puts binaries.Lt scheme h =
        negation-puts h.0 scheme (puts-made heads.Le prop (b ∷ a ∷ []) (side ∷ side ∷ []) h.0 turned h.1 (λ n ids e. tt)) h.2
    binary-puts binaries.Le scheme h = puts-made heads.Le prop (a ∷ b ∷ []) (side ∷ side ∷ []) scheme pair h (λ n ids e. tt)
    binary-puts binaries.Gt scheme h =
        negation-puts h.0 scheme (puts-made heads.Le prop (a ∷ b ∷ []) (side ∷ side ∷ []) h.0 pair h.1 (λ n ids e. tt)) h.2
    binary-puts binaries.Ge scheme h = puts-made heads.Le prop (b ∷ a ∷ []) (side ∷ side ∷ []) scheme turned h (λ n ids e. tt)
    binary-puts binaries.Add scheme h = puts-made heads.Add int (a ∷ b ∷ []) (side ∷ side ∷ []) scheme pair h (λ n ids e. tt)
    binary-puts binaries.Sub scheme h =
        let opposite = puts-made heads.Neg int (b ∷ []) (side ∷ []) h.0 (puts-one b side q) h.1 (λ n ids e. tt) in
        puts-made heads.Add int (a ∷ h.0 ∷ []) (side ∷ int ∷ []) scheme (puts-two a h.0 side int p opposite) h.2 (λ n ids e. tt)
    binary-puts binaries.Mul scheme h = puts-made heads.Mul int (a ∷ b ∷ []) (side ∷ side ∷ []) scheme pair h (λ n ids e. tt)

  abbrev gives : List ℕ → Given → Type 0
  gives = Gives s (scope_data kinds.Constant constants)

  -- what a name stands for
  named-puts : (name : List ℕ) (given : Given) → gives name given → (parts : List Scheme) (scheme : Scheme) → PutsRow parts given.args
      → IsMeant given.meaning given.sort parts scheme → Puts scheme given.sort
  named-puts name given (inl (i, b, at, named, is)) parts scheme =
      subst (λ (x : Given). PutsRow parts x.args → IsMeant x.meaning x.sort parts scheme → Puts scheme x.sort) (sym is)
      (λ p m. puts-made (heads.Const i) b.sort parts [] scheme p m (λ n ids e. (b, at, refl)))
  named-puts name given (inr (f, g, at, named, is)) parts scheme =
      subst (λ (x : Given). PutsRow parts x.args → IsMeant x.meaning x.sort parts scheme → Puts scheme x.sort) (sym is)
      (λ p m. puts-made (heads.Fun f) g.result parts g.args scheme p m (λ n ids e. (g, at, refl, e)))

  module _ (single : IsSingle gives) where
    mutual
      -- a term of a sort makes declared nodes
      pub term-puts : (t : Term) (sort : ℕ) (scheme : Scheme) → HasSort gives t sort → StandsFor gives t scheme → Puts scheme sort
      term-puts True sort scheme h m = subst (Puts scheme) (sym h) (puts-made heads.True prop [] [] scheme puts-none m (λ n ids e. tt))
      term-puts False sort scheme h m = subst (Puts scheme) (sym h) (puts-made heads.False prop [] [] scheme puts-none m (λ n ids e. tt))
      term-puts (Number value) sort scheme h m = subst (Puts scheme) (sym h) (puts-made (heads.Int value) int [] [] scheme puts-none m (λ n ids e. tt))
      term-puts (Named name row) sort scheme h m =
          let same : m.0 ≡ h.0 = single name m.0 h.0 m.2 h.1 in
          let meant = subst (λ (x : Given). IsMeant x.meaning x.sort m.1 scheme) same m.4 in
          subst (Puts scheme) (sym h.3) (named-puts name h.0 h.1 m.1 scheme (row-puts row (h.0).args m.1 h.2 m.3) meant)
      term-puts (One op a) sort scheme h m =
          subst (Puts scheme) (sym h.1) (unary-puts op m.0 scheme (unary_sort op) (term-puts a (unary_sort op) m.0 h.0 m.1) m.2)
      term-puts (Two op a b) sort scheme h m =
          subst (Puts scheme) (sym h.4)
          (binary-puts m.0 m.1 h.0 (term-puts a h.0 m.0 h.1 m.2) (term-puts b h.0 m.1 h.2 m.3) op scheme m.4)

      row-puts : (row : Row) (sorts : List ℕ) (parts : List Scheme) → HaveSorts gives row sorts → StandForRow gives row parts → PutsRow parts sorts
      row-puts none [] [] h m = puts-none
      row-puts none [] (a ∷ parts) h m = absurd m
      row-puts none (sort ∷ sorts) parts h m = absurd h
      row-puts (more t row) [] parts h m = absurd h
      row-puts (more t row) (sort ∷ sorts) [] h m = absurd m
      row-puts (more t row) (sort ∷ sorts) (a ∷ parts) h m =
          puts-more a sort parts sorts (term-puts t sort a h.0 m.0) (row-puts row sorts parts h.1 m.1)

  -- two declared nodes of one function are alike
  alike : (nodes : List Node) (one other : Node) → IsDeclared s constants nodes one → IsDeclared s constants nodes other → AreAlike nodes one other
  alike nodes one other p q f a b =
      let x : IsDeclaredAs s constants nodes one (heads.Fun f) = subst (IsDeclaredAs s constants nodes one) a p in
      let y : IsDeclaredAs s constants nodes other (heads.Fun f) = subst (IsDeclaredAs s constants nodes other) b q in
      let g : x.0 ≡ y.0 = same_Some x.0 y.0 (sym x.1 ∙ y.1) in
      (x.2 ∙ ap (λ (h : Function). h.result) g ∙ sym y.2, x.3 ∙ ap (λ (h : Function). map Some h.args) g ∙ sym y.3)

  pub all_alike : (nodes : List Node) → AreWell nodes → AllPairs (AreAlike nodes) nodes
  all_alike nodes all = λ k m d l b.
      alike nodes _ _ (all k d (omega arith)).declared (all m d b).declared

  -- True and False are declared
  pub opening-well : AreWell opening_nodes
  opening-well =
      All-cons (IsWell s constants opening_nodes) (node_of heads.True prop []) (node_of heads.False prop [] ∷ [])
      (record { below = λ k d l. absurd (omega arith); declared = tt })
      (All-cons (IsWell s constants opening_nodes) (node_of heads.False prop []) []
      (record { below = λ k d l. absurd (omega arith); declared = tt }) (λ k d l. absurd (omega arith)))
