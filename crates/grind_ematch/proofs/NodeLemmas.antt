-- Partial matches of a pattern at nodes.
use Rattle.std.proofs.Common.{◌≡◌, ◌⊎◌, inl, inr, ℕ, zero, suc, ◌<◌, ◌≤◌, max, arith, List, [], ◌∷◌, ◌++◌, All, Option, Some, None, map, length, replicate, slice_get, slice_set, Contains, Vec, Global, refl, sym, ap, ◌∙◌, subst}
use Rattle.std.specs.Prelude.{Any}
use Rattle.std.proofs.lemmas.List.Elements.{Contains-push, Contains-push_cases, Contains-append_left, Contains-append_right, Contains-append_cases}
use Rattle.grind_term_graph.specs.declared.head.Head.{Head}
use Rattle.grind_term_graph.specs.declared.node.Node.{Node}
use Rattle.grind_term_graph.specs.Terms.{sort_at}
use Rattle.grind_classes.specs.Classes.{IsIn, IsActive, IsPartition}
use Rattle.grind_schemes.specs.declared.scheme.Scheme.{Scheme, Var, Apply}
use Rattle.grind_schemes.specs.Schemes.{HasVar, IsScheme}
use Rattle.grind_schemes.specs.Instances.{node_of, IsSubstitution}
use Rattle.grind_schemes.proofs.SchemeLemmas.{any_first, any_rest, any_none, any_cases, HasVar-Apply, IsScheme-Apply}
use Rattle.grind_ematch.specs.declared.partial.Partial.{Partial}
use Rattle.grind_ematch.specs.Matches.{Scene, generation_of, Meets}
use Rattle.grind_ematch.specs.Partials.{QueryData, IsQuery, AreSlots, Agrees, IsBound, IsPartial, Represents, HoldsBoth, Joins, AreTargets, MeetsClass, MeetClasses, MeetFrom, MeetsOneOf, IsVarOf, IsVarIn, ListsClasses, ListsOneOf, GoesOnAt}
use Rattle.grind_ematch.proofs.Along.{none_in, only_in, all_by}
use Rattle.grind_ematch.proofs.SlotLemmas.{AreSlots-empty, Agrees-empty, AreSlots-one, Agrees-one, Agrees-at, set_slot}
use Rattle.grind_ematch.proofs.Algebra.{Both, Represents-same, Represents-none, Represents-either, Represents-both}
use Rattle.grind_ematch.proofs.JoinLemmas.{partial_of}
use Rattle.grind_ematch.proofs.SceneLemmas.{some_is}
use Rattle.grind_ematch.proofs.PatternLemmas.{Meets-Apply, MeetClasses-push, MeetClasses-pushed, MeetClasses-length}

length_map : {X Y : Type 0} (f : X → Y) (xs : List X) → length (map f xs) ≡ length xs
length_map f [] = refl
length_map f (x ∷ xs) = ap suc (length_map f xs)

-- a substitution has a node for each variable
pub length_subst : (nodes : List Node) (vars subst' : List ℕ) → IsSubstitution nodes vars subst' → length subst' ≡ length vars
length_subst nodes vars subst' h =
    sym (length_map (sort_at nodes) subst') ∙ ap length h ∙ length_map (λ (sort : ℕ). Some sort) vars

-- of the sort of the variable
pub sort_of_subst : (nodes : List Node) (vars subst' : List ℕ) (variable n : ℕ) → IsSubstitution nodes vars subst'
    → slice_get subst' variable ≡ Some n → slice_get vars variable ≡ sort_at nodes n
sort_of_subst nodes [] [] variable n h e = absurd cc
sort_of_subst nodes [] (node ∷ subst') variable n h e = absurd cc
sort_of_subst nodes (first ∷ vars) [] variable n h e = absurd cc
sort_of_subst nodes (first ∷ vars) (node ∷ subst') zero n h e =
    let here : sort_at nodes node ≡ Some first = cc in
    let same : node ≡ n = some_is node n e in
    subst (λ (m : ℕ). Some first ≡ sort_at nodes m) same (sym here)
sort_of_subst nodes (first ∷ vars) (node ∷ subst') (suc variable) n h e =
    let rest : map (sort_at nodes) subst' ≡ map (λ (s : ℕ). Some s) vars = cc in
    sort_of_subst nodes vars subst' variable n rest e

any_push_cases : {X : Type 0} (P : X → Type 0) (xs : List X) (y : X) → Any P (xs ++ y ∷ []) → Any P xs ⊎ P y
any_push_cases P [] y h = elim (any_cases P y [] h) [ inl here ↦ inr here | inr later ↦ inl later ]
any_push_cases P (x ∷ xs) y h = elim (any_cases P x (xs ++ y ∷ []) h) [
  | inl here ↦ inl (any_first P x xs here)
  | inr later ↦ elim (any_push_cases P xs y later) [ inl before ↦ inl (any_rest P x xs before) | inr now ↦ inr now ]
]

pub var_of_pushed : (args : List Scheme) (arg : Scheme) (variable : ℕ) → IsVarOf (args ++ arg ∷ []) variable
    → IsVarOf args variable ⊎ IsVarIn arg variable
unfolding IsVarOf IsVarIn
var_of_pushed args arg variable h = any_push_cases (HasVar variable) args arg h

max_zero : (a g : ℕ) → g ≡ 0 → a ≡ max a g
max_zero a g e = omega arith

max_from : (a b g : ℕ) → b ≡ 0 → g ≡ max a b → a ≤ g
max_from a b g e f = omega arith

module _ (query : QueryData) where
  -- the empty partial match alone
  pub starts : (from : ℕ) (slots : List (Option ℕ)) (list : List Partial) → from ≤ query.most
      → slots ≡ replicate (length query.vars) None → list ≡ partial_of slots from ∷ []
      → ListsClasses query from [] [] list
  unfolding MeetFrom IsVarOf
  starts from slots list within e f = record {
    formed = λ partial there.
        let same : partial_of slots from ≡ partial = only_in (partial_of slots from) partial
        (subst (λ (l : List Partial). Contains l partial) f there) in
        subst (IsPartial query) same (record {
          slots = subst (λ (s : List (Option ℕ)). AreSlots query.scene query.vars s) (sym e) (AreSlots-empty query.scene query.vars);
          generation = within;
        });
    bound = λ partial there variable h. absurd (any_none (HasVar variable) h);
    sound = λ partial there subst' agrees.
        let same : partial_of slots from ≡ partial = only_in (partial_of slots from) partial
        (subst (λ (l : List Partial). Contains l partial) f there) in
        (0, (refl, refl), ap (λ (p : Partial). p.generation) (sym same) ∙ max_zero from 0 refl);
    complete = λ subst' g fits p l.
        let long : length subst' ≡ length query.vars = length_subst query.scene.nodes query.vars subst' fits in
        let slots_are : replicate (length subst') None ≡ slots = ap (λ (n : ℕ). replicate n None) long ∙ sym e in (
          partial_of slots from,
          subst (λ (l : List Partial). Contains l (partial_of slots from)) (sym f) (Contains-push [] (partial_of slots from)),
          subst (λ (s : List (Option ℕ)). Agrees query.scene s subst') slots_are (Agrees-empty query.scene subst'),
          max_from from p.0 g p.1.1 p.2,
        );
  }

  pub nodes_first : (pattern : Scheme) → ListsOneOf query pattern [] []
  unfolding MeetsOneOf
  nodes_first pattern = Represents-none query (MeetsOneOf query.scene pattern []) (IsVarIn pattern)
      (λ subst' g fits meets within. none_in meets.0 meets.1)

  -- a node that does not have the pattern adds nothing
  pub nodes_skip : (pattern : Scheme) (done : List ℕ) (n : ℕ) (list : List Partial)
      → ((subst' : List ℕ) (g : ℕ) → IsSubstitution query.scene.nodes query.vars subst' → Meets query.scene subst' pattern n g
      → g ≤ query.most → ⊥)
      → ListsOneOf query pattern done list → ListsOneOf query pattern (done ++ n ∷ []) list
  unfolding MeetsOneOf
  nodes_skip pattern done n list never h =
      Represents-same query (MeetsOneOf query.scene pattern done) (MeetsOneOf query.scene pattern (done ++ n ∷ []))
      (IsVarIn pattern) (IsVarIn pattern) list
      (λ subst' g meets. (meets.0, Contains-append_left done (n ∷ []) meets.0 meets.1, meets.2))
      (λ subst' g fits meets within. elim (Contains-push_cases done n meets.0 meets.1) [
        | inl before ↦ (meets.0, before, meets.2)
        | inr same ↦ absurd (never subst' g fits
            (subst (λ (m : ℕ). Meets query.scene subst' pattern m g) (sym same) meets.2) within)
      ])
      (λ variable w. w) h

  -- a node that has it adds its own partial matches
  pub nodes_more : (pattern : Scheme) (done : List ℕ) (n : ℕ) (list more new : List Partial) → HoldsBoth list more new
      → Represents query (λ subst' g. Meets query.scene subst' pattern n g) (IsVarIn pattern) more
      → ListsOneOf query pattern done list → ListsOneOf query pattern (done ++ n ∷ []) new
  unfolding MeetsOneOf
  nodes_more pattern done n list more new gathers own h =
      Represents-either query (MeetsOneOf query.scene pattern done) (λ subst' g. Meets query.scene subst' pattern n g)
      (MeetsOneOf query.scene pattern (done ++ n ∷ [])) (IsVarIn pattern) list more new gathers
      (λ subst' g meets. (meets.0, Contains-append_left done (n ∷ []) meets.0 meets.1, meets.2))
      (λ subst' g meets. (n, Contains-push done n, meets))
      (λ subst' g meets. elim (Contains-push_cases done n meets.0 meets.1) [
        | inl before ↦ inl (meets.0, before, meets.2)
        | inr same ↦ inr (subst (λ (m : ℕ). Meets query.scene subst' pattern m g) (sym same) meets.2)
      ])
      h own

  -- what the arguments of a node give is what the node gives
  pub node_by_args : (head : Head) (sort : ℕ) (args : Vec Scheme Global) (items : List Scheme) (n from : ℕ) (node : Node)
      (ids : List ℕ) (list : List Partial) → items ≡ args.items → slice_get query.scene.nodes n ≡ Some node
      → node ≡ node_of head sort ids → from ≡ generation_of query.scene n → IsActive query.scene.classes n
      → ListsClasses query from items ids list
      → Represents query (λ subst' g. Meets query.scene subst' (Apply head sort args) n g) (IsVarIn (Apply head sort args)) list
  unfolding MeetFrom IsVarOf IsVarIn
  node_by_args head sort args items n from node ids list e got is generation active h =
      Represents-same query (MeetFrom query.scene from items ids)
      (λ subst' g. Meets query.scene subst' (Apply head sort args) n g) (IsVarOf items) (IsVarIn (Apply head sort args)) list
      (λ subst' g m. (Meets-Apply query.scene subst' head sort args n g).1 (
        ids,
        m.0,
        active,
        got ∙ ap (λ (it : Node). Some it) is,
        subst (λ (l : List Scheme). MeetClasses query.scene l ids subst' m.0) e m.1,
        m.2 ∙ ap (λ (k : ℕ). max k m.0) generation,
      ))
      (λ subst' g fits meets within.
      let m = (Meets-Apply query.scene subst' head sort args n g).0 meets in
      let same : node_of head sort m.0 ≡ node_of head sort ids =
      some_is (node_of head sort m.0) (node_of head sort ids) (sym m.3 ∙ got ∙ ap (λ (it : Node). Some it) is) in
      let ids_are : m.0 ≡ ids = ap (λ (it : Node). it.args) same in (
        m.1,
        subst (λ (l : List Scheme). MeetClasses query.scene l ids subst' m.1) (sym e)
            (subst (λ (l : List ℕ). MeetClasses query.scene args.items l subst' m.1) ids_are m.4),
        m.5 ∙ ap (λ (k : ℕ). max k m.1) (sym generation),
      ))
      (λ variable w. subst (λ (l : List Scheme). Any (HasVar variable) l) (sym e) ((HasVar-Apply variable head sort args).0 w))
      h

  -- a node of another head, sort or number of arguments does not have the pattern
  pub other_node : (head : Head) (sort : ℕ) (args : Vec Scheme Global) (n count : ℕ) (node : Node)
      → count ≡ length args.items → slice_get query.scene.nodes n ≡ Some node
      → (((node.head ≡ head) × (node.sort ≡ sort) × (length node.args ≡ count)) → ⊥) → (subst' : List ℕ) (g : ℕ)
      → Meets query.scene subst' (Apply head sort args) n g → ⊥
  other_node head sort args n count node e got never subst' g meets =
      let m = (Meets-Apply query.scene subst' head sort args n g).0 meets in
      let same : node ≡ node_of head sort m.0 = some_is node (node_of head sort m.0) (sym got ∙ m.3) in
      let long : length args.items ≡ length m.0 = MeetClasses-length query.scene subst' args.items m.0 m.1 m.4 in
      never (
        ap (λ (it : Node). it.head) same,
        ap (λ (it : Node). it.sort) same,
        ap (λ (it : Node). length it.args) same ∙ sym long ∙ sym e,
      )

  -- nor has one of a later generation
  pub late_node : (head : Head) (sort : ℕ) (args : Vec Scheme Global) (n from : ℕ) → from ≡ generation_of query.scene n
      → query.most < from → (subst' : List ℕ) (g : ℕ) → Meets query.scene subst' (Apply head sort args) n g
      → g ≤ query.most → ⊥
  late_node head sort args n from e late subst' g meets within =
      let m = (Meets-Apply query.scene subst' head sort args n g).0 meets in
      too_late (generation_of query.scene n) m.1 g query.most from e late m.5 within
    where
      too_late : (a b g most from : ℕ) → from ≡ a → most < from → g ≡ max a b → g ≤ most → ⊥
      too_late a b g most from e l f m = omega arith

  -- a variable alone
  pub var_alone : IsQuery query → (number n root sort : ℕ) (slots : List (Option ℕ)) → number < length query.vars
      → slice_get query.vars number ≡ Some sort → sort_at query.scene.nodes n ≡ Some sort
      → IsIn query.scene.classes root n → IsIn query.scene.classes root root
      → slots ≡ slice_set (replicate (length query.vars) None) number (Some root)
      → Represents query (λ subst' g. Meets query.scene subst' (Var number) n g) (IsVarIn (Var number)) (partial_of slots 0 ∷ [])
  unfolding IsVarIn
  var_alone is number n root sort slots within sorted has own rooted e =
      let here : slice_get slots number ≡ Some (Some root) =
      ap (λ (s : List (Option ℕ)). slice_get s number) e ∙ set_slot (length query.vars) number root within in
      let one : Partial = partial_of slots 0 in
      let root_sort : sort_at query.scene.nodes root ≡ Some sort = is.scene.sorts root n (root, rooted, own) ∙ has in
      record {
        formed = λ partial there. subst (IsPartial query) (only_in one partial there) (record {
          slots = subst (λ (s : List (Option ℕ)). AreSlots query.scene query.vars s) (sym e)
              (AreSlots-one query.scene query.vars number root sort sorted rooted root_sort);
          generation = omega arith;
        });
        bound = λ partial there variable w.
            subst (λ (p : Partial). IsBound p.slots variable) (only_in one partial there)
            (root, subst (λ (v : ℕ). slice_get slots v ≡ Some (Some root)) w here);
        sound = λ partial there subst' agrees.
            let same = only_in one partial there in
            let agrees_one = subst (λ (p : Partial). Agrees query.scene p.slots subst') (sym same) agrees in
            let at = Agrees-at query.scene slots subst' number root here agrees_one in
            ((at.0, at.1, (root, at.2, own)), ap (λ (p : Partial). p.generation) (sym same));
        complete = λ subst' g fits meets l.
            let stands = meets.0 in
            let same : stands.2.0 ≡ root = is.partition.in_one stands.2.0 root n stands.2.2 own in
            let inside : IsIn query.scene.classes root stands.0 =
            subst (λ (r : ℕ). IsIn query.scene.classes r stands.0) same stands.2.1 in
            let long : length subst' ≡ length query.vars = length_subst query.scene.nodes query.vars subst' fits in
            let slots_are : slice_set (replicate (length subst') None) number (Some root) ≡ slots =
            ap (λ (k : ℕ). slice_set (replicate k None) number (Some root)) long ∙ sym e in (
              one,
              Contains-push [] one,
              subst (λ (s : List (Option ℕ)). Agrees query.scene s subst') slots_are
                  (Agrees-one query.scene subst' number root stands.0 stands.1 inside),
              omega arith,
            );
      }

-- arguments and one more
regroup : (from inner one other g : ℕ) → one ≡ max from inner → g ≡ max one other → g ≡ max from (max inner other)
regroup from inner one other g e f = omega arith

group : (from a b inner g : ℕ) → inner ≡ max a b → g ≡ max from inner → g ≡ max (max from a) b
group from a b inner g e f = omega arith

pub args_next : (query : QueryData) → IsPartition query.scene.classes → (from : ℕ) (args : List Scheme) (ids : List ℕ)
    (arg : Scheme) (id : ℕ) (nodes : List ℕ) (found list new : List Partial) → length args ≡ length ids
    → AreTargets query.scene arg id nodes → ListsOneOf query arg nodes list → Joins found list new
    → ListsClasses query from args ids found → ListsClasses query from (args ++ arg ∷ []) (ids ++ id ∷ []) new
unfolding MeetFrom MeetsOneOf Both
args_next query partition from args ids arg id nodes found list new long targets own joins h =
    let both = Represents-both query (MeetFrom query.scene from args ids) (MeetsOneOf query.scene arg nodes) (IsVarOf args)
    (IsVarIn arg) (IsVarOf (args ++ arg ∷ [])) found list new partition joins
    (λ variable w. var_of_pushed args arg variable w) h own in
    Represents-same query (Both (MeetFrom query.scene from args ids) (MeetsOneOf query.scene arg nodes))
    (MeetFrom query.scene from (args ++ arg ∷ []) (ids ++ id ∷ [])) (IsVarOf (args ++ arg ∷ [])) (IsVarOf (args ++ arg ∷ [])) new
    (λ subst' g m.
    let first = m.2 in
    let second = m.3 in
    let class : MeetsClass query.scene arg id subst' m.1 = (second.0, targets.within second.0 second.1, second.2) in (
      max first.0 m.1,
      MeetClasses-push query.scene subst' args ids arg id first.0 m.1 (max first.0 m.1) first.1 class refl,
      regroup from first.0 m.0 m.1 g first.2 m.4,
    ))
    (λ subst' g fits m within.
    let parts = MeetClasses-pushed query.scene subst' args ids arg id m.0 long m.1 in (
      max from parts.0,
      parts.1,
      (parts.0, parts.2, refl),
      targets.enough subst' parts.3.0 parts.1 parts.3.1 parts.3.2,
      group from parts.0 parts.1 m.0 g parts.4 m.2,
    ))
    (λ variable w. w) both

appended : (xs ys : List Partial) → HoldsBoth xs ys (xs ++ ys)
appended xs ys = record {
  kept = λ partial there. Contains-append_left xs ys partial there;
  added = λ partial there. Contains-append_right xs ys partial there;
  from = λ partial there. Contains-append_cases xs ys partial there;
}

got_some : (xs : List ℕ) (k : ℕ) → k < length xs → (x : ℕ) × (slice_get xs k ≡ Some x)
got_some [] k less = absurd (omega arith)
got_some (x ∷ xs) zero less = (x, refl)
got_some (x ∷ xs) (suc k) less = got_some xs k (omega arith)

-- a node of another sort adds nothing
pub bind_none : (query : QueryData) → IsQuery query → (number n : ℕ) (found : List Partial)
    → (sort_at query.scene.nodes n ≡ slice_get query.vars number → ⊥) → GoesOnAt query number n found found
bind_none query is number n found never done h =
    nodes_skip query (Var number) done n found (λ subst' g fits meets within.
    let stands = meets.0 in
    never (sym (is.scene.sorts stands.0 n stands.2)
    ∙ sym (sort_of_subst query.scene.nodes query.vars subst' number stands.0 fits stands.1))) h

-- a node of its sort adds the variable alone
pub bind_some : (query : QueryData) → IsQuery query → (number n root : ℕ) (slots : List (Option ℕ)) (found new : List Partial)
    → number < length query.vars → sort_at query.scene.nodes n ≡ slice_get query.vars number
    → IsIn query.scene.classes root n → IsIn query.scene.classes root root
    → slots ≡ slice_set (replicate (length query.vars) None) number (Some root)
    → new ≡ found ++ partial_of slots 0 ∷ [] → GoesOnAt query number n found new
bind_some query is number n root slots found new within sorted own rooted e f done h =
    let sort = got_some query.vars number within in
    let alone = var_alone query is number n root sort.0 slots within sort.1 (sorted ∙ sort.1) own rooted e in
    let gathers = subst (λ (list : List Partial). HoldsBoth found (partial_of slots 0 ∷ []) list) (sym f)
    (appended found (partial_of slots 0 ∷ [])) in
    nodes_more query (Var number) done n found (partial_of slots 0 ∷ []) new gathers alone h

-- a node by its parts
pub node_is : (node : Node) (head : Head) (sort : ℕ) (ids : List ℕ) → node.head ≡ head → node.sort ≡ sort → ids ≡ node.args
    → node ≡ node_of head sort ids
node_is node head sort ids e f g = let back = sym g in λ i. node_of (e i) (f i) (back i)

-- the arguments of a well-formed head are
pub formed_args : (vars : List ℕ) (head : Head) (sort : ℕ) (args : Vec Scheme Global) (pattern : Scheme) (items : List Scheme)
    → pattern ≡ Apply head sort args → items ≡ args.items → IsScheme vars pattern → All (IsScheme vars) items
formed_args vars head sort args pattern items e f h =
    let whole = (IsScheme-Apply vars head sort args).0 (subst (IsScheme vars) e h) in
    subst (λ (list : List Scheme). All (IsScheme vars) list) (sym f) whole.1

-- the nodes at which a pattern is tried are active
pub active_targets : (scene : Scene) (pattern : Scheme) (id : ℕ) (nodes : List ℕ) → AreTargets scene pattern id nodes
    → All (IsActive scene.classes) nodes
active_targets scene pattern id nodes h =
    all_by (IsActive scene.classes) nodes (λ n there. let together = h.within n there in (together.0, together.2))
