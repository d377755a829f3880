-- Each answer's claim is typed.
use Rattle.std.specs.Prelude.{◌≡◌, ℕ, zero, suc, ◌<◌, Bool, true, false, List, [], ◌∷◌, Option, Some, IsSome, All, Contains, length, map, take, slice_get, refl}
use Rattle.std.specs.Option.{option_map}
use Rattle.std.proofs.Common.{arith, sym, ap, subst, ◌∙◌, inl, inr}
use Rattle.std.proofs.lemmas.List.{length-take-le}
use Rattle.std.proofs.lemmas.List.Elements.{All-nil, All-cons}
use Rattle.std.proofs.lemmas.Option.{slice_get_within, get_or_from_slice_get}
use Rattle.grind_term_graph.specs.declared.head.Head.{Head}
use Rattle.grind_term_graph.specs.declared.head.Head.TheVariants as heads
use Rattle.grind_term_graph.specs.declared.node.Node.{Node}
use Rattle.grind_term_graph.specs.Terms.{prop, sort_at}
use Rattle.grind_term_graph.specs.Shape.{IsShaped, AreTwoAlike, WellShaped, IsBegun}
use Rattle.grind_term_graph.proofs.Tables.{WellShaped-at}
use Rattle.grind_truth_prop.specs.Kernel.{Claim, Same, Differ, IsFormed, IsEquation}
use Rattle.grind_truth_prop.specs.Given.{couple, truth_node}
use Rattle.grind_truth_prop.specs.Evidence.{IsGiven}
use Rattle.grind_truth_prop.specs.Classed.{literal}
use Rattle.grind_truth_prop.specs.Equations.{AreAlong, parted_premises}
use Rattle.grind_truth_prop.specs.Connectives.{IsConnective, JoinsTruths}
use Rattle.grind_truth_prop.specs.Laws.{HasTable, ClassedIsTyped, SidesAreTyped, JoinedIsTyped, PartedIsTyped}
use Rattle.grind_truth_prop.specs.declared.types.Couple.{Couple}
use Rattle.grind_truth_prop.specs.declared.types.Known.{Known}
use Rattle.grind_truth_prop.proofs.TermLemmas.{some_and, is_at}

-- ---- sorts

sort_take : (nodes : List Node) (n a : ℕ) → a < n → sort_at (take n nodes) a ≡ sort_at nodes a
sort_take nodes zero a below = absurd (omega arith)
sort_take [] (suc n) a below = refl
sort_take (x ∷ nodes) (suc n) zero below = refl
sort_take (x ∷ nodes) (suc n) (suc a) below = sort_take nodes n a (omega arith)

sort_some : (nodes : List Node) (a : ℕ) → a < length nodes → IsSome (sort_at nodes a)
sort_some [] a below = absurd (omega arith)
sort_some (x ∷ nodes) zero below = refl
sort_some (x ∷ nodes) (suc a) below = sort_some nodes a (omega arith)

sort_is : (nodes : List Node) (n : ℕ) (node : Node) (sort : ℕ) → slice_get nodes n ≡ Some node → node.sort ≡ sort → sort_at nodes n ≡ Some sort
sort_is nodes n node sort there is = ap (option_map (λ (it : Node). it.sort)) there ∙ ap (λ s. Some s) is

-- a node of a table is shaped after those before it
pub shaped_at : (known : Known) (n : ℕ) (node : Node) → HasTable known → slice_get known.terms.nodes n ≡ Some node
    → WellShaped (take n known.terms.nodes) node
shaped_at known n node table there = WellShaped-at [] known.terms.nodes n node table.0 there

-- its arguments stand before it
pub lower_at : (known : Known) (n : ℕ) (node : Node) → HasTable known → slice_get known.terms.nodes n ≡ Some node
    → All (λ arg. arg < n) node.args
lower_at known n node table there k d l =
    let within = slice_get_within known.terms.nodes n node there in
    let front : length (take n known.terms.nodes) ≡ n = length-take-le n known.terms.nodes (omega (arith, within)) in
    let below = (shaped_at known n node table there).0 k d l in
    omega (arith, front, below)

shaped_prop : (head : Head) (sort : ℕ) (sorts : List (Option ℕ)) (args : List ℕ) → JoinsTruths head args → IsShaped head sort sorts → sort ≡ prop
shaped_prop heads.Not sort sorts args joins shaped = shaped.0
shaped_prop heads.And sort sorts args joins shaped = shaped.0
shaped_prop heads.Or sort sorts args joins shaped = shaped.0
shaped_prop heads.Implies sort sorts args joins shaped = shaped.0
shaped_prop heads.Eq sort sorts args joins shaped = shaped.0
shaped_prop heads.True sort sorts args joins shaped = absurd joins
shaped_prop heads.False sort sorts args joins shaped = absurd joins
shaped_prop heads.Le sort sorts args joins shaped = absurd joins
shaped_prop (heads.Int number) sort sorts args joins shaped = absurd joins
shaped_prop heads.Add sort sorts args joins shaped = absurd joins
shaped_prop heads.Neg sort sorts args joins shaped = absurd joins
shaped_prop heads.Mul sort sorts args joins shaped = absurd joins
shaped_prop (heads.Fun function) sort sorts args joins shaped = absurd joins
shaped_prop (heads.Const constant) sort sorts args joins shaped = absurd joins

-- a connective is a formula
pub connective_formula : (known : Known) (n : ℕ) (head : Head) (args : List ℕ) → HasTable known → IsConnective known.terms.nodes n head args
    → sort_at known.terms.nodes n ≡ Some prop
connective_formula known n head args table conn =
    let found = some_and (slice_get known.terms.nodes n) (is_at head args) conn.stands in
    let shaped = (shaped_at known n found.0 table found.1).1 in
    let sorts = map (sort_at (take n known.terms.nodes)) found.0.args in
    sort_is known.terms.nodes n found.0 prop found.1
    (shaped_prop head found.0.sort sorts args conn.joins (subst (λ h. IsShaped h found.0.sort sorts) found.2.0 shaped))

record EquationSorts (nodes : List Node) (n a b : ℕ) : Type 0 where
  pub formula : sort_at nodes n ≡ Some prop
  pub left : IsSome (sort_at nodes a)
  pub alike : sort_at nodes a ≡ sort_at nodes b

-- an equation is a formula, and its sides are of one sort
equation_sorts : (known : Known) (n a b : ℕ) → HasTable known → IsEquation known.terms.nodes n a b → EquationSorts known.terms.nodes n a b
equation_sorts known n a b table is =
    let nodes = known.terms.nodes in
    let found = some_and (slice_get nodes n) (is_at heads.Eq (a ∷ b ∷ [])) is in
    let within = slice_get_within nodes n found.0 found.1 in
    let shaped = subst (λ h. IsShaped h found.0.sort (map (sort_at (take n nodes)) found.0.args)) found.2.0 (shaped_at known n found.0 table found.1).1 in
    let two : AreTwoAlike (map (sort_at (take n nodes)) (a ∷ b ∷ [])) =
    subst (λ xs. AreTwoAlike (map (sort_at (take n nodes)) xs)) found.2.1 shaped.1 in
    let lower = subst (λ xs. All (λ arg. arg < n) xs) found.2.1 (lower_at known n found.0 table found.1) in
    let first : a < n = lower 0 0 (omega arith) in
    let second : b < n = lower 1 0 (omega arith) in
    record {
      formula = sort_is nodes n found.0 prop found.1 shaped.0;
      left = sort_some nodes a (omega (arith, first, within));
      alike = sym (sort_take nodes n a first) ∙ two ∙ sort_take nodes n b second;
    }

-- a literal of a formula is well formed
pub formed_literal : (nodes : List Node) (n : ℕ) (value : Bool) → sort_at nodes n ≡ Some prop → IsFormed nodes (literal n value)
formed_literal nodes n true is = is
formed_literal nodes n false is = is

begun_sort : (nodes : List Node) (value : Bool) → IsBegun nodes → sort_at nodes (truth_node value) ≡ Some prop
begun_sort nodes true begun = ap (λ (list : List Node). sort_at list 0) begun.1
begun_sort nodes false begun = ap (λ (list : List Node). sort_at list 1) begun.1

-- ---- premises

one_given : (known : Known) (lists : List (List ℕ)) (claim : Claim) → IsGiven known lists claim → All (IsGiven known lists) (claim ∷ [])
one_given known lists claim is = All-cons (IsGiven known lists) claim [] is (All-nil (IsGiven known lists))

-- ---- laws

pub classed_is_typed : ClassedIsTyped
classed_is_typed known lists node true fits table at = (
  (node, inl (refl, refl)),
  record {
    given = one_given known lists (Same node (truth_node true)) at.together;
    formed = fits.one_sort node (truth_node true) at.together ∙ begun_sort known.terms.nodes true table.1;
  },
)
classed_is_typed known lists node false fits table at = (
  (node, inr (refl, refl)),
  record {
    given = one_given known lists (Same node (truth_node false)) at.together;
    formed = fits.one_sort node (truth_node false) at.together ∙ begun_sort known.terms.nodes false table.1;
  },
)

pub sides_are_typed : SidesAreTyped
sides_are_typed known lists node premise claim fits table at =
    let a = at.0 in
    let b = at.1 in
    let sorts = equation_sorts known node a b table at.2 in
    elim at.3 [
      | inl join ↦ (
        (node, a, b, at.2, inl (ap (λ (it : Claim). it ∷ []) join.1, join.2)),
        record {
          given = one_given known lists premise (subst (λ (it : Claim). IsGiven known lists it) (sym join.1) join.0.holds);
          formed = subst (λ (it : Claim). IsFormed known.terms.nodes it) (sym join.2) (sorts.left, sorts.alike);
        },
      )
      | inr part ↦ (
        (node, a, b, at.2, inr (ap (λ (it : Claim). it ∷ []) part.1, part.2)),
        record {
          given = one_given known lists premise (subst (λ (it : Claim). IsGiven known lists it) (sym part.1) part.0.fails);
          formed = subst (λ (it : Claim). IsFormed known.terms.nodes it) (sym part.2) (sorts.left, sorts.alike);
        },
      )
    ]

pub joined_is_typed : JoinedIsTyped
joined_is_typed known lists node a b fits table at =
    let sorts = equation_sorts known node a b table at.equation in (
      (a, b, node, inl at.equation, inl (refl, refl)),
      record { given = one_given known lists (Same a b) at.together; formed = sorts.formula },
    )

-- the pair at a place is one of those that are claimed to be different
stands_there : (known : Known) (place : ℕ) (pair : Couple) → slice_get known.apart place ≡ Some pair
    → Contains known.apart (couple pair.left pair.right)
stands_there known place pair there =
    (place, slice_get_within known.apart place pair there, get_or_from_slice_get known.apart place pair pair there)

parted_given : (known : Known) (lists : List (List ℕ)) (a b place : ℕ) (pair : Couple) → slice_get known.apart place ≡ Some pair
    → AreAlong lists a b pair → All (IsGiven known lists) (parted_premises a b pair)
parted_given known lists a b place pair there along =
    All-cons (IsGiven known lists) (Differ pair.left pair.right) (Same a pair.left ∷ Same b pair.right ∷ []) (stands_there known place pair there)
    (All-cons (IsGiven known lists) (Same a pair.left) (Same b pair.right ∷ []) along.0
    (one_given known lists (Same b pair.right) along.1))

pub parted_is_typed : PartedIsTyped
parted_is_typed known lists node a b place pair fits table at =
    let sorts = equation_sorts known node a b table at.equation in (
      λ along. record {
        rule = (a, b, refl, inl (inr (inr (pair.left, pair.right, refl))));
        rests = record { given = parted_given known lists a b place pair at.stands along; formed = (sorts.left, sorts.alike) };
      },
      λ across. record {
        rule = (a, b, refl, inr (inr (inr (pair.left, pair.right, refl))));
        rests = record { given = parted_given known lists b a place pair at.stands across; formed = (sorts.left, sorts.alike) };
      },
      (a, b, node, inl at.equation, inr (refl, refl)),
      sorts.formula,
    )
