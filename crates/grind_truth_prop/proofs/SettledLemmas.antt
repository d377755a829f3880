-- What a truth table gives is typed, and where it gives nothing no line does.
use Rattle.std.specs.Prelude.{◌≡◌, ◌≢◌, ℕ, zero, suc, ◌<◌, ◌≤◌, ◌⊎◌, Bool, true, false, not, List, [], ◌∷◌, Option, Some, IsSome, All, Contains, length, map, nat_eq, slice_get, refl, if◌then◌else◌}
use Rattle.std.specs.List.{AllPairs}
use Rattle.std.specs.Option.{option_map, option_or, unwrap_or}
use Rattle.std.proofs.Common.{arith, sym, ap, subst, ◌∙◌, inl, inr}
use Rattle.std.proofs.lemmas.Bool.{cond-true, cond-false, eq-eqb, ne_eqb, false≢true, not-true}
use Rattle.std.proofs.lemmas.List.{length-map}
use Rattle.std.proofs.lemmas.List.Elements.{All-nil, All-cons, All-head, All-tail, All-contains, All-map, All-weaker}
use Rattle.std.proofs.lemmas.Option.{slice_get_within, same_Some}
use Rattle.grind_term_graph.specs.declared.head.Head.{Head}
use Rattle.grind_term_graph.specs.declared.head.Head.TheVariants as heads
use Rattle.grind_term_graph.specs.declared.node.Node.{Node}
use Rattle.grind_term_graph.specs.Terms.{prop, sort_at}
use Rattle.grind_truth_prop.specs.Kernel.{Claim, Holds, Fails, Absurd, SaysTable}
use Rattle.grind_truth_prop.specs.Evidence.{IsGiven, IsTruthAmong, AreTruthsAmong}
use Rattle.grind_truth_prop.specs.Classed.{literal}
use Rattle.grind_truth_prop.specs.Connectives.{AreTwo, JoinsTruths, IsConnective, Keeps, IsPossible, AreFreeNodes}
use Rattle.grind_truth_prop.specs.Laws.{HasTable, SettledIsTyped, ContradictedIsTyped}
use Rattle.grind_truth_prop.specs.declared.types.Known.{Known}
use Rattle.grind_truth_prop.proofs.KernelLemmas.{free_truth, joined_truth, truth_of, conclusion_truth, literal_truth, Follows}
use Rattle.grind_truth_prop.proofs.TermLemmas.{some_and, is_at, all_of, first_or_other, one_of_longer}
use Rattle.grind_truth_prop.proofs.TableLemmas.{truth_in_free, no_truth_outside, truth_of_free, truth_at_node}
use Rattle.grind_truth_prop.proofs.LawLemmas.{lower_at, connective_formula, formed_literal}

-- a connective gives a truth wherever its arguments have truths
table_gives : (head : Head) (args : List ℕ) (truth : ℕ → Bool) → JoinsTruths head args
    → (value : Bool) × (joined_truth head (map (λ arg. Some (truth arg)) args) ≡ Some value)
table_gives heads.Not args truth joins = (_, ap (λ xs. joined_truth heads.Not (map (λ arg. Some (truth arg)) xs)) joins.1)
table_gives heads.And args truth joins = (_, ap (λ xs. joined_truth heads.And (map (λ arg. Some (truth arg)) xs)) joins.2)
table_gives heads.Or args truth joins = (_, ap (λ xs. joined_truth heads.Or (map (λ arg. Some (truth arg)) xs)) joins.2)
table_gives heads.Implies args truth joins = (_, ap (λ xs. joined_truth heads.Implies (map (λ arg. Some (truth arg)) xs)) joins.2)
table_gives heads.Eq args truth joins = (_, ap (λ xs. joined_truth heads.Eq (map (λ arg. Some (truth arg)) xs)) joins.2)
table_gives heads.True args truth joins = absurd joins
table_gives heads.False args truth joins = absurd joins
table_gives heads.Le args truth joins = absurd joins
table_gives (heads.Int number) args truth joins = absurd joins
table_gives heads.Add args truth joins = absurd joins
table_gives heads.Neg args truth joins = absurd joins
table_gives heads.Mul args truth joins = absurd joins
table_gives (heads.Fun function) args truth joins = absurd joins
table_gives (heads.Const constant) args truth joins = absurd joins

in_two : (args : List ℕ) (two : AreTwo args) (m : ℕ) → Contains args m → (m ≡ two.0) ⊎ (m ≡ two.1)
in_two args two m has = elim (first_or_other two.0 (two.1 ∷ []) m (subst (λ (xs : List ℕ). Contains xs m) two.2 has)) [
  | inl is ↦ inl is
  | inr other ↦ elim (first_or_other two.1 [] m other) [ inl is ↦ inr is | inr also ↦ absurd (omega (arith, also.1)) ]
]

-- a connective has at most two arguments, each among two nodes
two_at_most : (head : Head) (args : List ℕ) → JoinsTruths head args → (a : ℕ) × (b : ℕ) × ((m : ℕ) → Contains args m → (m ≡ a) ⊎ (m ≡ b))
two_at_most heads.Not args joins = (joins.0, joins.0, λ m has. elim (first_or_other joins.0 [] m (subst (λ (xs : List ℕ). Contains xs m) joins.1 has)) [ inl is ↦ inl is | inr also ↦ absurd (omega (arith, also.1)) ])
two_at_most heads.And args joins = (joins.0, joins.1, in_two args joins)
two_at_most heads.Or args joins = (joins.0, joins.1, in_two args joins)
two_at_most heads.Implies args joins = (joins.0, joins.1, in_two args joins)
two_at_most heads.Eq args joins = (joins.0, joins.1, in_two args joins)
two_at_most heads.True args joins = absurd joins
two_at_most heads.False args joins = absurd joins
two_at_most heads.Le args joins = absurd joins
two_at_most (heads.Int number) args joins = absurd joins
two_at_most heads.Add args joins = absurd joins
two_at_most heads.Neg args joins = absurd joins
two_at_most heads.Mul args joins = absurd joins
two_at_most (heads.Fun function) args joins = absurd joins
two_at_most (heads.Const constant) args joins = absurd joins

-- different nodes among two are at most two
few_of : (free : List ℕ) (a b : ℕ) → AllPairs (λ x y. x ≢ y) free → ((m : ℕ) → Contains free m → (m ≡ a) ⊎ (m ≡ b)) → length free ≤ 6
few_of [] a b once among = omega arith
few_of (x ∷ []) a b once among = omega arith
few_of (x ∷ y ∷ []) a b once among = omega arith
few_of (x ∷ y ∷ z ∷ rest) a b once among =
    let xy : x ≢ y = once 0 1 0 (omega arith) (omega arith) in
    let xz : x ≢ z = once 0 2 0 (omega arith) (omega arith) in
    let yz : y ≢ z = once 1 2 0 (omega arith) (omega arith) in
    absurd (elim (among x (0, omega arith, refl)) [
      | inl xa ↦ elim (among y (1, omega arith, refl)) [
        | inl ya ↦ xy (xa ∙ sym ya)
        | inr yb ↦ elim (among z (2, omega arith, refl)) [ inl za ↦ xz (xa ∙ sym za) | inr zb ↦ yz (yb ∙ sym zb) ]
      ]
      | inr xb ↦ elim (among y (1, omega arith, refl)) [
        | inl ya ↦ elim (among z (2, omega arith, refl)) [ inl za ↦ yz (ya ∙ sym za) | inr zb ↦ xz (xb ∙ sym zb) ]
        | inr yb ↦ xy (xb ∙ sym yb)
      ]
    ])

is_given : (known : Known) (over : List ℕ) (lists : List (List ℕ)) (claim : Claim) → IsTruthAmong known over claim → IsGiven known lists claim
is_given known over lists claim it = elim it.2 [
  | inl holds ↦ subst (λ (c : Claim). IsGiven known lists c) (sym holds.1) holds.0
  | inr fails ↦ subst (λ (c : Claim). IsGiven known lists c) (sym fails.1) fails.0
]

get_node : (nodes : List Node) (m : ℕ) → m < length nodes → (it : Node) × (slice_get nodes m ≡ Some it)
get_node [] m below = absurd (omega arith)
get_node (x ∷ nodes) zero below = (x, refl)
get_node (x ∷ nodes) (suc m) below = get_node nodes m (omega arith)

map_given : (given : ℕ → Option Bool) (truth : ℕ → Bool) (args : List ℕ) → ((m : ℕ) → Contains args m → given m ≡ Some (truth m))
    → map given args ≡ map (λ arg. Some (truth arg)) args
map_given given truth [] h = refl
map_given given truth (x ∷ xs) h =
    let first : given x ≡ Some (truth x) = h x (0, omega arith, refl) in
    let rest = map_given given truth xs (λ m has. h m (one_of_longer x xs m has)) in
    (λ i. first i ∷ rest i)

-- ---- the truths of a connective and its arguments

module _ (known : Known) (node : ℕ) (head : Head) (args free : List ℕ) (table : HasTable known)
    (conn : IsConnective known.terms.nodes node head args) (is : AreFreeNodes free args) where
  abbrev nodes : List Node
  nodes = known.terms.nodes

  lower : All (λ arg. arg < node) args
  lower =
      let found = some_and (slice_get nodes node) (is_at head args) conn.stands in
      subst (λ (xs : List ℕ). All (λ arg. arg < node) xs) found.2.1 (lower_at known node found.0 table found.1)

  not_free : ¬ Contains free node
  not_free has =
      let below = All-contains (λ arg. arg < node) args node lower ((is.exactly node).0 has) in omega (arith, below)

  few : length free ≤ 6
  few =
      let two = two_at_most head args conn.joins in
      few_of free two.0 two.1 is.once (λ m has. two.2 m ((is.exactly m).0 has))

  formulas : All (λ n. sort_at nodes n ≡ Some prop) free
  formulas = all_of (λ n. sort_at nodes n ≡ Some prop) free
      (λ n has. All-contains (λ m. sort_at nodes m ≡ Some prop) args n conn.formulas ((is.exactly n).0 has))

  pub formula_among : (n : ℕ) → Contains (node ∷ args) n → sort_at nodes n ≡ Some prop
  formula_among n has = elim (first_or_other node args n has) [
    | inl e ↦ subst (λ (m : ℕ). sort_at nodes m ≡ Some prop) (sym e) (connective_formula known node head args table conn)
    | inr other ↦ All-contains (λ m. sort_at nodes m ≡ Some prop) args n conn.formulas other
  ]

  module _ (truths : List Bool) (truth : ℕ → Bool) (own : (m : ℕ) → Contains args m → free_truth free truths m ≡ Some (truth m))
      (whole : joined_truth head (map (λ arg. Some (truth arg)) args) ≡ Some (truth node)) where
    abbrev given : ℕ → Option Bool
    given n = truth_of nodes free truths n

    at_argument : (m : ℕ) → Contains args m → given m ≡ Some (truth m)
    at_argument m has =
        let below = All-contains (λ arg. arg < node) args m lower has in
        let found = some_and (slice_get nodes node) (is_at head args) conn.stands in
        let within = slice_get_within nodes node found.0 found.1 in
        let it = get_node nodes m (omega (arith, below, within)) in
        truth_at_node free truths nodes m it.0 it.1 (lower_at known m it.0 table it.1)
        ∙ ap (λ o. option_or o (joined_truth it.0.head (map given it.0.args))) (own m has)

    at_whole : given node ≡ Some (truth node)
    at_whole =
        let found = some_and (slice_get nodes node) (is_at head args) conn.stands in
        truth_at_node free truths nodes node found.0 found.1 (lower_at known node found.0 table found.1)
        ∙ ap (λ o. option_or o (joined_truth found.0.head (map given found.0.args))) (no_truth_outside free truths node not_free)
        ∙ (λ i. joined_truth (found.2.0 i) (map given (found.2.1 i)))
        ∙ ap (λ ts. joined_truth head ts) (map_given given truth args at_argument)
        ∙ whole

    at_each : (m : ℕ) → Contains (node ∷ args) m → given m ≡ Some (truth m)
    at_each m has = elim (first_or_other node args m has) [
      | inl e ↦ subst (λ (k : ℕ). given k ≡ Some (truth k)) (sym e) at_whole
      | inr other ↦ at_argument m other
    ]

    kept : IsPossible known node head args truth → (m : ℕ) → Contains (node ∷ args) m → Keeps known m (truth m)
    kept possible m has = elim (first_or_other node args m has) [
      | inl e ↦ subst (λ (k : ℕ). Keeps known k (truth k)) (sym e) possible.whole
      | inr other ↦ All-contains (λ k. Keeps known k (truth k)) args m possible.agrees.arguments other
    ]

    -- a known truth among them has a truth
    premise_given : (claim : Claim) → IsTruthAmong known (node ∷ args) claim → IsSome (literal_truth given claim)
    premise_given claim it = elim it.2 [
      | inl holds ↦ subst (λ (c : Claim). IsSome (literal_truth given c)) (sym holds.1)
          (subst (λ (o : Option Bool). IsSome o) (sym (at_each it.0 it.1)) refl)
      | inr fails ↦ subst (λ (c : Claim). IsSome (literal_truth given c)) (sym fails.1)
          (subst (λ (o : Option Bool). IsSome (option_map not o)) (sym (at_each it.0 it.1)) refl)
    ]

    -- where the truths are as they are known, it is true
    premise_true : IsPossible known node head args truth → (claim : Claim) → IsTruthAmong known (node ∷ args) claim
        → literal_truth given claim ≡ Some true
    premise_true possible claim it = elim it.2 [
      | inl holds ↦ subst (λ (c : Claim). literal_truth given c ≡ Some true) (sym holds.1)
          (at_each it.0 it.1 ∙ ap (λ r. Some r) ((kept possible it.0 it.1).holds holds.0))
      | inr fails ↦ subst (λ (c : Claim). literal_truth given c ≡ Some true) (sym fails.1)
          (ap (option_map not) (at_each it.0 it.1 ∙ ap (λ r. Some r) ((kept possible it.0 it.1).fails fails.0)))
    ]

    -- the truth of a literal of one of them
    literal_given : (n : ℕ) (value : Bool) → Contains (node ∷ args) n → IsSome (conclusion_truth given (literal n value))
    literal_given n true has = subst (λ (o : Option Bool). IsSome o) (sym (at_each n has)) refl
    literal_given n false has = subst (λ (o : Option Bool). IsSome (option_map not o)) (sym (at_each n has)) refl

    literal_true : (n : ℕ) (value : Bool) → Contains (node ∷ args) n → truth n ≡ value → conclusion_truth given (literal n value) ≡ Some true
    literal_true n true has e = at_each n has ∙ ap (λ r. Some r) e
    literal_true n false has e = ap (option_map not) (at_each n has ∙ ap (λ r. Some r) e)

    literal_says : (n : ℕ) (value : Bool) → Contains (node ∷ args) n → conclusion_truth given (literal n value) ≡ Some true → truth n ≡ value
    literal_says n true has e = same_Some (truth n) true (sym (at_each n has) ∙ e)
    literal_says n false has e = not-true (truth n) (same_Some (not (truth n)) true (sym (ap (option_map not) (at_each n has)) ∙ e))

    -- where every premise is true, the truths are as they are known
    keeps_from : (premises : List Claim) → AreTruthsAmong known (node ∷ args) premises
        → All (λ (it : Claim). literal_truth given it ≡ Some true) premises
        → (m : ℕ) → Contains (node ∷ args) m → Keeps known m (truth m)
    keeps_from premises are each m has = record {
      holds = λ k. literal_says m true has
          (All-contains (λ (it : Claim). literal_truth given it ≡ Some true) premises (Holds m) each (are.each (Holds m) (m, has, inl (k, refl))));
      fails = λ k. literal_says m false has
          (All-contains (λ (it : Claim). literal_truth given it ≡ Some true) premises (Fails m) each (are.each (Fails m) (m, has, inr (k, refl))));
    }

    possible_from : (premises : List Claim) → AreTruthsAmong known (node ∷ args) premises
        → All (λ (it : Claim). literal_truth given it ≡ Some true) premises
        → IsPossible known node head args truth
    possible_from premises are all =
        record {
          agrees = record {
            table = whole;
            arguments = all_of (λ m. Keeps known m (truth m)) args (λ m has. keeps_from premises are all m (one_of_longer node args m has));
          };
          whole = keeps_from premises are all node (0, omega arith, refl);
        }

    -- what is true in each possible assignment follows from the known truths
    follows_literal : (premises : List Claim) → AreTruthsAmong known (node ∷ args) premises → (n : ℕ) (value : Bool) → Contains (node ∷ args) n
        → ((other : ℕ → Bool) → IsPossible known node head args other → other n ≡ value)
        → Follows given premises (literal n value)
    follows_literal premises are n value has fixed = record {
      expressed = All-weaker (IsTruthAmong known (node ∷ args)) (λ (it : Claim). IsSome (literal_truth given it)) premise_given premises are.only;
      concluded = literal_given n value has;
      follows = λ all. literal_true n value has (fixed truth (possible_from premises are all));
    }

    -- where no assignment is possible, a contradiction follows
    follows_absurd : (premises : List Claim) → AreTruthsAmong known (node ∷ args) premises
        → ((other : ℕ → Bool) → ¬ IsPossible known node head args other)
        → Follows given premises Absurd
    follows_absurd premises are never = record {
      expressed = All-weaker (IsTruthAmong known (node ∷ args)) (λ (it : Claim). IsSome (literal_truth given it)) premise_given premises are.only;
      concluded = refl;
      follows = λ all. absurd (never truth (possible_from premises are all));
    }

    -- in a possible assignment all premises are true
    all_true : IsPossible known node head args truth → (premises : List Claim) → All (IsTruthAmong known (node ∷ args)) premises
        → All (λ (it : Claim). literal_truth given it ≡ Some true) premises
    all_true possible premises only =
        All-weaker (IsTruthAmong known (node ∷ args)) (λ (it : Claim). literal_truth given it ≡ Some true)
        (premise_true possible) premises only

    -- so what follows is true in it
    literal_holds : IsPossible known node head args truth → (premises : List Claim) → All (IsTruthAmong known (node ∷ args)) premises
        → (n : ℕ) (value : Bool) → Contains (node ∷ args) n
        → Follows given premises (literal n value) → truth n ≡ value
    literal_holds possible premises only n value has follows =
        literal_says n value has (follows.follows (all_true possible premises only))

    nothing_absurd : IsPossible known node head args truth → (premises : List Claim) → All (IsTruthAmong known (node ∷ args)) premises
        → ¬ Follows given premises Absurd
    nothing_absurd possible premises only follows =
        false≢true (same_Some false true (follows.follows (all_true possible premises only)))

  -- ---- each assignment to the free nodes goes on to the connective

  abbrev free_value : List Bool → ℕ → Bool
  free_value truths m = unwrap_or (free_truth free truths m) false

  abbrev gone_on : List Bool → ℕ → Bool
  gone_on truths m =
      if nat_eq m node then (table_gives head args (free_value truths) conn.joins).0 else free_value truths m

  own_truth : (truths : List Bool) → length truths ≡ length free → (m : ℕ) → Contains args m → free_truth free truths m ≡ Some (gone_on truths m)
  own_truth truths count m has =
      let it = truth_in_free free truths m count ((is.exactly m).1 has) in
      let below = All-contains (λ arg. arg < node) args m lower has in
      it.1 ∙ ap (λ r. Some r) (sym (
      cond-false (nat_eq m node) (table_gives head args (free_value truths) conn.joins).0 (free_value truths m)
      (ne_eqb m node (λ e. omega (arith, below, e)))
      ∙ ap (λ o. unwrap_or o false) it.1
      ))

  whole_truth : (truths : List Bool) → joined_truth head (map (λ arg. Some (gone_on truths arg)) args) ≡ Some (gone_on truths node)
  whole_truth truths =
      let gives = table_gives head args (free_value truths) conn.joins in
      ap (λ ts. joined_truth head ts) (map_given (λ m. Some (gone_on truths m)) (free_value truths) args (λ m has.
      let below = All-contains (λ arg. arg < node) args m lower has in
      ap (λ r. Some r) (cond-false (nat_eq m node) gives.0 (free_value truths m) (ne_eqb m node (λ e. omega (arith, below, e))))))
      ∙ gives.1
      ∙ ap (λ r. Some r) (sym (cond-true (nat_eq node node) gives.0 (free_value truths node) (eq-eqb node node refl)))

  -- the line that says a fixed truth
  pub table_says : (premises : List Claim) → AreTruthsAmong known (node ∷ args) premises → (n : ℕ) (value : Bool) → Contains (node ∷ args) n
      → ((other : ℕ → Bool) → IsPossible known node head args other → other n ≡ value)
      → SaysTable nodes free premises (literal n value)
  table_says premises are n value has fixed = record {
    few = few;
    different = is.once;
    formulas = formulas;
    always = λ truths count. follows_literal truths (gone_on truths) (own_truth truths count) (whole_truth truths) premises are n value has fixed;
  }

  -- and the line of a contradiction
  pub table_clashes : (premises : List Claim) → AreTruthsAmong known (node ∷ args) premises
      → ((other : ℕ → Bool) → ¬ IsPossible known node head args other)
      → SaysTable nodes free premises Absurd
  table_clashes premises are never = record {
    few = few;
    different = is.once;
    formulas = formulas;
    always = λ truths count. follows_absurd truths (gone_on truths) (own_truth truths count) (whole_truth truths) premises are never;
  }

  -- ---- a possible assignment refutes each other line

  own_of : (truth : ℕ → Bool) → (m : ℕ) → Contains args m → free_truth free (map truth free) m ≡ Some (truth m)
  own_of truth m has = truth_of_free truth free m ((is.exactly m).1 has)

  pub says_true : (truth : ℕ → Bool) → IsPossible known node head args truth → (premises : List Claim)
      → All (IsTruthAmong known (node ∷ args)) premises → (n : ℕ) (value : Bool) → Contains (node ∷ args) n
      → SaysTable nodes free premises (literal n value) → truth n ≡ value
  says_true truth possible premises only n value has line =
      literal_holds (map truth free) truth (own_of truth) possible.agrees.table possible premises only n value has
      (line.always (map truth free) (length-map free truth))

  pub says_no_contradiction : (truth : ℕ → Bool) → IsPossible known node head args truth → (premises : List Claim)
      → All (IsTruthAmong known (node ∷ args)) premises → ¬ SaysTable nodes free premises Absurd
  says_no_contradiction truth possible premises only line =
      nothing_absurd (map truth free) truth (own_of truth) possible.agrees.table possible premises only
      (line.always (map truth free) (length-map free truth))

  -- ---- premises

  pub truths_are_given : (lists : List (List ℕ)) (premises : List Claim) → All (IsTruthAmong known (node ∷ args)) premises
      → All (IsGiven known lists) premises
  truths_are_given lists premises only = All-weaker (IsTruthAmong known (node ∷ args)) (IsGiven known lists) (is_given known (node ∷ args) lists) premises only

-- ---- laws

pub settled_is_typed : SettledIsTyped
settled_is_typed known lists node head args n value free premises fits table fixed is are = (
  table_says known node head args free table fixed.connective is premises are n value fixed.among fixed.fixed,
  record {
    given = truths_are_given known node head args free table fixed.connective is lists premises are.only;
    formed = formed_literal known.terms.nodes n value (formula_among known node head args free table fixed.connective is n fixed.among);
  },
)

pub contradicted_is_typed : ContradictedIsTyped
contradicted_is_typed known lists node head args free premises fits table never is are = (
  table_clashes known node head args free table never.connective is premises are never.never,
  record {
    given = truths_are_given known node head args free table never.connective is lists premises are.only;
    formed = tt;
  },
)
