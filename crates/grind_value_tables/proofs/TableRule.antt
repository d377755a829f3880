-- What the truth tables of the connectives give is true: each truth that an assignment gives a node is its value, for the
-- assignment that reads the values of the free nodes.
use Rattle.std.specs.Prelude.{◌≡◌, ◌↔◌, ℕ, zero, suc, ◌+◌, ◌⊎◌, Bool, true, false, not, ◌&&◌, ◌||◌, List, [], ◌∷◌, ◌++◌, Option, Some, None, IfSome, IsSome, All, if◌then◌else◌, nat_eq, slice_index_or, length, map, take, slice_get, ℤ, refl}
use Rattle.std.specs.Bool.{Decides}
use Rattle.std.specs.Option.{option_map, option_or}
use Rattle.std.specs.Ordering.{int_eq}
use Rattle.std.proofs.Common.{arith, sym, ap, ◌∙◌, subst, inl, inr}
use Rattle.std.proofs.lemmas.Bool.{false≢true}
use Rattle.std.proofs.lemmas.Bool.Decides.{Decides-eqb, Decides-int_eq}
use Rattle.std.proofs.lemmas.List.{length-map, length-append}
use Rattle.std.proofs.lemmas.List.Elements.{All-nil, All-cons, All-head, All-tail}
use Rattle.std.proofs.lemmas.Option.{same_Some, none-some}
use Rattle.grind_term_graph.specs.declared.head.Head.{Head}
use Rattle.grind_term_graph.specs.declared.head.Head.TheVariants as head
use Rattle.grind_term_graph.specs.declared.node.Node.{Node}
use Rattle.grind_term_graph.specs.Terms.{prop, sort_at}
use Rattle.grind_term_graph.specs.Shape.{IsShaped, IsTable}
use Rattle.grind_term_graph.proofs.Tables.{WellShaped-at}
use Rattle.grind_claims.specs.declared.claim.Claim.{Claim}
use Rattle.grind_claims.specs.declared.claim.Claim.TheVariants.{Holds, Fails, Same, Differ, AtMost, Zero, Absurd}
use Rattle.grind_truth_tables.specs.Tables.{free_truth, unary_truth, binary_truth, implies, alike, joined_truth, truth_at, node_truth, truths_of, truth_of, literal_truth, conclusion_truth, IsTableRule}
use Rattle.grind_value_tables.specs.Respects.{one, zero_value, IsTruthValue, Means, OfOne, OfTwo, Respects}
use Rattle.grind_value_tables.specs.Truths.{ClaimTrue}
use Rattle.grind_value_tables.proofs.Meanings.{PremisesHold, false≢one, false_unless, formula_value}

-- the value of a truth
abbrev pub bit : Bool → ℤ
bit true = one
bit false = zero_value

-- false is not 1
false_is_not_one : bit false ≡ one → ⊥
false_is_not_one e = false≢one (bit false) refl e

-- a formula that is 1 exactly where a fact holds has the value of a truth that decides the fact
decided : (z : ℤ) (P : Type 0) (truth : Bool) → IsTruthValue z → ((z ≡ one) ↔ P) → Decides truth P → z ≡ bit truth
decided z P true value means decides = means.1 (decides.0 refl)
decided z P false value means decides =
    false_unless z value (λ e. absurd (false≢true (decides.1 (means.0 e))))

-- the connectives of truths decide what they say of their values
not_decides : (x : Bool) → Decides (not x) (bit x ≡ zero_value)
not_decides true = (λ e. absurd (false≢true e), λ e. absurd (false_is_not_one (sym e)))
not_decides false = (λ e. refl, λ e. refl)

and_decides : (x y : Bool) → Decides (x && y) ((bit x ≡ one) × (bit y ≡ one))
and_decides true true = (λ e. (refl, refl), λ h. refl)
and_decides true false = (λ e. absurd (false≢true e), λ h. absurd (false_is_not_one h.1))
and_decides false y = (λ e. absurd (false≢true e), λ h. absurd (false_is_not_one h.0))

or_decides : (x y : Bool) → Decides (x || y) ((bit x ≡ one) ⊎ (bit y ≡ one))
or_decides true y = (λ e. inl refl, λ h. refl)
or_decides false true = (λ e. inr refl, λ h. refl)
or_decides false false = (
  λ e. absurd (false≢true e),
  λ h. absurd (elim h [ inl e ↦ false_is_not_one e | inr e ↦ false_is_not_one e ]),
)

implies_decides : (x y : Bool) → Decides (implies x y) (bit x ≡ one → bit y ≡ one)
implies_decides true true = (λ e f. refl, λ h. refl)
implies_decides true false = (λ e. absurd (false≢true e), λ h. absurd (false_is_not_one (h refl)))
implies_decides false y = (λ e f. absurd (false_is_not_one f), λ h. refl)

alike_decides : (x y : Bool) → Decides (alike x y) (bit x ≡ bit y)
alike_decides true true = (λ e. refl, λ h. refl)
alike_decides true false = (λ e. absurd (false≢true e), λ h. absurd (false_is_not_one (sym h)))
alike_decides false true = (λ e. absurd (false≢true e), λ h. absurd (false_is_not_one h))
alike_decides false false = (λ e. refl, λ h. refl)

-- a connective of two truths is a truth where both are
of_two_some : (f : Bool → Bool → Bool) (o p : Option Bool) (truth : Bool) → binary_truth f (o ∷ p ∷ []) ≡ Some truth
    → (x : Bool) × (y : Bool) × (o ≡ Some x) × (p ≡ Some y) × (f x y ≡ truth)
of_two_some f (Some x) (Some y) truth e = (x, y, refl, refl, same_Some (f x y) truth e)
of_two_some f (Some x) None truth e = absurd (none-some truth e)
of_two_some f None p truth e = absurd (none-some truth e)

of_one_some : (f : Bool → Bool) (o : Option Bool) (truth : Bool) → unary_truth f (o ∷ []) ≡ Some truth
    → (x : Bool) × (o ≡ Some x) × (f x ≡ truth)
of_one_some f (Some x) truth e = (x, refl, same_Some (f x) truth e)
of_one_some f None truth e = absurd (none-some truth e)

option_or_some : (o p : Option Bool) (truth : Bool) → option_or o p ≡ Some truth → (o ≡ Some truth) ⊎ (p ≡ Some truth)
option_or_some (Some x) p truth e = inl e
option_or_some None p truth e = inr e

-- the truth of a node among those that are known and one more
truth_more : (known : List (Option Bool)) (new : Option Bool) (n : ℕ) (truth : Bool)
    → truth_at (known ++ new ∷ []) n ≡ Some truth
    → (truth_at known n ≡ Some truth) ⊎ ((n ≡ length known) × (new ≡ Some truth))
truth_more [] new zero truth e = inr (refl, e)
truth_more [] new (suc n) truth e = absurd (none-some truth e)
truth_more (first ∷ known) new zero truth e = inl e
truth_more (first ∷ known) new (suc n) truth e = elim (truth_more known new n truth e) [
  | inl h ↦ inl h
  | inr h ↦ inr (ap suc h.0, h.1)
]

module _ (v : ℕ → ℤ) where
  -- each truth that is known of a node is its value
  abbrev pub Agree : List (Option Bool) → Type 0
  Agree known = (n : ℕ) (truth : Bool) → truth_at known n ≡ Some truth → v n ≡ bit truth

  -- what is known of node n: its value by its head, and by its sort, which its head asks for
  pub record IsValued (n : ℕ) (node : Node) : Type 0 where
    pub means : Means node.head (map v node.args) (v n)
    pub formula : node.sort ≡ prop → IsTruthValue (v n)
    pub shaped : (sorts : List (Option ℕ)) × IsShaped node.head node.sort sorts

  -- whether each of these nodes is true
  abbrev pub values_as_truths : List ℕ → List Bool
  values_as_truths free = map (λ n. int_eq (v n) one) free

  -- a truth that is read from a formula is its value
  read_value : (n : ℕ) (truth : Bool) → IsTruthValue (v n) → int_eq (v n) one ≡ truth → v n ≡ bit truth
  read_value n true value e = (Decides-int_eq (v n) one).0 e
  read_value n false value e =
      false_unless (v n) value (λ h. false≢true (sym e ∙ (Decides-int_eq (v n) one).1 h))

  free_step : (f n : ℕ) (here : Bool) (rest : Option Bool) (truth : Bool) → nat_eq f n ≡ here → IsTruthValue (v f)
      → (rest ≡ Some truth → v n ≡ bit truth) → (if here then Some (int_eq (v f) one) else rest) ≡ Some truth → v n ≡ bit truth
  free_step f n true rest truth is value others e =
      subst (λ m. v m ≡ bit truth) ((Decides-eqb f n).0 is) (read_value f truth value (same_Some (int_eq (v f) one) truth e))
  free_step f n false rest truth is value others e = others e

  -- what the assignment makes a free node is its value
  free_value : (free : List ℕ) → All (λ f. IsTruthValue (v f)) free → (n : ℕ) (truth : Bool)
      → free_truth free (values_as_truths free) n ≡ Some truth → v n ≡ bit truth
  free_value [] values n truth e = absurd (none-some truth e)
  free_value (f ∷ free) values n truth e =
      free_step f n (nat_eq f n) (free_truth free (values_as_truths free) n) truth refl
      (All-head (λ g. IsTruthValue (v g)) f free values)
      (free_value free (All-tail (λ g. IsTruthValue (v g)) f free values) n truth) e

  module _ (known : List (Option Bool)) (agree : Agree known) (z : ℤ) (value : IsTruthValue z) (truth : Bool) where
    -- what a connective makes of the truths of its arguments is the value that it asks for
    of_one_value : (P : ℤ → Type 0) (f : Bool → Bool) → ((x : Bool) → Decides (f x) (P (bit x))) → (args : List ℕ)
        → OfOne (λ a. (z ≡ one) ↔ P a) (map v args) → unary_truth f (map (truth_at known) args) ≡ Some truth → z ≡ bit truth
    of_one_value P f decides [] means e = absurd means
    of_one_value P f decides (a ∷ []) means e =
        let it = of_one_some f (truth_at known a) truth e in
        let at : (z ≡ one) ↔ P (bit it.0) = subst (λ x. (z ≡ one) ↔ P x) (agree a it.0 it.1) means in
        decided z (P (bit it.0)) truth value at (subst (λ t. Decides t (P (bit it.0))) it.2 (decides it.0))
    of_one_value P f decides (a ∷ b ∷ rest) means e = absurd means

    of_two_value : (P : ℤ → ℤ → Type 0) (f : Bool → Bool → Bool) → ((x y : Bool) → Decides (f x y) (P (bit x) (bit y)))
        → (args : List ℕ) → OfTwo (λ a b. (z ≡ one) ↔ P a b) (map v args)
        → binary_truth f (map (truth_at known) args) ≡ Some truth → z ≡ bit truth
    of_two_value P f decides [] means e = absurd means
    of_two_value P f decides (a ∷ []) means e = absurd means
    of_two_value P f decides (a ∷ b ∷ []) means e =
        let it = of_two_some f (truth_at known a) (truth_at known b) truth e in
        let left : (z ≡ one) ↔ P (bit it.0) (v b) = subst (λ x. (z ≡ one) ↔ P x (v b)) (agree a it.0 it.2) means in
        let both : (z ≡ one) ↔ P (bit it.0) (bit it.1) = subst (λ y. (z ≡ one) ↔ P (bit it.0) y) (agree b it.1 it.3) left in
        decided z (P (bit it.0) (bit it.1)) truth value both
        (subst (λ t. Decides t (P (bit it.0) (bit it.1))) it.4 (decides it.0 it.1))
    of_two_value P f decides (a ∷ b ∷ c ∷ rest) means e = absurd means

  module _ (known : List (Option Bool)) (agree : Agree known) where
    -- what a head makes of the truths of its arguments is the value of its node
    joined_value : (its_head : Head) (sort : ℕ) (sorts : List (Option ℕ)) (args : List ℕ) (z : ℤ) (truth : Bool)
        → IsShaped its_head sort sorts → (sort ≡ prop → IsTruthValue z) → Means its_head (map v args) z
        → joined_truth its_head (map (truth_at known) args) ≡ Some truth → z ≡ bit truth
    joined_value head.True sort sorts args z truth s p means e = means ∙ ap bit (same_Some true truth e)
    joined_value head.False sort sorts args z truth s p means e = means ∙ ap bit (same_Some false truth e)
    joined_value head.Not sort sorts args z truth s p means e =
        of_one_value known agree z (p s.0) truth (λ a. a ≡ zero_value) not not_decides args means e
    joined_value head.And sort sorts args z truth s p means e =
        of_two_value known agree z (p s.0) truth (λ a b. (a ≡ one) × (b ≡ one)) (λ a b. a && b) and_decides args means e
    joined_value head.Or sort sorts args z truth s p means e =
        of_two_value known agree z (p s.0) truth (λ a b. (a ≡ one) ⊎ (b ≡ one)) (λ a b. a || b) or_decides args means e
    joined_value head.Implies sort sorts args z truth s p means e =
        of_two_value known agree z (p s.0) truth (λ a b. a ≡ one → b ≡ one) implies implies_decides args means e
    joined_value head.Eq sort sorts args z truth s p means e =
        of_two_value known agree z (p s.0) truth (λ a b. a ≡ b) alike alike_decides args means e
    joined_value head.Le sort sorts args z truth s p means e = absurd (none-some truth e)
    joined_value (head.Int number) sort sorts args z truth s p means e = absurd (none-some truth e)
    joined_value head.Add sort sorts args z truth s p means e = absurd (none-some truth e)
    joined_value head.Neg sort sorts args z truth s p means e = absurd (none-some truth e)
    joined_value head.Mul sort sorts args z truth s p means e = absurd (none-some truth e)
    joined_value (head.Fun function) sort sorts args z truth s p means e = absurd (none-some truth e)
    joined_value (head.Const constant) sort sorts args z truth s p means e = absurd (none-some truth e)

  module _ (free : List ℕ) (values : All (λ f. IsTruthValue (v f)) free) where
    -- the truth of the next node is its value
    node_value : (known : List (Option Bool)) → Agree known → (n : ℕ) (node : Node) → IsValued n node → (truth : Bool)
        → node_truth free (values_as_truths free) known n node ≡ Some truth → v n ≡ bit truth
    node_value known agree n node valued truth e =
        elim (option_or_some (free_truth free (values_as_truths free) n) (joined_truth node.head (map (truth_at known) node.args)) truth e) [
          | inl h ↦ free_value free values n truth h
          | inr h ↦ joined_value known agree node.head node.sort valued.shaped.0 node.args (v n) truth valued.shaped.1
              valued.formula valued.means h
        ]

    agree_more : (known : List (Option Bool)) → Agree known → (node : Node) → IsValued (length known) node
        → Agree (known ++ node_truth free (values_as_truths free) known (length known) node ∷ [])
    agree_more known agree node valued n truth e =
        elim (truth_more known (node_truth free (values_as_truths free) known (length known) node) n truth e) [
          | inl h ↦ agree n truth h
          | inr h ↦ subst (λ m. v m ≡ bit truth) (sym h.0) (node_value known agree (length known) node valued truth h.1)
        ]

    length_more : (known : List (Option Bool)) (new : Option Bool) (k : ℕ) → length known + suc k ≡ length (known ++ new ∷ []) + k
    length_more known new k = omega (arith, length-append known (new ∷ []))

    -- each truth of the nodes is their value
    truths_agree : (known : List (Option Bool)) (nodes : List Node) → Agree known
        → ((k : ℕ) (node : Node) → slice_get nodes k ≡ Some node → IsValued (length known + k) node)
        → Agree (truths_of free (values_as_truths free) known nodes)
    truths_agree known [] agree valued = agree
    truths_agree known (node ∷ nodes) agree valued =
        let new = node_truth free (values_as_truths free) known (length known) node in
        let here : length known + 0 ≡ length known = omega arith in
        truths_agree (known ++ new ∷ []) nodes
        (agree_more known agree node (subst (λ n. IsValued n node) here (valued 0 node refl)))
        (λ k later is. subst (λ n. IsValued n later) (length_more known new k) (valued (suc k) later is))

  -- a premise that is true and has a truth has the truth 1
  held : (n : ℕ) (o : Option Bool) → ((truth : Bool) → o ≡ Some truth → v n ≡ bit truth) → IsSome o → v n ≡ one → o ≡ Some true
  held n None agree some e = absurd (false≢true some)
  held n (Some true) agree some e = refl
  held n (Some false) agree some e = absurd (false≢one (v n) (agree false refl) e)

  failed : (n : ℕ) (o : Option Bool) → ((truth : Bool) → o ≡ Some truth → v n ≡ bit truth) → IsSome (option_map not o)
      → v n ≡ zero_value → option_map not o ≡ Some true
  failed n None agree some e = absurd (false≢true some)
  failed n (Some true) agree some e = absurd (false≢one (v n) e (agree true refl))
  failed n (Some false) agree some e = refl

  failing : (n : ℕ) (o : Option Bool) → ((truth : Bool) → o ≡ Some truth → v n ≡ bit truth) → option_map not o ≡ Some true
      → v n ≡ zero_value
  failing n None agree e = absurd (none-some true e)
  failing n (Some true) agree e = absurd (false≢true (same_Some false true e))
  failing n (Some false) agree e = agree false refl

  module _ (truth : ℕ → Option Bool) (agree : (n : ℕ) (it : Bool) → truth n ≡ Some it → v n ≡ bit it) where
    premise_true : (premise : Claim) → IsSome (literal_truth truth premise) → ClaimTrue v premise
        → literal_truth truth premise ≡ Some true
    premise_true (Holds n) some hold = held n (truth n) (agree n) some hold
    premise_true (Fails n) some hold = failed n (truth n) (agree n) some hold
    premise_true (Same a b) some hold = absurd (false≢true some)
    premise_true (Differ a b) some hold = absurd (false≢true some)
    premise_true (AtMost form) some hold = absurd (false≢true some)
    premise_true (Zero poly) some hold = absurd (false≢true some)
    premise_true Absurd some hold = absurd (false≢true some)

    premises_true : (premises : List Claim) → All (λ (p : Claim). IsSome (literal_truth truth p)) premises
        → PremisesHold v premises → All (λ (p : Claim). literal_truth truth p ≡ Some true) premises
    premises_true [] some hold = All-nil (λ (p : Claim). literal_truth truth p ≡ Some true)
    premises_true (p ∷ ps) some hold =
        All-cons (λ (q : Claim). literal_truth truth q ≡ Some true) p ps
        (premise_true p (All-head (λ (q : Claim). IsSome (literal_truth truth q)) p ps some) hold.0)
        (premises_true ps (All-tail (λ (q : Claim). IsSome (literal_truth truth q)) p ps some) hold.1)

    conclusion_true : (claim : Claim) → conclusion_truth truth claim ≡ Some true → ClaimTrue v claim
    conclusion_true (Holds n) e = agree n true e
    conclusion_true (Fails n) e = failing n (truth n) (agree n) e
    conclusion_true (Same a b) e = absurd (none-some true e)
    conclusion_true (Differ a b) e = absurd (none-some true e)
    conclusion_true (AtMost form) e = absurd (none-some true e)
    conclusion_true (Zero poly) e = absurd (none-some true e)
    conclusion_true Absurd e = absurd (false≢true (same_Some false true e))

module _ (v : ℕ → ℤ) (premises : List Claim) (claim : Claim) (hold : PremisesHold v premises) (nodes : List Node)
    (respects : Respects nodes v) (table : IsTable [] nodes) where
  valued_at : (n : ℕ) (node : Node) → slice_get nodes n ≡ Some node → IsValued v (0 + n) node
  valued_at n node is =
      let here : n ≡ 0 + n = omega arith in
      subst (λ m. IsValued v m node) here record {
        means = respects.heads n node is;
        formula = respects.formulas n node is;
        shaped = (map (sort_at (take n nodes)) node.args, (WellShaped-at [] nodes n node table is).1);
      }

  pub table_sound : (free : List ℕ) → IsTableRule nodes free premises claim → ClaimTrue v claim
  table_sound free rule =
      let truths = values_as_truths v free in
      let values : All (λ f. IsTruthValue (v f)) free =
      λ k d below. formula_value nodes v respects (slice_index_or free k d) (rule.formulas k d below) in
      let agree = truths_agree v free values [] nodes (λ n truth e. absurd (none-some truth e)) valued_at in
      let follows = rule.always truths (length-map free (λ n. int_eq (v n) one)) in
      conclusion_true v (truth_of nodes free truths) agree claim
      (follows.follows (premises_true v (truth_of nodes free truths) agree premises follows.expressed hold))
