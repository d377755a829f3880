-- What is found at a node, and what is not found at any.
use Rattle.std.specs.Prelude.{◌≡◌, ℕ, ◌<◌, ◌⊎◌, Bool, true, false, List, [], ◌∷◌, ◌++◌, All, Contains, length, refl}
use Rattle.std.proofs.Common.{arith, sym, ap, subst, ◌∙◌, inl, inr}
use Rattle.std.proofs.lemmas.List.Elements.{All-contains, All-nil, All-cons}
use Rattle.grind_term_graph.specs.declared.head.Head.{Head}
use Rattle.grind_classes.specs.Classes.{IsIn, IsActive, AreTogether}
use Rattle.grind_truth_prop.specs.Kernel.{Holds, Fails, Same, Differ, IsEquation}
use Rattle.grind_truth_prop.specs.Given.{couple, KnownToHold, KnownToFail, IsKnown, Fits}
use Rattle.grind_truth_prop.specs.Classed.{IsNotClassed, NoneClassed}
use Rattle.grind_truth_prop.specs.Sides.{HasToJoin, HasToPart, HasSides, HasNoSides, NoSides}
use Rattle.grind_truth_prop.specs.Equations.{HasNoEquation, NoEquation}
use Rattle.grind_truth_prop.specs.Connectives.{CanBe, IsFixed, IsContradicted, IsLeftOpen, SettlesNothing, NoneSettled}
use Rattle.grind_truth_prop.specs.Splits.{HasSidesTogether, ArgumentsAllow, IsFixedByArguments, IsUnfixed, IsFixedIfKnown, IsAloneIfUnknown, WantsNothing, NoneWanted}
use Rattle.grind_truth_prop.specs.Ways.{args_of, HasWay, CanHave, MustHave, IsMarkOf, IsBlank, IsJointOf}
use Rattle.grind_truth_prop.specs.Findings.{IsConnectiveOf, IsNoConnective, node_in, IsForcedAmong, IsOpenAmong, IsFixedTruth, IsFirstUnknownOf, AreBothKnown}
use Rattle.grind_truth_prop.specs.declared.types.Known.{Known}
use Rattle.grind_truth_prop.specs.declared.terms.Connective.{Connective}
use Rattle.grind_truth_prop.specs.declared.ways.Joint.{Joint}
use Rattle.grind_truth_prop.specs.declared.ways.Place.{Place}
use Rattle.grind_truth_prop.specs.declared.ways.Place.TheVariants.{Whole, First, Second}
use Rattle.grind_truth_prop.proofs.TermLemmas.{equation_once, equation_within, args_active, connective_once, first_or_other}
use Rattle.grind_truth_prop.proofs.WayLemmas.{negation_or_two, two_args, place_among, fixed_by_known, allow_of, fixed_of, some_possible, none_possible, can_be, must_be, of_both}

-- ---- what holds of each node of the terms holds of each node

module _ (known : Known) (lists : List (List ℕ)) (n : ℕ) (count : n ≡ length known.terms.nodes) (fits : Fits known lists) where
  pub none_classed : ((k : ℕ) → k < n → IsNotClassed known lists k) → NoneClassed known lists
  none_classed none k value together =
      let within = fits.within k (together.0, together.1) in none k (omega (arith, within, count)) value together

  pub no_sides : ((k : ℕ) → k < n → HasNoSides known lists k) → NoSides known lists
  no_sides none k a b is =
      let within = equation_within known.terms.nodes k a b is in none k (omega (arith, within, count)) a b is

  pub no_equation : ((k : ℕ) → k < n → HasNoEquation known lists k) → NoEquation known lists
  no_equation none k a b active is =
      let within = fits.within k active in none k (omega (arith, within, count)) a b active is

  pub none_settled : ((k : ℕ) → k < n → SettlesNothing known lists k) → NoneSettled known lists
  none_settled none k head args active is =
      let within = fits.within k active in none k (omega (arith, within, count)) head args active is

  pub none_wanted : ((k : ℕ) → k < n → WantsNothing known lists k) → NoneWanted known lists
  none_wanted none k = record {
    fixed = λ head args is conn.
        let within = fits.within k (fits.known_active k is) in
        (none k (omega (arith, within, count))).fixed head args is conn;
    alone = λ unknown kind.
        let within = fits.within k unknown.0 in (none k (omega (arith, within, count))).alone unknown kind;
  }

-- ---- the sides of an equation

pub join_sides : (known : Known) (lists : List (List ℕ)) (n a b : ℕ) → IsEquation known.terms.nodes n a b → HasToJoin known lists n a b
    → HasSides known lists n
join_sides known lists n a b is join = (Holds n, Same a b, (a, b, is, inl (join, refl, refl)))

pub part_sides : (known : Known) (lists : List (List ℕ)) (n a b : ℕ) → IsEquation known.terms.nodes n a b → HasToPart known n a b
    → HasSides known lists n
part_sides known lists n a b is part = (Fails n, Differ a b, (a, b, is, inr (part, refl, refl)))

pub no_sides_at : (known : Known) (lists : List (List ℕ)) (n a b : ℕ) → IsEquation known.terms.nodes n a b
    → (KnownToHold known n → AreTogether lists a b ⊎ Contains known.same (couple a b))
    → (KnownToFail known n → Contains known.apart (couple a b)) → HasNoSides known lists n
no_sides_at known lists n a b is joined parted c d also =
    let once = equation_once known.terms.nodes n a b c d is also in (
      λ holds. elim (joined holds) [
        | inl t ↦ inl (t.0, subst (λ (m : ℕ). IsIn lists t.0 m) once.0 t.1, subst (λ (m : ℕ). IsIn lists t.0 m) once.1 t.2)
        | inr has ↦ inr (subst (λ (m : ℕ). Contains known.same (couple c m)) once.1 (subst (λ (m : ℕ). Contains known.same (couple m b)) once.0 has))
      ],
      λ fails. subst (λ (m : ℕ). Contains known.apart (couple c m)) once.1 (subst (λ (m : ℕ). Contains known.apart (couple m b)) once.0 (parted fails)),
    )

-- what is found for the sides of an equation is found for those of the node
pub no_equation_at : (known : Known) (lists : List (List ℕ)) (n a b : ℕ) → IsEquation known.terms.nodes n a b
    → ((P : ℕ → ℕ → Type 0) → P a b → (c d : ℕ) → IsEquation known.terms.nodes n c d → P c d)
no_equation_at known lists n a b is P h c d also =
    let once = equation_once known.terms.nodes n a b c d is also in
    subst (λ (m : ℕ). P c m) once.1 (subst (λ (m : ℕ). P m b) once.0 h)

-- ---- connectives

pub of_places : (P : Place → Type 0) → P Whole → P First → P Second → (place : Place) → P place
of_places P w f s Whole = w
of_places P w f s First = f
of_places P w f s Second = s

module _ (known : Known) (lists : List (List ℕ)) (n : ℕ) (it : Connective) (fits : Fits known lists) (active : IsActive lists n)
    (conn : IsConnectiveOf known.terms.nodes n it) where
  arguments_active : All (IsActive lists) (args_of it.head it.first it.second)
  arguments_active = args_active known lists n it.head (args_of it.head it.first it.second) fits active conn.connective.stands

  pub first_side_active : IsActive lists it.first
  first_side_active =
      All-contains (IsActive lists) (args_of it.head it.first it.second) it.first arguments_active ((conn.among it.first).1 (inl refl))

  pub second_side_active : IsActive lists it.second
  second_side_active =
      All-contains (IsActive lists) (args_of it.head it.first it.second) it.second arguments_active ((conn.among it.second).1 (inr refl))

module _ (known : Known) (lists : List (List ℕ)) (n : ℕ) (it : Connective) (joint : Joint) (fits : Fits known lists) (active : IsActive lists n)
    (conn : IsConnectiveOf known.terms.nodes n it) (of : IsJointOf known it.head it.first it.second joint) where
  abbrev args : List ℕ
  args = args_of it.head it.first it.second

  args_are_active : All (IsActive lists) args
  args_are_active = args_active known lists n it.head args fits active conn.connective.stands

  place_active : (place : Place) → IsActive lists (node_in place n it)
  place_active Whole = active
  place_active First = All-contains (IsActive lists) args it.first args_are_active ((conn.among it.first).1 (inl refl))
  place_active Second = All-contains (IsActive lists) args it.second args_are_active ((conn.among it.second).1 (inr refl))

  -- where the marks let nothing through, the connective is contradicted
  pub contradicted_at : IsMarkOf known n joint.whole → ¬ HasWay joint → IsContradicted known lists n
  contradicted_at mark none =
      (it.head, args, record { active = active; connective = conn.connective; never = none_possible known n it conn joint of mark none })

  -- a truth that is left alone is fixed
  pub fixed_at : IsMarkOf known n joint.whole → (m : ℕ) (value : Bool) → IsForcedAmong known joint n it m value
      → IsFixedTruth known lists n m value it.first it.second
  fixed_at mark m value found =
      let place = found.0 in
      let fixed : IsFixed known lists n it.head args (node_in place n it) value = record {
        active = active;
        connective = conn.connective;
        among = place_among known n it conn place;
        unknown = (place_active place, λ k. found.2.unknown (subst (λ (j : ℕ). IsKnown known j) found.1 k));
        possible = can_be known n it conn joint of mark place value found.2.can;
        fixed = must_be known n it conn joint of mark place value found.2.must;
      } in
      record {
        head = it.head;
        args = args;
        among = conn.among;
        fixed = subst (λ (j : ℕ). IsFixed known lists n it.head args j value) found.1 fixed;
      }

  alone_at : IsMarkOf known n joint.whole → IsOpenAmong known joint n it → (place : Place) (m : ℕ) → m ≡ node_in place n it
      → IsKnown known m ⊎ (CanBe known n it.head args m true × CanBe known n it.head args m false)
  alone_at mark left place m is =
      subst (λ (j : ℕ). IsKnown known j ⊎ (CanBe known n it.head args j true × CanBe known n it.head args j false)) (sym is)
      (elim (left place) [
        | inl k ↦ inl k
        | inr both ↦ inr (
          can_be known n it conn joint of mark place true (both true),
          can_be known n it conn joint of mark place false (both false),
        )
      ])

  left_open : IsMarkOf known n joint.whole → HasWay joint → IsOpenAmong known joint n it → IsLeftOpen known n it.head args
  left_open mark way left = record {
    possible = some_possible known n it conn joint of mark way;
    both = λ m among. elim (first_or_other n args m among) [
      | inl is ↦ alone_at mark left Whole m is
      | inr has ↦ elim ((conn.among m).0 has) [
        | inl is ↦ alone_at mark left First m is
        | inr is ↦ alone_at mark left Second m is
      ]
    ];
  }

  -- where no truth is left alone, nothing follows
  pub settles_nothing : IsMarkOf known n joint.whole → HasWay joint → IsOpenAmong known joint n it → SettlesNothing known lists n
  settles_nothing mark way left head xs _ other =
      let once = connective_once known.terms.nodes n it.head head args xs conn.connective other in
      subst (λ (ys : List ℕ). IsLeftOpen known n head ys) once.1
      (subst (λ (h : Head). IsLeftOpen known n h args) once.0 (left_open mark way left))

-- a node that is no connective settles nothing
pub settles_nothing_at_others : (known : Known) (lists : List (List ℕ)) (n : ℕ) → IsNoConnective known.terms.nodes n → SettlesNothing known lists n
settles_nothing_at_others known lists n none head args active is = absurd (none head args is)

-- ---- splits

first_parts : (known : Known) (n : ℕ) (it : Connective) (m : ℕ) → IsConnectiveOf known.terms.nodes n it → IsFirstUnknownOf known it m
    → (before : List ℕ) × (after : List ℕ) × (args_of it.head it.first it.second ≡ before ++ m ∷ after) × All (IsKnown known) before
first_parts known n it m conn found = elim (negation_or_two it.head (args_of it.head it.first it.second) conn.connective.joins) [
  | inl not ↦
      let alone : args_of it.head it.first it.second ≡ it.first ∷ [] = ap (λ h. args_of h it.first it.second) not in
      let second : it.second ≡ it.first = elim (first_or_other it.first [] it.second
      (subst (λ (xs : List ℕ). Contains xs it.second) alone ((conn.among it.second).1 (inr refl)))) [
        | inl is ↦ is
        | inr has ↦ absurd (omega (arith, has.1))
      ] in
      elim found.1 [
        | inl is ↦ ([], [], alone ∙ ap (λ (k : ℕ). k ∷ []) (sym is), All-nil (IsKnown known))
        | inr other ↦ absurd (found.0 (subst (λ (k : ℕ). IsKnown known k) (sym (other.1 ∙ second)) other.0))
      ]
  | inr two ↦
      let both : args_of it.head it.first it.second ≡ it.first ∷ it.second ∷ [] = two_args it.head it.first it.second two in
      elim found.1 [
        | inl is ↦ ([], it.second ∷ [], both ∙ ap (λ (k : ℕ). k ∷ it.second ∷ []) (sym is), All-nil (IsKnown known))
        | inr other ↦ (
          it.first ∷ [],
          [],
          both ∙ ap (λ (k : ℕ). it.first ∷ k ∷ []) (sym other.1),
          All-cons (IsKnown known) it.first [] other.0 (All-nil (IsKnown known)),
        )
      ]
]

module _ (known : Known) (lists : List (List ℕ)) (n : ℕ) (it : Connective) (fits : Fits known lists) (is_known : IsKnown known n)
    (conn : IsConnectiveOf known.terms.nodes n it) where
  first_active : (m : ℕ) → IsFirstUnknownOf known it m → IsActive lists m
  first_active m found =
      let xs = args_of it.head it.first it.second in
      let all = args_active known lists n it.head xs fits (fits.known_active n is_known) conn.connective.stands in
      All-contains (IsActive lists) xs m all ((conn.among m).1 (elim found.1 [ inl is ↦ inl is | inr other ↦ inr other.1 ]))

  fixed_here : IsFixedByArguments known lists n it.head (args_of it.head it.first it.second) → IsFixedIfKnown known lists n
  fixed_here fixed head xs _ other =
      let once = connective_once known.terms.nodes n it.head head (args_of it.head it.first it.second) xs conn.connective other in
      subst (λ (ys : List ℕ). IsFixedByArguments known lists n head ys) once.1
      (subst (λ (h : Head). IsFixedByArguments known lists n h (args_of it.head it.first it.second)) once.0 fixed)

  -- an equation of sides in one class is fixed
  pub fixed_by_sides : HasSidesTogether lists it.head (args_of it.head it.first it.second) → IsFixedIfKnown known lists n
  fixed_by_sides sides = fixed_here (inl sides)

  -- so is a connective whose arguments are known
  pub fixed_by_arguments : AreBothKnown known it → IsFixedIfKnown known lists n
  fixed_by_arguments both = fixed_here (inr (fixed_by_known known n it conn both))

  module _ (joint : Joint) (of : IsJointOf known it.head it.first it.second joint) (blank : IsBlank joint.whole) where
    -- and one that must have one truth
    pub fixed_by_marks : (value : Bool) → MustHave joint Whole value → IsFixedIfKnown known lists n
    fixed_by_marks value must = fixed_here (inr (value, fixed_of known n it conn joint of value blank must))

    -- one that can have both is not fixed
    pub unfixed : CanHave joint Whole true → CanHave joint Whole false → ¬ HasSidesTogether lists it.head (args_of it.head it.first it.second)
        → (m : ℕ) → IsFirstUnknownOf known it m → IsUnfixed known lists n m
    unfixed can also apart m found = (
      it.head,
      args_of it.head it.first it.second,
      is_known,
      conn.connective,
      record {
        either = of_both (ArgumentsAllow known n it.head (args_of it.head it.first it.second)) (allow_of known n it conn joint of true can) (allow_of known n it conn joint of false also);
        not_joined = apart;
      },
      record { parts = first_parts known n it m conn found; unknown = (first_active m found, found.0) },
    )

-- a node that is no connective is fixed
pub fixed_at_others : (known : Known) (lists : List (List ℕ)) (n : ℕ) → IsNoConnective known.terms.nodes n → IsFixedIfKnown known lists n
fixed_at_others known lists n none head args is conn = absurd (none head args conn)

-- where a node is not known, only its class counts
pub wants_nothing_if_unknown : (known : Known) (lists : List (List ℕ)) (n : ℕ) → ¬ IsKnown known n → IsAloneIfUnknown known lists n
    → WantsNothing known lists n
wants_nothing_if_unknown known lists n unknown alone =
    record { fixed = λ head args is conn. absurd (unknown is); alone = alone }
