-- What a new class changes, and what the roots say.
use Rattle.std.specs.Prelude.{◌≡◌, ℕ, ◌<◌, List, [], ◌∷◌, Option, Some, None, IsSome, Contains, length, set, ◌⊎◌, ◌↔◌, refl}
use Rattle.std.proofs.Common.{arith, sym, ap, ◌∙◌, subst, inl, inr}
use Rattle.std.proofs.lemmas.Bool.{cases_eq, false≢true}
use Rattle.std.proofs.lemmas.Option.{same_Some}
use Rattle.std.proofs.lemmas.List.{get_or-set_same, get_or-set_other}
use Rattle.grind_classes.specs.Classes.{members_of, IsIn, IsActive, AreTogether, AreApart, IsPartition, long_enough, with_class}
use Rattle.grind_classes.specs.Roots.{root_at, AreTied}
use Rattle.grind_classes.proofs.ListLemmas.{long_enough-within, get_or-blank, Contains-nil, Contains-cases}

-- a node has a root exactly where it is active
pub active_by_root : (lists : List (List ℕ)) (roots : List (Option ℕ)) (n : ℕ) (found : Option ℕ) → AreTied lists roots
    → found ≡ root_at roots n → IsSome found ↔ IsActive lists n
active_by_root lists roots n None tied e = (
  λ some. absurd (false≢true some),
  λ active. let is : root_at roots n ≡ Some active.0 = (tied.rooted n active.0).1 active.1 in absurd cc,
)
active_by_root lists roots n (Some r) tied e = (λ _. (r, (tied.rooted n r).0 (sym e)), λ _. refl)

-- an active node has a root
pub root_of_active : (lists : List (List ℕ)) (roots : List (Option ℕ)) (n : ℕ) → AreTied lists roots → IsActive lists n
    → None ≡ root_at roots n → ⊥
root_of_active lists roots n tied active e =
    let is : root_at roots n ≡ Some active.0 = (tied.rooted n active.0).1 active.1 in absurd cc

-- with a member of a class are its members
pub together_by_root : (lists : List (List ℕ)) (r n : ℕ) → IsPartition lists → IsIn lists r n → (m : ℕ)
    → AreTogether lists n m ↔ IsIn lists r m
together_by_root lists r n classes within m = (
  λ t. subst (λ (s : ℕ). IsIn lists s m) (classes.in_one t.0 r n t.1 within) t.2,
  λ other. (r, within, other),
)

-- two nodes are together exactly where their roots are one
pub together_by_roots : (lists : List (List ℕ)) (ra rb a b : ℕ) → IsPartition lists → IsIn lists ra a → IsIn lists rb b
    → (ra ≡ rb) ↔ AreTogether lists a b
together_by_roots lists ra rb a b classes left right = (
  λ e. (ra, left, subst (λ (s : ℕ). IsIn lists s b) (sym e) right),
  λ t. sym (classes.in_one t.0 ra a t.1 left) ∙ classes.in_one t.0 rb b t.2 right,
)

-- the root of a class is in it
first_of : (lists : List (List ℕ)) (r n : ℕ) (members : List ℕ) → IsPartition lists → members_of lists r ≡ members
    → Contains members n → Contains members r
first_of lists r n [] classes e has = absurd (Contains-nil n has)
first_of lists r n (first ∷ rest) classes e has = (0, omega arith, classes.root_first r first rest e)

pub root_in : (lists : List (List ℕ)) (r n : ℕ) → IsPartition lists → IsIn lists r n → IsIn lists r r
root_in lists r n classes within = first_of lists r n (members_of lists r) classes refl within

-- a node that is not active is the root of no class
no_members : (lists : List (List ℕ)) (n : ℕ) (members : List ℕ) → IsPartition lists → (IsActive lists n → ⊥)
    → members_of lists n ≡ members → members ≡ []
no_members lists n [] classes new e = refl
no_members lists n (first ∷ rest) classes new e =
    let here : Contains (members_of lists n) n = rw e (0, omega arith, classes.root_first n first rest e) in
    absurd (new (n, here))

pub members_of-new : (lists : List (List ℕ)) (n : ℕ) → IsPartition lists → (IsActive lists n → ⊥) → members_of lists n ≡ []
members_of-new lists n classes new = no_members lists n (members_of lists n) classes new refl

-- the members, once a node is a class of its own
pub members-with_class-own : (lists : List (List ℕ)) (n : ℕ) → members_of (with_class lists n) n ≡ n ∷ []
members-with_class-own lists n = get_or-set_same (long_enough lists n) n (n ∷ []) [] (long_enough-within lists n)

pub members-with_class-other : (lists : List (List ℕ)) (n r : ℕ) → (r ≡ n → ⊥) → members_of (with_class lists n) r ≡ members_of lists r
members-with_class-other lists n r other =
    get_or-set_other (long_enough lists n) n r (n ∷ []) [] other ∙ get_or-blank lists _ [] r

-- who is in a class then
pub IsIn-with_class : (lists : List (List ℕ)) (n r x : ℕ) → IsPartition lists → (IsActive lists n → ⊥)
    → IsIn (with_class lists n) r x ↔ (IsIn lists r x ⊎ ((r ≡ n) × (x ≡ n)))
IsIn-with_class lists n r x classes new = elim (cases_eq r n) [
  | inl e ↦ (
    λ has. inr (e, own has e),
    λ parts. elim parts [
      | inl old ↦ absurd (Contains-nil x (rw (e, members_of-new lists n classes new) at old))
      | inr is ↦ rw (is.0, is.1, members-with_class-own lists n) (0, omega arith, refl)
    ],
  )
  | inr e ↦ (
    λ has. inl (rw (members-with_class-other lists n r e) at has),
    λ parts. elim parts [
      | inl old ↦ rw (members-with_class-other lists n r e) old
      | inr is ↦ absurd (e is.0)
    ],
  )
]
  where
    own : IsIn (with_class lists n) r x → r ≡ n → x ≡ n
    own has e =
        let here : Contains (n ∷ []) x = rw (e, members-with_class-own lists n) at has in
        elim (Contains-cases n [] x here) [
          | inl is ↦ sym is
          | inr none ↦ absurd (Contains-nil x none)
        ]

-- the classes, once a node is a class of its own
pub IsPartition-with_class : (lists : List (List ℕ)) (n : ℕ) → IsPartition lists → (IsActive lists n → ⊥)
    → IsPartition (with_class lists n)
IsPartition-with_class lists n classes new = record {
  root_first = first;
  in_one = λ r s x left right. unique r s x ((IsIn-with_class lists n r x classes new).0 left) ((IsIn-with_class lists n s x classes new).0 right);
  once = once;
}
  where
    first : (r first : ℕ) (rest : List ℕ) → members_of (with_class lists n) r ≡ first ∷ rest → first ≡ r
    first r m rest e = elim (cases_eq r n) [
      | inl is ↦
          let own : n ∷ [] ≡ m ∷ rest = rw (is, members-with_class-own lists n) at e in
          let same : n ≡ m = cc in sym same ∙ sym is
      | inr other ↦ classes.root_first r m rest (rw (members-with_class-other lists n r other) at e)
    ]

    unique : (r s x : ℕ) → IsIn lists r x ⊎ ((r ≡ n) × (x ≡ n)) → IsIn lists s x ⊎ ((s ≡ n) × (x ≡ n)) → r ≡ s
    unique r s x (inl old) (inl other) = classes.in_one r s x old other
    unique r s x (inl old) (inr is) = absurd (new (r, subst (λ (k : ℕ). IsIn lists r k) is.1 old))
    unique r s x (inr is) (inl old) = absurd (new (s, subst (λ (k : ℕ). IsIn lists s k) is.1 old))
    unique r s x (inr is) (inr other) = is.0 ∙ sym other.0

    once : (r : ℕ) → AreApart (members_of (with_class lists n) r)
    once r = elim (cases_eq r n) [
      | inl is ↦ rw (is, members-with_class-own lists n) (Contains-nil n, tt)
      | inr other ↦ rw (members-with_class-other lists n r other) (classes.once r)
    ]

-- and the roots beside them
pub AreTied-with_class : (lists : List (List ℕ)) (roots longer : List (Option ℕ)) (n : ℕ) → AreTied lists roots
    → (IsActive lists n → ⊥) → ((m : ℕ) → root_at longer m ≡ root_at roots m) → n < length longer
    → AreTied (with_class lists n) (set longer n (Some n))
AreTied-with_class lists roots longer n tied new same within = record {
  partition = IsPartition-with_class lists n tied.partition new;
  rooted = λ m r. elim (cases_eq m n) [
    | inl is ↦ own m r is
    | inr other ↦ old m r other
  ];
}
  where
    own : (m r : ℕ) → m ≡ n → (root_at (set longer n (Some n)) m ≡ Some r) ↔ IsIn (with_class lists n) r m
    own m r is =
        let here : root_at (set longer n (Some n)) m ≡ Some n = rw is (get_or-set_same longer n (Some n) None within) in (
          λ e. let root : n ≡ r = same_Some n r (sym here ∙ e) in
              (IsIn-with_class lists n r m tied.partition new).1 (inr (sym root, is)),
          λ has. elim ((IsIn-with_class lists n r m tied.partition new).0 has) [
            | inl before ↦ absurd (new (r, subst (λ (k : ℕ). IsIn lists r k) is before))
            | inr parts ↦ here ∙ ap Some (sym parts.0)
          ],
        )

    old : (m r : ℕ) → (m ≡ n → ⊥) → (root_at (set longer n (Some n)) m ≡ Some r) ↔ IsIn (with_class lists n) r m
    old m r other =
        let here : root_at (set longer n (Some n)) m ≡ root_at roots m = get_or-set_other longer n m (Some n) None other ∙ same m in (
          λ e. (IsIn-with_class lists n r m tied.partition new).1 (inl ((tied.rooted m r).0 (sym here ∙ e))),
          λ has. elim ((IsIn-with_class lists n r m tied.partition new).0 has) [
            | inl before ↦ here ∙ (tied.rooted m r).1 before
            | inr parts ↦ absurd (other parts.1)
          ],
        )

-- longer roots say the same
pub AreTied-longer : (lists : List (List ℕ)) (roots longer : List (Option ℕ)) → AreTied lists roots
    → ((m : ℕ) → root_at longer m ≡ root_at roots m) → AreTied lists longer
AreTied-longer lists roots longer tied same = record {
  partition = tied.partition;
  rooted = λ n r. (λ e. (tied.rooted n r).0 (sym (same n) ∙ e), λ has. same n ∙ (tied.rooted n r).1 has);
}

-- who is active then, and who are together
pub active-with_class : (lists : List (List ℕ)) (n x : ℕ) → IsPartition lists → (IsActive lists n → ⊥)
    → IsActive (with_class lists n) x ↔ (IsActive lists x ⊎ (x ≡ n))
active-with_class lists n x classes new = (
  λ active. elim ((IsIn-with_class lists n active.0 x classes new).0 active.1) [
    | inl old ↦ inl (active.0, old)
    | inr own ↦ inr own.1
  ],
  λ parts. elim parts [
    | inl old ↦ (old.0, (IsIn-with_class lists n old.0 x classes new).1 (inl old.1))
    | inr own ↦ (n, (IsIn-with_class lists n n x classes new).1 (inr (refl, own)))
  ],
)

pub together-with_class : (lists : List (List ℕ)) (n x y : ℕ) → IsPartition lists → (IsActive lists n → ⊥)
    → AreTogether (with_class lists n) x y ↔ (AreTogether lists x y ⊎ ((x ≡ n) × (y ≡ n)))
together-with_class lists n x y classes new = (
  λ t. both t.0 ((IsIn-with_class lists n t.0 x classes new).0 t.1) ((IsIn-with_class lists n t.0 y classes new).0 t.2),
  λ parts. elim parts [
    | inl old ↦ (old.0, (IsIn-with_class lists n old.0 x classes new).1 (inl old.1), (IsIn-with_class lists n old.0 y classes new).1 (inl old.2))
    | inr own ↦ (n, (IsIn-with_class lists n n x classes new).1 (inr (refl, own.0)), (IsIn-with_class lists n n y classes new).1 (inr (refl, own.1)))
  ],
)
  where
    both : (r : ℕ) → IsIn lists r x ⊎ ((r ≡ n) × (x ≡ n)) → IsIn lists r y ⊎ ((r ≡ n) × (y ≡ n))
        → AreTogether lists x y ⊎ ((x ≡ n) × (y ≡ n))
    both r (inl left) (inl right) = inl (r, left, right)
    both r (inl left) (inr own) = absurd (Contains-nil x (rw (own.0, members_of-new lists n classes new) at left))
    both r (inr own) (inl right) = absurd (Contains-nil y (rw (own.0, members_of-new lists n classes new) at right))
    both r (inr left) (inr right) = inr (left.1, right.1)
