-- What joining two classes changes.
use Rattle.std.specs.Prelude.{◌≡◌, ℕ, ◌<◌, ◌≤◌, List, [], ◌∷◌, ◌++◌, Option, Some, None, All, Contains, length, set, ◌⊎◌, ◌↔◌, refl}
use Rattle.std.proofs.Common.{arith, sym, ap, ◌∙◌, subst, inl, inr, get_or}
use Rattle.std.proofs.lemmas.Bool.{cases_eq}
use Rattle.std.proofs.lemmas.Option.{same_Some}
use Rattle.std.proofs.lemmas.List.{length-set, get_or-set_same, get_or-set_other}
use Rattle.std.proofs.lemmas.List.Elements.{Contains-append_left, Contains-append_right, Contains-append_cases, Contains-get_or}
use Rattle.grind_classes.specs.Classes.{members_of, IsIn, IsActive, AreTogether, AreApart, IsPartition, AreMergedAt, IsMerge, joined}
use Rattle.grind_classes.specs.Trail.{AreJoinable}
use Rattle.grind_classes.specs.Roots.{root_at, repointed, AreTied}
use Rattle.grind_classes.proofs.ListLemmas.{members_within, root_within, Contains-nil, AreApart-append, repointed-in, repointed-out}

-- the members, once the classes are joined
pub members-joined-kept : (lists : List (List ℕ)) (kept gone : ℕ) → AreJoinable lists kept gone
    → members_of (joined lists kept gone) kept ≡ members_of lists kept ++ members_of lists gone
members-joined-kept lists kept gone can =
    let below : kept < length lists = members_within lists kept kept can.kept_in in
    get_or-set_other (set lists kept (members_of lists kept ++ members_of lists gone)) gone kept [] [] can.differ
    ∙ get_or-set_same lists kept (members_of lists kept ++ members_of lists gone) [] below

pub members-joined-gone : (lists : List (List ℕ)) (kept gone : ℕ) → AreJoinable lists kept gone
    → members_of (joined lists kept gone) gone ≡ []
members-joined-gone lists kept gone can =
    let below : gone < length lists = members_within lists gone gone can.gone_in in
    let still : gone < length (set lists kept (members_of lists kept ++ members_of lists gone)) = rw length-set below in
    get_or-set_same (set lists kept (members_of lists kept ++ members_of lists gone)) gone [] [] still

pub members-joined-other : (lists : List (List ℕ)) (kept gone r : ℕ) → (r ≡ kept → ⊥) → (r ≡ gone → ⊥)
    → members_of (joined lists kept gone) r ≡ members_of lists r
members-joined-other lists kept gone r not_kept not_gone =
    get_or-set_other (set lists kept (members_of lists kept ++ members_of lists gone)) gone r [] [] not_gone
    ∙ get_or-set_other lists kept r (members_of lists kept ++ members_of lists gone) [] not_kept

-- who is in a class then
pub IsIn-joined : (lists : List (List ℕ)) (kept gone r x : ℕ) → AreJoinable lists kept gone
    → IsIn (joined lists kept gone) r x ↔ (((r ≡ gone → ⊥) × IsIn lists r x) ⊎ ((r ≡ kept) × IsIn lists gone x))
IsIn-joined lists kept gone r x can = elim (cases_eq r kept) [
  | inl is ↦ (
    λ has. elim (Contains-append_cases (members_of lists kept) (members_of lists gone) x (rw (is, members-joined-kept lists kept gone can) at has)) [
      | inl left ↦ inl (λ e. can.differ (sym is ∙ e), rw is left)
      | inr right ↦ inr (is, right)
    ],
    λ parts. rw (is, members-joined-kept lists kept gone can) (elim parts [
      | inl left ↦ Contains-append_left (members_of lists kept) (members_of lists gone) x (rw is at left.1)
      | inr right ↦ Contains-append_right (members_of lists kept) (members_of lists gone) x right.1
    ]),
  )
  | inr other ↦ (
    λ has. elim (cases_eq r gone) [
      | inl is ↦ absurd (Contains-nil x (rw (is, members-joined-gone lists kept gone can) at has))
      | inr else ↦ inl (else, rw (members-joined-other lists kept gone r other else) at has)
    ],
    λ parts. elim parts [
      | inl left ↦ rw (members-joined-other lists kept gone r other left.0) left.1
      | inr right ↦ absurd (other right.0)
    ],
  )
]

-- the first of two lists one after the other is that of the first list
first_of_append : (xs ys : List ℕ) (kept first : ℕ) (rest : List ℕ) → Contains xs kept
    → ((m : ℕ) (ms : List ℕ) → xs ≡ m ∷ ms → m ≡ kept) → xs ++ ys ≡ first ∷ rest → first ≡ kept
first_of_append [] ys kept first rest has root e = absurd (Contains-nil kept has)
first_of_append (x ∷ xs) ys kept first rest has root e =
    let is : x ≡ first = cc in sym is ∙ root x xs refl

-- the joined classes are classes
pub IsPartition-joined : (lists : List (List ℕ)) (kept gone : ℕ) → AreJoinable lists kept gone → IsPartition (joined lists kept gone)
IsPartition-joined lists kept gone can = record {
  root_first = first;
  in_one = λ r s x left right. unique r s x ((IsIn-joined lists kept gone r x can).0 left) ((IsIn-joined lists kept gone s x can).0 right);
  once = once;
}
  where
    first : (r first : ℕ) (rest : List ℕ) → members_of (joined lists kept gone) r ≡ first ∷ rest → first ≡ r
    first r m rest e = elim (cases_eq r kept) [
      | inl is ↦
          let both : members_of lists kept ++ members_of lists gone ≡ m ∷ rest = rw (is, members-joined-kept lists kept gone can) at e in
          first_of_append (members_of lists kept) (members_of lists gone) kept m rest can.kept_in
          (λ k ks is_first. can.classes.root_first kept k ks is_first) both ∙ sym is
      | inr other ↦ elim (cases_eq r gone) [
        | inl is ↦ let none : [] ≡ m ∷ rest = rw (is, members-joined-gone lists kept gone can) at e in absurd cc
        | inr else ↦ can.classes.root_first r m rest (rw (members-joined-other lists kept gone r other else) at e)
      ]
    ]

    unique : (r s x : ℕ) → ((r ≡ gone → ⊥) × IsIn lists r x) ⊎ ((r ≡ kept) × IsIn lists gone x)
        → ((s ≡ gone → ⊥) × IsIn lists s x) ⊎ ((s ≡ kept) × IsIn lists gone x) → r ≡ s
    unique r s x (inl left) (inl right) = can.classes.in_one r s x left.1 right.1
    unique r s x (inl left) (inr right) = absurd (left.0 (can.classes.in_one r gone x left.1 right.1))
    unique r s x (inr left) (inl right) = absurd (right.0 (can.classes.in_one s gone x right.1 left.1))
    unique r s x (inr left) (inr right) = left.0 ∙ sym right.0

    once : (r : ℕ) → AreApart (members_of (joined lists kept gone) r)
    once r = elim (cases_eq r kept) [
      | inl is ↦ rw (is, members-joined-kept lists kept gone can)
          (AreApart-append (members_of lists kept) (members_of lists gone) (can.classes.once kept) (can.classes.once gone)
          (λ n left right. can.differ (can.classes.in_one kept gone n left right)))
      | inr other ↦ elim (cases_eq r gone) [
        | inl is ↦ rw (is, members-joined-gone lists kept gone can) tt
        | inr else ↦ rw (members-joined-other lists kept gone r other else) (can.classes.once r)
      ]
    ]

-- the nodes that get a new root have an entry
pub members_have_roots : (lists : List (List ℕ)) (roots : List (Option ℕ)) (r : ℕ) → AreTied lists roots
    → All (λ n. n < length roots) (members_of lists r)
members_have_roots lists roots r tied k d below =
    let has : IsIn lists r (get_or (members_of lists r) k d) = Contains-get_or (members_of lists r) k d below in
    root_within roots (get_or (members_of lists r) k d) r ((tied.rooted (get_or (members_of lists r) k d) r).1 has)

-- an entry is that root, or it is not
cases_root : (found : Option ℕ) (r : ℕ) → (found ≡ Some r) ⊎ (found ≡ Some r → ⊥)
cases_root None r = inr (λ e. cc)
cases_root (Some s) r = elim (cases_eq s r) [
  | inl is ↦ inl (ap Some is)
  | inr other ↦ inr (λ e. other (same_Some s r e))
]

-- the roots are tied to the joined classes
pub AreTied-joined : (lists : List (List ℕ)) (roots : List (Option ℕ)) (kept gone : ℕ) → AreTied lists roots
    → AreJoinable lists kept gone → AreTied (joined lists kept gone) (repointed roots (members_of lists gone) kept)
AreTied-joined lists roots kept gone tied can = record {
  partition = IsPartition-joined lists kept gone can;
  rooted = λ m r. elim (cases_root (root_at roots m) gone) [
    | inl is ↦ moved m r ((tied.rooted m gone).0 is)
    | inr other ↦ stays m r (λ has. other ((tied.rooted m gone).1 has))
  ];
}
  where
    moved : (m r : ℕ) → IsIn lists gone m
        → (root_at (repointed roots (members_of lists gone) kept) m ≡ Some r) ↔ IsIn (joined lists kept gone) r m
    moved m r has =
        let here : root_at (repointed roots (members_of lists gone) kept) m ≡ Some kept =
        repointed-in roots (members_of lists gone) kept m (members_have_roots lists roots gone tied) has in (
          λ e. (IsIn-joined lists kept gone r m can).1 (inr (sym (same_Some kept r (sym here ∙ e)), has)),
          λ in_joined. elim ((IsIn-joined lists kept gone r m can).0 in_joined) [
            | inl left ↦ absurd (left.0 (can.classes.in_one r gone m left.1 has))
            | inr right ↦ here ∙ ap Some (sym right.0)
          ],
        )

    stays : (m r : ℕ) → (IsIn lists gone m → ⊥)
        → (root_at (repointed roots (members_of lists gone) kept) m ≡ Some r) ↔ IsIn (joined lists kept gone) r m
    stays m r out =
        let here : root_at (repointed roots (members_of lists gone) kept) m ≡ root_at roots m =
        repointed-out roots (members_of lists gone) kept m out in (
          λ e. let old : IsIn lists r m = (tied.rooted m r).0 (sym here ∙ e) in
              (IsIn-joined lists kept gone r m can).1 (inl (λ is. out (subst (λ (s : ℕ). IsIn lists s m) is old), old)),
          λ in_joined. elim ((IsIn-joined lists kept gone r m can).0 in_joined) [
            | inl left ↦ here ∙ (tied.rooted m r).1 left.1
            | inr right ↦ absurd (out right.1)
          ],
        )

-- who is active stays active
pub active-joined : (lists : List (List ℕ)) (kept gone x : ℕ) → AreJoinable lists kept gone
    → IsActive (joined lists kept gone) x ↔ IsActive lists x
active-joined lists kept gone x can = (
  λ active. elim ((IsIn-joined lists kept gone active.0 x can).0 active.1) [
    | inl left ↦ (active.0, left.1)
    | inr right ↦ (gone, right.1)
  ],
  λ active. elim (cases_eq active.0 gone) [
    | inl is ↦ (kept, (IsIn-joined lists kept gone kept x can).1 (inr (refl, subst (λ (s : ℕ). IsIn lists s x) is active.1)))
    | inr other ↦ (active.0, (IsIn-joined lists kept gone active.0 x can).1 (inl (other, active.1)))
  ],
)

-- a member of either class is in the joined one
pub in_joined : (lists : List (List ℕ)) (kept gone x : ℕ) → AreJoinable lists kept gone → IsIn lists kept x ⊎ IsIn lists gone x
    → IsIn (joined lists kept gone) kept x
in_joined lists kept gone x can (inl left) = (IsIn-joined lists kept gone kept x can).1 (inl (can.differ, left))
in_joined lists kept gone x can (inr right) = (IsIn-joined lists kept gone kept x can).1 (inr (refl, right))

-- together in one class, seen from a member of it
with_member : (lists : List (List ℕ)) (r a x : ℕ) → IsPartition lists → IsIn lists r a → AreTogether lists x a → IsIn lists r x
with_member lists r a x classes has t = subst (λ (s : ℕ). IsIn lists s x) (classes.in_one t.0 r a t.2 has) t.1

with_member_back : (lists : List (List ℕ)) (r b y : ℕ) → IsPartition lists → IsIn lists r b → AreTogether lists b y → IsIn lists r y
with_member_back lists r b y classes has t = subst (λ (s : ℕ). IsIn lists s y) (classes.in_one t.0 r b t.1 has) t.2

-- who are together then
pub together-joined : (lists : List (List ℕ)) (kept gone a b x y : ℕ) → AreJoinable lists kept gone → IsIn lists kept a
    → IsIn lists gone b → AreMergedAt lists a b (joined lists kept gone) x y
together-joined lists kept gone a b x y can left right = (
  λ t. both t.0 ((IsIn-joined lists kept gone t.0 x can).0 t.1) ((IsIn-joined lists kept gone t.0 y can).0 t.2),
  λ parts. elim parts [
    | inl old ↦ elim (cases_eq old.0 gone) [
      | inl is ↦ (
        kept,
        in_joined lists kept gone x can (inr (subst (λ (s : ℕ). IsIn lists s x) is old.1)),
        in_joined lists kept gone y can (inr (subst (λ (s : ℕ). IsIn lists s y) is old.2)),
      )
      | inr other ↦ (
        old.0,
        (IsIn-joined lists kept gone old.0 x can).1 (inl (other, old.1)),
        (IsIn-joined lists kept gone old.0 y can).1 (inl (other, old.2)),
      )
    ]
    | inr new ↦ elim new [
      | inl ab ↦ (
        kept,
        in_joined lists kept gone x can (inl (with_member lists kept a x can.classes left ab.0)),
        in_joined lists kept gone y can (inr (with_member_back lists gone b y can.classes right ab.1)),
      )
      | inr ba ↦ (
        kept,
        in_joined lists kept gone x can (inr (with_member lists gone b x can.classes right ba.0)),
        in_joined lists kept gone y can (inl (with_member_back lists kept a y can.classes left ba.1)),
      )
    ]
  ],
)
  where
    both : (r : ℕ) → ((r ≡ gone → ⊥) × IsIn lists r x) ⊎ ((r ≡ kept) × IsIn lists gone x)
        → ((r ≡ gone → ⊥) × IsIn lists r y) ⊎ ((r ≡ kept) × IsIn lists gone y)
        → AreTogether lists x y ⊎ ((AreTogether lists x a × AreTogether lists b y) ⊎ (AreTogether lists x b × AreTogether lists a y))
    both r (inl p) (inl q) = inl (r, p.1, q.1)
    both r (inl p) (inr q) =
        inr (inl ((kept, subst (λ (s : ℕ). IsIn lists s x) q.0 p.1, left), (gone, right, q.1)))
    both r (inr p) (inl q) =
        inr (inr ((gone, p.1, right), (kept, left, subst (λ (s : ℕ). IsIn lists s y) p.0 q.1)))
    both r (inr p) (inr q) = inl (gone, p.1, q.1)

-- the same seen from the other side
pub AreMergedAt-swap : (old : List (List ℕ)) (a b : ℕ) (new : List (List ℕ)) (x y : ℕ) → AreMergedAt old a b new x y → AreMergedAt old b a new x y
AreMergedAt-swap old a b new x y (there, back) = (
  λ t. elim (there t) [
    | inl same ↦ inl same
    | inr other ↦ elim other [
      | inl ab ↦ inr (inr ab)
      | inr ba ↦ inr (inl ba)
    ]
  ],
  λ parts. back (elim parts [
    | inl same ↦ inl same
    | inr other ↦ elim other [
      | inl ba ↦ inr (inr ba)
      | inr ab ↦ inr (inl ab)
    ]
  ]),
)

-- what the merge did, where the first class stays
pub IsMerge-left : (old new : List (List ℕ)) (a b left right moved ra rb : ℕ) → IsPartition old → IsIn old left a → IsIn old right b
    → length (members_of old right) ≤ length (members_of old left) → new ≡ joined old left right
    → moved ≡ length (members_of old right) → IsIn old ra a → IsIn old rb b → IsMerge old ra rb new left moved
IsMerge-left old new a b left right moved ra rb classes has_a has_b order lists count in_a in_b =
    let first : ra ≡ left = classes.in_one ra left a in_a has_a in
    let second : rb ≡ right = classes.in_one rb right b in_b has_b in
    rw (first, second) (λ _. (lists, refl, count), λ less. absurd (omega arith))

-- and where the second stays
pub IsMerge-right : (old new : List (List ℕ)) (a b left right moved ra rb : ℕ) → IsPartition old → IsIn old left a → IsIn old right b
    → length (members_of old left) < length (members_of old right) → new ≡ joined old right left
    → moved ≡ length (members_of old left) → IsIn old ra a → IsIn old rb b → IsMerge old ra rb new right moved
IsMerge-right old new a b left right moved ra rb classes has_a has_b order lists count in_a in_b =
    let first : ra ≡ left = classes.in_one ra left a in_a has_a in
    let second : rb ≡ right = classes.in_one rb right b in_b has_b in
    rw (first, second) (λ more. absurd (omega arith), λ _. (lists, refl, count))

-- the two classes can be joined, in either order
pub joinable : (lists : List (List ℕ)) (left right a b : ℕ) → IsPartition lists → IsIn lists left left → IsIn lists right right
    → IsIn lists left a → IsIn lists right b → ¬ AreTogether lists a b → AreJoinable lists left right × AreJoinable lists right left
joinable lists left right a b classes left_in right_in has_a has_b differ = (
  record { classes = classes; kept_in = left_in; gone_in = right_in; differ = λ e. apart e },
  record { classes = classes; kept_in = right_in; gone_in = left_in; differ = λ e. apart (sym e) },
)
  where
    apart : left ≡ right → ⊥
    apart e = differ (left, has_a, subst (λ (r : ℕ). IsIn lists r b) (sym e) has_b)
