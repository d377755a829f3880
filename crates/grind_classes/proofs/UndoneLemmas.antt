-- What undoing a change gives back.
use Rattle.std.specs.Prelude.{◌≡◌, ◌≢◌, ℕ, zero, suc, ◌+◌, ◌-◌, ◌<◌, ◌≤◌, List, [], ◌∷◌, ◌++◌, Option, Some, None, All, Contains, length, set, take, replicate, ◌⊎◌, ◌↔◌, refl}
use Rattle.std.proofs.Common.{arith, sym, ap, ◌∙◌, subst, inl, inr, get_or}
use Rattle.std.proofs.lemmas.Bool.{cases_eq}
use Rattle.std.proofs.lemmas.Option.{same_Some}
use Rattle.std.proofs.lemmas.List.{length-set, length-append, get_or-set_same, get_or-set_other, set-set, set_comm, set-get_or, set-append_left, take-append-le, take-set-le}
use Rattle.std.proofs.lemmas.List.Elements.{Contains-get_or}
use Rattle.grind_classes.specs.declared.change.Change.{Change}
use Rattle.grind_classes.specs.declared.change.Change.TheVariants.{Activated, Joined}
use Rattle.grind_classes.specs.Classes.{members_of, IsIn, IsActive, IsPartition, long_enough, with_class, joined}
use Rattle.grind_classes.specs.Roots.{root_at, repointed, AreTied}
use Rattle.grind_classes.specs.Trail.{AreJoinable, parted, undone, IsMade, WasAlone, WasJoined}
use Rattle.grind_classes.proofs.ListLemmas.{members_within, root_within, Contains-nil, Contains-more, Contains-cases, repointed-in, repointed-out}
use Rattle.grind_classes.proofs.ClassLemmas.{members_of-new, IsIn-with_class}
use Rattle.grind_classes.proofs.MergeLemmas.{members-joined-kept, IsIn-joined, in_joined}

-- all of a list
take_all : {A : Type 0} (xs : List A) → take (length xs) xs ≡ xs
take_all [] = refl
take_all (x ∷ xs) = ap (λ ys. x ∷ ys) (take_all xs)

take_front : {A : Type 0} (xs ys : List A) (n : ℕ) → n ≡ length xs → take n (xs ++ ys) ≡ xs
take_front xs ys n is = rw is (take-append-le (length xs) xs ys (omega arith) ∙ take_all xs)

le_or_less : (m n : ℕ) → (m ≤ n) ⊎ (n < m)
le_or_less zero n = inl (omega arith)
le_or_less (suc m) zero = inr (omega arith)
le_or_less (suc m) (suc n) = elim (le_or_less m n) [
  | inl below ↦ inl (omega (arith, below))
  | inr above ↦ inr (omega (arith, above))
]

-- a node that was activated last
undone-activated : (before : List (List ℕ)) (node : ℕ) → IsPartition before → (IsActive before node → ⊥)
    → take (length before) (set (with_class before node) node []) ≡ before
undone-activated before node classes new = elim (le_or_less (length before) node) [
  | inl past ↦
      rw set-set (take-set-le (length before) (long_enough before node) node [] past
      ∙ take_front before (replicate (node + 1 - length before) []) (length before) refl)
  | inr within ↦
      rw (set-set, set-append_left before (replicate (node + 1 - length before) []) node [] within)
      (take_front (set before node []) (replicate (node + 1 - length before) []) (length before) (sym (length-set before node []))
      ∙ blank)
]
  where
    blank : set before node [] ≡ before
    blank = ap (λ list. set before node list) (sym (members_of-new before node classes new)) ∙ set-get_or before node []

-- two classes that were joined last
undone-joined : (before : List (List ℕ)) (kept gone : ℕ) → AreJoinable before kept gone
    → parted (joined before kept gone) kept gone (members_of before gone) ≡ before
undone-joined before kept gone can =
    let count : length (members_of before kept ++ members_of before gone) - length (members_of before gone) ≡ length (members_of before kept) =
    omega (arith, length-append (members_of before kept) (members_of before gone)) in
    rw (members-joined-kept before kept gone can, take_front (members_of before kept) (members_of before gone) _ count)
    (ap (λ lists. set lists kept (members_of before kept))
    (set-set (set before kept (members_of before kept ++ members_of before gone)) gone [] (members_of before gone)
    ∙ set_comm before kept gone (members_of before kept ++ members_of before gone) (members_of before gone) can.differ
    ∙ ap (λ lists. set lists kept (members_of before kept ++ members_of before gone)) (set-get_or before gone []))
    ∙ set-set before kept (members_of before kept ++ members_of before gone) (members_of before kept)
    ∙ set-get_or before kept [])

-- what undoing a change gives back is what was there before
pub undone-made : (before after : List (List ℕ)) (change : Change) → IsMade before change after → undone change after ≡ before
undone-made before after (Activated node len blank) made =
    rw (made.2, made.3, made.4) (undone-activated before node made.0 made.1)
undone-made before after (Joined kept gone moved) made =
    rw (made.1, made.2) (undone-joined before kept gone made.0)

-- a node is in a list, or it is not
cases_in : (xs : List ℕ) (n : ℕ) → Contains xs n ⊎ (Contains xs n → ⊥)
cases_in [] n = inr (Contains-nil n)
cases_in (x ∷ xs) n = elim (cases_eq x n) [
  | inl is ↦ inl (0, omega arith, is)
  | inr other ↦ elim (cases_in xs n) [
    | inl later ↦ inl (Contains-more x xs n later)
    | inr out ↦ inr (λ has. elim (Contains-cases x xs n has) [
      | inl here ↦ other here
      | inr there ↦ out there
    ])
  ]
]

-- what an undone activation needs
pub alone_within : (lists : List (List ℕ)) (roots : List (Option ℕ)) (node len : ℕ) (blank : List ℕ) → AreTied lists roots
    → WasAlone node len blank lists → (node < length lists) × (node < length roots)
alone_within lists roots node len blank tied (before, made) =
    let own : IsIn lists node node = rw made.4 ((IsIn-with_class before node node node made.0 made.1).1 (inr (refl, refl))) in
    (members_within lists node node own, root_within roots node node ((tied.rooted node node).1 own))

-- the roots once an activation is undone
pub AreTied-deactivated : (lists : List (List ℕ)) (roots : List (Option ℕ)) (node len : ℕ) (blank : List ℕ) → AreTied lists roots
    → WasAlone node len blank lists → AreTied (take len (set lists node blank)) (set roots node None)
AreTied-deactivated lists roots node len blank tied (before, made) =
    subst (λ old. AreTied old (set roots node None)) (sym (undone-made before lists (Activated node len blank) made)) (record {
      partition = made.0;
      rooted = λ m r. elim (cases_eq m node) [
        | inl is ↦ (
          λ e. let none : root_at (set roots node None) m ≡ None =
              rw is (get_or-set_same roots node None None (alone_within lists roots node len blank tied (before, made)).1) in absurd cc,
          λ has. absurd (made.1 (r, subst (λ (k : ℕ). IsIn before r k) is has)),
        )
        | inr other ↦
            let same : root_at (set roots node None) m ≡ root_at roots m = get_or-set_other roots node m None None other in (
              λ e. elim ((IsIn-with_class before node r m made.0 made.1).0 (rw made.4 at ((tied.rooted m r).0 (sym same ∙ e)))) [
                | inl old ↦ old
                | inr own ↦ absurd (other own.1)
              ],
              λ has. same ∙ (tied.rooted m r).1 (rw made.4 ((IsIn-with_class before node r m made.0 made.1).1 (inl has))),
            )
      ];
    })

-- what an undone merge needs
pub joined_within : (lists : List (List ℕ)) (kept gone : ℕ) (moved : List ℕ) → WasJoined kept gone moved lists
    → (kept < length lists) × (gone < length lists) × (gone ≢ kept) × (length moved ≤ length (members_of lists kept))
joined_within lists kept gone moved (before, made) =
    let can : AreJoinable before kept gone = made.0 in
    let long : length lists ≡ length before = ap (λ ls. length ls) made.2
    ∙ length-set (set before kept (members_of before kept ++ members_of before gone)) gone []
    ∙ length-set before kept (members_of before kept ++ members_of before gone) in
    let here : members_of lists kept ≡ members_of before kept ++ members_of before gone =
    ap (λ ls. members_of ls kept) made.2 ∙ members-joined-kept before kept gone can in (
      omega (arith, long, members_within before kept kept can.kept_in),
      omega (arith, long, members_within before gone gone can.gone_in),
      λ e. can.differ (sym e),
      omega (arith, ap (λ xs. length xs) made.1, ap (λ xs. length xs) here, length-append (members_of before kept) (members_of before gone)),
    )

pub moved_within : (lists : List (List ℕ)) (roots : List (Option ℕ)) (kept gone : ℕ) (moved : List ℕ) → AreTied lists roots
    → WasJoined kept gone moved lists → All (λ n. n < length roots) moved
moved_within lists roots kept gone moved tied (before, made) k d below =
    let has : IsIn before gone (get_or moved k d) = rw (← made.1) (Contains-get_or moved k d below) in
    let now : IsIn lists kept (get_or moved k d) = rw made.2 (in_joined before kept gone (get_or moved k d) made.0 (inr has)) in
    root_within roots (get_or moved k d) kept ((tied.rooted (get_or moved k d) kept).1 now)

-- the roots once a merge is undone
pub AreTied-parted : (lists : List (List ℕ)) (roots : List (Option ℕ)) (kept gone : ℕ) (moved : List ℕ) → AreTied lists roots
    → WasJoined kept gone moved lists → AreTied (parted lists kept gone moved) (repointed roots moved gone)
AreTied-parted lists roots kept gone moved tied (before, made) =
    subst (λ old. AreTied old (repointed roots moved gone)) (sym (undone-made before lists (Joined kept gone moved) made)) (record {
      partition = made.0.classes;
      rooted = λ m r. elim (cases_in moved m) [
        | inl has ↦ back m r has
        | inr out ↦ stays m r out
      ];
    })
  where
    back : (m r : ℕ) → Contains moved m → (root_at (repointed roots moved gone) m ≡ Some r) ↔ IsIn before r m
    back m r has =
        let here : root_at (repointed roots moved gone) m ≡ Some gone =
        repointed-in roots moved gone m (moved_within lists roots kept gone moved tied (before, made)) has in
        let within : IsIn before gone m = rw (← made.1) has in (
          λ e. subst (λ (s : ℕ). IsIn before s m) (same_Some gone r (sym here ∙ e)) within,
          λ old. here ∙ ap Some (made.0.classes.in_one gone r m within old),
        )

    stays : (m r : ℕ) → (Contains moved m → ⊥) → (root_at (repointed roots moved gone) m ≡ Some r) ↔ IsIn before r m
    stays m r out =
        let here : root_at (repointed roots moved gone) m ≡ root_at roots m = repointed-out roots moved gone m out in
        let outside : IsIn before gone m → ⊥ = λ has. out (rw made.1 has) in (
          λ e. elim ((IsIn-joined before kept gone r m made.0).0 (rw made.2 at ((tied.rooted m r).0 (sym here ∙ e)))) [
            | inl left ↦ left.1
            | inr right ↦ absurd (outside right.1)
          ],
          λ has. here ∙ (tied.rooted m r).1 (rw made.2 ((IsIn-joined before kept gone r m made.0).1
              (inl (λ is. outside (subst (λ (s : ℕ). IsIn before s m) is has), has)))),
        )

-- lists in whose places others are put
pub put_back : (lists : List (List ℕ)) (root : ℕ) (stood : List ℕ) → members_of lists root ≡ stood
    → set (set lists root []) root stood ≡ lists
put_back lists root stood is = set-set lists root [] stood ∙ ap (λ list. set lists root list) (sym is) ∙ set-get_or lists root []

pub appended : (lists : List (List ℕ)) (kept gone : ℕ) (moved : List ℕ) → gone ≢ kept → members_of lists gone ≡ moved
    → set (set lists gone []) kept (members_of (set lists gone []) kept ++ moved) ≡ joined lists kept gone
appended lists kept gone moved differ is =
    rw (get_or-set_other lists gone kept [] [] (λ e. differ (sym e)), ← is)
    (set_comm lists gone kept [] (members_of lists kept ++ members_of lists gone) differ)

pub apart : (lists : List (List ℕ)) (kept gone : ℕ) (moved blank both : List ℕ) → gone ≢ kept
    → members_of (set lists gone moved) kept ≡ both
    → set (set (set lists gone moved) kept blank) kept (take (length both - length moved) both) ≡ parted lists kept gone moved
apart lists kept gone moved blank both differ is =
    let here : members_of lists kept ≡ both = sym (get_or-set_other lists gone kept moved [] (λ e. differ (sym e))) ∙ is in
    rw (here, set-set) refl
