-- Tables of buckets, and joins by them.
use Rattle.std.proofs.Common.{take, ◌+◌, ◌≡◌, ◌⊎◌, inl, inr, ℕ, zero, suc, ◌<◌, Bool, true, false, ◌&&◌, true≢false, eq-eqb, cond, List, [], ◌∷◌, ◌++◌, Option, Some, None, length, nat_eq, slice_index_or, Contains, refl, sym, ap, ◌∙◌, subst}
use Rattle.std.specs.Prelude.{IsSome}
use Rattle.std.specs.Option.{option_eq, unwrap_or, is_some}
use Rattle.std.specs.Map.{lookup}
use Rattle.std.proofs.lemmas.List.Elements.{Contains-push, Contains-push_cases, Contains-append_left}
use Rattle.grind_ematch.specs.declared.partial.Partial.{Partial}
use Rattle.grind_ematch.specs.Partials.{IsUnion, AreUnion, JoinsOne}
use Rattle.grind_ematch.specs.SlotsEqual.{slots_same}
use Rattle.grind_ematch.specs.Buckets.{Key, root_at, key_at, key_eq, HasRoots, HaveRoots, Buckets, bucket_at, TakesBucket, PutsInBucket, AreBuckets}
use Rattle.grind_ematch.proofs.Along.{take_next, none_in, cons_in, head_in}

nat_eq-refl : (n : ℕ) → nat_eq n n ≡ true
nat_eq-refl n = eq-eqb n n refl

slot_refl : (slot : Option ℕ) → option_eq nat_eq slot slot ≡ true
slot_refl None = refl
slot_refl (Some n) = nat_eq-refl n

key_refl : (key : Key) → key_eq key key ≡ true
key_refl [] = refl
key_refl (slot ∷ slots) = both_true (option_eq nat_eq slot slot) (key_eq slots slots) (slot_refl slot) (key_refl slots)
  where
    both_true : (a b : Bool) → a ≡ true → b ≡ true → (a && b) ≡ true
    both_true a b e f = ap (λ (t : Bool). t && b) e ∙ f

-- by what the calls answer: the bucket is taken out, one more partial match is put in, and it is put back
pub puts_by : (variables : List ℕ) (before mid after : Buckets) (key : Key) (bucket more : List Partial) (partial : Partial)
    → key ≡ key_at partial.slots variables
    → bucket ≡ bucket_at before key → TakesBucket key before mid
    → more ≡ bucket ++ partial ∷ []
    → ((other : Key) → lookup (key_eq other) after
    ≡ cond (key_eq key other) (Some more) (lookup (key_eq other) mid))
    → PutsInBucket variables before partial after
unfolding bucket_at
puts_by variables before mid after key bucket more partial own is taken pushed put = record {
  from = λ other x there. from_at other x (key_eq key other) refl there;
  kept = λ other x there. kept_at other x (key_eq key other) refl there;
  added = subst (λ (k : Key). Contains (unwrap_or (lookup (key_eq k) after) []) partial) own
      (subst (λ (list : List Partial). Contains list partial) (sym (at_key key (key_refl key))) last_in);
}
  where
    at_key : (other : Key) → key_eq key other ≡ true
        → unwrap_or (lookup (key_eq other) after) [] ≡ more
    at_key other e = ap (λ o. unwrap_or o []) (put other ∙ ap (λ (b : Bool). cond b (Some more) (lookup (key_eq other) mid)) e)

    elsewhere : (other : Key) → key_eq key other ≡ false
        → unwrap_or (lookup (key_eq other) after) [] ≡ unwrap_or (lookup (key_eq other) before) []
    elsewhere other e = ap (λ o. unwrap_or o []) (put other
        ∙ ap (λ (b : Bool). cond b (Some more) (lookup (key_eq other) mid)) e
        ∙ taken other ∙ ap (λ (b : Bool). cond b None (lookup (key_eq other) before)) e)

    bucket_of : (other : Key) → key_eq key other ≡ true
        → bucket ≡ unwrap_or (lookup (key_eq other) before) []
    bucket_of other e = is ∙ ap (λ (k : Key). unwrap_or (lookup (key_eq k) before) []) (slots_same key other e)

    last_in : Contains more partial
    last_in = subst (λ (list : List Partial). Contains list partial) (sym pushed) (Contains-push bucket partial)

    from_at : (other : Key) (x : Partial) (b : Bool) → key_eq key other ≡ b
        → Contains (unwrap_or (lookup (key_eq other) after) []) x
        → Contains (unwrap_or (lookup (key_eq other) before) []) x ⊎ (partial ≡ x)
    from_at other x true e there =
        elim (Contains-push_cases bucket partial x
        (subst (λ (list : List Partial). Contains list x) (at_key other e ∙ pushed) there)) [
          | inl old ↦ inl (subst (λ (list : List Partial). Contains list x) (bucket_of other e) old)
          | inr new ↦ inr new
        ]
    from_at other x false e there = inl (subst (λ (list : List Partial). Contains list x) (elsewhere other e) there)

    kept_at : (other : Key) (x : Partial) (b : Bool) → key_eq key other ≡ b
        → Contains (unwrap_or (lookup (key_eq other) before) []) x
        → Contains (unwrap_or (lookup (key_eq other) after) []) x
    kept_at other x true e there =
        subst (λ (list : List Partial). Contains list x) (sym (at_key other e ∙ pushed))
        (Contains-append_left bucket (partial ∷ []) x
        (subst (λ (list : List Partial). Contains list x) (sym (bucket_of other e)) there))
    kept_at other x false e there = subst (λ (list : List Partial). Contains list x) (sym (elsewhere other e)) there

-- on the way to buckets
pub record IsSorting (variables : List ℕ) (list : List Partial) (buckets : Buckets) (rest : List Partial) : Type 0 where
  pub from : (key : Key) (partial : Partial) → Contains (bucket_at buckets key) partial → Contains list partial
  pub all : (partial : Partial) → Contains list partial → Contains rest partial
      ⊎ Contains (bucket_at buckets (key_at partial.slots variables)) partial
  pub left : (partial : Partial) → Contains rest partial → Contains list partial

pub IsSorting-first : (variables : List ℕ) (list : List Partial) (buckets : Buckets) → buckets ≡ [] → IsSorting variables list buckets list
unfolding bucket_at
IsSorting-first variables list buckets e = record {
  from = λ key partial there. absurd (none_in partial
      (subst (λ (b : Buckets). Contains (unwrap_or (lookup (key_eq key) b) []) partial) e there));
  all = λ partial there. inl there;
  left = λ partial there. there;
}

pub IsSorting-next : (variables : List ℕ) (list rest fewer : List Partial) (buckets after : Buckets) (one : Partial)
    → rest ≡ fewer ++ one ∷ [] → PutsInBucket variables buckets one after → IsSorting variables list buckets rest
    → IsSorting variables list after fewer
IsSorting-next variables list rest fewer buckets after one e puts h =
    let last : Contains rest one = subst (λ (l : List Partial). Contains l one) (sym e) (Contains-push fewer one) in
    record {
      from = λ key partial there. elim (puts.from key partial there) [
        | inl old ↦ h.from key partial old
        | inr new ↦ subst (Contains list) new (h.left one last)
      ];
      all = λ partial there. elim (h.all partial there) [
        | inl later ↦ elim (Contains-push_cases fewer one partial (subst (λ (l : List Partial). Contains l partial) e later)) [
          | inl still ↦ inl still
          | inr same ↦ inr (subst (λ (p : Partial). Contains (bucket_at after (key_at p.slots variables)) p) same puts.added)
        ]
        | inr done ↦ inr (puts.kept (key_at partial.slots variables) partial done)
      ];
      left = λ partial there. h.left partial
          (subst (λ (l : List Partial). Contains l partial) (sym e) (Contains-append_left fewer (one ∷ []) partial there));
    }

pub IsSorting-last : (variables : List ℕ) (list rest : List Partial) (buckets : Buckets) → rest ≡ []
    → IsSorting variables list buckets rest → AreBuckets variables list buckets
IsSorting-last variables list rest buckets e h = record {
  from = h.from;
  all = λ partial there. elim (h.all partial there) [
    | inl later ↦ absurd (none_in partial (subst (λ (l : List Partial). Contains l partial) e later))
    | inr done ↦ done
  ];
}

-- what two lists have together has one root where both have one
slot_keys : (x y z : Option ℕ) → IsUnion x y z → IsSome x → IsSome y → x ≡ y
slot_keys None y z u p q = absurd (true≢false (sym p))
slot_keys (Some n) None z u p q = absurd (true≢false (sym q))
slot_keys (Some n) (Some m) z u p q = ap (λ (k : ℕ). Some k) u.0

union_roots : (xs ys zs : Key) (variable : ℕ) → AreUnion xs ys zs → IsSome (root_at xs variable)
    → IsSome (root_at ys variable) → root_at xs variable ≡ root_at ys variable
union_roots [] [] zs variable u p q = refl
union_roots [] (y ∷ ys) zs variable u p q = absurd u
union_roots (x ∷ xs) [] zs variable u p q = absurd u
union_roots (x ∷ xs) (y ∷ ys) zs zero u p q = slot_keys x y u.0 u.3 p q
union_roots (x ∷ xs) (y ∷ ys) zs (suc variable) u p q = union_roots xs ys u.1 variable u.4 p q

-- and one key by variables that have roots in both
union_keys : (xs ys zs : Key) (variables : List ℕ) → AreUnion xs ys zs
    → ((variable : ℕ) → Contains variables variable → IsSome (root_at xs variable))
    → ((variable : ℕ) → Contains variables variable → IsSome (root_at ys variable)) → key_at xs variables ≡ key_at ys variables
union_keys xs ys zs [] u p q = refl
union_keys xs ys zs (first ∷ rest) u p q =
    let here : root_at xs first ≡ root_at ys first = union_roots xs ys zs first u (p first (head_in first rest)) (q first (head_in first rest)) in
    let later : key_at xs rest ≡ key_at ys rest = union_keys xs ys zs rest u (λ variable there. p variable (cons_in first rest variable there))
    (λ variable there. q variable (cons_in first rest variable there)) in
    ap (λ (root : Option ℕ). root ∷ key_at xs rest) here ∙ ap (λ (key : Key). root_at ys first ∷ key) later

-- the bucket of the same key is enough
pub JoinsOne-bucket : (variables : List ℕ) (one : Partial) (right : List Partial) (buckets : Buckets) (old new : List Partial)
    → AreBuckets variables right buckets → ((variable : ℕ) → Contains variables variable → IsSome (root_at one.slots variable))
    → HaveRoots right variables → JoinsOne one (bucket_at buckets (key_at one.slots variables)) old new → JoinsOne one right old new
JoinsOne-bucket variables one right buckets old new are some roots h = record {
  kept = h.kept;
  from = λ partial there. elim (h.from partial there) [
    | inl before ↦ inl before
    | inr m ↦ inr (m.0, are.from (key_at one.slots variables) m.0 m.1, m.2, m.3)
  ];
  all = λ other slots there u.
      let same = union_keys one.slots other.slots slots variables u some (λ variable v. roots variable v other there) in
      h.all other slots (subst (λ (key : Key). Contains (bucket_at buckets key) other) (sym same) (are.all other there)) u;
}

-- the bucket that the table has for a key
pub JoinsOne-found : (one : Partial) (buckets : Buckets) (key : Key) (bucket old new : List Partial)
    → Some bucket ≡ lookup (key_eq key) buckets → JoinsOne one bucket old new → JoinsOne one (bucket_at buckets key) old new
unfolding bucket_at
JoinsOne-found one buckets key bucket old new e h =
    subst (λ (list : List Partial). JoinsOne one list old new) (ap (λ (o : Option (List Partial)). unwrap_or o []) e) h

pub JoinsOne-absent : (one : Partial) (buckets : Buckets) (key : Key) (old : List Partial)
    → None ≡ lookup (key_eq key) buckets → JoinsOne one [] old old → JoinsOne one (bucket_at buckets key) old old
unfolding bucket_at
JoinsOne-absent one buckets key old e h =
    subst (λ (list : List Partial). JoinsOne one list old old) (ap (λ (o : Option (List Partial)). unwrap_or o []) e) h

pub bucket_found : (buckets : Buckets) (key : Key) (bucket : List Partial) (answer : Option (List Partial))
    → answer ≡ lookup (key_eq key) buckets → answer ≡ Some bucket → bucket ≡ bucket_at buckets key
unfolding bucket_at
bucket_found buckets key bucket answer e f = ap (λ (o : Option (List Partial)). unwrap_or o []) (sym f ∙ e)

pub bucket_absent : (buckets : Buckets) (key : Key) (bucket : List Partial) (answer : Option (List Partial))
    → answer ≡ lookup (key_eq key) buckets → answer ≡ None → bucket ≡ [] → bucket ≡ bucket_at buckets key
unfolding bucket_at
bucket_absent buckets key bucket answer e f g = g ∙ ap (λ (o : Option (List Partial)). unwrap_or o []) (sym f ∙ e)

-- the first partial matches, and one more
pub roots_next : (list : List Partial) (k variable : ℕ) (item : Partial) → k < length list → item ≡ slice_index_or list k item
    → IsSome (root_at item.slots variable) → HasRoots (take k list) variable → HasRoots (take (k + 1) list) variable
roots_next list k variable item less is some h partial there =
    elim (Contains-push_cases (take k list) item partial
    (subst (λ (l : List Partial). Contains l partial) (take_next list k item less is) there)) [
      | inl before ↦ h partial before
      | inr same ↦ subst (λ (p : Partial). IsSome (root_at p.slots variable)) same some
    ]

pub root_is_some : (slots others : Key) (variable root : ℕ) (key : Option ℕ) → slots ≡ others → key ≡ root_at slots variable
    → key ≡ Some root → IsSome (root_at others variable)
root_is_some slots others variable root key e f g =
    let is : root_at others variable ≡ Some root = ap (λ (s : Key). root_at s variable) (sym e) ∙ sym f ∙ g in
    ap (λ (o : Option ℕ). is_some o) is

-- no variables, and one more
pub have_first : (list : List Partial) (variables : List ℕ) → variables ≡ [] → HaveRoots list variables
have_first list variables e variable there =
    absurd (none_in variable (subst (λ (vs : List ℕ). Contains vs variable) e there))

pub have_next : (list : List Partial) (variables more : List ℕ) (variable : ℕ) → HasRoots list variable
    → more ≡ variables ++ variable ∷ [] → HaveRoots list variables → HaveRoots list more
have_next list variables more variable some e h other there =
    elim (Contains-push_cases variables variable other (subst (λ (vs : List ℕ). Contains vs other) e there)) [
      | inl before ↦ h other before
      | inr same ↦ subst (HasRoots list) same some
    ]
