-- The nodes on which truths rest: taken from a set, the greatest first.
use Rattle.std.proofs.Common.{◌≡◌, ℕ, zero, suc, ◌+◌, ◌-◌, ◌<◌, ◌≤◌, ◌⊎◌, List, [], ◌∷◌, ◌++◌, All, Option, Some, None, Bool, true, false, true≢false, IsTrue, ◌↔◌, length, map, drop, max, slice_get, slice_index_or, cond, option_and_then, refl, sym, ap, subst, ◌∙◌, arith, inl, inr}
use Rattle.std.specs.Option.{IsSomeAnd}
use Rattle.std.specs.Borrow.{Bor}
use Rattle.std.specs.BTreeMap.{BTreeMap, get, is_at}
use Rattle.std.specs.BTreeMap.Range.{IsLtBy}
use Rattle.std.specs.BTreeSet.{insert_key}
use Rattle.std.specs.Ordering.{nat_cmp, match_ordering, is_eq}
use Rattle.std.specs.declared.cmp.Ordering.{Ordering}
use Rattle.std.specs.declared.cmp.Ordering.TheVariants.{Less, Equal, Greater}
use Rattle.std.proofs.lemmas.Cmp.{ranked}
use Rattle.std.proofs.lemmas.List.Elements.{All-nil, All-cons, All-head, All-tail, All-push}
use Rattle.std.proofs.lemmas.Map.Lookups.{exact_unsigned}
use Rattle.std.proofs.Math.Seq.{drop-cons}
use Rattle.std.proofs.lemmas.Bool.{cases_Bool, cond-true, cond-false}
use Rattle.std.proofs.lemmas.Map.Views.{All-insert_key, tells_apart}
use Rattle.grind_term_graph.specs.declared.node.Node.{Node}
use Rattle.grind_claims.specs.declared.claim.Claim.{Claim}
use Rattle.grind_claims.specs.Claims.{claims_of}
use Rattle.grind_truth_tables.specs.Needed.{Lists, Falls, IsConnective, RestsOn, Names, NameNode, CoversNamed, IsSelfContained, Collects, Asks, told}
use Rattle.grind_truth_tables.proofs.TruthLemmas.{listed_below}

-- nothing stands in an empty list
none_listed : {A : Type 0} (m : ℕ) → Lists [] m → A
unfolding Lists
none_listed m h = absurd h

-- ---- keys of a set

kept_at : (o : Ordering) (x : ℕ) (xs more : List ℕ) (k m : ℕ) → (Lists xs m → Lists more m) → Lists (x ∷ xs) m →
    Lists (match_ordering o (k ∷ x ∷ xs) (x ∷ xs) (x ∷ more)) m
unfolding Lists
kept_at Less x xs more k m goes h = inr h
kept_at Equal x xs more k m goes h = h
kept_at Greater x xs more k m goes (inl e) = inl e
kept_at Greater x xs more k m goes (inr h) = inr (goes h)

kept_key : (keys : List ℕ) (k m : ℕ) → Lists keys m → Lists (insert_key nat_cmp keys k) m
kept_key [] k m h = none_listed m h
kept_key (x ∷ xs) k m h = kept_at (nat_cmp k x) x xs (insert_key nat_cmp xs k) k m (kept_key xs k m) h

put_at : (o : Ordering) (x : ℕ) (xs more : List ℕ) (k : ℕ) → (o ≡ Equal → k ≡ x) → Lists more k →
    Lists (match_ordering o (k ∷ x ∷ xs) (x ∷ xs) (x ∷ more)) k
unfolding Lists
put_at Less x xs more k same h = inl refl
put_at Equal x xs more k same h = inl (same refl)
put_at Greater x xs more k same h = inr h

listed_alone : (k : ℕ) → Lists (k ∷ []) k
unfolding Lists
listed_alone k = inl refl

listed_as : (k m : ℕ) → m ≡ k → Lists (k ∷ []) m
unfolding Lists
listed_as k m e = inl e

put_key : (keys : List ℕ) (k : ℕ) → Lists (insert_key nat_cmp keys k) k
put_key [] k = listed_alone k
put_key (x ∷ xs) k = put_at (nat_cmp k x) x xs (insert_key nat_cmp xs k) k (exact_unsigned k x) (put_key xs k)

same_as : (k m : ℕ) → Lists (k ∷ []) m → m ≡ k
unfolding Lists
same_as k m (inl e) = e
same_as k m (inr h) = absurd h

-- a key that was put among the others
pub gathers_one : (old new : List ℕ) (k : ℕ) → new ≡ insert_key nat_cmp old k → Collects old (k ∷ []) new
gathers_one old new k is = record {
  kept = λ m h. subst (λ (keys : List ℕ). Lists keys m) (sym is) (kept_key old k m h);
  put = λ m h. subst (λ (n : ℕ). Lists new n) (sym (same_as k m h)) (subst (λ (keys : List ℕ). Lists keys k) (sym is) (put_key old k));
  below = λ d these those. subst (All (λ m. m < d)) (sym is)
      (All-insert_key nat_cmp k (λ m. m < d) old those (All-head (λ m. m < d) k [] these));
}

-- ---- several nodes, one after the other

-- what is gathered, where these nodes are left
pub record Gathering (old nodes rest now : List ℕ) : Type 0 where
  pub kept : (m : ℕ) → Lists old m → Lists now m
  pub put : (m : ℕ) → Lists nodes m → Lists now m ⊎ Lists rest m
  pub below : (d : ℕ) → All (λ m. m < d) nodes → All (λ m. m < d) old → All (λ m. m < d) now × All (λ m. m < d) rest

pub gathering_begins : (old nodes : List ℕ) → Gathering old nodes nodes old
gathering_begins old nodes = record {
  kept = λ m h. h;
  put = λ m h. inr h;
  below = λ d these those. (those, these);
}

first_or_later : (k m : ℕ) (tail : List ℕ) → Lists (k ∷ tail) m → Lists (k ∷ []) m ⊎ Lists tail m
unfolding Lists
first_or_later k m tail (inl e) = inl (inl e)
first_or_later k m tail (inr h) = inr h

pub gathering_goes_on : (old nodes rest tail now next : List ℕ) (k : ℕ) → rest ≡ k ∷ tail → Collects now (k ∷ []) next →
    Gathering old nodes rest now → Gathering old nodes tail next
gathering_goes_on old nodes rest tail now next k is one h = record {
  kept = λ m has. one.kept m (h.kept m has);
  put = λ m has. elim (h.put m has) [
    | inl there ↦ inl (one.kept m there)
    | inr left ↦ elim (first_or_later k m tail (subst (λ (xs : List ℕ). Lists xs m) is left)) [
      | inl first ↦ inl (one.put m first)
      | inr later ↦ inr later
    ]
  ];
  below = λ d these those.
      let both = h.below d these those in
      let split = subst (All (λ m. m < d)) is both.1 in (
        one.below d (All-cons (λ m. m < d) k [] (All-head (λ m. m < d) k tail split) (All-nil (λ m. m < d))) both.0,
        All-tail (λ m. m < d) k tail split,
      );
}

pub gathering_ends : (old nodes rest now : List ℕ) → length rest ≡ 0 → Gathering old nodes rest now → Collects old nodes now
gathering_ends old nodes [] now none h = record {
  kept = h.kept;
  put = λ m has. elim (h.put m has) [ inl there ↦ there | inr left ↦ none_listed m left ];
  below = λ d these those. (h.below d these those).0;
}
gathering_ends old nodes (k ∷ rest) now none h = absurd (omega arith)

-- ---- a node among the free ones

pub free_goes_on : (rest tail : List ℕ) (W : Type 0) (k n : ℕ) → rest ≡ k ∷ tail → (k ≡ n → ⊥) → (Lists rest n ↔ W) → Lists tail n ↔ W
unfolding Lists
free_goes_on rest tail W k n is other h = (
  λ has. h.0 (subst (λ (xs : List ℕ). Lists xs n) (sym is) (inr has)),
  λ w. elim (subst (λ (xs : List ℕ). Lists xs n) is (h.1 w)) [
    | inl e ↦ absurd (other (sym e))
    | inr has ↦ has
  ],
)

pub free_found : (rest tail : List ℕ) (W : Type 0) (k n : ℕ) → rest ≡ k ∷ tail → k ≡ n → (Lists rest n ↔ W) → IsTrue true ↔ W
unfolding Lists
free_found rest tail W k n is e h = (λ yes. h.0 (subst (λ (xs : List ℕ). Lists xs n) (sym is) (inl (sym e))), λ w. refl)

pub free_lacks : (rest : List ℕ) (W : Type 0) (n : ℕ) → length rest ≡ 0 → (Lists rest n ↔ W) → IsTrue false ↔ W
free_lacks [] W n none h = (λ wrong. absurd (true≢false (sym wrong)), λ w. none_listed n (h.1 w))
free_lacks (k ∷ rest) W n none h = absurd (omega arith)

-- ---- what a node asks for

pub asks_nothing : (nodes : List Node) (free keys : List ℕ) (n : ℕ) → ((m : ℕ) → RestsOn nodes free n m → ⊥) → Asks nodes free n keys keys
asks_nothing nodes free keys n none = record {
  kept = λ m h. h;
  asked = λ m rests. absurd (none m rests);
  below = λ h. h;
}

pub rests_within : (nodes : List Node) (free : List ℕ) (n m : ℕ) → RestsOn nodes free n m → n < length nodes
rests_within nodes free n m rests = within nodes n rests.1
  where
    within : (nodes : List Node) (n : ℕ) → IsSomeAnd (slice_get nodes n) (λ (it : Node). IsConnective it.head × Lists it.args m) → n < length nodes
    within [] n h = absurd h
    within (x ∷ nodes) zero h = omega arith
    within (x ∷ nodes) (suc n) h = let low = within nodes n h in omega arith

rests_at : (nodes : List Node) (free : List ℕ) (n m : ℕ) (node : Node) → slice_get nodes n ≡ Some node → RestsOn nodes free n m →
    IsConnective node.head × Lists node.args m
rests_at nodes free n m node there rests =
    let P : Option Node → Type 0 = λ o. IsSomeAnd o (λ (it : Node). IsConnective it.head × Lists it.args m) in subst P there rests.1

pub no_connective : (nodes : List Node) (free : List ℕ) (n m : ℕ) (node : Node) → slice_get nodes n ≡ Some node →
    (IsConnective node.head → ⊥) → RestsOn nodes free n m → ⊥
no_connective nodes free n m node there none rests = none (rests_at nodes free n m node there rests).0

pub asks_arguments : (nodes : List Node) (free old new : List ℕ) (n : ℕ) (node : Node) → slice_get nodes n ≡ Some node →
    All (λ m. m < n) node.args → Collects old node.args new → Asks nodes free n old new
asks_arguments nodes free old new n node there lower gathers = record {
  kept = gathers.kept;
  asked = λ m rests.
      let has = (rests_at nodes free n m node there rests).1 in
      (listed_below node.args n m lower has, gathers.put m has);
  below = λ h. gathers.below n lower h;
}

-- ---- the walk over the set

-- what is done and what is pending
pub record Covering (nodes : List Node) (free : List ℕ) (claims : List Claim) (order pending : List ℕ) : Type 0 where
  pub falls : Falls order
  pub apart : (n m : ℕ) → Lists order n → Lists pending m → m < n
  pub named : (n : ℕ) → NameNode claims n → Lists order n ⊎ Lists pending n
  pub closed : (n m : ℕ) → Lists order n → RestsOn nodes free n m → (m < n) × (Lists order m ⊎ Lists pending m)

nothing_done : (nodes : List Node) (free : List ℕ) (claims : List Claim) (pending : List ℕ) → CoversNamed claims pending →
    Covering nodes free claims [] pending
unfolding Falls
nothing_done nodes free claims pending named = record {
  falls = tt;
  apart = λ n m h. none_listed n h;
  named = λ n h. inr (named n h);
  closed = λ n m h. none_listed n h;
}

pub covering_begins : (nodes : List Node) (free : List ℕ) (claims : List Claim) (order pending : List ℕ) → order ≡ [] →
    CoversNamed claims pending → Covering nodes free claims order pending
covering_begins nodes free claims order pending none named =
    subst (λ (xs : List ℕ). Covering nodes free claims xs pending) (sym none) (nothing_done nodes free claims pending named)

left_or_last : (xs : List ℕ) (k m : ℕ) → Lists (xs ++ k ∷ []) m → Lists xs m ⊎ (m ≡ k)
unfolding Lists
left_or_last [] k m (inl e) = inr e
left_or_last [] k m (inr h) = absurd h
left_or_last (x ∷ xs) k m (inl e) = inl (inl e)
left_or_last (x ∷ xs) k m (inr h) = elim (left_or_last xs k m h) [ inl has ↦ inl (inr has) | inr e ↦ inr e ]

listed_more : (xs : List ℕ) (k m : ℕ) → Lists xs m → Lists (xs ++ k ∷ []) m
unfolding Lists
listed_more [] k m h = absurd h
listed_more (x ∷ xs) k m (inl e) = inl e
listed_more (x ∷ xs) k m (inr h) = inr (listed_more xs k m h)

listed_last : (xs : List ℕ) (k m : ℕ) → m ≡ k → Lists (xs ++ k ∷ []) m
unfolding Lists
listed_last [] k m e = inl e
listed_last (x ∷ xs) k m e = inr (listed_last xs k m e)

falls_on : (xs : List ℕ) (k : ℕ) → ((n : ℕ) → Lists xs n → k < n) → Falls xs → Falls (xs ++ k ∷ [])
unfolding Falls Lists
falls_on [] k above h = (All-nil (λ m. m < k), tt)
falls_on (x ∷ xs) k above h =
    (All-push (λ m. m < x) xs k h.0 (above x (inl refl)), falls_on xs k (λ n has. above n (inr has)) h.1)

less_by : (a b : ℕ) → IsLtBy nat_cmp a b → a < b
less_by a b h = ranked a b Less (sym h)

all_less : (xs : List ℕ) (k : ℕ) → All (λ q. IsLtBy nat_cmp q k) xs → All (λ m. m < k) xs
all_less [] k h = All-nil (λ m. m < k)
all_less (x ∷ xs) k h =
    All-cons (λ m. m < k) x xs (less_by x k (All-head (λ q. IsLtBy nat_cmp q k) x xs h))
    (all_less xs k (All-tail (λ q. IsLtBy nat_cmp q k) x xs h))

pub covering_goes_on : (nodes : List Node) (free : List ℕ) (claims : List Claim) (order more keys left next : List ℕ) (k : ℕ) →
    keys ≡ left ++ k ∷ [] → All (λ q. IsLtBy nat_cmp q k) left → more ≡ order ++ k ∷ [] → Asks nodes free k left next →
    Covering nodes free claims order keys → Covering nodes free claims more next
covering_goes_on nodes free claims order more keys left next k pops lower pushes asks h = record {
  falls = subst Falls (sym pushes) (falls_on order k (λ n has. h.apart n k has (in_keys _ (listed_last left k k refl))) h.falls);
  apart = λ n m has pending. elim (done n has) [
    | inl before ↦ let below = h.apart n k before (in_keys _ (listed_last left k k refl)) in let low = under m pending in omega arith
    | inr e ↦ let low = under m pending in omega arith
  ];
  named = λ n names. elim (h.named n names) [
    | inl has ↦ inl (in_more _ (listed_more order k n has))
    | inr pending ↦ later n pending
  ];
  closed = λ n m has rests. elim (done n has) [
    | inl before ↦
        let there = h.closed n m before rests in
        (there.0, elim there.1 [ inl it ↦ inl (in_more _ (listed_more order k m it)) | inr pending ↦ later m pending ])
    | inr e ↦
        let there = asks.asked m (subst (λ (it : ℕ). RestsOn nodes free it m) e rests) in
        (subst (λ (it : ℕ). m < it) (sym e) there.0, inr there.1)
  ];
}
  where
    in_keys : (m : ℕ) → Lists (left ++ k ∷ []) m → Lists keys m
    in_keys m has = subst (λ (xs : List ℕ). Lists xs m) (sym pops) has

    in_more : (m : ℕ) → Lists (order ++ k ∷ []) m → Lists more m
    in_more m has = subst (λ (xs : List ℕ). Lists xs m) (sym pushes) has

    done : (n : ℕ) → Lists more n → Lists order n ⊎ (n ≡ k)
    done n has = left_or_last order k n (subst (λ (xs : List ℕ). Lists xs n) pushes has)

    under : (m : ℕ) → Lists next m → m < k
    under m has = listed_below next k m (asks.below (all_less left k lower)) has

    later : (n : ℕ) → Lists keys n → Lists more n ⊎ Lists next n
    later n pending = elim (left_or_last left k n (subst (λ (xs : List ℕ). Lists xs n) pops pending)) [
      | inl has ↦ inr (asks.kept n has)
      | inr e ↦ inl (in_more _ (listed_last order k n e))
    ]

-- one more than the greatest
abbrev pub above : List ℕ → ℕ
above [] = 0
above (n ∷ nodes) = max (n + 1) (above nodes)

above_all : (xs : List ℕ) (k : ℕ) → All (λ m. m < k) xs → above xs ≤ k
above_all [] k h = omega arith
above_all (x ∷ xs) k h =
    let first = All-head (λ m. m < k) x xs h in
    let rest = above_all xs k (All-tail (λ m. m < k) x xs h) in
    omega arith

above_last : (xs : List ℕ) (k : ℕ) → k < above (xs ++ k ∷ [])
above_last [] k = omega arith
above_last (x ∷ xs) k = let rest = above_last xs k in omega arith

-- a set from which the greatest was taken ends lower
pub set_falls : (nodes : List Node) (free keys left next : List ℕ) (k : ℕ) → keys ≡ left ++ k ∷ [] → All (λ q. IsLtBy nat_cmp q k) left →
    Asks nodes free k left next → above next < above keys
set_falls nodes free keys left next k pops lower asks =
    let low = above_all next k (asks.below (all_less left k lower)) in
    let high = above_last left k in
    let same : above keys ≡ above (left ++ k ∷ []) = ap above pops in
    omega (arith, low, high, same)

pub covering_ends : (nodes : List Node) (free : List ℕ) (claims : List Claim) (order pending : List ℕ) → pending ≡ [] →
    Covering nodes free claims order pending → IsSelfContained nodes free order × CoversNamed claims order
covering_ends nodes free claims order pending none h = (
  record {
    falls = h.falls;
    closed = λ n m has rests. let there = h.closed n m has rests in (there.0, listed m there.1);
  },
  λ n names. listed n (h.named n names),
)
  where
    listed : (n : ℕ) → Lists order n ⊎ Lists pending n → Lists order n
    listed n (inl has) = has
    listed n (inr left) = none_listed n (subst (λ (xs : List ℕ). Lists xs n) none left)

-- ---- the nodes that claims name

pub names_put : (claim named : Claim) (k : ℕ) (old new : List ℕ) → claim ≡ named → ((m : ℕ) → Names named m → m ≡ k) →
    Collects old (k ∷ []) new → (m : ℕ) → Names claim m → Lists new m
names_put claim named k old new is only gathers m names =
    gathers.put m (listed_as k m (only m (subst (λ (it : Claim). Names it m) is names)))

-- what is named, where these premises are left
abbrev pub IsNaming : Claim → List (Bor Claim) → ℕ → List ℕ → Type 0
IsNaming claim premises done keys =
    (n : ℕ) → NameNode (claim ∷ claims_of premises) n → Lists keys n ⊎ NameNode (claims_of (drop done premises)) n

pub naming_begins : (claim : Claim) (premises : List (Bor Claim)) (keys : List ℕ) → ((m : ℕ) → Names claim m → Lists keys m) →
    IsNaming claim premises 0 keys
naming_begins claim premises keys named n (inl names) = inl (named n names)
naming_begins claim premises keys named n (inr behind) = inr behind

drop_more : (premises : List (Bor Claim)) (k : ℕ) (item : Bor Claim) → k < length premises → item ≡ slice_index_or premises k item →
    drop k premises ≡ item ∷ drop (k + 1) premises
drop_more premises k item below is =
    let next : suc k ≡ k + 1 = omega arith in
    drop-cons premises k item below
    ∙ ap (λ (x : Bor Claim). x ∷ drop (suc k) premises) (sym is)
    ∙ ap (λ (n : ℕ). item ∷ drop n premises) next

pub naming_goes_on : (claim : Claim) (premises : List (Bor Claim)) (k : ℕ) (item : Bor Claim) (keys next : List ℕ) →
    k < length premises → item ≡ slice_index_or premises k item → ((m : ℕ) → Lists keys m → Lists next m) →
    ((m : ℕ) → Names item.now m → Lists next m) → IsNaming claim premises k keys → IsNaming claim premises (k + 1) next
naming_goes_on claim premises k item keys next below is kept named h n names = elim (h n names) [
  | inl has ↦ inl (kept n has)
  | inr left ↦ split (subst (λ (ps : List (Bor Claim)). NameNode (claims_of ps) n) (drop_more premises k item below is) left)
]
  where
    split : NameNode (claims_of (item ∷ drop (k + 1) premises)) n → Lists next n ⊎ NameNode (claims_of (drop (k + 1) premises)) n
    split (inl one) = inl (named n one)
    split (inr later) = inr later

pub naming_ends : (claim : Claim) (premises : List (Bor Claim)) (k : ℕ) (keys : List ℕ) → length premises ≤ k →
    IsNaming claim premises k keys → CoversNamed (claim ∷ claims_of premises) keys
naming_ends claim premises k keys past h n names = elim (h n names) [
  | inl has ↦ has
  | inr left ↦ none (subst (λ (ps : List (Bor Claim)). NameNode (claims_of ps) n) (drop_past premises k past) left)
]
  where
    drop_past : (ps : List (Bor Claim)) (k : ℕ) → length ps ≤ k → drop k ps ≡ []
    drop_past [] zero le = refl
    drop_past [] (suc k) le = refl
    drop_past (p ∷ ps) zero le = absurd (omega arith)
    drop_past (p ∷ ps) (suc k) le = drop_past ps k (omega arith)

    none : NameNode (claims_of []) n → Lists keys n
    none wrong = absurd wrong

-- ---- truths of the nodes, from the last on

-- in a list that falls, what is below a node stands after it
behind_below : (order : List ℕ) (i m d : ℕ) → Falls order → i < length order → Lists order m → m < slice_index_or order i d →
    Lists (drop (suc i) order) m
unfolding Falls Lists
behind_below [] i m d falls within has low = absurd has
behind_below (x ∷ order) zero m d falls within (inl e) low = absurd (omega arith)
behind_below (x ∷ order) zero m d falls within (inr has) low = has
behind_below (x ∷ order) (suc i) m d falls within (inl e) low =
    let below = falls.0 i d (omega arith) in absurd (omega (arith, below, e, low))
behind_below (x ∷ order) (suc i) m d falls within (inr has) low = behind_below order i m d falls.1 (omega arith) has low

-- the nodes from a place on are told right
abbrev pub AreTold : (ℕ → Option Bool) → (ℕ → Option Bool) → List ℕ → Type 0
AreTold look truth order = (n : ℕ) → Lists order n → look n ≡ truth n

pub none_told : (look truth : ℕ → Option Bool) (order : List ℕ) → AreTold look truth (drop (length order) order)
none_told look truth [] n has = none_listed n has
none_told look truth (x ∷ order) n has = none_told look truth order n has

listed_at : (order : List ℕ) (i n : ℕ) → i < length order → n ≡ slice_index_or order i n → Lists order n
unfolding Lists
listed_at [] i n within is = absurd (omega arith)
listed_at (x ∷ order) zero n within is = inl is
listed_at (x ∷ order) (suc i) n within is = inr (listed_at order i n (omega arith) is)

-- those on which a node rests are told
pub rests_told : (nodes : List Node) (free order : List ℕ) (look truth : ℕ → Option Bool) (i n : ℕ) → IsSelfContained nodes free order →
    i < length order → n ≡ slice_index_or order i n → AreTold look truth (drop (i + 1) order) →
    (m : ℕ) → RestsOn nodes free n m → look m ≡ truth m
rests_told nodes free order look truth i n contained within is told m rests =
    let there = contained.closed n m (listed_at order i n within is) rests in
    let next : suc i ≡ i + 1 = omega arith in
    let has = behind_below order i m n contained.falls within there.1 (subst (λ (it : ℕ). m < it) is there.0) in
    told m (subst (λ (k : ℕ). Lists (drop k order) m) next has)

equal_at : (o : Ordering) (k n : ℕ) → o ≡ nat_cmp k n → k ≡ n → is_eq o ≡ true
equal_at Less k n is e = let low = ranked k n Less is in absurd (omega arith)
equal_at Equal k n is e = refl
equal_at Greater k n is e = let low = ranked k n Greater is in absurd (omega arith)

-- what is not the first of a list stands after it
not_first : (k n : ℕ) (tail : List ℕ) (test : Bool) → test ≡ false → (n ≡ k → test ≡ true) → Lists (k ∷ tail) n → Lists tail n
unfolding Lists
not_first k n tail test other first (inl e) = absurd (true≢false (sym (first e) ∙ other))
not_first k n tail test other first (inr has) = has

abbrev unpacked : Option (Option Bool) → Option Bool
unpacked o = option_and_then (λ (it : Option Bool). it) o

-- the next truth is noted
pub told_next : (old new : BTreeMap ℕ (Option Bool)) (order : List ℕ) (truth : ℕ → Option Bool) (i next k : ℕ) (noted : Option Bool) →
    next ≡ i + 1 → i < length order → k ≡ slice_index_or order i k → noted ≡ truth k →
    ((q : ℕ) → get nat_cmp new q ≡ cond (is_at (nat_cmp k) q) (Some noted) (get nat_cmp old q)) →
    AreTold (told old) truth (drop next order) → AreTold (told new) truth (drop i order)
told_next old new order truth i next k noted following within is right updates h n has =
    elim (cases_Bool (is_at (nat_cmp k) n)) [
      | inl here ↦
          let same : k ≡ n = tells_apart exact_unsigned k n here in
          ap unpacked (updates n ∙ cond-true (is_at (nat_cmp k) n) (Some noted) (get nat_cmp old n) here)
          ∙ right ∙ ap truth same
      | inr other ↦
          let behind = not_first k n (drop (suc i) order) (is_at (nat_cmp k) n) other (λ e. equal_at (nat_cmp k n) k n refl (sym e)) listed in
          ap unpacked (updates n ∙ cond-false (is_at (nat_cmp k) n) (Some noted) (get nat_cmp old n) other)
          ∙ h n (subst (λ (it : ℕ). Lists (drop it order) n) (sym (following ∙ one_more)) behind)
    ]
  where
    one_more : i + 1 ≡ suc i
    one_more = omega arith

    listed : Lists (k ∷ drop (suc i) order) n
    listed = subst (λ (xs : List ℕ). Lists xs n) (drop-cons order i k within ∙ ap (λ (x : ℕ). x ∷ drop (suc i) order) (sym is)) has

-- a list of no length
pub none_left : (xs : List ℕ) → (0 < length xs → ⊥) → xs ≡ []
none_left [] none = refl
none_left (x ∷ xs) none = absurd (none (omega arith))
