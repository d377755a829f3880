-- Plans that grow.
use Rattle.std.specs.Prelude.{◌≡◌, ℕ, zero, suc, ◌+◌, ◌<◌, ◌≤◌, Bool, true, false, List, [], ◌∷◌, ◌++◌, Option, Some, All, Contains, length, set, slice_get, slice_index_or, get_or, ◌⊎◌, refl}
use Rattle.std.specs.Option.{IsSomeAnd}
use Rattle.std.specs.List.{AllZip}
use Rattle.std.proofs.Common.{arith, sym, ap, ◌∙◌, subst, inl, inr}
use Rattle.std.proofs.lemmas.Bool.{cases_eq, cases_lt, false≢true}
use Rattle.std.proofs.lemmas.List.{length-set, get_or-set_same, get_or-set_other, get_or_past}
use Rattle.std.proofs.lemmas.List.Elements.{All-nil, All-cons, All-head, All-tail, All-same, All-weaker}
use Rattle.std.proofs.lemmas.Option.{same_Some, slice_get-get_or, get_or_from_slice_get}
use Rattle.grind_term_graph.specs.declared.node.Node.{Node}
use Rattle.grind_congruence.specs.declared.edge.Edge.{Edge}
use Rattle.grind_congruence.specs.Edges.{Joins}
use Rattle.grind_congruence.proofs.EdgeLemmas.{slice_get-more, slice_get-last}
use Rattle.grind_congruence.proofs.TableLemmas.{AllZip-weaker}
use Rattle.grind_needed_edges.specs.declared.pairs.Pair.{Pair}
use Rattle.grind_needed_edges.specs.declared.plan.Plan.{Plan}
use Rattle.grind_needed_edges.specs.declared.why.Why.{Why}
use Rattle.grind_needed_edges.specs.declared.why.Why.TheVariants as why
use Rattle.grind_needed_edges.specs.Needed.{IsFirstWay, AreAligned, AreAlignedArgs, IsNeededPair, IsToldOfWay, IsNeededEquality}
use Rattle.grind_needed_edges.specs.Needed.IsNeededPair.{argument}
use Rattle.grind_needed_edges.specs.Numbered.{pair_of, HasNumber, KeepsNumbers}
use Rattle.grind_needed_edges.specs.Plans.{IsNeeded, AreWays, IsOnPlan, IsPlan, IsPlanned, HasWaysFor, IsCovered}
use Rattle.grind_needed_edges.specs.Planning.{set_all, IsWayKept, Extends, AreHalfCovered, AreCoveredFrom}
use Rattle.grind_classes.proofs.ListLemmas.{Contains-more, Contains-nil, get_or-blank}
use Rattle.grind_needed_edges.proofs.PairLemmas.{KeepsNumbers-put, last_entry, entry_cases}

-- ---- which edges are needed
pub set_all-length : (needed : List Bool) (places : List ℕ) → length (set_all needed places) ≡ length needed
set_all-length needed [] = refl
set_all-length needed (place ∷ places) = set_all-length (set needed place true) places ∙ length-set needed place true

-- what is needed stays needed
set-keeps : (needed : List Bool) (place p : ℕ) → place < length needed → IsNeeded needed p → IsNeeded (set needed place true) p
set-keeps needed place p within is = elim (cases_eq p place) [
  | inl here ↦ subst (λ (n : ℕ). get_or (set needed place true) n false ≡ true) (sym here) (get_or-set_same needed place true false within)
  | inr other ↦ get_or-set_other needed place p true false other ∙ is
]

within_more : (needed : List Bool) (place : ℕ) (places : List ℕ) → All (λ p. p < length needed) (place ∷ places)
    → All (λ p. p < length (set needed place true)) places
within_more needed place places all =
    subst (λ (n : ℕ). All (λ p. p < n) places) (sym (length-set needed place true)) (All-tail (λ p. p < length needed) place places all)

pub set_all-keeps : (needed : List Bool) (places : List ℕ) (p : ℕ) → All (λ place. place < length needed) places → IsNeeded needed p
    → IsNeeded (set_all needed places) p
set_all-keeps needed [] p all is = is
set_all-keeps needed (place ∷ places) p all is =
    set_all-keeps (set needed place true) places p (within_more needed place places all)
    (set-keeps needed place p (All-head (λ q. q < length needed) place places all) is)

-- these are
pub set_all-sets : (needed : List Bool) (places : List ℕ) → All (λ place. place < length needed) places → All (IsNeeded (set_all needed places)) places
set_all-sets needed [] all = All-nil (IsNeeded needed)
set_all-sets needed (place ∷ places) all =
    let here : place < length needed = All-head (λ q. q < length needed) place places all in
    let more = within_more needed place places all in
    All-cons (IsNeeded (set_all (set needed place true) places)) place places
    (set_all-keeps (set needed place true) places place more (get_or-set_same needed place true false here))
    (set_all-sets (set needed place true) places more)

-- and nothing else
pub set_all-only : (needed : List Bool) (places : List ℕ) (bound p : ℕ) → All (λ place. place < bound) places → bound ≤ p
    → IsNeeded (set_all needed places) p → IsNeeded needed p
set_all-only needed [] bound p all high is = is
set_all-only needed (place ∷ places) bound p all high is =
    let below : place < bound = All-head (λ q. q < bound) place places all in
    let other : p ≡ place → ⊥ = λ e. absurd (omega arith) in
    sym (get_or-set_other needed place p true false other)
    ∙ set_all-only (set needed place true) places bound p (All-tail (λ q. q < bound) place places all) high is

-- what is needed then was needed or is one of these
set_all-cases : (needed : List Bool) (places : List ℕ) (p : ℕ) → IsNeeded (set_all needed places) p → IsNeeded needed p ⊎ Contains places p
set_all-cases needed [] p is = inl is
set_all-cases needed (place ∷ places) p is = elim (set_all-cases (set needed place true) places p is) [
  | inl before ↦ elim (cases_eq p place) [
    | inl here ↦ inr (0, omega arith, sym here)
    | inr other ↦ inl (sym (get_or-set_other needed place p true false other) ∙ before)
  ]
  | inr later ↦ inr (Contains-more place places p later)
]

-- one more that is not needed
pub idle-push : (needed : List Bool) → ((place : ℕ) → ¬ IsNeeded needed place) → (place : ℕ) → ¬ IsNeeded (needed ++ false ∷ []) place
idle-push needed idle place is = idle place (sym (get_or-blank needed 1 false place) ∙ is)

-- only an edge that is listed is needed
pub IsNeeded-within : (needed : List Bool) (p : ℕ) → IsNeeded needed p → p < length needed
IsNeeded-within needed p is = elim (cases_lt p (length needed)) [
  | inl below ↦ below
  | inr past ↦ absurd (false≢true (sym (get_or_past needed p false past) ∙ is))
]

-- ---- plans
pub Extends-none : (plan : Plan) (bound : ℕ) → Extends plan plan bound
Extends-none plan bound = record { long = refl; needed = λ p is. is; above = λ p high is. is; pairs = λ pair n has. has }

pub Extends-through : (first second third : Plan) (bound : ℕ) → Extends first second bound → Extends second third bound → Extends first third bound
Extends-through first second third bound one two = record {
  long = two.long ∙ one.long;
  needed = λ p is. two.needed p (one.needed p is);
  above = λ p high is. one.above p high (two.above p high is);
  pairs = λ pair n has. two.pairs pair n (one.pairs pair n has);
}

module _ (edges : List Edge) (old new : Plan) (a b : ℕ) (places : List ℕ) (number : ℕ)
    (needed_is : new.needed ≡ set_all old.needed places) (ways_are : new.ways ≡ old.ways ++ places ∷ [])
    (number_is : number ≡ length old.ways) (pairs_are : new.pairs ≡ old.pairs ++ (pair_of a b, number) ∷ [])
    (within : All (λ place. place < length old.needed) places) where
  needed_stays : (p : ℕ) → IsNeeded old.needed p → IsNeeded new.needed p
  needed_stays p is = subst (λ (bits : List Bool). IsNeeded bits p) (sym needed_is) (set_all-keeps old.needed places p within is)

  pub Extends-keep : (bound : ℕ) → All (λ place. place < bound) places → Extends old new bound
  Extends-keep bound below = record {
    long = ap length needed_is ∙ set_all-length old.needed places;
    needed = needed_stays;
    above = λ p high is. set_all-only old.needed places bound p below high (subst (λ (bits : List Bool). IsNeeded bits p) needed_is is);
    pairs = KeepsNumbers-put old.pairs new.pairs (pair_of a b, number) pairs_are;
  }

  pub AreWays-keep : AreWays edges old → IsFirstWay edges a b places → AreWays edges new
  AreWays-keep ways first c d n has =
      elim (entry_cases old.pairs (pair_of a b, number) (pair_of c d, n) (subst (λ (es : List (Pair × ℕ)). Contains es (pair_of c d, n)) pairs_are has)) [
        | inl before ↦
            let it = ways c d n before in (
              it.0,
              ap (λ (ws : List (List ℕ)). slice_get ws n) ways_are ∙ slice_get-more old.ways (places ∷ []) n it.0 it.1,
              it.2,
              All-weaker (IsNeeded old.needed) (IsNeeded new.needed) needed_stays it.0 it.3,
            )
        | inr here ↦
            let left : a ≡ c = ap (λ (e : Pair × ℕ). e.0.left) here in
            let right : b ≡ d = ap (λ (e : Pair × ℕ). e.0.right) here in
            let index : number ≡ n = ap (λ (e : Pair × ℕ). e.1) here in (
              places,
              ap (λ (ws : List (List ℕ)). slice_get ws n) ways_are ∙ ap (λ k. slice_get (old.ways ++ places ∷ []) k) (sym index ∙ number_is)
                  ∙ slice_get-last old.ways places,
              subst (λ (y : ℕ). IsFirstWay edges c y places) right (subst (λ (x : ℕ). IsFirstWay edges x b places) left first),
              subst (λ (bits : List Bool). All (IsNeeded bits) places) (sym needed_is) (set_all-sets old.needed places within),
            )
      ]

  pub HasNumber-keep : HasNumber new.pairs a b
  HasNumber-keep = (number, subst (λ (es : List (Pair × ℕ)). Contains es (pair_of a b, number)) (sym pairs_are) (last_entry old.pairs (pair_of a b, number)))

-- a plan of no ways
pub IsPlan-start : (nodes : List Node) (edges : List Edge) (whys : List Why) (a b : ℕ) (plan : Plan) → plan.pairs ≡ []
    → ((place : ℕ) → ¬ IsNeeded plan.needed place) → IsPlan nodes edges whys a b plan
IsPlan-start nodes edges whys a b plan none idle = record {
  ways = λ x y n has. absurd (nothing x y n has);
  pairs = λ x y n has. absurd (nothing x y n has);
  on_ways = λ place is. absurd (idle place is);
}
  where
    nothing : (x y n : ℕ) → Contains plan.pairs (pair_of x y, n) → ⊥
    nothing x y n has = Contains-nil (pair_of x y, n) (subst (λ (es : List (Pair × ℕ)). Contains es (pair_of x y, n)) none has)

-- and of one more
pub IsPlan-keep : (nodes : List Node) (edges : List Edge) (whys : List Why) (a b : ℕ) (old new : Plan) (x y : ℕ) (places : List ℕ)
    → IsPlan nodes edges whys a b old → IsNeededPair nodes edges whys a b x y → IsWayKept old x y places new → AreWays edges new
    → IsPlan nodes edges whys a b new
IsPlan-keep nodes edges whys a b old new x y places plan needed kept ways = record {
  ways = ways;
  pairs = λ c d n has. elim (entry_cases old.pairs (pair_of x y, length old.ways) (pair_of c d, n) (subst (λ (es : List (Pair × ℕ)). Contains es (pair_of c d, n)) kept.pairs has)) [
    | inl before ↦ plan.pairs c d n before
    | inr here ↦
        let left : x ≡ c = ap (λ (e : Pair × ℕ). e.0.left) here in
        let right : y ≡ d = ap (λ (e : Pair × ℕ). e.0.right) here in
        subst (λ (m : ℕ). IsNeededPair nodes edges whys a b c m) right (subst (λ (m : ℕ). IsNeededPair nodes edges whys a b m y) left needed)
  ];
  on_ways = λ place is. elim (set_all-cases old.needed places place (subst (λ (bits : List Bool). IsNeeded bits place) kept.needed is)) [
    | inl before ↦ stays place (plan.on_ways place before)
    | inr here ↦ (
      x,
      y,
      length old.ways,
      places,
      subst (λ (es : List (Pair × ℕ)). Contains es (pair_of x y, length old.ways)) (sym kept.pairs) (last_entry old.pairs (pair_of x y, length old.ways)),
      ap (λ (ws : List (List ℕ)). slice_get ws (length old.ways)) kept.ways ∙ slice_get-last old.ways places,
      here,
    )
  ];
}
  where
    stays : (place : ℕ) → IsOnPlan old place → IsOnPlan new place
    stays place (c, d, n, ps, has, stands, on) = (
      c,
      d,
      n,
      ps,
      KeepsNumbers-put old.pairs new.pairs (pair_of x y, length old.ways) kept.pairs (pair_of c d) n has,
      ap (λ (ws : List (List ℕ)). slice_get ws n) kept.ways ∙ slice_get-more old.ways (places ∷ []) n ps stands,
      on,
    )

-- the arguments of a congruence on a way that is planned are needed
pub needed_args : (nodes : List Node) (edges : List Edge) (whys : List Why) (a b : ℕ) (plan : Plan) (place : ℕ) (edge : Edge) (x y : ℕ)
    → IsPlan nodes edges whys a b plan → IsOnPlan plan place → slice_get edges place ≡ Some edge → slice_get whys edge.why ≡ Some why.Congruence
    → AreAlignedArgs nodes edge.left edge.right x y → IsNeededPair nodes edges whys a b x y
needed_args nodes edges whys a b plan place edge x y given (c, d, n, places, has, stands, on) edge_is reason args =
    let it = given.ways c d n has in
    let same : places ≡ it.0 = same_Some places it.0 (sym stands ∙ it.1) in
    argument (given.pairs c d n has) it.2
    (record { place = place; on = subst (λ (ps : List ℕ). Contains ps place) same on; edge_is = edge_is; reason = reason }) args

-- so are those of each pair of the two rows
pub zip_paired : (Q P : ℕ → ℕ → Type 0) (xs ys : List ℕ) → AllZip Q xs ys → ((x y : ℕ) → AreAligned xs ys x y → P x y) → AllZip P xs ys
zip_paired Q P [] [] zip all = tt
zip_paired Q P [] (y ∷ ys) zip all = absurd zip
zip_paired Q P (x ∷ xs) [] zip all = absurd zip
zip_paired Q P (x ∷ xs) (y ∷ ys) zip all = (all x y (inl (refl, refl)), zip_paired Q P xs ys zip.1 (λ c d paired. all c d (inr paired)))

-- pairs that have ways still have them
pub ways_stay : (old new : List (Pair × ℕ)) (lefts rights : List ℕ) → KeepsNumbers old new → AllZip (HasNumber old) lefts rights
    → AllZip (HasNumber new) lefts rights
ways_stay old new lefts rights keeps zip =
    AllZip-weaker (HasNumber old) (HasNumber new) (λ x y has. (has.0, keeps (pair_of x y) has.0 has.1)) lefts rights zip

-- what is covered stays so
pub IsCovered-stays : (nodes : List Node) (edges : List Edge) (whys : List Why) (old new : Plan) (bound place : ℕ) → Extends old new bound
    → bound ≤ place → IsCovered nodes edges whys old place → IsCovered nodes edges whys new place
IsCovered-stays nodes edges whys old new bound place grown high covered is edge stands reason left right left_is right_is =
    ways_stay old.pairs new.pairs left.args right.args grown.pairs
    (covered (grown.above place high is) edge stands reason left right left_is right_is)

-- nothing past the end is needed
pub IsCovered-past : (nodes : List Node) (edges : List Edge) (whys : List Why) (plan : Plan) (place : ℕ) → length plan.needed ≤ place
    → IsCovered nodes edges whys plan place
IsCovered-past nodes edges whys plan place past is = let below = IsNeeded-within plan.needed place is in absurd (omega arith)

-- nor is what is not needed to be covered
pub IsCovered-idle : (nodes : List Node) (edges : List Edge) (whys : List Why) (plan : Plan) (place : ℕ)
    → slice_index_or plan.needed place false ≡ false → IsCovered nodes edges whys plan place
IsCovered-idle nodes edges whys plan place idle is = absurd (false≢true (sym idle ∙ is))

-- the loop down the places
pub AreCoveredFrom-start : (nodes : List Node) (edges : List Edge) (whys : List Why) (plan : Plan) (place : ℕ) → length plan.needed ≡ place
    → AreWays edges plan → AreCoveredFrom nodes edges whys plan plan place
AreCoveredFrom-start nodes edges whys plan place long ways = record {
  long = refl;
  pairs = λ pair n has. has;
  ways = ways;
  covers = λ p high. IsCovered-past nodes edges whys plan p (omega arith);
}

pub AreCoveredFrom-step : (nodes : List Node) (edges : List Edge) (whys : List Why) (old now new : Plan) (place next : ℕ) → place ≡ next + 1
    → AreCoveredFrom nodes edges whys old now place → Extends now new next → AreWays edges new → IsCovered nodes edges whys new next
    → AreCoveredFrom nodes edges whys old new next
AreCoveredFrom-step nodes edges whys old now new place next is before grown ways here = record {
  long = grown.long ∙ before.long;
  pairs = λ pair n has. grown.pairs pair n (before.pairs pair n has);
  ways = ways;
  covers = λ p high. elim (cases_eq p next) [
    | inl same ↦ subst (IsCovered nodes edges whys new) (sym same) here
    | inr other ↦ IsCovered-stays nodes edges whys now new next p grown high (before.covers p (omega arith))
  ];
}

-- the loop over the arguments
pub AreHalfCovered-start : (edges : List Edge) (plan : Plan) (place : ℕ) (lefts rights : List ℕ) → AreWays edges plan
    → AreHalfCovered edges plan plan place lefts rights lefts rights
AreHalfCovered-start edges plan place lefts rights ways =
    record { extends = Extends-none plan place; ways = ways; covers = λ later grown zip. zip }

pub AreHalfCovered-step : (edges : List Edge) (old now new : Plan) (place : ℕ) (lefts rights left left_tail right right_tail : List ℕ) (a b : ℕ)
    → left ≡ a ∷ left_tail → right ≡ b ∷ right_tail → AreHalfCovered edges old now place lefts rights left right → Extends now new place
    → AreWays edges new → HasNumber new.pairs a b → AreHalfCovered edges old new place lefts rights left_tail right_tail
AreHalfCovered-step edges old now new place lefts rights left left_tail right right_tail a b left_is right_is before grown ways has = record {
  extends = Extends-through old now new place before.extends grown;
  ways = ways;
  covers = λ later more zip.
      let whole : AllZip (HasNumber later.pairs) (a ∷ left_tail) (b ∷ right_tail) = ((has.0, more.pairs (pair_of a b) has.0 has.1), zip) in
      before.covers later (Extends-through now new later place grown more)
      (subst (λ (xs : List ℕ). AllZip (HasNumber later.pairs) xs right) (sym left_is)
      (subst (λ (ys : List ℕ). AllZip (HasNumber later.pairs) (a ∷ left_tail) ys) (sym right_is) whole));
}

none_zip : (P Q : ℕ → ℕ → Type 0) (left right : List ℕ) → length left ≡ 0 → AllZip P left right → AllZip Q left right
none_zip P Q [] [] none zip = tt
none_zip P Q [] (b ∷ right) none zip = absurd zip
none_zip P Q (a ∷ left) right none zip = absurd (omega arith)

-- no pair is left
pub AreHalfCovered-end : (edges : List Edge) (old now : Plan) (place : ℕ) (lefts rights left right : List ℕ) → length left ≡ 0
    → AllZip (Joins edges place) left right → AreHalfCovered edges old now place lefts rights left right → AllZip (HasNumber now.pairs) lefts rights
AreHalfCovered-end edges old now place lefts rights left right none joined h =
    h.covers now (Extends-none now place) (none_zip (Joins edges place) (HasNumber now.pairs) left right none joined)

-- the loop that sets places
pub set_step : (needed next : List Bool) (rest tail : List ℕ) (place : ℕ) (whole : List Bool) → rest ≡ place ∷ tail → next ≡ set needed place true →
    (set_all needed rest ≡ whole) × All (λ p. p < length needed) rest → (set_all next tail ≡ whole) × All (λ p. p < length next) tail
set_step needed next rest tail place whole is next_is h =
    let all : All (λ p. p < length needed) (place ∷ tail) = All-same (λ p. p < length needed) (place ∷ tail) rest (sym is) h.1 in (
      ap (λ (bits : List Bool). set_all bits tail) next_is ∙ ap (λ (ps : List ℕ). set_all needed ps) (sym is) ∙ h.0,
      subst (λ (bits : List Bool). All (λ p. p < length bits) tail) (sym next_is) (within_more needed place tail all),
    )

some_at : {X : Type 0} (P : X → Type 0) (found : Option X) (x : X) → found ≡ Some x → IsSomeAnd found P → P x
some_at {X = X} P found x is h = subst (λ (o : Option X). IsSomeAnd o P) is h

pub within_of_some : {X : Type 0} (P : X → Type 0) (xs : List X) (i : ℕ) → IsSomeAnd (slice_get xs i) P → i < length xs
within_of_some P [] i h = absurd h
within_of_some P (x ∷ xs) zero h = omega arith
within_of_some P (x ∷ xs) (suc i) h = let below = within_of_some P xs i h in omega arith

-- the reason that is read is one
pub reason_read : (P : Why → Type 0) (whys : List Why) (number : ℕ) (other reason : Why) → get_or whys number other ≡ reason →
    IsSomeAnd (slice_get whys number) P → P reason
reason_read P whys number other reason is h =
    subst P is
    (some_at P (slice_get whys number) (get_or whys number other) (slice_get-get_or whys number other (within_of_some P whys number h)) h)

-- a reason that is read stands there
pub reason_stands : (whys : List Why) (number : ℕ) (reason : Why) → number < length whys → get_or whys number (why.Line 0) ≡ reason →
    slice_get whys number ≡ Some reason
reason_stands whys number reason below is = slice_get-get_or whys number (why.Line 0) below ∙ ap Some is

-- the edge that is read at a place
pub edge_read : (edges read_edges : List Edge) (place : ℕ) (read : Edge) → read_edges ≡ edges → place < length edges →
    read ≡ get_or read_edges place read → slice_get edges place ≡ Some read
edge_read edges read_edges place read same below is =
    slice_get-get_or edges place read below ∙ ap Some (sym (is ∙ ap (λ (es : List Edge). get_or es place read) same))

-- an edge that a line tells needs no ways
pub line_covered : (nodes : List Node) (edges : List Edge) (whys : List Why) (plan : Plan) (place : ℕ) (read : Edge) (n : ℕ) →
    slice_get edges place ≡ Some read → get_or whys read.why (why.Line 0) ≡ why.Line n → IsCovered nodes edges whys plan place
line_covered nodes edges whys plan place read n read_is line is edge stands reason =
    let same : read ≡ edge = same_Some read edge (sym read_is ∙ stands) in
    let other : get_or whys edge.why (why.Line 0) ≡ why.Congruence = get_or_from_slice_get whys edge.why why.Congruence (why.Line 0) reason in
    let this : get_or whys edge.why (why.Line 0) ≡ why.Line n = subst (λ (e : Edge). get_or whys e.why (why.Line 0) ≡ why.Line n) same line in
    absurd (no_line n (sym this ∙ other))
  where
    no_line : (m : ℕ) → why.Line m ≡ why.Congruence → ⊥
    no_line m e = absurd cc

-- a congruence needs those of its arguments
pub congruence_covered : (nodes : List Node) (edges : List Edge) (whys : List Why) (plan : Plan) (place : ℕ) (read : Edge) →
    slice_get edges place ≡ Some read → HasWaysFor nodes plan.pairs read.left read.right → IsCovered nodes edges whys plan place
congruence_covered nodes edges whys plan place read read_is ways is edge stands reason =
    subst (λ (e : Edge). HasWaysFor nodes plan.pairs e.left e.right) (same_Some read edge (sym read_is ∙ stands)) ways

-- an equality of a way that is planned is one that is needed
pub IsPlanned-needed : (nodes : List Node) (edges : List Edge) (whys read : List Why) (a b : ℕ) (plan : Plan) (x y : ℕ) → read ≡ whys
    → IsPlan nodes edges whys a b plan → IsPlanned edges read plan x y → IsNeededEquality nodes edges whys a b x y
IsPlanned-needed nodes edges whys read a b plan x y same given (c, d, n, places, has, stands, told) =
    let it = given.ways c d n has in
    let way : places ≡ it.0 = same_Some places it.0 (sym stands ∙ it.1) in record {
      left = c;
      right = d;
      places = it.0;
      needed = given.pairs c d n has;
      way = it.2;
      told = subst (λ (ps : List ℕ). IsToldOfWay edges whys c ps x y) way (subst (λ (ws : List Why). IsToldOfWay edges ws c places x y) same told);
    }
