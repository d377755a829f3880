-- How much the classes weigh: a class of m nodes weighs m times the greatest exponent of a power of two that is at most m.
use Rattle.std.specs.Prelude.{◌≡◌, ◌≢◌, ℕ, ◌+◌, ◌*◌, ◌<◌, ◌≤◌, ◌^◌, List, [], ◌∷◌, ◌++◌, length, set, refl}
use Rattle.std.specs.List.{sum_by}
use Rattle.std.proofs.Common.{arith, sym, ap, subst, get_or, length-append}
use Rattle.std.proofs.Math.Nat.{add-mul, mul-add, mul-le-mul_left}
use Rattle.std.proofs.lemmas.List.{length-set, get_or-set_other}
use Rattle.std.proofs.lemmas.List.Sums.{sum_by-set, sum_by-cons}
use Rattle.grind_classes.specs.Classes.{members_of, joined}
use Rattle.grind_class_joins.specs.Joins.{member_count}
use Rattle.grind_class_joins.proofs.PowerLemmas.{exponent, exponent-le, exponent-mono, exponent-twice}

abbrev pub weight : ℕ → List ℕ → ℕ
weight b members = length members * exponent b (length members)

-- two classes weigh less than one of both, by at least the size of the smaller
sizes_grow : (b k g : ℕ) → 1 ≤ g → g ≤ k → k + g < 2 ^ (b + 1) →
    k * exponent b k + g * exponent b g + g ≤ (k + g) * exponent b (k + g)
sizes_grow b k g some smaller bound =
    let e : ℕ = exponent b (k + g) in
    let left : k * exponent b k ≤ k * e = mul-le-mul_left k (exponent-mono b k (k + g) (omega (arith, some, smaller)) (omega arith)) in
    let right : g * (exponent b g + 1) ≤ g * e =
    mul-le-mul_left g (exponent-twice b g (k + g) some (omega (arith, smaller)) bound) in
    let one_more : g * (exponent b g + 1) ≡ g * exponent b g + g * 1 = mul-add g (exponent b g) 1 in
    let both : (k + g) * e ≡ k * e + g * e = add-mul k g e in
    omega (arith, left, right, one_more, both)

-- a sum over all classes, where two are joined
module _ (f : List ℕ → ℕ) (lists : List (List ℕ)) (kept gone : ℕ) (kept_in : kept < length lists) (gone_in : gone < length lists)
    (differ : kept ≢ gone) (none : f [] ≡ 0) where
  pub sum_by-joined : sum_by f (joined lists kept gone) + f (members_of lists kept) + f (members_of lists gone)
      ≡ sum_by f lists + f (members_of lists kept ++ members_of lists gone)
  sum_by-joined =
      let both : List ℕ = members_of lists kept ++ members_of lists gone in
      let first : List (List ℕ) = set lists kept both in
      let one : sum_by f first + f (members_of lists kept) ≡ sum_by f lists + f both = sum_by-set f lists kept both [] kept_in in
      let within : gone < length first = subst (λ (n : ℕ). gone < n) (sym (length-set lists kept both)) gone_in in
      let two : sum_by f (set first gone []) + f (get_or first gone []) ≡ sum_by f first + f [] = sum_by-set f first gone [] [] within in
      let same : f (get_or first gone []) ≡ f (members_of lists gone) =
      ap f (get_or-set_other lists kept gone both [] (λ e. differ (sym e))) in
      omega (arith, one, two, same, none)

-- one class has no more nodes than there are
pub sum_by-item : (f : List ℕ → ℕ) (lists : List (List ℕ)) (r : ℕ) → r < length lists → f [] ≡ 0 → f (members_of lists r) ≤ sum_by f lists
sum_by-item f lists r within none = let one = sum_by-set f lists r [] [] within in omega (arith, one, none)

-- where two classes are joined, no node comes or goes
pub member_count-joined : (lists : List (List ℕ)) (kept gone : ℕ) → kept < length lists → gone < length lists → kept ≢ gone →
    member_count (joined lists kept gone) ≡ member_count lists
member_count-joined lists kept gone kept_in gone_in differ =
    let all = sum_by-joined length lists kept gone kept_in gone_in differ refl in
    let both = length-append (members_of lists kept) (members_of lists gone) in
    omega (arith, all, both)

-- both together have no more nodes than there are
both_within : (lists : List (List ℕ)) (kept gone : ℕ) → kept < length lists → gone < length lists → kept ≢ gone →
    length (members_of lists kept) + length (members_of lists gone) ≤ member_count lists
both_within lists kept gone kept_in gone_in differ =
    let first : List (List ℕ) = set lists kept [] in
    let one : sum_by length first + length (members_of lists kept) ≡ member_count lists + 0 = sum_by-set length lists kept [] [] kept_in in
    let within : gone < length first = subst (λ (n : ℕ). gone < n) (sym (length-set lists kept [])) gone_in in
    let two : length (get_or first gone []) ≤ sum_by length first = sum_by-item length first gone within refl in
    let same : length (get_or first gone []) ≡ length (members_of lists gone) =
    ap length (get_or-set_other lists kept gone [] [] (λ e. differ (sym e))) in
    omega (arith, one, two, same)

-- and the classes weigh more by at least the number of nodes that were moved
pub weight-joined : (b : ℕ) (lists : List (List ℕ)) (kept gone : ℕ) → kept < length lists → gone < length lists → kept ≢ gone →
    1 ≤ length (members_of lists gone) → length (members_of lists gone) ≤ length (members_of lists kept) → member_count lists < 2 ^ (b + 1) →
    sum_by (weight b) lists + length (members_of lists gone) ≤ sum_by (weight b) (joined lists kept gone)
weight-joined b lists kept gone kept_in gone_in differ some smaller bound =
    let k : ℕ = length (members_of lists kept) in
    let g : ℕ = length (members_of lists gone) in
    let none : weight b [] ≡ 0 = omega arith in
    let all = sum_by-joined (weight b) lists kept gone kept_in gone_in differ none in
    let within = both_within lists kept gone kept_in gone_in differ in
    let size : length (members_of lists kept ++ members_of lists gone) ≡ k + g = length-append (members_of lists kept) (members_of lists gone) in
    let heavy : weight b (members_of lists kept ++ members_of lists gone) ≡ (k + g) * exponent b (k + g) = ap (λ n. n * exponent b n) size in
    let grows : k * exponent b k + g * exponent b g + g ≤ (k + g) * exponent b (k + g) =
    sizes_grow b k g some smaller (omega (arith, within, bound)) in
    let left : weight b (members_of lists kept) ≡ k * exponent b k = refl in
    let right : weight b (members_of lists gone) ≡ g * exponent b g = refl in
    omega (arith, all, heavy, grows, left, right)

-- all of them weigh at most b times the number of nodes
pub weight-bound : (b : ℕ) (lists : List (List ℕ)) → sum_by (weight b) lists ≤ member_count lists * b
weight-bound b [] = omega arith
weight-bound b (members ∷ lists) =
    let rest = weight-bound b lists in
    let here : length members * exponent b (length members) ≤ length members * b = mul-le-mul_left (length members) (exponent-le b (length members)) in
    let weights = sum_by-cons (weight b) members lists in
    let counts : member_count (members ∷ lists) ≡ length members + member_count lists = sum_by-cons length members lists in
    let product : member_count (members ∷ lists) * b ≡ (length members + member_count lists) * b = ap (λ n. n * b) counts in
    let parts : (length members + member_count lists) * b ≡ length members * b + member_count lists * b = add-mul (length members) (member_count lists) b in
    let heavy : weight b members ≡ length members * exponent b (length members) = refl in
    omega (arith, rest, here, weights, product, parts, heavy)
