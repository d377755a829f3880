-- Slots, what two lists of them have together, and the substitutions that agree with them.
use Rattle.std.proofs.Common.{◌≡◌, ℕ, zero, suc, ◌<◌, arith, List, [], ◌∷◌, Option, Some, None, length, replicate, slice_get, slice_set, refl, sym, ap, ◌∙◌, subst}
use Rattle.std.specs.Prelude.{IfSome}
use Rattle.grind_term_graph.specs.Terms.{sort_at}
use Rattle.grind_classes.specs.Classes.{IsIn, IsPartition}
use Rattle.grind_ematch.specs.Matches.{Scene}
use Rattle.grind_ematch.specs.Partials.{AreSlots, Agrees, IsBound, IsUnion, AreUnion}

-- what holds of the roots of two slots holds of that of both
module _ (P : ℕ → Type 0) where
  of_both : (one other both : Option ℕ) → IsUnion one other both → IfSome one P → IfSome other P → IfSome both P
  of_both None other both e p q = subst (λ (slot : Option ℕ). IfSome slot P) (sym e) q
  of_both (Some root) None both e p q = subst (λ (slot : Option ℕ). IfSome slot P) (sym e) p
  of_both (Some root) (Some second) both e p q = subst (λ (slot : Option ℕ). IfSome slot P) (sym e.1) p

  first_of_both : (one other both : Option ℕ) → IsUnion one other both → IfSome both P → IfSome one P
  first_of_both None other both e p = tt
  first_of_both (Some root) None both e p = subst (λ (slot : Option ℕ). IfSome slot P) e p
  first_of_both (Some root) (Some second) both e p = subst (λ (slot : Option ℕ). IfSome slot P) e.1 p

  second_of_both : (one other both : Option ℕ) → IsUnion one other both → IfSome both P → IfSome other P
  second_of_both None other both e p = subst (λ (slot : Option ℕ). IfSome slot P) e p
  second_of_both (Some root) None both e p = tt
  second_of_both (Some root) (Some second) both e p =
      let here : P root = subst (λ (slot : Option ℕ). IfSome slot P) e.1 p in subst P e.0 here

  -- where roots for which P holds are one, two slots for whose roots it holds have some slot together
  both_of : ((n m : ℕ) → P n → P m → n ≡ m) → (one other : Option ℕ) → IfSome one P → IfSome other P
      → (both : Option ℕ) × IsUnion one other both × IfSome both P
  both_of single None other p q = (other, refl, q)
  both_of single (Some root) None p q = (Some root, refl, p)
  both_of single (Some root) (Some second) p q = (Some root, (single root second p q, refl), p)

module _ (scene : Scene) where
  agrees_inside : (x y z : Option ℕ) (xs ys zs : List (Option ℕ)) (ns : List ℕ) → IsUnion x y z
      → ((ms : List ℕ) → Agrees scene zs ms → Agrees scene xs ms × Agrees scene ys ms)
      → Agrees scene (z ∷ zs) ns → Agrees scene (x ∷ xs) ns × Agrees scene (y ∷ ys) ns
  agrees_inside x y z xs ys zs [] u more h = absurd h
  agrees_inside x y z xs ys zs (n ∷ ns) u more h =
      let P : ℕ → Type 0 = λ root. IsIn scene.classes root n in
      let rest = more ns h.1 in
      ((first_of_both P x y z u h.0, rest.0), (second_of_both P x y z u h.0, rest.1))

  -- who agrees with two lists together agrees with each
  pub Agrees-union : (ones others both : List (Option ℕ)) (subst' : List ℕ) → AreUnion ones others both
      → Agrees scene both subst' → Agrees scene ones subst' × Agrees scene others subst'
  Agrees-union [] [] both ns u h =
      let here = subst (λ (slots : List (Option ℕ)). Agrees scene slots ns) u h in (here, here)
  Agrees-union [] (y ∷ ys) both ns u h = absurd u
  Agrees-union (x ∷ xs) [] both ns u h = absurd u
  Agrees-union (x ∷ xs) (y ∷ ys) both ns u h =
      agrees_inside x y u.0 xs ys u.1 ns u.3 (λ ms k. Agrees-union xs ys u.1 ms u.4 k)
      (subst (λ (slots : List (Option ℕ)). Agrees scene slots ns) u.2 h)

  -- who agrees with each of two lists agrees with what they have together
  pub union_of_agreeing : IsPartition scene.classes → (ones others : List (Option ℕ)) (subst' : List ℕ)
      → Agrees scene ones subst' → Agrees scene others subst'
      → (both : List (Option ℕ)) × AreUnion ones others both × Agrees scene both subst'
  union_of_agreeing partition [] [] [] h k = ([], refl, tt)
  union_of_agreeing partition [] [] (n ∷ ns) h k = absurd h
  union_of_agreeing partition [] (y ∷ ys) [] h k = absurd k
  union_of_agreeing partition [] (y ∷ ys) (n ∷ ns) h k = absurd h
  union_of_agreeing partition (x ∷ xs) [] [] h k = absurd h
  union_of_agreeing partition (x ∷ xs) [] (n ∷ ns) h k = absurd k
  union_of_agreeing partition (x ∷ xs) (y ∷ ys) [] h k = absurd h
  union_of_agreeing partition (x ∷ xs) (y ∷ ys) (n ∷ ns) h k =
      let P : ℕ → Type 0 = λ root. IsIn scene.classes root n in
      let here = both_of P (λ a b p q. partition.in_one a b n p q) x y h.0 k.0 in
      let rest = union_of_agreeing partition xs ys ns h.1 k.1 in
      (here.0 ∷ rest.0, (here.0, rest.0, refl, here.1, rest.1), (here.2, rest.2))

  -- two lists of slots for some variables have slots for them together
  pub AreSlots-union : (vars : List ℕ) (ones others both : List (Option ℕ)) → AreUnion ones others both
      → AreSlots scene vars ones → AreSlots scene vars others → AreSlots scene vars both
  AreSlots-union [] [] [] both u h k = subst (λ (slots : List (Option ℕ)). AreSlots scene [] slots) (sym u) tt
  AreSlots-union [] [] (y ∷ ys) both u h k = absurd u
  AreSlots-union [] (x ∷ xs) others both u h k = absurd h
  AreSlots-union (sort ∷ vars) [] others both u h k = absurd h
  AreSlots-union (sort ∷ vars) (x ∷ xs) [] both u h k = absurd u
  AreSlots-union (sort ∷ vars) (x ∷ xs) (y ∷ ys) both u h k =
      let P : ℕ → Type 0 = λ root. IsIn scene.classes root root × (sort_at scene.nodes root ≡ Some sort) in
      subst (λ (slots : List (Option ℕ)). AreSlots scene (sort ∷ vars) slots) (sym u.2)
      (of_both P x y u.0 u.3 h.0 k.0, AreSlots-union vars xs ys u.1 u.4 h.1 k.1)

  -- each substitution of the right length agrees with empty slots
  pub Agrees-empty : (subst' : List ℕ) → Agrees scene (replicate (length subst') None) subst'
  Agrees-empty [] = tt
  Agrees-empty (n ∷ ns) = (tt, Agrees-empty ns)

  pub AreSlots-empty : (vars : List ℕ) → AreSlots scene vars (replicate (length vars) None)
  AreSlots-empty [] = tt
  AreSlots-empty (sort ∷ vars) = (tt, AreSlots-empty vars)

  -- one slot alone
  pub AreSlots-one : (vars : List ℕ) (variable root sort : ℕ) → slice_get vars variable ≡ Some sort
      → IsIn scene.classes root root → sort_at scene.nodes root ≡ Some sort
      → AreSlots scene vars (slice_set (replicate (length vars) None) variable (Some root))
  AreSlots-one [] variable root sort e own is = tt
  AreSlots-one (first ∷ vars) zero root sort e own is = ((own, is ∙ sym e), AreSlots-empty vars)
  AreSlots-one (first ∷ vars) (suc variable) root sort e own is = (tt, AreSlots-one vars variable root sort e own is)

  pub Agrees-one : (subst' : List ℕ) (variable root n : ℕ) → slice_get subst' variable ≡ Some n
      → IsIn scene.classes root n
      → Agrees scene (slice_set (replicate (length subst') None) variable (Some root)) subst'
  Agrees-one [] variable root n e h = tt
  Agrees-one (first ∷ ns) zero root n e h =
      let same : first ≡ n = cc in (subst (IsIn scene.classes root) (sym same) h, Agrees-empty ns)
  Agrees-one (first ∷ ns) (suc variable) root n e h = (tt, Agrees-one ns variable root n e h)

  -- a substitution that agrees with slots has a node of the class of the root of a slot
  pub Agrees-at : (slots : List (Option ℕ)) (subst' : List ℕ) (variable root : ℕ)
      → slice_get slots variable ≡ Some (Some root) → Agrees scene slots subst'
      → (n : ℕ) × (slice_get subst' variable ≡ Some n) × IsIn scene.classes root n
  Agrees-at [] ns variable root e h = absurd cc
  Agrees-at (slot ∷ slots) [] variable root e h = absurd h
  Agrees-at (slot ∷ slots) (n ∷ ns) zero root e h =
      let same : slot ≡ Some root = cc in
      (n, refl, subst (λ (it : Option ℕ). IfSome it (λ r. IsIn scene.classes r n)) same h.0)
  Agrees-at (slot ∷ slots) (n ∷ ns) (suc variable) root e h = Agrees-at slots ns variable root e h.1

-- the slot that was set
pub set_slot : (count variable root : ℕ) → variable < count
    → slice_get (slice_set (replicate count None) variable (Some root)) variable ≡ Some (Some root)
set_slot zero variable root less = absurd (omega arith)
set_slot (suc count) zero root less = refl
set_slot (suc count) (suc variable) root less = set_slot count variable root (omega arith)

-- what is bound in one of two lists is bound in what they have together
bound_left : (one other both : Option ℕ) → IsUnion one other both → (root : ℕ) → one ≡ Some root
    → (r : ℕ) × (both ≡ Some r)
bound_left None other both u root e = absurd cc
bound_left (Some n) None both u root e = (n, u)
bound_left (Some n) (Some m) both u root e = (n, u.1)

bound_right : (one other both : Option ℕ) → IsUnion one other both → (root : ℕ) → other ≡ Some root
    → (r : ℕ) × (both ≡ Some r)
bound_right None other both u root e = (root, u ∙ e)
bound_right (Some n) None both u root e = (n, u)
bound_right (Some n) (Some m) both u root e = (n, u.1)

get_first : (slot : Option ℕ) (slots : List (Option ℕ)) (root : ℕ) → slice_get (slot ∷ slots) zero ≡ Some (Some root) → slot ≡ Some root
get_first slot slots root e = cc

pub IsBound-left : (ones others both : List (Option ℕ)) (variable : ℕ) → AreUnion ones others both
    → IsBound ones variable → IsBound both variable
IsBound-left [] others both variable u b = absurd (let e = b.1 in cc)
IsBound-left (x ∷ xs) [] both variable u b = absurd u
IsBound-left (x ∷ xs) (y ∷ ys) both zero u b =
    let here = bound_left x y u.0 u.3 b.0 (get_first x xs b.0 b.1) in
    subst (λ (slots : List (Option ℕ)). IsBound slots zero) (sym u.2) (here.0, ap (λ (s : Option ℕ). Some s) here.1)
IsBound-left (x ∷ xs) (y ∷ ys) both (suc variable) u b =
    subst (λ (slots : List (Option ℕ)). IsBound slots (suc variable)) (sym u.2) (IsBound-left xs ys u.1 variable u.4 b)

pub IsBound-right : (ones others both : List (Option ℕ)) (variable : ℕ) → AreUnion ones others both
    → IsBound others variable → IsBound both variable
IsBound-right [] [] both variable u b = absurd (let e = b.1 in cc)
IsBound-right [] (y ∷ ys) both variable u b = absurd u
IsBound-right (x ∷ xs) [] both variable u b = absurd u
IsBound-right (x ∷ xs) (y ∷ ys) both zero u b =
    let here = bound_right x y u.0 u.3 b.0 (get_first y ys b.0 b.1) in
    subst (λ (slots : List (Option ℕ)). IsBound slots zero) (sym u.2) (here.0, ap (λ (s : Option ℕ). Some s) here.1)
IsBound-right (x ∷ xs) (y ∷ ys) both (suc variable) u b =
    subst (λ (slots : List (Option ℕ)). IsBound slots (suc variable)) (sym u.2) (IsBound-right xs ys u.1 variable u.4 b)

-- two lists of slots have one list together at most
single_slot : (one other both second : Option ℕ) → IsUnion one other both → IsUnion one other second → both ≡ second
single_slot None other both second e f = e ∙ sym f
single_slot (Some n) None both second e f = e ∙ sym f
single_slot (Some n) (Some m) both second e f = e.1 ∙ sym f.1

pub single_union : (ones others both second : List (Option ℕ)) → AreUnion ones others both → AreUnion ones others second
    → both ≡ second
single_union [] [] both second e f = e ∙ sym f
single_union [] (y ∷ ys) both second e f = absurd e
single_union (x ∷ xs) [] both second e f = absurd e
single_union (x ∷ xs) (y ∷ ys) both second e f =
    let slot : e.0 ≡ f.0 = single_slot x y e.0 f.0 e.3 f.3 in
    let slots : e.1 ≡ f.1 = single_union xs ys e.1 f.1 e.4 f.4 in
    e.2 ∙ ap (λ (s : Option ℕ). s ∷ e.1) slot ∙ ap (λ (l : List (Option ℕ)). f.0 ∷ l) slots ∙ sym f.2
