-- What readings, differences and combinations name, and the sorts of comparisons and equations.
use Rattle.std.specs.Prelude.{◌≡◌, ℕ, zero, suc, ◌<◌, Bool, true, false, List, [], ◌∷◌, Option, Some, None, IsSome, All, length, map, take, slice_get, nat_eq, cond, ℤ, pos, negsuc, refl}
use Rattle.std.specs.Option.{IsSomeAnd, option_map, option_and_then}
use Rattle.std.proofs.Common.{arith, sym, ap, subst, ◌∙◌, inl, inr}
use Rattle.std.proofs.lemmas.Bool.Decides.{Decides-eqb}
use Rattle.std.proofs.lemmas.List.{length-take-le}
use Rattle.std.proofs.lemmas.List.Elements.{All-nil, All-cons, All-head, All-tail}
use Rattle.std.proofs.lemmas.Option.{slice_get_within, same_Some, none-some}
use Rattle.grind_term_graph.specs.declared.head.Head.{Head}
use Rattle.grind_term_graph.specs.declared.head.Head.TheVariants as heads
use Rattle.grind_term_graph.specs.declared.node.Node.{Node}
use Rattle.grind_term_graph.specs.Terms.{prop, int, sort_at}
use Rattle.grind_term_graph.specs.Shape.{IsShaped, AreTwoAlike, IsTable}
use Rattle.grind_term_graph.proofs.Tables.{WellShaped-at}
use Rattle.grind_linear_forms.specs.declared.form.Part.{Part}
use Rattle.grind_linear_forms.specs.Forms.{FormData, part_of, number_form}
use Rattle.grind_linear_forms.specs.Sums.{scaled_sum}
use Rattle.grind_linear_forms.specs.Readings.{linear}
use Rattle.grind_linear_forms.specs.Naming.{NamesNumbers}
use Rattle.grind_linear_forms.proofs.Naming.{linear-names, sum-names}
use Rattle.grind_polynomials.specs.declared.poly.Term.{Term}
use Rattle.grind_differences.specs.Differences.{is_number_sort, reading, difference}
use Rattle.grind_differences.specs.Equations.{with_term, form_of}
use Rattle.grind_claims.specs.declared.claim.Claim.{Claim}
use Rattle.grind_claims.specs.declared.claim.Claim.TheVariants.{Holds, Fails, Same, Differ, AtMost, Zero, Absurd}
use Rattle.grind_claims.specs.Claims.{AreOfOneSort, IsFormed}
use Rattle.grind_term_rules.specs.TermRules.{IsEquation}
use Rattle.grind_arithmetic_rules.specs.LinearRules.{IsComparison, IsRead, taken, combined}

-- what a step after an option gives, its value gave
pub and_then_some : {A B : Type 0} (f : A → Option B) (o : Option A) (b : B) → option_and_then f o ≡ Some b
    → (a : A) × (o ≡ Some a) × (f a ≡ Some b)
and_then_some f None b e = absurd (none-some b e)
and_then_some f (Some a) b e = (a, refl, e)

-- what is there and has the property
pub some_and : {A : Type 0} (o : Option A) (P : A → Type 0) → IsSomeAnd o P → (x : A) × (o ≡ Some x) × P x
some_and None P h = absurd h
some_and (Some x) P h = (x, refl, h)

-- ---- readings and differences

by_test : (sort : ℕ) (b : Bool) (r : Option FormData) (form : FormData) → nat_eq sort int ≡ b → cond b r None ≡ Some form
    → (Some sort ≡ Some int) × (r ≡ Some form)
by_test sort true r form is e = (ap Some ((Decides-eqb sort int).0 is), e)
by_test sort false r form is e = absurd (none-some form e)

from_sort : (sort : Option ℕ) (r : Option FormData) (form : FormData) → cond (is_number_sort sort) r None ≡ Some form
    → (sort ≡ Some int) × (r ≡ Some form)
from_sort None r form e = absurd (none-some form e)
from_sort (Some sort) r form e = by_test sort (nat_eq sort int) r form refl e

-- a term with a reading is a whole number
reading-sort : (nodes : List Node) (n : ℕ) (form : FormData) → reading nodes n ≡ Some form
    → (sort_at nodes n ≡ Some int) × (linear nodes n ≡ Some form)
unfolding reading
reading-sort nodes n form e = from_sort (sort_at nodes n) (linear nodes n) form e

difference-parts : (nodes : List Node) (a b : ℕ) (form : FormData) → difference nodes a b ≡ Some form
    → (left : FormData) × (right : FormData) × (reading nodes a ≡ Some left) × (reading nodes b ≡ Some right)
    × (scaled_sum left (pos 1) right (negsuc 0) ≡ Some form)
unfolding difference
difference-parts nodes a b form e =
    let one = and_then_some (λ (l : FormData). option_and_then (λ (r : FormData). scaled_sum l (pos 1) r (negsuc 0)) (reading nodes b))
    (reading nodes a) form e in
    let two = and_then_some (λ (r : FormData). scaled_sum one.0 (pos 1) r (negsuc 0)) (reading nodes b) form one.2 in
    (one.0, two.0, one.1, two.1, two.2)

-- the two of a difference are whole numbers
pub difference-sorts : (nodes : List Node) (a b : ℕ) (form : FormData) → difference nodes a b ≡ Some form
    → (sort_at nodes a ≡ Some int) × (sort_at nodes b ≡ Some int)
difference-sorts nodes a b form e =
    let is = difference-parts nodes a b form e in
    ((reading-sort nodes a is.0 is.2).0, (reading-sort nodes b is.1 is.3).0)

-- and it names whole numbers
pub difference-names : (nodes : List Node) (a b : ℕ) (form : FormData) → IsTable [] nodes → difference nodes a b ≡ Some form
    → NamesNumbers nodes form
difference-names nodes a b form table e =
    let is = difference-parts nodes a b form e in
    let left = reading-sort nodes a is.0 is.2 in
    let right = reading-sort nodes b is.1 is.3 in
    sum-names nodes is.0 is.1 form (pos 1) (negsuc 0)
    (linear-names nodes a is.0 table left.0 left.1) (linear-names nodes b is.1 table right.0 right.1) is.4

-- two whole numbers are of one sort
pub of_one_sort : (nodes : List Node) (a b : ℕ) → sort_at nodes a ≡ Some int → sort_at nodes b ≡ Some int → AreOfOneSort nodes a b
of_one_sort nodes a b e f = (subst (λ (sort : Option ℕ). IsSome sort) (sym e) refl, e ∙ sym f)

-- what `read` gives is well formed
pub read-formed : (nodes : List Node) (premises : List Claim) (claim : Claim) → IsTable [] nodes → IsRead nodes premises claim
    → IsFormed nodes claim
read-formed nodes premises claim table h = subst (IsFormed nodes) (sym h.2) (elim h.3 [
  | inl held ↦ let sides = held.1 in difference-names nodes sides.0 sides.1 h.1 table sides.3
  | inr failed ↦
      let sides = failed.1 in
      let base = sides.3 in
      subst (NamesNumbers nodes) (sym base.2) (difference-names nodes sides.1 sides.0 base.0 table base.1)
])

-- ---- combinations

module _ (nodes : List Node) where
  abbrev IsInt : ℕ → Type 0
  IsInt n = sort_at nodes n ≡ Some int

  abbrev IsIntPart : Part → Type 0
  IsIntPart part = IsInt part.node

  abbrev HasInts : Term → Type 0
  HasInts term = All IsInt term.monomial

  with_term-names : (monomial : List ℕ) (c : ℤ) (f form : FormData) → All IsInt monomial → NamesNumbers nodes f
      → with_term monomial c f ≡ Some form → NamesNumbers nodes form
  with_term-names [] c f form ints names e = subst (NamesNumbers nodes) (same_Some _ form e) names
  with_term-names (n ∷ []) c f form ints names e =
      subst (NamesNumbers nodes) (same_Some _ form e)
      (All-cons IsIntPart (part_of n c) f.parts (All-head IsInt n [] ints) names)
  with_term-names (n ∷ m ∷ more) c f form ints names e = absurd (none-some form e)

  form_of-names : (poly : List Term) (form : FormData) → All HasInts poly → form_of poly ≡ Some form → NamesNumbers nodes form
  form_of-names [] form ints e = subst (NamesNumbers nodes) (same_Some _ form e) (All-nil IsIntPart)
  form_of-names (term ∷ rest) form ints e =
      let both = and_then_some (with_term term.monomial term.coefficient) (form_of rest) form e in
      with_term-names term.monomial term.coefficient both.0 form (All-head HasInts term rest ints)
      (form_of-names rest both.0 (All-tail HasInts term rest ints) both.1) both.2

  taken-names : (factor : ℤ) (premise : Claim) (form : FormData) → IsFormed nodes premise → taken factor premise ≡ Some form
      → NamesNumbers nodes form
  taken-names (pos times) (AtMost given) form formed e = subst (NamesNumbers nodes) (same_Some given form e) formed
  taken-names (negsuc times) (AtMost given) form formed e = absurd (none-some form e)
  taken-names (pos times) (Zero poly) form formed e = form_of-names poly form formed e
  taken-names (negsuc times) (Zero poly) form formed e = form_of-names poly form formed e
  taken-names (pos times) (Holds n) form formed e = absurd (none-some form e)
  taken-names (negsuc times) (Holds n) form formed e = absurd (none-some form e)
  taken-names (pos times) (Fails n) form formed e = absurd (none-some form e)
  taken-names (negsuc times) (Fails n) form formed e = absurd (none-some form e)
  taken-names (pos times) (Same a b) form formed e = absurd (none-some form e)
  taken-names (negsuc times) (Same a b) form formed e = absurd (none-some form e)
  taken-names (pos times) (Differ a b) form formed e = absurd (none-some form e)
  taken-names (negsuc times) (Differ a b) form formed e = absurd (none-some form e)
  taken-names (pos times) Absurd form formed e = absurd (none-some form e)
  taken-names (negsuc times) Absurd form formed e = absurd (none-some form e)

  combined-names : (factors : List ℤ) (premises : List Claim) (sum result : FormData) → NamesNumbers nodes sum
      → All (IsFormed nodes) premises → combined sum factors premises ≡ Some result → NamesNumbers nodes result
  combined-names [] [] sum result names formed e = subst (NamesNumbers nodes) (same_Some sum result e) names
  combined-names [] (premise ∷ premises) sum result names formed e = absurd (none-some result e)
  combined-names (factor ∷ factors) [] sum result names formed e = absurd (none-some result e)
  combined-names (factor ∷ factors) (premise ∷ premises) sum result names formed e =
      let whole = and_then_some (λ (next : FormData). combined next factors premises)
      (option_and_then (λ (form : FormData). scaled_sum sum (pos 1) form factor) (taken factor premise)) result e in
      let here = and_then_some (λ (form : FormData). scaled_sum sum (pos 1) form factor) (taken factor premise) whole.0 whole.1 in
      combined-names factors premises whole.0 result
      (sum-names nodes sum here.0 whole.0 (pos 1) factor names
      (taken-names factor premise here.0 (All-head (IsFormed nodes) premise premises formed) here.1) here.2)
      (All-tail (IsFormed nodes) premise premises formed) whole.2

  -- what is combined of well formed claims names whole numbers
  pub combination-names : (factors : List ℤ) (premises : List Claim) (sum : FormData) → All (IsFormed nodes) premises
      → combined (number_form (pos 0)) factors premises ≡ Some sum → NamesNumbers nodes sum
  combination-names factors premises sum formed e =
      combined-names factors premises (number_form (pos 0)) sum (All-nil IsIntPart) formed e

-- ---- comparisons and equations

abbrev pub is_at : Head → List ℕ → Node → Type 0
is_at head args it = (it.head ≡ head) × (it.args ≡ args)

sort_is : (nodes : List Node) (n : ℕ) (node : Node) (sort : ℕ) → slice_get nodes n ≡ Some node → node.sort ≡ sort → sort_at nodes n ≡ Some sort
sort_is nodes n node sort there is = ap (option_map (λ (it : Node). it.sort)) there ∙ ap (λ s. Some s) is

sort_take : (nodes : List Node) (n a : ℕ) → a < n → sort_at (take n nodes) a ≡ sort_at nodes a
sort_take nodes zero a below = absurd (omega arith)
sort_take [] (suc n) a below = refl
sort_take (x ∷ nodes) (suc n) zero below = refl
sort_take (x ∷ nodes) (suc n) (suc a) below = sort_take nodes n a (omega arith)

lower_at : (nodes : List Node) (n : ℕ) (node : Node) → IsTable [] nodes → slice_get nodes n ≡ Some node → All (λ arg. arg < n) node.args
lower_at nodes n node table there k d l =
    let within = slice_get_within nodes n node there in
    let front : length (take n nodes) ≡ n = length-take-le n nodes (omega (arith, within)) in
    let below = (WellShaped-at [] nodes n node table there).0 k d l in
    omega (arith, front, below)

-- a comparison is a formula
pub comparison_formula : (nodes : List Node) (n a b : ℕ) → IsTable [] nodes → IsComparison nodes n a b → sort_at nodes n ≡ Some prop
comparison_formula nodes n a b table is =
    let found = some_and (slice_get nodes n) (is_at heads.Le (a ∷ b ∷ [])) is in
    let shaped = (WellShaped-at [] nodes n found.0 table found.1).1 in
    sort_is nodes n found.0 prop found.1
    (subst (λ h. IsShaped h found.0.sort (map (sort_at (take n nodes)) found.0.args)) found.2.0 shaped).0

-- the sides of an equation are of one sort
pub equation_alike : (nodes : List Node) (n a b : ℕ) → IsTable [] nodes → IsEquation nodes n a b → sort_at nodes a ≡ sort_at nodes b
equation_alike nodes n a b table is =
    let found = some_and (slice_get nodes n) (is_at heads.Eq (a ∷ b ∷ [])) is in
    let shaped = subst (λ h. IsShaped h found.0.sort (map (sort_at (take n nodes)) found.0.args)) found.2.0
    (WellShaped-at [] nodes n found.0 table found.1).1 in
    let two : AreTwoAlike (map (sort_at (take n nodes)) (a ∷ b ∷ [])) =
    subst (λ xs. AreTwoAlike (map (sort_at (take n nodes)) xs)) found.2.1 shaped.1 in
    let lower = subst (λ xs. All (λ arg. arg < n) xs) found.2.1 (lower_at nodes n found.0 table found.1) in
    let first : a < n = lower 0 0 (omega arith) in
    let second : b < n = lower 1 0 (omega arith) in
    sym (sort_take nodes n a first) ∙ two ∙ sort_take nodes n b second
