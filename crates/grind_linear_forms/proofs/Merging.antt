-- How multiples of parts are merged, clause by clause and step by step.
use Rattle.std.proofs.Common.{◌≡◌, ℕ, zero, suc, ◌<◌, ◌≤◌, ltb, cond, List, [], ◌∷◌, ◌++◌, length, ℤ, pos, negsuc, Option, Some, None, Result, Ok, Err, IfOk, arith, sym, ap, ◌∙◌, refl}
use Rattle.std.specs.Option.{IsSomeAnd}
use Rattle.std.proofs.lemmas.Bool.{cond-true, cond-false, lt-ltb, le-ltb}
use Rattle.std.proofs.lemmas.List.{append_assoc, append-nil}
use Rattle.std.proofs.lemmas.Option.{none-some}
use Rattle.grind_linear_forms.specs.declared.form.Part.{Part}
use Rattle.grind_linear_forms.specs.Forms.{FormData, form_data}
use Rattle.grind_linear_forms.specs.Sums.{multiple, combination, in_front, front, multiplied, merged_from, merged, behind, both}

-- ---- the clauses
pub multiplied-nil : (m : ℤ) → multiplied m [] ≡ Some []
unfolding multiplied
multiplied-nil m = refl

pub multiplied-cons : (m : ℤ) (x : Part) (xs : List Part)
    → multiplied m (x ∷ xs) ≡ front x.node (multiple m x.coefficient) (multiplied m xs)
unfolding multiplied
multiplied-cons m x xs = refl

pub merged-nil : (m k : ℤ) (ys : List Part) → merged m [] k ys ≡ multiplied k ys
unfolding merged
merged-nil m k ys = refl

pub merged-last : (m k : ℤ) (x : Part) (xs : List Part)
    → merged m (x ∷ xs) k [] ≡ front x.node (multiple m x.coefficient) (merged m xs k [])
unfolding merged merged_from
merged-last m k x xs = refl

pub merged-left : (m k : ℤ) (xs : List Part) → merged m xs k [] ≡ multiplied m xs
merged-left m k [] = merged-nil m k [] ∙ multiplied-nil k ∙ sym (multiplied-nil m)
merged-left m k (x ∷ xs) =
    merged-last m k x xs ∙ ap (front x.node (multiple m x.coefficient)) (merged-left m k xs) ∙ sym (multiplied-cons m x xs)

merged-cons : (m k : ℤ) (x y : Part) (xs ys : List Part) → merged m (x ∷ xs) k (y ∷ ys)
    ≡ cond (ltb x.node y.node) (front x.node (multiple m x.coefficient) (merged m xs k (y ∷ ys)))
    (cond (ltb y.node x.node) (front y.node (multiple k y.coefficient) (merged m (x ∷ xs) k ys))
    (front x.node (combination m x.coefficient k y.coefficient) (merged m xs k ys)))
unfolding merged merged_from
merged-cons m k x y xs ys = refl

pub merged-less : (m k : ℤ) (x y : Part) (xs ys : List Part) → x.node < y.node
    → merged m (x ∷ xs) k (y ∷ ys) ≡ front x.node (multiple m x.coefficient) (merged m xs k (y ∷ ys))
merged-less m k x y xs ys h = merged-cons m k x y xs ys ∙ cond-true (ltb x.node y.node) _ _ (lt-ltb x.node y.node h)

pub merged-more : (m k : ℤ) (x y : Part) (xs ys : List Part) → y.node < x.node
    → merged m (x ∷ xs) k (y ∷ ys) ≡ front y.node (multiple k y.coefficient) (merged m (x ∷ xs) k ys)
merged-more m k x y xs ys h =
    merged-cons m k x y xs ys ∙ cond-false (ltb x.node y.node) _ _ (le-ltb x.node y.node (omega arith))
    ∙ cond-true (ltb y.node x.node) _ _ (lt-ltb y.node x.node h)

pub merged-same : (m k : ℤ) (x y : Part) (xs ys : List Part) → x.node ≤ y.node → y.node ≤ x.node
    → merged m (x ∷ xs) k (y ∷ ys) ≡ front x.node (combination m x.coefficient k y.coefficient) (merged m xs k ys)
merged-same m k x y xs ys h i =
    merged-cons m k x y xs ys ∙ cond-false (ltb x.node y.node) _ _ (le-ltb x.node y.node i)
    ∙ cond-false (ltb y.node x.node) _ _ (le-ltb y.node x.node h)

-- ---- what is done, and what is left
pub behind-nil : (rest : Option (List Part)) → behind [] rest ≡ rest
unfolding behind
behind-nil None = refl
behind-nil (Some parts) = refl

pub behind-none : (done : List Part) (rest : Option (List Part)) → behind done rest ≡ None → rest ≡ None
unfolding behind
behind-none done None e = refl
behind-none done (Some parts) e = absurd (none-some (done ++ parts) (sym e))

pub behind-done : (done : List Part) → behind done (Some []) ≡ Some done
unfolding behind
behind-done done = simp append-nil

in_front-append : (node : ℕ) (c : ℤ) (rest : List Part) → in_front node c rest ≡ in_front node c [] ++ rest
in_front-append node (pos zero) rest = refl
in_front-append node (pos (suc n)) rest = refl
in_front-append node (negsuc n) rest = refl

-- a node with its coefficient was appended to what is done
pub behind-step : (done new : List Part) (node : ℕ) (c : Option ℤ) (rest : Option (List Part))
    → IsSomeAnd c (λ c. new ≡ done ++ in_front node c []) → behind done (front node c rest) ≡ behind new rest
unfolding behind
behind-step done new node None rest h = absurd h
behind-step done new node (Some c) None h = refl
behind-step done new node (Some c) (Some parts) h =
    ap (λ (all : List Part). Some all)
    (ap (λ (all : List Part). done ++ all) (in_front-append node c parts)
    ∙ sym (append_assoc done (in_front node c []) parts) ∙ ap (λ (all : List Part). all ++ parts) (sym h))

-- its coefficient does not fit
pub behind-fails : (done : List Part) (node : ℕ) (c : Option ℤ) (rest : Option (List Part)) → c ≡ None
    → behind done (front node c rest) ≡ None
unfolding behind
behind-fails done node None rest e = refl
behind-fails done node (Some c) rest e = absurd (none-some c (sym e))

-- ---- the steps of the loops
module _ (m : ℤ) (whole : Option (List Part)) (done : List Part) (rest : List Part) (x : Part) (xs : List Part)
    (rest_is : rest ≡ x ∷ xs) (so_far : behind done (multiplied m rest) ≡ whole) where
  next : behind done (front x.node (multiple m x.coefficient) (multiplied m xs)) ≡ whole
  next = ap (behind done) (sym (multiplied-cons m x xs) ∙ ap (multiplied m) (sym rest_is)) ∙ so_far

  pub multiply_step : (new : List Part) (c : Option ℤ) → c ≡ multiple m x.coefficient
      → IsSomeAnd c (λ c. new ≡ done ++ in_front x.node c []) → behind new (multiplied m xs) ≡ whole
  multiply_step new c e h =
      sym (behind-step done new x.node c (multiplied m xs) h)
      ∙ ap (λ (c : Option ℤ). behind done (front x.node c (multiplied m xs))) e ∙ next

  pub multiply_fails : (c : Option ℤ) → c ≡ multiple m x.coefficient → c ≡ None → whole ≡ None
  multiply_fails c e f = sym next ∙ behind-fails done x.node (multiple m x.coefficient) (multiplied m xs) (sym e ∙ f)

module _ (m k : ℤ) (whole : Option (List Part)) (done rest others : List Part) (x y : Part) (xs ys : List Part)
    (rest_is : rest ≡ x ∷ xs) (others_is : others ≡ y ∷ ys) (so_far : behind done (merged m rest k others) ≡ whole) where
  opened : behind done (merged m (x ∷ xs) k (y ∷ ys)) ≡ whole
  opened = (λ i. behind done (merged m (sym rest_is i) k (sym others_is i))) ∙ so_far

  module _ (node : ℕ) (c : Option ℤ) (left right : List Part)
      (is : merged m (x ∷ xs) k (y ∷ ys) ≡ front node c (merged m left k right)) where
    pub merge_step : (new : List Part) (given : Option ℤ) → given ≡ c → IsSomeAnd given (λ c. new ≡ done ++ in_front node c [])
        → behind new (merged m left k right) ≡ whole
    merge_step new given e h =
        sym (behind-step done new node given (merged m left k right) h)
        ∙ ap (λ (c : Option ℤ). behind done (front node c (merged m left k right))) e ∙ ap (behind done) (sym is) ∙ opened

    pub merge_fails : (given : Option ℤ) → given ≡ c → given ≡ None → whole ≡ None
    merge_fails given e f =
        sym opened ∙ ap (behind done) is ∙ behind-fails done node c (merged m left k right) (sym e ∙ f)

-- ---- the ends of the loops
pub multiply_end : (m : ℤ) (done rest : List Part) → length rest ≡ 0 → behind done (multiplied m rest) ≡ Some done
multiply_end m done [] e = ap (behind done) (multiplied-nil m) ∙ behind-done done
multiply_end m done (x ∷ rest) e = absurd (omega arith)

pub merge_end : (m k : ℤ) (done rest others : List Part) → length rest ≡ 0
    → behind done (merged m rest k others) ≡ behind done (multiplied k others)
merge_end m k done [] others e = ap (behind done) (merged-nil m k others)
merge_end m k done (x ∷ rest) others e = absurd (omega arith)

pub merge_rest : (m k : ℤ) (done rest others : List Part) → length others ≡ 0
    → behind done (merged m rest k others) ≡ behind done (multiplied m rest)
merge_rest m k done rest [] e = ap (behind done) (merged-left m k rest)
merge_rest m k done rest (y ∷ others) e = absurd (omega arith)

-- ---- forms
pub both-some : (parts : Option (List Part)) (constant : Option ℤ) (form : FormData) → both parts constant ≡ Some form
    → (parts ≡ Some form.parts) × (constant ≡ Some form.constant)
both-some None constant form e = absurd (none-some form e)
both-some (Some parts) None form e = absurd (none-some form e)
both-some (Some parts) (Some constant) form e =
    let is : form_data parts constant ≡ form = cc in
    (ap (λ (form : FormData). Some form.parts) is, ap (λ (form : FormData). Some form.constant) is)

pub both-none : (parts : Option (List Part)) (constant : Option ℤ) → parts ≡ None → both parts constant ≡ None
both-none None constant e = refl
both-none (Some parts) constant e = absurd (none-some parts (sym e))

pub both-none_either : (parts : Option (List Part)) (constant : Option ℤ) → constant ≡ None → both parts constant ≡ None
both-none_either None constant e = refl
both-none_either (Some parts) None e = refl
both-none_either (Some parts) (Some constant) e = absurd (none-some constant (sym e))

-- a form is made of its two parts
pub both-made : (parts : Option (List Part)) (constant : Option ℤ) (some : List Part) (number : ℤ) → parts ≡ Some some
    → constant ≡ Some number → both parts constant ≡ Some (form_data some number)
both-made parts constant some number e f = rw (e, f)

-- what follows from the value of an Ok
pub on_ok : {A E : Type 0} → (r : Result A E) (P Q : A → Type 0) → ((a : A) → P a → Q a) → IfOk r P → IfOk r Q
on_ok (Ok a) P Q f h = f a h
on_ok (Err e) P Q f h = h
