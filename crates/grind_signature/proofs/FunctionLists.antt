-- Functions as the lists of their names and arities.
use Rattle.std.specs.Prelude.{◌≡◌, ℕ, zero, suc, List, [], ◌∷◌, ◌++◌, Some, length, slice_get, refl}
use Rattle.std.proofs.Common.{arith, sym, ap, ◌∙◌}
use Rattle.grind_signature.specs.declared.fun_table.Arity.{Arity}
use Rattle.grind_signature.specs.Signatures.{Function, function_names}
use Rattle.grind_signature.specs.Functions.{functions_of}

-- a function of this name and these sorts
abbrev pub the_function : List ℕ → Arity → Function
the_function name a = record { name = name; args = a.args; result = a.result }

pub function_names-of : (names : List (List ℕ)) (arities : List Arity) → length names ≡ length arities → function_names (functions_of names arities) ≡ names
function_names-of [] arities e = refl
function_names-of (name ∷ names) [] e = absurd (omega arith)
function_names-of (name ∷ names) (a ∷ arities) e = ap (λ rest. name ∷ rest) (function_names-of names arities (omega arith))

pub length-functions_of : (names : List (List ℕ)) (arities : List Arity) → length names ≡ length arities → length (functions_of names arities) ≡ length names
length-functions_of [] arities e = refl
length-functions_of (name ∷ names) [] e = absurd (omega arith)
length-functions_of (name ∷ names) (a ∷ arities) e = ap suc (length-functions_of names arities (omega arith))

pub functions_of-push : (names : List (List ℕ)) (arities : List Arity) (name : List ℕ) (a : Arity) → length names ≡ length arities
    → functions_of (names ++ name ∷ []) (arities ++ a ∷ []) ≡ functions_of names arities ++ the_function name a ∷ []
functions_of-push [] [] name a e = refl
functions_of-push [] (b ∷ arities) name a e = absurd (omega arith)
functions_of-push (n ∷ names) [] name a e = absurd (omega arith)
functions_of-push (n ∷ names) (b ∷ arities) name a e = ap (λ rest. the_function n b ∷ rest) (functions_of-push names arities name a (omega arith))

-- a function's name stands at its place
pub name-functions_of : (names : List (List ℕ)) (arities : List Arity) (i : ℕ) (f : Function) → slice_get (functions_of names arities) i ≡ Some f
    → slice_get names i ≡ Some f.name
name-functions_of [] arities i f e = absurd cc
name-functions_of (name ∷ names) [] i f e = absurd cc
name-functions_of (name ∷ names) (a ∷ arities) zero f e = let p : the_function name a ≡ f = cc in ap (λ g. Some g.name) p
name-functions_of (name ∷ names) (a ∷ arities) (suc i) f e = name-functions_of names arities i f e

-- and so do its sorts
pub arity-functions_of : (names : List (List ℕ)) (arities : List Arity) (i : ℕ) (f : Function) (a : Arity) → slice_get (functions_of names arities) i ≡ Some f
    → slice_get arities i ≡ Some a → (a.args ≡ f.args) × (a.result ≡ f.result)
arity-functions_of [] arities i f a e g = absurd cc
arity-functions_of (name ∷ names) [] i f a e g = absurd cc
arity-functions_of (name ∷ names) (b ∷ arities) zero f a e g =
    let p : the_function name b ≡ f = cc in
    let q : b ≡ a = cc in
    (ap (λ (x : Arity). x.args) (sym q) ∙ ap (λ (x : Function). x.args) p, ap (λ (x : Arity). x.result) (sym q) ∙ ap (λ (x : Function). x.result) p)
arity-functions_of (name ∷ names) (b ∷ arities) (suc i) f a e g = arity-functions_of names arities i f a e g

-- functions with one more name and arity are the functions with one more
pub functions_pushed : (names more : List (List ℕ)) (arities longer : List Arity) (functions : List Function) (name : List ℕ) (a : Arity)
    → functions_of names arities ≡ functions → length names ≡ length arities → more ≡ names ++ name ∷ [] → longer ≡ arities ++ a ∷ []
    → functions_of more longer ≡ functions ++ the_function name a ∷ []
functions_pushed names more arities longer functions name a e l p q =
    (λ i. functions_of (p i) (q i)) ∙ functions_of-push names arities name a l ∙ ap (λ fs. fs ++ the_function name a ∷ []) e
