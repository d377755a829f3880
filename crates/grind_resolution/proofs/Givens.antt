-- A look-up of a name finds what the name stands for, and nothing else.
use Rattle.std.specs.Prelude.{◌≡◌, ◌≢◌, ℕ, ◌<◌, List, [], length, slice_get, position, Contains, Option, Some, None, refl}
use Rattle.std.specs.List.{AllPairs}
use Rattle.std.specs.Option.{option_map}
use Rattle.std.specs.Str.{bytes_eq}
use Rattle.std.proofs.Common.{arith, sym, ap, ◌∙◌, inl, inr, get_or}
use Rattle.std.proofs.lemmas.List.{length-map}
use Rattle.std.proofs.lemmas.Option.{slice_get-map, slice_get-get_or, slice_get_within, get_or_from_slice_get, same_Some}
use Rattle.grind_term_graph.specs.declared.head.Head.TheVariants as heads
use Rattle.grind_schemes.specs.declared.goal.Constant.{Constant}
use Rattle.grind_signature.specs.Signatures.{Function, SignatureData, function_names, IsHeld, IsSignature}
use Rattle.grind_signature.proofs.NameLists.{slice_get-position, Contains-slice_get, absent-position}
use Rattle.grind_resolution.specs.declared.meaning.Meaning.{Meaning}
use Rattle.grind_resolution.specs.declared.meaning.Meaning.TheVariants as meanings
use Rattle.grind_resolution.specs.Scopes.{ScopeData, binder_names, AreDistinct, AreApart, Given, given_data, binder_meaning, Gives, IsOnly, IsUnknown}

-- the name at the place of a binder, and of a function
binder_name : (binders : List Constant) (c : ℕ) (k : Constant) → slice_get binders c ≡ Some k → slice_get (binder_names binders) c ≡ Some k.name
binder_name binders c k e = slice_get-map (λ (k : Constant). k.name) binders c ∙ ap (option_map (λ (k : Constant). k.name)) e

function_name : (functions : List Function) (f : ℕ) (g : Function) → slice_get functions f ≡ Some g → slice_get (function_names functions) f ≡ Some g.name
function_name functions f g e = slice_get-map (λ (g : Function). g.name) functions f ∙ ap (option_map (λ (g : Function). g.name)) e

not_below : (names : List (List ℕ)) (c d : ℕ) (name : List ℕ) → AllPairs (λ a b. a ≢ b) names → slice_get names c ≡ Some name → slice_get names d ≡ Some name → c < d → ⊥
not_below names c d name h p q l =
    h c d name l (slice_get_within names d name q) (get_or_from_slice_get names c name name p ∙ sym (get_or_from_slice_get names d name name q))

-- a name stands at one place
place_unique : (names : List (List ℕ)) (c d : ℕ) (name : List ℕ) → AllPairs (λ a b. a ≢ b) names → slice_get names c ≡ Some name → slice_get names d ≡ Some name → c ≡ d
place_unique names c d name h p q =
    let x = not_below names c d name h p q in
    let y = not_below names d c name h q p in
    omega arith

-- the place of a name is within the list
pub place_within : (names : List (List ℕ)) (name : List ℕ) (n : ℕ) → position (bytes_eq name) names ≡ Some n → n < length names
place_within names name n e = slice_get_within names n name (slice_get-position names name n e)

pub binder_within : (binders : List Constant) (name : List ℕ) (n : ℕ) → position (bytes_eq name) (binder_names binders) ≡ Some n → n < length binders
binder_within binders name n e =
    let w = place_within (binder_names binders) name n e in
    let l = length-map binders (λ (k : Constant). k.name) in
    omega arith

pub function_within : (functions : List Function) (name : List ℕ) (n : ℕ) → position (bytes_eq name) (function_names functions) ≡ Some n → n < length functions
function_within functions name n e =
    let w = place_within (function_names functions) name n e in
    let l = length-map functions (λ (k : Function). k.name) in
    omega arith

binder_at : (binders : List Constant) (name : List ℕ) (c : ℕ) → position (bytes_eq name) (binder_names binders) ≡ Some c
    → (k : Constant) × (slice_get binders c ≡ Some k)
binder_at binders name c e =
    let w = binder_within binders name c e in
    let d : Constant = record { name = []; sort = 0 } in
    (get_or binders c d, slice_get-get_or binders c d w)

function_at : (functions : List Function) (name : List ℕ) (f : ℕ) → position (bytes_eq name) (function_names functions) ≡ Some f
    → (g : Function) × (slice_get functions f ≡ Some g)
function_at functions name f e =
    let w = function_within functions name f e in
    let d : Function = record { name = []; args = []; result = 0 } in
    (get_or functions f d, slice_get-get_or functions f d w)

module _ (s : SignatureData) (scope : ScopeData) (keeps : IsSignature s) (distinct : AreDistinct scope) (apart : AreApart s scope) where
  -- a name that is a binder's is no function's
  not_both : (name : List ℕ) (c f : ℕ) → slice_get (binder_names scope.binders) c ≡ Some name → slice_get (function_names s.functions) f ≡ Some name → ⊥
  not_both name c f p q =
      apart name (Contains-slice_get (binder_names scope.binders) name c p) (inr (inl (Contains-slice_get (function_names s.functions) name f q)))

  -- a name stands for one thing at most
  pub gives-unique : (name : List ℕ) (a b : Given) → Gives s scope name a → Gives s scope name b → b ≡ a
  gives-unique name a b (inl (c, k, at, named, is)) (inl (d, l, bt, lamed, js)) =
      let p = binder_name scope.binders c k at ∙ ap Some named in
      let q = binder_name scope.binders d l bt ∙ ap Some lamed in
      let e : c ≡ d = place_unique (binder_names scope.binders) c d name distinct p q in
      let f : k ≡ l = same_Some _ _ (sym at ∙ ap (slice_get scope.binders) e ∙ bt) in
      js ∙ (λ i. given_data (binder_meaning scope.kind (sym e i)) [] ((sym f i).sort)) ∙ sym is
  gives-unique name a b (inl (c, k, at, named, is)) (inr (d, l, bt, lamed, js)) =
      absurd (not_both name c d (binder_name scope.binders c k at ∙ ap Some named) (function_name s.functions d l bt ∙ ap Some lamed))
  gives-unique name a b (inr (d, l, bt, lamed, js)) (inl (c, k, at, named, is)) =
      absurd (not_both name c d (binder_name scope.binders c k at ∙ ap Some named) (function_name s.functions d l bt ∙ ap Some lamed))
  gives-unique name a b (inr (c, k, at, named, is)) (inr (d, l, bt, lamed, js)) =
      let p = function_name s.functions c k at ∙ ap Some named in
      let q = function_name s.functions d l bt ∙ ap Some lamed in
      let e : c ≡ d = place_unique (function_names s.functions) c d name keeps.functions_differ p q in
      let f : k ≡ l = same_Some _ _ (sym at ∙ ap (slice_get s.functions) e ∙ bt) in
      js ∙ (λ i. given_data (meanings.Headed (heads.Fun (sym e i))) ((sym f i).args) ((sym f i).result)) ∙ sym is

  -- what the binder of a place stands for is all that its name stands for
  pub only_binder : (name : List ℕ) (i : ℕ) (meaning : Meaning) (args : List ℕ) (sort : ℕ) → position (bytes_eq name) (binder_names scope.binders) ≡ Some i
      → meaning ≡ binder_meaning scope.kind i → args ≡ [] → ((b : Constant) → slice_get scope.binders i ≡ Some b → sort ≡ b.sort)
      → IsOnly (Gives s scope) name (given_data meaning args sort)
  only_binder name i meaning args sort e m n is =
      let k = binder_at scope.binders name i e in
      let at = binder_name scope.binders i k.0 k.1 in
      let named = same_Some _ _ (sym at ∙ slice_get-position (binder_names scope.binders) name i e) in
      let same : given_data meaning args sort ≡ given_data (binder_meaning scope.kind i) [] (k.0).sort = λ j. given_data (m j) (n j) (is k.0 k.1 j) in
      let gives : Gives s scope name (given_data meaning args sort) = inl (i, k.0, k.1, named, same) in
      (gives, λ other h. gives-unique name (given_data meaning args sort) other gives h)

  -- and so it is for a function
  pub only_function : (name : List ℕ) (f : ℕ) (meaning : Meaning) (args : List ℕ) (sort : ℕ) → position (bytes_eq name) (function_names s.functions) ≡ Some f
      → meaning ≡ meanings.Headed (heads.Fun f) → ((g : Function) → slice_get s.functions f ≡ Some g → args ≡ g.args)
      → ((g : Function) → slice_get s.functions f ≡ Some g → sort ≡ g.result) → IsOnly (Gives s scope) name (given_data meaning args sort)
  only_function name f meaning args sort e m n is =
      let k = function_at s.functions name f e in
      let at = function_name s.functions f k.0 k.1 in
      let named = same_Some _ _ (sym at ∙ slice_get-position (function_names s.functions) name f e) in
      let same : given_data meaning args sort ≡ given_data (meanings.Headed (heads.Fun f)) (k.0).args (k.0).result = λ j. given_data (m j) (n k.0 k.1 j) (is k.0 k.1 j) in
      let gives : Gives s scope name (given_data meaning args sort) = inr (f, k.0, k.1, named, same) in
      (gives, λ other h. gives-unique name (given_data meaning args sort) other gives h)

-- a name without a place stands for nothing
pub none_given : (s : SignatureData) (scope : ScopeData) (name : List ℕ) → position (bytes_eq name) (binder_names scope.binders) ≡ None
    → position (bytes_eq name) (function_names s.functions) ≡ None → IsUnknown (Gives s scope) name
none_given s scope name p q given (inl (c, k, at, named, is)) =
    absent-position (binder_names scope.binders) name p (Contains-slice_get (binder_names scope.binders) name c (binder_name scope.binders c k at ∙ ap Some named))
none_given s scope name p q given (inr (c, k, at, named, is)) =
    absent-position (function_names s.functions) name q (Contains-slice_get (function_names s.functions) name c (function_name s.functions c k at ∙ ap Some named))
