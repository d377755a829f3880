-- Under binders that are new, a name stands for one thing at most.
use Rattle.std.specs.Prelude.{◌≡◌, ◌≢◌, ℕ, ◌<◌, List, [], ◌∷◌, ◌++◌, map, slice_get, Contains, Some}
use Rattle.std.specs.List.{AllPairs}
use Rattle.std.specs.Option.{option_map}
use Rattle.std.proofs.Common.{arith, sym, ap, subst, ◌∙◌, inl, inr, append_assoc}
use Rattle.std.proofs.lemmas.List.{append-nil, map-append}
use Rattle.std.proofs.lemmas.List.Elements.{Contains-get_or}
use Rattle.std.proofs.lemmas.List.Quantifiers.{all_pairs_push}
use Rattle.std.proofs.lemmas.Option.{slice_get-map, slice_get_within, get_or_from_slice_get, same_Some}
use Rattle.grind_term_graph.specs.declared.head.Head.TheVariants as heads
use Rattle.grind_schemes.specs.declared.goal.Constant.{Constant}
use Rattle.grind_grammar.specs.Terms.{Bound, Declaration, Sort, Fun, Theorem, Goal, Limit}
use Rattle.grind_signature.specs.Signatures.{Function, SignatureData, function_names}
use Rattle.grind_signature.proofs.NameLists.{Contains-slice_get}
use Rattle.grind_resolution.specs.declared.meaning.BinderKind.{BinderKind}
use Rattle.grind_resolution.specs.declared.meaning.Meaning.TheVariants as meanings
use Rattle.grind_resolution.specs.Scopes.{ScopeData, binder_names, AreDistinct, AreApart, given_data, binder_meaning, Gives}
use Rattle.grind_resolution.specs.Laws.{IsSingle}
use Rattle.grind_theory.specs.States.{State, sort_number, sort_numbers, bound_names, scope_of, Names}
use Rattle.grind_theory.specs.Faults.{AreNewAfter, IsNew}
use Rattle.grind_theory.specs.Theories.{Adds}
use Rattle.grind_theory.proofs.BinderLists.{names_same, fresh-apart}

-- no two of these names are the same
abbrev Differ : List (List ℕ) → Type 0
Differ names = AllPairs (λ a b. a ≢ b) names

-- no two functions have one name
abbrev pub FunctionsDiffer : SignatureData → Type 0
FunctionsDiffer s = Differ (function_names s.functions)

differ_push : (names : List (List ℕ)) (name : List ℕ) → Differ names → ¬ Contains names name → Differ (names ++ name ∷ [])
differ_push names name h new =
    all_pairs_push (λ a b. a ≢ b) names name h (λ k d l e. new (subst (Contains names) e (Contains-get_or names k d l)))

new_differ : (s : SignatureData) (names before : List (List ℕ)) → Differ before → AreNewAfter s before names → Differ (before ++ names)
new_differ s [] before h new = subst Differ (sym (append-nil before)) h
new_differ s (name ∷ names) before h new =
    subst Differ (append_assoc before (name ∷ []) names) (new_differ s names (before ++ name ∷ []) (differ_push before name h new.1) new.2)

-- the name of an item stands at the place of the item
name_at : {X : Type 0} (name : X → List ℕ) (items : List X) (k : ℕ) (x : X) → slice_get items k ≡ Some x → slice_get (map name items) k ≡ Some (name x)
name_at name items k x e = slice_get-map name items k ∙ ap (option_map name) e

not_below : (names : List (List ℕ)) (c d : ℕ) (name : List ℕ) → Differ names → slice_get names c ≡ Some name → slice_get names d ≡ Some name → c < d → ⊥
not_below names c d name h p q l =
    h c d name l (slice_get_within names d name q) (get_or_from_slice_get names c name name p ∙ sym (get_or_from_slice_get names d name name q))

-- a name stands at one place
one_place : (names : List (List ℕ)) (c d : ℕ) (name : List ℕ) → Differ names → slice_get names c ≡ Some name → slice_get names d ≡ Some name → c ≡ d
one_place names c d name h p q =
    let x = not_below names c d name h p q in
    let y = not_below names d c name h q p in
    omega arith

module _ (s : SignatureData) (scope : ScopeData) (functions : FunctionsDiffer s) (binders : AreDistinct scope) (apart : AreApart s scope) where
  binder_at : (c : ℕ) (k : Constant) (name : List ℕ) → slice_get scope.binders c ≡ Some k → k.name ≡ name → slice_get (binder_names scope.binders) c ≡ Some name
  binder_at c k name at named = name_at (λ (x : Constant). x.name) scope.binders c k at ∙ ap Some named

  function_at : (f : ℕ) (g : Function) (name : List ℕ) → slice_get s.functions f ≡ Some g → g.name ≡ name → slice_get (function_names s.functions) f ≡ Some name
  function_at f g name at named = name_at (λ (x : Function). x.name) s.functions f g at ∙ ap Some named

  -- a binder's name is no function's
  not_both : (name : List ℕ) (c f : ℕ) → slice_get (binder_names scope.binders) c ≡ Some name → slice_get (function_names s.functions) f ≡ Some name → ⊥
  not_both name c f p q =
      apart name (Contains-slice_get (binder_names scope.binders) name c p) (inr (inl (Contains-slice_get (function_names s.functions) name f q)))

  one_given : IsSingle (Gives s scope)
  one_given name a b (inl (c, k, at, named, is)) (inl (d, l, bt, lamed, js)) =
      let e : c ≡ d = one_place (binder_names scope.binders) c d name binders (binder_at c k name at named) (binder_at d l name bt lamed) in
      let f : k ≡ l = same_Some _ _ (sym at ∙ ap (slice_get scope.binders) e ∙ bt) in
      is ∙ (λ i. given_data (binder_meaning scope.kind (e i)) [] ((f i).sort)) ∙ sym js
  one_given name a b (inl (c, k, at, named, is)) (inr (d, l, bt, lamed, js)) =
      absurd (not_both name c d (binder_at c k name at named) (function_at d l name bt lamed))
  one_given name a b (inr (d, l, bt, lamed, js)) (inl (c, k, at, named, is)) =
      absurd (not_both name c d (binder_at c k name at named) (function_at d l name bt lamed))
  one_given name a b (inr (c, k, at, named, is)) (inr (d, l, bt, lamed, js)) =
      let e : c ≡ d = one_place (function_names s.functions) c d name functions (function_at c k name at named) (function_at d l name bt lamed) in
      let f : k ≡ l = same_Some _ _ (sym at ∙ ap (slice_get s.functions) e ∙ bt) in
      is ∙ (λ i. given_data (meanings.Headed (heads.Fun (e i))) ((f i).args) ((f i).result)) ∙ sym js

-- new binders leave each name at most one meaning
pub new_single : (kind : BinderKind) (s : SignatureData) (bounds : List Bound) → FunctionsDiffer s → AreNewAfter s [] (bound_names bounds) → IsSingle (Names kind s bounds)
new_single kind s bounds functions new =
    one_given s (scope_of kind s bounds) functions
    (subst Differ (sym (names_same s bounds)) (new_differ s (bound_names bounds) [] (λ i j d l w. absurd (omega arith)) new))
    (fresh-apart kind s bounds new)

same_functions : (s t : SignatureData) → t.functions ≡ s.functions → FunctionsDiffer s → FunctionsDiffer t
same_functions s t e h = subst (λ fs. Differ (function_names fs)) (sym e) h

-- a new declaration leaves the functions names of their own
pub stays_differ : (before after : State) (d : Declaration) → IsNew before d → Adds before d after → FunctionsDiffer before.signature → FunctionsDiffer after.signature
stays_differ before after (Sort n) new p h = same_functions before.signature after.signature (ap (λ (x : State). (x.signature).functions) p) h
stays_differ before after (Fun n ss r) new p h =
    let fs = (before.signature).functions in
    let f : Function = record { name = n; args = sort_numbers before.signature ss; result = sort_number before.signature r } in
    let names : function_names (fs ++ f ∷ []) ≡ function_names fs ++ n ∷ [] = map-append (λ (g : Function). g.name) fs (f ∷ []) in
    subst (λ gs. Differ (function_names gs)) (sym (ap (λ (x : State). (x.signature).functions) p))
    (subst Differ (sym names) (differ_push (function_names fs) n h (λ has. new (inr (inl has)))))
stays_differ before after (Theorem n bs annotations t) new p h = same_functions before.signature after.signature (ap (λ (x : State). (x.signature).functions) p.3) h
stays_differ before after (Goal n bs hs t) new p h = same_functions before.signature after.signature (ap (λ (x : State). (x.signature).functions) p.2) h
stays_differ before after (Limit n v) new p h = same_functions before.signature after.signature (ap (λ (x : State). (x.signature).functions) p.4) h
