-- The scheme of a term of a sort is well formed, and has that sort.
use Rattle.std.specs.Prelude.{◌≡◌, ℕ, ◌<◌, ◌≤◌, List, [], ◌∷◌, Option, Some, All, length, map, slice_get, refl}
use Rattle.std.specs.Option.{option_map}
use Rattle.std.proofs.Common.{arith, sym, ap, subst, ◌∙◌, inl, inr}
use Rattle.std.proofs.lemmas.List.{length-map}
use Rattle.std.proofs.lemmas.List.Elements.{All-nil, All-cons}
use Rattle.std.proofs.lemmas.Option.{slice_get-map, slice_get_within, get_or_from_slice_get}
use Rattle.grind_term_graph.specs.declared.head.Head.{Head}
use Rattle.grind_term_graph.specs.declared.head.Head.TheVariants as heads
use Rattle.grind_term_graph.specs.Terms.{prop, int}
use Rattle.grind_term_graph.specs.Shape.{IsShaped}
use Rattle.grind_schemes.specs.declared.goal.Constant.{Constant}
use Rattle.grind_schemes.specs.declared.scheme.Scheme.{Scheme, Var, Apply}
use Rattle.grind_schemes.specs.Schemes.{scheme_sort, IsScheme}
use Rattle.grind_schemes.proofs.SchemeLemmas.{IsScheme-Apply}
use Rattle.grind_grammar.specs.declared.syntax.Unary.{Unary}
use Rattle.grind_grammar.specs.declared.syntax.Unary.TheVariants as unaries
use Rattle.grind_grammar.specs.declared.syntax.Binary.{Binary}
use Rattle.grind_grammar.specs.declared.syntax.Binary.TheVariants as binaries
use Rattle.grind_grammar.specs.Terms as terms
use Rattle.grind_grammar.specs.Terms.{Term, Row, none, more}
use Rattle.grind_signature.specs.Signatures.{Function, SignatureData, IsSignature}
use Rattle.grind_resolution.specs.declared.meaning.BinderKind.{BinderKind}
use Rattle.grind_resolution.specs.declared.meaning.BinderKind.TheVariants as kinds
use Rattle.grind_resolution.specs.Scopes.{ScopeData, binder_sorts, sorts_of_variables, variable_sorts, Given, binder_meaning, Gives}
use Rattle.grind_resolution.specs.Sorting.{TakesSides, unary_sort, binary_sort, HasSort, HaveSorts}
use Rattle.grind_resolution.specs.Resolved.{IsMade, IsMeant, IsUnary, IsBinary, StandsFor, StandForRow}
use Rattle.grind_resolution.specs.Laws.{IsSingle}

-- well formed over these variables, and of this sort
abbrev IsFormed : List ℕ → ℕ → Scheme → Type 0
IsFormed vars sort scheme = IsScheme vars scheme × (scheme_sort vars scheme ≡ Some sort)

module _ (vars : List ℕ) where
  -- a head at parts of the sorts that it asks for
  made_formed : (head : Head) (sort : ℕ) (parts : List Scheme) (scheme : Scheme) → IsMade head sort parts scheme
      → IsShaped head sort (map (scheme_sort vars) parts) → All (IsScheme vars) parts → IsFormed vars sort scheme
  made_formed head sort parts scheme h shaped formed =
      let e = sym h.1 in
      let whole = (IsScheme-Apply vars head sort h.0).1
      (subst (λ ps. IsShaped head sort (map (scheme_sort vars) ps)) e shaped, subst (All (IsScheme vars)) e formed) in
      (subst (IsScheme vars) (sym h.2) whole, ap (scheme_sort vars) h.2)

  one_formed : (head : Head) (sort own : ℕ) (x scheme : Scheme) → IsMade head sort (x ∷ []) scheme → IsShaped head sort (Some own ∷ [])
      → IsFormed vars own x → IsFormed vars sort scheme
  one_formed head sort own x scheme h shaped f =
      made_formed head sort (x ∷ []) scheme h (subst (λ o. IsShaped head sort (o ∷ [])) (sym f.1) shaped)
      (All-cons (IsScheme vars) x [] f.0 (All-nil (IsScheme vars)))

  two_formed : (head : Head) (sort side : ℕ) (l r scheme : Scheme) → IsMade head sort (l ∷ r ∷ []) scheme → IsShaped head sort (Some side ∷ Some side ∷ [])
      → IsFormed vars side l → IsFormed vars side r → IsFormed vars sort scheme
  two_formed head sort side l r scheme h shaped f g =
      made_formed head sort (l ∷ r ∷ []) scheme h
      (subst (λ o. IsShaped head sort (o ∷ scheme_sort vars r ∷ [])) (sym f.1) (subst (λ o. IsShaped head sort (Some side ∷ o ∷ [])) (sym g.1) shaped))
      (All-cons (IsScheme vars) l (r ∷ []) f.0 (All-cons (IsScheme vars) r [] g.0 (All-nil (IsScheme vars))))

  unary_formed : (op : Unary) (x scheme : Scheme) → IsUnary op x scheme → IsFormed vars (unary_sort op) x → IsFormed vars (unary_sort op) scheme
  unary_formed unaries.Not x scheme h f = one_formed heads.Not prop prop x scheme h (refl, refl) f
  unary_formed unaries.Neg x scheme h f = one_formed heads.Neg int int x scheme h (refl, refl) f

  both : (side own : ℕ) → side ≡ own → Some side ∷ Some side ∷ [] ≡ Some own ∷ Some own ∷ []
  both side own e = ap (λ s. Some s ∷ Some s ∷ []) e

  binary_formed : (op : Binary) (side : ℕ) (l r scheme : Scheme) → IsBinary op l r scheme → TakesSides op side → IsFormed vars side l → IsFormed vars side r
      → IsFormed vars (binary_sort op) scheme
  binary_formed binaries.Iff side l r scheme h t f g = two_formed heads.Eq prop side l r scheme h (refl, refl) f g
  binary_formed binaries.Implies side l r scheme h t f g = two_formed heads.Implies prop side l r scheme h (refl, both side prop t) f g
  binary_formed binaries.Or side l r scheme h t f g = two_formed heads.Or prop side l r scheme h (refl, both side prop t) f g
  binary_formed binaries.And side l r scheme h t f g = two_formed heads.And prop side l r scheme h (refl, both side prop t) f g
  binary_formed binaries.Eq side l r scheme h t f g = two_formed heads.Eq prop side l r scheme h (refl, refl) f g
  binary_formed binaries.Ne side l r scheme h t f g =
      one_formed heads.Not prop prop h.0 scheme h.2 (refl, refl) (two_formed heads.Eq prop side l r h.0 h.1 (refl, refl) f g)
  binary_formed binaries.Lt side l r scheme h t f g =
      one_formed heads.Not prop prop h.0 scheme h.2 (refl, refl) (two_formed heads.Le prop side r l h.0 h.1 (refl, both side int t) g f)
  binary_formed binaries.Le side l r scheme h t f g = two_formed heads.Le prop side l r scheme h (refl, both side int t) f g
  binary_formed binaries.Gt side l r scheme h t f g =
      one_formed heads.Not prop prop h.0 scheme h.2 (refl, refl) (two_formed heads.Le prop side l r h.0 h.1 (refl, both side int t) f g)
  binary_formed binaries.Ge side l r scheme h t f g = two_formed heads.Le prop side r l scheme h (refl, both side int t) g f
  binary_formed binaries.Add side l r scheme h t f g = two_formed heads.Add int side l r scheme h (refl, both side int t) f g
  binary_formed binaries.Sub side l r scheme h t f g =
      let turned = one_formed heads.Neg int int r h.0 h.1 (refl, refl) (subst (λ own. IsFormed vars own r) t g) in
      two_formed heads.Add int int l h.0 scheme h.2 (refl, refl) (subst (λ own. IsFormed vars own l) t f) turned
  binary_formed binaries.Mul side l r scheme h t f g = two_formed heads.Mul int side l r scheme h (refl, both side int t) f g

-- the name of a binder
binder_formed : (kind : BinderKind) (binders : List Constant) (i : ℕ) (b : Constant) (parts : List Scheme) (scheme : Scheme) → slice_get binders i ≡ Some b
    → IsMeant (binder_meaning kind i) b.sort parts scheme → All (IsScheme (sorts_of_variables kind binders)) parts
    → map (scheme_sort (sorts_of_variables kind binders)) parts ≡ [] → IsFormed (sorts_of_variables kind binders) b.sort scheme
binder_formed kinds.Constant binders i b parts scheme at h formed empty = made_formed [] (heads.Const i) b.sort parts scheme h empty formed
binder_formed kinds.Variable binders i b parts scheme at h formed empty =
    let w = slice_get_within binders i b at in
    let l = length-map binders (λ (k : Constant). k.sort) in
    let here : slice_get (binder_sorts binders) i ≡ Some b.sort = slice_get-map (λ (k : Constant). k.sort) binders i ∙ ap (option_map (λ (k : Constant). k.sort)) at in
    let within : i < length (binder_sorts binders) = omega arith in
    subst (IsFormed (binder_sorts binders) b.sort) (sym h.1) (within, here)

module _ (s : SignatureData) (scope : ScopeData) (keeps : IsSignature s) (single : IsSingle (Gives s scope)) where
  -- a function takes at most 16 arguments
  few_args : (f : ℕ) (g : Function) → slice_get s.functions f ≡ Some g → length g.args ≤ 16
  few_args f g at =
      let w = slice_get_within s.functions f g at in
      let over = (keeps.arities f g w).few in
      subst (λ (x : Function). length x.args ≤ 16) (get_or_from_slice_get s.functions f g g at) over

  name_formed : (name : List ℕ) (given : Given) (parts : List Scheme) (scheme : Scheme) → Gives s scope name given → IsMeant given.meaning given.sort parts scheme
      → All (IsScheme (variable_sorts scope)) parts → map (scheme_sort (variable_sorts scope)) parts ≡ map Some given.args
      → IsFormed (variable_sorts scope) given.sort scheme
  name_formed name given parts scheme (inl (i, b, at, named, is)) h formed sorts =
      subst (λ own. IsFormed (variable_sorts scope) own scheme) (sym (ap (λ (g : Given). g.sort) is))
      (binder_formed scope.kind scope.binders i b parts scheme at (subst (λ (g : Given). IsMeant g.meaning g.sort parts scheme) is h) formed
      (sorts ∙ ap (λ (g : Given). map Some g.args) is))
  name_formed name given parts scheme (inr (f, g, at, named, is)) h formed sorts =
      let few = few_args f g at in
      let many : length (map (scheme_sort (variable_sorts scope)) parts) ≡ length g.args =
      ap length (sorts ∙ ap (λ (x : Given). map Some x.args) is) ∙ length-map g.args Some in
      subst (λ own. IsFormed (variable_sorts scope) own scheme) (sym (ap (λ (x : Given). x.sort) is))
      (made_formed (variable_sorts scope) (heads.Fun f) g.result parts scheme (subst (λ (x : Given). IsMeant x.meaning x.sort parts scheme) is h)
      (omega arith) formed)

  mutual
    pub scheme_formed : (t : Term) (sort : ℕ) (scheme : Scheme) → HasSort (Gives s scope) t sort → StandsFor (Gives s scope) t scheme
        → IsFormed (variable_sorts scope) sort scheme
    scheme_formed terms.True sort scheme h k =
        subst (λ own. IsFormed (variable_sorts scope) own scheme) (sym h)
        (made_formed (variable_sorts scope) heads.True prop [] scheme k (refl, refl) (All-nil (IsScheme (variable_sorts scope))))
    scheme_formed terms.False sort scheme h k =
        subst (λ own. IsFormed (variable_sorts scope) own scheme) (sym h)
        (made_formed (variable_sorts scope) heads.False prop [] scheme k (refl, refl) (All-nil (IsScheme (variable_sorts scope))))
    scheme_formed (terms.Number value) sort scheme h k =
        subst (λ own. IsFormed (variable_sorts scope) own scheme) (sym h)
        (made_formed (variable_sorts scope) (heads.Int value) int [] scheme k (refl, refl) (All-nil (IsScheme (variable_sorts scope))))
    scheme_formed (terms.Apply name row) sort scheme h k =
        let same = single name k.0 h.0 k.2 h.1 in
        let parts = row_formed row (h.0).args k.1 h.2 k.3 in
        subst (λ own. IsFormed (variable_sorts scope) own scheme) (sym h.3)
        (name_formed name h.0 k.1 scheme h.1 (subst (λ (g : Given). IsMeant g.meaning g.sort k.1 scheme) same k.4) parts.0 parts.1)
    scheme_formed (terms.One op a) sort scheme h k =
        subst (λ own. IsFormed (variable_sorts scope) own scheme) (sym h.1)
        (unary_formed (variable_sorts scope) op k.0 scheme k.2 (scheme_formed a (unary_sort op) k.0 h.0 k.1))
    scheme_formed (terms.Two op a b) sort scheme h k =
        subst (λ own. IsFormed (variable_sorts scope) own scheme) (sym h.4)
        (binary_formed (variable_sorts scope) op h.0 k.0 k.1 scheme k.4 h.3 (scheme_formed a h.0 k.0 h.1 k.2) (scheme_formed b h.0 k.1 h.2 k.3))

    pub row_formed : (row : Row) (sorts : List ℕ) (parts : List Scheme) → HaveSorts (Gives s scope) row sorts → StandForRow (Gives s scope) row parts
        → All (IsScheme (variable_sorts scope)) parts × (map (scheme_sort (variable_sorts scope)) parts ≡ map Some sorts)
    row_formed none [] [] h k = (All-nil (IsScheme (variable_sorts scope)), refl)
    row_formed none [] (x ∷ xs) h k = absurd k
    row_formed none (sort ∷ sorts) xs h k = absurd h
    row_formed (more t row) [] xs h k = absurd h
    row_formed (more t row) (sort ∷ sorts) [] h k = absurd k
    row_formed (more t row) (sort ∷ sorts) (x ∷ xs) h k =
        let first = scheme_formed t sort x h.0 k.0 in
        let rest = row_formed row sorts xs h.1 k.1 in
        (All-cons (IsScheme (variable_sorts scope)) x xs first.0 rest.0, (λ i. first.1 i ∷ rest.1 i))
