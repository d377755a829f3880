-- The constants and functions in the scheme of a term of a sort are declared.
use Rattle.std.specs.Prelude.{◌≡◌, ℕ, List, [], ◌∷◌, Option, Some, All, Vec, map, slice_get, refl}
use Rattle.std.specs.Global.{Global}
use Rattle.std.proofs.Common.{sym, ap, subst, ◌∙◌, inl, inr}
use Rattle.std.proofs.lemmas.List.Elements.{All-nil, All-cons, All-head, All-tail}
use mathlib.Core.Former.{Count}
use Rattle.grind_term_graph.specs.declared.head.Head.{Head}
use Rattle.grind_term_graph.specs.declared.head.Head.TheVariants as heads
use Rattle.grind_term_graph.specs.Terms.{prop, int}
use Rattle.grind_schemes.specs.declared.goal.Constant.{Constant}
use Rattle.grind_schemes.specs.declared.scheme.Scheme.{Scheme, Apply, Apply', Row_of-Scheme, end_of-Scheme, more_of-Scheme, items-the_row-Scheme, items_hidden-the_row-Scheme-0}
use Rattle.grind_schemes.specs.Schemes.{scheme_sort, row_sorts}
use Rattle.grind_grammar.specs.declared.syntax.Unary.{Unary}
use Rattle.grind_grammar.specs.declared.syntax.Unary.TheVariants as unaries
use Rattle.grind_grammar.specs.declared.syntax.Binary.{Binary}
use Rattle.grind_grammar.specs.declared.syntax.Binary.TheVariants as binaries
use Rattle.grind_grammar.specs.Terms as terms
use Rattle.grind_grammar.specs.Terms.{Term, Row, none, more}
use Rattle.grind_signature.specs.Signatures.{SignatureData, IsSignature}
use Rattle.grind_resolution.specs.declared.meaning.BinderKind.{BinderKind}
use Rattle.grind_resolution.specs.declared.meaning.BinderKind.TheVariants as kinds
use Rattle.grind_resolution.specs.Scopes.{ScopeData, scope_data, variable_sorts, Given, binder_meaning, Gives}
use Rattle.grind_resolution.specs.Sorting.{unary_sort, HasSort, HaveSorts}
use Rattle.grind_resolution.specs.Resolved.{IsMade, IsMeant, IsUnary, IsBinary, StandsFor, StandForRow}
use Rattle.grind_resolution.specs.DeclaredSchemes.{IsDeclaredHead, IsDeclaredScheme, AreDeclaredSchemes}
use Rattle.grind_resolution.specs.Laws.{IsSingle}
use Rattle.grind_resolution.proofs.FormedSchemes.{row_formed}

-- the arguments of a scheme
abbrev row_of : Scheme → (n : Count) × Row_of-Scheme n
row_of (Apply' head sort shape args) = (_, args)
row_of _ = (_, end_of-Scheme)

module _ (s : SignatureData) (scope : ScopeData) where
  sorts_of_row : (n : _) (row : Row_of-Scheme n) → row_sorts (variable_sorts scope) row ≡ map (scheme_sort (variable_sorts scope)) (items-the_row-Scheme n row)
  sorts_of_row n end_of-Scheme = refl
  sorts_of_row n (more_of-Scheme first rest) = ap (λ sorts. scheme_sort (variable_sorts scope) first ∷ sorts) (sorts_of_row _ rest)

  to_row : (n : _) (row : Row_of-Scheme n) → All (IsDeclaredScheme s scope) (items-the_row-Scheme n row) → AreDeclaredSchemes s scope row
  to_row n end_of-Scheme h = tt
  to_row n (more_of-Scheme first rest) h =
      (All-head (IsDeclaredScheme s scope) first _ h, to_row _ rest (All-tail (IsDeclaredScheme s scope) first _ h))

  applied_declared : (head : Head) (sort : ℕ) (args : Vec Scheme Global)
      → IsDeclaredHead s scope head sort (map (scheme_sort (variable_sorts scope)) args.items) → All (IsDeclaredScheme s scope) args.items
      → IsDeclaredScheme s scope (Apply head sort args)
  applied_declared head sort args h all =
      let row = row_of (Apply head sort args) in
      let same = items_hidden-the_row-Scheme-0 args in
      let sorts = sorts_of_row row.0 row.1 ∙ ap (map (scheme_sort (variable_sorts scope))) same in
      (subst (IsDeclaredHead s scope head sort) (sym sorts) h, to_row row.0 row.1 (subst (All (IsDeclaredScheme s scope)) (sym same) all))

  -- a head at its parts
  made_declared : (head : Head) (sort : ℕ) (parts : List Scheme) (scheme : Scheme) → IsMade head sort parts scheme
      → IsDeclaredHead s scope head sort (map (scheme_sort (variable_sorts scope)) parts) → All (IsDeclaredScheme s scope) parts → IsDeclaredScheme s scope scheme
  made_declared head sort parts scheme h own all =
      let e = sym h.1 in
      subst (IsDeclaredScheme s scope) (sym h.2)
      (applied_declared head sort h.0 (subst (λ ps. IsDeclaredHead s scope head sort (map (scheme_sort (variable_sorts scope)) ps)) e own)
      (subst (All (IsDeclaredScheme s scope)) e all))

  one_declared : (head : Head) (sort : ℕ) (x scheme : Scheme) → IsMade head sort (x ∷ []) scheme
      → IsDeclaredHead s scope head sort (scheme_sort (variable_sorts scope) x ∷ []) → IsDeclaredScheme s scope x → IsDeclaredScheme s scope scheme
  one_declared head sort x scheme h own f =
      made_declared head sort (x ∷ []) scheme h own (All-cons (IsDeclaredScheme s scope) x [] f (All-nil (IsDeclaredScheme s scope)))

  two_declared : (head : Head) (sort : ℕ) (l r scheme : Scheme) → IsMade head sort (l ∷ r ∷ []) scheme
      → IsDeclaredHead s scope head sort (scheme_sort (variable_sorts scope) l ∷ scheme_sort (variable_sorts scope) r ∷ [])
      → IsDeclaredScheme s scope l → IsDeclaredScheme s scope r → IsDeclaredScheme s scope scheme
  two_declared head sort l r scheme h own f g =
      made_declared head sort (l ∷ r ∷ []) scheme h own
      (All-cons (IsDeclaredScheme s scope) l (r ∷ []) f (All-cons (IsDeclaredScheme s scope) r [] g (All-nil (IsDeclaredScheme s scope))))

  unary_declared : (op : Unary) (x scheme : Scheme) → IsUnary op x scheme → IsDeclaredScheme s scope x → IsDeclaredScheme s scope scheme
  unary_declared unaries.Not x scheme h f = one_declared heads.Not prop x scheme h tt f
  unary_declared unaries.Neg x scheme h f = one_declared heads.Neg int x scheme h tt f

  binary_declared : (op : Binary) (l r scheme : Scheme) → IsBinary op l r scheme → IsDeclaredScheme s scope l → IsDeclaredScheme s scope r
      → IsDeclaredScheme s scope scheme
  binary_declared binaries.Iff l r scheme h f g = two_declared heads.Eq prop l r scheme h tt f g
  binary_declared binaries.Implies l r scheme h f g = two_declared heads.Implies prop l r scheme h tt f g
  binary_declared binaries.Or l r scheme h f g = two_declared heads.Or prop l r scheme h tt f g
  binary_declared binaries.And l r scheme h f g = two_declared heads.And prop l r scheme h tt f g
  binary_declared binaries.Eq l r scheme h f g = two_declared heads.Eq prop l r scheme h tt f g
  binary_declared binaries.Ne l r scheme h f g = one_declared heads.Not prop h.0 scheme h.2 tt (two_declared heads.Eq prop l r h.0 h.1 tt f g)
  binary_declared binaries.Lt l r scheme h f g = one_declared heads.Not prop h.0 scheme h.2 tt (two_declared heads.Le prop r l h.0 h.1 tt g f)
  binary_declared binaries.Le l r scheme h f g = two_declared heads.Le prop l r scheme h tt f g
  binary_declared binaries.Gt l r scheme h f g = one_declared heads.Not prop h.0 scheme h.2 tt (two_declared heads.Le prop l r h.0 h.1 tt f g)
  binary_declared binaries.Ge l r scheme h f g = two_declared heads.Le prop r l scheme h tt g f
  binary_declared binaries.Add l r scheme h f g = two_declared heads.Add int l r scheme h tt f g
  binary_declared binaries.Sub l r scheme h f g = two_declared heads.Add int l h.0 scheme h.2 tt f (one_declared heads.Neg int r h.0 h.1 tt g)
  binary_declared binaries.Mul l r scheme h f g = two_declared heads.Mul int l r scheme h tt f g

-- the name of a binder
binder_declared : (s : SignatureData) (kind : BinderKind) (binders : List Constant) (i : ℕ) (b : Constant) (parts : List Scheme) (scheme : Scheme)
    → slice_get binders i ≡ Some b → IsMeant (binder_meaning kind i) b.sort parts scheme → All (IsDeclaredScheme s (scope_data kind binders)) parts
    → IsDeclaredScheme s (scope_data kind binders) scheme
binder_declared s kinds.Constant binders i b parts scheme at h all =
    made_declared s (scope_data kinds.Constant binders) (heads.Const i) b.sort parts scheme h (b, refl, at, refl) all
binder_declared s kinds.Variable binders i b parts scheme at h all =
    subst (IsDeclaredScheme s (scope_data kinds.Variable binders)) (sym h.1) tt

module _ (s : SignatureData) (scope : ScopeData) (keeps : IsSignature s) (single : IsSingle (Gives s scope)) where
  name_declared : (name : List ℕ) (given : Given) (parts : List Scheme) (scheme : Scheme) → Gives s scope name given → IsMeant given.meaning given.sort parts scheme
      → All (IsDeclaredScheme s scope) parts → map (scheme_sort (variable_sorts scope)) parts ≡ map Some given.args → IsDeclaredScheme s scope scheme
  name_declared name given parts scheme (inl (i, b, at, named, is)) h all sorts =
      binder_declared s scope.kind scope.binders i b parts scheme at (subst (λ (g : Given). IsMeant g.meaning g.sort parts scheme) is h) all
  name_declared name given parts scheme (inr (f, g, at, named, is)) h all sorts =
      made_declared s scope (heads.Fun f) g.result parts scheme (subst (λ (x : Given). IsMeant x.meaning x.sort parts scheme) is h)
      (g, at, refl, sorts ∙ ap (λ (x : Given). map Some x.args) is) all

  mutual
    pub scheme_declared : (t : Term) (sort : ℕ) (scheme : Scheme) → HasSort (Gives s scope) t sort → StandsFor (Gives s scope) t scheme
        → IsDeclaredScheme s scope scheme
    scheme_declared terms.True sort scheme h k = made_declared s scope heads.True prop [] scheme k tt (All-nil (IsDeclaredScheme s scope))
    scheme_declared terms.False sort scheme h k = made_declared s scope heads.False prop [] scheme k tt (All-nil (IsDeclaredScheme s scope))
    scheme_declared (terms.Number value) sort scheme h k =
        made_declared s scope (heads.Int value) int [] scheme k tt (All-nil (IsDeclaredScheme s scope))
    scheme_declared (terms.Apply name row) sort scheme h k =
        let same = single name k.0 h.0 k.2 h.1 in
        let formed = row_formed s scope keeps single row (h.0).args k.1 h.2 k.3 in
        name_declared name h.0 k.1 scheme h.1 (subst (λ (g : Given). IsMeant g.meaning g.sort k.1 scheme) same k.4)
        (row_declared row (h.0).args k.1 h.2 k.3) formed.1
    scheme_declared (terms.One op a) sort scheme h k = unary_declared s scope op k.0 scheme k.2 (scheme_declared a (unary_sort op) k.0 h.0 k.1)
    scheme_declared (terms.Two op a b) sort scheme h k =
        binary_declared s scope op k.0 k.1 scheme k.4 (scheme_declared a h.0 k.0 h.1 k.2) (scheme_declared b h.0 k.1 h.2 k.3)

    row_declared : (row : Row) (sorts : List ℕ) (parts : List Scheme) → HaveSorts (Gives s scope) row sorts → StandForRow (Gives s scope) row parts
        → All (IsDeclaredScheme s scope) parts
    row_declared none sorts [] h k = All-nil (IsDeclaredScheme s scope)
    row_declared none sorts (x ∷ xs) h k = absurd k
    row_declared (more t row) [] xs h k = absurd h
    row_declared (more t row) (sort ∷ sorts) [] h k = absurd k
    row_declared (more t row) (sort ∷ sorts) (x ∷ xs) h k =
        All-cons (IsDeclaredScheme s scope) x xs (scheme_declared t sort x h.0 k.0) (row_declared row sorts xs h.1 k.1)
