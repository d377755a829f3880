-- A term stands for one scheme at most.
use Rattle.std.specs.Prelude.{◌≡◌, ℕ, List, [], ◌∷◌, Vec, refl}
use Rattle.std.specs.Global.{Global}
use Rattle.std.proofs.Common.{sym, ap, subst, ◌∙◌}
use mathlib.Core.Former.{Count}
use Rattle.grind_term_graph.specs.declared.head.Head.{Head}
use Rattle.grind_term_graph.specs.declared.head.Head.TheVariants as heads
use Rattle.grind_term_graph.specs.Terms.{prop, int}
use Rattle.grind_schemes.specs.declared.scheme.Scheme.{Scheme, Var, Apply, Apply', Row_of-Scheme, end_of-Scheme, more_of-Scheme, items-the_row-Scheme, items_hidden-the_row-Scheme-0}
use Rattle.grind_grammar.specs.declared.syntax.Unary.{Unary}
use Rattle.grind_grammar.specs.declared.syntax.Unary.TheVariants as unaries
use Rattle.grind_grammar.specs.declared.syntax.Binary.{Binary}
use Rattle.grind_grammar.specs.declared.syntax.Binary.TheVariants as binaries
use Rattle.grind_grammar.specs.Terms as terms
use Rattle.grind_grammar.specs.Terms.{Term, Row, none, more}
use Rattle.grind_resolution.specs.declared.meaning.Meaning.{Meaning}
use Rattle.grind_resolution.specs.declared.meaning.Meaning.TheVariants as meanings
use Rattle.grind_resolution.specs.Scopes.{Given}
use Rattle.grind_resolution.specs.Resolved.{IsMade, IsMeant, IsUnary, IsBinary, StandsFor, StandForRow}
use Rattle.grind_resolution.specs.Same.{AreSame, AreSameRows}
use Rattle.grind_resolution.specs.Laws.{IsSingle}

-- schemes that are the same, one by one
abbrev EachSame : List Scheme → List Scheme → Type 0
EachSame [] [] = Unit {0}
EachSame [] (other ∷ others) = ⊥
EachSame (first ∷ rest) [] = ⊥
EachSame (first ∷ rest) (other ∷ others) = AreSame first other × EachSame rest others

-- the arguments of a scheme
abbrev row_of : Scheme → (n : Count) × Row_of-Scheme n
row_of (Apply' head sort shape args) = (_, args)
row_of _ = (_, end_of-Scheme)

same_rows : (m : _) (row : Row_of-Scheme m) (n : _) (others : Row_of-Scheme n)
    → EachSame (items-the_row-Scheme m row) (items-the_row-Scheme n others) → AreSameRows row others
same_rows m end_of-Scheme n end_of-Scheme h = tt
same_rows m end_of-Scheme n (more_of-Scheme other others) h = absurd h
same_rows m (more_of-Scheme first rest) n end_of-Scheme h = absurd h
same_rows m (more_of-Scheme first rest) n (more_of-Scheme other others) h = (h.0, same_rows _ rest _ others h.1)

same_applied : (head : Head) (sort : ℕ) (args others : Vec Scheme Global) → EachSame args.items others.items
    → AreSame (Apply head sort args) (Apply head sort others)
same_applied head sort args others h =
    let row = row_of (Apply head sort args) in
    let other = row_of (Apply head sort others) in
    let left = subst (λ items. EachSame items others.items) (sym (items_hidden-the_row-Scheme-0 args)) h in
    let both = subst (λ items. EachSame (items-the_row-Scheme row.0 row.1) items) (sym (items_hidden-the_row-Scheme-0 others)) left in
    (refl, refl, same_rows row.0 row.1 other.0 other.1 both)

-- one head at the same parts
made_same : (head : Head) (sort : ℕ) (parts others : List Scheme) (a b : Scheme) → IsMade head sort parts a → IsMade head sort others b
    → EachSame parts others → AreSame a b
made_same head sort parts others a b h k same =
    let items = subst (λ ps. EachSame ps (k.0).items) (sym h.1) (subst (λ qs. EachSame parts qs) (sym k.1) same) in
    subst (λ x. AreSame x b) (sym h.2) (subst (λ y. AreSame (Apply head sort h.0) y) (sym k.2) (same_applied head sort h.0 k.0 items))

meant_same : (meaning : Meaning) (sort : ℕ) (parts others : List Scheme) (a b : Scheme) → IsMeant meaning sort parts a → IsMeant meaning sort others b
    → EachSame parts others → AreSame a b
meant_same (meanings.Variable i) sort parts others a b h k same =
    subst (λ x. AreSame x b) (sym h.1) (subst (λ y. AreSame (Var i) y) (sym k.1) refl)
meant_same (meanings.Headed head) sort parts others a b h k same = made_same head sort parts others a b h k same

-- one head at one part and at two
module _ (head : Head) (sort : ℕ) (a b : Scheme) where
  one_same : (x y : Scheme) → IsMade head sort (x ∷ []) a → IsMade head sort (y ∷ []) b → AreSame x y → AreSame a b
  one_same x y h k s = made_same head sort (x ∷ []) (y ∷ []) a b h k (s, tt)

  two_same : (l r m n : Scheme) → IsMade head sort (l ∷ r ∷ []) a → IsMade head sort (m ∷ n ∷ []) b → AreSame l m → AreSame r n → AreSame a b
  two_same l r m n h k s t = made_same head sort (l ∷ r ∷ []) (m ∷ n ∷ []) a b h k (s, (t, tt))

unary_same : (op : Unary) (x y a b : Scheme) → IsUnary op x a → IsUnary op y b → AreSame x y → AreSame a b
unary_same unaries.Not x y a b h k s = one_same heads.Not prop a b x y h k s
unary_same unaries.Neg x y a b h k s = one_same heads.Neg int a b x y h k s

binary_same : (op : Binary) (l r m n a b : Scheme) → IsBinary op l r a → IsBinary op m n b → AreSame l m → AreSame r n → AreSame a b
binary_same binaries.Iff l r m n a b h k s t = two_same heads.Eq prop a b l r m n h k s t
binary_same binaries.Implies l r m n a b h k s t = two_same heads.Implies prop a b l r m n h k s t
binary_same binaries.Or l r m n a b h k s t = two_same heads.Or prop a b l r m n h k s t
binary_same binaries.And l r m n a b h k s t = two_same heads.And prop a b l r m n h k s t
binary_same binaries.Eq l r m n a b h k s t = two_same heads.Eq prop a b l r m n h k s t
binary_same binaries.Ne l r m n a b h k s t =
    one_same heads.Not prop a b h.0 k.0 h.2 k.2 (two_same heads.Eq prop h.0 k.0 l r m n h.1 k.1 s t)
binary_same binaries.Lt l r m n a b h k s t =
    one_same heads.Not prop a b h.0 k.0 h.2 k.2 (two_same heads.Le prop h.0 k.0 r l n m h.1 k.1 t s)
binary_same binaries.Le l r m n a b h k s t = two_same heads.Le prop a b l r m n h k s t
binary_same binaries.Gt l r m n a b h k s t =
    one_same heads.Not prop a b h.0 k.0 h.2 k.2 (two_same heads.Le prop h.0 k.0 l r m n h.1 k.1 s t)
binary_same binaries.Ge l r m n a b h k s t = two_same heads.Le prop a b r l n m h k t s
binary_same binaries.Add l r m n a b h k s t = two_same heads.Add int a b l r m n h k s t
binary_same binaries.Sub l r m n a b h k s t =
    two_same heads.Add int a b l h.0 m k.0 h.2 k.2 s (one_same heads.Neg int h.0 k.0 r n h.1 k.1 t)
binary_same binaries.Mul l r m n a b h k s t = two_same heads.Mul int a b l r m n h k s t

module _ (gives : List ℕ → Given → Type 0) (single : IsSingle gives) where
  mutual
    pub scheme_unique : (t : Term) (a b : Scheme) → StandsFor gives t a → StandsFor gives t b → AreSame a b
    scheme_unique terms.True a b h k = made_same heads.True prop [] [] a b h k tt
    scheme_unique terms.False a b h k = made_same heads.False prop [] [] a b h k tt
    scheme_unique (terms.Number value) a b h k = made_same (heads.Int value) int [] [] a b h k tt
    scheme_unique (terms.Apply name row) a b h k =
        let same = single name k.0 h.0 k.2 h.2 in
        meant_same (h.0).meaning (h.0).sort h.1 k.1 a b h.4 (subst (λ (g : Given). IsMeant g.meaning g.sort k.1 b) same k.4)
        (schemes_unique row h.1 k.1 h.3 k.3)
    scheme_unique (terms.One op part) a b h k = unary_same op h.0 k.0 a b h.2 k.2 (scheme_unique part h.0 k.0 h.1 k.1)
    scheme_unique (terms.Two op left right) a b h k =
        binary_same op h.0 h.1 k.0 k.1 a b h.4 k.4 (scheme_unique left h.0 k.0 h.2 k.2) (scheme_unique right h.1 k.1 h.3 k.3)

    schemes_unique : (row : Row) (xs ys : List Scheme) → StandForRow gives row xs → StandForRow gives row ys → EachSame xs ys
    schemes_unique none [] [] h k = tt
    schemes_unique none [] (y ∷ ys) h k = absurd k
    schemes_unique none (x ∷ xs) ys h k = absurd h
    schemes_unique (more t row) [] ys h k = absurd h
    schemes_unique (more t row) (x ∷ xs) [] h k = absurd k
    schemes_unique (more t row) (x ∷ xs) (y ∷ ys) h k = (scheme_unique t x y h.0 k.0, schemes_unique row xs ys h.1 k.1)
