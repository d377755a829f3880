-- Copies of schemes, and walks along lists of schemes.
use Rattle.std.proofs.Common.{drop, ◌+◌, ◌≡◌, ℕ, zero, suc, ◌<◌, ◌≤◌, arith, List, [], ◌∷◌, ◌++◌, length, slice_index_or, Vec, Global, refl, sym, ap, ◌∙◌, subst}
use Rattle.std.proofs.Math.Seq.{drop-cons, drop-nil}
use Rattle.grind_term_graph.specs.declared.head.Head.{Head}
use Rattle.grind_schemes.specs.declared.scheme.Scheme.{Scheme, Apply, Row_of-Scheme, end_of-Scheme, more_of-Scheme, items-the_row-Scheme, items_hidden-the_row-Scheme-0}
use Rattle.grind_schemes.proofs.SchemeLemmas.{row_of}
use Rattle.grind_patterns.specs.Copies.{IsCopy, AreCopies, AreCopiesRow}

-- the item at a position goes before the rest
pub drop_at : (all : List Scheme) (k : ℕ) (item : Scheme) → k < length all → item ≡ slice_index_or all k item
    → drop k all ≡ item ∷ drop (k + 1) all
drop_at all k item below is =
    let next : suc k ≡ k + 1 = omega arith in
    drop-cons all k item below
    ∙ ap (λ (x : Scheme). x ∷ drop (suc k) all) (sym is)
    ∙ ap (λ (n : ℕ). item ∷ drop n all) next

-- after the last nothing is left
pub drop_all : (all : List Scheme) (k : ℕ) → length all ≤ k → drop k all ≡ []
drop_all [] k past = drop-nil k
drop_all (first ∷ rest) zero past = absurd (omega arith)
drop_all (first ∷ rest) (suc k) past = drop_all rest k (omega arith)

-- items that are copies make rows that are copies
pub to_row : (m : _) (row : Row_of-Scheme m) (n : _) (other : Row_of-Scheme n)
    → AreCopies (items-the_row-Scheme m row) (items-the_row-Scheme n other) → AreCopiesRow row other
to_row m end_of-Scheme n end_of-Scheme h = tt
to_row m end_of-Scheme n (more_of-Scheme first rest) h = absurd h
to_row m (more_of-Scheme first rest) n end_of-Scheme h = absurd h
to_row m (more_of-Scheme first rest) n (more_of-Scheme other others) h = (h.0, to_row _ rest _ others h.1)

-- copies of the arguments make a copy of a head at them
pub IsCopy-Apply : (head : Head) (sort : ℕ) (args others : Vec Scheme Global) (scheme : Scheme) (items : List Scheme)
    → scheme ≡ Apply head sort others → items ≡ others.items → AreCopies args.items items
    → IsCopy (Apply head sort args) scheme
IsCopy-Apply head sort args others scheme items e f h =
    let one = row_of (Apply head sort args) in
    let other = row_of (Apply head sort others) in
    let mine = items_hidden-the_row-Scheme-0 args in
    let theirs = items_hidden-the_row-Scheme-0 others in
    let copies : AreCopies (items-the_row-Scheme one.0 one.1) (items-the_row-Scheme other.0 other.1) =
    rw (mine, theirs) (rw f at h) in
    subst (IsCopy (Apply head sort args)) (sym e) (refl, refl, to_row one.0 one.1 other.0 other.1 copies)

-- what is left goes after what is copied
pub AreCopies-append : (xs ys zs ws : List Scheme) → AreCopies xs ys → AreCopies zs ws → AreCopies (xs ++ zs) (ys ++ ws)
AreCopies-append [] [] zs ws h k = k
AreCopies-append [] (y ∷ ys) zs ws h k = absurd h
AreCopies-append (x ∷ xs) [] zs ws h k = absurd h
AreCopies-append (x ∷ xs) (y ∷ ys) zs ws h k = (h.0, AreCopies-append xs ys zs ws h.1 k)
