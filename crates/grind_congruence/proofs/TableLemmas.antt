-- What a table of keys finds.
use Rattle.std.specs.Prelude.{◌≡◌, ℕ, suc, ◌≤◌, Bool, true, false, cond, List, [], ◌∷◌, ◌++◌, Some, None, Contains, length, take, drop, refl}
use Rattle.std.specs.List.{AllZip, AllByRecursion, IsDistinct}
use Rattle.std.specs.Map.{lookup, keys_of}
use Rattle.indexmap.specs.IndexMap.{insert_entry}
use Rattle.std.proofs.Common.{arith, sym, ap, ◌∙◌, subst, append_assoc, inl, inr}
use Rattle.std.proofs.lemmas.Bool.{false≢true}
use Rattle.std.proofs.lemmas.Option.{same_Some}
use Rattle.std.proofs.lemmas.List.{append-nil, length-append, take_all, take-take, take-append-le, take-append-drop}
use Rattle.std.proofs.lemmas.List.Elements.{Contains-append_left}
use Rattle.grind_term_graph.specs.declared.node.Node.{Node}
use Rattle.grind_term_graph.specs.Placed.{node_eq}
use Rattle.grind_term_graph.proofs.Nodes.{node_eq-same, node_eq-refl}
use Rattle.grind_classes.specs.Classes.{IsIn, AreTogether, IsPartition}
use Rattle.grind_classes.proofs.ListLemmas.{Contains-more, Contains-nil, Contains-cases}
use Rattle.grind_congruence.specs.Table.{IsRootOf, IsKeyOf, IsLonger, IsEntered}

-- lists one by one
pub AllZip-length : (P : ℕ → ℕ → Type 0) (xs ys : List ℕ) → AllZip P xs ys → length xs ≡ length ys
AllZip-length P [] [] zip = refl
AllZip-length P [] (y ∷ ys) zip = absurd zip
AllZip-length P (x ∷ xs) [] zip = absurd zip
AllZip-length P (x ∷ xs) (y ∷ ys) zip = ap suc (AllZip-length P xs ys zip.1)

pub AllZip-weaker : (P Q : ℕ → ℕ → Type 0) → ((x y : ℕ) → P x y → Q x y) → (xs ys : List ℕ) → AllZip P xs ys → AllZip Q xs ys
AllZip-weaker P Q leads [] [] zip = tt
AllZip-weaker P Q leads [] (y ∷ ys) zip = absurd zip
AllZip-weaker P Q leads (x ∷ xs) [] zip = absurd zip
AllZip-weaker P Q leads (x ∷ xs) (y ∷ ys) zip = (leads x y zip.0, AllZip-weaker P Q leads xs ys zip.1)

-- what is like the keys' roots is together
pub zip_together : (lists : List (List ℕ)) (keys ms ns : List ℕ) → IsPartition lists → AllZip (AreTogether lists) keys ms → AllZip (IsRootOf lists) keys ns
    → AllZip (AreTogether lists) ms ns
zip_together lists [] [] [] classes left right = tt
zip_together lists [] (m ∷ ms) ns classes left right = absurd left
zip_together lists [] ms (n ∷ ns) classes left right = absurd right
zip_together lists (r ∷ keys) [] ns classes left right = absurd left
zip_together lists (r ∷ keys) ms [] classes left right = absurd right
zip_together lists (r ∷ keys) (m ∷ ms) (n ∷ ns) classes left right = (
  (r, subst (λ s. IsIn lists s m) (classes.in_one left.0.0 r r left.0.1 right.0.0) left.0.2, right.0.1),
  zip_together lists keys ms ns classes left.1 right.1,
)

-- nodes that are together one by one have the same roots
same_roots : (lists : List (List ℕ)) (rs ss ms ns : List ℕ) → IsPartition lists → AllZip (IsRootOf lists) rs ms → AllZip (IsRootOf lists) ss ns
    → AllZip (AreTogether lists) ms ns → rs ≡ ss
same_roots lists [] [] ms ns classes left right both = refl
same_roots lists [] (s ∷ ss) [] [] classes left right both = absurd right
same_roots lists [] (s ∷ ss) [] (n ∷ ns) classes left right both = absurd both
same_roots lists [] ss (m ∷ ms) ns classes left right both = absurd left
same_roots lists (r ∷ rs) ss [] ns classes left right both = absurd left
same_roots lists (r ∷ rs) ss (m ∷ ms) [] classes left right both = absurd both
same_roots lists (r ∷ rs) [] (m ∷ ms) (n ∷ ns) classes left right both = absurd right
same_roots lists (r ∷ rs) (s ∷ ss) (m ∷ ms) (n ∷ ns) classes left right both =
    let first : r ≡ s = classes.in_one r both.0.0 m left.0.1 both.0.1 ∙ classes.in_one both.0.0 s n both.0.2 right.0.1 in
    ap (λ k. k ∷ rs) first ∙ ap (λ ks. s ∷ ks) (same_roots lists rs ss ms ns classes left.1 right.1 both.1)

-- a list that begins with another
pub longer_itself : {A : Type 0} (xs : List A) → IsLonger xs xs
longer_itself xs = take_all (length xs) xs (omega arith)

pub longer_append : {A : Type 0} (xs ys : List A) → IsLonger xs (xs ++ ys)
longer_append xs ys = take-append-le (length xs) xs ys (omega arith) ∙ longer_itself xs

pub longer_length : {A : Type 0} (old new : List A) → IsLonger old new → length old ≤ length new
longer_length old new longer =
    omega (arith, ap length (take-append-drop (length old) new), ap length longer, length-append (take (length old) new) (drop (length old) new))

pub longer_take : {A : Type 0} (old new : List A) (n : ℕ) → n ≤ length old → IsLonger old new → take n new ≡ take n old
longer_take old new n within longer = sym (take-take n (length old) new within) ∙ ap (take n) longer

pub longer_through : {A : Type 0} (first second third : List A) → IsLonger first second → IsLonger second third → IsLonger first third
longer_through first second third one two =
    longer_take second third (length first) (longer_length first second one) two ∙ one

pub Contains-longer : {A : Type 0} (old new : List A) (x : A) → IsLonger old new → Contains old x → Contains new x
Contains-longer old new x longer has =
    subst (λ xs. Contains xs x) (take-append-drop (length old) new)
    (Contains-append_left (take (length old) new) (drop (length old) new) x (subst (λ xs. Contains xs x) (sym longer) has))

-- what a look-up finds stands among the entries
found_in : (entry : Node × ℕ) (entries : List (Node × ℕ)) (key : Node) (m : ℕ)
    → (lookup (node_eq key) entries ≡ Some m → Contains entries (key, m))
    → lookup (node_eq key) (entry ∷ entries) ≡ Some m → Contains (entry ∷ entries) (key, m)
found_in entry entries key m rest e = pick (node_eq key entry.0) refl e
  where
    pick : (t : Bool) → node_eq key entry.0 ≡ t → cond t (Some entry.1) (lookup (node_eq key) entries) ≡ Some m
        → Contains (entry ∷ entries) (key, m)
    pick true same is =
        let left : entry.0 ≡ key = sym (node_eq-same key entry.0 same) in
        let right : entry.1 ≡ m = same_Some entry.1 m is in
        (0, omega arith, λ i. (left i, right i))
    pick false same is = Contains-more entry entries (key, m) (rest is)

pub found_entry : (entries : List (Node × ℕ)) (key : Node) (m : ℕ) → lookup (node_eq key) entries ≡ Some m → Contains entries (key, m)
found_entry [] key m e = absurd cc
found_entry (entry ∷ entries) key m e = found_in entry entries key m (found_entry entries key m) e

-- and what it does not find is not there
none_in : (entry : Node × ℕ) (entries : List (Node × ℕ)) (key : Node) (m : ℕ)
    → (lookup (node_eq key) entries ≡ None → Contains entries (key, m) → ⊥)
    → lookup (node_eq key) (entry ∷ entries) ≡ None → Contains (entry ∷ entries) (key, m) → ⊥
none_in entry entries key m rest e has = pick (node_eq key entry.0) refl e
  where
    pick : (t : Bool) → node_eq key entry.0 ≡ t → cond t (Some entry.1) (lookup (node_eq key) entries) ≡ None → ⊥
    pick true same is = absurd cc
    pick false same is = elim (Contains-cases entry entries (key, m) has) [
      | inl here ↦
          let keys : entry.0 ≡ key = ap (λ (p : Node × ℕ). p.0) here in
          false≢true (sym same ∙ ap (node_eq key) keys ∙ node_eq-refl key)
      | inr later ↦ rest is later
    ]

pub none_entry : (entries : List (Node × ℕ)) (key : Node) (m : ℕ) → lookup (node_eq key) entries ≡ None → Contains entries (key, m) → ⊥
none_entry [] key m e has = Contains-nil (key, m) has
none_entry (entry ∷ entries) key m e has = none_in entry entries key m (none_entry entries key m) e has

-- a new key goes last
last_in : (entry : Node × ℕ) (entries : List (Node × ℕ)) (key : Node) (n : ℕ) → ((m : ℕ) → Contains (entry ∷ entries) (key, m) → ⊥)
    → insert_entry node_eq entries key n ≡ entries ++ (key, n) ∷ []
    → insert_entry node_eq (entry ∷ entries) key n ≡ entry ∷ (entries ++ (key, n) ∷ [])
last_in entry entries key n none rest = pick (node_eq key entry.0) refl
  where
    pick : (t : Bool) → node_eq key entry.0 ≡ t
        → cond t ((entry.0, n) ∷ entries) (entry ∷ insert_entry node_eq entries key n) ≡ entry ∷ (entries ++ (key, n) ∷ [])
    pick true same =
        let keys : entry.0 ≡ key = sym (node_eq-same key entry.0 same) in
        absurd (none entry.1 (0, omega arith, λ i. (keys i, entry.1)))
    pick false same = ap (λ (es : List (Node × ℕ)). entry ∷ es) rest

pub entered_last : (entries : List (Node × ℕ)) (key : Node) (n : ℕ) → ((m : ℕ) → Contains entries (key, m) → ⊥)
    → insert_entry node_eq entries key n ≡ entries ++ (key, n) ∷ []
entered_last [] key n none = refl
entered_last (entry ∷ entries) key n none =
    last_in entry entries key n none (entered_last entries key n (λ m has. none m (Contains-more entry entries (key, m) has)))

-- a key that stands after others is not one of these
differs : (entries : List (Node × ℕ)) (first key : Node) (n : ℕ) (more : List (Node × ℕ))
    → AllByRecursion (λ other. node_eq first other ≡ false) (keys_of (entries ++ (key, n) ∷ more)) → node_eq first key ≡ false
differs [] first key n more all = all.0
differs (entry ∷ entries) first key n more all = differs entries first key n more all.1

pub once_there : (entries : List (Node × ℕ)) (key : Node) (m n : ℕ) (more : List (Node × ℕ))
    → IsDistinct node_eq (keys_of (entries ++ (key, n) ∷ more)) → Contains entries (key, m) → ⊥
unfolding IsDistinct
once_there [] key m n more distinct has = Contains-nil (key, m) has
once_there (entry ∷ entries) key m n more distinct has = elim (Contains-cases entry entries (key, m) has) [
  | inl here ↦
      let keys : entry.0 ≡ key = ap (λ (p : Node × ℕ). p.0) here in
      let apart : node_eq entry.0 key ≡ false = differs entries entry.0 key n more distinct.0 in
      false≢true (sym apart ∙ ap (λ k. node_eq k key) keys ∙ node_eq-refl key)
  | inr later ↦ once_there entries key m n more distinct.1 later
]

-- the next key of a copy
pub entered_next : (keys new rest all : List (Node × ℕ)) (key : Node) (n m : ℕ) → keys ++ (key, n) ∷ rest ≡ all
    → IsDistinct node_eq (keys_of all) → IsEntered keys key n m new → new ++ rest ≡ all
entered_next keys new rest all key n m whole distinct (inl there) =
    absurd (once_there keys key m n rest (subst (λ (es : List (Node × ℕ)). IsDistinct node_eq (keys_of es)) (sym whole) distinct) there.1)
entered_next keys new rest all key n m whole distinct (inr last) =
    ap (λ (es : List (Node × ℕ)). es ++ rest) last.2 ∙ append_assoc keys ((key, n) ∷ []) rest ∙ whole

key_is : (g h : Node) → g.head ≡ h.head → g.sort ≡ h.sort → g.args ≡ h.args → g ≡ h
key_is g h p q r = λ i. record { head = p i; sort = q i; args = r i }

-- nodes with one key are one by one together, and nodes that are have one key
pub one_key : (lists : List (List ℕ)) (left right first second : Node) → IsPartition lists → IsKeyOf lists left first
    → IsKeyOf lists right second → left.head ≡ right.head → left.sort ≡ right.sort → AllZip (AreTogether lists) left.args right.args
    → first ≡ second
one_key lists left right first second classes one two head sort args =
    key_is first second (one.head ∙ head ∙ sym two.head) (one.sort ∙ sort ∙ sym two.sort)
    (same_roots lists first.args second.args left.args right.args classes one.args two.args args)

-- one more root
pub roots_more : (lists : List (List ℕ)) (roots : List ℕ) (r n : ℕ) (tail nodes : List ℕ)
    → ((later : List ℕ) → AllZip (IsRootOf lists) later (n ∷ tail) → AllZip (IsRootOf lists) (roots ++ later) nodes) → IsRootOf lists r n
    → (later : List ℕ) → AllZip (IsRootOf lists) later tail → AllZip (IsRootOf lists) ((roots ++ r ∷ []) ++ later) nodes
roots_more lists roots r n tail nodes before root later zip =
    subst (λ rs. AllZip (IsRootOf lists) rs nodes) (sym (append_assoc roots (r ∷ []) later)) (before (r ∷ later) (root, zip))

-- no more roots
pub roots_end : (lists : List (List ℕ)) (roots rest nodes : List ℕ) → length rest ≡ 0
    → ((later : List ℕ) → AllZip (IsRootOf lists) later rest → AllZip (IsRootOf lists) (roots ++ later) nodes) → AllZip (IsRootOf lists) roots nodes
roots_end lists roots [] nodes none all = subst (λ rs. AllZip (IsRootOf lists) rs nodes) (append-nil roots) (all [] tt)
roots_end lists roots (n ∷ rest) nodes none all = absurd (omega (arith, none))
