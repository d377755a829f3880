-- Lists of names, sorts and bound variables.
use Rattle.std.proofs.Common.{◌≡◌, ℕ, Bool, true, false, List, [], ◌∷◌, ◌++◌, Option, Some, None, All, refl, sym, ◌∙◌, ap, subst, rules, append_assoc}
use Rattle.std.specs.Prelude.{map, if◌then◌else◌}
use Rattle.std.proofs.lemmas.List.{map-append}
use Rattle.std.proofs.lemmas.List.Elements.{All-nil, All-cons, All-append}
use Rattle.grind_tokens.specs.declared.tokens.Sym.TheVariants as symbols
use Rattle.grind_grammar.specs.declared.syntax.Name.{Name}
use Rattle.grind_grammar.specs.declared.syntax.Binder.{Binder}
use Rattle.grind_grammar.specs.Terms.{Bound}
use Rattle.grind_grammar.specs.Lexemes.{Lexeme, Word, Number, Symbol}
use Rattle.grind_grammar.specs.Grammar.{joined}
use Rattle.grind_grammar.specs.Keeps.{name_of}
use Rattle.grind_grammar.specs.Reading.{read, read_map, symbol_at, is_name, name_at, names, group, group_behind, sort_at, bounds_of, list_at, binders}
use Rattle.grind_syntax.specs.Places.{bound_of}
use Rattle.grind_syntax.proofs.Items.{read_is, map_none, map_read, map_gave, parentheses_none, parentheses_open, closed_none, closed_open, closed_read}

-- one more item, kept

pub kept_more : {A B : Type 0} (f : A → B) (xs ys : List A) (x : A) → ys ≡ xs ++ x ∷ [] → map f ys ≡ map f xs ++ f x ∷ []
kept_more f xs ys x e = ap (map f) e ∙ map-append f xs (x ∷ [])

pub all_more : {A : Type 0} (P : A → Type 0) (xs ys : List A) (x : A) → ys ≡ xs ++ x ∷ [] → All P xs → P x → All P ys
all_more P xs ys x e h k = subst (All P) (sym e) (All-append P xs (x ∷ []) h (All-cons P x [] k (All-nil P)))

-- names

abbrev named : Bool → List ℕ → List Lexeme → List (List ℕ) × List Lexeme
named b v ls = if b then (v ∷ (names ls).0, (names ls).1) else ([], Word v ∷ ls)

cons_same : {A : Type 0} {x y : A} {xs ys : List A} → x ≡ y → xs ≡ ys → x ∷ xs ≡ y ∷ ys
cons_same e f = cc

first_choice : (b : Bool) (w v : List ℕ) (ls rest : List Lexeme) → (if b then read v ls else None) ≡ read w rest →
    (named b v ls).0 ≡ w ∷ (names rest).0
first_choice true w v ls rest e = let q = read_is e in cons_same q.0 (ap (λ l. (names l).0) q.1)
first_choice false w v ls rest e = absurd cc

second_choice : (b : Bool) (w v : List ℕ) (ls rest : List Lexeme) → (if b then read v ls else None) ≡ read w rest →
    (named b v ls).1 ≡ (names rest).1
second_choice true w v ls rest e = let q = read_is e in ap (λ l. (names l).1) q.1
second_choice false w v ls rest e = absurd cc

end_first : (b : Bool) (v : List ℕ) (ls : List Lexeme) → (if b then read v ls else None) ≡ None →
    (named b v ls).0 ≡ []
end_first true v ls e = absurd cc
end_first false v ls e = refl

end_second : (b : Bool) (v : List ℕ) (ls : List Lexeme) → (if b then read v ls else None) ≡ None →
    (named b v ls).1 ≡ Word v ∷ ls
end_second true v ls e = absurd cc
end_second false v ls e = refl

pub names_first : (ls : List Lexeme) (w : List ℕ) (rest : List Lexeme) → name_at ls ≡ read w rest → (names ls).0 ≡ w ∷ (names rest).0
unfolding name_at names
names_first (Word v ∷ ls) w rest e = first_choice (is_name v) w v ls rest e
names_first [] w rest e = absurd cc
names_first (Number value ∷ ls) w rest e = absurd cc
names_first (Symbol s ∷ ls) w rest e = absurd cc

pub names_second : (ls : List Lexeme) (w : List ℕ) (rest : List Lexeme) → name_at ls ≡ read w rest → (names ls).1 ≡ (names rest).1
unfolding name_at names
names_second (Word v ∷ ls) w rest e = second_choice (is_name v) w v ls rest e
names_second [] w rest e = absurd cc
names_second (Number value ∷ ls) w rest e = absurd cc
names_second (Symbol s ∷ ls) w rest e = absurd cc

pub names_end_first : (ls : List Lexeme) → name_at ls ≡ None → (names ls).0 ≡ []
unfolding name_at names
names_end_first (Word v ∷ ls) e = end_first (is_name v) v ls e
names_end_first [] e = refl
names_end_first (Number value ∷ ls) e = refl
names_end_first (Symbol s ∷ ls) e = refl

pub names_end_second : (ls : List Lexeme) → name_at ls ≡ None → (names ls).1 ≡ ls
unfolding name_at names
names_end_second (Word v ∷ ls) e = end_second (is_name v) v ls e
names_end_second [] e = refl
names_end_second (Number value ∷ ls) e = refl
names_end_second (Symbol s ∷ ls) e = refl

-- what was read before the rest, and what the rest gives, make the whole

pub names_more : (all rest left : List Lexeme) (done : List (List ℕ)) (w : List ℕ) → (names all).0 ≡ done ++ (names rest).0 → name_at rest ≡ read w left →
    (names all).0 ≡ (done ++ w ∷ []) ++ (names left).0
names_more all rest left done w h e =
    h ∙ ap (λ xs. done ++ xs) (names_first rest w left e) ∙ sym (append_assoc done (w ∷ []) (names left).0)

pub names_all : (all rest : List Lexeme) (done : List (List ℕ)) → (names all).0 ≡ done ++ (names rest).0 → name_at rest ≡ None → (names all).0 ≡ done
names_all all rest done h e = let f = names_end_first rest e in h ∙ ap (λ xs. done ++ xs) f ∙ search rules

-- groups

pub group_none : (ls : List Lexeme) → symbol_at symbols.Colon (names ls).1 ≡ None → group ls ≡ None
unfolding group group_behind
group_none ls e = rw e refl

empty_behind : (ns : List (List ℕ)) (rest : Option (List Lexeme)) → ns ≡ [] → group_behind ns rest ≡ None
unfolding group_behind
empty_behind ns None e = refl
empty_behind ns (Some rest) e = rw e refl

pub group_empty : (ls : List Lexeme) → (names ls).0 ≡ [] → group ls ≡ None
unfolding group
group_empty ls e = empty_behind (names ls).0 _ e

unsorted : (ns : List (List ℕ)) (rest : List Lexeme) → sort_at rest ≡ None → group_behind ns (Some rest) ≡ None
unfolding group_behind
unsorted [] rest e = refl
unsorted (n ∷ ns) rest e = map_none (bounds_of (n ∷ ns)) (sort_at rest) e

pub group_unsorted : (ls rest : List Lexeme) → symbol_at symbols.Colon (names ls).1 ≡ Some rest → sort_at rest ≡ None → group ls ≡ None
unfolding group
group_unsorted ls rest e h = rw e (unsorted (names ls).0 rest h)

sorted : (ns : List (List ℕ)) (rest : List Lexeme) (sort : List ℕ) (left : List Lexeme) → ¬ (ns ≡ []) → sort_at rest ≡ read sort left →
    group_behind ns (Some rest) ≡ read (bounds_of ns sort) left
unfolding group_behind
sorted [] rest sort left n e = absurd (n refl)
sorted (x ∷ ns) rest sort left n e = map_read (bounds_of (x ∷ ns)) (sort_at rest) sort left e

pub group_read : (ls rest : List Lexeme) (sort : List ℕ) (left : List Lexeme) → ¬ ((names ls).0 ≡ []) → symbol_at symbols.Colon (names ls).1 ≡ Some rest →
    sort_at rest ≡ read sort left → group ls ≡ read (bounds_of (names ls).0 sort) left
unfolding group
group_read ls rest sort left n e h = rw e (sorted (names ls).0 rest sort left n h)

pub map_empty : {A B : Type 0} (f : A → B) (xs : List A) → map f xs ≡ [] → xs ≡ []
map_empty f [] e = refl
map_empty f (x ∷ xs) e = absurd cc

-- bound variables

pub bound_more : (text : List ℕ) (done more : List Binder) (name sort : Name) (rest : List (List ℕ)) (all : List Bound) →
    more ≡ done ++ record { name = name; sort = sort } ∷ [] →
    map (bound_of text) done ++ bounds_of (name_of text name ∷ rest) (name_of text sort) ≡ all →
    map (bound_of text) more ++ bounds_of rest (name_of text sort) ≡ all
bound_more text done more name sort rest all e h =
    ap (λ xs. xs ++ bounds_of rest (name_of text sort)) (kept_more (bound_of text) done more _ e)
    ∙ append_assoc (map (bound_of text) done) _ (bounds_of rest (name_of text sort)) ∙ h

-- groups joined

joined_append : {A : Type 0} (xss : List (List A)) (xs : List A) → joined (xss ++ xs ∷ []) ≡ joined xss ++ xs
joined_append [] xs = search rules
joined_append (ys ∷ xss) xs = ap (λ zs. ys ++ zs) (joined_append xss xs) ∙ sym (append_assoc ys (joined xss) xs)

pub joined_more : {A B : Type 0} (f : A → B) (made bound new : List A) (done : List (List B)) → map f made ≡ joined done → new ≡ made ++ bound →
    map f new ≡ joined (done ++ map f bound ∷ [])
joined_more f made bound new done h e =
    ap (map f) e ∙ map-append f made bound ∙ ap (λ xs. xs ++ map f bound) h ∙ sym (joined_append done (map f bound))

-- binders

pub binders_is : (ls : List Lexeme) → symbol_at symbols.LeftParen ls ≡ None → binders ls ≡ read [] ls
unfolding binders
binders_is ls e = map_read joined _ [] ls (parentheses_none group ls e)

pub binders_none : (ls mid : List Lexeme) → symbol_at symbols.LeftParen ls ≡ Some mid → list_at group symbols.Comma mid ≡ None → binders ls ≡ None
unfolding binders
binders_none ls mid e h = map_none joined _ (parentheses_open group ls mid e ∙ closed_none symbols.RightParen _ h)

pub binders_open : (ls mid : List Lexeme) (bounds : List Bound) (rest : List Lexeme) → symbol_at symbols.LeftParen ls ≡ Some mid →
    read_map joined (list_at group symbols.Comma mid) ≡ read bounds rest → symbol_at symbols.RightParen rest ≡ None → binders ls ≡ None
unfolding binders
binders_open ls mid bounds rest e h n =
    let g = map_gave joined (list_at group symbols.Comma mid) bounds rest h in
    map_none joined _ (parentheses_open group ls mid e ∙ closed_open symbols.RightParen _ g.0 rest g.1 n)

pub binders_read : (ls mid : List Lexeme) (bounds : List Bound) (rest left : List Lexeme) → symbol_at symbols.LeftParen ls ≡ Some mid →
    read_map joined (list_at group symbols.Comma mid) ≡ read bounds rest → symbol_at symbols.RightParen rest ≡ Some left → binders ls ≡ read bounds left
unfolding binders
binders_read ls mid bounds rest left e h n =
    let g = map_gave joined (list_at group symbols.Comma mid) bounds rest h in
    map_read joined _ g.0 left (parentheses_open group ls mid e ∙ closed_read symbols.RightParen _ g.0 rest left g.1 n) ∙ ap (λ bs. read bs left) g.2
