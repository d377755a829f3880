-- What readers gave, taken apart.
use Rattle.std.proofs.Common.{◌≡◌, ℕ, ◌⊎◌, inl, inr, Bool, true, false, List, [], ◌∷◌, Option, Some, None, refl, sym, ◌∙◌, ap, subst, codes, eq-eqb, eqb-true}
use Rattle.std.proofs.lemmas.Slice.Eq.{bytes_eq-Decides}
use Rattle.std.proofs.lemmas.Map.Views.{list_any-from_Contains, Contains-from_any}
use Rattle.std.proofs.lemmas.Cmp.{nat_list_eq_equiv}
use Rattle.std.specs.Prelude.{if◌then◌else◌, nat_eq, ◌||◌}
use Rattle.std.specs.List.{list_any}
use Rattle.std.specs.Str.{bytes_eq}
use Rattle.std.specs.Option.{option_map}
use Rattle.grind_tokens.specs.declared.tokens.Sym.{Sym}
use Rattle.grind_tokens.specs.declared.tokens.Sym.TheVariants as symbols
use Rattle.grind_grammar.specs.declared.syntax.Binary.{Binary}
use Rattle.grind_grammar.specs.Names.{reserved, IsName, IsSort}
use Rattle.grind_grammar.specs.Lexemes.{Lexeme, Word, Number, Symbol}
use Rattle.grind_grammar.specs.Reading.{Read, read, read_map, read_then, symbol_number, is_symbol, symbol_at, word_at, closed, is_name, is_sort, name_at, sort_at, op_at}

pub nothing_read : {A : Type 0} {x : A} → None ≡ Some x → ⊥
nothing_read e = absurd cc

pub some_is : {A : Type 0} {x y : A} → Some x ≡ Some y → x ≡ y
some_is e = cc

pub read_is : {A : Type 0} {x y : A} {a b : List Lexeme} → read x a ≡ read y b → (x ≡ y) × (a ≡ b)
read_is e = let q = some_is e in (ap (λ p. p.0) q, ap (λ p. p.1) q)

pub read_then_read : {A B : Type 0} (f : A → List Lexeme → Read B) (r : Read A) (y : B) (rest : List Lexeme) → read_then f r ≡ read y rest →
    (x : A) × (mid : List Lexeme) × (r ≡ read x mid) × (f x mid ≡ read y rest)
unfolding read_then
read_then_read f None y rest e = absurd (nothing_read e)
read_then_read f (Some p) y rest e = (p.0, p.1, refl, e)

pub read_map_read : {A B : Type 0} (f : A → B) (r : Read A) (y : B) (rest : List Lexeme) → read_map f r ≡ read y rest →
    (x : A) × (r ≡ read x rest) × (y ≡ f x)
unfolding read_map
read_map_read f None y rest e = absurd (nothing_read e)
read_map_read f (Some p) y rest e = let q = read_is e in (p.0, ap (λ l. read p.0 l) q.1, sym q.0)

pub option_map_some : {A B : Type 0} (f : A → B) (r : Option A) (y : B) → option_map f r ≡ Some y → (x : A) × (r ≡ Some x) × (y ≡ f x)
option_map_some f None y e = absurd (nothing_read e)
option_map_some f (Some p) y e = (p, refl, sym (some_is e))

-- symbols have numbers of their own

abbrev symbol_of : ℕ → Sym
symbol_of n =
    if nat_eq n 0 then symbols.Dot else if nat_eq n 1 then symbols.Comma else if nat_eq n 2 then symbols.Colon else
    if nat_eq n 3 then symbols.Semicolon else if nat_eq n 4 then symbols.LeftParen else if nat_eq n 5 then symbols.RightParen else
    if nat_eq n 6 then symbols.LeftSquare else if nat_eq n 7 then symbols.RightSquare else if nat_eq n 8 then symbols.Eq else
    if nat_eq n 9 then symbols.Ne else if nat_eq n 10 then symbols.Lt else if nat_eq n 11 then symbols.Le else
    if nat_eq n 12 then symbols.Iff else if nat_eq n 13 then symbols.Gt else if nat_eq n 14 then symbols.Ge else
    if nat_eq n 15 then symbols.Plus else if nat_eq n 16 then symbols.Minus else if nat_eq n 17 then symbols.Star else
    if nat_eq n 18 then symbols.And else if nat_eq n 19 then symbols.Or else if nat_eq n 20 then symbols.Not else
    if nat_eq n 21 then symbols.Arrow else symbols.Turnstile

symbol_of_number : (s : Sym) → symbol_of (symbol_number s) ≡ s
symbol_of_number symbols.Dot = refl
symbol_of_number symbols.Comma = refl
symbol_of_number _ = refl

one_symbol : (s t : Sym) → symbol_number s ≡ symbol_number t → s ≡ t
one_symbol s t e = sym (symbol_of_number s) ∙ ap symbol_of e ∙ symbol_of_number t

nat_same : (n : ℕ) → nat_eq n n ≡ true
nat_same n = eq-eqb n n refl

pub is_symbol_same : (s : Sym) → is_symbol s (Symbol s) ≡ true
unfolding is_symbol
is_symbol_same s = nat_same (symbol_number s)

pub is_symbol_is : (s : Sym) (l : Lexeme) → is_symbol s l ≡ true → l ≡ Symbol s
unfolding is_symbol
is_symbol_is s (Word bytes) e = absurd cc
is_symbol_is s (Number value) e = absurd cc
is_symbol_is s (Symbol t) e = ap Symbol (sym (one_symbol s t (eqb-true _ _ e)))

pub symbol_at_same : (s : Sym) (ls : List Lexeme) → symbol_at s (Symbol s ∷ ls) ≡ Some ls
unfolding symbol_at
symbol_at_same s ls = rw (is_symbol_same s) refl

chosen : (b : Bool) (s : Sym) (l : Lexeme) (ls rest : List Lexeme) → is_symbol s l ≡ b → (if b then Some ls else None) ≡ Some rest → l ∷ ls ≡ Symbol s ∷ rest
chosen false s l ls rest e h = absurd (nothing_read h)
chosen true s l ls rest e h = let a = is_symbol_is s l e in let b = some_is h in cc

pub symbol_at_some : (s : Sym) (ls rest : List Lexeme) → symbol_at s ls ≡ Some rest → ls ≡ Symbol s ∷ rest
unfolding symbol_at
symbol_at_some s [] rest e = absurd (nothing_read e)
symbol_at_some s (l ∷ ls) rest e = chosen (is_symbol s l) s l ls rest refl e

-- words

pub bytes_eq_is : (a b : List ℕ) → bytes_eq a b ≡ true → a ≡ b
bytes_eq_is a b e = (bytes_eq-Decides a b).0 e

pub bytes_eq_same : (a : List ℕ) → bytes_eq a a ≡ true
bytes_eq_same a = (bytes_eq-Decides a a).1 refl

pub same_read : {A : Type 0} {x y : A} {a b : List Lexeme} → x ≡ y → a ≡ b → read x a ≡ read y b
same_read e f = cc

pub closed_read : {A : Type 0} (s : Sym) (r : Read A) (x : A) (rest : List Lexeme) → closed s r ≡ read x rest → r ≡ read x (Symbol s ∷ rest)
unfolding closed
closed_read s r x rest e =
    let h = read_then_read _ r x rest e in
    let k = option_map_some _ (symbol_at s h.1) _ h.3 in
    let l = symbol_at_some s h.1 k.0 k.1 in
    let m = ap (λ p. p.0) k.2 in
    let n = ap (λ p. p.1) k.2 in
    h.2 ∙ same_read (sym m) (l ∙ ap (λ ls. Symbol s ∷ ls) (sym n))

pub op_at_some : (ops : Sym → Option Binary) (ls : List Lexeme) (op : Binary) (mid : List Lexeme) → op_at ops ls ≡ read op mid →
    (s : Sym) × (ops s ≡ Some op) × (ls ≡ Symbol s ∷ mid)
unfolding op_at
op_at_some ops (Symbol s ∷ ls) op mid e =
    let h = option_map_some _ (ops s) _ e in
    (s, h.1 ∙ ap Some (sym (ap (λ p. p.0) h.2)), ap (λ l. Symbol s ∷ l) (sym (ap (λ p. p.1) h.2)))
op_at_some ops [] op mid e = absurd (nothing_read e)
op_at_some ops (Word bytes ∷ ls) op mid e = absurd (nothing_read e)
op_at_some ops (Number value ∷ ls) op mid e = absurd (nothing_read e)

-- names and sorts

not_chosen : (b : Bool) → (if b then false else true) ≡ true → b ≡ true → ⊥
not_chosen true e h = absurd cc
not_chosen false e h = absurd cc

pub is_name_is : (w : List ℕ) → is_name w ≡ true → IsName w
unfolding is_name
is_name_is w e h = not_chosen _ e (list_any-from_Contains nat_list_eq_equiv w reserved h)

chosen_name : (w : List ℕ) (b : Bool) → IsName w → list_any (bytes_eq w) reserved ≡ b → (if b then false else true) ≡ true
chosen_name w true h e = absurd (h (Contains-from_any bytes_eq_is w reserved e))
chosen_name w false h e = refl

pub is_name_yes : (w : List ℕ) → IsName w → is_name w ≡ true
unfolding is_name
is_name_yes w h = chosen_name w _ h refl

pub or_true : (a b : Bool) → (a || b) ≡ true → (a ≡ true) ⊎ (b ≡ true)
or_true true b e = inl refl
or_true false b e = inr e

pub or_left : (a b : Bool) → a ≡ true → (a || b) ≡ true
or_left true b e = refl
or_left false b e = absurd cc

pub or_right : (a b : Bool) → b ≡ true → (a || b) ≡ true
or_right true b e = refl
or_right false b e = e

two_sorts : (w : List ℕ) → (bytes_eq w (codes "Int") ≡ true) ⊎ (bytes_eq w (codes "Prop") ≡ true) → (w ≡ codes "Int") ⊎ (w ≡ codes "Prop")
two_sorts w (inl h) = inl (bytes_eq_is w _ h)
two_sorts w (inr h) = inr (bytes_eq_is w _ h)

three_sorts : (w : List ℕ) → (is_name w ≡ true) ⊎ ((bytes_eq w (codes "Int") || bytes_eq w (codes "Prop")) ≡ true) → IsSort w
three_sorts w (inl h) = inl (is_name_is w h)
three_sorts w (inr h) = inr (two_sorts w (or_true (bytes_eq w (codes "Int")) _ h))

pub is_sort_is : (w : List ℕ) → is_sort w ≡ true → IsSort w
unfolding is_sort
is_sort_is w e = three_sorts w (or_true (is_name w) _ e)

is_same_word : (w v : List ℕ) → w ≡ v → bytes_eq w v ≡ true
is_same_word w v e = (bytes_eq-Decides w v).1 e

pub is_sort_yes : (w : List ℕ) → IsSort w → is_sort w ≡ true
unfolding is_sort
is_sort_yes w (inl h) = or_left (is_name w) _ (is_name_yes w h)
is_sort_yes w (inr (inl h)) = or_right (is_name w) _ (or_left (bytes_eq w (codes "Int")) _ (is_same_word w _ h))
is_sort_yes w (inr (inr h)) = or_right (is_name w) _ (or_right (bytes_eq w (codes "Int")) _ (is_same_word w _ h))

-- what stands after a choice

pub chosen_is : {A : Type 0} (b : Bool) {x : Option A} {y : A} → (if b then x else None) ≡ Some y → (b ≡ true) × (x ≡ Some y)
chosen_is true e = (refl, e)
chosen_is false e = absurd (nothing_read e)

pub chosen_yes : {A : Type 0} (b : Bool) (x y : A) → b ≡ true → (if b then x else y) ≡ x
chosen_yes true x y e = refl
chosen_yes false x y e = absurd cc

pub chosen_no : {A : Type 0} (b : Bool) (x y : A) → b ≡ false → (if b then x else y) ≡ y
chosen_no true x y e = absurd cc
chosen_no false x y e = refl

pub same_word : {v w : List ℕ} {a b : List Lexeme} → v ≡ w → a ≡ b → Word v ∷ a ≡ Word w ∷ b
same_word e f = cc

pub name_at_read : (ls : List Lexeme) (w : List ℕ) (rest : List Lexeme) → name_at ls ≡ read w rest → (ls ≡ Word w ∷ rest) × IsName w
unfolding name_at
name_at_read (Word v ∷ ls) w rest e =
    let h = chosen_is (is_name v) e in
    let k = read_is h.1 in
    (same_word k.0 k.1, subst IsName k.0 (is_name_is v h.0))
name_at_read [] w rest e = absurd (nothing_read e)
name_at_read (Number value ∷ ls) w rest e = absurd (nothing_read e)
name_at_read (Symbol s ∷ ls) w rest e = absurd (nothing_read e)

pub sort_at_read : (ls : List Lexeme) (w : List ℕ) (rest : List Lexeme) → sort_at ls ≡ read w rest → (ls ≡ Word w ∷ rest) × IsSort w
unfolding sort_at
sort_at_read (Word v ∷ ls) w rest e =
    let h = chosen_is (is_sort v) e in
    let k = read_is h.1 in
    (same_word k.0 k.1, subst IsSort k.0 (is_sort_is v h.0))
sort_at_read [] w rest e = absurd (nothing_read e)
sort_at_read (Number value ∷ ls) w rest e = absurd (nothing_read e)
sort_at_read (Symbol s ∷ ls) w rest e = absurd (nothing_read e)

pub word_at_read : (v : List ℕ) (ls rest : List Lexeme) → word_at v ls ≡ Some rest → ls ≡ Word v ∷ rest
unfolding word_at
word_at_read v (Word w ∷ ls) rest e =
    let h = chosen_is (bytes_eq w v) e in
    same_word (bytes_eq_is w v h.0) (some_is h.1)
word_at_read v [] rest e = absurd (nothing_read e)
word_at_read v (Number value ∷ ls) rest e = absurd (nothing_read e)
word_at_read v (Symbol s ∷ ls) rest e = absurd (nothing_read e)
