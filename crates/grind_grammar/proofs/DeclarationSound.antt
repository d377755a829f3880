-- What is read as a declaration is derived.
use Rattle.std.proofs.Common.{◌≡◌, ℕ, zero, suc, ◌⊎◌, inl, inr, Bool, true, false, List, [], ◌∷◌, length, Option, Some, None, refl, sym, ◌∙◌, ap, subst, codes}
use Rattle.std.specs.Prelude.{if◌then◌else◌, map}
use Rattle.std.specs.Option.{option_map}
use Rattle.std.specs.Str.{bytes_eq}
use Rattle.grind_tokens.specs.declared.tokens.Sym.{Sym}
use Rattle.grind_tokens.specs.declared.tokens.Sym.TheVariants as symbols
use Rattle.grind_grammar.specs.Names.{IsName}
use Rattle.grind_grammar.specs.Terms.{Term, Bound, Annotation, Left, Right, Hyps, Concl, Pattern, Declaration, Sort, Fun, Theorem, Goal, Limit}
use Rattle.grind_grammar.specs.Lexemes.{Lexeme, Word, Number, Symbol}
use Rattle.grind_grammar.specs.Grammar.{Formula, Sum, Separated, SortName, sort_name, Arguments, no_arguments, arguments, BoundNames, last_bound, next_bound, Group, joined, Binders, no_binders, Annot, left, right, hyps, concl, pattern, Annots, no_annots, next_annot, Hypotheses, no_hypotheses, hypotheses, Declares, new_sort, new_function, new_theorem, new_goal, new_limit}
use Rattle.grind_grammar.specs.Grammar as grammar
use Rattle.grind_grammar.specs.Reading.{Read, Reader, read, read_map, read_then, symbol_at, word_at, closed, is_name, name_at, sort_at, list_at, in_parentheses_from, in_parentheses, fit, all_of, sum, formula, names, bounds_of, group_behind, binders, annot_after_eq, annot_of_symbol, annot_inside, annots_behind, annots_up_to, annots, hyps_from, function_of, theorem_with, theorem_of, goal_with, goal_of, limit_of, declaration_of, declaration}
use Rattle.grind_grammar.specs.Reading as reading
use Rattle.grind_grammar.proofs.ReadLemmas.{nothing_read, read_is, read_then_read, read_map_read, option_map_some, symbol_at_some, closed_read, bytes_eq_is, is_name_is, chosen_is, name_at_read, sort_at_read, word_at_read}
use Rattle.grind_grammar.proofs.FitLemmas.{fit_annotation, fit_declaration}
use Rattle.grind_grammar.proofs.ChainSound.{Family, Sound, Trees, list_sound}
use Rattle.grind_grammar.proofs.TermSound.{Images, images_of, sum_sound, formula_sound}

-- lists in parentheses

pub sort_sound : Sound sort_at SortName
sort_sound ls w rest h =
    let g = sort_at_read ls w rest h in subst (λ l. SortName l w rest) (sym g.0) (sort_name g.1)

-- nothing, or a list in parentheses
abbrev pub InParentheses : (A : Type 0) → Family A → List Lexeme → List A → List Lexeme → Type 0
InParentheses A R ls xs rest =
    ((xs ≡ []) × (ls ≡ rest))
    ⊎ ((mid : List Lexeme) × (ls ≡ Symbol symbols.LeftParen ∷ mid) × Separated A R symbols.Comma mid xs (Symbol symbols.RightParen ∷ rest))

module _ (A : Type 0) (R : Family A) (item : Reader A) (sound : Sound item R) where
  parentheses_from : (ls : List Lexeme) (q : Option (List Lexeme)) → symbol_at symbols.LeftParen ls ≡ q → (xs : List A) (rest : List Lexeme) →
      in_parentheses_from item ls q ≡ read xs rest → InParentheses A R ls xs rest
  unfolding in_parentheses_from
  parentheses_from ls None e xs rest h = let k = read_is h in inl (sym k.0, k.1)
  parentheses_from ls (Some mid) e xs rest h =
      inr (
        mid,
        symbol_at_some symbols.LeftParen ls mid e,
        list_sound A R symbols.Comma item sound mid xs (Symbol symbols.RightParen ∷ rest)
            (closed_read symbols.RightParen (list_at item symbols.Comma mid) xs rest h),
      )

  pub parentheses_sound : (ls : List Lexeme) (xs : List A) (rest : List Lexeme) → in_parentheses item ls ≡ read xs rest → InParentheses A R ls xs rest
  unfolding in_parentheses
  parentheses_sound ls xs rest h = parentheses_from ls _ refl xs rest h

arguments_from : (ls : List Lexeme) (xs : List (List ℕ)) (rest : List Lexeme) → InParentheses (List ℕ) SortName ls xs rest → Arguments ls xs rest
arguments_from ls xs rest (inl h) = subst (λ l. Arguments l xs rest) (sym h.1) (subst (λ x. Arguments rest x rest) (sym h.0) no_arguments)
arguments_from ls xs rest (inr h) = subst (λ l. Arguments l xs rest) (sym h.1) (arguments h.2)

pub arguments_sound : Sound (in_parentheses sort_at) Arguments
arguments_sound ls xs rest h = arguments_from ls xs rest (parentheses_sound (List ℕ) SortName sort_at sort_sound ls xs rest h)

-- groups of names

abbrev NamesOf : List Lexeme → List (List ℕ) → List Lexeme → Type 0
NamesOf ls [] rest = ls ≡ rest
NamesOf ls (n ∷ ns) rest = (mid : List Lexeme) × (ls ≡ Word n ∷ mid) × IsName n × NamesOf mid ns rest

named : (w : List ℕ) (ls : List Lexeme) → NamesOf ls (names ls).0 (names ls).1 → (b : Bool) → is_name w ≡ b → (q : List (List ℕ) × List Lexeme) →
    q ≡ (if b then (w ∷ (names ls).0, (names ls).1) else ([], Word w ∷ ls)) → NamesOf (Word w ∷ ls) q.0 q.1
named w ls ih true e q h = subst (λ p. NamesOf (Word w ∷ ls) p.0 p.1) (sym h) (ls, refl, is_name_is w e, ih)
named w ls ih false e q h = subst (λ p. NamesOf (Word w ∷ ls) p.0 p.1) (sym h) refl

names_sound : (ls : List Lexeme) → NamesOf ls (names ls).0 (names ls).1
unfolding names
names_sound (Word w ∷ ls) = named w ls (names_sound ls) _ refl _ refl
names_sound [] = refl
names_sound _ = refl

bound_from : (sort : List ℕ) (n : List ℕ) (ns : List (List ℕ)) (ls rest : List Lexeme) → NamesOf ls (n ∷ ns) rest → BoundNames sort ls (bounds_of (n ∷ ns) sort) rest
bound_from sort n [] ls rest h =
    subst (λ l. BoundNames sort l (bounds_of (n ∷ []) sort) rest) (sym (h.1 ∙ ap (λ l. Word n ∷ l) h.3)) (last_bound h.2)
bound_from sort n (m ∷ ns) ls rest h =
    subst (λ l. BoundNames sort l (bounds_of (n ∷ m ∷ ns) sort) rest) (sym h.1) (next_bound h.2 (bound_from sort m ns h.0 rest h.3))

group_from : (ls mid : List Lexeme) (ns : List (List ℕ)) → NamesOf ls ns mid → (q : Option (List Lexeme)) → symbol_at symbols.Colon mid ≡ q →
    (bounds : List Bound) (rest : List Lexeme) → group_behind ns q ≡ read bounds rest → Group ls bounds rest
unfolding group_behind
group_from ls mid ns n None e bounds rest h = absurd (nothing_read h)
group_from ls mid [] n (Some after) e bounds rest h = absurd (nothing_read h)
group_from ls mid (m ∷ ns) n (Some after) e bounds rest h =
    let k = read_map_read (bounds_of (m ∷ ns)) (sort_at after) bounds rest h in
    let s = sort_at_read after k.0 rest k.1 in
    let colon = symbol_at_some symbols.Colon mid after e ∙ ap (λ l. Symbol symbols.Colon ∷ l) s.0 in
    subst (λ b. Group ls b rest) (sym k.2)
    (grammar.group (bound_from k.0 m ns ls (Symbol symbols.Colon ∷ Word k.0 ∷ rest) (subst (NamesOf ls (m ∷ ns)) colon n)) s.1)

pub group_sound : Sound reading.group Group
unfolding reading.group
group_sound ls bounds rest h = group_from ls _ _ (names_sound ls) _ refl bounds rest h

binders_from : (ls : List Lexeme) (groups : List (List Bound)) (rest : List Lexeme) → InParentheses (List Bound) Group ls groups rest → Binders ls (joined groups) rest
binders_from ls groups rest (inl h) = subst (λ l. Binders l (joined groups) rest) (sym h.1) (subst (λ x. Binders rest (joined x) rest) (sym h.0) no_binders)
binders_from ls groups rest (inr h) = subst (λ l. Binders l (joined groups) rest) (sym h.1) (grammar.binders h.2 refl)

pub binders_sound : Sound binders Binders
unfolding binders
binders_sound ls bounds rest h =
    let k = read_map_read joined (in_parentheses reading.group ls) bounds rest h in
    subst (λ b. Binders ls b rest) (sym k.2) (binders_from ls k.0 rest (parentheses_sound (List Bound) Group reading.group group_sound ls k.0 rest k.1))

-- annotations

abbrev AnnotRead : ℕ → List Lexeme → Option Annotation → List Lexeme → Type 0
AnnotRead limit ls o rest = (a : Annotation) × Annot (Symbol symbols.LeftSquare ∷ ls) a rest × (o ≡ fit_annotation limit a)

annot_eq : (limit : ℕ) (ls : List Lexeme) (q : Option (List Lexeme)) → word_at (codes "_") ls ≡ q → (o : Option Annotation) (rest : List Lexeme) →
    annot_after_eq ls q ≡ read o (Symbol symbols.RightSquare ∷ rest) → AnnotRead limit (Symbol symbols.Eq ∷ ls) o rest
unfolding annot_after_eq fit_annotation
annot_eq limit ls None e o rest h =
    let k = read_is h in
    (Left, subst (λ l. Annot (Symbol symbols.LeftSquare ∷ Symbol symbols.Eq ∷ l) Left rest) (sym k.1) left, sym k.0)
annot_eq limit ls (Some after) e o rest h =
    let k = read_is h in
    let g = word_at_read (codes "_") ls after e ∙ ap (λ l. Word (codes "_") ∷ l) k.1 in
    (Right, subst (λ l. Annot (Symbol symbols.LeftSquare ∷ Symbol symbols.Eq ∷ l) Right rest) (sym g) (right refl), sym k.0)

annot_symbol : (limit : ℕ) (s : Sym) (ls : List Lexeme) (o : Option Annotation) (rest : List Lexeme) →
    annot_of_symbol s ls ≡ read o (Symbol symbols.RightSquare ∷ rest) → AnnotRead limit (Symbol s ∷ ls) o rest
unfolding annot_of_symbol fit_annotation
annot_symbol limit symbols.Eq ls o rest h = annot_eq limit ls _ refl o rest h
annot_symbol limit symbols.Arrow ls o rest h =
    let k = read_is h in
    (Hyps, subst (λ l. Annot (Symbol symbols.LeftSquare ∷ Symbol symbols.Arrow ∷ l) Hyps rest) (sym k.1) hyps, sym k.0)
annot_symbol limit symbols.Lt ls o rest h =
    let k = option_map_some _ (symbol_at symbols.Minus ls) _ h in
    let g = symbol_at_some symbols.Minus ls k.0 k.1 ∙ ap (λ l. Symbol symbols.Minus ∷ l) (sym (ap (λ p. p.1) k.2)) in
    (Concl, subst (λ l. Annot (Symbol symbols.LeftSquare ∷ Symbol symbols.Lt ∷ l) Concl rest) (sym g) concl, ap (λ p. p.0) k.2)
annot_symbol limit _ ls o rest h = absurd (nothing_read h)

module _ (limit : ℕ) (item : Reader (Option Term)) (sound : Sound item (Trees limit Sum)) where
  annot_sound : (ls : List Lexeme) (o : Option Annotation) (rest : List Lexeme) → annot_inside item ls ≡ read o (Symbol symbols.RightSquare ∷ rest) → AnnotRead limit ls o rest
  unfolding annot_inside fit_annotation
  annot_sound [] o rest h = absurd (nothing_read h)
  annot_sound (Symbol s ∷ ls) o rest h = annot_symbol limit s ls o rest h
  annot_sound (Number value ∷ ls) o rest h = absurd (nothing_read h)
  annot_sound (Word word ∷ ls) o rest h =
      let c = chosen_is (bytes_eq word (codes "pattern")) h in
      let k = read_map_read _ (list_at item symbols.Comma ls) o (Symbol symbols.RightSquare ∷ rest) c.1 in
      let d = list_sound (Option Term) (Trees limit Sum) symbols.Comma item sound ls k.0 (Symbol symbols.RightSquare ∷ rest) k.1 in
      let i = images_of (fit limit) Sum symbols.Comma d in
      (Pattern i.0, pattern (bytes_eq_is word _ c.0) i.1, k.2 ∙ ap (λ ts. option_map Pattern (all_of ts)) i.2)

  annots_from : (further : Reader (List (Option Annotation))) → Sound further (Images (map (fit_annotation limit)) Annots) → (ls : List Lexeme) (q : Option (List Lexeme)) →
      symbol_at symbols.LeftSquare ls ≡ q → (os : List (Option Annotation)) (rest : List Lexeme) →
      annots_behind item further ls q ≡ read os rest → Images (map (fit_annotation limit)) Annots ls os rest
  unfolding annots_behind
  annots_from further ih ls None e os rest h =
      let k = read_is h in ([], subst (Annots ls []) k.1 no_annots, sym k.0)
  annots_from further ih ls (Some mid) e os rest h =
      let k = read_then_read _ (closed symbols.RightSquare (annot_inside item mid)) os rest h in
      let c = closed_read symbols.RightSquare (annot_inside item mid) k.0 k.1 k.2 in
      let a = annot_sound mid k.0 k.1 c in
      let m = read_map_read (λ xs. k.0 ∷ xs) (further k.1) os rest k.3 in
      let i = ih k.1 m.0 rest m.1 in (
        a.0 ∷ i.0,
        next_annot (subst (λ l. Annot l a.0 k.1) (sym (symbol_at_some symbols.LeftSquare ls mid e)) a.1) i.1,
        m.2 ∙ both a.2 i.2,
      )
    where
      both : {X : Type 0} {x y : X} {xs ys : List X} → x ≡ y → xs ≡ ys → x ∷ xs ≡ y ∷ ys
      both p q = cc

  annots_up_to_sound : (fuel : ℕ) → Sound (annots_up_to item fuel) (Images (map (fit_annotation limit)) Annots)
  unfolding annots_up_to
  annots_up_to_sound zero ls os rest h = absurd (nothing_read h)
  annots_up_to_sound (suc fuel) ls os rest h = annots_from (annots_up_to item fuel) (annots_up_to_sound fuel) ls _ refl os rest h

  pub annots_sound : Sound (annots item) (Images (map (fit_annotation limit)) Annots)
  unfolding annots
  annots_sound ls os rest h = annots_up_to_sound (suc (length ls)) ls os rest h

-- hypotheses

module _ (limit : ℕ) (item : Reader (Option Term)) (sound : Sound item (Trees limit Formula)) where
  hyps_with : (ls : List Lexeme) (q : Option (List Lexeme)) → symbol_at symbols.Turnstile ls ≡ q → (os : List (Option Term)) (rest : List Lexeme) →
      hyps_from item ls q ≡ read os rest → (hs : List Term) × Hypotheses ls hs (Symbol symbols.Turnstile ∷ rest) × (os ≡ map (fit limit) hs)
  unfolding hyps_from
  hyps_with ls None e os rest h =
      let c = closed_read symbols.Turnstile (list_at item symbols.Semicolon ls) os rest h in
      let d = list_sound (Option Term) (Trees limit Formula) symbols.Semicolon item sound ls os (Symbol symbols.Turnstile ∷ rest) c in
      let i = images_of (fit limit) Formula symbols.Semicolon d in
      (i.0, hypotheses i.1, i.2)
  hyps_with ls (Some after) e os rest h =
      let k = read_is h in
      let g = symbol_at_some symbols.Turnstile ls after e ∙ ap (λ l. Symbol symbols.Turnstile ∷ l) k.1 in
      ([], subst (λ l. Hypotheses ls [] l) g no_hypotheses, sym k.0)

  pub hyps_sound : (ls : List Lexeme) (os : List (Option Term)) (rest : List Lexeme) →
      reading.hyps item ls ≡ read os rest → (hs : List Term) × Hypotheses ls hs (Symbol symbols.Turnstile ∷ rest) × (os ≡ map (fit limit) hs)
  unfolding reading.hyps
  hyps_sound ls os rest h = hyps_with ls _ refl os rest h

-- declarations

with_equal : {A B C : Type 0} (f : A → B → C) {a x : A} {b y : B} → a ≡ x → b ≡ y → f a b ≡ f x y
with_equal f e g = cc

-- a declaration of this word and this name, given where it fits
abbrev DeclarationRead : ℕ → List ℕ → List ℕ → List Lexeme → Option Declaration → List Lexeme → Type 0
DeclarationRead limit word name ls o rest = (d : Declaration) × Declares (Word word ∷ Word name ∷ ls) d rest × (o ≡ fit_declaration limit d)

module _ (limit room : ℕ) (word name : List ℕ) (n : IsName name) (ls : List Lexeme) (o : Option Declaration) (rest : List Lexeme) where
  read_sort : word ≡ codes "sort" → read (Some (Sort name)) ls ≡ read o rest → DeclarationRead limit word name ls o rest
  unfolding fit_declaration
  read_sort w h =
      let k = read_is h in (Sort name, subst (Declares (Word word ∷ Word name ∷ ls) (Sort name)) k.1 (new_sort w n), sym k.0)

  read_function : word ≡ codes "fun" → function_of name ls ≡ read o rest → DeclarationRead limit word name ls o rest
  unfolding function_of fit_declaration
  read_function w h =
      let k = read_then_read _ (closed symbols.Colon (in_parentheses sort_at ls)) o rest h in
      let c = closed_read symbols.Colon (in_parentheses sort_at ls) k.0 k.1 k.2 in
      let m = read_map_read (λ result. Some (Fun name k.0 result)) (sort_at k.1) o rest k.3 in
      let s = sort_at_read k.1 m.0 rest m.1 in
      let a = subst (λ l. Arguments ls k.0 (Symbol symbols.Colon ∷ l)) s.0 (arguments_sound ls k.0 (Symbol symbols.Colon ∷ k.1) c) in
      (Fun name k.0 m.0, new_function w n a s.1, m.2)

  theorem_from : word ≡ codes "theorem" → (bounds : List Bound) (mid : List Lexeme) (os : List (Option Annotation)) (after : List Lexeme) (x : Option Term) →
      Binders ls bounds mid → Images (map (fit_annotation limit)) Annots mid os (Symbol symbols.Colon ∷ after) → Trees limit Formula after x rest →
      o ≡ theorem_with name bounds (all_of os) x → DeclarationRead limit word name ls o rest
  unfolding fit_declaration
  theorem_from w bounds mid os after x bs a b e =
      (Theorem name bounds a.0 b.0, new_theorem w n bs a.1 b.1, e ∙ with_equal (λ ys y. theorem_with name bounds (all_of ys) y) a.2 b.2)

  read_theorem : word ≡ codes "theorem" → theorem_of limit room name ls ≡ read o rest → DeclarationRead limit word name ls o rest
  unfolding theorem_of
  read_theorem w h =
      let k = read_then_read _ (binders ls) o rest h in
      let item = sum limit (formula limit room) in
      let m = read_then_read _ (closed symbols.Colon (annots item k.1)) o rest k.3 in
      let c = closed_read symbols.Colon (annots item k.1) m.0 m.1 m.2 in
      let f = read_map_read (theorem_with name k.0 (all_of m.0)) (formula limit (suc room) m.1) o rest m.3 in
      theorem_from w k.0 k.1 m.0 m.1 f.0
      (binders_sound ls k.0 k.1 k.2)
      (annots_sound limit item (sum_sound limit (formula limit room) (formula_sound limit room)) k.1 m.0 (Symbol symbols.Colon ∷ m.1) c)
      (formula_sound limit (suc room) m.1 f.0 rest f.1)
      f.2

  goal_from : word ≡ codes "goal" → (bounds : List Bound) (mid : List Lexeme) (os : List (Option Term)) (after : List Lexeme) (x : Option Term) →
      Binders ls bounds (Symbol symbols.Colon ∷ mid) → Images (map (fit limit)) Hypotheses mid os (Symbol symbols.Turnstile ∷ after) → Trees limit Formula after x rest →
      o ≡ goal_with name bounds (all_of os) x → DeclarationRead limit word name ls o rest
  unfolding fit_declaration
  goal_from w bounds mid os after x bs a b e =
      (Goal name bounds a.0 b.0, new_goal w n bs a.1 b.1, e ∙ with_equal (λ ys y. goal_with name bounds (all_of ys) y) a.2 b.2)

  read_goal : word ≡ codes "goal" → goal_of limit room name ls ≡ read o rest → DeclarationRead limit word name ls o rest
  unfolding goal_of
  read_goal w h =
      let k = read_then_read _ (closed symbols.Colon (binders ls)) o rest h in
      let m = read_then_read _ (reading.hyps (formula limit (suc room)) k.1) o rest k.3 in
      let f = read_map_read (goal_with name k.0 (all_of m.0)) (formula limit (suc room) m.1) o rest m.3 in
      goal_from w k.0 k.1 m.0 m.1 f.0
      (binders_sound ls k.0 (Symbol symbols.Colon ∷ k.1) (closed_read symbols.Colon (binders ls) k.0 k.1 k.2))
      (hyps_sound limit (formula limit (suc room)) (formula_sound limit (suc room)) k.1 m.0 m.1 m.2)
      (formula_sound limit (suc room) m.1 f.0 rest f.1)
      f.2

read_limit : (limit : ℕ) (word name : List ℕ) (n : IsName name) (ls : List Lexeme) (o : Option Declaration) (rest : List Lexeme) →
    word ≡ codes "limit" → limit_of name ls ≡ read o rest → DeclarationRead limit word name ls o rest
unfolding limit_of fit_declaration
read_limit limit word name n (Number value ∷ ls) o rest w h =
    let k = read_is h in
    (Limit name value, subst (Declares (Word word ∷ Word name ∷ Number value ∷ ls) (Limit name value)) k.1 (new_limit w n), sym k.0)
read_limit limit word name n [] o rest w h = absurd (nothing_read h)
read_limit limit word name n (Word v ∷ ls) o rest w h = absurd (nothing_read h)
read_limit limit word name n (Symbol s ∷ ls) o rest w h = absurd (nothing_read h)

-- one of two, by the word
by_word : {A P : Type 0} (word key : List ℕ) (x y : Option A) (z : A) → ((word ≡ key) → x ≡ Some z → P) → (y ≡ Some z → P) →
    (b : Bool) → bytes_eq word key ≡ b → (if b then x else y) ≡ Some z → P
by_word word key x y z f g true e h = f (bytes_eq_is word key e) h
by_word word key x y z f g false e h = g h

declaration_with : (limit room : ℕ) (word name : List ℕ) → IsName name → (ls : List Lexeme) (o : Option Declaration) (rest : List Lexeme) →
    declaration_of limit room word name ls ≡ read o rest → DeclarationRead limit word name ls o rest
unfolding declaration_of
declaration_with limit room word name n ls o rest h =
    by_word word (codes "sort") _ _ (o, rest) (read_sort limit room word name n ls o rest)
    (λ h1. by_word word (codes "fun") _ _ (o, rest) (read_function limit room word name n ls o rest)
    (λ h2. by_word word (codes "theorem") _ _ (o, rest) (read_theorem limit room word name n ls o rest)
    (λ h3. by_word word (codes "goal") _ _ (o, rest) (read_goal limit room word name n ls o rest)
    (λ h4. by_word word (codes "limit") _ _ (o, rest) (read_limit limit word name n ls o rest)
    (λ h5. absurd (nothing_read h5)) _ refl h4) _ refl h3) _ refl h2) _ refl h1) _ refl h

pub declaration_sound : (limit room : ℕ) → Sound (declaration limit room) (Images (fit_declaration limit) Declares)
unfolding declaration
declaration_sound limit room (Word word ∷ ls) o rest h =
    let k = read_then_read (declaration_of limit room word) (name_at ls) o rest h in
    let n = name_at_read ls k.0 k.1 k.2 in
    let d = declaration_with limit room word k.0 n.1 k.1 o rest k.3 in
    (d.0, subst (λ l. Declares (Word word ∷ l) d.0 rest) (sym n.0) d.1, d.2)
declaration_sound limit room [] o rest h = absurd (nothing_read h)
declaration_sound limit room (Number value ∷ ls) o rest h = absurd (nothing_read h)
declaration_sound limit room (Symbol s ∷ ls) o rest h = absurd (nothing_read h)
