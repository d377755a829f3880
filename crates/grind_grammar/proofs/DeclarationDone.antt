-- What is derived as a declaration is read, where what follows cannot go on with it.
use Rattle.std.proofs.Common.{◌≡◌, ℕ, zero, suc, ◌+◌, ◌<◌, ◌≤◌, List, [], ◌∷◌, length, Option, Some, None, refl, sym, ◌∙◌, ap, subst, arith, codes}
use Rattle.std.specs.Prelude.{map}
use Rattle.grind_tokens.specs.declared.tokens.Sym.{Sym}
use Rattle.grind_tokens.specs.declared.tokens.Sym.TheVariants as symbols
use Rattle.grind_grammar.specs.Names.{IsName, IsSort}
use Rattle.grind_grammar.specs.Terms.{Term, Bound, Annotation, Right, Pattern, Declaration, Sort, Fun, Limit}
use Rattle.grind_grammar.specs.Lexemes.{Lexeme, Word, Number, Symbol}
use Rattle.grind_grammar.specs.Grammar.{Formula, Sum, Separated, last_item, next_item, SortName, sort_name, Arguments, no_arguments, arguments, BoundNames, last_bound, next_bound, Group, joined, Binders, no_binders, Annot, left, right, hyps, concl, pattern, Annots, no_annots, next_annot, Hypotheses, no_hypotheses, hypotheses, Declares, new_sort, new_function, new_theorem, new_goal, new_limit}
use Rattle.grind_grammar.specs.Grammar as grammar
use Rattle.grind_grammar.specs.Parentheses.{open_after_symbol, Within}
use Rattle.grind_grammar.specs.Reading.{Read, Reader, read, read_map, read_then, symbol_at, is_symbol, word_at, closed, is_name, is_sort, name_at, sort_at, items, list_at, in_parentheses_from, in_parentheses, fit, all_of, sum, formula, formula_over, names, bounds_of, bound_to, group_behind, binders, annot_after_eq, annot_of_symbol, annot_inside, annots_behind, annots_up_to, annots, hyps_from, function_of, theorem_with, theorem_of, goal_with, goal_of, limit_of, declaration_of, declaration}
use Rattle.grind_grammar.specs.Reading as reading
use Rattle.grind_grammar.specs.Strength.{next_strength}
use Rattle.grind_grammar.proofs.ReadLemmas.{nothing_read, symbol_at_same, symbol_at_some, is_name_yes, is_sort_yes}
use Rattle.grind_grammar.proofs.FitLemmas.{fit_annotation, fit_declaration}
use Rattle.grind_grammar.proofs.ChainSound.{Family}
use Rattle.grind_grammar.proofs.ChainDone.{Done, closed_done, TermDone, ItemsDone, items_last, items_next, list_done}
use Rattle.grind_grammar.proofs.TermDone.{formula_room, formula_done, sum_passes, sum_end, back}

-- the reader reads x off the lexemes, or x is nothing; the parentheses of those that are left are within the limit too
pub record Took (A : Type 0) (most count : ℕ) (reader : Reader A) (ls : List Lexeme) (x : A) (rest : List Lexeme) : Type 0 where
  pub reads : reader ls ≡ read x rest
  pub within : Within most count rest

-- lists of images

module _ (A B : Type 0) (f : A → B) (R : Family A) (s : Sym) (item : Reader B) (most count : ℕ) (Ready : List Lexeme → Type 0)
    (ready : (mid : List Lexeme) → Ready (Symbol s ∷ mid)) (plain : (n : ℕ) → open_after_symbol n s ≡ n)
    (done : (ls : List Lexeme) (x : A) (rest : List Lexeme) → R ls x rest → Within most count ls → Ready rest → Done B most count item ls (f x) rest) where
  separated_done : {ls rest : List Lexeme} {xs : List A} → Separated A R s ls xs rest → Within most count ls → Ready rest → symbol_at s rest ≡ None →
      ItemsDone B most count item s ls (map f xs) rest
  separated_done {rest = rest} (last_item {ls = ls} {x = x} i) w r e = items_last B most count item s ls (f x) rest (done ls x rest i w r) e
  separated_done {rest = rest} (next_item {ls = ls} {mid = mid} {x = x} {xs = xs} i d) w r e =
      let k = done ls x (Symbol s ∷ mid) i w (ready mid) in
      items_next B most count item s ls (f x) mid (map f xs) rest k
      (separated_done d (subst (λ n. Within most n mid) (plain count) k.within.1) r e)

  pub listed_done : {ls rest : List Lexeme} {xs : List A} → Separated A R s ls xs rest → Within most count ls → Ready rest → symbol_at s rest ≡ None →
      Done (List B) most count (list_at item s) ls (map f xs) rest
  listed_done {ls = ls} {rest = rest} {xs = xs} d w r e = list_done B most count item s ls (map f xs) rest (separated_done d w r e)

pub map_same : {A : Type 0} (xs : List A) → map (λ x. x) xs ≡ xs
map_same [] = refl
map_same (x ∷ xs) = ap (λ ys. x ∷ ys) (map_same xs)

-- lists in parentheses

module _ (A : Type 0) (item : Reader A) (most count : ℕ) where
  pub parentheses_none : (ls : List Lexeme) → Within most count ls → symbol_at symbols.LeftParen ls ≡ None → Took (List A) most count (in_parentheses item) ls [] ls
  unfolding in_parentheses in_parentheses_from
  parentheses_none ls w e = record { reads = rw e refl; within = w }

  pub parentheses_some : (mid : List Lexeme) (xs : List A) (rest : List Lexeme) →
      Done (List A) most (count + 1) (list_at item symbols.Comma) mid xs (Symbol symbols.RightParen ∷ rest) →
      Took (List A) most count (in_parentheses item) (Symbol symbols.LeftParen ∷ mid) xs rest
  unfolding in_parentheses in_parentheses_from
  parentheses_some mid xs rest d = record {
    reads = rw (symbol_at_same symbols.LeftParen mid) (closed_done symbols.RightParen (list_at item symbols.Comma mid) xs rest d.reads);
    within = back most most count rest d.within.1;
  }

no_comma_paren : (rest : List Lexeme) → symbol_at symbols.Comma (Symbol symbols.RightParen ∷ rest) ≡ None
unfolding symbol_at is_symbol
no_comma_paren rest = refl

sort_done : (most count : ℕ) (ls : List Lexeme) (x : List ℕ) (rest : List Lexeme) → SortName ls x rest → Within most count ls → Unit {0} →
    Done (List ℕ) most count sort_at ls x rest
unfolding sort_at
sort_done most count ls x rest (sort_name i) w r = record { reads = rw (is_sort_yes x i) refl; within = w.1; shorter = omega arith }

pub arguments_done : (most count : ℕ) {ls rest : List Lexeme} {xs : List (List ℕ)} → Arguments ls xs rest → Within most count ls → symbol_at symbols.LeftParen rest ≡ None →
    Took (List (List ℕ)) most count (in_parentheses sort_at) ls xs rest
arguments_done most count {rest = rest} no_arguments w e = parentheses_none (List ℕ) sort_at most count rest w e
arguments_done most count (arguments {ls = ls} {rest = rest} {sorts = sorts} d) w e =
    let k = listed_done (List ℕ) (List ℕ) (λ x. x) SortName symbols.Comma sort_at most (count + 1) (λ l. Unit {0}) (λ l. tt) (λ n. refl)
    (sort_done most (count + 1)) d w.1 tt (no_comma_paren rest) in
    parentheses_some (List ℕ) sort_at most count ls sorts rest
    (subst (λ xs. Done (List (List ℕ)) most (count + 1) (list_at sort_at symbols.Comma) ls xs (Symbol symbols.RightParen ∷ rest)) (map_same sorts) k)

-- groups of names

pub record NamesDone (most count : ℕ) (sort : List ℕ) (ls : List Lexeme) (bounds : List Bound) (rest : List Lexeme) : Type 0 where
  pub first : List ℕ
  pub others : List (List ℕ)
  pub reads : names ls ≡ (first ∷ others, rest)
  pub is_bounds : bounds_of (first ∷ others) sort ≡ bounds
  pub within : Within most count rest
  pub shorter : length rest < length ls

names_of : (name : List ℕ) → IsName name → (ls rest : List Lexeme) (ns : List (List ℕ)) → names ls ≡ (ns, rest) → names (Word name ∷ ls) ≡ (name ∷ ns, rest)
unfolding names
names_of name n ls rest ns e = rw (is_name_yes name n, e) refl

names_done : (most count : ℕ) {sort : List ℕ} {ls rest : List Lexeme} {bounds : List Bound} → BoundNames sort ls bounds rest → Within most count ls →
    names rest ≡ ([], rest) → NamesDone most count sort ls bounds rest
names_done most count (last_bound {name = name} {rest = rest} n) w e = record {
  first = name;
  others = [];
  reads = names_of name n rest rest [] e;
  is_bounds = refl;
  within = w.1;
  shorter = omega arith;
}
names_done most count {sort = sort} (next_bound {name = name} {ls = ls} {rest = rest} {bounds = bounds} n d) w e =
    let k = names_done most count d w.1 e in
    let l = k.shorter in
    record {
      first = name;
      others = k.first ∷ k.others;
      reads = names_of name n ls rest (k.first ∷ k.others) k.reads;
      is_bounds = ap (λ bs. bound_to sort name ∷ bs) k.is_bounds;
      within = k.within;
      shorter = omega (arith, l);
    }

no_name_colon : (ls : List Lexeme) → names (Symbol symbols.Colon ∷ ls) ≡ ([], Symbol symbols.Colon ∷ ls)
unfolding names
no_name_colon ls = refl

group_reads : (ls : List Lexeme) (first : List ℕ) (others : List (List ℕ)) (sort : List ℕ) (rest : List Lexeme) → IsSort sort →
    names ls ≡ (first ∷ others, Symbol symbols.Colon ∷ Word sort ∷ rest) → reading.group ls ≡ read (bounds_of (first ∷ others) sort) rest
unfolding reading.group group_behind sort_at read_map
group_reads ls first others sort rest i e = rw (e, symbol_at_same symbols.Colon (Word sort ∷ rest), is_sort_yes sort i) refl

group_done : (most count : ℕ) (ls : List Lexeme) (bounds : List Bound) (rest : List Lexeme) → Group ls bounds rest → Within most count ls → Unit {0} →
    Done (List Bound) most count reading.group ls bounds rest
group_done most count _ _ _ (grammar.group {sort = sort} {ls = ls} {rest = rest} {bounds = bounds} d i) w r =
    let k = names_done most count d w (no_name_colon (Word sort ∷ rest)) in
    let l = k.shorter in
    record {
      reads = group_reads ls k.first k.others sort rest i k.reads ∙ ap (λ bs. read bs rest) k.is_bounds;
      within = k.within.1.1;
      shorter = omega (arith, l);
    }

binders_read : (most count : ℕ) (ls : List Lexeme) (groups : List (List Bound)) (rest : List Lexeme) → Took (List (List Bound)) most count (in_parentheses reading.group) ls groups rest →
    Took (List Bound) most count binders ls (joined groups) rest
unfolding binders read_map
binders_read most count ls groups rest t = record { reads = rw t.reads refl; within = t.within }

pub binders_done : (most count : ℕ) {ls rest : List Lexeme} {bounds : List Bound} → Binders ls bounds rest → Within most count ls → symbol_at symbols.LeftParen rest ≡ None →
    Took (List Bound) most count binders ls bounds rest
binders_done most count {rest = rest} no_binders w e = binders_read most count rest [] rest (parentheses_none (List Bound) reading.group most count rest w e)
binders_done most count (grammar.binders {ls = ls} {rest = rest} {groups = groups} {bounds = bounds} d same) w e =
    let k = listed_done (List Bound) (List Bound) (λ x. x) Group symbols.Comma reading.group most (count + 1) (λ l. Unit {0}) (λ l. tt) (λ n. refl)
    (group_done most (count + 1)) d w.1 tt (no_comma_paren rest) in
    let l = parentheses_some (List Bound) reading.group most count ls groups rest
    (subst (λ xs. Done (List (List Bound)) most (count + 1) (list_at reading.group symbols.Comma) ls xs (Symbol symbols.RightParen ∷ rest)) (map_same groups) k) in
    subst (λ bs. Took (List Bound) most count binders (Symbol symbols.LeftParen ∷ ls) bs rest) (sym same) (binders_read most count (Symbol symbols.LeftParen ∷ ls) groups rest l)

-- annotations

pub record AnnotDone (limit most count : ℕ) (item : Reader (Option Term)) (ls : List Lexeme) (a : Annotation) (rest : List Lexeme) : Type 0 where
  pub inner : List Lexeme
  pub begins : ls ≡ Symbol symbols.LeftSquare ∷ inner
  pub reads : annot_inside item inner ≡ read (fit_annotation limit a) (Symbol symbols.RightSquare ∷ rest)
  pub within : Within most count rest
  pub shorter : length rest < length ls

no_comma_square : (rest : List Lexeme) → symbol_at symbols.Comma (Symbol symbols.RightSquare ∷ rest) ≡ None
unfolding symbol_at is_symbol
no_comma_square rest = refl

pattern_reads : (limit : ℕ) (item : Reader (Option Term)) (word : List ℕ) (ls : List Lexeme) (ts : List Term) (rest : List Lexeme) → word ≡ codes "pattern" →
    list_at item symbols.Comma ls ≡ read (map (fit limit) ts) (Symbol symbols.RightSquare ∷ rest) →
    annot_inside item (Word word ∷ ls) ≡ read (fit_annotation limit (Pattern ts)) (Symbol symbols.RightSquare ∷ rest)
unfolding annot_inside fit_annotation read_map
pattern_reads limit item word ls ts rest w e =
    subst (λ v. annot_inside item (Word v ∷ ls) ≡ read (fit_annotation limit (Pattern ts)) (Symbol symbols.RightSquare ∷ rest)) (sym w) (rw e refl)

right_reads : (limit : ℕ) (item : Reader (Option Term)) (word : List ℕ) (rest : List Lexeme) → word ≡ codes "_" →
    annot_inside item (Symbol symbols.Eq ∷ Word word ∷ Symbol symbols.RightSquare ∷ rest) ≡ read (fit_annotation limit Right) (Symbol symbols.RightSquare ∷ rest)
unfolding annot_inside fit_annotation annot_of_symbol annot_after_eq word_at
right_reads limit item word rest w =
    subst (λ v. annot_inside item (Symbol symbols.Eq ∷ Word v ∷ Symbol symbols.RightSquare ∷ rest) ≡ read (fit_annotation limit Right) (Symbol symbols.RightSquare ∷ rest)) (sym w) refl

annot_done : (limit most count : ℕ) (item : Reader (Option Term))
    (done : (ls : List Lexeme) (t : Term) (rest : List Lexeme) → Sum ls t rest → Within most count ls → 2 < next_strength rest → TermDone limit most count item ls t rest) →
    {ls rest : List Lexeme} {a : Annotation} → Annot ls a rest → Within most count ls → AnnotDone limit most count item ls a rest
unfolding annot_inside fit_annotation annot_of_symbol annot_after_eq word_at symbol_at is_symbol
annot_done limit most count item done (left {rest = rest}) w =
    record { inner = Symbol symbols.Eq ∷ Symbol symbols.RightSquare ∷ rest; begins = refl; reads = refl; within = w.1.1.1; shorter = omega arith }
annot_done limit most count item done (right {word = word} {rest = rest} e) w =
    record { inner = Symbol symbols.Eq ∷ Word word ∷ Symbol symbols.RightSquare ∷ rest; begins = refl; reads = right_reads limit item word rest e; within = w.1.1.1.1; shorter = omega arith }
annot_done limit most count item done (hyps {rest = rest}) w =
    record { inner = Symbol symbols.Arrow ∷ Symbol symbols.RightSquare ∷ rest; begins = refl; reads = refl; within = w.1.1.1; shorter = omega arith }
annot_done limit most count item done (concl {rest = rest}) w =
    record { inner = Symbol symbols.Lt ∷ Symbol symbols.Minus ∷ Symbol symbols.RightSquare ∷ rest; begins = refl; reads = refl; within = w.1.1.1.1; shorter = omega arith }
annot_done limit most count item done (pattern {word = word} {ls = ls} {rest = rest} {patterns = ts} e d) w =
    let k = listed_done Term (Option Term) (fit limit) Sum symbols.Comma item most count (λ l. 2 < next_strength l) (λ l. omega arith) (λ n. refl)
    done d w.1.1 (omega arith) (no_comma_square rest) in
    let l = k.shorter in
    record { inner = Word word ∷ ls; begins = refl; reads = pattern_reads limit item word ls ts rest e k.reads; within = k.within.1; shorter = omega (arith, l) }

module _ (limit most count : ℕ) (item : Reader (Option Term))
    (done : (ls : List Lexeme) (t : Term) (rest : List Lexeme) → Sum ls t rest → Within most count ls → 2 < next_strength rest → TermDone limit most count item ls t rest) where
  annots_none : (fuel : ℕ) (ls : List Lexeme) → length ls < fuel → symbol_at symbols.LeftSquare ls ≡ None → annots_up_to item fuel ls ≡ read [] ls
  unfolding annots_up_to annots_behind
  annots_none zero ls h e = absurd (omega (arith, h))
  annots_none (suc fuel) ls h e = rw e refl

  annots_some : (fuel : ℕ) (ls : List Lexeme) (a : Annotation) (mid : List Lexeme) (as' : List Annotation) (rest : List Lexeme) → length ls < fuel → AnnotDone limit most count item ls a mid →
      ((k : ℕ) → length mid < k → annots_up_to item k mid ≡ read (map (fit_annotation limit) as') rest) →
      annots_up_to item fuel ls ≡ read (map (fit_annotation limit) (a ∷ as')) rest
  unfolding annots_up_to annots_behind read_then read_map
  annots_some zero ls a mid as' rest h d e = absurd (omega (arith, h))
  annots_some (suc fuel) ls a mid as' rest h d e =
      let l = d.shorter in
      rw (
        d.begins,
        symbol_at_same symbols.LeftSquare d.inner,
        closed_done symbols.RightSquare (annot_inside item d.inner) (fit_annotation limit a) mid d.reads,
        e fuel (omega (arith, l, h)),
      ) refl

  pub annots_up_to_done : {ls rest : List Lexeme} {as' : List Annotation} → Annots ls as' rest → Within most count ls → symbol_at symbols.LeftSquare rest ≡ None →
      ((fuel : ℕ) → length ls < fuel → annots_up_to item fuel ls ≡ read (map (fit_annotation limit) as') rest) × Within most count rest
  annots_up_to_done {rest = rest} no_annots w e = (λ fuel h. annots_none fuel rest h e, w)
  annots_up_to_done (next_annot {ls = ls} {mid = mid} {rest = rest} {annotation = a} {annotations = as'} d ds) w e =
      let x = annot_done limit most count item done d w in
      let k = annots_up_to_done ds x.within e in
      (λ fuel h. annots_some fuel ls a mid as' rest h x k.0, k.1)

  pub annots_done : {ls rest : List Lexeme} {as' : List Annotation} → Annots ls as' rest → Within most count ls → symbol_at symbols.LeftSquare rest ≡ None →
      Took (List (Option Annotation)) most count (annots item) ls (map (fit_annotation limit) as') rest
  unfolding annots
  annots_done {ls = ls} d w e = let k = annots_up_to_done d w e in record { reads = k.0 (suc (length ls)) (omega arith); within = k.1 }

-- annotations begin with no parenthesis
annot_begins : {ls rest : List Lexeme} {a : Annotation} → Annot ls a rest → symbol_at symbols.LeftParen ls ≡ None
unfolding symbol_at is_symbol
annot_begins left = refl
annot_begins (right e) = refl
annot_begins hyps = refl
annot_begins concl = refl
annot_begins (pattern e d) = refl

annots_begin : {ls rest : List Lexeme} {as' : List Annotation} → Annots ls as' rest → symbol_at symbols.LeftParen rest ≡ None → symbol_at symbols.LeftParen ls ≡ None
annots_begin no_annots e = e
annots_begin (next_annot d ds) e = annot_begins d

-- hypotheses

no_turnstile : (limit room : ℕ) (s : Sym) (ls : List Lexeme) → list_at (formula limit (suc room)) s (Symbol symbols.Turnstile ∷ ls) ≡ None
unfolding list_at items formula formula_over reading.impl reading.right_chain reading.disj reading.conj reading.left_joined reading.negation reading.signed reading.relation reading.once reading.sum reading.product reading.minus reading.atom is_symbol read_then
no_turnstile limit room s ls = refl

module _ (limit most count room : ℕ) (h : most ≤ room + count) where
  pub formula_at : (ls : List Lexeme) (t : Term) (rest : List Lexeme) → Formula ls t rest → Within most count ls → 7 < next_strength rest →
      TermDone limit most count (formula limit (suc room)) ls t rest
  formula_at ls t rest d w s = formula_room limit most count room ls t rest (formula_done limit most d count room h w s)

  pub sum_at : (ls : List Lexeme) (t : Term) (rest : List Lexeme) → Sum ls t rest → Within most count ls → 2 < next_strength rest →
      TermDone limit most count (sum limit (formula limit room)) ls t rest
  sum_at ls t rest d w s = sum_end limit most count (formula limit room) ls t rest (sum_passes limit most d count room h w (omega (arith, s))) s

  hyps_some : (ls : List Lexeme) (os : List (Option Term)) (rest : List Lexeme) → list_at (formula limit (suc room)) symbols.Semicolon ls ≡ read os (Symbol symbols.Turnstile ∷ rest) →
      (q : Option (List Lexeme)) → symbol_at symbols.Turnstile ls ≡ q → hyps_from (formula limit (suc room)) ls q ≡ read os rest
  unfolding hyps_from
  hyps_some ls os rest e None g = closed_done symbols.Turnstile (list_at (formula limit (suc room)) symbols.Semicolon ls) os rest e
  hyps_some ls os rest e (Some mid) g = absurd (nothing_read (
      sym (no_turnstile limit room symbols.Semicolon mid)
      ∙ subst (λ l. list_at (formula limit (suc room)) symbols.Semicolon l ≡ read os (Symbol symbols.Turnstile ∷ rest)) (symbol_at_some symbols.Turnstile ls mid g) e))

  no_semicolon : (rest : List Lexeme) → symbol_at symbols.Semicolon (Symbol symbols.Turnstile ∷ rest) ≡ None
  unfolding symbol_at is_symbol
  no_semicolon rest = refl

  hyps_none : (rest : List Lexeme) → Within most count (Symbol symbols.Turnstile ∷ rest) →
      Took (List (Option Term)) most count (reading.hyps (formula limit (suc room))) (Symbol symbols.Turnstile ∷ rest) [] rest
  unfolding reading.hyps hyps_from
  hyps_none rest w = record { reads = rw (symbol_at_same symbols.Turnstile rest) refl; within = w.1 }

  hyps_listed : (ls : List Lexeme) (hs : List Term) (rest : List Lexeme) →
      Done (List (Option Term)) most count (list_at (formula limit (suc room)) symbols.Semicolon) ls (map (fit limit) hs) (Symbol symbols.Turnstile ∷ rest) →
      Took (List (Option Term)) most count (reading.hyps (formula limit (suc room))) ls (map (fit limit) hs) rest
  unfolding reading.hyps
  hyps_listed ls hs rest d = record { reads = hyps_some ls (map (fit limit) hs) rest d.reads _ refl; within = d.within.1 }

  hyps_of : {ls all : List Lexeme} {hs : List Term} → Hypotheses ls hs all → (rest : List Lexeme) → all ≡ Symbol symbols.Turnstile ∷ rest → Within most count ls →
      Took (List (Option Term)) most count (reading.hyps (formula limit (suc room))) ls (map (fit limit) hs) rest
  hyps_of (no_hypotheses {ls = ls}) rest e w =
      subst (λ l. Took (List (Option Term)) most count (reading.hyps (formula limit (suc room))) l [] rest) (sym e)
      (hyps_none rest (subst (Within most count) e w))
  hyps_of (hypotheses {ls = ls} {hyps = hs} d) rest e w =
      hyps_listed ls hs rest (listed_done Term (Option Term) (fit limit) Formula symbols.Semicolon (formula limit (suc room)) most count (λ l. 7 < next_strength l) (λ l. omega arith) (λ n. refl)
      formula_at (subst (Separated Term Formula symbols.Semicolon ls hs) e d) w (omega arith) (no_semicolon rest))

-- declarations

no_paren_colon : (ls : List Lexeme) → symbol_at symbols.LeftParen (Symbol symbols.Colon ∷ ls) ≡ None
unfolding symbol_at is_symbol
no_paren_colon ls = refl

no_square_colon : (ls : List Lexeme) → symbol_at symbols.LeftSquare (Symbol symbols.Colon ∷ ls) ≡ None
unfolding symbol_at is_symbol
no_square_colon ls = refl

declaration_reads : (limit room : ℕ) (word name : List ℕ) → IsName name → (ls : List Lexeme) → declaration limit room (Word word ∷ Word name ∷ ls) ≡ declaration_of limit room word name ls
unfolding declaration read_then name_at
declaration_reads limit room word name n ls = rw (is_name_yes name n) refl

module _ (limit room : ℕ) (name : List ℕ) (ls : List Lexeme) where
  as_sort : declaration_of limit room (codes "sort") name ls ≡ read (Some (Sort name)) ls
  unfolding declaration_of
  as_sort = refl

  as_function : declaration_of limit room (codes "fun") name ls ≡ function_of name ls
  unfolding declaration_of
  as_function = refl

  as_theorem : declaration_of limit room (codes "theorem") name ls ≡ theorem_of limit room name ls
  unfolding declaration_of
  as_theorem = refl

  as_goal : declaration_of limit room (codes "goal") name ls ≡ goal_of limit room name ls
  unfolding declaration_of
  as_goal = refl

  as_limit : declaration_of limit room (codes "limit") name ls ≡ limit_of name ls
  unfolding declaration_of
  as_limit = refl

function_reads : (name : List ℕ) (ls : List Lexeme) (sorts : List (List ℕ)) (result : List ℕ) (rest : List Lexeme) → IsSort result →
    in_parentheses sort_at ls ≡ read sorts (Symbol symbols.Colon ∷ Word result ∷ rest) → function_of name ls ≡ read (Some (Fun name sorts result)) rest
unfolding function_of read_then read_map sort_at
function_reads name ls sorts result rest i e =
    rw (closed_done symbols.Colon (in_parentheses sort_at ls) sorts (Word result ∷ rest) e, is_sort_yes result i) refl

theorem_reads : (limit room : ℕ) (name : List ℕ) (ls : List Lexeme) (bounds : List Bound) (mid : List Lexeme) (as' : List (Option Annotation)) (after : List Lexeme) (body : Option Term) (rest : List Lexeme) →
    binders ls ≡ read bounds mid → annots (sum limit (formula limit room)) mid ≡ read as' (Symbol symbols.Colon ∷ after) → formula limit (suc room) after ≡ read body rest →
    theorem_of limit room name ls ≡ read (theorem_with name bounds (all_of as') body) rest
unfolding theorem_of read_then read_map
theorem_reads limit room name ls bounds mid as' after body rest e f g =
    rw (e, closed_done symbols.Colon (annots (sum limit (formula limit room)) mid) as' after f, g) refl

goal_reads : (limit room : ℕ) (name : List ℕ) (ls : List Lexeme) (bounds : List Bound) (mid : List Lexeme) (hs : List (Option Term)) (after : List Lexeme) (show : Option Term) (rest : List Lexeme) →
    binders ls ≡ read bounds (Symbol symbols.Colon ∷ mid) → reading.hyps (formula limit (suc room)) mid ≡ read hs after → formula limit (suc room) after ≡ read show rest →
    goal_of limit room name ls ≡ read (goal_with name bounds (all_of hs) show) rest
unfolding goal_of read_then read_map
goal_reads limit room name ls bounds mid hs after show rest e f g =
    rw (closed_done symbols.Colon (binders ls) bounds mid e, f, g) refl

limit_reads : (name : List ℕ) (value : _) (rest : List Lexeme) → limit_of name (Number value ∷ rest) ≡ read (Some (Limit name value)) rest
unfolding limit_of
limit_reads name value rest = refl

-- a word in place of an equal one
with_word : (limit room : ℕ) (word key name : List ℕ) → IsName name → word ≡ key → (ls : List Lexeme) (r : Read (Option Declaration)) →
    declaration_of limit room key name ls ≡ r → declaration limit room (Word word ∷ Word name ∷ ls) ≡ r
with_word limit room word key name n e ls r h = declaration_reads limit room word name n ls ∙ ap (λ w. declaration_of limit room w name ls) e ∙ h

pub declaration_done : (limit most count room : ℕ) → most ≤ room + count → {ls rest : List Lexeme} {d : Declaration} → Declares ls d rest → Within most count ls → 7 < next_strength rest →
    declaration limit room ls ≡ read (fit_declaration limit d) rest
unfolding fit_declaration
declaration_done limit most count room h (new_sort {word = word} {name = name} {rest = rest} e n) w s =
    with_word limit room word _ name n e rest _ (as_sort limit room name rest)
declaration_done limit most count room h (new_function {word = word} {name = name} {result = result} {sorts = sorts} {ls = ls} {rest = rest} e n d i) w s =
    let k = arguments_done most count d w.1.1 (no_paren_colon (Word result ∷ rest)) in
    with_word limit room word _ name n e ls _ (as_function limit room name ls ∙ function_reads name ls sorts result rest i k.reads)
declaration_done limit most count room h (new_theorem {word = word} {name = name} {bounds = bounds} {annotations = as'} {body = body} {ls = ls} {mid = mid} {after = after} {rest = rest} e n bs ds d) w s =
    let b = binders_done most count bs w.1.1 (annots_begin ds (no_paren_colon after)) in
    let a = annots_done limit most count (sum limit (formula limit room)) (sum_at limit most count room h) ds b.within (no_square_colon after) in
    let f = formula_at limit most count room h after body rest d a.within.1 s in
    with_word limit room word _ name n e ls _ (as_theorem limit room name ls ∙ theorem_reads limit room name ls bounds mid _ after _ rest b.reads a.reads f.reads)
declaration_done limit most count room h (new_goal {word = word} {name = name} {bounds = bounds} {hyps = hs} {show = show} {ls = ls} {mid = mid} {after = after} {rest = rest} e n bs ds d) w s =
    let b = binders_done most count bs w.1.1 (no_paren_colon mid) in
    let a = hyps_of limit most count room h ds after refl b.within.1 in
    let f = formula_at limit most count room h after show rest d a.within s in
    with_word limit room word _ name n e ls _ (as_goal limit room name ls ∙ goal_reads limit room name ls bounds mid _ after _ rest b.reads a.reads f.reads)
declaration_done limit most count room h (new_limit {word = word} {name = name} {value = value} {rest = rest} e n) w s =
    with_word limit room word _ name n e (Number value ∷ rest) _ (as_limit limit room name (Number value ∷ rest) ∙ limit_reads name value rest)
