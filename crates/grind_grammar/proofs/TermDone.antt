-- What is derived as a formula or a term is read, where what follows cannot go on with it.
use Rattle.std.proofs.Common.{◌≡◌, ℕ, zero, suc, ◌+◌, ◌-◌, ◌<◌, ◌≤◌, Bool, true, false, List, [], ◌∷◌, length, Option, Some, None, refl, sym, ◌∙◌, ap, subst, arith, codes, Contains}
use Rattle.std.specs.Prelude.{map}
use Rattle.std.specs.Str.{bytes_eq}
use Rattle.grind_tokens.specs.declared.tokens.Sym.{Sym}
use Rattle.grind_tokens.specs.declared.tokens.Sym.TheVariants as symbols
use Rattle.grind_grammar.specs.declared.syntax.Unary.TheVariants as unaries
use Rattle.grind_grammar.specs.declared.syntax.Binary.{Binary}
use Rattle.grind_grammar.specs.declared.syntax.Binary.TheVariants as binaries
use Rattle.grind_grammar.specs.Names.{reserved, IsName}
use Rattle.grind_grammar.specs.Terms.{Term, Row, True, False, Apply, One, Two, none, more}
use Rattle.grind_grammar.specs.Terms as terms
use Rattle.grind_grammar.specs.Lexemes.{Lexeme, Word, Number, Symbol}
use Rattle.grind_grammar.specs.Grammar.{Compares, eq, ne, lt, le, gt, ge, Formula, only_impl, iff, Impl, only_disj, implies, Disj, only_conj, or, Conj, only_neg, and, Negation, only_rel, not, Relation, only_sum, compare, Sum, only_prod, add, sub, Product, only_minus, mul, Minus, only_atom, minus, Atom, number, truth, falsehood, constant, application, inside, Parts, last_part, next_part}
use Rattle.grind_grammar.specs.Parentheses.{open_after_symbol, Within}
use Rattle.grind_grammar.specs.Reading.{Read, Reader, read, read_map, read_then, is_symbol, symbol_at, closed, is_name, items, list_at, fit, all_of, row_from, applied, once, right_chain, left_joined, left_chain, signed, product_op, sum_op, relation_op, conj_op, disj_op, impl_op, formula_op, op_at, parts_behind, word_atom, atom, product, sum, relation, negation, conj, disj, impl, formula_over, formula}
use Rattle.grind_grammar.specs.Reading as reading
use Rattle.grind_grammar.specs.Strength.{strength, next_strength}
use Rattle.grind_grammar.proofs.ReadLemmas.{bytes_eq_is, is_name_yes, symbol_at_same}
use Rattle.grind_grammar.proofs.FitLemmas.{applied_fits}
use Rattle.grind_grammar.proofs.ChainDone.{product_ends, sum_ends, relation_ends, conj_ends, disj_ends, impl_ends, formula_ends, op_at_none, no_left_paren, closed_done, TermDone, once_only, once_joins, RightDone, right_only, right_joins, Passes, chain_begins, chain_goes_on, chain_ends, sign_goes, sign_only, ItemsDone, items_last, items_next, list_done}

-- names are not the words of the two truths

unequal : (name word : List ℕ) (b : Bool) → IsName name → Contains reserved word → bytes_eq name word ≡ b → b ≡ false
unequal name word false n c e = refl
unequal name word true n c e = absurd (n (subst (Contains reserved) (sym (bytes_eq_is name word e)) c))

pub name_is_no : (name word : List ℕ) → IsName name → Contains reserved word → bytes_eq name word ≡ false
name_is_no name word n c = unequal name word _ n c refl

true_is_reserved : Contains reserved (codes "true")
true_is_reserved = (6, omega arith, refl)

false_is_reserved : Contains reserved (codes "false")
false_is_reserved = (7, omega arith, refl)

-- the relations' symbols

compare_strength : {s : Sym} {op : Binary} → Compares s op → strength s ≡ 3
compare_strength eq = refl
compare_strength ne = refl
compare_strength lt = refl
compare_strength le = refl
compare_strength gt = refl
compare_strength ge = refl

compare_op : {s : Sym} {op : Binary} → Compares s op → relation_op s ≡ Some op
compare_op eq = refl
compare_op ne = refl
compare_op lt = refl
compare_op le = refl
compare_op gt = refl
compare_op ge = refl

compare_plain : {s : Sym} {op : Binary} → Compares s op → (count : ℕ) → open_after_symbol count s ≡ count
compare_plain eq count = refl
compare_plain ne count = refl
compare_plain lt count = refl
compare_plain le count = refl
compare_plain gt count = refl
compare_plain ge count = refl

compare_within : {s : Sym} {op : Binary} → Compares s op → (most count : ℕ) (ls : List Lexeme) → Within most count (Symbol s ∷ ls) → Within most count ls
compare_within c most count ls w = subst (λ n. Within most n ls) (compare_plain c count) w.1

module _ (limit most count : ℕ) (inner : Reader (Option Term)) where
  -- atoms

  atom_number : (ls : List Lexeme) (w : Within most count ls) → (value : _) → TermDone limit most count (atom limit inner) (Number value ∷ ls) (terms.Number value) ls
  unfolding atom
  atom_number ls w value = record { reads = refl; within = w; shorter = omega arith }

  atom_true : (ls : List Lexeme) → Within most count ls → (word : List ℕ) → word ≡ codes "true" → TermDone limit most count (atom limit inner) (Word word ∷ ls) True ls
  unfolding atom word_atom
  atom_true ls w word e = subst (λ v. TermDone limit most count (atom limit inner) (Word v ∷ ls) True ls) (sym e)
      (record { reads = refl; within = w; shorter = omega arith })

  atom_false : (ls : List Lexeme) → Within most count ls → (word : List ℕ) → word ≡ codes "false" → TermDone limit most count (atom limit inner) (Word word ∷ ls) False ls
  unfolding atom word_atom
  atom_false ls w word e = subst (λ v. TermDone limit most count (atom limit inner) (Word v ∷ ls) False ls) (sym e)
      (record { reads = refl; within = w; shorter = omega arith })

  name_reads : (name : List ℕ) → IsName name → (ls : List Lexeme) → atom limit inner (Word name ∷ ls) ≡ parts_behind limit inner name ls (symbol_at symbols.LeftParen ls)
  unfolding atom word_atom
  name_reads name n ls = rw (name_is_no name (codes "true") n true_is_reserved, name_is_no name (codes "false") n false_is_reserved, is_name_yes name n) refl

  constant_reads : (name : List ℕ) (ls : List Lexeme) → symbol_at symbols.LeftParen ls ≡ None →
      parts_behind limit inner name ls (symbol_at symbols.LeftParen ls) ≡ read (fit limit (Apply name none)) ls
  unfolding parts_behind
  constant_reads name ls e = rw e refl

  atom_constant : (ls : List Lexeme) → Within most count ls → (name : List ℕ) → IsName name → 0 < next_strength ls →
      TermDone limit most count (atom limit inner) (Word name ∷ ls) (Apply name none) ls
  atom_constant ls w name n h = record {
    reads = name_reads name n ls ∙ constant_reads name ls (no_left_paren ls h);
    within = w;
    shorter = omega arith;
  }

  application_reads : (name : List ℕ) (mid : List Lexeme) (ts : List Term) (rest : List Lexeme) →
      list_at inner symbols.Comma mid ≡ read (map (fit limit) ts) (Symbol symbols.RightParen ∷ rest) →
      parts_behind limit inner name (Symbol symbols.LeftParen ∷ mid) (symbol_at symbols.LeftParen (Symbol symbols.LeftParen ∷ mid))
      ≡ read (fit limit (Apply name (row_from ts))) rest
  unfolding parts_behind read_map
  application_reads name mid ts rest e =
      rw (symbol_at_same symbols.LeftParen mid, closed_done symbols.RightParen (list_at inner symbols.Comma mid) (map (fit limit) ts) rest e, applied_fits limit name ts) refl

  inside_reads : (ls : List Lexeme) (x : Option Term) (rest : List Lexeme) → inner ls ≡ read x (Symbol symbols.RightParen ∷ rest) →
      atom limit inner (Symbol symbols.LeftParen ∷ ls) ≡ read x rest
  unfolding atom is_symbol
  inside_reads ls x rest e = closed_done symbols.RightParen (inner ls) x rest e

  -- the levels

  minus_blocked : (ls : List Lexeme) → atom limit inner (Symbol symbols.Minus ∷ ls) ≡ None
  unfolding atom is_symbol
  minus_blocked ls = refl

  negation_blocked : (ls : List Lexeme) → relation limit inner (Symbol symbols.Not ∷ ls) ≡ None
  unfolding relation once sum product reading.minus left_joined signed atom is_symbol read_then
  negation_blocked ls = refl

  minus_only : (ls : List Lexeme) (t : Term) (rest : List Lexeme) → TermDone limit most count (atom limit inner) ls t rest → TermDone limit most count (reading.minus limit inner) ls t rest
  unfolding reading.minus
  minus_only ls t rest d = sign_only limit most count symbols.Minus unaries.Neg (atom limit inner) minus_blocked ls t rest d

  minus_goes : (ls : List Lexeme) (t : Term) (rest : List Lexeme) → TermDone limit most count (reading.minus limit inner) ls t rest →
      TermDone limit most count (reading.minus limit inner) (Symbol symbols.Minus ∷ ls) (One unaries.Neg t) rest
  unfolding reading.minus
  minus_goes ls t rest d = sign_goes limit most count symbols.Minus unaries.Neg (atom limit inner) ls t rest d

  product_end : (ls : List Lexeme) (t : Term) (rest : List Lexeme) → Passes limit most count product_op (reading.minus limit inner) ls t rest → 1 < next_strength rest →
      TermDone limit most count (product limit inner) ls t rest
  unfolding product
  product_end ls t rest p h = chain_ends limit most count product_op (reading.minus limit inner) ls t rest p (op_at_none 1 product_op product_ends rest h)

  pub sum_end : (ls : List Lexeme) (t : Term) (rest : List Lexeme) → Passes limit most count sum_op (product limit inner) ls t rest → 2 < next_strength rest →
      TermDone limit most count (sum limit inner) ls t rest
  unfolding sum
  sum_end ls t rest p h = chain_ends limit most count sum_op (product limit inner) ls t rest p (op_at_none 2 sum_op sum_ends rest h)

  relation_only : (ls : List Lexeme) (t : Term) (rest : List Lexeme) → TermDone limit most count (sum limit inner) ls t rest → 3 < next_strength rest →
      TermDone limit most count (relation limit inner) ls t rest
  unfolding relation
  relation_only ls t rest d h = once_only limit most count relation_op (sum limit inner) (sum limit inner) ls t rest d (op_at_none 3 relation_op relation_ends rest h)

  relation_joins : (s : Sym) (op : Binary) → Compares s op → (ls : List Lexeme) (a b : Term) (mid rest : List Lexeme) →
      TermDone limit most count (sum limit inner) ls a (Symbol s ∷ mid) → TermDone limit most count (sum limit inner) mid b rest →
      TermDone limit most count (relation limit inner) ls (Two op a b) rest
  unfolding relation
  relation_joins s op c ls a b mid rest d e = once_joins limit most count relation_op (sum limit inner) (sum limit inner) s op (compare_op c) ls a b mid rest d e

  negation_only : (ls : List Lexeme) (t : Term) (rest : List Lexeme) → TermDone limit most count (relation limit inner) ls t rest → TermDone limit most count (negation limit inner) ls t rest
  unfolding negation
  negation_only ls t rest d = sign_only limit most count symbols.Not unaries.Not (relation limit inner) negation_blocked ls t rest d

  negation_goes : (ls : List Lexeme) (t : Term) (rest : List Lexeme) → TermDone limit most count (negation limit inner) ls t rest →
      TermDone limit most count (negation limit inner) (Symbol symbols.Not ∷ ls) (One unaries.Not t) rest
  unfolding negation
  negation_goes ls t rest d = sign_goes limit most count symbols.Not unaries.Not (relation limit inner) ls t rest d

  conj_end : (ls : List Lexeme) (t : Term) (rest : List Lexeme) → Passes limit most count conj_op (negation limit inner) ls t rest → 4 < next_strength rest →
      TermDone limit most count (conj limit inner) ls t rest
  unfolding conj
  conj_end ls t rest p h = chain_ends limit most count conj_op (negation limit inner) ls t rest p (op_at_none 4 conj_op conj_ends rest h)

  disj_end : (ls : List Lexeme) (t : Term) (rest : List Lexeme) → Passes limit most count disj_op (conj limit inner) ls t rest → 5 < next_strength rest →
      TermDone limit most count (disj limit inner) ls t rest
  unfolding disj
  disj_end ls t rest p h = chain_ends limit most count disj_op (conj limit inner) ls t rest p (op_at_none 5 disj_op disj_ends rest h)

  impl_end : (ls : List Lexeme) (t : Term) (rest : List Lexeme) → RightDone limit most count impl_op (disj limit inner) ls t rest → TermDone limit most count (impl limit inner) ls t rest
  unfolding impl
  impl_end ls t rest d = let k = d (suc (length ls)) (omega arith) in record { reads = k.reads; within = k.within; shorter = k.shorter }

  formula_only : (ls : List Lexeme) (t : Term) (rest : List Lexeme) → TermDone limit most count (impl limit inner) ls t rest → 7 < next_strength rest →
      TermDone limit most count (formula_over limit inner) ls t rest
  unfolding formula_over
  formula_only ls t rest d h = once_only limit most count formula_op (impl limit inner) (impl limit inner) ls t rest d (op_at_none 7 formula_op formula_ends rest h)

  formula_joins : (ls : List Lexeme) (a b : Term) (mid rest : List Lexeme) → TermDone limit most count (impl limit inner) ls a (Symbol symbols.Iff ∷ mid) →
      TermDone limit most count (impl limit inner) mid b rest → TermDone limit most count (formula_over limit inner) ls (Two binaries.Iff a b) rest
  unfolding formula_over
  formula_joins ls a b mid rest d e = once_joins limit most count formula_op (impl limit inner) (impl limit inner) symbols.Iff binaries.Iff refl ls a b mid rest d e

-- parts, as the terms of a row

pub record PartsDone (limit most count : ℕ) (inner : Reader (Option Term)) (ls : List Lexeme) (row : Row) (rest : List Lexeme) : Type 0 where
  pub terms : List Term
  pub is_row : row_from terms ≡ row
  pub done : ItemsDone (Option Term) most count inner symbols.Comma ls (map (fit limit) terms) rest

module _ (limit most count room : ℕ) where
  pub formula_room : (ls : List Lexeme) (t : Term) (rest : List Lexeme) → TermDone limit most count (formula_over limit (formula limit room)) ls t rest →
      TermDone limit most count (formula limit (suc room)) ls t rest
  unfolding formula
  formula_room ls t rest d = record { reads = d.reads; within = d.within; shorter = d.shorter }

  parts_last : (ls : List Lexeme) (t : Term) (rest : List Lexeme) → TermDone limit most count (formula_over limit (formula limit room)) ls t rest →
      symbol_at symbols.Comma rest ≡ None → PartsDone limit most count (formula limit (suc room)) ls (more t none) rest
  unfolding row_from
  parts_last ls t rest d e = record {
    terms = t ∷ [];
    is_row = refl;
    done = items_last (Option Term) most count (formula limit (suc room)) symbols.Comma ls (fit limit t) rest (formula_room ls t rest d) e;
  }

  parts_next : (ls : List Lexeme) (t : Term) (mid : List Lexeme) (row : Row) (rest : List Lexeme) →
      TermDone limit most count (formula_over limit (formula limit room)) ls t (Symbol symbols.Comma ∷ mid) →
      PartsDone limit most count (formula limit (suc room)) mid row rest → PartsDone limit most count (formula limit (suc room)) ls (more t row) rest
  unfolding row_from
  parts_next ls t mid row rest d p = record {
    terms = t ∷ p.terms;
    is_row = ap (more t) p.is_row;
    done = items_next (Option Term) most count (formula limit (suc room)) symbols.Comma ls (fit limit t) mid (map (fit limit) p.terms) rest (formula_room ls t (Symbol symbols.Comma ∷ mid) d) p.done;
  }

-- where a parenthesis may open, there is room

module _ (limit most count : ℕ) where
  pub back : (ls : List Lexeme) → Within most (count + 1 - 1) ls → Within most count ls
  back ls w = let e : count + 1 - 1 ≡ count = omega arith in subst (λ n. Within most n ls) e w

  atom_inside : (room : ℕ) → most ≤ room + count → (ls : List Lexeme) (t : Term) (rest : List Lexeme) → count + 1 ≤ most →
      ((below : ℕ) → most ≤ below + (count + 1) → TermDone limit most (count + 1) (formula_over limit (formula limit below)) ls t (Symbol symbols.RightParen ∷ rest)) →
      TermDone limit most count (atom limit (formula limit room)) (Symbol symbols.LeftParen ∷ ls) t rest
  atom_inside zero h ls t rest g d = absurd (omega (arith, h, g))
  atom_inside (suc room) h ls t rest g d =
      let k = d room (omega (arith, h)) in
      let f = formula_room limit most (count + 1) room ls t (Symbol symbols.RightParen ∷ rest) k in
      let l = k.shorter in
      record {
        reads = inside_reads limit most count (formula limit (suc room)) ls (fit limit t) rest f.reads;
        within = back rest k.within.1;
        shorter = omega (arith, l);
      }

  atom_application : (room : ℕ) → most ≤ room + count → (name : List ℕ) → IsName name → (ls : List Lexeme) (row : Row) (rest : List Lexeme) → count + 1 ≤ most →
      ((below : ℕ) → most ≤ below + (count + 1) → PartsDone limit most (count + 1) (formula limit (suc below)) ls row (Symbol symbols.RightParen ∷ rest)) →
      TermDone limit most count (atom limit (formula limit room)) (Word name ∷ Symbol symbols.LeftParen ∷ ls) (Apply name row) rest
  atom_application zero h name n ls row rest g d = absurd (omega (arith, h, g))
  atom_application (suc room) h name n ls row rest g d =
      let inner = formula limit (suc room) in
      let p = d room (omega (arith, h)) in
      let k = list_done (Option Term) most (count + 1) inner symbols.Comma ls (map (fit limit) p.terms) (Symbol symbols.RightParen ∷ rest) p.done in
      let l = k.shorter in
      record {
        reads = name_reads limit most count inner name n (Symbol symbols.LeftParen ∷ ls)
            ∙ application_reads limit most count inner name ls p.terms rest k.reads
            ∙ ap (λ r. read (fit limit (Apply name r)) rest) p.is_row;
        within = back rest k.within.1;
        shorter = omega (arith, l);
      }

-- derivations

no_comma : (rest : List Lexeme) → symbol_at symbols.Comma (Symbol symbols.RightParen ∷ rest) ≡ None
unfolding symbol_at is_symbol
no_comma rest = refl

module _ (limit most : ℕ) where
  mutual
    pub formula_done : {ls rest : List Lexeme} {t : Term} → Formula ls t rest → (count room : ℕ) → most ≤ room + count → Within most count ls → 7 < next_strength rest →
        TermDone limit most count (formula_over limit (formula limit room)) ls t rest
    formula_done (only_impl {ls = ls} {rest = rest} {t = t} d) count room h w s =
        let i = formula limit room in
        formula_only limit most count i ls t rest (impl_end limit most count i ls t rest (impl_done d count room h w (omega (arith, s)))) s
    formula_done (iff {ls = ls} {mid = mid} {rest = rest} {a = a} {b = b} d e) count room h w s =
        let i = formula limit room in
        let x = impl_end limit most count i ls a (Symbol symbols.Iff ∷ mid) (impl_done d count room h w (omega arith)) in
        formula_joins limit most count i ls a b mid rest x
        (impl_end limit most count i mid b rest (impl_done e count room h x.within.1 (omega (arith, s))))

    pub impl_done : {ls rest : List Lexeme} {t : Term} → Impl ls t rest → (count room : ℕ) → most ≤ room + count → Within most count ls → 6 < next_strength rest →
        RightDone limit most count impl_op (disj limit (formula limit room)) ls t rest
    impl_done (only_disj {ls = ls} {rest = rest} {t = t} d) count room h w s =
        let i = formula limit room in
        right_only limit most count impl_op (disj limit i) ls t rest
        (disj_end limit most count i ls t rest (disj_passes d count room h w (omega (arith, s))) (omega (arith, s)))
        (op_at_none 6 impl_op impl_ends rest s)
    impl_done (implies {ls = ls} {mid = mid} {rest = rest} {a = a} {b = b} d e) count room h w s =
        let i = formula limit room in
        let x = disj_end limit most count i ls a (Symbol symbols.Arrow ∷ mid) (disj_passes d count room h w (omega arith)) (omega arith) in
        right_joins limit most count impl_op (disj limit i) symbols.Arrow binaries.Implies refl ls a b mid rest x (impl_done e count room h x.within.1 s)

    pub disj_passes : {ls rest : List Lexeme} {t : Term} → Disj ls t rest → (count room : ℕ) → most ≤ room + count → Within most count ls → 4 < next_strength rest →
        Passes limit most count disj_op (conj limit (formula limit room)) ls t rest
    disj_passes (only_conj {ls = ls} {rest = rest} {t = t} d) count room h w s =
        let i = formula limit room in
        chain_begins limit most count disj_op (conj limit i) ls t rest
        (conj_end limit most count i ls t rest (conj_passes d count room h w (omega (arith, s))) s)
    disj_passes (or {ls = ls} {mid = mid} {rest = rest} {a = a} {b = b} d e) count room h w s =
        let i = formula limit room in
        let x = disj_passes d count room h w (omega arith) in
        chain_goes_on limit most count disj_op (conj limit i) symbols.Or binaries.Or refl ls a b mid rest x
        (conj_end limit most count i mid b rest (conj_passes e count room h x.within.1 (omega (arith, s))) s)

    pub conj_passes : {ls rest : List Lexeme} {t : Term} → Conj ls t rest → (count room : ℕ) → most ≤ room + count → Within most count ls → 3 < next_strength rest →
        Passes limit most count conj_op (negation limit (formula limit room)) ls t rest
    conj_passes (only_neg {ls = ls} {rest = rest} {t = t} d) count room h w s =
        chain_begins limit most count conj_op (negation limit (formula limit room)) ls t rest (negation_done d count room h w s)
    conj_passes (and {ls = ls} {mid = mid} {rest = rest} {a = a} {b = b} d e) count room h w s =
        let x = conj_passes d count room h w (omega arith) in
        chain_goes_on limit most count conj_op (negation limit (formula limit room)) symbols.And binaries.And refl ls a b mid rest x
        (negation_done e count room h x.within.1 s)

    pub negation_done : {ls rest : List Lexeme} {t : Term} → Negation ls t rest → (count room : ℕ) → most ≤ room + count → Within most count ls → 3 < next_strength rest →
        TermDone limit most count (negation limit (formula limit room)) ls t rest
    negation_done (only_rel {ls = ls} {rest = rest} {t = t} d) count room h w s =
        negation_only limit most count (formula limit room) ls t rest (relation_done d count room h w s)
    negation_done (not {ls = ls} {rest = rest} {t = t} d) count room h w s =
        negation_goes limit most count (formula limit room) ls t rest (negation_done d count room h w.1 s)

    pub relation_done : {ls rest : List Lexeme} {t : Term} → Relation ls t rest → (count room : ℕ) → most ≤ room + count → Within most count ls → 3 < next_strength rest →
        TermDone limit most count (relation limit (formula limit room)) ls t rest
    relation_done (only_sum {ls = ls} {rest = rest} {t = t} d) count room h w s =
        let i = formula limit room in
        relation_only limit most count i ls t rest (sum_end limit most count i ls t rest (sum_passes d count room h w (omega (arith, s))) (omega (arith, s))) s
    relation_done (compare {ls = ls} {mid = mid} {rest = rest} {sym = sym} {op = op} {a = a} {b = b} c d e) count room h w s =
        let i = formula limit room in
        let k = compare_strength c in
        let x = sum_end limit most count i ls a (Symbol sym ∷ mid) (sum_passes d count room h w (omega (arith, k))) (omega (arith, k)) in
        relation_joins limit most count i sym op c ls a b mid rest x
        (sum_end limit most count i mid b rest (sum_passes e count room h (compare_within c most count mid x.within) (omega (arith, s))) (omega (arith, s)))

    pub sum_passes : {ls rest : List Lexeme} {t : Term} → Sum ls t rest → (count room : ℕ) → most ≤ room + count → Within most count ls → 1 < next_strength rest →
        Passes limit most count sum_op (product limit (formula limit room)) ls t rest
    sum_passes (only_prod {ls = ls} {rest = rest} {t = t} d) count room h w s =
        let i = formula limit room in
        chain_begins limit most count sum_op (product limit i) ls t rest (product_end limit most count i ls t rest (product_passes d count room h w (omega (arith, s))) s)
    sum_passes (add {ls = ls} {mid = mid} {rest = rest} {a = a} {b = b} d e) count room h w s =
        let i = formula limit room in
        let x = sum_passes d count room h w (omega arith) in
        chain_goes_on limit most count sum_op (product limit i) symbols.Plus binaries.Add refl ls a b mid rest x
        (product_end limit most count i mid b rest (product_passes e count room h x.within.1 (omega (arith, s))) s)
    sum_passes (sub {ls = ls} {mid = mid} {rest = rest} {a = a} {b = b} d e) count room h w s =
        let i = formula limit room in
        let x = sum_passes d count room h w (omega arith) in
        chain_goes_on limit most count sum_op (product limit i) symbols.Minus binaries.Sub refl ls a b mid rest x
        (product_end limit most count i mid b rest (product_passes e count room h x.within.1 (omega (arith, s))) s)

    pub product_passes : {ls rest : List Lexeme} {t : Term} → Product ls t rest → (count room : ℕ) → most ≤ room + count → Within most count ls → 0 < next_strength rest →
        Passes limit most count product_op (reading.minus limit (formula limit room)) ls t rest
    product_passes (only_minus {ls = ls} {rest = rest} {t = t} d) count room h w s =
        chain_begins limit most count product_op (reading.minus limit (formula limit room)) ls t rest (minus_done d count room h w s)
    product_passes (mul {ls = ls} {mid = mid} {rest = rest} {a = a} {b = b} d e) count room h w s =
        let x = product_passes d count room h w (omega arith) in
        chain_goes_on limit most count product_op (reading.minus limit (formula limit room)) symbols.Star binaries.Mul refl ls a b mid rest x
        (minus_done e count room h x.within.1 s)

    pub minus_done : {ls rest : List Lexeme} {t : Term} → Minus ls t rest → (count room : ℕ) → most ≤ room + count → Within most count ls → 0 < next_strength rest →
        TermDone limit most count (reading.minus limit (formula limit room)) ls t rest
    minus_done (only_atom {ls = ls} {rest = rest} {t = t} d) count room h w s =
        minus_only limit most count (formula limit room) ls t rest (atom_done d count room h w s)
    minus_done (minus {ls = ls} {rest = rest} {t = t} d) count room h w s =
        minus_goes limit most count (formula limit room) ls t rest (minus_done d count room h w.1 s)

    pub atom_done : {ls rest : List Lexeme} {t : Term} → Atom ls t rest → (count room : ℕ) → most ≤ room + count → Within most count ls → 0 < next_strength rest →
        TermDone limit most count (atom limit (formula limit room)) ls t rest
    atom_done (number {value = value} {rest = rest}) count room h w s = atom_number limit most count (formula limit room) rest w.1 value
    atom_done (truth {word = word} {rest = rest} e) count room h w s = atom_true limit most count (formula limit room) rest w.1 word e
    atom_done (falsehood {word = word} {rest = rest} e) count room h w s = atom_false limit most count (formula limit room) rest w.1 word e
    atom_done (constant {name = name} {rest = rest} n) count room h w s = atom_constant limit most count (formula limit room) rest w.1 name n s
    atom_done (application {name = name} {ls = ls} {rest = rest} {row = row} n d) count room h w s =
        atom_application limit most count room h name n ls row rest w.1.0 (λ below g. parts_done d (count + 1) below g w.1.1 (omega arith) (no_comma rest))
    atom_done (inside {ls = ls} {rest = rest} {t = t} d) count room h w s =
        atom_inside limit most count room h ls t rest w.0 (λ below g. formula_done d (count + 1) below g w.1 (omega arith))

    pub parts_done : {ls rest : List Lexeme} {row : Row} → Parts ls row rest → (count room : ℕ) → most ≤ room + count → Within most count ls → 7 < next_strength rest →
        symbol_at symbols.Comma rest ≡ None → PartsDone limit most count (formula limit (suc room)) ls row rest
    parts_done (last_part {ls = ls} {rest = rest} {t = t} d) count room h w s e =
        parts_last limit most count room ls t rest (formula_done d count room h w s) e
    parts_done (next_part {ls = ls} {mid = mid} {rest = rest} {t = t} {row = row} d p) count room h w s e =
        let x = formula_done d count room h w (omega arith) in
        parts_next limit most count room ls t mid row rest x (parts_done p count room h x.within.1 s e)
