-- Chains, signs and lists are read, where their parts are read.
use Rattle.std.proofs.Common.{◌≡◌, ℕ, zero, suc, ◌<◌, Bool, true, false, List, [], ◌∷◌, length, Option, Some, None, refl, sym, ◌∙◌, subst, arith}
use Rattle.std.specs.Prelude.{if◌then◌else◌}
use Rattle.grind_tokens.specs.declared.tokens.Sym.{Sym}
use Rattle.grind_tokens.specs.declared.tokens.Sym.TheVariants as symbols
use Rattle.grind_grammar.specs.declared.syntax.Unary.{Unary}
use Rattle.grind_grammar.specs.declared.syntax.Binary.{Binary}
use Rattle.grind_grammar.specs.Terms.{Term, One, Two}
use Rattle.grind_grammar.specs.Lexemes.{Lexeme, Word, Number, Symbol}
use Rattle.grind_grammar.specs.Parentheses.{Within}
use Rattle.grind_grammar.specs.Reading.{Read, Reader, read, read_map, read_then, is_symbol, symbol_at, closed, items_behind, items, list_at, fit, one, op_at, joined_behind, once, right_chain, left_behind, left_chain, left_joined, signed, product_op, sum_op, relation_op, conj_op, disj_op, impl_op, formula_op}
use Rattle.grind_grammar.specs.Strength.{strength, next_strength}
use Rattle.grind_grammar.proofs.ReadLemmas.{nothing_read, is_symbol_same, is_symbol_is, symbol_at_same}
use Rattle.grind_grammar.proofs.FitLemmas.{one_fits, two_fits}

-- no symbol above a strength is an operator of the level

pub product_ends : (s : Sym) → 1 < strength s → product_op s ≡ None
product_ends symbols.Star h = absurd (omega (arith, h))
product_ends _ h = refl

pub sum_ends : (s : Sym) → 2 < strength s → sum_op s ≡ None
sum_ends symbols.Plus h = absurd (omega (arith, h))
sum_ends symbols.Minus h = absurd (omega (arith, h))
sum_ends _ h = refl

pub relation_ends : (s : Sym) → 3 < strength s → relation_op s ≡ None
relation_ends symbols.Eq h = absurd (omega (arith, h))
relation_ends symbols.Ne h = absurd (omega (arith, h))
relation_ends symbols.Lt h = absurd (omega (arith, h))
relation_ends symbols.Le h = absurd (omega (arith, h))
relation_ends symbols.Gt h = absurd (omega (arith, h))
relation_ends symbols.Ge h = absurd (omega (arith, h))
relation_ends _ h = refl

pub conj_ends : (s : Sym) → 4 < strength s → conj_op s ≡ None
conj_ends symbols.And h = absurd (omega (arith, h))
conj_ends _ h = refl

pub disj_ends : (s : Sym) → 5 < strength s → disj_op s ≡ None
disj_ends symbols.Or h = absurd (omega (arith, h))
disj_ends _ h = refl

pub impl_ends : (s : Sym) → 6 < strength s → impl_op s ≡ None
impl_ends symbols.Arrow h = absurd (omega (arith, h))
impl_ends _ h = refl

pub formula_ends : (s : Sym) → 7 < strength s → formula_op s ≡ None
formula_ends symbols.Iff h = absurd (omega (arith, h))
formula_ends _ h = refl

pub op_at_none : (k : ℕ) (ops : Sym → Option Binary) → ((s : Sym) → k < strength s → ops s ≡ None) → (ls : List Lexeme) → k < next_strength ls → op_at ops ls ≡ None
unfolding op_at
op_at_none k ops h (Symbol s ∷ ls) less = rw (h s less) refl
op_at_none k ops h [] less = refl
op_at_none k ops h (Word bytes ∷ ls) less = refl
op_at_none k ops h (Number value ∷ ls) less = refl

pub no_left_paren : (ls : List Lexeme) → 0 < next_strength ls → symbol_at symbols.LeftParen ls ≡ None
unfolding symbol_at is_symbol
no_left_paren (Symbol symbols.LeftParen ∷ ls) less = absurd (omega (arith, less))
no_left_paren (Symbol _ ∷ ls) less = refl
no_left_paren [] less = refl
no_left_paren (Word bytes ∷ ls) less = refl
no_left_paren (Number value ∷ ls) less = refl

-- the reader reads x off the lexemes: fewer are left, and their parentheses are within the limit too
pub record Done (A : Type 0) (most count : ℕ) (reader : Reader A) (ls : List Lexeme) (x : A) (rest : List Lexeme) : Type 0 where
  pub reads : reader ls ≡ read x rest
  pub within : Within most count rest
  pub shorter : length rest < length ls

pub closed_done : {A : Type 0} (s : Sym) (r : Read A) (x : A) (rest : List Lexeme) → r ≡ read x (Symbol s ∷ rest) → closed s r ≡ read x rest
unfolding closed read_then
closed_done s r x rest e = rw (e, symbol_at_same s rest) refl

module _ (limit most count : ℕ) where
  -- the term is read where it fits
  abbrev pub TermDone : Reader (Option Term) → List Lexeme → Term → List Lexeme → Type 0
  TermDone reader ls t rest = Done (Option Term) most count reader ls (fit limit t) rest

  module _ (ops : Sym → Option Binary) (first second : Reader (Option Term)) where
    pub once_only : (ls : List Lexeme) (t : Term) (rest : List Lexeme) → TermDone first ls t rest → op_at ops rest ≡ None → TermDone (once limit ops first second) ls t rest
    unfolding once read_then joined_behind
    once_only ls t rest d e = record { reads = rw (d.reads, e) refl; within = d.within; shorter = d.shorter }

    pub once_joins : (s : Sym) (op : Binary) → ops s ≡ Some op → (ls : List Lexeme) (a b : Term) (mid rest : List Lexeme) →
        TermDone first ls a (Symbol s ∷ mid) → TermDone second mid b rest → TermDone (once limit ops first second) ls (Two op a b) rest
    unfolding once read_then joined_behind read_map op_at
    once_joins s op h ls a b mid rest d e = record {
      reads = rw (d.reads, h, e.reads, two_fits limit op a b) refl;
      within = e.within;
      shorter = let f = d.shorter in let g = e.shorter in omega (arith, f, g);
    }

  module _ (ops : Sym → Option Binary) (part : Reader (Option Term)) where
    -- read with any fuel that suffices
    abbrev pub RightDone : List Lexeme → Term → List Lexeme → Type 0
    RightDone ls t rest = (fuel : ℕ) → length ls < fuel → TermDone (right_chain limit ops part fuel) ls t rest

    pub right_only : (ls : List Lexeme) (t : Term) (rest : List Lexeme) → TermDone part ls t rest → op_at ops rest ≡ None → RightDone ls t rest
    unfolding right_chain
    right_only ls t rest d e zero h = absurd (omega (arith, h))
    right_only ls t rest d e (suc fuel) h =
        let k = once_only ops part (right_chain limit ops part fuel) ls t rest d e in
        record { reads = k.reads; within = k.within; shorter = k.shorter }

    pub right_joins : (s : Sym) (op : Binary) → ops s ≡ Some op → (ls : List Lexeme) (a b : Term) (mid rest : List Lexeme) →
        TermDone part ls a (Symbol s ∷ mid) → RightDone mid b rest → RightDone ls (Two op a b) rest
    unfolding right_chain
    right_joins s op g ls a b mid rest d e zero h = absurd (omega (arith, h))
    right_joins s op g ls a b mid rest d e (suc fuel) h =
        let f = d.shorter in
        let k = once_joins ops part (right_chain limit ops part fuel) s op g ls a b mid rest d (e fuel (omega (arith, f, h))) in
        record { reads = k.reads; within = k.within; shorter = k.shorter }

    -- the chain comes to the term t, with fuel that suffices for the rest
    pub record Passes (ls : List Lexeme) (t : Term) (rest : List Lexeme) : Type 0 where
      pub fuel : ℕ
      pub enough : length rest < fuel
      pub reads : left_joined limit ops part ls ≡ left_chain limit ops part fuel (fit limit t) rest
      pub within : Within most count rest
      pub shorter : length rest < length ls

    pub chain_begins : (ls : List Lexeme) (t : Term) (rest : List Lexeme) → TermDone part ls t rest → Passes ls t rest
    unfolding left_joined read_then
    chain_begins ls t rest d = record {
      fuel = suc (length rest);
      enough = omega arith;
      reads = rw d.reads refl;
      within = d.within;
      shorter = d.shorter;
    }

    one_step : (s : Sym) (op : Binary) → ops s ≡ Some op → (a b : Term) (mid rest : List Lexeme) (fuel : ℕ) → part mid ≡ read (fit limit b) rest →
        left_chain limit ops part (suc fuel) (fit limit a) (Symbol s ∷ mid) ≡ left_chain limit ops part fuel (fit limit (Two op a b)) rest
    unfolding left_chain left_behind op_at read_then
    one_step s op h a b mid rest fuel e = rw (h, e, two_fits limit op a b) refl

    goes_on : (s : Sym) (op : Binary) → ops s ≡ Some op → (ls : List Lexeme) (a b : Term) (mid rest : List Lexeme) (fuel : ℕ) → suc (length mid) < fuel →
        left_joined limit ops part ls ≡ left_chain limit ops part fuel (fit limit a) (Symbol s ∷ mid) → suc (length mid) < length ls →
        TermDone part mid b rest → Passes ls (Two op a b) rest
    goes_on s op h ls a b mid rest zero less e f d = absurd (omega (arith, less))
    goes_on s op h ls a b mid rest (suc fuel) less e f d = record {
      fuel = fuel;
      enough = let g = d.shorter in omega (arith, g, less);
      reads = e ∙ one_step s op h a b mid rest fuel d.reads;
      within = d.within;
      shorter = let g = d.shorter in omega (arith, g, f);
    }

    pub chain_goes_on : (s : Sym) (op : Binary) → ops s ≡ Some op → (ls : List Lexeme) (a b : Term) (mid rest : List Lexeme) →
        Passes ls a (Symbol s ∷ mid) → TermDone part mid b rest → Passes ls (Two op a b) rest
    chain_goes_on s op h ls a b mid rest p d =
        let e = p.enough in let f = p.shorter in
        goes_on s op h ls a b mid rest p.fuel (omega (arith, e)) p.reads (omega (arith, f)) d

    last_step : (fuel : ℕ) (rest : List Lexeme) (a : Option Term) → length rest < fuel → op_at ops rest ≡ None → left_chain limit ops part fuel a rest ≡ read a rest
    unfolding left_chain left_behind
    last_step zero rest a less e = absurd (omega (arith, less))
    last_step (suc fuel) rest a less e = rw e refl

    pub chain_ends : (ls : List Lexeme) (t : Term) (rest : List Lexeme) → Passes ls t rest → op_at ops rest ≡ None → TermDone (left_joined limit ops part) ls t rest
    chain_ends ls t rest p e = record {
      reads = p.reads ∙ last_step p.fuel rest (fit limit t) p.enough e;
      within = p.within;
      shorter = p.shorter;
    }

  module _ (s : Sym) (op : Unary) (part : Reader (Option Term)) where
    pub sign_goes : (ls : List Lexeme) (t : Term) (rest : List Lexeme) → TermDone (signed limit s op part) ls t rest → TermDone (signed limit s op part) (Symbol s ∷ ls) (One op t) rest
    unfolding signed read_map
    sign_goes ls t rest d = record {
      reads = rw (is_symbol_same s, d.reads, one_fits limit op t) refl;
      within = d.within;
      shorter = let f = d.shorter in omega (arith, f);
    }

    unsigned : (blocked : (ls : List Lexeme) → part (Symbol s ∷ ls) ≡ None) → (l : Lexeme) (ls : List Lexeme) (x : Option Term) (rest : List Lexeme) → part (l ∷ ls) ≡ read x rest →
        (b : Bool) → is_symbol s l ≡ b → (if b then read_map (one limit op) (signed limit s op part ls) else part (l ∷ ls)) ≡ read x rest
    unsigned blocked l ls x rest e false h = e
    unsigned blocked l ls x rest e true h =
        absurd (nothing_read (sym (blocked ls) ∙ subst (λ m. part (m ∷ ls) ≡ read x rest) (is_symbol_is s l h) e))

    unsigned_reads : ((ls : List Lexeme) → part (Symbol s ∷ ls) ≡ None) → (ls : List Lexeme) (x : Option Term) (rest : List Lexeme) → part ls ≡ read x rest →
        signed limit s op part ls ≡ read x rest
    unfolding signed
    unsigned_reads blocked [] x rest e = e
    unsigned_reads blocked (l ∷ ls) x rest e = unsigned blocked l ls x rest e _ refl

    pub sign_only : ((ls : List Lexeme) → part (Symbol s ∷ ls) ≡ None) → (ls : List Lexeme) (t : Term) (rest : List Lexeme) → TermDone part ls t rest →
        TermDone (signed limit s op part) ls t rest
    sign_only blocked ls t rest d = record { reads = unsigned_reads blocked ls (fit limit t) rest d.reads; within = d.within; shorter = d.shorter }

-- lists

module _ (A : Type 0) (most count : ℕ) (item : Reader A) (s : Sym) where
  -- read with any fuel that suffices
  abbrev pub ItemsDone : List Lexeme → List A → List Lexeme → Type 0
  ItemsDone ls xs rest = (fuel : ℕ) → length ls < fuel → Done (List A) most count (items item s fuel) ls xs rest

  pub items_last : (ls : List Lexeme) (x : A) (rest : List Lexeme) → Done A most count item ls x rest → symbol_at s rest ≡ None → ItemsDone ls (x ∷ []) rest
  unfolding items items_behind read_then
  items_last ls x rest d e zero h = absurd (omega (arith, h))
  items_last ls x rest d e (suc fuel) h = record { reads = rw (d.reads, e) refl; within = d.within; shorter = d.shorter }

  pub items_next : (ls : List Lexeme) (x : A) (mid : List Lexeme) (xs : List A) (rest : List Lexeme) → Done A most count item ls x (Symbol s ∷ mid) →
      ItemsDone mid xs rest → ItemsDone ls (x ∷ xs) rest
  unfolding items items_behind read_then read_map
  items_next ls x mid xs rest d e zero h = absurd (omega (arith, h))
  items_next ls x mid xs rest d e (suc fuel) h =
      let f = d.shorter in
      let k = e fuel (omega (arith, f, h)) in
      let g = k.shorter in
      record { reads = rw (d.reads, symbol_at_same s mid, k.reads) refl; within = k.within; shorter = omega (arith, f, g) }

  pub list_done : (ls : List Lexeme) (xs : List A) (rest : List Lexeme) → ItemsDone ls xs rest → Done (List A) most count (list_at item s) ls xs rest
  unfolding list_at
  list_done ls xs rest d = let k = d (suc (length ls)) (omega arith) in record { reads = k.reads; within = k.within; shorter = k.shorter }
