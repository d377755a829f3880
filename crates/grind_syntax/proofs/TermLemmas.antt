-- The levels of terms, step by step.
use Rattle.std.proofs.Common.{◌≡◌, ℕ, ℤ, zero, suc, ◌+◌, ◌-◌, ◌<◌, ◌≤◌, Bool, true, false, List, [], ◌∷◌, ◌++◌, length, Option, Some, None, refl, sym, ◌∙◌, ap, arith, codes}
use Rattle.std.specs.Prelude.{if◌then◌else◌}
use Rattle.std.specs.Str.{bytes_eq}
use Rattle.grind_tokens.specs.declared.tokens.Sym.{Sym}
use Rattle.grind_tokens.specs.declared.tokens.Sym.TheVariants as symbols
use Rattle.grind_grammar.specs.declared.syntax.Unary.{Unary}
use Rattle.grind_grammar.specs.declared.syntax.Binary.{Binary}
use Rattle.grind_grammar.specs.Terms as terms
use Rattle.grind_grammar.specs.Terms.{Term}
use Rattle.grind_grammar.specs.Lexemes.{Lexeme, Word, Number, Symbol}
use Rattle.grind_grammar.specs.Reading as reading
use Rattle.grind_grammar.specs.Reading.{Read, Reader, read, read_map, read_then, symbol_at, is_symbol, signed, one, two, op_at, left_joined, left_chain, left_behind, right_chain, once, joined_behind, closed, list_at, items, fit, applied, all_of, word_atom, parts_behind, is_name, formula}
use Rattle.grind_grammar.specs.Files.{depth_limit}
use Rattle.grind_syntax.specs.declared.sides.Side.{Side}
use Rattle.grind_syntax.specs.declared.built.Built.{Built}
use Rattle.grind_syntax.specs.declared.parts.Parts.{Parts}
use Rattle.grind_syntax.specs.declared.levels.Level.TheVariants as levels
use Rattle.grind_syntax.specs.Places.{NoWord, NoNumber}
use Rattle.grind_syntax.specs.Levels.{level, level_over}
use Rattle.grind_syntax.specs.Built.{term_given, terms_given, with_last, one_times, sides_joined, LeftSoFar, RightSoFar}
use Rattle.grind_syntax.proofs.Items.{then_none, then_read, map_none, map_read, map_map, map_same, map_gave, closed_open, closed_read}
use Rattle.grind_syntax.proofs.TreeLemmas.{last_side, all_last}

-- signs

module _ (limit : ℕ) (op : Unary) where
  one_inside : (n : ℕ) (t : Option Term) → one_times limit op n (one limit op t) ≡ one limit op (one_times limit op n t)
  unfolding one_times
  one_inside zero t = refl
  one_inside (suc n) t = ap (one limit op) (one_inside n t)

  one_within : (n : ℕ) (t : Option Term) → one_times limit op n (one limit op t) ≡ one_times limit op (n + 1) t
  unfolding one_times
  one_within n t = let e : n + 1 ≡ suc n = omega arith in rw e (one_inside n t)

  module _ (s : Sym) (part : Reader (Option Term)) where
    sign_choice : (b : Bool) (l : Lexeme) (ls rest : List Lexeme) → (if b then Some ls else None) ≡ Some rest →
        (if b then read_map (one limit op) (signed limit s op part ls) else part (l ∷ ls)) ≡ read_map (one limit op) (signed limit s op part rest)
    sign_choice true l ls rest e = let f : ls ≡ rest = cc in ap (λ x. read_map (one limit op) (signed limit s op part x)) f
    sign_choice false l ls rest e = absurd cc

    sign_front : (ls rest : List Lexeme) → symbol_at s ls ≡ Some rest → signed limit s op part ls ≡ read_map (one limit op) (signed limit s op part rest)
    unfolding symbol_at signed
    sign_front [] rest e = absurd cc
    sign_front (l ∷ ls) rest e = sign_choice (is_symbol s l) l ls rest e

    none_choice : (b : Bool) (l : Lexeme) (ls : List Lexeme) → (if b then Some ls else None) ≡ None →
        (if b then read_map (one limit op) (signed limit s op part ls) else part (l ∷ ls)) ≡ part (l ∷ ls)
    none_choice true l ls e = absurd cc
    none_choice false l ls e = refl

    pub no_sign_front : (ls : List Lexeme) → symbol_at s ls ≡ None → signed limit s op part ls ≡ part ls
    unfolding symbol_at signed
    no_sign_front [] e = refl
    no_sign_front (l ∷ ls) e = none_choice (is_symbol s l) l ls e

    pub signs_begin : (r : Read (Option Term)) → r ≡ read_map (one_times limit op 0) r
    unfolding one_times
    signs_begin r = sym (map_same (λ t. t) (λ t. refl) r)

    pub signs_more : (count : ℕ) (all rest left : List Lexeme) → signed limit s op part all ≡ read_map (one_times limit op count) (signed limit s op part rest) →
        symbol_at s rest ≡ Some left → signed limit s op part all ≡ read_map (one_times limit op (count + 1)) (signed limit s op part left)
    signs_more count all rest left h e =
        h ∙ ap (read_map (one_times limit op count)) (sign_front rest left e)
        ∙ map_map (one limit op) (one_times limit op count) (one_times limit op (count + 1)) (one_within count) (signed limit s op part left)

    pub signs_end : (count : ℕ) (all rest : List Lexeme) → signed limit s op part all ≡ read_map (one_times limit op count) (signed limit s op part rest) →
        symbol_at s rest ≡ None → signed limit s op part all ≡ read_map (one_times limit op count) (part rest)
    signs_end count all rest h e = h ∙ ap (read_map (one_times limit op count)) (no_sign_front rest e)

-- operators that associate to the left

module _ (limit : ℕ) (ops : Sym → Option Binary) (part : Reader (Option Term)) where
  pub left_none : (all : List Lexeme) → part all ≡ None → left_joined limit ops part all ≡ None
  unfolding left_joined
  left_none all e = then_none _ (part all) e

  pub left_begin : (all : List Lexeme) (a : Option Term) (ls : List Lexeme) (count : ℕ) → part all ≡ read a ls → count ≤ length ls →
      LeftSoFar limit ops part all a ls count
  unfolding left_joined
  left_begin all a ls count e h = record {
    fuel = suc (length ls);
    enough = omega arith;
    same = then_read (λ a rest. left_chain limit ops part (suc (length rest)) a rest) (part all) a ls e;
  }

  chain_end : (fuel : ℕ) (made : Option Term) (rest : List Lexeme) → op_at ops rest ≡ None → left_chain limit ops part (suc fuel) made rest ≡ read made rest
  unfolding left_chain left_behind
  chain_end fuel made rest e = rw e refl

  chain_fail : (fuel : ℕ) (made : Option Term) (rest : List Lexeme) (op : Binary) (mid : List Lexeme) → op_at ops rest ≡ read op mid → part mid ≡ None →
      left_chain limit ops part (suc fuel) made rest ≡ None
  unfolding left_chain left_behind read_then
  chain_fail fuel made rest op mid e h = rw e (rw h refl)

  chain_next : (fuel : ℕ) (made : Option Term) (rest : List Lexeme) (op : Binary) (mid : List Lexeme) (b : Option Term) (left : List Lexeme) →
      op_at ops rest ≡ read op mid → part mid ≡ read b left →
      left_chain limit ops part (suc fuel) made rest ≡ left_chain limit ops part fuel (two limit op made b) left
  unfolding left_chain left_behind read_then
  chain_next fuel made rest op mid b left e h = rw e (rw h refl)

  end_with : (fuel count : ℕ) → count < fuel → (all : List Lexeme) (made : Option Term) (rest : List Lexeme) →
      left_joined limit ops part all ≡ left_chain limit ops part fuel made rest → op_at ops rest ≡ None → left_joined limit ops part all ≡ read made rest
  end_with zero count m all made rest h e = absurd (omega arith)
  end_with (suc fuel) count m all made rest h e = h ∙ chain_end fuel made rest e

  pub left_end : (all : List Lexeme) (made : Option Term) (rest : List Lexeme) (count : ℕ) → LeftSoFar limit ops part all made rest count →
      op_at ops rest ≡ None → left_joined limit ops part all ≡ read made rest
  left_end all made rest count h = end_with h.fuel count h.enough all made rest h.same

  fail_with : (fuel count : ℕ) → count < fuel → (all : List Lexeme) (made : Option Term) (rest : List Lexeme) →
      left_joined limit ops part all ≡ left_chain limit ops part fuel made rest → (op : Binary) (mid : List Lexeme) → op_at ops rest ≡ read op mid →
      part mid ≡ None → left_joined limit ops part all ≡ None
  fail_with zero count m all made rest h op mid e g = absurd (omega arith)
  fail_with (suc fuel) count m all made rest h op mid e g = h ∙ chain_fail fuel made rest op mid e g

  pub left_fail : (all : List Lexeme) (made : Option Term) (rest : List Lexeme) (count : ℕ) → LeftSoFar limit ops part all made rest count →
      (op : Binary) (mid : List Lexeme) → op_at ops rest ≡ read op mid → part mid ≡ None → left_joined limit ops part all ≡ None
  left_fail all made rest count h = fail_with h.fuel count h.enough all made rest h.same

  next_with : (fuel count less : ℕ) → count < fuel → less < count → (all : List Lexeme) (made : Option Term) (rest : List Lexeme) →
      left_joined limit ops part all ≡ left_chain limit ops part fuel made rest → (op : Binary) (mid : List Lexeme) (b : Option Term) (left : List Lexeme) →
      op_at ops rest ≡ read op mid → part mid ≡ read b left → LeftSoFar limit ops part all (two limit op made b) left less
  next_with zero count less m n all made rest h op mid b left e g = absurd (omega arith)
  next_with (suc fuel) count less m n all made rest h op mid b left e g = record {
    fuel = fuel;
    enough = omega arith;
    same = h ∙ chain_next fuel made rest op mid b left e g;
  }

  pub left_next : (all : List Lexeme) (made : Option Term) (rest : List Lexeme) (count : ℕ) → LeftSoFar limit ops part all made rest count →
      (op : Binary) (mid : List Lexeme) (b : Option Term) (left : List Lexeme) (less : ℕ) → op_at ops rest ≡ read op mid → part mid ≡ read b left →
      less < count → LeftSoFar limit ops part all (two limit op made b) left less
  left_next all made rest count h op mid b left less e g n = next_with h.fuel count less h.enough n all made rest h.same op mid b left e g

-- one operator at most

module _ (limit : ℕ) (ops : Sym → Option Binary) (first second : Reader (Option Term)) (ls : List Lexeme) where
  pub once_none : first ls ≡ None → once limit ops first second ls ≡ None
  unfolding once read_then
  once_none e = rw e refl

  module _ (a : Option Term) (rest : List Lexeme) (e : first ls ≡ read a rest) where
    pub once_one : op_at ops rest ≡ None → once limit ops first second ls ≡ read a rest
    unfolding once read_then joined_behind
    once_one h = rw e (rw h refl)

    pub once_behind : (op : Binary) (mid : List Lexeme) → op_at ops rest ≡ read op mid → once limit ops first second ls ≡ read_map (two limit op a) (second mid)
    unfolding once read_then joined_behind
    once_behind op mid h = rw e (rw h refl)

-- operators that associate to the right

module _ (limit : ℕ) (ops : Sym → Option Binary) (part : Reader (Option Term)) (text : List ℕ) where
  pub right_begin : (ls : List Lexeme) (count : ℕ) → count ≤ length ls → RightSoFar limit ops part text ls [] ls count
  unfolding sides_joined
  right_begin ls count h = record {
    fuel = suc (length ls);
    enough = omega arith;
    same = sym (map_same (λ t. t) (λ t. refl) _);
  }

  right_step : (fuel : ℕ) (rest : List Lexeme) → right_chain limit ops part (suc fuel) rest ≡ once limit ops part (right_chain limit ops part fuel) rest
  unfolding right_chain
  right_step fuel rest = refl

  right_nothing : (fuel : ℕ) (rest : List Lexeme) → part rest ≡ None → right_chain limit ops part fuel rest ≡ None
  unfolding right_chain
  right_nothing zero rest e = refl
  right_nothing (suc fuel) rest e = once_none limit ops part (right_chain limit ops part fuel) rest e

  pub right_none : (all : List Lexeme) (sides : List Side) (rest : List Lexeme) (count : ℕ) → RightSoFar limit ops part text all sides rest count →
      part rest ≡ None → right_chain limit ops part (suc (length all)) all ≡ None
  right_none all sides rest count h e = h.same ∙ map_none (sides_joined limit text sides) _ (right_nothing h.fuel rest e)

  last_with : (fuel count : ℕ) → count < fuel → (all : List Lexeme) (sides : List Side) (rest : List Lexeme) →
      right_chain limit ops part (suc (length all)) all ≡ read_map (sides_joined limit text sides) (right_chain limit ops part fuel rest) →
      (a : Option Term) (behind : List Lexeme) → part rest ≡ read a behind → op_at ops behind ≡ None →
      right_chain limit ops part (suc (length all)) all ≡ read (sides_joined limit text sides a) behind
  last_with zero count m all sides rest h a behind e g = absurd (omega arith)
  last_with (suc fuel) count m all sides rest h a behind e g =
      h ∙ map_read (sides_joined limit text sides) _ a behind
      (right_step fuel rest ∙ once_one limit ops part (right_chain limit ops part fuel) rest a behind e g)

  pub right_last : (all : List Lexeme) (sides : List Side) (rest : List Lexeme) (count : ℕ) → RightSoFar limit ops part text all sides rest count →
      (a : Option Term) (behind : List Lexeme) → part rest ≡ read a behind → op_at ops behind ≡ None →
      right_chain limit ops part (suc (length all)) all ≡ read (sides_joined limit text sides a) behind
  right_last all sides rest count h = last_with h.fuel count h.enough all sides rest h.same

  more_with : (fuel count less : ℕ) → count < fuel → less < count → (all : List Lexeme) (sides : List Side) (rest : List Lexeme) →
      right_chain limit ops part (suc (length all)) all ≡ read_map (sides_joined limit text sides) (right_chain limit ops part fuel rest) →
      (s : Side) (behind left : List Lexeme) → part rest ≡ read (term_given text s.side) behind → op_at ops behind ≡ read s.op left →
      RightSoFar limit ops part text all (sides ++ s ∷ []) left less
  more_with zero count less m n all sides rest h s behind left e g = absurd (omega arith)
  more_with (suc fuel) count less m n all sides rest h s behind left e g = record {
    fuel = fuel;
    enough = omega arith;
    same = h ∙ ap (read_map (sides_joined limit text sides))
        (right_step fuel rest ∙ once_behind limit ops part (right_chain limit ops part fuel) rest (term_given text s.side) behind e s.op left g)
        ∙ map_map (two limit s.op (term_given text s.side)) (sides_joined limit text sides) (sides_joined limit text (sides ++ s ∷ []))
        (λ t. sym (last_side limit text sides s t)) (right_chain limit ops part fuel left);
  }

  pub right_more : (all : List Lexeme) (sides : List Side) (rest : List Lexeme) (count : ℕ) → RightSoFar limit ops part text all sides rest count →
      (s : Side) (behind left : List Lexeme) (less : ℕ) → part rest ≡ read (term_given text s.side) behind → op_at ops behind ≡ read s.op left →
      less < count → RightSoFar limit ops part text all (sides ++ s ∷ []) left less
  right_more all sides rest count h s behind left less e g n = more_with h.fuel count less h.enough n all sides rest h.same s behind left e g

-- atoms

module _ (limit : ℕ) (inner : Reader (Option Term)) (ls : List Lexeme) where
  pub atom_number : (value : ℤ) (rest : List Lexeme) → ls ≡ Number value ∷ rest → reading.atom limit inner ls ≡ read (fit limit (terms.Number value)) rest
  unfolding reading.atom
  atom_number value rest e = rw e refl

  pub atom_word : (w : List ℕ) (rest : List Lexeme) → ls ≡ Word w ∷ rest → reading.atom limit inner ls ≡ word_atom limit inner w rest
  unfolding reading.atom
  atom_word w rest e = rw e refl

paren_choice : (limit : ℕ) (inner : Reader (Option Term)) (b : Bool) (ls mid : List Lexeme) → (if b then Some ls else None) ≡ Some mid →
    (if b then closed symbols.RightParen (inner ls) else None) ≡ closed symbols.RightParen (inner mid)
paren_choice limit inner true ls mid e = let f : ls ≡ mid = cc in ap (λ x. closed symbols.RightParen (inner x)) f
paren_choice limit inner false ls mid e = absurd cc

no_paren_choice : (inner : Reader (Option Term)) (b : Bool) (ls : List Lexeme) → (if b then Some ls else None) ≡ None →
    (if b then closed symbols.RightParen (inner ls) else None) ≡ None
no_paren_choice inner true ls e = absurd cc
no_paren_choice inner false ls e = refl

pub atom_inside : (limit : ℕ) (inner : Reader (Option Term)) (ls mid : List Lexeme) → symbol_at symbols.LeftParen ls ≡ Some mid →
    reading.atom limit inner ls ≡ closed symbols.RightParen (inner mid)
unfolding reading.atom symbol_at is_symbol
atom_inside limit inner [] mid e = absurd cc
atom_inside limit inner (Word w ∷ ls) mid e = absurd cc
atom_inside limit inner (Number value ∷ ls) mid e = absurd cc
atom_inside limit inner (Symbol s ∷ ls) mid e = paren_choice limit inner (is_symbol symbols.LeftParen (Symbol s)) ls mid e

pub atom_none : (limit : ℕ) (inner : Reader (Option Term)) (ls : List Lexeme) → NoNumber ls → NoWord ls → symbol_at symbols.LeftParen ls ≡ None →
    reading.atom limit inner ls ≡ None
unfolding reading.atom symbol_at is_symbol
atom_none limit inner [] h k e = refl
atom_none limit inner (Word w ∷ ls) h k e = absurd (k w ls refl)
atom_none limit inner (Number value ∷ ls) h k e = absurd (h value ls refl)
atom_none limit inner (Symbol s ∷ ls) h k e = no_paren_choice inner (is_symbol symbols.LeftParen (Symbol s)) ls e

-- words

module _ (limit : ℕ) (inner : Reader (Option Term)) (w : List ℕ) (rest : List Lexeme) where
  pub word_true : bytes_eq w (codes "true") ≡ true → word_atom limit inner w rest ≡ read (fit limit terms.True) rest
  unfolding word_atom
  word_true e = rw e refl

  module _ (t : bytes_eq w (codes "true") ≡ false) where
    pub word_false : bytes_eq w (codes "false") ≡ true → word_atom limit inner w rest ≡ read (fit limit terms.False) rest
    unfolding word_atom
    word_false e = rw t (rw e refl)

    module _ (f : bytes_eq w (codes "false") ≡ false) where
      pub word_reserved : is_name w ≡ false → word_atom limit inner w rest ≡ None
      unfolding word_atom
      word_reserved e = rw t (rw f (rw e refl))

      module _ (n : is_name w ≡ true) where
        pub word_constant : symbol_at symbols.LeftParen rest ≡ None → word_atom limit inner w rest ≡ read (fit limit (terms.Apply w terms.none)) rest
        unfolding word_atom parts_behind
        word_constant e = rw t (rw f (rw n (rw e refl)))

        pub word_parts : (mid : List Lexeme) → symbol_at symbols.LeftParen rest ≡ Some mid →
            word_atom limit inner w rest ≡ read_map (λ ts. applied limit w (all_of ts)) (closed symbols.RightParen (list_at inner symbols.Comma mid))
        unfolding word_atom parts_behind
        word_parts mid e = rw t (rw f (rw n (rw e refl)))

-- a name without parts, and one with parts

pub applied_to_none : (limit : ℕ) (w : List ℕ) → applied limit w (Some []) ≡ fit limit (terms.Apply w terms.none)
unfolding applied reading.row_from
applied_to_none limit w = refl

pub parts_applied : (limit : ℕ) (w : List ℕ) (r : Read (List (Option Term))) (ts : Option (List Term)) (left : List Lexeme) →
    read_map all_of r ≡ read ts left → read_map (λ ts. applied limit w (all_of ts)) r ≡ read (applied limit w ts) left
parts_applied limit w r ts left e =
    let g = map_gave all_of r ts left e in
    map_read (λ ts. applied limit w (all_of ts)) r g.0 left g.1 ∙ ap (λ t. read (applied limit w t) left) g.2

-- formulas in parentheses

pub no_room : (limit room : ℕ) (ls : List Lexeme) → room ≡ 0 → formula limit room ls ≡ None
unfolding formula
no_room limit room ls e = rw e refl

pub no_room_parts : (limit room : ℕ) (ls : List Lexeme) → room ≡ 0 → list_at (formula limit room) symbols.Comma ls ≡ None
unfolding list_at items
no_room_parts limit room ls e = then_none _ (formula limit room ls) (no_room limit room ls e)

pub formula_is : (room : ℕ) → ¬ (room ≡ 0) → formula depth_limit room ≡ level levels.Formula (room - 1)
unfolding formula level_over
formula_is zero h = absurd (h refl)
formula_is (suc room) h = let e : suc room - 1 ≡ room = omega arith in rw e refl

-- parts with a right parenthesis after them, or without one

pub parts_open : (r : Read (List (Option Term))) (ts : Option (List Term)) (rest : List Lexeme) → read_map all_of r ≡ read ts rest →
    symbol_at symbols.RightParen rest ≡ None → closed symbols.RightParen r ≡ None
parts_open r ts rest e h = let g = map_gave all_of r ts rest e in closed_open symbols.RightParen r g.0 rest g.1 h

pub parts_closed : (r : Read (List (Option Term))) (ts : Option (List Term)) (rest left : List Lexeme) → read_map all_of r ≡ read ts rest →
    symbol_at symbols.RightParen rest ≡ Some left → read_map all_of (closed symbols.RightParen r) ≡ read ts left
parts_closed r ts rest left e h =
    let g = map_gave all_of r ts rest e in
    map_read all_of _ g.0 left (closed_read symbols.RightParen r g.0 rest left g.1 h) ∙ ap (λ t. read t left) g.2

pub all_none : all_of {A = Term} [] ≡ Some []
unfolding all_of
all_none = refl

pub more_given : (text : List ℕ) (parts more : Parts) (part : Option Built) (done : List (Option Term)) → terms_given text parts ≡ all_of done →
    terms_given text more ≡ with_last (terms_given text parts) (term_given text part) → terms_given text more ≡ all_of (done ++ term_given text part ∷ [])
more_given text parts more part done h e = e ∙ ap (λ ts. with_last ts (term_given text part)) h ∙ sym (all_last done (term_given text part))
