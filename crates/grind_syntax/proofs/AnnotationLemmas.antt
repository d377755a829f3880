-- Annotations, step by step.
use Rattle.std.proofs.Common.{◌≡◌, ℕ, zero, suc, ◌<◌, ◌≤◌, true, false, List, [], ◌∷◌, ◌++◌, length, Option, Some, None, refl, sym, ◌∙◌, ap, arith, append_assoc, codes}
use Rattle.std.specs.Option.{option_map}
use Rattle.std.specs.Str.{bytes_eq}
use Rattle.grind_tokens.specs.declared.tokens.Sym.{Sym}
use Rattle.grind_tokens.specs.declared.tokens.Sym.TheVariants as symbols
use Rattle.grind_grammar.specs.Terms.{Term, Annotation, Left, Right, Hyps, Concl, Pattern}
use Rattle.grind_grammar.specs.Lexemes.{Lexeme, Word, Number, Symbol}
use Rattle.grind_grammar.specs.Reading.{Read, Reader, read, read_map, read_then, symbol_at, word_at, closed, list_at, all_of, with_all, annot_of_symbol, annot_after_eq, annot_inside, annots, annots_up_to, annots_behind}
use Rattle.grind_syntax.specs.Places.{NoWord, NoSymbol}
use Rattle.grind_syntax.specs.Annotated.{with_annotation, patterns_of, AnnotsSoFar}
use Rattle.grind_syntax.proofs.Items.{map_none, map_read, map_map, map_same, map_gave}

-- words

module _ (k : List ℕ) (ls : List Lexeme) where
  pub keyword_front : (w : List ℕ) (rest : List Lexeme) → ls ≡ Word w ∷ rest → bytes_eq w k ≡ true → word_at k ls ≡ Some rest
  unfolding word_at
  keyword_front w rest e h = rw e (rw h refl)

  pub keyword_other : (w : List ℕ) (rest : List Lexeme) → ls ≡ Word w ∷ rest → bytes_eq w k ≡ false → word_at k ls ≡ None
  unfolding word_at
  keyword_other w rest e h = rw e (rw h refl)

pub no_keyword : (k : List ℕ) (ls : List Lexeme) → NoWord ls → word_at k ls ≡ None
unfolding word_at
no_keyword k [] h = refl
no_keyword k (Word w ∷ ls) h = absurd (h w ls refl)
no_keyword k (Number value ∷ ls) h = refl
no_keyword k (Symbol s ∷ ls) h = refl

-- annotations that begin with a symbol

module _ (s : Sym) (ls : List Lexeme) where
  pub short_left : s ≡ symbols.Eq → word_at (codes "_") ls ≡ None → annot_of_symbol s ls ≡ read (Some Left) ls
  unfolding annot_of_symbol annot_after_eq
  short_left e h = rw e (rw h refl)

  pub short_right : (rest : List Lexeme) → s ≡ symbols.Eq → word_at (codes "_") ls ≡ Some rest → annot_of_symbol s ls ≡ read (Some Right) rest
  unfolding annot_of_symbol annot_after_eq
  short_right rest e h = rw e (rw h refl)

  pub short_hyps : s ≡ symbols.Arrow → annot_of_symbol s ls ≡ read (Some Hyps) ls
  unfolding annot_of_symbol
  short_hyps e = rw e refl

  pub short_less : s ≡ symbols.Lt → symbol_at symbols.Minus ls ≡ None → annot_of_symbol s ls ≡ None
  unfolding annot_of_symbol
  short_less e h = rw e (rw h refl)

  pub short_concl : (rest : List Lexeme) → s ≡ symbols.Lt → symbol_at symbols.Minus ls ≡ Some rest → annot_of_symbol s ls ≡ read (Some Concl) rest
  unfolding annot_of_symbol
  short_concl rest e h = rw e (rw h refl)

pub short_other : (s : Sym) (ls : List Lexeme) → ¬ (s ≡ symbols.Eq) → ¬ (s ≡ symbols.Arrow) → ¬ (s ≡ symbols.Lt) → annot_of_symbol s ls ≡ None
unfolding annot_of_symbol
short_other symbols.Eq ls h k l = absurd (h refl)
short_other symbols.Arrow ls h k l = absurd (k refl)
short_other symbols.Lt ls h k l = absurd (l refl)
short_other _ ls h k l = refl

-- patterns

pub patterns_all : (r : Read (List (Option Term))) (ts : Option (List Term)) (left : List Lexeme) → read_map all_of r ≡ read ts left →
    read_map patterns_of r ≡ read (option_map Pattern ts) left
patterns_all r ts left e =
    let g = map_gave all_of r ts left e in
    map_read patterns_of r g.0 left g.1 ∙ ap (λ t. read (option_map Pattern t) left) g.2

-- annotations without their brackets

module _ (item : Reader (Option Term)) (ls : List Lexeme) where
  pub inside_symbol : (s : Sym) (rest : List Lexeme) → ls ≡ Symbol s ∷ rest → annot_inside item ls ≡ annot_of_symbol s rest
  unfolding annot_inside
  inside_symbol s rest e = rw e refl

  pub inside_word : (w : List ℕ) (rest : List Lexeme) → ls ≡ Word w ∷ rest → bytes_eq w (codes "pattern") ≡ false → annot_inside item ls ≡ None
  unfolding annot_inside
  inside_word w rest e h = rw e (rw h refl)

  pub inside_patterns : (w : List ℕ) (rest : List Lexeme) → ls ≡ Word w ∷ rest → bytes_eq w (codes "pattern") ≡ true →
      annot_inside item ls ≡ read_map patterns_of (list_at item symbols.Comma rest)
  unfolding annot_inside
  inside_patterns w rest e h = rw e (rw h refl)

pub inside_none : (item : Reader (Option Term)) (ls : List Lexeme) → NoSymbol ls → NoWord ls → annot_inside item ls ≡ None
unfolding annot_inside
inside_none item [] h k = refl
inside_none item (Word w ∷ ls) h k = absurd (k w ls refl)
inside_none item (Number value ∷ ls) h k = refl
inside_none item (Symbol s ∷ ls) h k = absurd (h s ls refl)

-- annotations with one more after them

last_behind : (u : Annotation) (ts : Option (List Annotation)) (x : Option Annotation) → with_all (Some u) (with_annotation ts x) ≡ with_annotation (with_all (Some u) ts) x
unfolding with_all
last_behind u None x = refl
last_behind u (Some ts) None = refl
last_behind u (Some ts) (Some t) = refl

pub annots_last : (xs : List (Option Annotation)) (x : Option Annotation) → all_of (xs ++ x ∷ []) ≡ with_annotation (all_of xs) x
unfolding all_of with_all
annots_last [] None = refl
annots_last [] (Some t) = refl
annots_last (None ∷ xs) x = refl
annots_last (Some u ∷ xs) x = ap (with_all (Some u)) (annots_last xs x) ∙ last_behind u (all_of xs) x

pub no_annots : all_of {A = Annotation} [] ≡ Some []
unfolding all_of
no_annots = refl

-- annotations, one after the other

module _ (item : Reader (Option Term)) where
  pub annots_begin : (ls : List Lexeme) (count : ℕ) → count ≤ length ls → AnnotsSoFar item ls [] ls count
  unfolding annots
  annots_begin ls count h = record {
    fuel = suc (length ls);
    enough = omega arith;
    same = sym (map_same (λ xs. [] ++ xs) (λ xs. refl) _);
  }

  step_end : (fuel : ℕ) (ls : List Lexeme) → symbol_at symbols.LeftSquare ls ≡ None → annots_up_to item (suc fuel) ls ≡ read [] ls
  unfolding annots_up_to annots_behind
  step_end fuel ls e = rw e refl

  step_fail : (fuel : ℕ) (ls mid : List Lexeme) → symbol_at symbols.LeftSquare ls ≡ Some mid → closed symbols.RightSquare (annot_inside item mid) ≡ None →
      annots_up_to item (suc fuel) ls ≡ None
  unfolding annots_up_to annots_behind read_then
  step_fail fuel ls mid e h = rw e (rw h refl)

  step_next : (fuel : ℕ) (ls mid : List Lexeme) (x : Option Annotation) (left : List Lexeme) → symbol_at symbols.LeftSquare ls ≡ Some mid →
      closed symbols.RightSquare (annot_inside item mid) ≡ read x left →
      annots_up_to item (suc fuel) ls ≡ read_map (λ xs. x ∷ xs) (annots_up_to item fuel left)
  unfolding annots_up_to annots_behind read_then
  step_next fuel ls mid x left e h = rw e (rw h refl)

  end_with : (fuel count : ℕ) → count < fuel → (all : List Lexeme) (done : List (Option Annotation)) (rest : List Lexeme) →
      annots item all ≡ read_map (λ xs. done ++ xs) (annots_up_to item fuel rest) → symbol_at symbols.LeftSquare rest ≡ None →
      annots item all ≡ read (done ++ []) rest
  end_with zero count m all done rest h e = absurd (omega arith)
  end_with (suc fuel) count m all done rest h e = h ∙ map_read (λ xs. done ++ xs) _ [] rest (step_end fuel rest e)

  nothing_behind : {A : Type 0} (xs : List A) → xs ++ [] ≡ xs
  nothing_behind [] = refl
  nothing_behind (x ∷ xs) = ap (λ ys. x ∷ ys) (nothing_behind xs)

  pub annots_end : (all : List Lexeme) (done : List (Option Annotation)) (rest : List Lexeme) (count : ℕ) → AnnotsSoFar item all done rest count →
      symbol_at symbols.LeftSquare rest ≡ None → annots item all ≡ read done rest
  annots_end all done rest count h e =
      end_with h.fuel count h.enough all done rest h.same e ∙ ap (λ xs. read xs rest) (nothing_behind done)

  fail_with : (fuel count : ℕ) → count < fuel → (all : List Lexeme) (done : List (Option Annotation)) (rest : List Lexeme) →
      annots item all ≡ read_map (λ xs. done ++ xs) (annots_up_to item fuel rest) → (mid : List Lexeme) →
      symbol_at symbols.LeftSquare rest ≡ Some mid → closed symbols.RightSquare (annot_inside item mid) ≡ None → annots item all ≡ None
  fail_with zero count m all done rest h mid e g = absurd (omega arith)
  fail_with (suc fuel) count m all done rest h mid e g = h ∙ map_none (λ xs. done ++ xs) _ (step_fail fuel rest mid e g)

  pub annots_fail : (all : List Lexeme) (done : List (Option Annotation)) (rest : List Lexeme) (count : ℕ) → AnnotsSoFar item all done rest count →
      (mid : List Lexeme) → symbol_at symbols.LeftSquare rest ≡ Some mid → closed symbols.RightSquare (annot_inside item mid) ≡ None →
      annots item all ≡ None
  annots_fail all done rest count h = fail_with h.fuel count h.enough all done rest h.same

  next_with : (fuel count less : ℕ) → count < fuel → less < count → (all : List Lexeme) (done : List (Option Annotation)) (rest : List Lexeme) →
      annots item all ≡ read_map (λ xs. done ++ xs) (annots_up_to item fuel rest) → (mid : List Lexeme) (x : Option Annotation) (left : List Lexeme) →
      symbol_at symbols.LeftSquare rest ≡ Some mid → closed symbols.RightSquare (annot_inside item mid) ≡ read x left →
      AnnotsSoFar item all (done ++ x ∷ []) left less
  next_with zero count less m n all done rest h mid x left e g = absurd (omega arith)
  next_with (suc fuel) count less m n all done rest h mid x left e g = record {
    fuel = fuel;
    enough = omega arith;
    same = h ∙ ap (read_map (λ xs. done ++ xs)) (step_next fuel rest mid x left e g)
        ∙ map_map (λ xs. x ∷ xs) (λ xs. done ++ xs) (λ xs. (done ++ x ∷ []) ++ xs) (λ xs. sym (append_assoc done (x ∷ []) xs)) _;
  }

  pub annots_next : (all : List Lexeme) (done : List (Option Annotation)) (rest : List Lexeme) (count : ℕ) → AnnotsSoFar item all done rest count →
      (mid : List Lexeme) (x : Option Annotation) (left : List Lexeme) (less : ℕ) → symbol_at symbols.LeftSquare rest ≡ Some mid →
      closed symbols.RightSquare (annot_inside item mid) ≡ read x left → less < count → AnnotsSoFar item all (done ++ x ∷ []) left less
  annots_next all done rest count h mid x left less e g n = next_with h.fuel count less h.enough n all done rest h.same mid x left e g
