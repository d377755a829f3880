-- Chains, signs and lists: what is read of them is derived, where that holds of their parts.
use Rattle.std.proofs.Common.{◌≡◌, ℕ, zero, suc, Bool, true, false, List, [], ◌∷◌, Option, Some, None, refl, sym, ◌∙◌, ap, subst, length}
use Rattle.std.specs.Prelude.{if◌then◌else◌}
use Rattle.grind_tokens.specs.declared.tokens.Sym.{Sym}
use Rattle.grind_grammar.specs.declared.syntax.Unary.{Unary}
use Rattle.grind_grammar.specs.declared.syntax.Binary.{Binary}
use Rattle.grind_grammar.specs.Terms.{Term, One, Two}
use Rattle.grind_grammar.specs.Lexemes.{Lexeme, Symbol}
use Rattle.grind_grammar.specs.Grammar.{Separated, last_item, next_item}
use Rattle.grind_grammar.specs.Reading.{Read, Reader, read, read_map, is_symbol, symbol_at, items_behind, items, list_at, fit, one, two, op_at, joined_behind, once, right_chain, left_behind, left_chain, left_joined, signed}
use Rattle.grind_grammar.proofs.ReadLemmas.{nothing_read, read_is, read_then_read, read_map_read, is_symbol_is, symbol_at_some, op_at_some}
use Rattle.grind_grammar.proofs.FitLemmas.{one_fits, two_fits}

-- what a family of the grammar has for these lexemes
abbrev pub Family : Type 0 → Type 1
Family A = List Lexeme → A → List Lexeme → Type 0

-- what the reader reads is derived
abbrev pub Sound : {A : Type 0} → Reader A → Family A → Type 0
Sound {A = A} reader R = (ls : List Lexeme) (x : A) (rest : List Lexeme) → reader ls ≡ read x rest → R ls x rest

-- a term of the family, given where it fits
abbrev pub Trees : ℕ → Family Term → Family (Option Term)
Trees limit R ls o rest = (t : Term) × R ls t rest × (o ≡ fit limit t)

-- the productions with an operator: a chain of the one family and a part of the other make a chain
abbrev pub Joins : (Sym → Option Binary) → Family Term → Family Term → Family Term → Type 0
Joins ops First Second R =
    (s : Sym) (op : Binary) → ops s ≡ Some op → (ls mid rest : List Lexeme) (a b : Term) →
    First ls a (Symbol s ∷ mid) → Second mid b rest → R ls (Two op a b) rest

abbrev pub Only : Family Term → Family Term → Type 0
Only F R = (ls : List Lexeme) (t : Term) (rest : List Lexeme) → F ls t rest → R ls t rest

module _ (limit : ℕ) (ops : Sym → Option Binary) (F S R : Family Term) (only : Only F R) (joins : Joins ops F S R) where
  behind_sound : (second : Reader (Option Term)) → Sound second (Trees limit S) → (ls : List Lexeme) (t : Term) (mid : List Lexeme) → F ls t mid →
      (q : Read Binary) → op_at ops mid ≡ q → (o : Option Term) (rest : List Lexeme) →
      joined_behind limit second (fit limit t) mid q ≡ read o rest → Trees limit R ls o rest
  unfolding joined_behind
  behind_sound second sound ls t mid f None e o rest h =
      let k = read_is h in (t, subst (R ls t) k.1 (only ls t mid f), sym k.0)
  behind_sound second sound ls t mid f (Some p) e o rest h =
      let g = op_at_some ops mid p.0 p.1 e in
      let k = read_map_read (two limit p.0 (fit limit t)) (second p.1) o rest h in
      let s = sound p.1 k.0 rest k.1 in (
        Two p.0 t s.0,
        joins g.0 p.0 g.1 ls p.1 rest t s.0 (subst (F ls t) g.2 f) s.1,
        k.2 ∙ ap (two limit p.0 (fit limit t)) s.2 ∙ two_fits limit p.0 t s.0,
      )

  pub once_sound : (first second : Reader (Option Term)) → Sound first (Trees limit F) → Sound second (Trees limit S) →
      Sound (once limit ops first second) (Trees limit R)
  unfolding once
  once_sound first second sound_first sound_second ls o rest h =
      let g = read_then_read _ (first ls) o rest h in
      let s = sound_first ls g.0 g.1 g.2 in
      behind_sound second sound_second ls s.0 g.1 s.1 _ refl o rest
      (subst (λ a. joined_behind limit second a g.1 (op_at ops g.1) ≡ read o rest) s.2 g.3)

module _ (limit : ℕ) (ops : Sym → Option Binary) (F R : Family Term) (only : Only F R) (joins : Joins ops F R R) where
  pub right_sound : (part : Reader (Option Term)) → Sound part (Trees limit F) → (fuel : ℕ) → Sound (right_chain limit ops part fuel) (Trees limit R)
  unfolding right_chain
  right_sound part sound zero ls o rest h = absurd (nothing_read h)
  right_sound part sound (suc fuel) ls o rest h =
      once_sound limit ops F R R only joins part (right_chain limit ops part fuel) sound (right_sound part sound fuel) ls o rest h

module _ (limit : ℕ) (ops : Sym → Option Binary) (F R : Family Term) (only : Only F R) (joins : Joins ops R F R) where
  left_behind_sound : (part : Reader (Option Term)) → Sound part (Trees limit F) → (further : Option Term → Reader (Option Term)) → (ls : List Lexeme) →
      ((t : Term) (mid : List Lexeme) (o : Option Term) (rest : List Lexeme) → R ls t mid → further (fit limit t) mid ≡ read o rest → Trees limit R ls o rest) →
      (t : Term) (mid : List Lexeme) → R ls t mid → (q : Read Binary) → op_at ops mid ≡ q → (o : Option Term) (rest : List Lexeme) →
      left_behind limit part further (fit limit t) mid q ≡ read o rest → Trees limit R ls o rest
  unfolding left_behind
  left_behind_sound part sound further ls ih t mid r None e o rest h =
      let k = read_is h in (t, subst (R ls t) k.1 r, sym k.0)
  left_behind_sound part sound further ls ih t mid r (Some p) e o rest h =
      let g = op_at_some ops mid p.0 p.1 e in
      let k = read_then_read _ (part p.1) o rest h in
      let s = sound p.1 k.0 k.1 k.2 in
      let same : two limit p.0 (fit limit t) k.0 ≡ fit limit (Two p.0 t s.0) =
      ap (two limit p.0 (fit limit t)) s.2 ∙ two_fits limit p.0 t s.0 in
      ih (Two p.0 t s.0) k.1 o rest (joins g.0 p.0 g.1 ls p.1 k.1 t s.0 (subst (R ls t) g.2 r) s.1)
      (subst (λ a. further a k.1 ≡ read o rest) same k.3)

  pub left_sound : (part : Reader (Option Term)) → Sound part (Trees limit F) → (fuel : ℕ) → (ls : List Lexeme) (t : Term) (mid : List Lexeme) (o : Option Term)
      (rest : List Lexeme) → R ls t mid → left_chain limit ops part fuel (fit limit t) mid ≡ read o rest → Trees limit R ls o rest
  unfolding left_chain
  left_sound part sound zero ls t mid o rest r h = absurd (nothing_read h)
  left_sound part sound (suc fuel) ls t mid o rest r h =
      left_behind_sound part sound (left_chain limit ops part fuel) ls (left_sound part sound fuel ls) t mid r _ refl o rest h

  pub left_joined_sound : (part : Reader (Option Term)) → Sound part (Trees limit F) → Sound (left_joined limit ops part) (Trees limit R)
  unfolding left_joined
  left_joined_sound part sound ls o rest h =
      let g = read_then_read _ (part ls) o rest h in
      let s = sound ls g.0 g.1 g.2 in
      left_sound part sound (suc (length g.1)) ls s.0 g.1 o rest (only ls s.0 g.1 s.1)
      (subst (λ a. left_chain limit ops part (suc (length g.1)) a g.1 ≡ read o rest) s.2 g.3)

module _ (limit : ℕ) (s : Sym) (op : Unary) (F R : Family Term) (only : Only F R)
    (signs : (ls : List Lexeme) (t : Term) (rest : List Lexeme) → R ls t rest → R (Symbol s ∷ ls) (One op t) rest) where
  sign_sound : (part : Reader (Option Term)) → Sound part (Trees limit F) → (l : Lexeme) (ls : List Lexeme) → Sound (λ ms. signed limit s op part ls) (λ ms. Trees limit R ls) →
      (b : Bool) → is_symbol s l ≡ b → (o : Option Term) (rest : List Lexeme) →
      (if b then read_map (one limit op) (signed limit s op part ls) else part (l ∷ ls)) ≡ read o rest → Trees limit R (l ∷ ls) o rest
  sign_sound part sound l ls ih true e o rest h =
      let k = read_map_read (one limit op) (signed limit s op part ls) o rest h in
      let g = ih ls k.0 rest k.1 in (
        One op g.0,
        subst (λ x. R (x ∷ ls) (One op g.0) rest) (sym (is_symbol_is s l e)) (signs ls g.0 rest g.1),
        k.2 ∙ ap (one limit op) g.2 ∙ one_fits limit op g.0,
      )
  sign_sound part sound l ls ih false e o rest h =
      let g = sound (l ∷ ls) o rest h in (g.0, only (l ∷ ls) g.0 rest g.1, g.2)

  pub signed_sound : (part : Reader (Option Term)) → Sound part (Trees limit F) → Sound (signed limit s op part) (Trees limit R)
  unfolding signed
  signed_sound part sound [] o rest h = let g = sound [] o rest h in (g.0, only [] g.0 rest g.1, g.2)
  signed_sound part sound (l ∷ ls) o rest h =
      sign_sound part sound l ls (λ ms x left e. signed_sound part sound ls x left e) _ refl o rest h

-- lists

module _ (A : Type 0) (R : Family A) (s : Sym) (item : Reader A) (sound : Sound item R) where
  items_behind_sound : (further : Reader (List A)) → Sound further (Separated A R s) → (ls : List Lexeme) (x : A) (mid : List Lexeme) → R ls x mid →
      (q : Option (List Lexeme)) → symbol_at s mid ≡ q → (xs : List A) (rest : List Lexeme) →
      items_behind further x mid q ≡ read xs rest → Separated A R s ls xs rest
  unfolding items_behind
  items_behind_sound further ih ls x mid r None e xs rest h =
      let k = read_is h in
      subst (λ ys. Separated A R s ls ys rest) k.0 (last_item (subst (R ls x) k.1 r))
  items_behind_sound further ih ls x mid r (Some after) e xs rest h =
      let k = read_map_read (λ ys. x ∷ ys) (further after) xs rest h in
      subst (λ ys. Separated A R s ls ys rest) (sym k.2) (next_item (subst (R ls x) (symbol_at_some s mid after e) r) (ih after k.0 rest k.1))

  pub items_sound : (fuel : ℕ) → Sound (items item s fuel) (Separated A R s)
  unfolding items
  items_sound zero ls xs rest h = absurd (nothing_read h)
  items_sound (suc fuel) ls xs rest h =
      let g = read_then_read _ (item ls) xs rest h in
      items_behind_sound (items item s fuel) (items_sound fuel) ls g.0 g.1 (sound ls g.0 g.1 g.2) _ refl xs rest g.3

  pub list_sound : Sound (list_at item s) (Separated A R s)
  unfolding list_at
  list_sound ls xs rest h = items_sound (suc (length ls)) ls xs rest h
