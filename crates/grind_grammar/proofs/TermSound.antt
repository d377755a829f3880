-- What is read as a formula or a term is derived.
use Rattle.std.proofs.Common.{◌≡◌, ℕ, zero, suc, Bool, true, false, List, [], ◌∷◌, Option, Some, None, refl, sym, ◌∙◌, ap, subst, codes}
use Rattle.std.specs.Prelude.{if◌then◌else◌, map}
use Rattle.std.specs.Str.{bytes_eq}
use Rattle.grind_tokens.specs.declared.tokens.Sym.{Sym}
use Rattle.grind_tokens.specs.declared.tokens.Sym.TheVariants as symbols
use Rattle.grind_grammar.specs.declared.syntax.Unary.TheVariants as unaries
use Rattle.grind_grammar.specs.declared.syntax.Binary.{Binary}
use Rattle.grind_grammar.specs.Names.{IsName}
use Rattle.grind_grammar.specs.Terms.{Term, Row, True, False, Apply, One, Two, none, more}
use Rattle.grind_grammar.specs.Terms as terms
use Rattle.grind_grammar.specs.Lexemes.{Lexeme, Word, Number, Symbol}
use Rattle.grind_grammar.specs.Grammar.{Compares, eq, ne, lt, le, gt, ge, Formula, only_impl, iff, Impl, only_disj, implies, Disj, only_conj, or, Conj, only_neg, and, Negation, only_rel, not, Relation, only_sum, compare, Sum, only_prod, add, sub, Product, only_minus, mul, Minus, only_atom, minus, Atom, number, truth, falsehood, constant, application, inside, Parts, last_part, next_part, Separated, last_item, next_item}
use Rattle.grind_grammar.specs.Reading.{Read, Reader, read, read_map, read_then, is_symbol, symbol_at, closed, is_name, list_at, fit, all_of, row_from, applied, product_op, sum_op, relation_op, conj_op, disj_op, impl_op, formula_op, parts_behind, word_atom, atom, product, sum, relation, negation, conj, disj, impl, formula_over, formula}
use Rattle.grind_grammar.specs.Reading as reading
use Rattle.grind_grammar.proofs.ReadLemmas.{nothing_read, some_is, read_is, read_map_read, is_symbol_is, symbol_at_some, closed_read, bytes_eq_is, is_name_is, chosen_is}
use Rattle.grind_grammar.proofs.FitLemmas.{applied_fits}
use Rattle.grind_grammar.proofs.ChainSound.{Family, Sound, Trees, Joins, once_sound, right_sound, left_joined_sound, signed_sound, list_sound}

-- lists of images

abbrev pub Images : {A B : Type 0} → (A → B) → Family A → Family B
Images {A = A} f R ls y rest = (x : A) × R ls x rest × (y ≡ f x)

pub images_of : {A B : Type 0} (f : A → B) (R : Family A) (s : Sym) {ls rest : List Lexeme} {ys : List B} → Separated B (Images f R) s ls ys rest →
    (xs : List A) × Separated A R s ls xs rest × (ys ≡ map f xs)
images_of f R s (last_item i) = (i.0 ∷ [], last_item i.1, ap (λ y. y ∷ []) i.2)
images_of f R s (next_item i d) =
    let h = images_of f R s d in
    (i.0 ∷ h.0, next_item i.1 h.1, both i.2 h.2)
  where
    both : {X : Type 0} {x y : X} {xs ys : List X} → x ≡ y → xs ≡ ys → x ∷ xs ≡ y ∷ ys
    both e g = cc

pub parts_from : {ls rest : List Lexeme} {ts : List Term} → Separated Term Formula symbols.Comma ls ts rest → Parts ls (row_from ts) rest
unfolding row_from
parts_from (last_item i) = last_part i
parts_from (next_item i d) = next_part i (parts_from d)

-- the operators

joins_product : Joins product_op Product Minus Product
joins_product symbols.Star op e ls mid rest a b f s = subst (λ o. Product ls (Two o a b) rest) (some_is e) (mul f s)
joins_product _ op e ls mid rest a b f s = absurd (nothing_read e)

joins_sum : Joins sum_op Sum Product Sum
joins_sum symbols.Plus op e ls mid rest a b f s = subst (λ o. Sum ls (Two o a b) rest) (some_is e) (add f s)
joins_sum symbols.Minus op e ls mid rest a b f s = subst (λ o. Sum ls (Two o a b) rest) (some_is e) (sub f s)
joins_sum _ op e ls mid rest a b f s = absurd (nothing_read e)

pub compares : (s : Sym) (op : Binary) → relation_op s ≡ Some op → Compares s op
compares symbols.Eq op e = subst (Compares symbols.Eq) (some_is e) eq
compares symbols.Ne op e = subst (Compares symbols.Ne) (some_is e) ne
compares symbols.Lt op e = subst (Compares symbols.Lt) (some_is e) lt
compares symbols.Le op e = subst (Compares symbols.Le) (some_is e) le
compares symbols.Gt op e = subst (Compares symbols.Gt) (some_is e) gt
compares symbols.Ge op e = subst (Compares symbols.Ge) (some_is e) ge
compares _ op e = absurd (nothing_read e)

joins_relation : Joins relation_op Sum Sum Relation
joins_relation s op e ls mid rest a b f g = compare (compares s op e) f g

joins_conj : Joins conj_op Conj Negation Conj
joins_conj symbols.And op e ls mid rest a b f s = subst (λ o. Conj ls (Two o a b) rest) (some_is e) (and f s)
joins_conj _ op e ls mid rest a b f s = absurd (nothing_read e)

joins_disj : Joins disj_op Disj Conj Disj
joins_disj symbols.Or op e ls mid rest a b f s = subst (λ o. Disj ls (Two o a b) rest) (some_is e) (or f s)
joins_disj _ op e ls mid rest a b f s = absurd (nothing_read e)

joins_impl : Joins impl_op Disj Impl Impl
joins_impl symbols.Arrow op e ls mid rest a b f s = subst (λ o. Impl ls (Two o a b) rest) (some_is e) (implies f s)
joins_impl _ op e ls mid rest a b f s = absurd (nothing_read e)

joins_formula : Joins formula_op Impl Impl Formula
joins_formula symbols.Iff op e ls mid rest a b f s = subst (λ o. Formula ls (Two o a b) rest) (some_is e) (iff f s)
joins_formula _ op e ls mid rest a b f s = absurd (nothing_read e)

-- the levels

module _ (limit : ℕ) (inner : Reader (Option Term)) (sound : Sound inner (Trees limit Formula)) where
  behind : (name : List ℕ) → IsName name → (ls : List Lexeme) (q : Option (List Lexeme)) → symbol_at symbols.LeftParen ls ≡ q →
      (o : Option Term) (rest : List Lexeme) → parts_behind limit inner name ls q ≡ read o rest → Trees limit Atom (Word name ∷ ls) o rest
  unfolding parts_behind
  behind name n ls None e o rest h =
      let k = read_is h in (Apply name none, subst (Atom (Word name ∷ ls) (Apply name none)) k.1 (constant n), sym k.0)
  behind name n ls (Some mid) e o rest h =
      let k = read_map_read (λ ts. applied limit name (all_of ts)) _ o rest h in
      let c = closed_read symbols.RightParen (list_at inner symbols.Comma mid) k.0 rest k.1 in
      let d = list_sound (Option Term) (Trees limit Formula) symbols.Comma inner sound mid k.0 (Symbol symbols.RightParen ∷ rest) c in
      let i = images_of (fit limit) Formula symbols.Comma d in (
        Apply name (row_from i.0),
        subst (λ l. Atom (Word name ∷ l) (Apply name (row_from i.0)) rest) (sym (symbol_at_some symbols.LeftParen ls mid e)) (application n (parts_from i.1)),
        k.2 ∙ ap (λ ts. applied limit name (all_of ts)) i.2 ∙ applied_fits limit name i.0,
      )

  word_name : (word : List ℕ) (ls : List Lexeme) (o : Option Term) (rest : List Lexeme) (b : Bool) → is_name word ≡ b →
      (if b then parts_behind limit inner word ls (symbol_at symbols.LeftParen ls) else None) ≡ read o rest → Trees limit Atom (Word word ∷ ls) o rest
  word_name word ls o rest true e h = behind word (is_name_is word e) ls _ refl o rest h
  word_name word ls o rest false e h = absurd (nothing_read h)

  word_false : (word : List ℕ) (ls : List Lexeme) (o : Option Term) (rest : List Lexeme) (b : Bool) → bytes_eq word (codes "false") ≡ b →
      (if b then read (fit limit False) ls else if is_name word then parts_behind limit inner word ls (symbol_at symbols.LeftParen ls) else None) ≡ read o rest →
      Trees limit Atom (Word word ∷ ls) o rest
  word_false word ls o rest true e h =
      let k = read_is h in (False, subst (Atom (Word word ∷ ls) False) k.1 (falsehood (bytes_eq_is word _ e)), sym k.0)
  word_false word ls o rest false e h = word_name word ls o rest _ refl h

  word_true : (word : List ℕ) (ls : List Lexeme) (o : Option Term) (rest : List Lexeme) (b : Bool) → bytes_eq word (codes "true") ≡ b →
      (if b then read (fit limit True) ls
      else if bytes_eq word (codes "false") then read (fit limit False) ls
      else if is_name word then parts_behind limit inner word ls (symbol_at symbols.LeftParen ls) else None) ≡ read o rest →
      Trees limit Atom (Word word ∷ ls) o rest
  word_true word ls o rest true e h =
      let k = read_is h in (True, subst (Atom (Word word ∷ ls) True) k.1 (truth (bytes_eq_is word _ e)), sym k.0)
  word_true word ls o rest false e h = word_false word ls o rest _ refl h

  pub atom_sound : Sound (atom limit inner) (Trees limit Atom)
  unfolding atom word_atom
  atom_sound [] o rest h = absurd (nothing_read h)
  atom_sound (Word word ∷ ls) o rest h = word_true word ls o rest _ refl h
  atom_sound (Number value ∷ ls) o rest h =
      let k = read_is h in (terms.Number value, subst (Atom (Number value ∷ ls) (terms.Number value)) k.1 number, sym k.0)
  atom_sound (Symbol s ∷ ls) o rest h =
      let k = chosen_is (is_symbol symbols.LeftParen (Symbol s)) h in
      let c = closed_read symbols.RightParen (inner ls) o rest k.1 in
      let i = sound ls o (Symbol symbols.RightParen ∷ rest) c in
      (i.0, subst (λ l. Atom (l ∷ ls) i.0 rest) (sym (is_symbol_is symbols.LeftParen (Symbol s) k.0)) (inside i.1), i.2)

  minus_sound : Sound (reading.minus limit inner) (Trees limit Minus)
  unfolding reading.minus
  minus_sound ls o rest h =
      signed_sound limit symbols.Minus unaries.Neg Atom Minus (λ l t r d. only_atom d) (λ l t r d. minus d) (atom limit inner) atom_sound ls o rest h

  product_sound : Sound (product limit inner) (Trees limit Product)
  unfolding product
  product_sound ls o rest h =
      left_joined_sound limit product_op Minus Product (λ l t r d. only_minus d) joins_product (reading.minus limit inner) minus_sound ls o rest h

  pub sum_sound : Sound (sum limit inner) (Trees limit Sum)
  unfolding sum
  sum_sound ls o rest h =
      left_joined_sound limit sum_op Product Sum (λ l t r d. only_prod d) joins_sum (product limit inner) product_sound ls o rest h

  relation_sound : Sound (relation limit inner) (Trees limit Relation)
  unfolding relation
  relation_sound ls o rest h =
      once_sound limit relation_op Sum Sum Relation (λ l t r d. only_sum d) joins_relation (sum limit inner) (sum limit inner) sum_sound sum_sound ls o rest h

  negation_sound : Sound (negation limit inner) (Trees limit Negation)
  unfolding negation
  negation_sound ls o rest h =
      signed_sound limit symbols.Not unaries.Not Relation Negation (λ l t r d. only_rel d) (λ l t r d. not d) (relation limit inner) relation_sound ls o rest h

  conj_sound : Sound (conj limit inner) (Trees limit Conj)
  unfolding conj
  conj_sound ls o rest h =
      left_joined_sound limit conj_op Negation Conj (λ l t r d. only_neg d) joins_conj (negation limit inner) negation_sound ls o rest h

  disj_sound : Sound (disj limit inner) (Trees limit Disj)
  unfolding disj
  disj_sound ls o rest h =
      left_joined_sound limit disj_op Conj Disj (λ l t r d. only_conj d) joins_disj (conj limit inner) conj_sound ls o rest h

  impl_sound : Sound (impl limit inner) (Trees limit Impl)
  unfolding impl
  impl_sound ls o rest h =
      right_sound limit impl_op Disj Impl (λ l t r d. only_disj d) joins_impl (disj limit inner) disj_sound _ ls o rest h

  pub formula_over_sound : Sound (formula_over limit inner) (Trees limit Formula)
  unfolding formula_over
  formula_over_sound ls o rest h =
      once_sound limit formula_op Impl Impl Formula (λ l t r d. only_impl d) joins_formula (impl limit inner) (impl limit inner) impl_sound impl_sound ls o rest h

pub formula_sound : (limit room : ℕ) → Sound (formula limit room) (Trees limit Formula)
unfolding formula
formula_sound limit zero ls o rest h = absurd (nothing_read h)
formula_sound limit (suc room) ls o rest h = formula_over_sound limit (formula limit room) (formula_sound limit room) ls o rest h
