-- Readings put together, and items with a separator between them.
use Rattle.std.proofs.Common.{◌≡◌, ℕ, zero, suc, ◌<◌, ◌≤◌, List, [], ◌∷◌, ◌++◌, length, Some, None, refl, sym, ◌∙◌, ap, arith, append_assoc}
use Rattle.grind_tokens.specs.declared.tokens.Sym.{Sym}
use Rattle.grind_tokens.specs.declared.tokens.Sym.TheVariants as symbols
use Rattle.grind_grammar.specs.Lexemes.{Lexeme}
use Rattle.grind_grammar.specs.Reading.{Read, Reader, read, read_map, read_then, symbol_at, closed, items, items_behind, list_at, in_parentheses, in_parentheses_from}
use Rattle.grind_syntax.specs.declared.source.Source.{Source}
use Rattle.grind_syntax.specs.Places.{ItemsSoFar}
use Rattle.grind_syntax.specs.Sources.{IsPast, count_ahead}

-- places

pub reach_past : (source : Source) (a b c : ℕ) → a ≤ b → IsPast source b c → a ≤ c
reach_past source a b c h k = let later = k.1 in omega arith

pub reach_on : (source : Source) (a b c : ℕ) → a ≤ b → b ≤ c → a ≤ c
reach_on source a b c h k = omega arith

pub reach_then_past : (source : Source) (a b c : ℕ) → a ≤ b → IsPast source b c → IsPast source a c
reach_then_past source a b c h k = let within = k.0 in let later = k.1 in (omega arith, omega arith)

pub past_then_reach : (source : Source) (a b c : ℕ) → IsPast source a b → b ≤ c → IsPast source a c
past_then_reach source a b c h k = let later = h.1 in (h.0, omega arith)

pub past_is_reach : (source : Source) (a b : ℕ) → IsPast source a b → a ≤ b
past_is_reach source a b h = let later = h.1 in omega arith

pub past_on : (source : Source) (a b c : ℕ) → IsPast source a b → IsPast source b c → IsPast source a c
past_on source a b c h k = past_then_reach source a b c h (past_is_reach source b c k)

pub fewer_ahead : (source : Source) (a b : ℕ) → IsPast source a b → count_ahead source b < count_ahead source a
fewer_ahead source a b h = let within = h.0 in let later = h.1 in omega arith

-- readings

some_is : {A : Type 0} {x y : A} → Some x ≡ Some y → x ≡ y
some_is e = cc

pub read_is : {A : Type 0} {x y : A} {a b : List Lexeme} → read x a ≡ read y b → (x ≡ y) × (a ≡ b)
read_is e = let q = some_is e in (ap (λ p. p.0) q, ap (λ p. p.1) q)

pub then_none : {A B : Type 0} (f : A → List Lexeme → Read B) (r : Read A) → r ≡ None → read_then f r ≡ None
unfolding read_then
then_none f r e = rw e refl

pub then_read : {A B : Type 0} (f : A → List Lexeme → Read B) (r : Read A) (x : A) (rest : List Lexeme) → r ≡ read x rest → read_then f r ≡ f x rest
unfolding read_then
then_read f r x rest e = rw e refl

pub map_none : {A B : Type 0} (f : A → B) (r : Read A) → r ≡ None → read_map f r ≡ None
unfolding read_map
map_none f r e = rw e refl

pub map_read : {A B : Type 0} (f : A → B) (r : Read A) (x : A) (rest : List Lexeme) → r ≡ read x rest → read_map f r ≡ read (f x) rest
unfolding read_map
map_read f r x rest e = rw e refl

pub map_map : {A B C : Type 0} (f : A → B) (g : B → C) (h : A → C) → ((x : A) → g (f x) ≡ h x) → (r : Read A) → read_map g (read_map f r) ≡ read_map h r
unfolding read_map
map_map f g h e None = refl
map_map f g h e (Some p) = ap (λ y. read y p.1) (e p.0)

pub map_same : {A : Type 0} (f : A → A) → ((x : A) → f x ≡ x) → (r : Read A) → read_map f r ≡ r
unfolding read_map
map_same f e None = refl
map_same f e (Some p) = ap (λ y. read y p.1) (e p.0)

pub map_gave : {A B : Type 0} (f : A → B) (r : Read A) (y : B) (rest : List Lexeme) → read_map f r ≡ read y rest →
    (x : A) × (r ≡ read x rest) × (f x ≡ y)
unfolding read_map
map_gave f None y rest e = absurd cc
map_gave f (Some p) y rest e =
    let q = some_is e in (p.0, ap (λ l. read p.0 l) (ap (λ p. p.1) q), ap (λ p. p.0) q)

pub closed_none : {A : Type 0} (s : Sym) (r : Read A) → r ≡ None → closed s r ≡ None
unfolding closed read_then
closed_none s r e = rw e refl

pub closed_open : {A : Type 0} (s : Sym) (r : Read A) (x : A) (rest : List Lexeme) → r ≡ read x rest → symbol_at s rest ≡ None → closed s r ≡ None
unfolding closed read_then
closed_open s r x rest e h = rw e (rw h refl)

pub closed_read : {A : Type 0} (s : Sym) (r : Read A) (x : A) (rest left : List Lexeme) → r ≡ read x rest → symbol_at s rest ≡ Some left →
    closed s r ≡ read x left
unfolding closed read_then
closed_read s r x rest left e h = rw e (rw h refl)

-- items with a separator between them

module _ {A : Type 0} (item : Reader A) (separator : Sym) where
  pub items_begin : (ls : List Lexeme) (count : ℕ) → count ≤ length ls → ItemsSoFar item separator ls [] ls count
  unfolding list_at
  items_begin ls count h = record {
    fuel = suc (length ls);
    enough = omega arith;
    same = sym (map_same (λ xs. [] ++ xs) (λ xs. refl) _);
  }

  last_of : (fuel : ℕ) (ls : List Lexeme) (x : A) (behind : List Lexeme) → item ls ≡ read x behind → symbol_at separator behind ≡ None →
      items item separator (suc fuel) ls ≡ read (x ∷ []) behind
  unfolding items read_then items_behind
  last_of fuel ls x behind e h = rw e (rw h refl)

  next_of : (fuel : ℕ) (ls : List Lexeme) (x : A) (behind left : List Lexeme) → item ls ≡ read x behind → symbol_at separator behind ≡ Some left →
      items item separator (suc fuel) ls ≡ read_map (λ xs. x ∷ xs) (items item separator fuel left)
  unfolding items read_then items_behind
  next_of fuel ls x behind left e h = rw e (rw h refl)

  none_of : (fuel : ℕ) (ls : List Lexeme) → item ls ≡ None → items item separator fuel ls ≡ None
  unfolding items read_then
  none_of zero ls e = refl
  none_of (suc fuel) ls e = rw e refl

  pub items_none : (all : List Lexeme) (done : List A) (rest : List Lexeme) (count : ℕ) → ItemsSoFar item separator all done rest count →
      item rest ≡ None → list_at item separator all ≡ None
  items_none all done rest count h e = h.same ∙ map_none (λ xs. done ++ xs) _ (none_of h.fuel rest e)

  last_with : (fuel : ℕ) (count : ℕ) → count < fuel → (all : List Lexeme) (done : List A) (rest : List Lexeme) →
      list_at item separator all ≡ read_map (λ xs. done ++ xs) (items item separator fuel rest) → (x : A) (behind : List Lexeme) →
      item rest ≡ read x behind → symbol_at separator behind ≡ None → list_at item separator all ≡ read (done ++ x ∷ []) behind
  last_with zero count m all done rest h x behind e g = absurd (omega arith)
  last_with (suc fuel) count m all done rest h x behind e g = h ∙ map_read (λ xs. done ++ xs) _ (x ∷ []) behind (last_of fuel rest x behind e g)

  pub items_last : (all : List Lexeme) (done : List A) (rest : List Lexeme) (count : ℕ) → ItemsSoFar item separator all done rest count →
      (x : A) (behind : List Lexeme) → item rest ≡ read x behind → symbol_at separator behind ≡ None →
      list_at item separator all ≡ read (done ++ x ∷ []) behind
  items_last all done rest count h = last_with h.fuel count h.enough all done rest h.same

  next_with : (fuel : ℕ) (count less : ℕ) → count < fuel → less < count → (all : List Lexeme) (done : List A) (rest : List Lexeme) →
      list_at item separator all ≡ read_map (λ xs. done ++ xs) (items item separator fuel rest) → (x : A) (behind left : List Lexeme) →
      item rest ≡ read x behind → symbol_at separator behind ≡ Some left → ItemsSoFar item separator all (done ++ x ∷ []) left less
  next_with zero count less m n all done rest h x behind left e g = absurd (omega arith)
  next_with (suc fuel) count less m n all done rest h x behind left e g = record {
    fuel = fuel;
    enough = omega arith;
    same = h ∙ ap (read_map (λ xs. done ++ xs)) (next_of fuel rest x behind left e g)
        ∙ map_map (λ xs. x ∷ xs) (λ xs. done ++ xs) (λ xs. (done ++ x ∷ []) ++ xs) (λ xs. sym (append_assoc done (x ∷ []) xs)) _;
  }

  pub items_next : (all : List Lexeme) (done : List A) (rest : List Lexeme) (count : ℕ) → ItemsSoFar item separator all done rest count →
      (x : A) (behind left : List Lexeme) (less : ℕ) → item rest ≡ read x behind → symbol_at separator behind ≡ Some left → less < count →
      ItemsSoFar item separator all (done ++ x ∷ []) left less
  items_next all done rest count h x behind left less e g n = next_with h.fuel count less h.enough n all done rest h.same x behind left e g

-- items in parentheses

module _ {A : Type 0} (item : Reader A) (ls : List Lexeme) where
  pub parentheses_none : symbol_at symbols.LeftParen ls ≡ None → in_parentheses item ls ≡ read [] ls
  unfolding in_parentheses in_parentheses_from
  parentheses_none e = rw e refl

  pub parentheses_open : (mid : List Lexeme) → symbol_at symbols.LeftParen ls ≡ Some mid →
      in_parentheses item ls ≡ closed symbols.RightParen (list_at item symbols.Comma mid)
  unfolding in_parentheses in_parentheses_from
  parentheses_open mid e = rw e refl
