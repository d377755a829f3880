-- Declarations, step by step.
use Rattle.std.proofs.Common.{◌≡◌, ℕ, ℤ, suc, true, false, List, [], ◌∷◌, Option, Some, None, refl, ◌∙◌, ap, codes}
use Rattle.std.specs.Str.{bytes_eq}
use Rattle.grind_tokens.specs.declared.tokens.Sym.TheVariants as symbols
use Rattle.grind_grammar.specs.Terms.{Term, Bound, Annotation, Sort, Fun, Theorem, Goal, Limit}
use Rattle.grind_grammar.specs.Lexemes.{Lexeme, Word, Number, Symbol}
use Rattle.grind_grammar.specs.Reading.{Read, Reader, read, read_map, read_then, symbol_at, closed, list_at, in_parentheses, sort_at, name_at, binders, annots, hyps, hyps_from, all_of, sum, formula, function_of, theorem_of, theorem_with, goal_of, goal_with, limit_of, declaration_of, declaration}
use Rattle.grind_grammar.specs.Files.{depth_limit}
use Rattle.grind_syntax.specs.Places.{NoWord, NoNumber}
use Rattle.grind_syntax.specs.Levels.{level, level_over}
use Rattle.grind_syntax.specs.declared.levels.Level.TheVariants as levels
use Rattle.grind_syntax.proofs.Items.{map_read, map_gave, closed_open, closed_read}

-- the levels at which declarations read

pub sum_is : (room : ℕ) → level levels.Sum room ≡ sum depth_limit (formula depth_limit room)
unfolding level_over
sum_is room = refl

pub formula_level : (room : ℕ) → level levels.Formula room ≡ formula depth_limit (suc room)
unfolding level_over formula
formula_level room = refl

-- functions

module _ (name : List ℕ) (ls : List Lexeme) where
  pub function_none : closed symbols.Colon (in_parentheses sort_at ls) ≡ None → function_of name ls ≡ None
  unfolding function_of read_then
  function_none e = rw e refl

  pub function_unsorted : (sorts : List (List ℕ)) (rest : List Lexeme) → closed symbols.Colon (in_parentheses sort_at ls) ≡ read sorts rest →
      sort_at rest ≡ None → function_of name ls ≡ None
  unfolding function_of read_then read_map
  function_unsorted sorts rest e h = rw e (rw h refl)

  pub function_read : (sorts : List (List ℕ)) (rest : List Lexeme) (sort : List ℕ) (left : List Lexeme) →
      closed symbols.Colon (in_parentheses sort_at ls) ≡ read sorts rest → sort_at rest ≡ read sort left →
      function_of name ls ≡ read (Some (Fun name sorts sort)) left
  unfolding function_of read_then read_map
  function_read sorts rest sort left e h = rw e (rw h refl)

-- hypotheses

module _ (item : Reader (Option Term)) (ls : List Lexeme) where
  pub no_hyps : (rest : List Lexeme) → symbol_at symbols.Turnstile ls ≡ Some rest → hyps item ls ≡ read [] rest
  unfolding hyps hyps_from
  no_hyps rest e = rw e refl

  pub some_hyps : symbol_at symbols.Turnstile ls ≡ None → hyps item ls ≡ closed symbols.Turnstile (list_at item symbols.Semicolon ls)
  unfolding hyps hyps_from
  some_hyps e = rw e refl

-- a list that was read, with a symbol after it or without one

pub closed_gave : {A B : Type 0} (f : A → B) (s : _) (r : Read A) (y : B) (rest left : List Lexeme) → read_map f r ≡ read y rest →
    symbol_at s rest ≡ Some left → read_map f (closed s r) ≡ read y left
closed_gave f s r y rest left e h =
    let g = map_gave f r y rest e in
    map_read f _ g.0 left (closed_read s r g.0 rest left g.1 h) ∙ ap (λ z. read z left) g.2

pub open_gave : {A B : Type 0} (f : A → B) (s : _) (r : Read A) (y : B) (rest : List Lexeme) → read_map f r ≡ read y rest →
    symbol_at s rest ≡ None → closed s r ≡ None
open_gave f s r y rest e h = let g = map_gave f r y rest e in closed_open s r g.0 rest g.1 h

-- theorems

module _ (limit room : ℕ) (name : List ℕ) (ls : List Lexeme) where
  pub theorem_unbound : binders ls ≡ None → theorem_of limit room name ls ≡ None
  unfolding theorem_of read_then
  theorem_unbound e = rw e refl

  pub goal_unbound : closed symbols.Colon (binders ls) ≡ None → goal_of limit room name ls ≡ None
  unfolding goal_of read_then
  goal_unbound e = rw e refl

  module _ (bounds : List Bound) (mid : List Lexeme) where
    pub theorem_open : binders ls ≡ read bounds mid → closed symbols.Colon (annots (sum limit (formula limit room)) mid) ≡ None →
        theorem_of limit room name ls ≡ None
    unfolding theorem_of read_then
    theorem_open e h = rw e (rw h refl)

    pub theorem_bodiless : (xs : List (Option Annotation)) (rest : List Lexeme) → binders ls ≡ read bounds mid →
        closed symbols.Colon (annots (sum limit (formula limit room)) mid) ≡ read xs rest → formula limit (suc room) rest ≡ None →
        theorem_of limit room name ls ≡ None
    unfolding theorem_of read_then read_map
    theorem_bodiless xs rest e h k = rw e (rw h (rw k refl))

    pub theorem_read : (xs : List (Option Annotation)) (rest : List Lexeme) (t : Option Term) (left : List Lexeme) → binders ls ≡ read bounds mid →
        closed symbols.Colon (annots (sum limit (formula limit room)) mid) ≡ read xs rest → formula limit (suc room) rest ≡ read t left →
        theorem_of limit room name ls ≡ read (theorem_with name bounds (all_of xs) t) left
    unfolding theorem_of read_then read_map
    theorem_read xs rest t left e h k = rw e (rw h (rw k refl))

    pub goal_open : closed symbols.Colon (binders ls) ≡ read bounds mid → hyps (formula limit (suc room)) mid ≡ None → goal_of limit room name ls ≡ None
    unfolding goal_of read_then
    goal_open e h = rw e (rw h refl)

    pub goal_showless : (xs : List (Option Term)) (rest : List Lexeme) → closed symbols.Colon (binders ls) ≡ read bounds mid →
        hyps (formula limit (suc room)) mid ≡ read xs rest → formula limit (suc room) rest ≡ None → goal_of limit room name ls ≡ None
    unfolding goal_of read_then read_map
    goal_showless xs rest e h k = rw e (rw h (rw k refl))

    pub goal_read : (xs : List (Option Term)) (rest : List Lexeme) (t : Option Term) (left : List Lexeme) → closed symbols.Colon (binders ls) ≡ read bounds mid →
        hyps (formula limit (suc room)) mid ≡ read xs rest → formula limit (suc room) rest ≡ read t left →
        goal_of limit room name ls ≡ read (goal_with name bounds (all_of xs) t) left
    unfolding goal_of read_then read_map
    goal_read xs rest t left e h k = rw e (rw h (rw k refl))

-- by the word

module _ (limit room : ℕ) (w name : List ℕ) (ls : List Lexeme) where
  pub is_sort_declaration : bytes_eq w (codes "sort") ≡ true → declaration_of limit room w name ls ≡ read (Some (Sort name)) ls
  unfolding declaration_of
  is_sort_declaration a = rw a refl

  module _ (a : bytes_eq w (codes "sort") ≡ false) where
    pub is_function : bytes_eq w (codes "fun") ≡ true → declaration_of limit room w name ls ≡ function_of name ls
    unfolding declaration_of
    is_function b = rw a (rw b refl)

    module _ (b : bytes_eq w (codes "fun") ≡ false) where
      pub is_theorem : bytes_eq w (codes "theorem") ≡ true → declaration_of limit room w name ls ≡ theorem_of limit room name ls
      unfolding declaration_of
      is_theorem d = rw a (rw b (rw d refl))

      module _ (d : bytes_eq w (codes "theorem") ≡ false) where
        pub is_goal : bytes_eq w (codes "goal") ≡ true → declaration_of limit room w name ls ≡ goal_of limit room name ls
        unfolding declaration_of
        is_goal e = rw a (rw b (rw d (rw e refl)))

        module _ (e : bytes_eq w (codes "goal") ≡ false) where
          pub is_limit : bytes_eq w (codes "limit") ≡ true → declaration_of limit room w name ls ≡ limit_of name ls
          unfolding declaration_of
          is_limit f = rw a (rw b (rw d (rw e (rw f refl))))

          pub is_none : bytes_eq w (codes "limit") ≡ false → declaration_of limit room w name ls ≡ None
          unfolding declaration_of
          is_none f = rw a (rw b (rw d (rw e (rw f refl))))

pub limit_read : (name : List ℕ) (ls : List Lexeme) (value : ℤ) (rest : List Lexeme) → ls ≡ Number value ∷ rest → limit_of name ls ≡ read (Some (Limit name value)) rest
unfolding limit_of
limit_read name ls value rest e = rw e refl

pub limit_none : (name : List ℕ) (ls : List Lexeme) → NoNumber ls → limit_of name ls ≡ None
unfolding limit_of
limit_none name [] h = refl
limit_none name (Word w ∷ ls) h = refl
limit_none name (Number value ∷ ls) h = absurd (h value ls refl)
limit_none name (Symbol s ∷ ls) h = refl

-- declarations

pub declaration_none : (limit room : ℕ) (ls : List Lexeme) → NoWord ls → declaration limit room ls ≡ None
unfolding declaration
declaration_none limit room [] h = refl
declaration_none limit room (Word w ∷ ls) h = absurd (h w ls refl)
declaration_none limit room (Number value ∷ ls) h = refl
declaration_none limit room (Symbol s ∷ ls) h = refl

pub declaration_word : (limit room : ℕ) (ls : List Lexeme) (w : List ℕ) (rest : List Lexeme) → ls ≡ Word w ∷ rest →
    declaration limit room ls ≡ read_then (declaration_of limit room w) (name_at rest)
unfolding declaration
declaration_word limit room ls w rest e = rw e refl

-- a theorem or a goal of parts

pub theorem_lost : (name : List ℕ) (bounds : List Bound) (t : Option Term) → theorem_with name bounds None t ≡ None
unfolding theorem_with
theorem_lost name bounds t = refl

pub theorem_half : (name : List ℕ) (bounds : List Bound) (xs : Option (List Annotation)) → theorem_with name bounds xs None ≡ None
unfolding theorem_with
theorem_half name bounds None = refl
theorem_half name bounds (Some xs) = refl

pub theorem_whole : (name : List ℕ) (bounds : List Bound) (xs : List Annotation) (t : Term) →
    theorem_with name bounds (Some xs) (Some t) ≡ Some (Theorem name bounds xs t)
unfolding theorem_with
theorem_whole name bounds xs t = refl

pub goal_lost : (name : List ℕ) (bounds : List Bound) (t : Option Term) → goal_with name bounds None t ≡ None
unfolding goal_with
goal_lost name bounds t = refl

pub goal_half : (name : List ℕ) (bounds : List Bound) (xs : Option (List Term)) → goal_with name bounds xs None ≡ None
unfolding goal_with
goal_half name bounds None = refl
goal_half name bounds (Some xs) = refl

pub goal_whole : (name : List ℕ) (bounds : List Bound) (xs : List Term) (t : Term) →
    goal_with name bounds (Some xs) (Some t) ≡ Some (Goal name bounds xs t)
unfolding goal_with
goal_whole name bounds xs t = refl
