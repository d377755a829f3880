-- The grammar of a theory file: which term and which declaration a list of lexemes is.
-- Each family has the lexemes, what they begin with, and the lexemes that are left; each constructor is a production.
use Rattle.std.specs.Prelude.{◌≡◌, ℕ, ℤ, List, [], ◌∷◌, ◌++◌, codes}
use Rattle.grind_tokens.specs.declared.tokens.Sym.{Sym}
use Rattle.grind_tokens.specs.declared.tokens.Sym.TheVariants as symbols
use Rattle.grind_grammar.specs.declared.syntax.Unary.TheVariants as unaries
use Rattle.grind_grammar.specs.declared.syntax.Binary.{Binary}
use Rattle.grind_grammar.specs.declared.syntax.Binary.TheVariants as binaries
use Rattle.grind_grammar.specs.Names.{IsName, IsSort}
use Rattle.grind_grammar.specs.Terms.{Term, Row, True, False, Apply, One, Two, none, more, Bound, Annotation, Left, Right, Hyps, Concl, Pattern, Declaration, Sort, Fun, Theorem, Goal, Limit}
use Rattle.grind_grammar.specs.Terms as terms
use Rattle.grind_grammar.specs.Lexemes.{Lexeme, Word, Number, Symbol}

-- the symbols of the relations
pub data Compares : Sym → Binary → Type 0 where
  eq : Compares symbols.Eq binaries.Eq
  ne : Compares symbols.Ne binaries.Ne
  lt : Compares symbols.Lt binaries.Lt
  le : Compares symbols.Le binaries.Le
  gt : Compares symbols.Gt binaries.Gt
  ge : Compares symbols.Ge binaries.Ge

mutual
  -- formula = impl [ "<->" impl ]
  pub data Formula : List Lexeme → Term → List Lexeme → Type 0 where
    only_impl : {ls rest : List Lexeme} {t : Term} → Impl ls t rest → Formula ls t rest
    iff : {ls mid rest : List Lexeme} {a b : Term} → Impl ls a (Symbol symbols.Iff ∷ mid) → Impl mid b rest →
        Formula ls (Two binaries.Iff a b) rest

  -- impl = disj [ "->" impl ]
  pub data Impl : List Lexeme → Term → List Lexeme → Type 0 where
    only_disj : {ls rest : List Lexeme} {t : Term} → Disj ls t rest → Impl ls t rest
    implies : {ls mid rest : List Lexeme} {a b : Term} → Disj ls a (Symbol symbols.Arrow ∷ mid) → Impl mid b rest →
        Impl ls (Two binaries.Implies a b) rest

  -- disj = conj { "\/" conj }
  pub data Disj : List Lexeme → Term → List Lexeme → Type 0 where
    only_conj : {ls rest : List Lexeme} {t : Term} → Conj ls t rest → Disj ls t rest
    or : {ls mid rest : List Lexeme} {a b : Term} → Disj ls a (Symbol symbols.Or ∷ mid) → Conj mid b rest →
        Disj ls (Two binaries.Or a b) rest

  -- conj = neg { "/\" neg }
  pub data Conj : List Lexeme → Term → List Lexeme → Type 0 where
    only_neg : {ls rest : List Lexeme} {t : Term} → Negation ls t rest → Conj ls t rest
    and : {ls mid rest : List Lexeme} {a b : Term} → Conj ls a (Symbol symbols.And ∷ mid) → Negation mid b rest →
        Conj ls (Two binaries.And a b) rest

  -- neg = "~" neg | rel
  pub data Negation : List Lexeme → Term → List Lexeme → Type 0 where
    only_rel : {ls rest : List Lexeme} {t : Term} → Relation ls t rest → Negation ls t rest
    not : {ls rest : List Lexeme} {t : Term} → Negation ls t rest →
        Negation (Symbol symbols.Not ∷ ls) (One unaries.Not t) rest

  -- rel = sum [ ( "=" | "!=" | "<" | "<=" | ">" | ">=" ) sum ]
  pub data Relation : List Lexeme → Term → List Lexeme → Type 0 where
    only_sum : {ls rest : List Lexeme} {t : Term} → Sum ls t rest → Relation ls t rest
    compare : {ls mid rest : List Lexeme} {sym : Sym} {op : Binary} {a b : Term} → Compares sym op →
        Sum ls a (Symbol sym ∷ mid) → Sum mid b rest → Relation ls (Two op a b) rest

  -- sum = prod { ( "+" | "-" ) prod }
  pub data Sum : List Lexeme → Term → List Lexeme → Type 0 where
    only_prod : {ls rest : List Lexeme} {t : Term} → Product ls t rest → Sum ls t rest
    add : {ls mid rest : List Lexeme} {a b : Term} → Sum ls a (Symbol symbols.Plus ∷ mid) → Product mid b rest →
        Sum ls (Two binaries.Add a b) rest
    sub : {ls mid rest : List Lexeme} {a b : Term} → Sum ls a (Symbol symbols.Minus ∷ mid) → Product mid b rest →
        Sum ls (Two binaries.Sub a b) rest

  -- prod = unary { "*" unary }
  pub data Product : List Lexeme → Term → List Lexeme → Type 0 where
    only_minus : {ls rest : List Lexeme} {t : Term} → Minus ls t rest → Product ls t rest
    mul : {ls mid rest : List Lexeme} {a b : Term} → Product ls a (Symbol symbols.Star ∷ mid) → Minus mid b rest →
        Product ls (Two binaries.Mul a b) rest

  -- unary = "-" unary | atom
  pub data Minus : List Lexeme → Term → List Lexeme → Type 0 where
    only_atom : {ls rest : List Lexeme} {t : Term} → Atom ls t rest → Minus ls t rest
    minus : {ls rest : List Lexeme} {t : Term} → Minus ls t rest →
        Minus (Symbol symbols.Minus ∷ ls) (One unaries.Neg t) rest

  -- atom = NUMBER | "true" | "false" | NAME [ "(" formula { "," formula } ")" ] | "(" formula ")"
  pub data Atom : List Lexeme → Term → List Lexeme → Type 0 where
    number : {value : ℤ} {rest : List Lexeme} → Atom (Number value ∷ rest) (terms.Number value) rest
    truth : {word : List ℕ} {rest : List Lexeme} → word ≡ codes "true" → Atom (Word word ∷ rest) True rest
    falsehood : {word : List ℕ} {rest : List Lexeme} → word ≡ codes "false" → Atom (Word word ∷ rest) False rest
    constant : {name : List ℕ} {rest : List Lexeme} → IsName name → Atom (Word name ∷ rest) (Apply name none) rest
    application : {name : List ℕ} {ls rest : List Lexeme} {row : Row} → IsName name →
        Parts ls row (Symbol symbols.RightParen ∷ rest) → Atom (Word name ∷ Symbol symbols.LeftParen ∷ ls) (Apply name row) rest
    inside : {ls rest : List Lexeme} {t : Term} → Formula ls t (Symbol symbols.RightParen ∷ rest) →
        Atom (Symbol symbols.LeftParen ∷ ls) t rest

  -- formula { "," formula }
  pub data Parts : List Lexeme → Row → List Lexeme → Type 0 where
    last_part : {ls rest : List Lexeme} {t : Term} → Formula ls t rest → Parts ls (more t none) rest
    next_part : {ls mid rest : List Lexeme} {t : Term} {row : Row} → Formula ls t (Symbol symbols.Comma ∷ mid) → Parts mid row rest →
        Parts ls (more t row) rest

-- item { separator item }
pub data Separated (A : Type 0) (Item : List Lexeme → A → List Lexeme → Type 0) (separator : Sym) : List Lexeme → List A → List Lexeme → Type 0 where
  last_item : {ls rest : List Lexeme} {x : A} → Item ls x rest → Separated A Item separator ls (x ∷ []) rest
  next_item : {ls mid rest : List Lexeme} {x : A} {xs : List A} → Item ls x (Symbol separator ∷ mid) → Separated A Item separator mid xs rest →
      Separated A Item separator ls (x ∷ xs) rest

-- a sort
pub data SortName : List Lexeme → List ℕ → List Lexeme → Type 0 where
  sort_name : {sort : List ℕ} {rest : List Lexeme} → IsSort sort → SortName (Word sort ∷ rest) sort rest

-- [ "(" SORT { "," SORT } ")" ]
pub data Arguments : List Lexeme → List (List ℕ) → List Lexeme → Type 0 where
  no_arguments : {ls : List Lexeme} → Arguments ls [] ls
  arguments : {ls rest : List Lexeme} {sorts : List (List ℕ)} →
      Separated (List ℕ) SortName symbols.Comma ls sorts (Symbol symbols.RightParen ∷ rest) →
      Arguments (Symbol symbols.LeftParen ∷ ls) sorts rest

-- NAME { NAME }, as bound to a sort
pub data BoundNames (sort : List ℕ) : List Lexeme → List Bound → List Lexeme → Type 0 where
  last_bound : {name : List ℕ} {rest : List Lexeme} → IsName name →
      BoundNames sort (Word name ∷ rest) (record { name = name; sort = sort } ∷ []) rest
  next_bound : {name : List ℕ} {ls rest : List Lexeme} {bounds : List Bound} → IsName name → BoundNames sort ls bounds rest →
      BoundNames sort (Word name ∷ ls) (record { name = name; sort = sort } ∷ bounds) rest

-- group = NAME { NAME } ":" SORT
pub data Group : List Lexeme → List Bound → List Lexeme → Type 0 where
  group : {sort : List ℕ} {ls rest : List Lexeme} {bounds : List Bound} → BoundNames sort ls bounds (Symbol symbols.Colon ∷ Word sort ∷ rest) →
      IsSort sort → Group ls bounds rest

-- the items of lists, in order
abbrev pub joined : {A : Type 0} → List (List A) → List A
joined [] = []
joined (xs ∷ xss) = xs ++ joined xss

-- [ "(" group { "," group } ")" ]
pub data Binders : List Lexeme → List Bound → List Lexeme → Type 0 where
  no_binders : {ls : List Lexeme} → Binders ls [] ls
  binders : {ls rest : List Lexeme} {groups : List (List Bound)} {bounds : List Bound} →
      Separated (List Bound) Group symbols.Comma ls groups (Symbol symbols.RightParen ∷ rest) → bounds ≡ joined groups →
      Binders (Symbol symbols.LeftParen ∷ ls) bounds rest

-- annot = "[" "=" "]" | "[" "=" "_" "]" | "[" "->" "]" | "[" "<" "-" "]" | "[" "pattern" sum { "," sum } "]"
pub data Annot : List Lexeme → Annotation → List Lexeme → Type 0 where
  left : {rest : List Lexeme} →
      Annot (Symbol symbols.LeftSquare ∷ Symbol symbols.Eq ∷ Symbol symbols.RightSquare ∷ rest) Left rest
  right : {word : List ℕ} {rest : List Lexeme} → word ≡ codes "_" →
      Annot (Symbol symbols.LeftSquare ∷ Symbol symbols.Eq ∷ Word word ∷ Symbol symbols.RightSquare ∷ rest) Right rest
  hyps : {rest : List Lexeme} →
      Annot (Symbol symbols.LeftSquare ∷ Symbol symbols.Arrow ∷ Symbol symbols.RightSquare ∷ rest) Hyps rest
  concl : {rest : List Lexeme} →
      Annot (Symbol symbols.LeftSquare ∷ Symbol symbols.Lt ∷ Symbol symbols.Minus ∷ Symbol symbols.RightSquare ∷ rest) Concl rest
  pattern : {word : List ℕ} {ls rest : List Lexeme} {patterns : List Term} → word ≡ codes "pattern" →
      Separated Term Sum symbols.Comma ls patterns (Symbol symbols.RightSquare ∷ rest) →
      Annot (Symbol symbols.LeftSquare ∷ Word word ∷ ls) (Pattern patterns) rest

-- { annot }
pub data Annots : List Lexeme → List Annotation → List Lexeme → Type 0 where
  no_annots : {ls : List Lexeme} → Annots ls [] ls
  next_annot : {ls mid rest : List Lexeme} {annotation : Annotation} {annotations : List Annotation} → Annot ls annotation mid →
      Annots mid annotations rest → Annots ls (annotation ∷ annotations) rest

-- [ formula { ";" formula } ]
pub data Hypotheses : List Lexeme → List Term → List Lexeme → Type 0 where
  no_hypotheses : {ls : List Lexeme} → Hypotheses ls [] ls
  hypotheses : {ls rest : List Lexeme} {hyps : List Term} → Separated Term Formula symbols.Semicolon ls hyps rest → Hypotheses ls hyps rest

-- a declaration, without the dot after it
pub data Declares : List Lexeme → Declaration → List Lexeme → Type 0 where
  new_sort : {word name : List ℕ} {rest : List Lexeme} → word ≡ codes "sort" → IsName name → Declares (Word word ∷ Word name ∷ rest) (Sort name) rest
  new_function : {word name result : List ℕ} {sorts : List (List ℕ)} {ls rest : List Lexeme} → word ≡ codes "fun" → IsName name →
      Arguments ls sorts (Symbol symbols.Colon ∷ Word result ∷ rest) → IsSort result →
      Declares (Word word ∷ Word name ∷ ls) (Fun name sorts result) rest
  new_theorem : {word name : List ℕ} {bounds : List Bound} {annotations : List Annotation} {body : Term} {ls mid after rest : List Lexeme} →
      word ≡ codes "theorem" → IsName name → Binders ls bounds mid → Annots mid annotations (Symbol symbols.Colon ∷ after) →
      Formula after body rest → Declares (Word word ∷ Word name ∷ ls) (Theorem name bounds annotations body) rest
  new_goal : {word name : List ℕ} {bounds : List Bound} {hyps : List Term} {show : Term} {ls mid after rest : List Lexeme} →
      word ≡ codes "goal" → IsName name → Binders ls bounds (Symbol symbols.Colon ∷ mid) →
      Hypotheses mid hyps (Symbol symbols.Turnstile ∷ after) → Formula after show rest →
      Declares (Word word ∷ Word name ∷ ls) (Goal name bounds hyps show) rest
  new_limit : {word name : List ℕ} {value : ℤ} {rest : List Lexeme} → word ≡ codes "limit" → IsName name →
      Declares (Word word ∷ Word name ∷ Number value ∷ rest) (Limit name value) rest
