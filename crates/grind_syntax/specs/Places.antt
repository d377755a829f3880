-- Tokens that stand in their text, and what stands first among lexemes.
use Rattle.std.specs.Prelude.{◌≡◌, ℕ, ℤ, ◌≤◌, ◌<◌, List, ◌∷◌, ◌++◌, All, length}
use Rattle.grind_tokens.specs.declared.tokens.Sym.{Sym}
use Rattle.grind_tokens.specs.declared.tokens.Token.{Token}
use Rattle.grind_grammar.specs.Lexemes.{Lexeme, Word, Number, Symbol}
use Rattle.grind_grammar.specs.Reading.{Reader, read_map, items, list_at}
use Rattle.grind_grammar.specs.declared.syntax.Binder.{Binder}
use Rattle.grind_grammar.specs.Terms.{Bound}
use Rattle.grind_grammar.specs.Keeps.{IsPlaced, name_of}

-- each token stands in the text
abbrev pub Placed : List ℕ → List Token → Type 0
Placed text tokens = All (λ (token : Token). (token.start ≤ token.end) × (token.end ≤ length text)) tokens

-- no symbol stands first
abbrev pub NoSymbol : List Lexeme → Type 0
NoSymbol ls = (s : Sym) (rest : List Lexeme) → ls ≡ Symbol s ∷ rest → ⊥

-- no number stands first
abbrev pub NoNumber : List Lexeme → Type 0
NoNumber ls = (value : ℤ) (rest : List Lexeme) → ls ≡ Number value ∷ rest → ⊥

-- no word stands first
abbrev pub NoWord : List Lexeme → Type 0
NoWord ls = (word : List ℕ) (rest : List Lexeme) → ls ≡ Word word ∷ rest → ⊥

-- the bound variable that a binder keeps
abbrev pub bound_of : List ℕ → Binder → Bound
bound_of text binder = record { name = name_of text binder.name; sort = name_of text binder.sort }

-- both names of a binder stand in the text
abbrev pub IsPlacedBound : List ℕ → Binder → Type 0
IsPlacedBound text binder = IsPlaced text binder.name × IsPlaced text binder.sort

-- the items that are read before the rest: what a list of items gives is these, followed by what the rest gives
pub record ItemsSoFar {A : Type 0} (item : Reader A) (separator : Sym) (all : List Lexeme) (done : List A) (rest : List Lexeme) (count : ℕ) : Type 0 where
  pub fuel : ℕ
  pub enough : count < fuel
  pub same : list_at item separator all ≡ read_map (λ xs. done ++ xs) (items item separator fuel rest)
