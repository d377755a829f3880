-- Which declarations a file is, or the first declaration that is bad and what is wrong with it.
use Rattle.std.specs.Prelude.{◌≡◌, ◌≢◌, ℕ, suc, ◌<◌, List, [], ◌∷◌, ◌++◌, length, All}
use Rattle.grind_tokens.specs.declared.tokens.Sym.TheVariants as symbols
use Rattle.grind_grammar.specs.Terms.{Declaration, DeclarationFits}
use Rattle.grind_grammar.specs.Lexemes.{Lexeme, Symbol}
use Rattle.grind_grammar.specs.Grammar.{Declares}
use Rattle.grind_grammar.specs.Parentheses.{Within}

-- how many parentheses may be open in a declaration, and how deep its trees may be
abbrev pub depth_limit : ℕ
depth_limit = 200

-- what is wrong with a declaration
pub data Fault : Type 0 where
  Syntax : Fault
  TooDeep : Fault

-- the lexemes of a declaration: no dot is among them
abbrev pub IsPiece : List Lexeme → Type 0
IsPiece = All (λ l. l ≢ Symbol symbols.Dot)

-- a piece is this declaration
pub record IsDeclaration (piece : List Lexeme) (declaration : Declaration) : Type 0 where
  pub within : Within depth_limit 0 piece
  pub declares : Declares piece declaration []
  pub fits : DeclarationFits depth_limit declaration

-- a piece with its dot is no declaration of the language: the first fault in this order
pub data IsFaulty : List Lexeme → Fault → Type 0 where
  too_many_open : {piece : List Lexeme} → ¬ Within depth_limit 0 piece → IsFaulty piece TooDeep
  ungrammatical : {piece : List Lexeme} → Within depth_limit 0 piece → ((declaration : Declaration) → ¬ Declares piece declaration []) →
      IsFaulty piece Syntax
  too_deep : {piece : List Lexeme} {declaration : Declaration} → Within depth_limit 0 piece → Declares piece declaration [] →
      ¬ DeclarationFits depth_limit declaration → IsFaulty piece TooDeep

-- a last piece without its dot
pub data IsFaultyEnd : List Lexeme → Fault → Type 0 where
  end_too_many_open : {piece : List Lexeme} → ¬ Within depth_limit 0 piece → IsFaultyEnd piece TooDeep
  unended : {piece : List Lexeme} → Within depth_limit 0 piece → IsFaultyEnd piece Syntax

-- a file: declarations, each with a dot after it
pub data DeclarationsOf : List Lexeme → List Declaration → Type 0 where
  nothing : DeclarationsOf [] []
  declared : {ls piece rest : List Lexeme} {declaration : Declaration} {declarations : List Declaration} →
      IsPiece piece → ls ≡ piece ++ Symbol symbols.Dot ∷ rest → IsDeclaration piece declaration → DeclarationsOf rest declarations →
      DeclarationsOf ls (declaration ∷ declarations)

-- no file: the first bad declaration, counted from 1, and what is wrong with it
pub data RefusedAt : List Lexeme → ℕ → Fault → Type 0 where
  here : {ls piece : List Lexeme} (rest : List Lexeme) {fault : Fault} → IsPiece piece → ls ≡ piece ++ Symbol symbols.Dot ∷ rest →
      IsFaulty piece fault → RefusedAt ls 1 fault
  at_end : {piece : List Lexeme} {fault : Fault} → IsPiece piece → 0 < length piece → IsFaultyEnd piece fault → RefusedAt piece 1 fault
  later : {ls piece rest : List Lexeme} {declaration : Declaration} {number : ℕ} {fault : Fault} →
      IsPiece piece → ls ≡ piece ++ Symbol symbols.Dot ∷ rest → IsDeclaration piece declaration → RefusedAt rest number fault →
      RefusedAt ls (suc number) fault
