-- Why there are no declarations, and how far a file was read.
use Rattle.std.specs.Prelude.{◌≡◌, ℕ, ◌+◌, List, ◌++◌, map, Result, Err}
use Rattle.grind_grammar.specs.declared.syntax.Decl.{Decl}
use Rattle.grind_grammar.specs.Terms.{Declaration}
use Rattle.grind_grammar.specs.Lexemes.{Lexeme}
use Rattle.grind_grammar.specs.Files.{Fault, Syntax, TooDeep, IsFaultyEnd, DeclarationsOf, RefusedAt}
use Rattle.grind_syntax.specs.declared.parse.SyntaxRefusal.{SyntaxRefusal}
use Rattle.grind_syntax.specs.declared.parse.SyntaxRefusal.TheVariants as refusals
use Rattle.grind_syntax.specs.KeptDeclarations.{declaration_kept}

-- a refusal of these lexemes; want of memory says nothing of them
abbrev pub IsRefusal : List Lexeme → SyntaxRefusal → Type 0
IsRefusal ls (refusals.Syntax decl) = RefusedAt ls decl Syntax
IsRefusal ls (refusals.TooDeep decl) = RefusedAt ls decl TooDeep
IsRefusal ls refusals.Memory = Unit {0}

-- a refusal of the piece of this number, by the verdict on it
abbrev pub IsVerdict : Result Declaration Fault → ℕ → SyntaxRefusal → Type 0
IsVerdict verdict number (refusals.Syntax decl) = (decl ≡ number) × (verdict ≡ Err Syntax)
IsVerdict verdict number (refusals.TooDeep decl) = (decl ≡ number) × (verdict ≡ Err TooDeep)
IsVerdict verdict number refusals.Memory = Unit {0}

-- a refusal of a last piece of this number, without its dot
abbrev pub IsEndRefusal : List Lexeme → ℕ → SyntaxRefusal → Type 0
IsEndRefusal piece number (refusals.Syntax decl) = (decl ≡ number) × IsFaultyEnd piece Syntax
IsEndRefusal piece number (refusals.TooDeep decl) = (decl ≡ number) × IsFaultyEnd piece TooDeep
IsEndRefusal piece number refusals.Memory = ⊥

-- the declarations that stand before the rest: with those of the rest they are the whole, and a refusal of the rest is one of the whole
pub record FileSoFar (text : List ℕ) (all : List Lexeme) (kept : List Decl) (rest : List Lexeme) (count : ℕ) : Type 0 where
  pub completes : (ds : List Declaration) → DeclarationsOf rest ds → DeclarationsOf all (map (declaration_kept text) kept ++ ds)
  pub refuses : (number : ℕ) (fault : Fault) → RefusedAt rest number fault → RefusedAt all (count + number) fault
