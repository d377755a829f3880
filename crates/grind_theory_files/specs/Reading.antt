-- What is known between the steps of reading a theory.
use Rattle.std.specs.Prelude.{◌≡◌, List, ℕ, All}
use Rattle.grind_tokens.specs.declared.tokens.Token.{Token}
use Rattle.grind_tokens.specs.declared.tokens.LexRefusal.{LexRefusal}
use Rattle.grind_tokens.specs.declared.tokens.LexRefusal.TheVariants as lexical
use Rattle.grind_tokens.specs.Tokens.{TokensOf, IsPiece}
use Rattle.grind_grammar.specs.declared.syntax.Decl.{Decl}
use Rattle.grind_grammar.specs.Lexemes.{lexemes}
use Rattle.grind_grammar.specs.Terms.{Declaration}
use Rattle.grind_grammar.specs.Files.{DeclarationsOf}
use Rattle.grind_grammar.specs.Keeps.{KeepsDecls}
use Rattle.grind_syntax.specs.declared.parse.SyntaxRefusal.{SyntaxRefusal}
use Rattle.grind_syntax.specs.declared.parse.SyntaxRefusal.TheVariants as grammatical
use Rattle.grind_theory.specs.declared.theory.TheoryRefusal.{TheoryRefusal}
use Rattle.grind_theory.specs.declared.theory.TheoryRefusal.TheVariants as declared
use Rattle.grind_command.specs.declared.refusal.Refusal.TheVariants as refusals
use Rattle.grind_theory_files.specs.declared.reader.ReaderRefusal.{ReaderRefusal}
use Rattle.grind_theory_files.specs.declared.reader.ReaderRefusal.TheVariants.{Refused, Memory}
use Rattle.grind_theory_files.specs.TheoryFiles.{IsRefusedFor}

-- these are the tokens of the bytes, each a piece of them
abbrev pub AreTokens : List ℕ → List Token → Type 0
AreTokens bytes tokens = TokensOf bytes tokens × All (IsPiece bytes) tokens

-- the code keeps the declarations of the tokens
abbrev pub AreDeclarations : List ℕ → List Token → List Decl → Type 0
AreDeclarations bytes tokens kept =
    (ds : List Declaration) × DeclarationsOf (lexemes bytes tokens) ds × KeepsDecls bytes kept ds

-- what a refusal says of the bytes; want of memory says nothing
abbrev pub IsRefusal : List ℕ → ReaderRefusal → Type 0
IsRefusal bytes (Refused refusal) = IsRefusedFor bytes refusal
IsRefusal bytes Memory = Unit {0}

-- the refusal that a refusal of the tokens makes
abbrev pub IsLexical : LexRefusal → ReaderRefusal → Type 0
IsLexical (lexical.BadByte offset) made = made ≡ Refused (refusals.Lex (lexical.BadByte offset))
IsLexical (lexical.NumberTooLarge offset) made = made ≡ Refused (refusals.Lex (lexical.NumberTooLarge offset))
IsLexical (lexical.NameTooLong offset) made = made ≡ Refused (refusals.Lex (lexical.NameTooLong offset))
IsLexical lexical.Memory made = made ≡ Memory

-- the refusal that a refusal of the declarations makes
abbrev pub IsGrammatical : SyntaxRefusal → ReaderRefusal → Type 0
IsGrammatical (grammatical.Syntax decl) made = made ≡ Refused (refusals.Syntax decl)
IsGrammatical (grammatical.TooDeep decl) made = made ≡ Refused (refusals.TooDeep decl)
IsGrammatical grammatical.Memory made = made ≡ Memory

-- the refusal that a refusal of the theory makes
abbrev pub IsOfDeclarations : TheoryRefusal → ReaderRefusal → Type 0
IsOfDeclarations (declared.Bad decl fault) made = made ≡ Refused (refusals.Bad decl fault)
IsOfDeclarations declared.Memory made = made ≡ Memory
