-- What the grammar's laws say.
use Rattle.std.specs.Prelude.{◌≡◌, ◌↔◌, ℕ, suc, map, All, Contains, Vec, ◌+◌, ◌≤◌, ◌⊎◌, List, [], ◌∷◌, Option, Some, None, Ok, Err}
use Rattle.std.specs.Global.{Global}
use Rattle.grind_grammar.specs.declared.syntax.Name.{Name}
use Rattle.grind_grammar.specs.declared.syntax.Tree.{Tree, Apply}
use Rattle.grind_grammar.specs.Terms as terms
use Rattle.grind_grammar.specs.Terms.{Term, Bound, Declaration, Sort, Fun, Theorem, Goal, Limit, Fits, DeclarationFits}
use Rattle.grind_grammar.specs.Lexemes.{Lexeme, Word}
use Rattle.grind_grammar.specs.Grammar.{Formula, Sum, Declares}
use Rattle.grind_grammar.specs.Parentheses.{Within}
use Rattle.grind_grammar.specs.Strength.{EndsFormula, EndsSum}
use Rattle.grind_grammar.specs.Files.{Fault, IsDeclaration, IsFaulty, DeclarationsOf, RefusedAt}
use Rattle.grind_grammar.specs.Keeps.{name_of, term_of, IsPlaced, IsPlacedTree}
use Rattle.grind_grammar.specs.Reading.{row_from, read, formula, sum, declaration, judged}

-- lexemes are one list of declarations at most
abbrev pub OneParse : Type 0
OneParse = (ls : List Lexeme) (a b : List Declaration) → DeclarationsOf ls a → DeclarationsOf ls b → a ≡ b

-- lexemes that are declarations are not refused
abbrev pub NoneRefused : Type 0
NoneRefused = (ls : List Lexeme) (declarations : List Declaration) (number : ℕ) (fault : Fault) → DeclarationsOf ls declarations → ¬ RefusedAt ls number fault

-- lexemes are refused at one declaration at most, with one fault
abbrev pub OneRefusal : Type 0
OneRefusal =
    (ls : List Lexeme) (a b : ℕ) (f g : Fault) → RefusedAt ls a f → RefusedAt ls b g → (a ≡ b) × (f ≡ g)

-- all lexemes are declarations, or are refused
abbrev pub EachJudged : Type 0
EachJudged =
    (ls : List Lexeme) →
    ((declarations : List Declaration) × DeclarationsOf ls declarations) ⊎ ((number : ℕ) × (fault : Fault) × RefusedAt ls number fault)

-- x is given if it has the property, and else nothing is
abbrev pub IsGivenIf : {A : Type 0} → (A → Type 0) → A → Option A → Type 0
IsGivenIf P x given = (P x × (given ≡ Some x)) ⊎ (¬ P x × (given ≡ None))

-- what is read as a formula, a sum or a declaration is one, and it is given where it fits
abbrev pub FormulasAreSound : Type 0
FormulasAreSound =
    (limit room : ℕ) (ls rest : List Lexeme) (given : Option Term) → formula limit room ls ≡ read given rest →
    (t : Term) × Formula ls t rest × IsGivenIf (Fits limit) t given

abbrev pub SumsAreSound : Type 0
SumsAreSound =
    (limit room : ℕ) (ls rest : List Lexeme) (given : Option Term) → sum limit (formula limit room) ls ≡ read given rest →
    (t : Term) × Sum ls t rest × IsGivenIf (Fits limit) t given

abbrev pub DeclarationsAreSound : Type 0
DeclarationsAreSound =
    (limit room : ℕ) (ls rest : List Lexeme) (given : Option Declaration) → declaration limit room ls ≡ read given rest →
    (d : Declaration) × Declares ls d rest × IsGivenIf (DeclarationFits limit) d given

-- each of them is read, where what follows cannot go on with it, and there is room for the parentheses
abbrev pub FormulasAreComplete : Type 0
FormulasAreComplete =
    (limit most count room : ℕ) (ls rest : List Lexeme) (t : Term) → Formula ls t rest → Within most count ls → most ≤ room + count → EndsFormula rest →
    (given : Option Term) × (formula limit (suc room) ls ≡ read given rest) × IsGivenIf (Fits limit) t given

abbrev pub SumsAreComplete : Type 0
SumsAreComplete =
    (limit most count room : ℕ) (ls rest : List Lexeme) (t : Term) → Sum ls t rest → Within most count ls → most ≤ room + count → EndsSum rest →
    (given : Option Term) × (sum limit (formula limit room) ls ≡ read given rest) × IsGivenIf (Fits limit) t given

abbrev pub DeclarationsAreComplete : Type 0
DeclarationsAreComplete =
    (limit most count room : ℕ) (ls rest : List Lexeme) (d : Declaration) → Declares ls d rest → Within most count ls → most ≤ room + count → EndsFormula rest →
    (given : Option Declaration) × (declaration limit room ls ≡ read given rest) × IsGivenIf (DeclarationFits limit) d given

-- the reading function's verdict on a piece is the grammar's
abbrev pub PiecesAreJudged : Type 0
PiecesAreJudged = (piece : List Lexeme) (d : Declaration) → (judged piece ≡ Ok d) ↔ IsDeclaration piece d

abbrev pub FaultsAreJudged : Type 0
FaultsAreJudged = (piece : List Lexeme) (fault : Fault) → (judged piece ≡ Err fault) ↔ IsFaulty piece fault

-- the term of a name with its parts is that name with the terms of the parts
abbrev pub TermsByParts : Type 0
TermsByParts =
    (text : List ℕ) (name : Name) (args : Vec Tree Global) →
    term_of text (Apply name args) ≡ terms.Apply (name_of text name) (row_from (map (term_of text) args.items))

-- its names stand in the text exactly where the name and those of its parts do
abbrev pub PlacesByParts : Type 0
PlacesByParts =
    (text : List ℕ) (name : Name) (args : Vec Tree Global) →
    IsPlacedTree text (Apply name args) ↔ (IsPlaced text name × All (IsPlacedTree text) args.items)

-- the names that a declaration declares: its own and those of its binders; a limit declares none
abbrev pub declared_names : Declaration → List (List ℕ)
declared_names (Sort name) = name ∷ []
declared_names (Fun name sorts result) = name ∷ []
declared_names (Theorem name bounds annotations body) = name ∷ map (λ (bound : Bound). bound.name) bounds
declared_names (Goal name bounds hyps show) = name ∷ map (λ (bound : Bound). bound.name) bounds
declared_names (Limit name value) = []

-- each name that a declaration of the file declares is a word of the file
abbrev pub NamesAreWords : Type 0
NamesAreWords =
    (ls : List Lexeme) (ds : List Declaration) (d : Declaration) (name : List ℕ) →
    DeclarationsOf ls ds → Contains ds d → Contains (declared_names d) name → Contains ls (Word name)
