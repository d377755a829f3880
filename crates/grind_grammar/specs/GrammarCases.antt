-- Worked cases: lexemes that are a formula, and which; lexemes that are none; a file, and two that are refused.
use Rattle.std.specs.Prelude.{◌≡◌, ◌↔◌, ℕ, zero, suc, pos, List, [], ◌∷◌, ◌++◌, replicate, codes}
use Rattle.grind_tokens.specs.declared.tokens.Sym.TheVariants as symbols
use Rattle.grind_grammar.specs.declared.syntax.Unary.TheVariants as unaries
use Rattle.grind_grammar.specs.declared.syntax.Binary.TheVariants as binaries
use Rattle.grind_grammar.specs.Terms.{Term, Apply, One, Two, none, more, Bound, Left, Concl, Pattern, Theorem, Goal, Limit}
use Rattle.grind_grammar.specs.Terms as terms
use Rattle.grind_grammar.specs.Lexemes.{Lexeme, Word, Number, Symbol}
use Rattle.grind_grammar.specs.Grammar.{Formula}
use Rattle.grind_grammar.specs.Files.{Syntax, TooDeep, IsDeclaration, IsFaulty, DeclarationsOf, RefusedAt}

-- four names, as words and as constants
abbrev pub word_a : Lexeme
word_a = Word (codes "a")

abbrev pub word_b : Lexeme
word_b = Word (codes "b")

abbrev pub word_c : Lexeme
word_c = Word (codes "c")

abbrev pub a : Term
a = Apply (codes "a") none

abbrev pub b : Term
b = Apply (codes "b") none

abbrev pub c : Term
c = Apply (codes "c") none

-- the lexemes are this formula, and no other
abbrev pub IsTheFormula : List Lexeme → Term → Type 0
IsTheFormula ls t = (u : Term) → Formula ls u [] ↔ (u ≡ t)

-- `a = b -> b = c` is an implication between two equations
abbrev pub EquationsFirst : Type 0
EquationsFirst =
    IsTheFormula
    (word_a ∷ Symbol symbols.Eq ∷ word_b ∷ Symbol symbols.Arrow ∷ word_b ∷ Symbol symbols.Eq ∷ word_c ∷ [])
    (Two binaries.Implies (Two binaries.Eq a b) (Two binaries.Eq b c))

-- `a = b = c` is no formula
abbrev pub NoDoubleEquation : Type 0
NoDoubleEquation = (t : Term) → ¬ Formula (word_a ∷ Symbol symbols.Eq ∷ word_b ∷ Symbol symbols.Eq ∷ word_c ∷ []) t []

-- `a -> b -> c` is `a -> (b -> c)`
abbrev pub ImplicationsGoRight : Type 0
ImplicationsGoRight =
    IsTheFormula (word_a ∷ Symbol symbols.Arrow ∷ word_b ∷ Symbol symbols.Arrow ∷ word_c ∷ []) (Two binaries.Implies a (Two binaries.Implies b c))

-- `a - b - c` is `(a - b) - c`
abbrev pub DifferencesGoLeft : Type 0
DifferencesGoLeft =
    IsTheFormula (word_a ∷ Symbol symbols.Minus ∷ word_b ∷ Symbol symbols.Minus ∷ word_c ∷ []) (Two binaries.Sub (Two binaries.Sub a b) c)

-- `a \/ b /\ c` is `a \/ (b /\ c)`
abbrev pub AndThenOr : Type 0
AndThenOr = IsTheFormula (word_a ∷ Symbol symbols.Or ∷ word_b ∷ Symbol symbols.And ∷ word_c ∷ []) (Two binaries.Or a (Two binaries.And b c))

-- `- - 1` has two signs
abbrev pub TwoSigns : Type 0
TwoSigns = IsTheFormula (Symbol symbols.Minus ∷ Symbol symbols.Minus ∷ Number (pos 1) ∷ []) (One unaries.Neg (One unaries.Neg (terms.Number (pos 1))))

-- `~ a = b` is `~ (a = b)`
abbrev pub NegationOfEquation : Type 0
NegationOfEquation = IsTheFormula (Symbol symbols.Not ∷ word_a ∷ Symbol symbols.Eq ∷ word_b ∷ []) (One unaries.Not (Two binaries.Eq a b))

-- `theorem a(b c: Int)[=][<-][pattern b(c), c]: b(c) = c`
abbrev pub TheoremWithPatterns : Type 0
TheoremWithPatterns =
    IsDeclaration
    (Word (codes "theorem") ∷ word_a
    ∷ Symbol symbols.LeftParen ∷ word_b ∷ word_c ∷ Symbol symbols.Colon ∷ Word (codes "Int") ∷ Symbol symbols.RightParen
    ∷ Symbol symbols.LeftSquare ∷ Symbol symbols.Eq ∷ Symbol symbols.RightSquare
    ∷ Symbol symbols.LeftSquare ∷ Symbol symbols.Lt ∷ Symbol symbols.Minus ∷ Symbol symbols.RightSquare
    ∷ Symbol symbols.LeftSquare ∷ Word (codes "pattern")
    ∷ word_b ∷ Symbol symbols.LeftParen ∷ word_c ∷ Symbol symbols.RightParen ∷ Symbol symbols.Comma ∷ word_c ∷ Symbol symbols.RightSquare
    ∷ Symbol symbols.Colon ∷ word_b ∷ Symbol symbols.LeftParen ∷ word_c ∷ Symbol symbols.RightParen ∷ Symbol symbols.Eq ∷ word_c ∷ [])
    (Theorem
    (codes "a")
    (record { name = codes "b"; sort = codes "Int" } ∷ record { name = codes "c"; sort = codes "Int" } ∷ [])
    (Left ∷ Concl ∷ Pattern (Apply (codes "b") (more c none) ∷ c ∷ []) ∷ [])
    (Two binaries.Eq (Apply (codes "b") (more c none)) c))

-- `goal a: b = c; b |- c`
abbrev pub GoalWithHypotheses : Type 0
GoalWithHypotheses =
    IsDeclaration
    (Word (codes "goal") ∷ word_a ∷ Symbol symbols.Colon ∷ word_b ∷ Symbol symbols.Eq ∷ word_c ∷ Symbol symbols.Semicolon ∷ word_b
    ∷ Symbol symbols.Turnstile ∷ word_c ∷ [])
    (Goal (codes "a") [] (Two binaries.Eq b c ∷ b ∷ []) c)

-- a goal whose conclusion is 1 with so many signs before it, and one whose conclusion stands in so many parentheses
abbrev pub signed_goal : ℕ → List Lexeme
signed_goal n =
    Word (codes "goal") ∷ word_a ∷ Symbol symbols.Colon ∷ Symbol symbols.Turnstile ∷ replicate n (Symbol symbols.Minus) ++ Number (pos 1) ∷ []

abbrev pub wrapped_goal : ℕ → List Lexeme
wrapped_goal n =
    Word (codes "goal") ∷ word_a ∷ Symbol symbols.Colon ∷ Symbol symbols.Turnstile ∷ replicate n (Symbol symbols.LeftParen)
    ++ word_b ∷ replicate n (Symbol symbols.RightParen)

-- 1 with so many signs
abbrev pub signed_one : ℕ → Term
signed_one zero = terms.Number (pos 1)
signed_one (suc n) = One unaries.Neg (signed_one n)

-- 199 signs make a tree of depth 200, and 200 make one that is too deep
abbrev pub SignsFit : Type 0
SignsFit = IsDeclaration (signed_goal 199) (Goal (codes "a") [] [] (signed_one 199))

abbrev pub SignsAreTooMany : Type 0
SignsAreTooMany = IsFaulty (signed_goal 200) TooDeep

-- 200 parentheses may be open, and 201 are too many
abbrev pub ParenthesesFit : Type 0
ParenthesesFit = IsDeclaration (wrapped_goal 200) (Goal (codes "a") [] [] b)

abbrev pub ParenthesesAreTooMany : Type 0
ParenthesesAreTooMany = IsFaulty (wrapped_goal 201) TooDeep

-- `limit a 3.` is one declaration
abbrev pub OneLimit : Type 0
OneLimit =
    DeclarationsOf (Word (codes "limit") ∷ word_a ∷ Number (pos 3) ∷ Symbol symbols.Dot ∷ []) (Limit (codes "a") (pos 3) ∷ [])

-- `sort a. sort Int.` is refused at its second declaration: `Int` is no name
abbrev pub IntIsNoName : Type 0
IntIsNoName =
    RefusedAt
    (Word (codes "sort") ∷ word_a ∷ Symbol symbols.Dot ∷ Word (codes "sort") ∷ Word (codes "Int") ∷ Symbol symbols.Dot ∷ [])
    2
    Syntax

-- `sort a` is refused: its dot is missing
abbrev pub DotIsMissing : Type 0
DotIsMissing = RefusedAt (Word (codes "sort") ∷ word_a ∷ []) 1 Syntax
