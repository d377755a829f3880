-- The worked cases, by the reading function.
use Rattle.std.proofs.Common.{◌≡◌, inl, inr, true, List, [], ◌∷◌, Option, Some, Ok, refl, sym, ◌∙◌, subst, arith, pos}
use Rattle.std.proofs.lemmas.List.Elements.{All-nil, All-cons}
use Rattle.std.specs.Prelude.{if◌then◌else◌, ◌≢◌, ◌++◌, Bool, false, codes}
use Rattle.grind_tokens.specs.declared.tokens.Sym.TheVariants as symbols
use Rattle.grind_grammar.specs.Terms.{Term, Fits, Declaration, Sort}
use Rattle.grind_grammar.specs.Lexemes.{Lexeme, Word, Number, Symbol}
use Rattle.grind_grammar.specs.Grammar.{Formula}
use Rattle.grind_grammar.specs.Parentheses.{Within}
use Rattle.grind_grammar.specs.Files.{Syntax, IsPiece, DeclarationsOf, nothing, declared, here, later, at_end, unended}
use Rattle.grind_grammar.specs.GrammarCases.{word_a, TheoremWithPatterns, GoalWithHypotheses, SignsFit, SignsAreTooMany, ParenthesesFit, ParenthesesAreTooMany, IsTheFormula, EquationsFirst, NoDoubleEquation, ImplicationsGoRight, DifferencesGoLeft, AndThenOr, TwoSigns, NegationOfEquation, OneLimit, IntIsNoName, DotIsMissing}
use Rattle.grind_grammar.specs.Reading.{read, read_map, read_then, is_symbol, symbol_at, closed, is_name, name_at, items, items_behind, list_at, fit, one, two, op_at, joined_behind, once, right_chain, left_behind, left_chain, left_joined, signed, parts_behind, word_atom, atom, minus, product, sum, relation, negation, conj, disj, impl, formula_over, formula, within, limit_of, declaration_of, declaration, whole, judged, goal_of, goal_with, hyps, hyps_from, names, group_behind, group, binders, in_parentheses, in_parentheses_from, all_of, with_all, row_from, applied, is_sort, sort_at, word_at, theorem_of, theorem_with, annot_after_eq, annot_of_symbol, annot_inside, annots_behind, annots_up_to, annots}
use Rattle.grind_grammar.proofs.ReadLemmas.{nothing_read, some_is, read_is}
use Rattle.grind_grammar.proofs.FitLemmas.{IsGiven, fit_given}
use Rattle.grind_grammar.proofs.TermSound.{formula_sound}
use Rattle.grind_grammar.proofs.DeclarationDone.{formula_at}
use Rattle.grind_grammar.proofs.PieceLemmas.{within_is, judged_ok, judged_err}
use Rattle.grind_grammar.proofs.FileLemmas.{no_dot}

-- whether no dot is among the lexemes
no_dot_among : List Lexeme → Bool
no_dot_among [] = true
no_dot_among (l ∷ ls) = if is_symbol symbols.Dot l then false else no_dot_among ls

-- all that a formula is read by
computes : Unit {0}
unfolding read_map read_then is_symbol symbol_at closed is_name items items_behind list_at fit one two op_at joined_behind once right_chain left_behind left_chain left_joined signed parts_behind word_atom atom minus product sum relation negation conj disj impl formula_over formula within name_at limit_of declaration_of declaration whole judged no_dot_among goal_of goal_with hyps hyps_from names group_behind group binders in_parentheses in_parentheses_from all_of with_all row_from applied is_sort sort_at word_at theorem_of theorem_with annot_after_eq annot_of_symbol annot_inside annots_behind annots_up_to annots
computes = tt

reads_formula : (ls : List Lexeme) (t : Term) → Within 9 0 ls → Formula ls t [] → formula 9 10 ls ≡ read (fit 9 t) []
reads_formula ls t w d = (formula_at 9 9 0 9 (omega arith) ls t [] d w (omega arith)).reads

given_is : (t u : Term) → Some t ≡ fit 9 u → IsGiven (Fits 9) (fit 9) u → t ≡ u
given_is t u e (inl g) = some_is (e ∙ g.1)
given_is t u e (inr g) = absurd (nothing_read (sym (e ∙ g.1)))

the_formula : (ls : List Lexeme) (t : Term) → within 9 0 ls ≡ true → formula 9 10 ls ≡ read (Some t) [] → IsTheFormula ls t
the_formula ls t w e u = (
  λ d. sym (given_is t u (read_is (sym e ∙ reads_formula ls u (within_is 9 0 ls w) d)).0 (fit_given 9 u)),
  λ f.
      let k = formula_sound 9 10 ls (Some t) [] e in
      subst (λ v. Formula ls v []) (sym (given_is t k.0 k.2 (fit_given 9 k.0)) ∙ sym f) k.1,
)

no_formula : (ls : List Lexeme) (x : Option Term) (l : Lexeme) (rest : List Lexeme) → within 9 0 ls ≡ true → formula 9 10 ls ≡ read x (l ∷ rest) → (t : Term) → ¬ Formula ls t []
no_formula ls x l rest w e t d = no_rest (read_is (sym e ∙ reads_formula ls t (within_is 9 0 ls w) d)).1
  where
    no_rest : l ∷ rest ≡ [] → ⊥
    no_rest h = absurd cc

pub equations_first : EquationsFirst
unfolding computes
equations_first = the_formula _ _ refl refl

pub no_double_equation : NoDoubleEquation
unfolding computes
no_double_equation = no_formula _ _ _ _ refl refl

pub implications_go_right : ImplicationsGoRight
unfolding computes
implications_go_right = the_formula _ _ refl refl

pub differences_go_left : DifferencesGoLeft
unfolding computes
differences_go_left = the_formula _ _ refl refl

pub and_then_or : AndThenOr
unfolding computes
and_then_or = the_formula _ _ refl refl

pub two_signs : TwoSigns
unfolding computes
two_signs = the_formula _ _ refl refl

pub negation_of_equation : NegationOfEquation
unfolding computes
negation_of_equation = the_formula _ _ refl refl

-- files

not_dot : (b : Bool) (rest : Bool) → (if b then false else rest) ≡ true → (b ≡ false) × (rest ≡ true)
not_dot true rest e = absurd cc
not_dot false rest e = (refl, e)

is_piece : (ls : List Lexeme) → no_dot_among ls ≡ true → IsPiece ls
unfolding no_dot_among
is_piece [] e = All-nil (λ l. l ≢ Symbol symbols.Dot)
is_piece (l ∷ ls) e =
    let h = not_dot (is_symbol symbols.Dot l) (no_dot_among ls) e in
    All-cons (λ l. l ≢ Symbol symbols.Dot) l ls (no_dot l h.0) (is_piece ls h.1)

one_more : (piece rest : List Lexeme) (d : Declaration) (ds : List Declaration) → no_dot_among piece ≡ true → judged piece ≡ Ok d → DeclarationsOf rest ds →
    DeclarationsOf (piece ++ Symbol symbols.Dot ∷ rest) (d ∷ ds)
one_more piece rest d ds p e h = declared (is_piece piece p) refl (judged_ok piece d e) h

pub one_limit : OneLimit
unfolding computes
one_limit = one_more (Word (codes "limit") ∷ word_a ∷ Number (pos 3) ∷ []) [] _ [] refl refl nothing

abbrev sort_a : List Lexeme
sort_a = Word (codes "sort") ∷ word_a ∷ []

abbrev sort_int : List Lexeme
sort_int = Word (codes "sort") ∷ Word (codes "Int") ∷ []

pub int_is_no_name : IntIsNoName
unfolding computes
int_is_no_name =
    later {piece = sort_a} (is_piece sort_a refl) refl (judged_ok sort_a (Sort (codes "a")) refl)
    (here {piece = sort_int} [] (is_piece sort_int refl) refl (judged_err sort_int Syntax refl))

pub dot_is_missing : DotIsMissing
unfolding computes
dot_is_missing = at_end (is_piece sort_a refl) (omega arith) (unended (within_is 200 0 sort_a refl))

pub theorem_with_patterns : TheoremWithPatterns
unfolding computes
theorem_with_patterns = judged_ok _ _ refl

pub goal_with_hypotheses : GoalWithHypotheses
unfolding computes
goal_with_hypotheses = judged_ok _ _ refl

pub signs_fit : SignsFit
unfolding computes
signs_fit = judged_ok _ _ refl

pub signs_are_too_many : SignsAreTooMany
unfolding computes
signs_are_too_many = judged_err _ _ refl

pub parentheses_fit : ParenthesesFit
unfolding computes
parentheses_fit = judged_ok _ _ refl

pub parentheses_are_too_many : ParenthesesAreTooMany
unfolding computes
parentheses_are_too_many = judged_err _ _ refl
