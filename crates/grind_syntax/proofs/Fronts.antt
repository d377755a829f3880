-- What stands at the front of lexemes, as the reading function says it.
use Rattle.std.proofs.Common.{◌≡◌, ℕ, suc, Bool, true, false, List, [], ◌∷◌, length, Some, None, refl, sym, ◌∙◌, ap, rules, arith, eqb-true}
use Rattle.std.specs.Prelude.{if◌then◌else◌, nat_eq, ◌+◌, ◌<◌, ◌≤◌, drop, get_or}
use Rattle.grind_tokens.specs.declared.tokens.Sym.{Sym}
use Rattle.grind_tokens.specs.declared.tokens.Sym.TheVariants as symbols
use Rattle.grind_tokens.specs.declared.tokens.Token.{Token}
use Rattle.grind_grammar.specs.Lexemes.{Lexeme, Word, Number, Symbol, lexemes}
use Rattle.grind_grammar.specs.Reading.{read, symbol_number, is_symbol, symbol_at, is_name, is_sort, name_at, sort_at}
use Rattle.std.proofs.lemmas.List.{length-drop}
use Rattle.std.proofs.Common.{drop-cons}
use Rattle.grind_syntax.specs.declared.source.Source.{Source}
use Rattle.grind_syntax.specs.Places.{NoWord}
use Rattle.grind_syntax.specs.Sources.{ahead, count_ahead}

-- symbols have numbers of their own

abbrev symbol_of : ℕ → Sym
symbol_of n =
    if nat_eq n 0 then symbols.Dot else if nat_eq n 1 then symbols.Comma else if nat_eq n 2 then symbols.Colon else
    if nat_eq n 3 then symbols.Semicolon else if nat_eq n 4 then symbols.LeftParen else if nat_eq n 5 then symbols.RightParen else
    if nat_eq n 6 then symbols.LeftSquare else if nat_eq n 7 then symbols.RightSquare else if nat_eq n 8 then symbols.Eq else
    if nat_eq n 9 then symbols.Ne else if nat_eq n 10 then symbols.Lt else if nat_eq n 11 then symbols.Le else
    if nat_eq n 12 then symbols.Iff else if nat_eq n 13 then symbols.Gt else if nat_eq n 14 then symbols.Ge else
    if nat_eq n 15 then symbols.Plus else if nat_eq n 16 then symbols.Minus else if nat_eq n 17 then symbols.Star else
    if nat_eq n 18 then symbols.And else if nat_eq n 19 then symbols.Or else if nat_eq n 20 then symbols.Not else
    if nat_eq n 21 then symbols.Arrow else symbols.Turnstile

symbol_of_number : (s : Sym) → symbol_of (symbol_number s) ≡ s
symbol_of_number symbols.Dot = refl
symbol_of_number _ = refl

one_symbol : (s t : Sym) → symbol_number s ≡ symbol_number t → s ≡ t
one_symbol s t e = sym (symbol_of_number s) ∙ ap symbol_of e ∙ symbol_of_number t

nat_same : (n : ℕ) → nat_eq n n ≡ true
nat_same n = search rules

chosen_other : (b : Bool) (ls : List Lexeme) → ¬ (b ≡ true) → (if b then Some ls else None) ≡ None
chosen_other true ls h = absurd (h refl)
chosen_other false ls h = refl

pub symbol_front : (s : Sym) (ls rest : List Lexeme) → ls ≡ Symbol s ∷ rest → symbol_at s ls ≡ Some rest
unfolding symbol_at is_symbol
symbol_front s ls rest e = rw e (rw (nat_same (symbol_number s)) refl)

pub no_symbol_front : (s : Sym) (ls : List Lexeme) → ((rest : List Lexeme) → ls ≡ Symbol s ∷ rest → ⊥) → symbol_at s ls ≡ None
unfolding symbol_at is_symbol
no_symbol_front s [] h = refl
no_symbol_front s (Word bytes ∷ ls) h = refl
no_symbol_front s (Number value ∷ ls) h = refl
no_symbol_front s (Symbol t ∷ ls) h =
    chosen_other (nat_eq (symbol_number s) (symbol_number t)) ls
    (λ e. h ls (ap (λ x. Symbol x ∷ ls) (sym (one_symbol s t (eqb-true _ _ e)))))

pub lexemes_length : (text : List ℕ) (tokens : List Token) → length (lexemes text tokens) ≡ length tokens
lexemes_length text [] = refl
lexemes_length text (token ∷ tokens) = ap suc (lexemes_length text tokens)

-- places

pub length_ahead : (source : Source) (at : ℕ) → length (ahead source at) ≡ count_ahead source at
length_ahead source at = lexemes_length source.text.now (drop at source.tokens.now) ∙ length-drop at source.tokens.now

pub ahead_enough : (source : Source) (at : ℕ) → count_ahead source at ≤ length (ahead source at)
ahead_enough source at = let same = length_ahead source at in omega arith

pub token_here : (tokens : List Token) (at next : ℕ) (d : Token) → at < length tokens → next ≡ at + 1 → drop at tokens ≡ get_or tokens at d ∷ drop next tokens
token_here tokens at next d h e = let same : next ≡ suc at = omega arith in rw same (drop-cons tokens at d h)

-- names

pub name_front : (ls : List Lexeme) (w : List ℕ) (rest : List Lexeme) → ls ≡ Word w ∷ rest → is_name w ≡ true → name_at ls ≡ read w rest
unfolding name_at
name_front ls w rest e h = rw e (rw h refl)

pub no_name_front : (ls : List Lexeme) (w : List ℕ) (rest : List Lexeme) → ls ≡ Word w ∷ rest → is_name w ≡ false → name_at ls ≡ None
unfolding name_at
no_name_front ls w rest e h = rw e (rw h refl)

pub no_word_no_name : (ls : List Lexeme) → NoWord ls → name_at ls ≡ None
unfolding name_at
no_word_no_name [] h = refl
no_word_no_name (Word w ∷ ls) h = absurd (h w ls refl)
no_word_no_name (Number value ∷ ls) h = refl
no_word_no_name (Symbol s ∷ ls) h = refl

pub sort_front : (ls : List Lexeme) (w : List ℕ) (rest : List Lexeme) → ls ≡ Word w ∷ rest → is_sort w ≡ true → sort_at ls ≡ read w rest
unfolding sort_at
sort_front ls w rest e h = rw e (rw h refl)

pub no_sort_front : (ls : List Lexeme) (w : List ℕ) (rest : List Lexeme) → ls ≡ Word w ∷ rest → is_sort w ≡ false → sort_at ls ≡ None
unfolding sort_at
no_sort_front ls w rest e h = rw e (rw h refl)

pub no_word_no_sort : (ls : List Lexeme) → NoWord ls → sort_at ls ≡ None
unfolding sort_at
no_word_no_sort [] h = refl
no_word_no_sort (Word w ∷ ls) h = absurd (h w ls refl)
no_word_no_sort (Number value ∷ ls) h = refl
no_word_no_sort (Symbol s ∷ ls) h = refl

pub no_symbol_at_end : (s : Sym) (text : List ℕ) (tokens : List Token) → length tokens ≡ 0 → symbol_at s (lexemes text tokens) ≡ None
unfolding symbol_at
no_symbol_at_end s text [] e = refl
no_symbol_at_end s text (token ∷ tokens) e = absurd (omega arith)
