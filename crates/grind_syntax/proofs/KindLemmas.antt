-- The lexemes of tokens that begin with a token of a kind.
use Rattle.std.proofs.Common.{◌≡◌, ℕ, ℤ, List, [], ◌∷◌, refl, sym, ◌∙◌, ap}
use Rattle.grind_tokens.specs.declared.tokens.Sym.{Sym}
use Rattle.grind_tokens.specs.declared.tokens.TokenKind.{TokenKind}
use Rattle.grind_tokens.specs.declared.tokens.TokenKind.TheVariants as kinds
use Rattle.grind_tokens.specs.declared.tokens.Token.{Token}
use Rattle.grind_grammar.specs.Lexemes.{Word, Number, Symbol, lexeme_between, lexemes}
use Rattle.grind_syntax.specs.Places.{NoWord, NoSymbol, NoNumber}

first_same : {A : Type 0} (x y : A) (xs ys : List A) → x ∷ xs ≡ y ∷ ys → x ≡ y
first_same x y xs ys e = cc

other_word : (text : List ℕ) (start end : ℕ) (k : TokenKind) → ¬ (k ≡ kinds.Word) → (w : List ℕ) → lexeme_between text start end k ≡ Word w → ⊥
other_word text start end kinds.Word h w e = h refl
other_word text start end (kinds.Number value) h w e = absurd cc
other_word text start end (kinds.Symbol s) h w e = absurd cc

other_symbol : (text : List ℕ) (start end : ℕ) (k : TokenKind) → ((s : Sym) → k ≡ kinds.Symbol s → ⊥) → (s : Sym) → lexeme_between text start end k ≡ Symbol s → ⊥
other_symbol text start end kinds.Word h s e = absurd cc
other_symbol text start end (kinds.Number value) h s e = absurd cc
other_symbol text start end (kinds.Symbol t) h s e = h t refl

other_number : (text : List ℕ) (start end : ℕ) (k : TokenKind) → ((n : ℤ) → k ≡ kinds.Number n → ⊥) → (n : ℤ) → lexeme_between text start end k ≡ Number n → ⊥
other_number text start end kinds.Word h n e = absurd cc
other_number text start end (kinds.Number value) h n e = h value refl
other_number text start end (kinds.Symbol s) h n e = absurd cc

-- nothing stands after the last token

module _ (text : List ℕ) (all : List Token) (none : all ≡ []) where
  pub no_word_end : NoWord (lexemes text all)
  no_word_end w rest e = let f : lexemes text [] ≡ Word w ∷ rest = ap (lexemes text) (sym none) ∙ e in absurd cc

  pub no_symbol_end : NoSymbol (lexemes text all)
  no_symbol_end s rest e = let f : lexemes text [] ≡ Symbol s ∷ rest = ap (lexemes text) (sym none) ∙ e in absurd cc

  pub no_number_end : NoNumber (lexemes text all)
  no_number_end n rest e = let f : lexemes text [] ≡ Number n ∷ rest = ap (lexemes text) (sym none) ∙ e in absurd cc

-- a token stands first

module _ (text : List ℕ) (all left : List Token) (token : Token) (begins : all ≡ token ∷ left) where
  pub kind_front : (k : TokenKind) → token.kind ≡ k → lexemes text all ≡ lexeme_between text token.start token.end k ∷ lexemes text left
  kind_front k e = ap (lexemes text) begins ∙ ap (λ x. lexeme_between text token.start token.end x ∷ lexemes text left) e

  pub no_word_front : ¬ (token.kind ≡ kinds.Word) → NoWord (lexemes text all)
  no_word_front h w rest e =
      other_word text token.start token.end token.kind h w
      (first_same (lexeme_between text token.start token.end token.kind) (Word w) (lexemes text left) rest (sym (ap (lexemes text) begins) ∙ e))

  pub no_symbol_kind : ((s : Sym) → token.kind ≡ kinds.Symbol s → ⊥) → NoSymbol (lexemes text all)
  no_symbol_kind h s rest e =
      other_symbol text token.start token.end token.kind h s
      (first_same (lexeme_between text token.start token.end token.kind) (Symbol s) (lexemes text left) rest (sym (ap (lexemes text) begins) ∙ e))

  pub no_number_kind : ((n : ℤ) → token.kind ≡ kinds.Number n → ⊥) → NoNumber (lexemes text all)
  no_number_kind h n rest e =
      other_number text token.start token.end token.kind h n
      (first_same (lexeme_between text token.start token.end token.kind) (Number n) (lexemes text left) rest (sym (ap (lexemes text) begins) ∙ e))
