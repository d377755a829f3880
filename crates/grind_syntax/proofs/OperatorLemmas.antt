-- Operators at the front, and what stands between them.
use Rattle.std.proofs.Common.{◌≡◌, List, [], ◌∷◌, Option, Some, None, refl}
use Rattle.grind_tokens.specs.declared.tokens.Sym.{Sym}
use Rattle.grind_grammar.specs.declared.syntax.Binary.{Binary}
use Rattle.grind_grammar.specs.Lexemes.{Lexeme, Word, Number, Symbol}
use Rattle.grind_grammar.specs.Reading.{read, op_at}
use Rattle.grind_syntax.specs.Places.{NoSymbol}

pub op_front : (ops : Sym → Option Binary) (ls : List Lexeme) (s : Sym) (rest : List Lexeme) (op : Binary) → ls ≡ Symbol s ∷ rest → ops s ≡ Some op →
    op_at ops ls ≡ read op rest
unfolding op_at
op_front ops ls s rest op e h = rw e (rw h refl)

pub no_op_front : (ops : Sym → Option Binary) (ls : List Lexeme) (s : Sym) (rest : List Lexeme) → ls ≡ Symbol s ∷ rest → ops s ≡ None →
    op_at ops ls ≡ None
unfolding op_at
no_op_front ops ls s rest e h = rw e (rw h refl)

pub no_symbol_no_op : (ops : Sym → Option Binary) (ls : List Lexeme) → NoSymbol ls → op_at ops ls ≡ None
unfolding op_at
no_symbol_no_op ops [] h = refl
no_symbol_no_op ops (Word w ∷ ls) h = refl
no_symbol_no_op ops (Number value ∷ ls) h = refl
no_symbol_no_op ops (Symbol s ∷ ls) h = absurd (h s ls refl)
