-- The symbols of the language by their numbers, and the operators by their symbols.
use Rattle.std.specs.Prelude.{ℕ, Option, Some, None}
use Rattle.grind_tokens.specs.declared.tokens.Sym.{Sym}
use Rattle.grind_tokens.specs.declared.tokens.Sym.TheVariants as symbols
use Rattle.grind_grammar.specs.declared.syntax.Binary.{Binary}
use Rattle.grind_grammar.specs.declared.syntax.Binary.TheVariants as binaries

-- the number of a symbol in its table
abbrev pub symbol_number : Sym → ℕ
symbol_number symbols.Dot = 0
symbol_number symbols.Comma = 1
symbol_number symbols.Colon = 2
symbol_number symbols.Semicolon = 3
symbol_number symbols.LeftParen = 4
symbol_number symbols.RightParen = 5
symbol_number symbols.LeftSquare = 6
symbol_number symbols.RightSquare = 7
symbol_number symbols.Eq = 8
symbol_number symbols.Ne = 9
symbol_number symbols.Lt = 10
symbol_number symbols.Le = 11
symbol_number symbols.Iff = 12
symbol_number symbols.Gt = 13
symbol_number symbols.Ge = 14
symbol_number symbols.Plus = 15
symbol_number symbols.Minus = 16
symbol_number symbols.Star = 17
symbol_number symbols.And = 18
symbol_number symbols.Or = 19
symbol_number symbols.Not = 20
symbol_number symbols.Arrow = 21
symbol_number symbols.Turnstile = 22

-- the operators of each level, by their symbols
abbrev pub product_op : Sym → Option Binary
product_op symbols.Star = Some binaries.Mul
product_op _ = None

abbrev pub sum_op : Sym → Option Binary
sum_op symbols.Plus = Some binaries.Add
sum_op symbols.Minus = Some binaries.Sub
sum_op _ = None

abbrev pub relation_op : Sym → Option Binary
relation_op symbols.Eq = Some binaries.Eq
relation_op symbols.Ne = Some binaries.Ne
relation_op symbols.Lt = Some binaries.Lt
relation_op symbols.Le = Some binaries.Le
relation_op symbols.Gt = Some binaries.Gt
relation_op symbols.Ge = Some binaries.Ge
relation_op _ = None

abbrev pub conj_op : Sym → Option Binary
conj_op symbols.And = Some binaries.And
conj_op _ = None

abbrev pub disj_op : Sym → Option Binary
disj_op symbols.Or = Some binaries.Or
disj_op _ = None

abbrev pub impl_op : Sym → Option Binary
impl_op symbols.Arrow = Some binaries.Implies
impl_op _ = None

abbrev pub formula_op : Sym → Option Binary
formula_op symbols.Iff = Some binaries.Iff
formula_op _ = None
