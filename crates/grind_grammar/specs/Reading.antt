-- What the reader makes of lexemes: for private contracts alone, and in agreement with the grammar.
-- A reader gives what it read and the lexemes that are left, or nothing. A term is given as None where it is deeper than
-- the limit. `room` is how many pairs of parentheses may stand in one another; `fuel` is more than the length of the lexemes.
use Rattle.std.specs.Prelude.{ℕ, zero, suc, Bool, true, false, ◌&&◌, ◌||◌, List, [], ◌∷◌, length, map, codes, Option, Some, None, Result, Ok, Err, nat_eq, nat_le, if◌then◌else◌}
use Rattle.std.specs.Option.{option_map}
use Rattle.std.specs.List.{list_any}
use Rattle.std.specs.Str.{bytes_eq}
use Rattle.grind_tokens.specs.declared.tokens.Sym.{Sym}
use Rattle.grind_tokens.specs.declared.tokens.Sym.TheVariants as symbols
use Rattle.grind_grammar.specs.declared.syntax.Unary.{Unary}
use Rattle.grind_grammar.specs.declared.syntax.Unary.TheVariants as unaries
use Rattle.grind_grammar.specs.declared.syntax.Binary.{Binary}
use Rattle.grind_grammar.specs.Names.{reserved}
use Rattle.grind_grammar.specs.Terms.{Term, Row, True, False, Apply, One, Two, none, more, depth, Bound, Annotation, Left, Right, Hyps, Concl, Pattern, Declaration, Sort, Fun, Theorem, Goal, Limit}
use Rattle.grind_grammar.specs.Terms as terms
use Rattle.grind_grammar.specs.Lexemes.{Lexeme, Word, Number, Symbol}
use Rattle.grind_grammar.specs.Grammar.{joined}
use Rattle.grind_grammar.specs.Parentheses.{open_after}
pub use Rattle.grind_grammar.specs.Operators.{symbol_number, product_op, sum_op, relation_op, conj_op, disj_op, impl_op, formula_op}
use Rattle.grind_grammar.specs.Files.{Fault, Syntax, TooDeep, depth_limit}

-- what a reader gives, and a reader
abbrev pub Read : Type 0 → Type 0
Read A = Option (A × List Lexeme)

abbrev pub Reader : Type 0 → Type 0
Reader A = List Lexeme → Read A

-- what was read, with the lexemes that are left
abbrev pub read : {A : Type 0} → A → List Lexeme → Read A
read x rest = Some (x, rest)

-- what was read, changed
unfoldable pub read_map : {A B : Type 0} → (A → B) → Read A → Read B
read_map f None = None
read_map f (Some p) = read (f p.0) p.1

-- what was read, and then what is read of the rest
unfoldable pub read_then : {A B : Type 0} → (A → List Lexeme → Read B) → Read A → Read B
read_then f None = None
read_then f (Some p) = f p.0 p.1

-- whether the lexeme is this symbol
unfoldable pub is_symbol : Sym → Lexeme → Bool
is_symbol sym (Word bytes) = false
is_symbol sym (Number value) = false
is_symbol sym (Symbol other) = nat_eq (symbol_number sym) (symbol_number other)

-- the lexemes after a symbol at the front
unfoldable pub symbol_at : Sym → List Lexeme → Option (List Lexeme)
symbol_at sym [] = None
symbol_at sym (l ∷ ls) = if is_symbol sym l then Some ls else None

-- the lexemes after a word at the front
unfoldable pub word_at : List ℕ → List Lexeme → Option (List Lexeme)
word_at word (Word bytes ∷ ls) = if bytes_eq bytes word then Some ls else None
word_at word _ = None

-- what was read, where this symbol stands after it
unfoldable pub closed : {A : Type 0} → Sym → Read A → Read A
closed sym = read_then (λ x rest. option_map (λ left. (x, left)) (symbol_at sym rest))

-- whether a word is a name, and whether it is a sort
unfoldable pub is_name : List ℕ → Bool
is_name bytes = if list_any (bytes_eq bytes) reserved then false else true

unfoldable pub is_sort : List ℕ → Bool
is_sort bytes = is_name bytes || (bytes_eq bytes (codes "Int") || bytes_eq bytes (codes "Prop"))

-- a name, and a sort
unfoldable pub name_at : Reader (List ℕ)
name_at (Word bytes ∷ ls) = if is_name bytes then read bytes ls else None
name_at _ = None

unfoldable pub sort_at : Reader (List ℕ)
sort_at (Word bytes ∷ ls) = if is_sort bytes then read bytes ls else None
sort_at _ = None

-- items with a separator between them: what follows the item x, and all of them
unfoldable pub items_behind : {A : Type 0} → Reader (List A) → A → List Lexeme → Option (List Lexeme) → Read (List A)
items_behind further x rest None = read (x ∷ []) rest
items_behind further x rest (Some mid) = read_map (λ xs. x ∷ xs) (further mid)

unfoldable pub items : {A : Type 0} → Reader A → Sym → ℕ → Reader (List A)
items item separator zero ls = None
items item separator (suc fuel) ls =
    read_then (λ x rest. items_behind (items item separator fuel) x rest (symbol_at separator rest)) (item ls)

-- items with a separator between them, with fuel that suffices
unfoldable pub list_at : {A : Type 0} → Reader A → Sym → Reader (List A)
list_at item separator ls = items item separator (suc (length ls)) ls

-- nothing, or a list in parentheses
unfoldable pub in_parentheses_from : {A : Type 0} → Reader A → List Lexeme → Option (List Lexeme) → Read (List A)
in_parentheses_from item ls None = read [] ls
in_parentheses_from item ls (Some mid) = closed symbols.RightParen (list_at item symbols.Comma mid)

unfoldable pub in_parentheses : {A : Type 0} → Reader A → Reader (List A)
in_parentheses item ls = in_parentheses_from item ls (symbol_at symbols.LeftParen ls)

-- the term, if it is no deeper than the limit
unfoldable pub fit : ℕ → Term → Option Term
fit limit t = if nat_le (depth t) limit then Some t else None

-- the term of an operator with one part or two
unfoldable pub one : ℕ → Unary → Option Term → Option Term
one limit op None = None
one limit op (Some a) = fit limit (One op a)

unfoldable pub two : ℕ → Binary → Option Term → Option Term → Option Term
two limit op None b = None
two limit op (Some a) None = None
two limit op (Some a) (Some b) = fit limit (Two op a b)

-- all of the items, where each is there
unfoldable pub with_all : {A : Type 0} → Option A → Option (List A) → Option (List A)
with_all None xs = None
with_all (Some x) None = None
with_all (Some x) (Some xs) = Some (x ∷ xs)

unfoldable pub all_of : {A : Type 0} → List (Option A) → Option (List A)
all_of [] = Some []
all_of (x ∷ xs) = with_all x (all_of xs)

-- the terms as a row
unfoldable pub row_from : List Term → Row
row_from [] = none
row_from (t ∷ ts) = more t (row_from ts)

-- the term of a name with its parts
unfoldable pub applied : ℕ → List ℕ → Option (List Term) → Option Term
applied limit name None = None
applied limit name (Some ts) = fit limit (Apply name (row_from ts))

-- an operator at the front, and the lexemes after it
unfoldable pub op_at : (Sym → Option Binary) → Reader Binary
op_at ops (Symbol sym ∷ ls) = option_map (λ op. (op, ls)) (ops sym)
op_at ops _ = None

-- a first part, and, after an operator, a second one
unfoldable pub joined_behind : ℕ → Reader (Option Term) → Option Term → List Lexeme → Read Binary → Read (Option Term)
joined_behind limit second a rest None = read a rest
joined_behind limit second a rest (Some p) = read_map (two limit p.0 a) (second p.1)

unfoldable pub once : ℕ → (Sym → Option Binary) → Reader (Option Term) → Reader (Option Term) → Reader (Option Term)
once limit ops first second ls = read_then (λ a rest. joined_behind limit second a rest (op_at ops rest)) (first ls)

-- parts with operators between them, joined to the right
unfoldable pub right_chain : ℕ → (Sym → Option Binary) → Reader (Option Term) → ℕ → Reader (Option Term)
right_chain limit ops part zero ls = None
right_chain limit ops part (suc fuel) ls = once limit ops part (right_chain limit ops part fuel) ls

-- parts with operators between them, joined to the left: what follows the term a, by its operator, and all of them
unfoldable pub left_behind : ℕ → Reader (Option Term) → (Option Term → Reader (Option Term)) → Option Term → List Lexeme → Read Binary → Read (Option Term)
left_behind limit part further a rest None = read a rest
left_behind limit part further a rest (Some p) = read_then (λ b left. further (two limit p.0 a b) left) (part p.1)

unfoldable pub left_chain : ℕ → (Sym → Option Binary) → Reader (Option Term) → ℕ → Option Term → Reader (Option Term)
left_chain limit ops part zero a ls = None
left_chain limit ops part (suc fuel) a ls = left_behind limit part (left_chain limit ops part fuel) a ls (op_at ops ls)

unfoldable pub left_joined : ℕ → (Sym → Option Binary) → Reader (Option Term) → Reader (Option Term)
left_joined limit ops part ls = read_then (λ a rest. left_chain limit ops part (suc (length rest)) a rest) (part ls)

-- a part with signs before it
unfoldable pub signed : ℕ → Sym → Unary → Reader (Option Term) → Reader (Option Term)
signed limit sym op part [] = part []
signed limit sym op part (l ∷ ls) = if is_symbol sym l then read_map (one limit op) (signed limit sym op part ls) else part (l ∷ ls)

-- a name, and its parts where a parenthesis stands after it
unfoldable pub parts_behind : ℕ → Reader (Option Term) → List ℕ → List Lexeme → Option (List Lexeme) → Read (Option Term)
parts_behind limit inner name rest None = read (fit limit (Apply name none)) rest
parts_behind limit inner name rest (Some mid) =
    read_map (λ ts. applied limit name (all_of ts)) (closed symbols.RightParen (list_at inner symbols.Comma mid))

-- an atom that begins with this word
unfoldable pub word_atom : ℕ → Reader (Option Term) → List ℕ → Reader (Option Term)
word_atom limit inner word rest =
    if bytes_eq word (codes "true") then read (fit limit True) rest
    else if bytes_eq word (codes "false") then read (fit limit False) rest
    else if is_name word then parts_behind limit inner word rest (symbol_at symbols.LeftParen rest)
    else None

unfoldable pub atom : ℕ → Reader (Option Term) → Reader (Option Term)
atom limit inner [] = None
atom limit inner (Word word ∷ rest) = word_atom limit inner word rest
atom limit inner (Number value ∷ rest) = read (fit limit (terms.Number value)) rest
atom limit inner (Symbol sym ∷ rest) =
    if is_symbol symbols.LeftParen (Symbol sym) then closed symbols.RightParen (inner rest) else None

-- the levels of the grammar, over the reader of what stands in parentheses
unfoldable pub minus : ℕ → Reader (Option Term) → Reader (Option Term)
minus limit inner = signed limit symbols.Minus unaries.Neg (atom limit inner)

unfoldable pub product : ℕ → Reader (Option Term) → Reader (Option Term)
product limit inner = left_joined limit product_op (minus limit inner)

unfoldable pub sum : ℕ → Reader (Option Term) → Reader (Option Term)
sum limit inner = left_joined limit sum_op (product limit inner)

unfoldable pub relation : ℕ → Reader (Option Term) → Reader (Option Term)
relation limit inner = once limit relation_op (sum limit inner) (sum limit inner)

unfoldable pub negation : ℕ → Reader (Option Term) → Reader (Option Term)
negation limit inner = signed limit symbols.Not unaries.Not (relation limit inner)

unfoldable pub conj : ℕ → Reader (Option Term) → Reader (Option Term)
conj limit inner = left_joined limit conj_op (negation limit inner)

unfoldable pub disj : ℕ → Reader (Option Term) → Reader (Option Term)
disj limit inner = left_joined limit disj_op (conj limit inner)

unfoldable pub impl : ℕ → Reader (Option Term) → Reader (Option Term)
impl limit inner ls = right_chain limit impl_op (disj limit inner) (suc (length ls)) ls

unfoldable pub formula_over : ℕ → Reader (Option Term) → Reader (Option Term)
formula_over limit inner = once limit formula_op (impl limit inner) (impl limit inner)

unfoldable pub formula : ℕ → ℕ → Reader (Option Term)
formula limit zero ls = None
formula limit (suc room) ls = formula_over limit (formula limit room) ls

-- the names at the front, and the lexemes after them
unfoldable pub names : List Lexeme → List (List ℕ) × List Lexeme
names (Word bytes ∷ ls) = if is_name bytes then (bytes ∷ (names ls).0, (names ls).1) else ([], Word bytes ∷ ls)
names ls = ([], ls)

-- the names, bound to a sort
abbrev pub bound_to : List ℕ → List ℕ → Bound
bound_to sort name = record { name = name; sort = sort }

abbrev pub bounds_of : List (List ℕ) → List ℕ → List Bound
bounds_of names sort = map (bound_to sort) names

-- the sort of names after a colon
unfoldable pub group_behind : List (List ℕ) → Option (List Lexeme) → Read (List Bound)
group_behind names None = None
group_behind [] (Some rest) = None
group_behind (name ∷ names) (Some rest) = read_map (bounds_of (name ∷ names)) (sort_at rest)

unfoldable pub group : Reader (List Bound)
group ls = group_behind (names ls).0 (symbol_at symbols.Colon (names ls).1)

unfoldable pub binders : Reader (List Bound)
binders ls = read_map joined (in_parentheses group ls)

-- an annotation without its brackets
unfoldable pub annot_after_eq : List Lexeme → Option (List Lexeme) → Read (Option Annotation)
annot_after_eq ls None = read (Some Left) ls
annot_after_eq ls (Some rest) = read (Some Right) rest

unfoldable pub annot_of_symbol : Sym → Reader (Option Annotation)
annot_of_symbol symbols.Eq ls = annot_after_eq ls (word_at (codes "_") ls)
annot_of_symbol symbols.Arrow ls = read (Some Hyps) ls
annot_of_symbol symbols.Lt ls = option_map (λ rest. (Some Concl, rest)) (symbol_at symbols.Minus ls)
annot_of_symbol _ ls = None

unfoldable pub annot_inside : Reader (Option Term) → Reader (Option Annotation)
annot_inside item [] = None
annot_inside item (Symbol sym ∷ ls) = annot_of_symbol sym ls
annot_inside item (Number value ∷ ls) = None
annot_inside item (Word word ∷ ls) =
    if bytes_eq word (codes "pattern") then read_map (λ ts. option_map Pattern (all_of ts)) (list_at item symbols.Comma ls) else None

-- annotations: what follows a bracket, and all of them
unfoldable pub annots_behind : Reader (Option Term) → Reader (List (Option Annotation)) → List Lexeme → Option (List Lexeme) → Read (List (Option Annotation))
annots_behind item further ls None = read [] ls
annots_behind item further ls (Some mid) =
    read_then (λ x rest. read_map (λ xs. x ∷ xs) (further rest)) (closed symbols.RightSquare (annot_inside item mid))

unfoldable pub annots_up_to : Reader (Option Term) → ℕ → Reader (List (Option Annotation))
annots_up_to item zero ls = None
annots_up_to item (suc fuel) ls = annots_behind item (annots_up_to item fuel) ls (symbol_at symbols.LeftSquare ls)

unfoldable pub annots : Reader (Option Term) → Reader (List (Option Annotation))
annots item ls = annots_up_to item (suc (length ls)) ls

-- the hypotheses of a goal, with the turnstile after them
unfoldable pub hyps_from : Reader (Option Term) → List Lexeme → Option (List Lexeme) → Read (List (Option Term))
hyps_from item ls None = closed symbols.Turnstile (list_at item symbols.Semicolon ls)
hyps_from item ls (Some rest) = read [] rest

unfoldable pub hyps : Reader (Option Term) → Reader (List (Option Term))
hyps item ls = hyps_from item ls (symbol_at symbols.Turnstile ls)

-- the declarations of each kind, after the name
unfoldable pub function_of : List ℕ → Reader (Option Declaration)
function_of name ls =
    read_then (λ sorts rest. read_map (λ result. Some (Fun name sorts result)) (sort_at rest))
    (closed symbols.Colon (in_parentheses sort_at ls))

unfoldable pub theorem_with : List ℕ → List Bound → Option (List Annotation) → Option Term → Option Declaration
theorem_with name bounds None body = None
theorem_with name bounds (Some annotations) body = option_map (Theorem name bounds annotations) body

unfoldable pub theorem_of : ℕ → ℕ → List ℕ → Reader (Option Declaration)
theorem_of limit room name ls =
    read_then (λ bounds mid.
    read_then (λ annotations rest. read_map (theorem_with name bounds (all_of annotations)) (formula limit (suc room) rest))
    (closed symbols.Colon (annots (sum limit (formula limit room)) mid)))
    (binders ls)

unfoldable pub goal_with : List ℕ → List Bound → Option (List Term) → Option Term → Option Declaration
goal_with name bounds None show = None
goal_with name bounds (Some hs) show = option_map (Goal name bounds hs) show

unfoldable pub goal_of : ℕ → ℕ → List ℕ → Reader (Option Declaration)
goal_of limit room name ls =
    read_then (λ bounds mid.
    read_then (λ hs rest. read_map (goal_with name bounds (all_of hs)) (formula limit (suc room) rest))
    (hyps (formula limit (suc room)) mid))
    (closed symbols.Colon (binders ls))

unfoldable pub limit_of : List ℕ → Reader (Option Declaration)
limit_of name (Number value ∷ ls) = read (Some (Limit name value)) ls
limit_of name _ = None

-- a declaration by its word, and by its lexemes
unfoldable pub declaration_of : ℕ → ℕ → List ℕ → List ℕ → Reader (Option Declaration)
declaration_of limit room word name ls =
    if bytes_eq word (codes "sort") then read (Some (Sort name)) ls
    else if bytes_eq word (codes "fun") then function_of name ls
    else if bytes_eq word (codes "theorem") then theorem_of limit room name ls
    else if bytes_eq word (codes "goal") then goal_of limit room name ls
    else if bytes_eq word (codes "limit") then limit_of name ls
    else None

unfoldable pub declaration : ℕ → ℕ → Reader (Option Declaration)
declaration limit room (Word word ∷ ls) = read_then (declaration_of limit room word) (name_at ls)
declaration limit room _ = None

-- whether no more than the limit are open
unfoldable pub within : ℕ → ℕ → List Lexeme → Bool
within limit count [] = true
within limit count (l ∷ ls) = nat_le (open_after count l) limit && within limit (open_after count l) ls

-- the declaration of a piece, or what is wrong with it
unfoldable pub whole : Read (Option Declaration) → Result Declaration Fault
whole None = Err Syntax
whole (Some (Some d, [])) = Ok d
whole (Some (None, [])) = Err TooDeep
whole (Some (d, l ∷ ls)) = Err Syntax

unfoldable pub judged : List Lexeme → Result Declaration Fault
judged piece = if within depth_limit 0 piece then whole (declaration depth_limit depth_limit piece) else Err TooDeep
