-- Which terms are known, counted and of a sort, by what names stand for. Each fault of a term is the negation of one of these:
-- an unknown name, a wrong number of arguments, a wrong sort.
use Rattle.std.specs.Prelude.{◌≡◌, ℕ, ◌+◌, List, [], ◌∷◌, length}
use Rattle.grind_term_graph.specs.Terms.{prop, int}
use Rattle.grind_grammar.specs.declared.syntax.Unary.{Unary}
use Rattle.grind_grammar.specs.declared.syntax.Unary.TheVariants as unaries
use Rattle.grind_grammar.specs.declared.syntax.Binary.{Binary}
use Rattle.grind_grammar.specs.declared.syntax.Binary.TheVariants as binaries
use Rattle.grind_grammar.specs.Terms.{Term, Row, True, False, Number, Apply, One, Two, none, more}
use Rattle.grind_resolution.specs.Scopes.{Given}

-- how many parts there are
abbrev pub row_length : Row → ℕ
row_length none = 0
row_length (more t row) = row_length row + 1

-- the sort of the part of an operator, which is that of the whole too
abbrev pub unary_sort : Unary → ℕ
unary_sort unaries.Not = prop
unary_sort unaries.Neg = int

-- the operator takes two sides of this sort: the two sides of an equation may have any sort
abbrev pub TakesSides : Binary → ℕ → Type 0
TakesSides binaries.Iff side = side ≡ prop
TakesSides binaries.Implies side = side ≡ prop
TakesSides binaries.Or side = side ≡ prop
TakesSides binaries.And side = side ≡ prop
TakesSides binaries.Eq side = Unit {0}
TakesSides binaries.Ne side = Unit {0}
TakesSides binaries.Lt side = side ≡ int
TakesSides binaries.Le side = side ≡ int
TakesSides binaries.Gt side = side ≡ int
TakesSides binaries.Ge side = side ≡ int
TakesSides binaries.Add side = side ≡ int
TakesSides binaries.Sub side = side ≡ int
TakesSides binaries.Mul side = side ≡ int

-- the sort of the whole
abbrev pub binary_sort : Binary → ℕ
binary_sort binaries.Iff = prop
binary_sort binaries.Implies = prop
binary_sort binaries.Or = prop
binary_sort binaries.And = prop
binary_sort binaries.Eq = prop
binary_sort binaries.Ne = prop
binary_sort binaries.Lt = prop
binary_sort binaries.Le = prop
binary_sort binaries.Gt = prop
binary_sort binaries.Ge = prop
binary_sort binaries.Add = int
binary_sort binaries.Sub = int
binary_sort binaries.Mul = int

module _ (gives : List ℕ → Given → Type 0) where
  abbrev mutual
    -- each name stands for something
    pub Known : Term → Type 0
    Known True = Unit {0}
    Known False = Unit {0}
    Known (Number value) = Unit {0}
    Known (Apply name row) = ((given : Given) × gives name given) × KnownRow row
    Known (One op a) = Known a
    Known (Two op a b) = Known a × Known b

    pub KnownRow : Row → Type 0
    KnownRow none = Unit {0}
    KnownRow (more t row) = Known t × KnownRow row

  abbrev mutual
    -- each name has the number of arguments that it asks for
    pub Counted : Term → Type 0
    Counted True = Unit {0}
    Counted False = Unit {0}
    Counted (Number value) = Unit {0}
    Counted (Apply name row) =
        ((given : Given) × gives name given × (row_length row ≡ length given.args)) × CountedRow row
    Counted (One op a) = Counted a
    Counted (Two op a b) = Counted a × Counted b

    pub CountedRow : Row → Type 0
    CountedRow none = Unit {0}
    CountedRow (more t row) = Counted t × CountedRow row

  abbrev mutual
    -- the term has this sort: its names and operators have parts of the sorts that they ask for
    pub HasSort : Term → ℕ → Type 0
    HasSort True sort = sort ≡ prop
    HasSort False sort = sort ≡ prop
    HasSort (Number value) sort = sort ≡ int
    HasSort (Apply name row) sort =
        (given : Given) × gives name given × HaveSorts row given.args × (sort ≡ given.sort)
    HasSort (One op a) sort = HasSort a (unary_sort op) × (sort ≡ unary_sort op)
    HasSort (Two op a b) sort =
        (side : ℕ) × HasSort a side × HasSort b side × TakesSides op side × (sort ≡ binary_sort op)

    -- the parts have these sorts, one each
    pub HaveSorts : Row → List ℕ → Type 0
    HaveSorts none [] = Unit {0}
    HaveSorts none (sort ∷ sorts) = ⊥
    HaveSorts (more t row) [] = ⊥
    HaveSorts (more t row) (sort ∷ sorts) = HasSort t sort × HaveSorts row sorts

  -- the term has a sort
  abbrev pub IsSorted : Term → Type 0
  IsSorted t = (sort : ℕ) × HasSort t sort
