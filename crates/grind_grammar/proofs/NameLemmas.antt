-- Each name that a declaration declares is a word of its lexemes.
use Rattle.std.proofs.Common.{◌≡◌, ℕ, zero, suc, ◌⊎◌, inl, inr, List, [], ◌∷◌, Contains, map, refl, sym, subst, arith}
use Rattle.std.proofs.lemmas.List.Elements.{Contains-append_left, Contains-append_right, Contains-append_cases}
use Rattle.grind_tokens.specs.declared.tokens.Sym.TheVariants as symbols
use Rattle.grind_grammar.specs.Terms.{Bound, Declaration}
use Rattle.grind_grammar.specs.Lexemes.{Lexeme, Word, Symbol}
use Rattle.grind_grammar.specs.Grammar.{Separated, last_item, next_item, BoundNames, last_bound, next_bound, Group, group, joined, Binders, no_binders, binders, Declares, new_sort, new_function, new_theorem, new_goal, new_limit}
use Rattle.grind_grammar.specs.Files.{nothing, declared}
use Rattle.grind_grammar.specs.Laws.{declared_names, NamesAreWords}

-- members of lists

first_member : {A : Type 0} (x : A) (xs : List A) → Contains (x ∷ xs) x
first_member x xs = (0, omega arith, refl)

later_member : {A : Type 0} (x : A) (xs : List A) (y : A) → Contains xs y → Contains (x ∷ xs) y
later_member x xs y has = (suc has.0, omega (arith, has.1), has.2)

member_cases : {A : Type 0} (x : A) (xs : List A) (y : A) → Contains (x ∷ xs) y → (x ≡ y) ⊎ Contains xs y
member_cases x xs y (zero, within, is) = inl is
member_cases x xs y (suc k, within, is) = inr (k, omega (arith, within), is)

no_member : {A : Type 0} (y : A) → Contains [] y → ⊥
no_member y has = absurd (omega (arith, has.1))

-- the name of each bound is a word of the lexemes, and so is what stands in those that are left
record AreWords (ls : List Lexeme) (bounds : List Bound) (after : List Lexeme) : Type 0 where
  words : (bound : Bound) → Contains bounds bound → Contains ls (Word bound.name)
  left : (l : Lexeme) → Contains after l → Contains ls l

names_bound : {sort : List ℕ} {ls : List Lexeme} {bounds : List Bound} {rest : List Lexeme} → BoundNames sort ls bounds rest → AreWords ls bounds rest
names_bound (last_bound {name = name} {rest = rest} plain) = record {
  words = λ bound has. elim (member_cases _ [] bound has) [
    | inl is ↦ subst (λ (b : Bound). Contains (Word name ∷ rest) (Word b.name)) is (first_member (Word name) rest)
    | inr none ↦ absurd (no_member bound none)
  ];
  left = λ l has. later_member (Word name) rest l has;
}
names_bound (next_bound {name = name} {ls = ls} {bounds = bounds} plain further) =
    let more = names_bound further in record {
      words = λ bound has. elim (member_cases _ bounds bound has) [
        | inl is ↦ subst (λ (b : Bound). Contains (Word name ∷ ls) (Word b.name)) is (first_member (Word name) ls)
        | inr later ↦ later_member (Word name) ls (Word bound.name) (more.words bound later)
      ];
      left = λ l has. later_member (Word name) ls l (more.left l has);
    }

group_bound : {ls : List Lexeme} {bounds : List Bound} {rest : List Lexeme} → Group ls bounds rest → AreWords ls bounds rest
group_bound (group {sort = sort} {rest = rest} names sorted) =
    let more = names_bound names in record {
      words = more.words;
      left = λ l has. more.left l (later_member (Symbol symbols.Colon) (Word sort ∷ rest) l (later_member (Word sort) rest l has));
    }

groups_bound : {ls : List Lexeme} {groups : List (List Bound)} {rest : List Lexeme} → Separated (List Bound) Group symbols.Comma ls groups rest →
    AreWords ls (joined groups) rest
groups_bound (last_item {x = x} one) =
    let more = group_bound one in record {
      words = λ bound has. elim (Contains-append_cases x [] bound has) [
        | inl here ↦ more.words bound here
        | inr none ↦ absurd (no_member bound none)
      ];
      left = more.left;
    }
groups_bound (next_item {mid = mid} {x = x} {xs = xs} one others) =
    let first = group_bound one in
    let more = groups_bound others in
    let behind = λ (l : Lexeme) (has : Contains mid l). first.left l (later_member (Symbol symbols.Comma) mid l has) in record {
      words = λ bound has. elim (Contains-append_cases x (joined xs) bound has) [
        | inl here ↦ first.words bound here
        | inr later ↦ behind (Word bound.name) (more.words bound later)
      ];
      left = λ l has. behind l (more.left l has);
    }

binders_bound : {ls : List Lexeme} {bounds : List Bound} {rest : List Lexeme} → Binders ls bounds rest → (bound : Bound) → Contains bounds bound →
    Contains ls (Word bound.name)
binders_bound no_binders bound has = absurd (no_member bound has)
binders_bound (binders {ls = ls} groups is) bound has =
    later_member (Symbol symbols.LeftParen) ls (Word bound.name) ((groups_bound groups).words bound (subst (λ (bs : List Bound). Contains bs bound) is has))

-- a name of bounds is the name of one of them
bound_named : (bounds : List Bound) (name : List ℕ) → Contains (map (λ (bound : Bound). bound.name) bounds) name →
    (bound : Bound) × Contains bounds bound × (bound.name ≡ name)
bound_named [] name has = absurd (no_member name has)
bound_named (b ∷ bounds) name has = elim (member_cases b.name (map (λ (bound : Bound). bound.name) bounds) name has) [
  | inl is ↦ (b, first_member b bounds, is)
  | inr later ↦ let found = bound_named bounds name later in (found.0, later_member b bounds found.0 found.1, found.2)
]

-- a declaration with no binders, and one with binders
own_name : (word name : List ℕ) (ls : List Lexeme) (asked : List ℕ) → Contains (name ∷ []) asked → Contains (Word word ∷ Word name ∷ ls) (Word asked)
own_name word name ls asked has = elim (member_cases name [] asked has) [
  | inl is ↦ subst (λ (n : List ℕ). Contains (Word word ∷ Word name ∷ ls) (Word n)) is (later_member (Word word) (Word name ∷ ls) (Word name) (first_member (Word name) ls))
  | inr none ↦ absurd (no_member asked none)
]

own_or_bound : (word name : List ℕ) {ls : List Lexeme} {bounds : List Bound} {rest : List Lexeme} → Binders ls bounds rest → (asked : List ℕ) →
    Contains (name ∷ map (λ (bound : Bound). bound.name) bounds) asked → Contains (Word word ∷ Word name ∷ ls) (Word asked)
own_or_bound word name {ls = ls} {bounds = bounds} bs asked has = elim (member_cases name (map (λ (bound : Bound). bound.name) bounds) asked has) [
  | inl is ↦ subst (λ (n : List ℕ). Contains (Word word ∷ Word name ∷ ls) (Word n)) is (later_member (Word word) (Word name ∷ ls) (Word name) (first_member (Word name) ls))
  | inr later ↦
      let found = bound_named bounds asked later in
      let here = subst (λ (n : List ℕ). Contains ls (Word n)) found.2 (binders_bound bs found.0 found.1) in
      later_member (Word word) (Word name ∷ ls) (Word asked) (later_member (Word name) ls (Word asked) here)
]

declares_words : {ls : List Lexeme} {d : Declaration} {rest : List Lexeme} → Declares ls d rest → (asked : List ℕ) → Contains (declared_names d) asked →
    Contains ls (Word asked)
declares_words (new_sort {word = word} {name = name} {rest = rest} is plain) asked has = own_name word name rest asked has
declares_words (new_function {word = word} {name = name} {ls = ls} is plain args result) asked has = own_name word name ls asked has
declares_words (new_theorem {word = word} {name = name} is plain bs marks body) asked has = own_or_bound word name bs asked has
declares_words (new_goal {word = word} {name = name} is plain bs hyps show) asked has = own_or_bound word name bs asked has
declares_words (new_limit is plain) asked has = absurd (no_member asked has)

-- a file
pub names_are_words : NamesAreWords
names_are_words _ _ d name nothing has among = absurd (no_member d has)
names_are_words ls _ d name (declared {piece = piece} {rest = rest} {declaration = first} {declarations = ds} whole is one others) has among =
    subst (λ (all : List Lexeme). Contains all (Word name)) (sym is) (elim (member_cases first ds d has) [
      | inl same ↦
          Contains-append_left piece (Symbol symbols.Dot ∷ rest) (Word name)
          (declares_words one.declares name (subst (λ (it : Declaration). Contains (declared_names it) name) (sym same) among))
      | inr later ↦
          Contains-append_right piece (Symbol symbols.Dot ∷ rest) (Word name)
          (later_member (Symbol symbols.Dot) rest (Word name) (names_are_words rest ds d name others later among))
    ])
