-- Worked cases: blocks and lines that are spelled, and some that do not fit.
use Rattle.std.specs.Prelude.{◌≡◌, [], ◌∷◌, ◌++◌, codes, refl, pos, negsuc}
use Rattle.std.specs.Fmt.{digits}
use Rattle.std.proofs.Common.{lit<, inl, inr}
use Rattle.grind_linear_forms.specs.Forms.{form_data, part_of, number_form}
use Rattle.grind_polynomials.specs.Polynomials.{term_of}
use Rattle.grind_claims.specs.declared.claim.Claim.TheVariants as claims
use Rattle.grind_claims.specs.declared.proof.Line.{Line}
use Rattle.grind_claims.specs.declared.proof.Rule.TheVariants as rules
use Rattle.grind_report.specs.Report.{Block, True, False, Const, Fun, Int, Closed, Unexplored, term_words, line_words, line_bytes, block_bytes, BlockFits, LineFits, ClaimFits}

-- a goal that nobody looked at is one line
pub unexplored_is_spelled : block_bytes (Unexplored (codes "t")) ≡ codes "goal t open unexplored" ++ 10 ∷ []
unexplored_is_spelled = refl

-- the block of a proof without lines, of the terms `true` and `f(true)`
pub closed_is_spelled : block_bytes (Closed (codes "g") (record { terms = True ∷ Fun (codes "f") (0 ∷ []) ∷ []; branches = []; lines = [] }))
    ≡ codes "goal g closed" ++ 10 ∷ codes "terms 2" ++ 10 ∷ codes "0 true" ++ 10 ∷ codes "1 fun f 0" ++ 10 ∷ codes "branches 0" ++ 10 ∷ codes "lines 0" ++ 10 ∷ []
unfolding digits
closed_is_spelled = refl

-- the block of a proof with a pair of branches
abbrev split : Block
split = Closed (codes "t") (record {
  terms = True ∷ False ∷ Const (codes "a") ∷ [];
  branches = record { parent = 0; after = 7; literal = claims.Holds 4 } ∷ record { parent = 0; after = 7; literal = claims.Fails 4 } ∷ [];
  lines = [];
})

pub branches_are_spelled : block_bytes split
    ≡ codes "goal t closed" ++ 10 ∷ codes "terms 3" ++ 10 ∷ codes "0 true" ++ 10 ∷ codes "1 false" ++ 10 ∷ codes "2 const a" ++ 10 ∷ codes "branches 2" ++ 10 ∷ codes "1 0 7 holds 4" ++ 10 ∷ codes "2 0 7 fails 4" ++ 10 ∷ codes "lines 0" ++ 10 ∷ []
unfolding digits
branches_are_spelled = refl

-- a negative number
pub negative_is_spelled : line_bytes (term_words (Int (negsuc 11))) ≡ codes "int -12" ++ 10 ∷ []
unfolding digits
negative_is_spelled = refl

-- a line of the rule `table`: two free nodes, and two premises
abbrev tabled : Line
tabled = record { branch = 2; rule = rules.Table (4 ∷ 6 ∷ []); premises = 0 ∷ 12 ∷ []; claim = claims.Holds 6 }

pub table_is_spelled : line_bytes (line_words tabled) ≡ codes "2 table 2 4 6 0 12 : holds 6" ++ 10 ∷ []
unfolding digits
table_is_spelled = refl

-- a line with two premises
abbrev clash : Line
clash = record { branch = 0; rule = rules.Clash; premises = 2 ∷ 0 ∷ []; claim = claims.Absurd }

pub line_is_spelled : line_bytes (line_words clash) ≡ codes "0 clash 2 0 : absurd" ++ 10 ∷ []
unfolding digits
line_is_spelled = refl

-- a bound, 2 times node 5 less 3, that is read off
abbrev bounded : Line
bounded = record { branch = 0; rule = rules.Read; premises = 0 ∷ []; claim = claims.AtMost (form_data (part_of 5 (pos 2) ∷ []) (negsuc 2)) }

pub bound_is_spelled : line_bytes (line_words bounded) ≡ codes "0 read 0 : atmost -3 2 5" ++ 10 ∷ []
unfolding digits
bound_is_spelled = refl

-- two bounds, once and four times, whose sum is divided by 2
abbrev summed : Line
summed = record { branch = 0; rule = rules.Combine (pos 2) (pos 1 ∷ pos 4 ∷ []); premises = 3 ∷ 6 ∷ []; claim = claims.AtMost (number_form (pos 7)) }

pub sum_is_spelled : line_bytes (line_words summed) ≡ codes "0 combine 2 1 3 4 6 : atmost 7" ++ 10 ∷ []
unfolding digits
sum_is_spelled = refl

-- a polynomial that is 0: 3 times the square of node 4, less 1
abbrev squared : Line
squared = record { branch = 0; rule = rules.Poly; premises = 2 ∷ []; claim = claims.Zero (term_of (pos 3) (4 ∷ 4 ∷ []) ∷ term_of (negsuc 0) [] ∷ []) }

pub poly_is_spelled : line_bytes (line_words squared) ≡ codes "0 poly 2 : zero 2 3 2 4 4 -1 0" ++ 10 ∷ []
unfolding digits
poly_is_spelled = refl

-- one such polynomial times node 4, and another times nothing, divided by -1
abbrev gathered : Line
gathered = record { branch = 0; rule = rules.Ideal (negsuc 0) ((term_of (pos 1) (4 ∷ []) ∷ []) ∷ [] ∷ []); premises = 5 ∷ 8 ∷ []; claim = claims.Zero [] }

pub ideal_is_spelled : line_bytes (line_words gathered) ≡ codes "0 ideal -1 5 1 1 1 4 8 0 : zero 0" ++ 10 ∷ []
unfolding digits
ideal_is_spelled = refl

-- a name with a space has no spelling
pub spaced_name_fits_not : BlockFits (Unexplored (codes "a b")) → ⊥
spaced_name_fits_not fits = (fits.solid 1 0 (lit< tt)).0 refl

-- nor has a clash of nothing
abbrev lone : Line
lone = record { branch = 0; rule = rules.Clash; premises = []; claim = claims.Absurd }

pub lone_clash_fits_not : LineFits lone → ⊥
lone_clash_fits_not fits = elim fits.count [ inl e ↦ absurd cc | inr e ↦ absurd cc ]

-- nor has `apart` of two premises
abbrev halved : Line
halved = record { branch = 0; rule = rules.Apart; premises = 1 ∷ 2 ∷ []; claim = claims.Differ 3 4 }

pub apart_of_two_fits_not : LineFits halved → ⊥
apart_of_two_fits_not fits = elim fits.count [ inl e ↦ absurd cc | inr some ↦ elim some [ inl e ↦ absurd cc | inr e ↦ absurd cc ] ]

-- nor has a sum of one bound with two factors
abbrev unpaired : Line
unpaired = record { branch = 0; rule = rules.Combine (pos 1) (pos 1 ∷ pos 2 ∷ []); premises = 3 ∷ []; claim = claims.Absurd }

pub unpaired_factor_fits_not : LineFits unpaired → ⊥
unpaired_factor_fits_not fits = absurd (let counts : 1 ≡ 2 = fits.count in cc counts)

-- nor has a bound with a coefficient 0
pub coefficient_0_fits_not : ClaimFits (claims.AtMost (form_data (part_of 5 (pos 0) ∷ []) (pos 1))) → ⊥
coefficient_0_fits_not fits = fits.rises.1 refl

-- nor a polynomial with such a one
pub monomial_0_fits_not : ClaimFits (claims.Zero (term_of (pos 0) (4 ∷ []) ∷ [])) → ⊥
monomial_0_fits_not fits = fits.falls.1 refl
