-- Worked cases: premises that are put into order, those with the factor 0 left out.
use Rattle.std.specs.Prelude.{◌≡◌, List, [], ◌∷◌, pos, negsuc, refl}
use Rattle.grind_polynomials.specs.declared.poly.Term.{Term}
use Rattle.grind_polynomials.specs.Polynomials.{term_of}
use Rattle.grind_claims.specs.declared.claim.Claim.TheVariants.{Zero}
use Rattle.grind_ring_basis.specs.Shares.{share, shares_of, in_order, posts_in, factors_in, claims_in}

-- `x`, `y`, and the numbers 2 and -3
abbrev x : List Term
x = term_of (pos 1) (2 ∷ []) ∷ []

abbrev y : List Term
y = term_of (pos 1) (3 ∷ []) ∷ []

abbrev two : List Term
two = term_of (pos 2) [] ∷ []

abbrev less_three : List Term
less_three = term_of (negsuc 2) [] ∷ []

-- post 7 says that `x` is 0 and post 4 that `y` is: 4 comes first
pub by_post : in_order (shares_of (7 ∷ 4 ∷ []) (x ∷ y ∷ []) (two ∷ less_three ∷ [])) ≡ share 4 y less_three ∷ share 7 x two ∷ []
by_post = refl

pub their_posts : posts_in (in_order (shares_of (7 ∷ 4 ∷ []) (x ∷ y ∷ []) (two ∷ less_three ∷ []))) ≡ 4 ∷ 7 ∷ []
their_posts = refl

pub their_factors : factors_in (in_order (shares_of (7 ∷ 4 ∷ []) (x ∷ y ∷ []) (two ∷ less_three ∷ []))) ≡ less_three ∷ two ∷ []
their_factors = refl

pub their_claims : claims_in (in_order (shares_of (7 ∷ 4 ∷ []) (x ∷ y ∷ []) (two ∷ less_three ∷ []))) ≡ Zero y ∷ Zero x ∷ []
their_claims = refl

-- a factor of 0 leaves its premise out
pub left_out : in_order (shares_of (7 ∷ 4 ∷ []) (x ∷ y ∷ []) ([] ∷ less_three ∷ [])) ≡ share 4 y less_three ∷ []
left_out = refl

pub all_left_out : in_order (shares_of (7 ∷ 4 ∷ []) (x ∷ y ∷ []) ([] ∷ [] ∷ [])) ≡ []
all_left_out = refl
