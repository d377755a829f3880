-- What an equality gives.
use Rattle.std.specs.Prelude.{◌⊎◌, ℕ, List, [], ◌∷◌, All, Contains}
use Rattle.std.proofs.Common.{inl, inr}
use Rattle.std.proofs.lemmas.List.Elements.{All-nil, All-cons, Contains-push}
use Rattle.grind_linear_forms.specs.Forms.{FormData}
use Rattle.grind_claims.specs.declared.claim.Claim.{Claim}
use Rattle.grind_claims.specs.declared.claim.Claim.TheVariants.{Same, AtMost}
use Rattle.grind_cutsat_facts.specs.declared.facts.Fact.{Fact}
use Rattle.grind_cutsat_facts.specs.Facts.{Stands}
use Rattle.grind_cutsat_units.specs.Posts.{Rest}
use Rattle.grind_cutsat_units.specs.Equalities.{equality_posts}

-- the posts rest on the equality and on each other
pub equality_rests : (facts : List Fact) (a b : ℕ) (one other : FormData) → Stands facts (Same a b) → Rest facts [] (equality_posts a b one other)
equality_rests facts a b one other stands = (by_fact [], (by_fact (AtMost one ∷ []), (turned, tt)))
  where
    by_fact : (earlier : List Claim) → All (λ (claim : Claim). Stands facts claim ⊎ Contains earlier claim) (Same a b ∷ [])
    by_fact earlier = All-cons (λ (claim : Claim). Stands facts claim ⊎ Contains earlier claim) (Same a b) [] (inl stands)
        (All-nil (λ (claim : Claim). Stands facts claim ⊎ Contains earlier claim))

    turned : All (λ (claim : Claim). Stands facts claim ⊎ Contains (AtMost one ∷ Same b a ∷ []) claim) (Same b a ∷ [])
    turned = All-cons (λ (claim : Claim). Stands facts claim ⊎ Contains (AtMost one ∷ Same b a ∷ []) claim) (Same b a) []
        (inr (Contains-push (AtMost one ∷ []) (Same b a)))
        (All-nil (λ (claim : Claim). Stands facts claim ⊎ Contains (AtMost one ∷ Same b a ∷ []) claim))
