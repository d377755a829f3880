-- Posts passed over one by one.
use Rattle.std.proofs.Common.{◌≡◌, ℕ, zero, suc, ◌+◌, ◌≤◌, List, ◌∷◌, length, Some, slice_get, refl, sym, ap, ◌∙◌, arith, ◌⊎◌, inl, inr}
use Rattle.std.proofs.lemmas.Option.{same_Some, slice_get_within}
use Rattle.grind_claims.specs.declared.claim.Claim.{Claim}
use Rattle.grind_report_words.specs.declared.board.Post.{Post}
use Rattle.grind_journal.specs.Posts.{IsClaimed, Stands, IsFirst}

-- so many posts were passed over, none of which makes the claim, and the rest is left
pub record IsPassed (posts : List Post) (claim : Claim) (rest : List Post) (number : ℕ) : Type 0 where
  pub none : (m : ℕ) → IsClaimed posts m claim → number ≤ m
  pub shifted : (k : ℕ) → slice_get rest k ≡ slice_get posts (number + k)
  pub size : number + length rest ≡ length posts

pub begun : (posts : List Post) (claim : Claim) → IsPassed posts claim posts 0
begun posts claim = record {
  none = λ m h. omega arith;
  shifted = λ k. ap (λ (m : ℕ). slice_get posts m) (omega arith);
  size = omega arith;
}

-- the first that is left stands at this number
at_number : (posts : List Post) (claim : Claim) (rest tail : List Post) (post : Post) (number : ℕ) → IsPassed posts claim rest number
    → rest ≡ post ∷ tail → slice_get posts number ≡ Some post
at_number posts claim rest tail post number it is =
    let first : slice_get rest 0 ≡ Some post = ap (λ (xs : List Post). slice_get xs 0) is in
    ap (λ (k : ℕ). slice_get posts k) (omega arith) ∙ sym (it.shifted 0) ∙ first

pub found_here : (posts : List Post) (claim : Claim) (rest tail : List Post) (post : Post) (number : ℕ) → IsPassed posts claim rest number
    → rest ≡ post ∷ tail → post.claim ≡ claim → IsFirst posts claim number
found_here posts claim rest tail post number it is same = record {
  claimed = (post, at_number posts claim rest tail post number it is, same);
  first = it.none;
}

-- a number that is at least this one is it, or at least the next
at_or_past : (k m : ℕ) → k ≤ m → (m ≡ k) ⊎ (k + 1 ≤ m)
at_or_past zero zero h = inl refl
at_or_past zero (suc m) h = inr (omega arith)
at_or_past (suc k) zero h = absurd (omega (arith, h))
at_or_past (suc k) (suc m) h = elim (at_or_past k m (omega (arith, h))) [
  | inl e ↦ inl (ap suc e)
  | inr more ↦ inr (omega (arith, more))
]

pub one_more : (posts : List Post) (claim : Claim) (rest tail : List Post) (post : Post) (number : ℕ) → IsPassed posts claim rest number
    → rest ≡ post ∷ tail → (post.claim ≡ claim → ⊥) → IsPassed posts claim tail (number + 1)
one_more posts claim rest tail post number it is other = record {
  none = none;
  shifted = λ k.
      ap (λ (xs : List Post). slice_get xs (suc k)) (sym is) ∙ it.shifted (suc k) ∙ ap (λ (m : ℕ). slice_get posts m) (omega arith);
  size = let long : length rest ≡ suc (length tail) = ap length is in omega (arith, it.size, long);
}
  where
    not_here : (m : ℕ) → IsClaimed posts m claim → m ≡ number → ⊥
    not_here m h e = other (ap (λ (it : Post). it.claim)
        (same_Some post h.0 (sym (at_number posts claim rest tail post number it is) ∙ ap (λ (k : ℕ). slice_get posts k) (sym e) ∙ h.1)) ∙ h.2)

    none : (m : ℕ) → IsClaimed posts m claim → number + 1 ≤ m
    none m h = elim (at_or_past number m (it.none m h)) [
      | inl e ↦ absurd (not_here m h e)
      | inr more ↦ more
    ]

pub none_stands : (posts : List Post) (claim : Claim) (rest : List Post) (number : ℕ) → IsPassed posts claim rest number
    → length rest ≡ 0 → Stands posts claim → ⊥
none_stands posts claim rest number it empty h =
    let past = it.none h.0 h.1 in
    let within = slice_get_within posts h.0 h.1.0 h.1.1 in
    omega (arith, it.size, empty, past, within)
