-- Sums and products of whole numbers.
use Rattle.std.specs.Prelude.{◌≡◌, ◌≢◌, ℤ, pos, ◌+ℤ◌, ◌*ℤ◌, neg_ℤ, ◌≤ℤ◌, ◌<ℤ◌}

-- a sum does not change with the order of its parts
abbrev pub SumsCommute : Type 0
SumsCommute = (a b : ℤ) → a +ℤ b ≡ b +ℤ a

-- nor with the order in which they are added
abbrev pub SumsAssociate : Type 0
SumsAssociate = (a b c : ℤ) → (a +ℤ b) +ℤ c ≡ a +ℤ (b +ℤ c)

-- a product does not change with the order of its factors
abbrev pub ProductsCommute : Type 0
ProductsCommute = (a b : ℤ) → a *ℤ b ≡ b *ℤ a

-- nor with the order in which they are multiplied
abbrev pub ProductsAssociate : Type 0
ProductsAssociate = (a b c : ℤ) → (a *ℤ b) *ℤ c ≡ a *ℤ (b *ℤ c)

-- a product with a sum is the sum of the products
abbrev pub ProductsDistribute : Type 0
ProductsDistribute = (a b c : ℤ) → a *ℤ (b +ℤ c) ≡ a *ℤ b +ℤ a *ℤ c

-- a product with a negation is the negation of the product
abbrev pub ProductsKeepSigns : Type 0
ProductsKeepSigns = (a b : ℤ) → a *ℤ neg_ℤ b ≡ neg_ℤ (a *ℤ b)

-- the product of two numbers that are not negative is not negative
abbrev pub ProductsStayNonnegative : Type 0
ProductsStayNonnegative = (a b : ℤ) → pos 0 ≤ℤ a → pos 0 ≤ℤ b → pos 0 ≤ℤ (a *ℤ b)

-- a factor that is not negative keeps order
abbrev pub ProductsKeepOrder : Type 0
ProductsKeepOrder = (m a b : ℤ) → pos 0 ≤ℤ m → a ≤ℤ b → (m *ℤ a) ≤ℤ (m *ℤ b)

-- a multiple of a positive number that is below that number is at most 0
abbrev pub MultiplesSkip : Type 0
MultiplesSkip = (g x : ℤ) → pos 0 <ℤ g → (g *ℤ x) <ℤ g → x ≤ℤ pos 0

-- where a product is 0 and its first factor is not, its second factor is 0
abbrev pub ProductsVanish : Type 0
ProductsVanish = (a b : ℤ) → a *ℤ b ≡ pos 0 → a ≢ pos 0 → b ≡ pos 0

-- a factor that is not 0 may be taken off both sides
abbrev pub ProductsCancel : Type 0
ProductsCancel = (a b c : ℤ) → a ≢ pos 0 → a *ℤ b ≡ a *ℤ c → b ≡ c
