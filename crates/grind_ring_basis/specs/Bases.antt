-- A basis: polynomials that are 0, each with the post that says so; and normal forms over it.
use Rattle.std.specs.Prelude.{◌≡◌, ◌≢◌, ℕ, List, [], All, length, slice_get, Some, Err, pos}
use Rattle.grind_polynomials.specs.declared.poly.Term.{Term}
use Rattle.grind_polynomials.specs.declared.poly.PolyRefusal.TheVariants.{Overflow}
use Rattle.grind_normal_forms.specs.declared.reduction.Reduced.{Reduced}
use Rattle.grind_normal_forms.specs.Reduction.{reduced_of, Reduces, IsNormal}
use Rattle.grind_ring_basis.specs.declared.types.Fact.{Fact}
use Rattle.grind_ring_basis.specs.declared.types.Basis.{Basis}

-- the post of this number says that this polynomial is 0
abbrev pub fact : ℕ → List Term → Fact
fact post poly = record { post = post; poly = poly }

-- no element is 0, and each has its post
pub record IsBasis (basis : Basis) : Type 0 where
  pub nonzero : All (λ b. b ≢ []) basis.elements
  pub posts : length basis.posts ≡ length basis.elements

-- the fact is an element of the basis, at that place
pub record IsElementAt (basis : Basis) (place : ℕ) (it : Fact) : Type 0 where
  pub post : slice_get basis.posts place ≡ Some it.post
  pub poly : slice_get basis.elements place ≡ Some it.poly

-- the fact is an element of the basis
abbrev pub IsElement : Basis → Fact → Type 0
IsElement basis it = (place : ℕ) × IsElementAt basis place it

-- the polynomial has this normal form over the basis
abbrev pub HasNormalForm : Basis → List Term → Reduced → Type 0
HasNormalForm basis poly normal = IsNormal basis.elements poly normal

-- on the way to its normal form a number does not fit in 128 bits
abbrev pub Outgrows : Basis → List Term → Type 0
Outgrows basis poly = Reduces basis.elements (reduced_of (pos 1) poly) (Err Overflow)

-- over the basis the polynomial is reduced to 0
abbrev pub ReducesToZero : Basis → List Term → Type 0
ReducesToZero basis poly = HasNormalForm basis poly (reduced_of (pos 1) [])
