-- What stays where lists grow after.
use Rattle.std.proofs.Common.{ap, ◌≡◌, ℕ, All, ◌<◌, ◌++◌, List, [], ◌∷◌, Option, Some, None, IsSome, suc, zero, length, refl, sym, ◌∙◌, arith}
use Rattle.std.specs.Prelude.{slice_get}
use Rattle.std.specs.Option.{IsSomeAnd, option_map}
use Rattle.grind_term_graph.specs.declared.node.Node.{Node}
use Rattle.grind_term_graph.specs.Terms.{prop, int, sort_at}
use Rattle.std.proofs.lemmas.List.Elements.{All-weaker}
use Rattle.grind_linear_forms.specs.declared.form.Part.{Part}
use Rattle.grind_linear_forms.specs.Forms.{FormData}
use Rattle.grind_linear_forms.specs.Naming.{NamesNumbers}
use Rattle.grind_polynomials.specs.declared.poly.Term.{Term}
use Rattle.grind_claims.specs.declared.claim.Claim.{Claim}
use Rattle.grind_claims.specs.declared.claim.Claim.TheVariants.{Holds, Fails, Same, Differ, AtMost, Zero, Absurd}
use Rattle.grind_claims.specs.declared.proof.Line.{Line}
use Rattle.grind_claims.specs.Claims.{MultipliesNumbers, AreOfOneSort, IsFormed, AreClaimsAt}
use Rattle.grind_claims.specs.Laws.{FormedStays, ClaimsStay, ClaimsCount}

-- what holds of an item still holds of it
pub some_and_stays : {X : Type 0} (P : X → Type 0) (xs ys : List X) (i : ℕ) →
    IsSomeAnd (slice_get xs i) P → IsSomeAnd (slice_get (xs ++ ys) i) P
some_and_stays P [] ys i h = absurd h
some_and_stays P (x ∷ xs) ys zero h = h
some_and_stays P (x ∷ xs) ys (suc i) h = some_and_stays P xs ys i h

-- what follows from what holds of an item
pub some_and_then : {X : Type 0} (P Q : X → Type 0) (o : Option X) → ((x : X) → P x → Q x) → IsSomeAnd o P → IsSomeAnd o Q
some_and_then P Q None f h = h
some_and_then P Q (Some x) f h = f x h

-- a field of an item that stands there stays what it is
pub field_is_still : {X Y : Type 0} (f : X → Y) (xs ys : List X) (i : ℕ) (y : Y) →
    option_map f (slice_get xs i) ≡ Some y → option_map f (slice_get (xs ++ ys) i) ≡ Some y
field_is_still f [] ys i y h = absurd cc
field_is_still f (x ∷ xs) ys zero y h = h
field_is_still f (x ∷ xs) ys (suc i) y h = field_is_still f xs ys i y h

-- a field of an item stays
pub field_stays : {X Y : Type 0} (f : X → Y) (xs ys : List X) (i : ℕ) →
    IsSome (option_map f (slice_get xs i)) → option_map f (slice_get (xs ++ ys) i) ≡ option_map f (slice_get xs i)
field_stays f [] ys i h = cc
field_stays f (x ∷ xs) ys zero h = refl
field_stays f (x ∷ xs) ys (suc i) h = field_stays f xs ys i h

-- an item of which something holds has each field
pub field_of_some : {X Y : Type 0} (f : X → Y) (P : X → Type 0) (xs : List X) (i : ℕ) →
    IsSomeAnd (slice_get xs i) P → IsSome (option_map f (slice_get xs i))
field_of_some f P [] i h = absurd h
field_of_some f P (x ∷ xs) zero h = refl
field_of_some f P (x ∷ xs) (suc i) h = field_of_some f P xs i h

-- an item stays where it stands
pub item_stays : {X : Type 0} (xs ys : List X) (i : ℕ) (x : X) → slice_get xs i ≡ Some x → slice_get (xs ++ ys) i ≡ Some x
item_stays [] ys i x h = absurd cc
item_stays (y ∷ xs) ys zero x h = h
item_stays (y ∷ xs) ys (suc i) x h = item_stays xs ys i x h

-- what stands within a list stays
pub within_stays : {X : Type 0} (xs ys : List X) (i : ℕ) → i < length xs → slice_get (xs ++ ys) i ≡ slice_get xs i
within_stays [] ys i within = absurd (omega arith)
within_stays (x ∷ xs) ys zero within = refl
within_stays (x ∷ xs) ys (suc i) within = within_stays xs ys i (omega arith)

-- sorts stay
pub sort_stays : (nodes more : List Node) (node : ℕ) →
    IsSome (sort_at nodes node) → sort_at (nodes ++ more) node ≡ sort_at nodes node
sort_stays nodes more node h = field_stays (λ (it : Node). it.sort) nodes more node h

-- formulas stay formulas
pub formula_stays : (nodes more : List Node) (node : ℕ) → sort_at nodes node ≡ Some prop → sort_at (nodes ++ more) node ≡ Some prop
formula_stays nodes more node h = field_is_still (λ (it : Node). it.sort) nodes more node prop h

-- two nodes of one sort stay so
one_sort_stays : (nodes more : List Node) (left right : ℕ) → AreOfOneSort nodes left right → AreOfOneSort (nodes ++ more) left right
one_sort_stays nodes more left right h =
    let other : IsSome (sort_at nodes right) = rw (← h.1) h.0 in
    let l = sort_stays nodes more left h.0 in
    let r = sort_stays nodes more right other in
    (rw l h.0, l ∙ h.1 ∙ sym r)

-- whole numbers stay whole numbers
names_stay : (nodes more : List Node) (form : FormData) → NamesNumbers nodes form → NamesNumbers (nodes ++ more) form
names_stay nodes more form h =
    All-weaker (λ (part : Part). sort_at nodes part.node ≡ Some int) (λ (part : Part). sort_at (nodes ++ more) part.node ≡ Some int)
    (λ part e. field_is_still (λ (it : Node). it.sort) nodes more part.node int e) form.parts h

multiplies_stay : (nodes more : List Node) (poly : List Term) → MultipliesNumbers nodes poly → MultipliesNumbers (nodes ++ more) poly
multiplies_stay nodes more poly h =
    All-weaker (λ (term : Term). All (λ n. sort_at nodes n ≡ Some int) term.monomial)
    (λ (term : Term). All (λ n. sort_at (nodes ++ more) n ≡ Some int) term.monomial)
    (λ term numbers. All-weaker (λ n. sort_at nodes n ≡ Some int) (λ n. sort_at (nodes ++ more) n ≡ Some int)
    (λ n e. field_is_still (λ (it : Node). it.sort) nodes more n int e) term.monomial numbers) poly h

-- well-formed claims stay well formed
pub formed_stays : FormedStays
formed_stays nodes more (Holds node) h = formula_stays nodes more node h
formed_stays nodes more (Fails node) h = formula_stays nodes more node h
formed_stays nodes more (Same left right) h = one_sort_stays nodes more left right h
formed_stays nodes more (Differ left right) h = one_sort_stays nodes more left right h
formed_stays nodes more (AtMost form) h = names_stay nodes more form h
formed_stays nodes more (Zero poly) h = multiplies_stay nodes more poly h
formed_stays nodes more Absurd h = tt

-- what lines claim stays
pub claims_stay : ClaimsStay
claims_stay lines more [] [] h = tt
claims_stay lines more [] (claim ∷ claims) h = absurd h
claims_stay lines more (n ∷ numbers) [] h = absurd h
claims_stay lines more (n ∷ numbers) (claim ∷ claims) h =
    (field_is_still (λ (line : Line). line.claim) lines more n claim h.0, claims_stay lines more numbers claims h.1)

-- as many claims as lines
pub claims_count : ClaimsCount
claims_count lines [] [] h = refl
claims_count lines [] (claim ∷ claims) h = absurd h
claims_count lines (n ∷ numbers) [] h = absurd h
claims_count lines (n ∷ numbers) (claim ∷ claims) h = ap suc (claims_count lines numbers claims h.1)
