-- Which answer is given, and what is known after it.
use Rattle.std.specs.Prelude.{◌≡◌, ℕ, ◌+◌, ◌⊎◌, List, [], ◌∷◌, ◌++◌, Contains}
use Rattle.grind_term_graph.specs.declared.node.Node.{Node}
use Rattle.grind_polynomials.specs.declared.poly.Term.{Term}
use Rattle.grind_claims.specs.declared.proof.Rule.{Rule}
use Rattle.grind_claims.specs.declared.proof.Rule.TheVariants as rules
use Rattle.grind_ring_basis.specs.declared.types.Fact.{Fact}
use Rattle.grind_ring_basis.specs.declared.types.Basis.{Basis}
use Rattle.grind_ring_basis.specs.declared.types.Pair.{Pair}
use Rattle.grind_ring_basis.specs.declared.types.Places.{Places}
use Rattle.grind_ring_basis.specs.declared.types.Combination.{Combination}
use Rattle.grind_ring_basis.specs.Bases.{fact}
use Rattle.grind_ring_units.specs.declared.types.State.{State}
use Rattle.grind_ring_units.specs.Zeroed.{HasZeroed, NoneZeroed, HasUnread, AllRead}
use Rattle.grind_ring_units.specs.PostUnits.{IsJoining, IsReduced, WouldReduce, IsPostTooLarge, IsPostDone}
use Rattle.grind_ring_units.specs.PairUnits.{AreElements, IsPairReduced, IsPairTooLarge, IsPairDone, WouldJoinPair, ArePostsAt}
use Rattle.grind_ring_units.specs.Conflicts.{HasContradiction, NoContradiction}
use Rattle.grind_ring_units.specs.EqualTerms.{AreEqualTerms, NoEqualTerms}
use Rattle.grind_ring_units.specs.Scans.{MayJoin}
use Rattle.grind_ring_solver.specs.declared.types.RingStep.{RingStep}
use Rattle.grind_ring_solver.specs.declared.types.RingStep.TheVariants.{Zeroed, Joins, Added, Equal, Conflict, Rest, AtLimit, Overflow}

-- the basis with one more element
abbrev pub with_element : Basis → Fact → Basis
with_element basis it = record { posts = basis.posts ++ it.post ∷ []; elements = basis.elements ++ it.poly ∷ [] }

-- the fact joined the basis as it is
abbrev pub joined : State → Fact → State
joined state it = record {
  limit = state.limit;
  made = state.made;
  equalities = state.equalities;
  taken = state.taken;
  own = state.own;
  basis = with_element state.basis it;
}

-- the fact, a normal form, joined the basis, and is known
abbrev pub added : State → Fact → State
added state it = record {
  limit = state.limit;
  made = state.made + 1;
  equalities = state.equalities;
  taken = state.taken;
  own = state.own ++ it ∷ [];
  basis = with_element state.basis it;
}

-- the fact is known besides
abbrev pub noted : State → Fact → State
noted state it = record {
  limit = state.limit;
  made = state.made;
  equalities = state.equalities;
  taken = state.taken;
  own = state.own ++ it ∷ [];
  basis = state.basis;
}

-- what is known after two terms were found equal: their polynomial, where no post said so before
abbrev pub AfterEqual : State → ℕ → List Term → Rule → State → Type 0
AfterEqual state next poly rule new =
    ((rule ≡ rules.Equal) × (new ≡ state))
    ⊎ ((line : Combination) × (rule ≡ rules.Ideal line.divisor line.factors) × (new ≡ noted state (fact next poly)))

-- no fact that was taken joins as it is, nor has a normal form that joins
pub record NoneAtPosts (state : State) : Type 0 where
  pub joining : (it : Fact) → Contains state.taken it → ¬ IsJoining state it
  pub reduced : (it : Fact) → Contains state.taken it → ¬ WouldReduce state it

-- the normal form of a fact that was taken, or of an S-polynomial, joins by this line; facts come first
abbrev pub IsJoiningForm : State → List Term → Combination → Type 0
IsJoiningForm state rest line =
    ((it : Fact) × Contains state.taken it × IsReduced state it rest line)
    ⊎ (NoneAtPosts state × (places : Places) × (pair : Pair) × IsPairReduced state places pair rest line)

-- these posts would give a normal form that joins: a fact, or two elements of the basis
abbrev pub WouldJoin : State → ℕ → ℕ → Type 0
WouldJoin state first second =
    ((it : Fact) × Contains state.taken it × WouldReduce state it × (first ≡ it.post) × (second ≡ it.post))
    ⊎ ((places : Places) × WouldJoinPair state places × ArePostsAt state places first second)

-- a number in what these posts would give does not fit: a fact, or two elements of the basis
abbrev pub WouldNotFit : State → ℕ → ℕ → Type 0
WouldNotFit state first second =
    ((it : Fact) × Contains state.taken it × IsPostTooLarge state it × (first ≡ it.post) × (second ≡ it.post))
    ⊎ ((places : Places) × IsPairTooLarge state places × ArePostsAt state places first second)

-- the same, or an equality whose polynomial does not fit
abbrev pub AreTooLarge : State → List Node → ℕ → ℕ → Type 0
AreTooLarge state nodes first second = (HasUnread state nodes first × (second ≡ first)) ⊎ WouldNotFit state first second

-- no number of a fact or of a pair is too large
pub record FormsFit (state : State) : Type 0 where
  pub posts : (it : Fact) → Contains state.taken it → ¬ IsPostTooLarge state it
  pub pairs : (places : Places) → ¬ IsPairTooLarge state places

-- nor of an equality
pub record EachFits (state : State) (nodes : List Node) : Type 0 where
  pub equalities : AllRead state nodes
  pub forms : FormsFit state

-- neither a fact nor a pair has a normal form that would join
pub record NoneWouldJoin (state : State) : Type 0 where
  pub posts : (it : Fact) → Contains state.taken it → ¬ WouldReduce state it
  pub pairs : (places : Places) → ¬ WouldJoinPair state places

-- each fact that was taken and each pair of elements has a normal form that is 0 or that a known post says to be 0, but pairs of
-- too high a degree
pub record EachIsDone (state : State) : Type 0 where
  pub posts : (it : Fact) → Contains state.taken it → IsPostDone state it
  pub pairs : (places : Places) (first second : List Term) → AreElements state places first second → IsPairDone state places

-- no fact joins as it is, and no normal form joins, or none may
pub record NothingJoins (state : State) : Type 0 where
  pub joining : (it : Fact) → Contains state.taken it → ¬ IsJoining state it
  pub forms : MayJoin state → NoneWouldJoin state

-- no unit applies
pub record NothingApplies (state : State) (nodes : List Node) (lists : List (List ℕ)) : Type 0 where
  pub zeroed : NoneZeroed state nodes
  pub joins : NothingJoins state
  pub contradiction : NoContradiction state
  pub equal : NoEqualTerms state nodes lists

-- no unit applies, each number fits, and no normal form is kept from joining
pub record IsAtRest (state : State) (nodes : List Node) (lists : List (List ℕ)) : Type 0 where
  pub applies : NothingApplies state nodes lists
  pub fits : EachFits state nodes
  pub forms : NoneWouldJoin state
  pub done : EachIsDone state

-- the answer, and what is known after it: its case stands, and nothing before it does
abbrev pub IsStep : State → List Node → List (List ℕ) → ℕ → RingStep → State → Type 0
IsStep state nodes lists next (Zeroed post) new = HasZeroed state nodes post × (new ≡ state)
IsStep state nodes lists next (Joins post) new =
    NoneZeroed state nodes × (it : Fact) × Contains state.taken it × (it.post ≡ post) × IsJoining state it × (new ≡ joined state it)
IsStep state nodes lists next (Added rest rule from) new =
    NoneZeroed state nodes × MayJoin state × (line : Combination) × IsJoiningForm state rest line
    × (rule ≡ rules.Ideal line.divisor line.factors) × (from ≡ line.from) × (new ≡ added state (fact next rest))
IsStep state nodes lists next (Conflict post) new =
    NoneZeroed state nodes × NothingJoins state × HasContradiction state post × (new ≡ state)
IsStep state nodes lists next (Equal left right rest rule from) new =
    NoneZeroed state nodes × NothingJoins state × NoContradiction state
    × AreEqualTerms state nodes lists left right rest rule from × AfterEqual state next rest rule new
IsStep state nodes lists next (Overflow first second) new =
    NothingApplies state nodes lists × AreTooLarge state nodes first second × (new ≡ state)
IsStep state nodes lists next (AtLimit first second) new =
    NothingApplies state nodes lists × EachFits state nodes × (state.made ≡ state.limit) × WouldJoin state first second × (new ≡ state)
IsStep state nodes lists next Rest new = IsAtRest state nodes lists × (new ≡ state)
