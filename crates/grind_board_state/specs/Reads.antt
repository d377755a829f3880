-- What congruence closure makes of a claim that it reads.
use Rattle.std.specs.Prelude.{◌≡◌, ℕ, ⊤, ◌⊎◌}
use Rattle.grind_classes.specs.Classes.{IsActive, AreTogether}
use Rattle.grind_claims.specs.declared.claim.Claim.{Claim}
use Rattle.grind_claims.specs.declared.claim.Claim.TheVariants.{Same}
use Rattle.grind_congruence.specs.Congruence.{Congruence}
use Rattle.grind_congruence.specs.Asserted.{IsJoined}

-- the two nodes of an equality are active
abbrev pub HasSides : Congruence → Claim → Type 0
HasSides closure (Same left right) = IsActive closure.lists left × IsActive closure.lists right
HasSides closure _ = ⊤

-- an equality of nodes in two classes joins these, with an edge of the post's number; anything else changes nothing
abbrev pub IsTakenIn : ℕ → Claim → Congruence → Congruence → Type 0
IsTakenIn number (Same left right) old new =
    (AreTogether old.lists left right × (new ≡ old)) ⊎ (¬ AreTogether old.lists left right × IsJoined old new left right number)
IsTakenIn number _ old new = new ≡ old
