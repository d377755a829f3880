-- What is known fits the classes.
use Rattle.std.specs.Prelude.{ℕ, ⊤, List, Contains, ◌↔◌}
use Rattle.grind_term_graph.specs.declared.node.Node.{Node}
use Rattle.grind_classes.specs.Classes.{IsActive}
use Rattle.grind_claims.specs.declared.claim.Claim.{Claim}
use Rattle.grind_claims.specs.declared.claim.Claim.TheVariants.{Holds, Fails, Same, Differ, AtMost, Zero, Absurd}
use Rattle.grind_claims.specs.Claims.{IsFormed}
use Rattle.grind_congruence.specs.Congruence.{Congruence}
use Rattle.grind_congruence.specs.Congruence as congruence
use Rattle.grind_report_words.specs.declared.board.Post.{Post}
use Rattle.grind_truth_prop.specs.Given.{Fits}
use Rattle.grind_truth_prop.specs.declared.types.Known.{Known}
use Rattle.grind_journal.specs.Posts.{Stands}
use Rattle.grind_journal.specs.Joins.{AreClassesOfPosts}
use Rattle.grind_known_posts.specs.Known.{KnowsAll}

-- the formulas and terms of which the claim speaks are among these nodes; forms and polynomials may name others
abbrev pub SpeaksOf : List ℕ → Claim → Type 0
SpeaksOf active (Holds n) = Contains active n
SpeaksOf active (Fails n) = Contains active n
SpeaksOf active (Same a b) = Contains active a × Contains active b
SpeaksOf active (Differ a b) = Contains active a × Contains active b
SpeaksOf active (AtMost form) = ⊤
SpeaksOf active (Zero poly) = ⊤
SpeaksOf active Absurd = ⊤

-- each claim that stands is well formed over the terms, and speaks of active nodes
abbrev pub SpeakOfActive : List Node → List ℕ → List Post → Type 0
SpeakOfActive nodes active posts = (claim : Claim) → Stands posts claim → IsFormed nodes claim × SpeaksOf active claim

-- what is known by posts over the active nodes fits the classes that the posts read so far make
abbrev pub KnownFits : Type 0
KnownFits = (active : List ℕ) (posts read : List Post) (known : Known) (closure : Congruence) →
    KnowsAll posts known → SpeakOfActive known.terms.nodes active posts → SpeakOfActive known.terms.nodes active read →
    congruence.Fits closure known.terms.nodes →
    ((n : ℕ) → IsActive closure.lists n ↔ Contains active n) → AreClassesOfPosts active read closure.lists →
    Fits known closure.lists
