-- What the assignment makes true, over whole numbers without bound.
use Rattle.std.specs.Prelude.{◌≡◌, ◌≢◌, ℕ, List, [], Some, pos, ◌≤ℤ◌}
use Rattle.grind_linear_forms.specs.Forms.{FormData}
use Rattle.grind_linear_forms.specs.Readings.{linear}
use Rattle.grind_linear_forms.specs.Values.{form_value}
use Rattle.grind_claims.specs.declared.claim.Claim.TheVariants.{AtMost}
use Rattle.grind_cutsat_facts.specs.Facts.{IsSaid}
use Rattle.grind_cutsat_assignment.specs.declared.outcome.Chosen.{Chosen}
use Rattle.grind_cutsat_assignment.specs.Given.{Given, SaysDiffer}
use Rattle.grind_cutsat_assignment.specs.Assignments.{chosen_value, IsAssignment}

-- each form that a fact bounds is at most 0 at the values, unless it is a number
abbrev pub BoundsHold : Type 0
BoundsHold = (it : Given) (list : List Chosen) (post : ℕ) (form : FormData) → IsAssignment it list
    → IsSaid it.facts post (AtMost form) → form.parts ≢ [] → form_value (chosen_value list) form ≤ℤ pos 0

-- whole numbers that are said to differ have different values by their readings
abbrev pub DifferencesHold : Type 0
DifferencesHold = (it : Given) (list : List Chosen) (post a b : ℕ) (one other : FormData) → IsAssignment it list
    → SaysDiffer it.facts it.nodes post a b → linear it.nodes a ≡ Some one → linear it.nodes b ≡ Some other
    → form_value (chosen_value list) one ≢ form_value (chosen_value list) other
