-- How far each agent has read.
use Rattle.std.specs.Prelude.{ℕ, ◌+◌}
use Rattle.grind_board_state.specs.declared.agent.Agent.{Agent}
use Rattle.grind_board_state.specs.declared.agent.Agent.TheVariants as agents
use Rattle.grind_board_state.specs.declared.agent.Cursors.{Cursors}

-- how many posts the agent has read
abbrev pub cursor_of : Agent → Cursors → ℕ
cursor_of agents.Closure it = it.closure
cursor_of agents.Truth it = it.truth
cursor_of agents.Ring it = it.ring
cursor_of agents.Cutsat it = it.cutsat
cursor_of agents.Match it = it.matching

-- the same once the agent has read one more
abbrev pub advanced : Agent → Cursors → Cursors
advanced agents.Closure it = record { closure = it.closure + 1; truth = it.truth; ring = it.ring; cutsat = it.cutsat; matching = it.matching }
advanced agents.Truth it = record { closure = it.closure; truth = it.truth + 1; ring = it.ring; cutsat = it.cutsat; matching = it.matching }
advanced agents.Ring it = record { closure = it.closure; truth = it.truth; ring = it.ring + 1; cutsat = it.cutsat; matching = it.matching }
advanced agents.Cutsat it = record { closure = it.closure; truth = it.truth; ring = it.ring; cutsat = it.cutsat + 1; matching = it.matching }
advanced agents.Match it = record { closure = it.closure; truth = it.truth; ring = it.ring; cutsat = it.cutsat; matching = it.matching + 1 }
