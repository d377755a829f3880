-- What a contract sees of a term table, and how it reads sorts in it.
use Rattle.std.specs.Prelude.{ℕ, List, [], ◌∷◌, Option, slice_get}
use Rattle.std.specs.Option.{option_map}
use Rattle.grind_term_graph.specs.declared.head.Head.TheVariants.{True, False}
use Rattle.grind_term_graph.specs.declared.node.Node.{Node}

-- a term table: its nodes in order, and how many fit
pub record Terms : Type 0 where
  pub nodes : List Node
  pub limit : ℕ

-- the sort of formulas
abbrev pub prop : ℕ
prop = 0

-- the sort of whole numbers
abbrev pub int : ℕ
int = 1

-- the nodes that begin every table: True and False
abbrev pub opening : List Node
opening = record { head = True; sort = prop; args = [] } ∷ record { head = False; sort = prop; args = [] } ∷ []

-- the sort of the node of that number, and none past the end
abbrev pub sort_at : List Node → ℕ → Option ℕ
sort_at nodes id = option_map (λ (node : Node). node.sort) (slice_get nodes id)
