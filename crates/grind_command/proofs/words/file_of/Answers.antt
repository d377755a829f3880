use Rattle.std.proofs.Common.{◌≡◌, ◌≤◌, ◌<◌, List, [], ◌∷◌, length, get_or, arith, rules}
use Rattle.grind_command.proofs.words.file_of.Goals as goal

-- a list of two items, by its items
two_items : {X : Type 0} (xs : List X) (a b : X) → 2 ≤ length xs → length xs < 3 → a ≡ get_or xs 0 a → b ≡ get_or xs 1 b → xs ≡ a ∷ b ∷ []
two_items [] a b low high p q = absurd (omega arith)
two_items (x ∷ []) a b low high p q = absurd (omega arith)
two_items (x ∷ y ∷ []) a b low high p q = cc
two_items (x ∷ y ∷ z ∷ xs) a b low high p q = absurd (omega arith)

pub returns-clause-some : goal.returns-clause-some
returns-clause-some c =
    let both : c.args.words.now ≡ c.command-item.result ∷ c.name-item.result ∷ [] =
    two_items _ _ _ (omega arith) (omega arith) c.command-item.is c.name-item.is in
    let solve : c.as_str.result.now ≡ 115 ∷ 111 ∷ 108 ∷ 118 ∷ 101 ∷ [] = search rules in
    (rw both (cc), search rules)
