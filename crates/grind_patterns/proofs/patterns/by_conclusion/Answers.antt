use Rattle.std.proofs.Common.{List, [], subst}
use Rattle.grind_schemes.specs.declared.scheme.Scheme.{Scheme}
use Rattle.grind_patterns.specs.Patterns.{conclusion_of}
use Rattle.grind_patterns.specs.Walking.{WalksOn}
use Rattle.grind_patterns.proofs.patterns.by_conclusion.Goals as goal

pub returns : goal.returns
returns c =
    let from_nothing = subst (λ (old : List Scheme). WalksOn old (conclusion_of c.args.body.now) c.walk.new.taken)
    c.new-taken.ensures (subst (λ (s : Scheme). WalksOn c.new-taken.result s c.walk.new.taken) c.conclusion.ensures c.in_ok-walk.ensures) in
    let goes = from_nothing [] tt in
    (goes.0, goes.1, goes.2)
