use Rattle.std.proofs.Common.{List, [], subst}
use Rattle.grind_schemes.specs.declared.scheme.Scheme.{Scheme}
use Rattle.grind_patterns.specs.Patterns.{hypotheses_of}
use Rattle.grind_patterns.specs.Walking.{WalksEachOn}
use Rattle.grind_patterns.proofs.patterns.hypotheses.Goals as goal

pub returns : goal.returns
returns c =
    let from_nothing = subst (λ (old : List Scheme). WalksEachOn old (hypotheses_of c.args.body.now) c.walk_hypotheses.new.taken)
    c.new-taken.ensures c.in_ok-walk_hypotheses.ensures in
    let goes = from_nothing [] tt in
    (goes.0, ((λ none. cc (none, c.in-Some.ensures.hyps)), goes.1), goes.2)
