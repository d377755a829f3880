use Rattle.grind_truth_tables.proofs.NeededLemmas.{names_put}
use Rattle.grind_truth_tables.proofs.needed.name.Goals as goal

pub returns-in_ok-put-in-Holds-clause-named : goal.returns-in_ok-put-in-Holds-clause-named
returns-in_ok-put-in-Holds-clause-named c =
    names_put c.args.claim.now _ _ _ _ c.in-Holds.is (λ m e. e) c.in_ok-put-in-Holds.ensures

pub returns-in_ok-put-in-Fails-clause-named : goal.returns-in_ok-put-in-Fails-clause-named
returns-in_ok-put-in-Fails-clause-named c =
    names_put c.args.claim.now _ _ _ _ c.in-Fails.is (λ m e. e) c.in_ok-put-in-Fails.ensures
