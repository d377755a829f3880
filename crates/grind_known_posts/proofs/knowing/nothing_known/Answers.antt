use Rattle.grind_known_posts.proofs.LearnLemmas.{nothing}
use Rattle.grind_known_posts.proofs.knowing.nothing_known.Goals as goal

pub returns-clause-known : goal.returns-clause-known
returns-clause-known c =
    nothing (record {
      terms = c.args.terms;
      holds = c.in_ok-holds.holds;
      fails = c.in_ok-fails.fails;
      same = c.new.result;
      apart = c.new-2.result;
    }) c.len.result c.len-2.result c.in_ok-holds.ensures c.in_ok-fails.ensures c.len.ensures.value c.len-2.ensures.value c.new.ensures c.new-2.ensures
