use Rattle.std.proofs.Common.{◌≡◌, None, length, replicate, ap, ◌∙◌}
use Rattle.grind_ematch.proofs.NodeLemmas.{starts}
use Rattle.grind_ematch.proofs.walk.start.Goals as goal

pub returns : goal.returns
returns c =
    let slots_are : c.new.result ≡ replicate (length c.args.query.now.vars) None = c.new.ensures ∙ c.in_ok-slots.ensures ∙ ap (λ n. replicate (length n) None) c.vars.ensures.value in
    starts c.args.query.now c.args.from c.new.result c.push.new.self c.requires slots_are (rw c.new-found.ensures at c.in_ok-push.ensures.ok)
