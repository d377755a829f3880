use Rattle.std.proofs.Common.{sym, ◌∙◌}
use Rattle.grind_differences.proofs.BoundLemmas.{difference-left, difference-right, difference-from}
use Rattle.grind_differences.proofs.readers.FormReader.difference.Goals as goal

pub returns-in_default : goal.returns-in_default
returns-in_default c = sym (difference-left c.args.self.now.terms.now.nodes c.args.a c.args.b c.in_default.ensures)

pub returns-in_default-reading : goal.returns-in_default-reading
returns-in_default-reading c =
    sym (difference-right c.args.self.now.terms.now.nodes c.args.a c.args.b c.in-Some.left.now c.in-Some.ensures c.in_default-reading.ensures)

pub returns : goal.returns
returns c =
    c.in_ok-found.ensures
    ∙ sym (difference-from c.args.self.now.terms.now.nodes c.args.a c.args.b c.in-Some.left.now c.in-Some-reading.right.now c.in-Some.ensures c.in-Some-reading.ensures)
