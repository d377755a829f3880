use Rattle.std.proofs.Common.{true≢false, sym}
use Rattle.grind_grammar.specs.Keeps.{name_of}
use Rattle.grind_resolution.specs.Contexts.{gives_in}
use Rattle.grind_resolution.proofs.KnownTerms.{only_takes}
use Rattle.grind_resolution.proofs.counted.takes.Goals as goal

pub returns-in-Some : goal.returns-in-Some
returns-in-Some c =
    only_takes (gives_in c.args.context.now) c.args.context.now.text.now (name_of c.args.context.now.text.now c.args.name)
    c.in-Some.found.meaning c.in-Some.found.args.now c.in-Some.found.sort c.args.count c.in-Some.ensures

pub returns-in-None : goal.returns-in-None
returns-in-None c = (λ f. absurd (true≢false (sym f)), λ h. absurd (c.in-None.ensures h.0 h.1))
