use Rattle.std.proofs.Common.{min, ℕ, ap, ◌∙◌}
use Rattle.grind_ematch.proofs.ThinningLemmas.{keeps_by}
use Rattle.grind_ematch.proofs.thinning.keep.Goals as goal

pub returns : goal.returns
returns c =
    keeps_by c.args.partial.slots c.args.partial.generation c.args.least.now.entries c.insert.new.self.entries c.copied.result
    c.min.result (c.copied.ensures ∙ c.get.ensures.value)
    (c.min.ensures ∙ ap (λ (k : ℕ). min k c.args.partial.generation) c.unwrap_or-known.ensures)
    c.in_ok-insert.ensures.entries
