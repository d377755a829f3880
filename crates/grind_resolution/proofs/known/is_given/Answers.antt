use Rattle.std.proofs.Common.{true≢false, sym}
use Rattle.grind_resolution.proofs.known.is_given.Goals as goal

pub returns-in-None : goal.returns-in-None
returns-in-None c = (λ f. absurd (true≢false (sym f)), λ h. absurd (c.in-None.ensures h.0 h.1))
