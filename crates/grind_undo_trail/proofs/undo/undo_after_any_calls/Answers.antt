use Rattle.grind_undo_trail.proofs.LawLemmas.{undo_is_exact}
use Rattle.grind_undo_trail.proofs.undo.undo_after_any_calls.Goals as goal

pub returns : goal.returns
returns g c = undo_is_exact _
