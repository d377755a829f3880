use Rattle.grind_par_check.specs.Runs.{IsTrueRun}
use Rattle.grind_par_check.proofs.judge.first_in_run.Given as goal

-- each item of the run so far is true
abbrev pub invariant-loop-i : goal.invariant-loop-i
invariant-loop-i g l = IsTrueRun (g.J.Judge.holds l.judge) l.fn.from l.i
