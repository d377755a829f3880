use Rattle.grind_par_check.proofs.judge.+first_between+fn-first_between-join+arg2+fn-first_between-join+arg3.Given as goal

abbrev pub decreases-first_between : goal.decreases-first_between
decreases-first_between g l = l.runs

abbrev pub decreases-join+arg2 : goal.decreases-join+arg2
decreases-join+arg2 g l = l.left

abbrev pub decreases-join+arg3 : goal.decreases-join+arg3
decreases-join+arg3 g l = l.right
