use Rattle.std.proofs.Common.{◌∙◌, sym}
use Rattle.grind_syntax.specs.Levels.{ops_of}
use Rattle.grind_syntax.proofs.OperatorLemmas.{op_front, no_op_front, no_symbol_no_op}
use Rattle.grind_syntax.proofs.levels.op_at.Goals as goal

pub returns-in_err-sym-clause-is : goal.returns-in_err-sym-clause-is
returns-in_err-sym-clause-is c = rw c.from_residual.ensures (no_symbol_no_op (ops_of c.args.level) _ c.in_err-sym.ensures.is)

pub returns-in_default-clause-is : goal.returns-in_default-clause-is
returns-in_default-clause-is c =
    no_op_front (ops_of c.args.level) _ c.in_ok-sym.sym _ c.in_ok-sym.ensures.is (sym c.op_of.ensures ∙ c.in_default.is)

pub returns-clause-is : goal.returns-clause-is
returns-clause-is c =
    op_front (ops_of c.args.level) _ c.in_ok-sym.sym _ c.in-Some.op c.in_ok-sym.ensures.is (sym c.op_of.ensures ∙ c.in-Some.is)
