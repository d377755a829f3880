use Rattle.std.proofs.Common.{sym, ap, ◌∙◌, ◌≡◌}
use Rattle.grind_signature.specs.Signatures.{function_names}
use Rattle.grind_signature.proofs.FunctionLists.{function_names-of}
use Rattle.grind_signature.proofs.fun_table.FunTable.contains.Goals as goal

pub returns : goal.returns
returns c =
    let e : function_names c.args.self.now ≡ c.self.inside.names = ap function_names (sym c.self.view_is) ∙ function_names-of c.self.inside.names c.self.inside.arities c.self.invariant in
    rw e c.contains.ensures
