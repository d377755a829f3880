use Rattle.std.proofs.Common.{sym, ap, subst, ◌∙◌, ◌≡◌, ◌≢◌}
use Rattle.std.specs.List.{AllPairs}
use Rattle.grind_signature.specs.Signatures.{function_names}
use Rattle.grind_signature.proofs.FunctionLists.{function_names-of}
use Rattle.grind_signature.proofs.fun_table.FunTable.find.Goals as goal

pub returns-clause-value : goal.returns-clause-value
returns-clause-value c =
    let e : function_names c.args.self.now ≡ c.self.inside.names = ap function_names (sym c.self.view_is) ∙ function_names-of c.self.inside.names c.self.inside.arities c.self.invariant in
    rw e c.find.ensures

pub returns-clause-differ : goal.returns-clause-differ
returns-clause-differ c =
    let e : function_names c.args.self.now ≡ c.self.inside.names = ap function_names (sym c.self.view_is) ∙ function_names-of c.self.inside.names c.self.inside.arities c.self.invariant in
    subst (AllPairs (λ a b. a ≢ b)) (sym e) c.len-len.ensures.differ
