use Rattle.std.proofs.Common.{arith, sym, ap, ◌∙◌, ◌≡◌, length, slice_get, Some}
use Rattle.grind_signature.specs.Functions.{functions_of}
use Rattle.grind_signature.proofs.FunctionLists.{length-functions_of, name-functions_of}
use Rattle.std.proofs.lemmas.Option.{same_Some}
use Rattle.grind_signature.proofs.fun_table.FunTable.name.Goals as goal

pub name-requires : goal.name-requires
name-requires c =
    let len : length c.args.self.now ≡ length c.self.inside.names = ap length (sym c.self.view_is) ∙ length-functions_of c.self.inside.names c.self.inside.arities c.self.invariant in
    omega arith

pub returns : goal.returns
returns c = λ f e.
    let at : slice_get (functions_of c.self.inside.names c.self.inside.arities) c.args.number ≡ Some f =
    ap (λ fs. slice_get fs c.args.number) c.self.view_is ∙ e in
    same_Some _ _ (sym c.name.ensures ∙ name-functions_of c.self.inside.names c.self.inside.arities c.args.number f at)
