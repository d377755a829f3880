use Rattle.std.proofs.Common.{arith, sym, ap, ◌∙◌, ◌≡◌, length, slice_get, Some, refl}
use Rattle.grind_signature.specs.Functions.{functions_of}
use Rattle.grind_signature.proofs.FunctionLists.{length-functions_of, arity-functions_of}
use Rattle.std.proofs.lemmas.Option.{slice_get_read}
use Rattle.grind_signature.proofs.fun_table.FunTable.arity.Goals as goal

pub bounds-as_slice-number : goal.bounds-as_slice-number
bounds-as_slice-number c =
    let len : length c.args.self.now ≡ length c.self.inside.names = ap length (sym c.self.view_is) ∙ length-functions_of c.self.inside.names c.self.inside.arities c.self.invariant in
    let same = ap length c.as_slice.ensures.value in
    let inv = c.self.invariant in
    omega arith

pub returns : goal.returns
returns c = λ f e.
    let len : length c.args.self.now ≡ length c.self.inside.names = ap length (sym c.self.view_is) ∙ length-functions_of c.self.inside.names c.self.inside.arities c.self.invariant in
    let at : slice_get (functions_of c.self.inside.names c.self.inside.arities) c.args.number ≡ Some f =
    ap (λ fs. slice_get fs c.args.number) c.self.view_is ∙ e in
    let stored : slice_get c.as_slice.result.now c.args.number ≡ Some c.index-as_slice-number.result =
    slice_get_read c.as_slice.result.now (length c.as_slice.result.now) c.args.number c.index-as_slice-number.result refl
    (let same = ap length c.as_slice.ensures.value in let inv = c.self.invariant in omega arith) c.index-as_slice-number.is in
    arity-functions_of c.self.inside.names c.self.inside.arities c.args.number f c.index-as_slice-number.result at
    (ap (λ xs. slice_get xs c.args.number) (sym c.as_slice.ensures.value) ∙ stored)
