use Rattle.std.proofs.Common.{sym, ap, ◌∙◌, ◌≡◌, ◌++◌, ◌∷◌, [], ℕ, List, length}
use Rattle.grind_signature.specs.Signatures.{function_names}
use Rattle.grind_signature.proofs.FunctionLists.{function_names-of, length-functions_of, functions_pushed, the_function}
use Rattle.grind_signature.proofs.fun_table.FunTable.add.Goals as goal

pub add-requires : goal.add-requires
add-requires c =
    let e : function_names c.args.self.now ≡ c.self.inside.names = ap function_names (sym c.self.view_is) ∙ function_names-of c.self.inside.names c.self.inside.arities c.self.invariant in
    λ has. c.requires (rw e has)

pub returns-in-Ok-clause-ok : goal.returns-in-Ok-clause-ok
returns-in-Ok-clause-ok c =
    functions_pushed c.self.inside.names c.add.new.self c.self.inside.arities c.push.new.self c.args.self.now c.args.name.now
    (record { args = c.in_ok-list.list; result = c.args.own }) c.self.view_is c.self.invariant c.in-Ok.ensures.ok c.in_ok-push.ensures.ok
    ∙ ap (λ (xs : List ℕ). c.args.self.now ++ the_function c.args.name.now (record { args = xs; result = c.args.own }) ∷ []) c.in_ok-list.ensures

pub returns-in-Ok-clause-number : goal.returns-in-Ok-clause-number
returns-in-Ok-clause-number c =
    let len : length c.args.self.now ≡ length c.self.inside.names = ap length (sym c.self.view_is) ∙ length-functions_of c.self.inside.names c.self.inside.arities c.self.invariant in
    c.in-Ok.ensures.number ∙ sym len
