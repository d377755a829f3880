use Rattle.std.proofs.Common.{arith, sym, ap, ◌∙◌, ◌≡◌, length}
use Rattle.grind_signature.specs.Signatures.{SignatureData, signature_data}
use Rattle.grind_signature.proofs.FewArguments.{few_arguments}
use Rattle.grind_signature.proofs.signature.Signature.args_of.Goals as goal

pub returns-clause-few : goal.returns-clause-few
returns-clause-few c =
    let e : c.args.self.now.functions ≡ c.self.inside.functions = ap (λ (s : SignatureData). s.functions) (sym c.self.view_is) in
    few_arguments (signature_data c.self.inside.sorts c.self.inside.functions c.self.inside.labels) c.number.result c.as_slice.result.now c.self.invariant
    (let l = ap length e in let n = c.number.ensures in let r = c.requires in omega arith)
    (λ g h. c.as_slice.ensures.value ∙ (c.arity.ensures g h).0)
