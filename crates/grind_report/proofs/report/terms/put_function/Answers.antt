use Rattle.std.proofs.Common.{◌≡◌, arith}
use Rattle.std.proofs.lemmas.Grind.{common_steps}
use Rattle.grind_report.specs.Naming.{function_name}
use Rattle.grind_report.proofs.FunctionNames.{name_found, name_labelled}
use Rattle.grind_report.proofs.report.terms.put_function.Goals as goal

pub returns-clause-text : goal.returns-clause-text
returns-clause-text c =
    let name : c.name_of-name.result.now ≡ function_name c.args.signature.now c.args.function =
    name_found c.args.signature.now c.args.function c.name_of-name.result.now c.requires c.name_of-name.ensures.value in
    grind (arith, common_steps)

pub returns-clause-label : goal.returns-clause-label
returns-clause-label c = name_labelled c.args.signature.now c.args.function c.requires c.name_of-name.ensures.keeps
