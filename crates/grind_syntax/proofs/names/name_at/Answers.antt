use Rattle.std.proofs.Common.{◌≡◌, true, false}
use Rattle.grind_grammar.specs.Keeps.{name_of}
use Rattle.grind_grammar.specs.Reading.{is_name}
use Rattle.grind_syntax.proofs.Fronts.{name_front, no_name_front, no_word_no_name}
use Rattle.grind_syntax.specs.Sources.{ahead}
use Rattle.grind_syntax.proofs.names.name_at.Goals as goal

pub returns-in_err-name-clause-is : goal.returns-in_err-name-clause-is
returns-in_err-name-clause-is c = rw c.from_residual.ensures (no_word_no_name (ahead c.args.source.now c.args.at) c.in_err-name.ensures.is)

pub returns-then-is_name-clause-is : goal.returns-then-is_name-clause-is
returns-then-is_name-clause-is c =
    let is : is_name (name_of c.args.source.now.text.now c.in_ok-name.name) ≡ true = cc in
    name_front _ _ _ c.in_ok-name.ensures.is is

pub returns-clause-is : goal.returns-clause-is
returns-clause-is c =
    let not : is_name (name_of c.args.source.now.text.now c.in_ok-name.name) ≡ false = cc in
    no_name_front _ _ _ c.in_ok-name.ensures.is not
