use Rattle.std.proofs.Common.{◌≡◌, true, false}
use Rattle.grind_grammar.specs.Keeps.{name_of}
use Rattle.grind_grammar.specs.Reading.{is_sort}
use Rattle.grind_syntax.proofs.Fronts.{sort_front, no_sort_front, no_word_no_sort}
use Rattle.grind_syntax.specs.Sources.{ahead}
use Rattle.grind_syntax.proofs.names.sort_at.Goals as goal

pub returns-in_err-name-clause-is : goal.returns-in_err-name-clause-is
returns-in_err-name-clause-is c = rw c.from_residual.ensures (no_word_no_sort (ahead c.args.source.now c.args.at) c.in_err-name.ensures.is)

pub returns-then-is_sort-clause-is : goal.returns-then-is_sort-clause-is
returns-then-is_sort-clause-is c =
    let is : is_sort (name_of c.args.source.now.text.now c.in_ok-name.name) ≡ true = cc in
    sort_front _ _ _ c.in_ok-name.ensures.is is

pub returns-clause-is : goal.returns-clause-is
returns-clause-is c =
    let not : is_sort (name_of c.args.source.now.text.now c.in_ok-name.name) ≡ false = cc in
    no_sort_front _ _ _ c.in_ok-name.ensures.is not
