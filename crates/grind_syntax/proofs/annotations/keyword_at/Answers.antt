use Rattle.std.proofs.Common.{◌≡◌, true, false}
use Rattle.std.specs.Str.{bytes_eq}
use Rattle.grind_grammar.specs.Keeps.{name_of}
use Rattle.grind_syntax.proofs.AnnotationLemmas.{keyword_front, keyword_other, no_keyword}
use Rattle.grind_syntax.proofs.annotations.keyword_at.Goals as goal

pub returns-in_err-name-clause-is : goal.returns-in_err-name-clause-is
returns-in_err-name-clause-is c =
    rw c.from_residual.ensures (no_keyword c.args.keyword.now _ c.in_err-name.ensures.is)

pub returns-then-is_same-clause-is : goal.returns-then-is_same-clause-is
returns-then-is_same-clause-is c =
    let is : bytes_eq (name_of c.args.source.now.text.now c.in_ok-name.name) c.args.keyword.now ≡ true = cc in
    keyword_front c.args.keyword.now _ _ _ c.in_ok-name.ensures.is is

pub returns-clause-is : goal.returns-clause-is
returns-clause-is c =
    let other : bytes_eq (name_of c.args.source.now.text.now c.in_ok-name.name) c.args.keyword.now ≡ false = cc in
    keyword_other c.args.keyword.now _ _ _ c.in_ok-name.ensures.is other
