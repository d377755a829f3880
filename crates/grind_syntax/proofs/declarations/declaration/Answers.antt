use Rattle.std.proofs.Common.{◌∙◌}
use Rattle.grind_grammar.specs.Keeps.{name_of}
use Rattle.grind_grammar.specs.Reading.{declaration_of}
use Rattle.grind_grammar.specs.Files.{depth_limit}
use Rattle.grind_syntax.proofs.Items.{then_none, then_read}
use Rattle.grind_syntax.proofs.DeclarationLemmas.{declaration_none, declaration_word}
use Rattle.grind_syntax.proofs.declarations.declaration.Goals as goal

pub returns-in_default-clause-is : goal.returns-in_default-clause-is
returns-in_default-clause-is c = declaration_none depth_limit depth_limit _ c.in_default.ensures.is

pub returns-in_default-name_at-clause-is : goal.returns-in_default-name_at-clause-is
returns-in_default-name_at-clause-is c =
    let word = name_of c.args.source.now.text.now c.in-Some.keyword in
    declaration_word depth_limit depth_limit _ word _ c.in-Some.ensures.is
    ∙ then_none (declaration_of depth_limit depth_limit word) _ c.in_default-name_at.ensures.is

pub returns-in_default-2-clause-is : goal.returns-in_default-2-clause-is
returns-in_default-2-clause-is c =
    let word = name_of c.args.source.now.text.now c.in-Some.keyword in
    declaration_word depth_limit depth_limit _ word _ c.in-Some.ensures.is
    ∙ then_read (declaration_of depth_limit depth_limit word) _ _ _ c.in-Some-name_at.ensures.is
    ∙ (rw c.in_default-2.is at c.in_ok-decl.ensures.is)

pub returns-clause-is : goal.returns-clause-is
returns-clause-is c =
    let word = name_of c.args.source.now.text.now c.in-Some.keyword in
    declaration_word depth_limit depth_limit _ word _ c.in-Some.ensures.is
    ∙ then_read (declaration_of depth_limit depth_limit word) _ _ _ c.in-Some-name_at.ensures.is
    ∙ (rw c.in-Some-2.is at c.in_ok-decl.ensures.is)
