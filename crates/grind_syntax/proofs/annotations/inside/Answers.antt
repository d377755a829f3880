use Rattle.std.proofs.Common.{◌≡◌, ◌∙◌, true, false, codes}
use Rattle.std.specs.Str.{bytes_eq}
use Rattle.grind_grammar.specs.Keeps.{name_of}
use Rattle.grind_syntax.specs.Levels.{level}
use Rattle.grind_syntax.specs.declared.levels.Level.TheVariants as levels
use Rattle.grind_syntax.specs.Annotated.{patterns_of}
use Rattle.grind_syntax.proofs.Items.{map_none}
use Rattle.grind_syntax.proofs.AnnotationLemmas.{inside_symbol, inside_word, inside_patterns, inside_none}
use Rattle.grind_syntax.proofs.annotations.inside.Goals as goal

pub returns-in_default-short-clause-is : goal.returns-in_default-short-clause-is
returns-in_default-short-clause-is c =
    inside_symbol (level levels.Sum c.args.room) _ c.in-Some.sym _ c.in-Some.ensures.is ∙ c.in_default-short.ensures.is

pub returns-in-Some-clause-is : goal.returns-in-Some-clause-is
returns-in-Some-clause-is c =
    inside_symbol (level levels.Sum c.args.room) _ c.in-Some.sym _ c.in-Some.ensures.is ∙ c.in-Some-short.ensures.is

pub returns-in_default-word_at-clause-is : goal.returns-in_default-word_at-clause-is
returns-in_default-word_at-clause-is c = inside_none (level levels.Sum c.args.room) _ c.in_default.ensures.is c.in_default-word_at.ensures.is

pub returns-then-not-is_same-clause-is : goal.returns-then-not-is_same-clause-is
returns-then-not-is_same-clause-is c =
    let other : bytes_eq (name_of c.args.source.now.text.now c.in-Some-word_at.name) (codes "pattern") ≡ false = cc in
    inside_word (level levels.Sum c.args.room) _ _ _ c.in-Some-word_at.ensures.is other

pub returns-in_default-2-clause-is : goal.returns-in_default-2-clause-is
returns-in_default-2-clause-is c =
    let is : bytes_eq (name_of c.args.source.now.text.now c.in-Some-word_at.name) (codes "pattern") ≡ true = cc in
    inside_patterns (level levels.Sum c.args.room) _ _ _ c.in-Some-word_at.ensures.is is
    ∙ map_none patterns_of _ (rw c.in_default-2.is at c.in_ok-annot.ensures.is)

pub returns-clause-is : goal.returns-clause-is
returns-clause-is c =
    let is : bytes_eq (name_of c.args.source.now.text.now c.in-Some-word_at.name) (codes "pattern") ≡ true = cc in
    inside_patterns (level levels.Sum c.args.room) _ _ _ c.in-Some-word_at.ensures.is is ∙ (rw c.in-Some-2.is at c.in_ok-annot.ensures.is)
