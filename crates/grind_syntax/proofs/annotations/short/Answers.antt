use Rattle.std.proofs.Common.{◌∙◌, ap, sym}
use Rattle.grind_grammar.specs.Reading.{word_at}
use Rattle.grind_syntax.proofs.AnnotationLemmas.{short_left, short_right, short_hyps, short_less, short_concl, short_other}
use Rattle.grind_syntax.specs.Sources.{ahead}
use Rattle.grind_syntax.proofs.annotations.short.Goals as goal

pub returns-in_default-keyword_at-clause-is : goal.returns-in_default-keyword_at-clause-is
returns-in_default-keyword_at-clause-is c =
    let ls = ahead c.args.source.now c.args.at in
    short_left c.args.sym ls c.in-Eq.is (ap (λ k. word_at k ls) (sym c.as_slice.ensures) ∙ c.in_default-keyword_at.ensures.is)

pub returns-in_err-left-in-Lt-clause-is : goal.returns-in_err-left-in-Lt-clause-is
returns-in_err-left-in-Lt-clause-is c =
    rw c.from_residual.ensures (short_less c.args.sym _ c.in-Lt.is c.in_err-left-in-Lt.ensures.is)

pub returns-in-Some-clause-is : goal.returns-in-Some-clause-is
returns-in-Some-clause-is c =
    let ls = ahead c.args.source.now c.args.at in
    short_right c.args.sym ls _ c.in-Eq.is (ap (λ k. word_at k ls) (sym c.as_slice.ensures) ∙ c.in-Some.ensures.is)

pub returns-in-Arrow-clause-is : goal.returns-in-Arrow-clause-is
returns-in-Arrow-clause-is c = short_hyps c.args.sym _ c.in-Arrow.is

pub returns-in_ok-left-in-Lt-clause-is : goal.returns-in_ok-left-in-Lt-clause-is
returns-in_ok-left-in-Lt-clause-is c = short_concl c.args.sym _ _ c.in-Lt.is c.in_ok-left-in-Lt.ensures.is

pub returns-in_default : goal.returns-in_default
returns-in_default c = record { is = short_other c.args.sym _ c.in_default.not-Eq c.in_default.not-Arrow c.in_default.not-Lt; left = tt }
