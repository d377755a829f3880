use Rattle.grind_theory_files.proofs.TheoryLaws.{one_theory, refused_none, one_refusal}
use Rattle.grind_theory_files.proofs.reader.one_theory_of.Goals as goal

pub returns-clause-theory : goal.returns-clause-theory
returns-clause-theory c =
    one_theory c.one_reading.ensures.tokens c.one_reading.ensures.not_both c.one_reading.ensures.fault c.one_parse.ensures.declarations
    c.one_parse.ensures.apart c.one_parse.ensures.refusal c.one_theory.ensures c.one_refusal.ensures.apart
    c.one_refusal.ensures.one

pub returns-clause-none : goal.returns-clause-none
returns-clause-none c =
    refused_none c.one_reading.ensures.tokens c.one_reading.ensures.not_both c.one_reading.ensures.fault c.one_parse.ensures.declarations
    c.one_parse.ensures.apart c.one_parse.ensures.refusal c.one_theory.ensures c.one_refusal.ensures.apart
    c.one_refusal.ensures.one

pub returns-clause-refusal : goal.returns-clause-refusal
returns-clause-refusal c =
    one_refusal c.one_reading.ensures.tokens c.one_reading.ensures.not_both c.one_reading.ensures.fault c.one_parse.ensures.declarations
    c.one_parse.ensures.apart c.one_parse.ensures.refusal c.one_theory.ensures c.one_refusal.ensures.apart
    c.one_refusal.ensures.one
