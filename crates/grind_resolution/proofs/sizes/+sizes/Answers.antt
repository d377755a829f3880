use Rattle.grind_grammar.specs.Keeps.{name_of, term_of}
use Rattle.grind_resolution.proofs.Trees.{term_at}
use Rattle.grind_resolution.proofs.SizedTerms.{named_size}
use Rattle.grind_resolution.proofs.sizes.+sizes.Goals as goal

pub size_of-returns-in-Apply-clause-value : goal.size_of-returns-in-Apply-clause-value
size_of-returns-in-Apply-clause-value t c = λ text.
    named_size text (name_of text c.in-Apply.field-0) c.deref.result.now (term_of text c.args.tree.now) c.size_of_all-below.result c.sum_within-in-Apply.result c.args.limit
    (term_at text c.args.tree.now c.in-Apply.field-0 c.in-Apply.parts c.deref.result.now c.in-Apply.is c.deref.ensures.value)
    (c.size_of_all-below.ensures.value text) c.sum_within-in-Apply.ensures.value
