use Rattle.grind_tokens.specs.declared.tokens.Sym.TheVariants as symbols
use Rattle.grind_grammar.specs.Keeps.{name_of}
use Rattle.grind_syntax.proofs.Items.{closed_none, closed_open, closed_read}
use Rattle.grind_syntax.proofs.DeclarationLemmas.{function_none, function_unsorted, function_read}
use Rattle.grind_syntax.proofs.declarations.function.Goals as goal

pub returns-in_default-clause-is : goal.returns-in_default-clause-is
returns-in_default-clause-is c =
    function_none (name_of c.args.source.now.text.now c.args.name) _ (closed_none symbols.Colon _ (rw c.in_default.is at c.in_ok-args.ensures.is))

pub returns-in_default-symbol_at-clause-is : goal.returns-in_default-symbol_at-clause-is
returns-in_default-symbol_at-clause-is c =
    function_none (name_of c.args.source.now.text.now c.args.name) _
    (closed_open symbols.Colon _ _ _ (rw c.in-Some.is at c.in_ok-args.ensures.is) c.in_default-symbol_at.ensures.is)

pub returns-in_default-sort_at-clause-is : goal.returns-in_default-sort_at-clause-is
returns-in_default-sort_at-clause-is c =
    function_unsorted (name_of c.args.source.now.text.now c.args.name) _ _ _
    (closed_read symbols.Colon _ _ _ _ (rw c.in-Some.is at c.in_ok-args.ensures.is) c.in-Some-symbol_at.ensures.is) c.in_default-sort_at.ensures.is

pub returns-clause-is : goal.returns-clause-is
returns-clause-is c =
    function_read (name_of c.args.source.now.text.now c.args.name) _ _ _ _ _
    (closed_read symbols.Colon _ _ _ _ (rw c.in-Some.is at c.in_ok-args.ensures.is) c.in-Some-symbol_at.ensures.is) c.in-Some-sort_at.ensures.is
