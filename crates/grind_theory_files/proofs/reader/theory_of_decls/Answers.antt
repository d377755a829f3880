use Rattle.grind_theory_files.proofs.ReaderLemmas.{are_kept, theory_read, refused_declarations}
use Rattle.grind_theory_files.proofs.reader.theory_of_decls.Goals as goal

pub elaborate-requires : goal.elaborate-requires
elaborate-requires c =
    are_kept c.names_are_plain.ensures c.names_are_words.ensures c.args.bytes.now c.args.lexed.now c.args.decls.now c.requires.tokens
    c.requires.decls

pub returns-in-Ok-clause-ok : goal.returns-in-Ok-clause-ok
returns-in-Ok-clause-ok c =
    theory_read c.args.bytes.now c.args.lexed.now c.args.decls.now c.in-Ok.theory c.requires.tokens c.requires.decls c.in-Ok.ensures.ok

pub returns-in-Err-clause-refused : goal.returns-in-Err-clause-refused
returns-in-Err-clause-refused c =
    refused_declarations c.args.bytes.now c.args.lexed.now c.args.decls.now c.elaborate.result c.in-Err.refusal c.of_declarations.result
    c.requires.tokens c.requires.decls c.in-Err.is c.elaborate.ensures.refused c.of_declarations.ensures
