use Rattle.grind_answers.proofs.BlockLemmas.{printable, spells_block}
use Rattle.grind_cli.proofs.writing.block_of.Goals as goal

pub render_block-requires : goal.render_block-requires
render_block-requires g c =
    printable c.args.contents.now.signature.now c.args.contents.now.lemmas.now c.args.goal.now c.in_ok-outcome.outcome c.in_ok-outcome.ensures c.requires.declared

pub returns : goal.returns
returns g c =
    let made = c.in_ok-bytes.ensures in (
      made.0,
      spells_block c.args.contents.now.signature.now c.args.contents.now.lemmas.now c.args.goal.now c.in_ok-outcome.outcome c.is_closed-closed.result _ made.0
          c.in_ok-outcome.ensures made.3 made.2 made.1 c.is_closed-closed.ensures,
    )
