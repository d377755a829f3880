use Rattle.grind_scenes.proofs.SceneLemmas.{scene_by}
use Rattle.grind_scenes.proofs.matching.first_matches.Goals as goal

pub matches-requires-clause-scene : goal.matches-requires-clause-scene
matches-requires-clause-scene c =
    scene_by c.args.terms.now.nodes c.args.terms.now.limit c.args.classes.now.lists c.args.generations.now
    (c.len-count.ensures.table, c.len-count.ensures.begins, c.len-count.ensures.bound, c.len-count.ensures.limit)
    c.requires.classes c.requires.generations
