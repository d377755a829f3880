use Rattle.std.proofs.Common.{ℕ, subst}
use Rattle.grind_scenes.specs.Scenes.{AreAlone}
use Rattle.grind_scenes.proofs.SceneLemmas.{alone_classes}
use Rattle.grind_scenes.proofs.grouping.all_alone.Goals as goal

pub returns-clause-alone : goal.returns-clause-alone
returns-clause-alone c = subst (λ (n : ℕ). AreAlone c.in_ok-classes.classes.lists n) c.len-count.ensures.value c.in_ok-classes.ensures

pub returns-clause-classes : goal.returns-clause-classes
returns-clause-classes c =
    alone_classes c.args.terms.now.nodes c.in_ok-classes.classes.lists
    (subst (λ (n : ℕ). AreAlone c.in_ok-classes.classes.lists n) c.len-count.ensures.value c.in_ok-classes.ensures)
