use Rattle.grind_scenes.proofs.SceneLemmas.{joined_classes, joined_together}
use Rattle.grind_scenes.proofs.grouping.join.Goals as goal

pub same-requires-clause-first : goal.same-requires-clause-first
same-requires-clause-first c = (c.requires.active c.args.a).1 (c.are_of_one_sort.ensures.0 c.if-not-are_of_one_sort.false).0

pub same-requires-clause-second : goal.same-requires-clause-second
same-requires-clause-second c = (c.requires.active c.args.b).1 (c.are_of_one_sort.ensures.0 c.if-not-are_of_one_sort.false).1

pub merge-requires-clause-first : goal.merge-requires-clause-first
merge-requires-clause-first c = (c.requires.active c.args.a).1 (c.are_of_one_sort.ensures.0 c.if-not-are_of_one_sort.false).0

pub merge-requires-clause-second : goal.merge-requires-clause-second
merge-requires-clause-second c = (c.requires.active c.args.b).1 (c.are_of_one_sort.ensures.0 c.if-not-are_of_one_sort.false).1

pub returns-clause-classes : goal.returns-clause-classes
returns-clause-classes c =
    joined_classes c.args.terms.now.nodes c.args.classes.now.lists c.merge.new.self.lists c.args.a c.args.b c.requires
    (c.are_of_one_sort.ensures.0 c.if-not-are_of_one_sort.false).2 c.in_ok-merge.ensures.active c.in_ok-merge.ensures.together

pub returns-clause-together : goal.returns-clause-together
returns-clause-together c = λ alike.
    joined_together c.args.terms.now.nodes c.args.classes.now.lists c.merge.new.self.lists c.args.a c.args.b c.requires alike
    c.in_ok-merge.ensures.together
