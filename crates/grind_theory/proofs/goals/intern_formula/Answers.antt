use Rattle.std.proofs.Common.{rules, ℕ, List, ◌<◌, length, [], subst, refl}
use Rattle.grind_term_graph.specs.declared.node.Node.{Node}
use Rattle.grind_term_graph.specs.Terms.{prop}
use Rattle.grind_grammar.specs.Keeps.{term_of}
use Rattle.grind_schemes.specs.Instances.{interned}
use Rattle.grind_theory.proofs.Interning.{interned-same}
use Rattle.grind_theory.proofs.GoalLaws.{goal_formed}
use Rattle.grind_theory.proofs.goals.intern_formula.Goals as goal

pub intern_scheme-requires : goal.intern_scheme-requires
intern_scheme-requires c =
    let s = c.args.context.now.signature.now in
    let scope = c.args.context.now.scope.now in
    let single = c.one_meaning.ensures s scope c.args.context.now.keeps c.args.context.now.distinct c.args.context.now.apart in
    let formed = c.schemes_are_formed.ensures s scope c.args.context.now.keeps single (term_of c.args.context.now.text.now c.args.tree.now) prop c.in-Ok.scheme
    c.requires.formula c.in-Ok.ensures in
    ([], refl, goal_formed scope c.in-Ok.scheme c.requires.goal formed.0)

pub returns-in-Err-Full-clause-over : goal.returns-in-Err-Full-clause-over
returns-in-Err-Full-clause-over c = λ fault e scheme stands.
    let s = c.args.context.now.signature.now in
    let scope = c.args.context.now.scope.now in
    let single = c.one_meaning.ensures s scope c.args.context.now.keeps c.args.context.now.distinct c.args.context.now.apart in
    let same = c.one_scheme.ensures s scope single (term_of c.args.context.now.text.now c.args.tree.now) c.in-Ok.scheme scheme c.in-Ok.ensures stands in
    let big : c.args.table.now.limit < length (interned c.args.table.now.nodes [] c.in-Ok.scheme).0 = search rules in
    subst (λ (x : List Node × ℕ). c.args.table.now.limit < length x.0) (interned-same c.in-Ok.scheme scheme same c.args.table.now.nodes) big
