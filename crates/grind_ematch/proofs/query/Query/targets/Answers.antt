use Rattle.std.proofs.Common.{◌≡◌, ap, subst}
use Rattle.grind_ematch.specs.Matches.{Scene, scene_of}
use Rattle.grind_ematch.specs.Partials.{QueryData, AreTargets}
use Rattle.grind_ematch.proofs.SceneLemmas.{targets_var, targets_all}
use Rattle.grind_ematch.proofs.query.Query.targets.Goals as goal

pub returns-in-Var-clause-targets : goal.returns-in-Var-clause-targets
returns-in-Var-clause-targets c =
    let scene = scene_of c.self.inside.terms.now.nodes c.self.inside.classes.now.lists c.self.inside.generations.now in
    let scene_is : scene ≡ c.args.self.now.scene = ap (λ (q : QueryData). q.scene) c.self.view_is in
    subst (λ (s : Scene). AreTargets s c.args.pattern.now c.args.id c.split_at.result.0.now) scene_is
    (targets_var scene c.self.invariant.partition c.in-Var.field-0 c.args.pattern.now c.args.id c.root.result
    c.split_at.result.0.now c.members-members.result.now c.in-Var.is c.root.ensures.within
    c.members-members.ensures.value c.split_at.ensures.front)

pub returns-in-Apply-clause-targets : goal.returns-in-Apply-clause-targets
returns-in-Apply-clause-targets c =
    let scene = scene_of c.self.inside.terms.now.nodes c.self.inside.classes.now.lists c.self.inside.generations.now in
    let scene_is : scene ≡ c.args.self.now.scene = ap (λ (q : QueryData). q.scene) c.self.view_is in
    subst (λ (s : Scene). AreTargets s c.args.pattern.now c.args.id c.members-members.result.now) scene_is
    (targets_all scene c.self.invariant.partition c.args.pattern.now c.args.id c.root.result c.members-members.result.now
    c.root.ensures.within c.members-members.ensures.value)
