use Rattle.std.proofs.Common.{◌≡◌, ◌<◌, List, ℕ, length, ap, sym, subst, arith}
use Rattle.grind_classes.specs.Classes.{IsActive}
use Rattle.grind_ematch.specs.Partials.{QueryData}
use Rattle.grind_ematch.proofs.SceneLemmas.{got_below}
use Rattle.grind_ematch.proofs.query.Query.generation.Goals as goal

pub bounds-self-inside-number : goal.bounds-self-inside-number
bounds-self-inside-number c =
    let classes_are : c.self.inside.classes.now.lists ≡ c.args.self.now.scene.classes = ap (λ (q : QueryData). q.scene.classes) c.self.view_is in
    let active = subst (λ (lists : List (List ℕ)). IsActive lists c.args.n) (sym classes_are) c.requires in
    let found = c.self.invariant.scene.active c.args.n active in
    let below : c.args.n < length c.self.inside.terms.now.nodes = got_below c.self.inside.terms.now.nodes c.args.n found.0 found.1 in
    let long = c.self.invariant.scene.generations in
    let is = c.number.ensures in
    omega (arith, below, long, is)
