use Rattle.std.proofs.Common.{◌≡◌, ◌≤◌, ◌∙◌, Bool, List, length, All, sym, ap, subst}
use Rattle.grind_reach.specs.Marks.{IsLastUse, reader_at}
use Rattle.grind_reach.proofs.WalkLemmas.{course-is}
use Rattle.grind_reach.proofs.walk.read_all.Goals as goal

pub last_uses-requires-clause-within : goal.last_uses-requires-clause-within
last_uses-requires-clause-within g c =
    subst (λ (marks : List Bool). length marks ≤ length c.args.table.now.nodes) (sym c.as_slice.ensures.value)
    (c.in_ok-marks.ensures.size (length c.args.table.now.nodes) c.requires)

pub read_along-requires : goal.read_along-requires
read_along-requires g c =
    let same = c.as_slice.ensures.value in
    course-is c.args.table.now.nodes c.args.roots.now c.in_ok-marks.marks c.as_slice-2.result.now c.in_ok-uses.uses c.as_slice-3.result.now
    c.as_slice-2.ensures.value c.as_slice-3.ensures.value (c.in_ok-marks.ensures.size (length c.args.table.now.nodes) c.requires)
    (c.in_ok-uses.ensures.size ∙ ap length same) c.arguments_stand_before.ensures c.in_ok-marks.ensures.exact c.in_ok-marks.ensures.closed
    (λ a. subst (λ (marks : List Bool). IsLastUse c.args.table.now.nodes marks c.args.roots.now a (reader_at c.in_ok-uses.uses a)) same
    (c.in_ok-uses.ensures.uses a))
    c.in_ok-marks.ensures.roots
    (subst (λ (marks : List Bool). All (λ root. reader_at c.in_ok-uses.uses root ≡ length marks) c.args.roots.now) same c.in_ok-uses.ensures.roots)
