use Rattle.grind_congruence.proofs.changing.merge.Goals as goal

pub returns-in-Ok-clause-ok : goal.returns-in-Ok-clause-ok
returns-in-Ok-clause-ok c = record {
  merged = λ ra rb left right. (c.in-Ok.field-0.root, c.in-Ok.field-0.moved, c.in-Ok.ensures.lists ra rb left right);
  together = c.in-Ok.ensures.together;
  active = c.in-Ok.ensures.active;
  partition = c.merge.ensures.partition;
  marked = c.merge.ensures.marked;
  members = c.moved_by.result.now;
  moves = c.moved_by.ensures;
  touched = c.in_ok-touch.ensures.ok;
}
