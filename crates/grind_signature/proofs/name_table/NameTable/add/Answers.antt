use Rattle.std.proofs.Common.{ℕ, Vec, Global}
use Rattle.grind_signature.proofs.NameLists.{insert_names}
use Rattle.grind_signature.proofs.name_table.NameTable.add.Goals as goal
use Rattle.grind_signature.proofs.name_table.NameTable.add.Goals.{in-Ok-insert, in-Err}

pub returns-clause-ok : goal.returns-clause-ok
returns-clause-ok c =
    elim c.match-insert.branch [
      | in-Ok-insert w ↦
          rw w.result-is (insert_names (λ (k : Vec ℕ Global). k.items) c.self.inside.names.keys c.in-Ok.owned c.args.self.now c.args.name.now
          c.self.view_is c.in-Ok.ensures.items c.requires c.insert.new.self.keys (rw w.in-Ok-insert.is at c.insert.ensures.keys))
      | in-Err w ↦ rw w.result-is tt
    ]
