use Rattle.grind_resolution.proofs.found.name_at.Goals as goal

pub returns : goal.returns
returns c = rw (← c.bytes_of-bytes.ensures) c.find_name.ensures
