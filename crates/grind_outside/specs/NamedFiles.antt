-- Files that stand in memory.
use Rattle.std.specs.Prelude.{ℕ, List, Option, find, bytes_eq}
use Rattle.std.specs.Option.{option_map}
use Rattle.grind_outside.specs.declared.named_file.NamedFile.{NamedFile}

-- the bytes of the first file of that name
abbrev pub bytes_of : List NamedFile → List ℕ → Option (List ℕ)
bytes_of files name = option_map (λ file. file.bytes) (find (λ file. bytes_eq file.name name) files)
