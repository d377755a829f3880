-- Lists that begin with others: a table of terms that grew begins with what it was.
use Rattle.std.specs.Prelude.{◌≡◌, List, ◌++◌}

-- the second list begins with the first
abbrev pub BeginsWith : {A : Type 0} → List A → List A → Type 0
BeginsWith {A} front whole = (rest : List A) × (whole ≡ front ++ rest)
