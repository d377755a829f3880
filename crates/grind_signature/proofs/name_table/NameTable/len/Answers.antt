use Rattle.std.proofs.Common.{subst, ◌≢◌, ℕ, refl, Vec, Global}
use Rattle.std.specs.List.{AllPairs}
use Rattle.std.specs.Str.{bytes_eq}
use Rattle.std.proofs.lemmas.Slice.Eq.{bytes_eq-Decides}
use Rattle.std.proofs.lemmas.Map.Made.{AllPairs-from_IsDistinct}
use Rattle.grind_signature.proofs.NameLists.{names_differ}
use Rattle.grind_signature.proofs.name_table.NameTable.len.Goals as goal

pub returns-clause-differ : goal.returns-clause-differ
returns-clause-differ c =
    subst (AllPairs (λ a b. a ≢ b)) c.self.view_is
    (AllPairs-from_IsDistinct bytes_eq-Decides _
    (names_differ (λ (k : Vec ℕ Global). k.items) (λ (x y : Vec ℕ Global). bytes_eq x.items y.items) (λ x y. refl) c.self.inside.names.keys c.len.ensures.unique))
