use Rattle.std.proofs.Common.{sym, ap, ◌∙◌, position, ℕ, Vec, Global}
use Rattle.std.specs.Str.{bytes_eq}
use Rattle.grind_signature.proofs.NameLists.{position-names}
use Rattle.grind_signature.proofs.name_table.NameTable.find.Goals as goal

pub returns-in-Some : goal.returns-in-Some
returns-in-Some c =
    sym c.in-Some.is ∙ c.get_index_of.ensures.index ∙ position-names (λ (k : Vec ℕ Global). k.items) c.args.name.now c.self.inside.names.keys
    ∙ ap (position (bytes_eq c.args.name.now)) c.self.view_is

pub returns-in-None : goal.returns-in-None
returns-in-None c =
    sym c.in-None.is ∙ c.get_index_of.ensures.index ∙ position-names (λ (k : Vec ℕ Global). k.items) c.args.name.now c.self.inside.names.keys
    ∙ ap (position (bytes_eq c.args.name.now)) c.self.view_is
