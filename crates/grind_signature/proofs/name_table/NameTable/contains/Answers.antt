use Rattle.std.proofs.Common.{sym, ap, ◌∙◌, ◌≡◌, ℕ, Vec, Global}
use Rattle.std.specs.List.{list_any}
use Rattle.std.specs.Str.{bytes_eq}
use Rattle.grind_signature.proofs.NameLists.{list_any-decides, list_any-names}
use Rattle.grind_signature.proofs.name_table.NameTable.contains.Goals as goal

pub returns : goal.returns
returns c =
    let e : c.contains.result ≡ list_any (bytes_eq c.args.name.now) c.args.self.now =
    c.contains.ensures ∙ list_any-names (λ (k : Vec ℕ Global). k.items) c.args.name.now c.self.inside.names.keys
    ∙ ap (list_any (bytes_eq c.args.name.now)) c.self.view_is in
    let d = list_any-decides c.args.self.now c.args.name.now in
    (λ t. d.0 (sym e ∙ t), λ has. e ∙ d.1 has)
