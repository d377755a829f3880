use Rattle.std.proofs.Common.{◌≡◌, List, Option, Some, None, subst}
use Rattle.std.specs.Prelude.{MatchOption}
use Rattle.std.specs.Borrow.{Bor}
use Rattle.grind_linear_forms.specs.Forms.{FormData}
use Rattle.grind_differences.proofs.HeldLemmas.{form-within, form-found}
use Rattle.grind_differences.proofs.readers.FormReader.reading.Goals as goal

pub held-requires : goal.held-requires
held-requires c =
    form-within c.args.self.now.terms.now.nodes c.args.self.now.ids.now c.args.id c.requires.among c.args.self.now.forms c.requires.holds

pub returns : goal.returns
returns c =
    subst (λ (it : Option (FormData)). MatchOption c.held.result (it ≡ None) (λ (made : Bor (FormData)). it ≡ Some made.now))
    (form-found c.args.self.now.terms.now.nodes c.args.self.now.ids.now c.args.id c.requires.among c.args.self.now.forms c.requires.holds)
    c.held.ensures
