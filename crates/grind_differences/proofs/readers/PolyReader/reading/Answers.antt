use Rattle.std.proofs.Common.{◌≡◌, List, Option, Some, None, subst}
use Rattle.std.specs.Prelude.{MatchOption}
use Rattle.std.specs.Borrow.{Bor}
use Rattle.grind_polynomials.specs.declared.poly.Term.{Term}
use Rattle.grind_differences.proofs.HeldLemmas.{poly-within, poly-found}
use Rattle.grind_differences.proofs.readers.PolyReader.reading.Goals as goal

pub held-requires : goal.held-requires
held-requires c =
    poly-within c.args.self.now.terms.now.nodes c.args.self.now.ids.now c.args.id c.requires.among c.args.self.now.polys c.requires.holds

pub returns : goal.returns
returns c =
    subst (λ (it : Option (List Term)). MatchOption c.held.result (it ≡ None) (λ (made : Bor (List Term)). it ≡ Some made.now))
    (poly-found c.args.self.now.terms.now.nodes c.args.self.now.ids.now c.args.id c.requires.among c.args.self.now.polys c.requires.holds)
    c.held.ensures
