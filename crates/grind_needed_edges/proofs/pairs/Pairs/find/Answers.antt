use Rattle.std.specs.Prelude.{◌≡◌, ℕ, None, Some, Contains, List}
use Rattle.std.specs.Map.{lookup}
use Rattle.std.proofs.Common.{sym, subst}
use Rattle.grind_needed_edges.specs.declared.pairs.Pair.{Pair}
use Rattle.grind_needed_edges.specs.Numbered.{pair_of}
use Rattle.grind_needed_edges.proofs.PairLemmas.{pair_eq, found_entry, none_entry}
use Rattle.grind_needed_edges.proofs.pairs.Pairs.find.Goals as goal

pub returns-in-Some : goal.returns-in-Some
returns-in-Some c =
    let has : lookup (pair_eq (pair_of c.args.a c.args.b)) c.self.inside.map.entries ≡ Some c.in-Some.number.now = sym c.in-Some.ensures.value in
    subst (λ (es : List (Pair × ℕ)). Contains es (pair_of c.args.a c.args.b, c.in-Some.number.now)) c.self.view_is
    (found_entry c.self.inside.map.entries (pair_of c.args.a c.args.b) c.in-Some.number.now has)

pub returns-in-None : goal.returns-in-None
returns-in-None c = λ m has.
    let none : lookup (pair_eq (pair_of c.args.a c.args.b)) c.self.inside.map.entries ≡ None = sym c.in-None.ensures.value in
    none_entry c.self.inside.map.entries (pair_of c.args.a c.args.b) m none
    (subst (λ (es : List (Pair × ℕ)). Contains es (pair_of c.args.a c.args.b, m)) (sym c.self.view_is) has)
