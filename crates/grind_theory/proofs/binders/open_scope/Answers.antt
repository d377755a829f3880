use Rattle.std.proofs.Common.{sym, subst, ◌∙◌, true≢false}
use Rattle.grind_signature.specs.Signatures.{IsHeld}
use Rattle.grind_resolution.specs.Scopes.{AreDistinct, AreApart}
use Rattle.grind_theory.specs.Headings.{name_in, bounds_in}
use Rattle.grind_theory.specs.Declaring.{ScopeFound}
use Rattle.grind_theory.proofs.BinderLists.{fresh-distinct, fresh-apart}
use Rattle.grind_theory.proofs.binders.open_scope.Goals as goal

pub returns-clause-ok : goal.returns-clause-ok
returns-clause-ok c =
    let s = c.args.signature.now in
    let name = name_in c.args.heading.now in
    let bounds = bounds_in c.args.heading.now in
    let free : ¬ IsHeld s name = subst (λ b. ¬ IsHeld s b) c.bytes_of.ensures (λ held. true≢false (sym (c.holds.ensures.value.1 held) ∙ c.if-holds.false)) in
    let found = subst (ScopeFound c.args.kind s bounds) c.in-Some.is c.in-Ok-read_scope.ensures in
    let fresh = c.in-Ok.ensures.0 c.if-not-fresh.false in
    record {
      fresh = (free, fresh);
      sorts = found.0;
      is = found.1;
      keeps = c.holds.ensures.keeps;
      distinct = subst AreDistinct (sym found.1) (fresh-distinct c.args.kind s bounds fresh);
      apart = subst (AreApart s) (sym found.1) (fresh-apart c.args.kind s bounds fresh);
    }
