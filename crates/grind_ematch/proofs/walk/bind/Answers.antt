use Rattle.std.proofs.Common.{◌≡◌, None, Some, length, replicate, slice_set, Option, List, ℕ, ap, sym, ◌∙◌, true≢false}
use Rattle.grind_ematch.proofs.NodeLemmas.{bind_none, bind_some}
use Rattle.grind_ematch.proofs.walk.bind.Goals as goal

pub returns-then-not-fits : goal.returns-then-not-fits
returns-then-not-fits c =
    bind_none c.args.query.now c.vars-vars.ensures.keeps c.args.number c.args.n c.args.found.now
    (λ same. true≢false (sym (c.fits.ensures.1 same) ∙ c.if-not-fits.true))

pub returns : goal.returns
returns c =
    let slots_are : c.new.result ≡ slice_set (replicate (length c.args.query.now.vars) None) c.args.number (Some c.root.result) =
    c.new.ensures ∙ c.set.ensures ∙ ap (λ (s : List (Option ℕ)). slice_set s c.args.number (Some c.root.result))
    (c.in_ok-slots.ensures ∙ ap (λ (v : List ℕ). replicate (length v) None) c.vars-vars.ensures.value) in
    bind_some c.args.query.now c.vars-vars.ensures.keeps c.args.number c.args.n c.root.result c.new.result c.args.found.now
    c.push.new.self c.requires.within (c.fits.ensures.0 c.if-not-fits.false) c.root.ensures.within c.root.ensures.own
    slots_are c.in_ok-push.ensures.ok
