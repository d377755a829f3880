use Rattle.std.proofs.Common.{◌≡◌, List, [], ◌∷◌, ◌++◌, subst, sym}
use Rattle.grind_schemes.specs.declared.scheme.Scheme.{Scheme}
use Rattle.grind_patterns.specs.Patterns.{HasUncovered}
use Rattle.grind_patterns.specs.Walking.{TakesOn}
use Rattle.grind_patterns.proofs.Along.{fails, on_ok}
use Rattle.grind_patterns.proofs.WalkLemmas.{takes_new, takes_none}
use Rattle.grind_patterns.proofs.walk.take.Goals as goal

pub returns-then-not-has_uncovered : goal.returns-then-not-has_uncovered
returns-then-not-has_uncovered c = λ before copies.
    let covered = fails c.has_uncovered.result (HasUncovered c.as_slice.result.now c.args.term.now)
    c.has_uncovered.ensures c.if-not-has_uncovered.true in
    takes_none c.args.taken.now before c.args.term.now c.requires
    (subst (λ (terms : List Scheme). ¬ HasUncovered terms c.args.term.now) c.as_slice.ensures.value covered) copies

pub returns : goal.returns
returns c =
    let old = c.args.taken.now in
    let term = c.args.term.now in
    let copy = c.in_ok-copy.copy in
    let uncovered = subst (λ (terms : List Scheme). HasUncovered terms term) c.as_slice.ensures.value
    (c.has_uncovered.ensures.0 c.if-not-has_uncovered.false) in
    on_ok c.push.result (c.push.new.self ≡ old ++ copy ∷ []) (TakesOn old term c.push.new.self)
    (λ e. subst (TakesOn old term) (sym e)
    (λ before copies. takes_new old before term copy c.requires uncovered c.in_ok-copy.ensures copies))
    c.push.ensures.ok
