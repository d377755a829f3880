use Rattle.std.specs.Prelude.{ℕ, true, slice_set}
use Rattle.std.proofs.Common.{sym, subst, ap, ◌∙◌, inl, inr}
use Rattle.std.proofs.lemmas.Result.{on_ok_weaker}
use Rattle.grind_claims.specs.declared.claim.Claim.{Claim}
use Rattle.grind_truth_prop.specs.declared.types.Known.{Known}
use Rattle.grind_known_posts.proofs.LearnLemmas.{learned, learned_holds, learned_fails, learned_same, learned_differ, IsOfNumbers, learned_nothing}
use Rattle.grind_known_posts.proofs.knowing.learn.Goals as goal

pub returns-in-Holds-clause-ok : goal.returns-in-Holds-clause-ok
returns-in-Holds-clause-ok c =
    let known = c.args.known.now in
    let new : Known = record { terms = known.terms; holds = c.set.new.self; fails = known.fails; same = known.same; apart = known.apart } in
    learned c.args.claim.now known new
    (learned_holds c.args.claim.now c.in-Holds.node known c.set.new.self c.in-Holds.is c.requires.formed c.requires.marks
    (c.set.ensures ∙ ap (λ (k : ℕ). slice_set known.holds k true) c.number.ensures))

pub returns-in-Fails-clause-ok : goal.returns-in-Fails-clause-ok
returns-in-Fails-clause-ok c =
    let known = c.args.known.now in
    let new : Known = record { terms = known.terms; holds = known.holds; fails = c.set-in-Fails.new.self; same = known.same; apart = known.apart } in
    learned c.args.claim.now known new
    (learned_fails c.args.claim.now c.in-Fails.node known c.set-in-Fails.new.self c.in-Fails.is c.requires.formed c.requires.marks
    (c.set-in-Fails.ensures ∙ ap (λ (k : ℕ). slice_set known.fails k true) c.number-in-Fails.ensures))

pub returns-in-Same-clause-ok : goal.returns-in-Same-clause-ok
returns-in-Same-clause-ok c =
    let known = c.args.known.now in
    let new : Known = record { terms = known.terms; holds = known.holds; fails = known.fails; same = c.push.new.self; apart = known.apart } in
    on_ok_weaker c.push.result
    (λ are. learned c.args.claim.now known new
    (learned_same c.args.claim.now c.in-Same.left c.in-Same.right known c.push.new.self c.in-Same.is c.requires.marks are)) c.push.ensures.ok

pub returns-in-Differ-clause-ok : goal.returns-in-Differ-clause-ok
returns-in-Differ-clause-ok c =
    let known = c.args.known.now in
    let new : Known = record { terms = known.terms; holds = known.holds; fails = known.fails; same = known.same; apart = c.push-in-Differ.new.self } in
    on_ok_weaker c.push-in-Differ.result
    (λ are. learned c.args.claim.now known new
    (learned_differ c.args.claim.now c.in-Differ.left c.in-Differ.right known c.push-in-Differ.new.self c.in-Differ.is c.requires.marks are)) c.push-in-Differ.ensures.ok

pub returns-in-AtMost-clause-ok : goal.returns-in-AtMost-clause-ok
returns-in-AtMost-clause-ok c =
    learned c.args.claim.now c.args.known.now c.args.known.now
    (learned_nothing c.args.claim.now c.args.known.now (elim c.in-AtMost.is [
      | inl form ↦ subst (λ (k : Claim). IsOfNumbers k) (sym form.1) tt
      | inr other ↦ elim other [
        | inl poly ↦ subst (λ (k : Claim). IsOfNumbers k) (sym poly.1) tt
        | inr absurd_is ↦ subst (λ (k : Claim). IsOfNumbers k) (sym absurd_is) tt
      ]
    ]) c.requires.marks)

pub returns-in-AtMost-2-clause-ok : goal.returns-in-AtMost-2-clause-ok
returns-in-AtMost-2-clause-ok c =
    learned c.args.claim.now c.args.known.now c.args.known.now
    (learned_nothing c.args.claim.now c.args.known.now (elim c.in-AtMost.is [
      | inl form ↦ subst (λ (k : Claim). IsOfNumbers k) (sym form.1) tt
      | inr other ↦ elim other [
        | inl poly ↦ subst (λ (k : Claim). IsOfNumbers k) (sym poly.1) tt
        | inr absurd_is ↦ subst (λ (k : Claim). IsOfNumbers k) (sym absurd_is) tt
      ]
    ]) c.requires.marks)

pub returns-in-AtMost-3-clause-ok : goal.returns-in-AtMost-3-clause-ok
returns-in-AtMost-3-clause-ok c =
    learned c.args.claim.now c.args.known.now c.args.known.now
    (learned_nothing c.args.claim.now c.args.known.now (elim c.in-AtMost.is [
      | inl form ↦ subst (λ (k : Claim). IsOfNumbers k) (sym form.1) tt
      | inr other ↦ elim other [
        | inl poly ↦ subst (λ (k : Claim). IsOfNumbers k) (sym poly.1) tt
        | inr absurd_is ↦ subst (λ (k : Claim). IsOfNumbers k) (sym absurd_is) tt
      ]
    ]) c.requires.marks)
