use Rattle.std.specs.Prelude.{◌≡◌, ℕ, List, ◌∷◌, Contains, refl}
use Rattle.std.proofs.Common.{arith, subst, inl, inr}
use Rattle.grind_classes.proofs.ListLemmas.{Contains-cases}
use Rattle.grind_congruence.specs.Table.{uses_of}
use Rattle.grind_congruence.proofs.uses.note_all.Goals as goal

pub loop-n-preserved : goal.loop-n-preserved
loop-n-preserved c =
    let rest_is : c.loop-n.rest.now ≡ c.in-Some.n.now ∷ c.in-Some.tail.now = c.in-Some.ensures.cases.0 in
    record {
      keeps = λ x i has. c.note.ensures.keeps x i (c.loop-n.invariant.keeps x i has);
      noted = λ n has. elim (c.loop-n.invariant.noted n has) [
        | inl here ↦ inl (c.note.ensures.keeps n c.args.place here)
        | inr there ↦ elim (Contains-cases c.in-Some.n.now c.in-Some.tail.now n (subst (λ (xs : List ℕ). Contains xs n) rest_is there)) [
          | inl is ↦ inl (subst (λ (m : ℕ). Contains (uses_of c.note.new.uses m) c.args.place) is c.in_ok-note.ensures.ok)
          | inr later ↦ inr later
        ]
      ];
      same = refl;
    }

pub returns-clause-ok : goal.returns-clause-ok
returns-clause-ok c = λ n has. elim (c.loop-n.invariant.noted n has) [
  | inl here ↦ here
  | inr there ↦ absurd (omega (arith, there.1, c.in_default.ensures.cases))
]
