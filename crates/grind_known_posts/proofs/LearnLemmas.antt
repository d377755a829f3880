-- What is known once a post is made.
use Rattle.std.specs.Prelude.{◌≡◌, ⊤, ℕ, zero, suc, ◌<◌, ◌⊎◌, ◌↔◌, Bool, true, false, List, [], ◌∷◌, ◌++◌, Option, Some, None, length, replicate, slice_get, slice_set, refl}
use Rattle.std.specs.List.{filter_map, cons_option}
use Rattle.std.proofs.Common.{◌+◌, arith, sym, ap, subst, ◌∙◌, inl, inr}
use Rattle.std.proofs.lemmas.List.{length-set, length-replicate, append-nil, replicate_more}
use Rattle.grind_term_graph.specs.declared.node.Node.{Node}
use Rattle.grind_term_graph.specs.Terms.{prop, sort_at}
use Rattle.std.proofs.lemmas.List.Elements.{filter_map-append}
use Rattle.grind_claims.specs.declared.claim.Claim.{Claim}
use Rattle.grind_claims.specs.declared.claim.Claim.TheVariants.{Holds, Fails, Same, Differ}
use Rattle.grind_claims.specs.declared.claim.Claim.TheVariants as claims
use Rattle.grind_claims.specs.Claims.{IsFormed}
use Rattle.grind_report_words.specs.declared.board.Post.{Post}
use Rattle.grind_truth_prop.specs.Given.{couple, KnownToHold, KnownToFail, Marks}
use Rattle.grind_truth_prop.specs.declared.types.Couple.{Couple}
use Rattle.grind_truth_prop.specs.declared.types.Known.{Known}
use Rattle.grind_journal.specs.Posts.{Stands}
use Rattle.grind_journal.proofs.Growth.{stands_stays, last_stands, stood_or_last}
use Rattle.grind_known_posts.specs.Known.{equal_nodes, different_nodes, HasMarks, KnowsAll}

-- a mark that is set is one more
set_marks : (xs : List Bool) (n k : ℕ) → n < length xs → Marks (slice_set xs n true) k ↔ (Marks xs k ⊎ (n ≡ k))
set_marks [] n k within = absurd (omega (arith, within))
set_marks (x ∷ xs) zero zero within = (λ h. inr refl, λ h. refl)
set_marks (x ∷ xs) zero (suc k) within = (
  λ h. inl h,
  λ h. elim h [
    | inl a ↦ a
    | inr e ↦ absurd (omega (arith, e))
  ],
)
set_marks (x ∷ xs) (suc n) zero within = (
  λ h. inl h,
  λ h. elim h [
    | inl a ↦ a
    | inr e ↦ absurd (omega (arith, e))
  ],
)
set_marks (x ∷ xs) (suc n) (suc k) within =
    let inner = set_marks xs n k (omega (arith, within)) in (
      λ h. elim (inner.0 h) [
        | inl a ↦ inl a
        | inr e ↦ inr (ap suc e)
      ],
      λ h. elim h [
        | inl a ↦ inner.1 (inl a)
        | inr e ↦ inner.1 (inr (omega (arith, e)))
      ],
    )

-- no mark is set where none was set
pub none_marked : (count n : ℕ) → ¬ Marks (replicate count false) n
none_marked zero n h = absurd cc
none_marked (suc count) zero h = absurd cc
none_marked (suc count) (suc n) h = none_marked count n h

-- what one more post changes
pub record IsLearned (claim : Claim) (known new : Known) : Type 0 where
  pub marks : HasMarks new
  pub holds : (n : ℕ) → KnownToHold new n ↔ (KnownToHold known n ⊎ (claim ≡ Holds n))
  pub fails : (n : ℕ) → KnownToFail new n ↔ (KnownToFail known n ⊎ (claim ≡ Fails n))
  pub same : new.same ≡ known.same ++ cons_option (equal_nodes claim) []
  pub apart : new.apart ≡ known.apart ++ cons_option (different_nodes claim) []

one_more : (posts : List Post) (post : Post) (claim wanted : Claim) (before after : Type 0) → post.claim ≡ claim
    → (before ↔ Stands posts wanted) → (after ↔ (before ⊎ (claim ≡ wanted))) → after ↔ Stands (posts ++ post ∷ []) wanted
one_more posts post claim wanted before after e was is = (
  λ h. elim (is.0 h) [
    | inl old ↦ stands_stays posts (post ∷ []) wanted (was.0 old)
    | inr own ↦ last_stands posts post wanted (e ∙ own)
  ],
  λ h. elim (stood_or_last posts post wanted h) [
    | inl old ↦ is.1 (inl (was.1 old))
    | inr own ↦ is.1 (inr (sym e ∙ own))
  ],
)

listed : (h : Claim → Option Couple) (posts : List Post) (post : Post) (claim : Claim) (old new : List Couple) → post.claim ≡ claim
    → old ≡ filter_map (λ (it : Post). h it.claim) posts → new ≡ old ++ cons_option (h claim) []
    → new ≡ filter_map (λ (it : Post). h it.claim) (posts ++ post ∷ [])
listed h posts post claim old new e was is =
    is ∙ ap (λ (xs : List Couple). xs ++ cons_option (h claim) []) was
    ∙ ap (λ (c : Claim). filter_map (λ (it : Post). h it.claim) posts ++ cons_option (h c) []) (sym e)
    ∙ sym (filter_map-append (λ (it : Post). h it.claim) posts (post ∷ []))

pub learned : (claim : Claim) (known new : Known) → IsLearned claim known new → (posts : List Post) (post : Post) → post.claim ≡ claim
    → KnowsAll posts known → KnowsAll (posts ++ post ∷ []) new
learned claim known new it posts post e knows = record {
  marks = it.marks;
  holds = λ n. one_more posts post claim (Holds n) (KnownToHold known n) (KnownToHold new n) e (knows.holds n) (it.holds n);
  fails = λ n. one_more posts post claim (Fails n) (KnownToFail known n) (KnownToFail new n) e (knows.fails n) (it.fails n);
  same = listed equal_nodes posts post claim known.same new.same e knows.same it.same;
  apart = listed different_nodes posts post claim known.apart new.apart e knows.apart it.apart;
}

-- ---- claim by claim

-- one more after the others
pub replicate_next : {X : Type 0} → (xs new : List X) (x : X) (n : ℕ) → new ≡ xs ++ x ∷ [] → xs ≡ replicate n x
    → new ≡ replicate (n + 1) x
replicate_next xs new x n is same = is ∙ ap (λ these. these ++ x ∷ []) same ∙ replicate_more n x

no_more : (P Q : Type 0) → ¬ Q → P ↔ (P ⊎ Q)
no_more P Q never = (
  λ h. inl h,
  λ h. elim h [
    | inl is ↦ is
    | inr other ↦ absurd (never other)
  ],
)

none_listed : (xs : List Couple) (o : Option Couple) → o ≡ None → xs ≡ xs ++ cons_option o []
none_listed xs o e = sym (append-nil xs) ∙ ap (λ (it : Option Couple). xs ++ cons_option it []) (sym e)

one_listed : (xs : List Couple) (o : Option Couple) (c : Couple) → o ≡ Some c → xs ++ c ∷ [] ≡ xs ++ cons_option o []
one_listed xs o c e = ap (λ (it : Option Couple). xs ++ cons_option it []) (sym e)

holds_same : (m n : ℕ) → Holds m ≡ Holds n → m ≡ n
holds_same m n e = cc

fails_same : (m n : ℕ) → Fails m ≡ Fails n → m ≡ n
fails_same m n e = cc

-- a formula is among the terms
pub formula_within : (nodes : List Node) (n : ℕ) → sort_at nodes n ≡ Some prop → n < length nodes
formula_within [] n h = absurd cc
formula_within (x ∷ nodes) zero h = omega arith
formula_within (x ∷ nodes) (suc n) h = let inner = formula_within nodes n h in omega (arith, inner)

pub learned_holds : (claim : Claim) (n : ℕ) (known : Known) (marks : List Bool) → claim ≡ Holds n → IsFormed known.terms.nodes claim
    → HasMarks known → marks ≡ slice_set known.holds n true
    → IsLearned claim known (record { terms = known.terms; holds = marks; fails = known.fails; same = known.same; apart = known.apart })
learned_holds claim n known marks e formed has are = record {
  marks = record {
    holds_count = ap (λ (xs : List Bool). length xs) are ∙ length-set known.holds n true ∙ has.holds_count;
    fails_count = has.fails_count;
  };
  holds = λ m. (
    λ h. elim ((set_marks known.holds n m within).0 (subst (λ (xs : List Bool). Marks xs m) are h)) [
      | inl old ↦ inl old
      | inr same ↦ inr (e ∙ ap Holds same)
    ],
    λ h. subst (λ (xs : List Bool). Marks xs m) (sym are) ((set_marks known.holds n m within).1 (elim h [
      | inl old ↦ inl old
      | inr is ↦ inr (holds_same n m (sym e ∙ is))
    ])),
  );
  fails = λ m. no_more (KnownToFail known m) (claim ≡ Fails m) (λ is. absurd (differ m (sym e ∙ is)));
  same = none_listed known.same (equal_nodes claim) (ap equal_nodes e);
  apart = none_listed known.apart (different_nodes claim) (ap different_nodes e);
}
  where
    differ : (m : ℕ) → Holds n ≡ Fails m → ⊥
    differ m f = absurd cc

    within : n < length known.holds
    within =
        let low = formula_within known.terms.nodes n (subst (λ (c : Claim). IsFormed known.terms.nodes c) e formed) in
        let count = has.holds_count in
        omega (arith, low, count)

pub learned_fails : (claim : Claim) (n : ℕ) (known : Known) (marks : List Bool) → claim ≡ Fails n → IsFormed known.terms.nodes claim
    → HasMarks known → marks ≡ slice_set known.fails n true
    → IsLearned claim known (record { terms = known.terms; holds = known.holds; fails = marks; same = known.same; apart = known.apart })
learned_fails claim n known marks e formed has are = record {
  marks = record {
    holds_count = has.holds_count;
    fails_count = ap (λ (xs : List Bool). length xs) are ∙ length-set known.fails n true ∙ has.fails_count;
  };
  holds = λ m. no_more (KnownToHold known m) (claim ≡ Holds m) (λ is. absurd (differ m (sym e ∙ is)));
  fails = λ m. (
    λ h. elim ((set_marks known.fails n m within).0 (subst (λ (xs : List Bool). Marks xs m) are h)) [
      | inl old ↦ inl old
      | inr same ↦ inr (e ∙ ap Fails same)
    ],
    λ h. subst (λ (xs : List Bool). Marks xs m) (sym are) ((set_marks known.fails n m within).1 (elim h [
      | inl old ↦ inl old
      | inr is ↦ inr (fails_same n m (sym e ∙ is))
    ])),
  );
  same = none_listed known.same (equal_nodes claim) (ap equal_nodes e);
  apart = none_listed known.apart (different_nodes claim) (ap different_nodes e);
}
  where
    differ : (m : ℕ) → Fails n ≡ Holds m → ⊥
    differ m f = absurd cc

    within : n < length known.fails
    within =
        let low = formula_within known.terms.nodes n (subst (λ (c : Claim). IsFormed known.terms.nodes c) e formed) in
        let count = has.fails_count in
        omega (arith, low, count)

pub learned_same : (claim : Claim) (l r : ℕ) (known : Known) (pairs : List Couple) → claim ≡ Same l r → HasMarks known
    → pairs ≡ known.same ++ couple l r ∷ []
    → IsLearned claim known (record { terms = known.terms; holds = known.holds; fails = known.fails; same = pairs; apart = known.apart })
learned_same claim l r known pairs e has are = record {
  marks = record { holds_count = has.holds_count; fails_count = has.fails_count };
  holds = λ m. no_more (KnownToHold known m) (claim ≡ Holds m) (λ is. absurd (no_holds m (sym e ∙ is)));
  fails = λ m. no_more (KnownToFail known m) (claim ≡ Fails m) (λ is. absurd (no_fails m (sym e ∙ is)));
  same = are ∙ one_listed known.same (equal_nodes claim) (couple l r) (ap equal_nodes e);
  apart = none_listed known.apart (different_nodes claim) (ap different_nodes e);
}
  where
    no_holds : (m : ℕ) → Same l r ≡ Holds m → ⊥
    no_holds m f = absurd cc

    no_fails : (m : ℕ) → Same l r ≡ Fails m → ⊥
    no_fails m f = absurd cc

pub learned_differ : (claim : Claim) (l r : ℕ) (known : Known) (pairs : List Couple) → claim ≡ Differ l r → HasMarks known
    → pairs ≡ known.apart ++ couple l r ∷ []
    → IsLearned claim known (record { terms = known.terms; holds = known.holds; fails = known.fails; same = known.same; apart = pairs })
learned_differ claim l r known pairs e has are = record {
  marks = record { holds_count = has.holds_count; fails_count = has.fails_count };
  holds = λ m. no_more (KnownToHold known m) (claim ≡ Holds m) (λ is. absurd (no_holds m (sym e ∙ is)));
  fails = λ m. no_more (KnownToFail known m) (claim ≡ Fails m) (λ is. absurd (no_fails m (sym e ∙ is)));
  same = none_listed known.same (equal_nodes claim) (ap equal_nodes e);
  apart = are ∙ one_listed known.apart (different_nodes claim) (couple l r) (ap different_nodes e);
}
  where
    no_holds : (m : ℕ) → Differ l r ≡ Holds m → ⊥
    no_holds m f = absurd cc

    no_fails : (m : ℕ) → Differ l r ≡ Fails m → ⊥
    no_fails m f = absurd cc

-- a claim of a form or a polynomial, or a contradiction
abbrev pub IsOfNumbers : Claim → Type 0
IsOfNumbers (claims.AtMost form) = ⊤
IsOfNumbers (claims.Zero poly) = ⊤
IsOfNumbers claims.Absurd = ⊤
IsOfNumbers _ = ⊥

pub learned_nothing : (claim : Claim) (known : Known) → IsOfNumbers claim → HasMarks known → IsLearned claim known known
learned_nothing (claims.Holds n) known of has = absurd of
learned_nothing (claims.Fails n) known of has = absurd of
learned_nothing (claims.Same l r) known of has = absurd of
learned_nothing (claims.Differ l r) known of has = absurd of
learned_nothing (claims.AtMost form) known of has = record {
  marks = has;
  holds = λ m. no_more (KnownToHold known m) (claims.AtMost form ≡ Holds m) (λ f. absurd cc);
  fails = λ m. no_more (KnownToFail known m) (claims.AtMost form ≡ Fails m) (λ f. absurd cc);
  same = none_listed known.same None refl;
  apart = none_listed known.apart None refl;
}
learned_nothing (claims.Zero poly) known of has = record {
  marks = has;
  holds = λ m. no_more (KnownToHold known m) (claims.Zero poly ≡ Holds m) (λ f. absurd cc);
  fails = λ m. no_more (KnownToFail known m) (claims.Zero poly ≡ Fails m) (λ f. absurd cc);
  same = none_listed known.same None refl;
  apart = none_listed known.apart None refl;
}
learned_nothing claims.Absurd known of has = record {
  marks = has;
  holds = λ m. no_more (KnownToHold known m) (claims.Absurd ≡ Holds m) (λ f. absurd cc);
  fails = λ m. no_more (KnownToFail known m) (claims.Absurd ≡ Fails m) (λ f. absurd cc);
  same = none_listed known.same None refl;
  apart = none_listed known.apart None refl;
}

-- ---- nothing is known

-- where no mark is set and no pair is kept, that is what no posts say
pub nothing : (known : Known) (count other : ℕ) → known.holds ≡ replicate count false → known.fails ≡ replicate other false
    → count ≡ length known.terms.nodes → other ≡ length known.terms.nodes → known.same ≡ [] → known.apart ≡ [] → KnowsAll [] known
nothing known count other holds fails first second same apart = record {
  marks = record {
    holds_count = ap (λ (xs : List Bool). length xs) holds ∙ length-replicate count false ∙ first;
    fails_count = ap (λ (xs : List Bool). length xs) fails ∙ length-replicate other false ∙ second;
  };
  holds = λ n. (
    λ h. absurd (none_marked count n (subst (λ (xs : List Bool). Marks xs n) holds h)),
    λ h. absurd (none_stand (Holds n) h),
  );
  fails = λ n. (
    λ h. absurd (none_marked other n (subst (λ (xs : List Bool). Marks xs n) fails h)),
    λ h. absurd (none_stand (Fails n) h),
  );
  same = same;
  apart = apart;
}
  where
    none_at : (n : ℕ) (post : Post) → slice_get [] n ≡ Some post → ⊥
    none_at n post e = absurd cc

    none_stand : (claim : Claim) → Stands [] claim → ⊥
    none_stand claim h = none_at h.0 h.1.0 h.1.1
