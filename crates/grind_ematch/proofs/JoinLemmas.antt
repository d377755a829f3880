-- Loops that join, gather and turn partial matches into matches.
use Rattle.std.proofs.Common.{◌≡◌, ◌⊎◌, inl, inr, ℕ, ◌≤◌, max, arith, List, [], ◌∷◌, ◌++◌, Option, Some, Contains, sym, ap, ◌∙◌, subst}
use Rattle.std.specs.Prelude.{map}
use Rattle.std.proofs.lemmas.List.Elements.{Contains-push, Contains-push_cases, Contains-append_left, Contains-append_right, Contains-append_cases}
use Rattle.grind_ematch.specs.declared.partial.Partial.{Partial}
use Rattle.grind_ematch.specs.declared.found.Match.{Match}
use Rattle.grind_ematch.specs.Partials.{AreUnion, HasNoUnion, Joins, JoinsOne, HoldsBoth, AreMatchesOf}
use Rattle.grind_ematch.proofs.Along.{none_in, only_in, first_in}

abbrev pub partial_of : List (Option ℕ) → ℕ → Partial
partial_of slots generation = record { slots = slots; generation = generation }

module _ (one : Partial) where
  pub JoinsOne-first : (old : List Partial) → JoinsOne one [] old old
  JoinsOne-first old = record {
    kept = λ partial there. there;
    from = λ partial there. inl there;
    all = λ other slots there. absurd (none_in other there);
  }

  pub JoinsOne-then : (xs ys old mid new : List Partial) → JoinsOne one xs old mid → JoinsOne one ys mid new
      → JoinsOne one (xs ++ ys) old new
  JoinsOne-then xs ys old mid new h k = record {
    kept = λ partial there. k.kept partial (h.kept partial there);
    from = λ partial there. elim (k.from partial there) [
      | inl before ↦ elim (h.from partial before) [
        | inl first ↦ inl first
        | inr m ↦ inr (m.0, Contains-append_left xs ys m.0 m.1, m.2, m.3)
      ]
      | inr m ↦ inr (m.0, Contains-append_right xs ys m.0 m.1, m.2, m.3)
    ];
    all = λ other slots there u. elim (Contains-append_cases xs ys other there) [
      | inl left ↦ let m = h.all other slots left u in (m.0, k.kept m.0 m.1, m.2, m.3)
      | inr right ↦ k.all other slots right u
    ];
  }

  pub JoinsOne-none : (other : Partial) (old : List Partial) → HasNoUnion one.slots other.slots
      → JoinsOne one (other ∷ []) old old
  JoinsOne-none other old none = record {
    kept = λ partial there. there;
    from = λ partial there. inl there;
    all = λ third slots there u.
        let same : other ≡ third = only_in other third there in
        absurd (none slots (subst (λ (p : Partial). AreUnion one.slots p.slots slots) (sym same) u));
  }

  pub JoinsOne-some : (other : Partial) (old new : List Partial) (slots : List (Option ℕ)) (generation : ℕ)
      → AreUnion one.slots other.slots slots → generation ≡ max one.generation other.generation
      → ((xs ys zs ws : List (Option ℕ)) → AreUnion xs ys zs → AreUnion xs ys ws → zs ≡ ws)
      → new ≡ old ++ partial_of slots generation ∷ [] → JoinsOne one (other ∷ []) old new
  JoinsOne-some other old new slots generation u g single e =
      subst (λ (list : List Partial). JoinsOne one (other ∷ []) old list) (sym e) (record {
        kept = λ partial there. Contains-append_left old (partial_of slots generation ∷ []) partial there;
        from = λ partial there. elim (Contains-push_cases old (partial_of slots generation) partial there) [
          | inl before ↦ inl before
          | inr same ↦ inr (
            other,
            first_in other,
            subst (λ (p : Partial). AreUnion one.slots other.slots p.slots) same u,
            subst (λ (p : Partial). p.generation ≡ max one.generation other.generation) same g,
          )
        ];
        all = λ third more there v.
            let same : other ≡ third = only_in other third there in (
              partial_of slots generation,
              Contains-push old (partial_of slots generation),
              single one.slots other.slots slots more u (subst (λ (p : Partial). AreUnion one.slots p.slots more) (sym same) v),
              subst (λ (p : Partial). generation ≡ max one.generation p.generation) same g,
            );
      })

pub Joins-first : (right : List Partial) → Joins [] right []
Joins-first right = record {
  from = λ partial there. absurd (none_in partial there);
  all = λ one other slots l. absurd (none_in one l);
}

least_le : (a b : ℕ) → a ≡ b → a ≤ b
least_le a b e = omega arith

pub Joins-next : (left right old new : List Partial) (one : Partial) → Joins left right old → JoinsOne one right old new
    → Joins (left ++ one ∷ []) right new
Joins-next left right old new one h k = record {
  from = λ partial there. elim (k.from partial there) [
    | inl before ↦ let m = h.from partial before in
        (m.0, m.1, Contains-append_left left (one ∷ []) m.0 m.2, m.3, m.4, m.5)
    | inr m ↦ (one, m.0, Contains-push left one, m.1, m.2, m.3)
  ];
  all = λ first other slots l r u. elim (Contains-push_cases left one first l) [
    | inl before ↦ let m = h.all first other slots before r u in (m.0, k.kept m.0 m.1, m.2, m.3)
    | inr same ↦
        let v : AreUnion one.slots other.slots slots = subst (λ (p : Partial). AreUnion p.slots other.slots slots) (sym same) u in
        let m = k.all other slots r v in (
          m.0,
          m.1,
          m.2,
          subst (λ (p : Partial). m.0.generation ≤ max p.generation other.generation) same
              (least_le m.0.generation (max one.generation other.generation) m.3),
        )
  ];
}

-- on the way to gather lists
pub record IsGathering (old more found rest : List Partial) : Type 0 where
  pub kept : (partial : Partial) → Contains old partial → Contains found partial
  pub added : (partial : Partial) → Contains more partial → Contains found partial ⊎ Contains rest partial
  pub from : (partial : Partial) → Contains found partial → Contains old partial ⊎ Contains more partial
  pub left : (partial : Partial) → Contains rest partial → Contains more partial

pub IsGathering-first : (old more : List Partial) → IsGathering old more old more
IsGathering-first old more = record {
  kept = λ partial there. there;
  added = λ partial there. inr there;
  from = λ partial there. inl there;
  left = λ partial there. there;
}

pub IsGathering-next : (old more found rest next fewer : List Partial) (one : Partial) → rest ≡ fewer ++ one ∷ []
    → next ≡ found ++ one ∷ [] → IsGathering old more found rest → IsGathering old more next fewer
IsGathering-next old more found rest next fewer one e f h =
    subst (λ (list : List Partial). IsGathering old more list fewer) (sym f) (record {
      kept = λ partial there. Contains-append_left found (one ∷ []) partial (h.kept partial there);
      added = λ partial there. elim (h.added partial there) [
        | inl before ↦ inl (Contains-append_left found (one ∷ []) partial before)
        | inr later ↦ elim (Contains-push_cases fewer one partial (subst (λ (list : List Partial). Contains list partial) e later)) [
          | inl still ↦ inr still
          | inr same ↦ inl (subst (Contains (found ++ one ∷ [])) same (Contains-push found one))
        ]
      ];
      from = λ partial there. elim (Contains-push_cases found one partial there) [
        | inl before ↦ h.from partial before
        | inr same ↦ inr (h.left partial (subst (Contains rest) same (last_in)))
      ];
      left = λ partial there. h.left partial
          (subst (λ (list : List Partial). Contains list partial) (sym e) (Contains-append_left fewer (one ∷ []) partial there));
    })
  where
    last_in : Contains rest one
    last_in = subst (λ (list : List Partial). Contains list one) (sym e) (Contains-push fewer one)

pub IsGathering-last : (old more found rest : List Partial) → rest ≡ [] → IsGathering old more found rest
    → HoldsBoth old more found
IsGathering-last old more found rest e h = record {
  kept = h.kept;
  added = λ partial there. elim (h.added partial there) [
    | inl now ↦ now
    | inr later ↦ absurd (none_in partial (subst (λ (list : List Partial). Contains list partial) e later))
  ];
  from = h.from;
}

-- matches of the first partial matches
pub AreMatchesOf-first : (number : ℕ) → AreMatchesOf number [] []
AreMatchesOf-first number = record {
  from = λ one there. absurd (none_in one there);
  all = λ partial there. absurd (none_in partial there);
}

pub AreMatchesOf-next : (number : ℕ) (list : List Partial) (found next : List Match) (partial : Partial) (subst' : List ℕ)
    → map Some subst' ≡ partial.slots
    → next ≡ found ++ record { theorem = number; subst = subst'; generation = partial.generation } ∷ []
    → AreMatchesOf number list found → AreMatchesOf number (list ++ partial ∷ []) next
AreMatchesOf-next number list found next partial subst' is e h =
    let new : Match = record { theorem = number; subst = subst'; generation = partial.generation } in
    subst (λ (matches : List Match). AreMatchesOf number (list ++ partial ∷ []) matches) (sym e) (record {
      from = λ one there. elim (Contains-push_cases found new one there) [
        | inl before ↦ let m = h.from one before in (m.0, Contains-append_left list (partial ∷ []) m.0 m.1, m.2, m.3, m.4)
        | inr same ↦ (
          partial,
          Contains-push list partial,
          ap (λ (m : Match). m.theorem) (sym same),
          ap (λ (m : Match). map (λ (n : ℕ). Some n) m.subst) (sym same) ∙ is,
          ap (λ (m : Match). m.generation) (sym same),
        )
      ];
      all = λ other there. elim (Contains-push_cases list partial other there) [
        | inl before ↦ let m = h.all other before in (m.0, Contains-append_left found (new ∷ []) m.0 m.1, m.2, m.3)
        | inr same ↦ (new, Contains-push found new, is ∙ ap (λ (p : Partial). p.slots) same, ap (λ (p : Partial). p.generation) same)
      ];
    })
