-- Tables of the least generation by slots.
use Rattle.std.proofs.Common.{◌≡◌, ◌⊎◌, inl, inr, ℕ, zero, suc, ◌<◌, ◌≤◌, min, arith, Bool, true, false, cond, List, [], ◌∷◌, ◌++◌, Option, Some, length, nat_eq, slice_index_or, Contains, refl, sym, ap, ◌∙◌, subst}
use Rattle.std.specs.Option.{option_eq, unwrap_or}
use Rattle.std.specs.Map.{lookup}
use Rattle.std.specs.Cmp.Lexicographic.{pointwise}
use Rattle.indexmap.specs.IndexMap.{insert_entry}
use Rattle.std.proofs.lemmas.List.Elements.{Contains-push, Contains-push_cases, Contains-append_left}
use Rattle.grind_ematch.specs.declared.partial.Partial.{Partial}
use Rattle.grind_ematch.specs.Partials.{Thins}
use Rattle.grind_ematch.specs.SlotsEqual.{slots_same}
use Rattle.grind_ematch.specs.Thinning.{Entry, entry, partial_at, KeepsLeast, HasLeast, AreListed}
use Rattle.grind_ematch.proofs.Along.{none_in, only_in, first_in, cons_in, head_in}

-- the first or one of the rest
cons_cases : {X : Type 0} (y : X) (ys : List X) (x : X) → Contains (y ∷ ys) x → (y ≡ x) ⊎ Contains ys x
cons_cases y ys x h = cases_at y ys x h.0 h.1 h.2
  where
    cases_at : {X : Type 0} (y : X) (ys : List X) (x : X) (k : ℕ) → k < length (y ∷ ys) → slice_index_or (y ∷ ys) k x ≡ x
        → (y ≡ x) ⊎ Contains ys x
    cases_at y ys x zero less e = inl e
    cases_at y ys x (suc k) less e = inr (k, omega arith, e)

min_is : (a b : ℕ) → (min a b ≡ a) ⊎ (min a b ≡ b)
min_is zero b = inl (omega arith)
min_is (suc a) zero = inr (omega arith)
min_is (suc a) (suc b) = elim (min_is a b) [ inl e ↦ inl (omega (arith, e)) | inr e ↦ inr (omega (arith, e)) ]

min_first : (a b : ℕ) → min a b ≤ a
min_first a b = omega arith

min_second : (a b : ℕ) → min a b ≤ b
min_second a b = omega arith

same_le : (a : ℕ) → a ≤ a
same_le a = omega arith

module _ (slots : List (Option ℕ)) (generation : ℕ) where
  abbrev test : List (Option ℕ) → Bool
  test = pointwise (option_eq nat_eq) slots

  -- at the first entry, which has these slots
  at_same : (e : Entry) (es : List Entry) → test e.0 ≡ true
      → KeepsLeast (e ∷ es) slots generation (entry e.0 (min e.1 generation) ∷ es)
  at_same e es is =
      let same : slots ≡ e.0 = slots_same slots e.0 is in
      let here : Contains (entry e.0 (min e.1 generation) ∷ es) (entry e.0 (min e.1 generation)) =
      head_in (entry e.0 (min e.1 generation)) es in
      record {
        from = λ x there. elim (cons_cases (entry e.0 (min e.1 generation)) es x there) [
          | inl first ↦ elim (min_is e.1 generation) [
            | inl old ↦ let whole : e ≡ x = ap (λ (n : ℕ). entry e.0 n) (sym old) ∙ first in
                inl (subst (Contains (e ∷ es)) whole (head_in e es))
            | inr new ↦ inr (ap (λ (s : List (Option ℕ)). entry s generation) same
                ∙ ap (λ (n : ℕ). entry e.0 n) (sym new) ∙ first)
          ]
          | inr later ↦ inl (cons_in e es x later)
        ];
        kept = λ x there. elim (cons_cases e es x there) [
          | inl first ↦ subst (λ (y : Entry). (n : ℕ) × Contains (entry e.0 (min e.1 generation) ∷ es) (entry y.0 n) × (n ≤ y.1)) first
              (min e.1 generation, here, min_first e.1 generation)
          | inr later ↦ (x.1, cons_in (entry e.0 (min e.1 generation)) es (entry x.0 x.1) later, same_le x.1)
        ];
        added = (
          min e.1 generation,
          subst (λ (s : List (Option ℕ)). Contains (entry e.0 (min e.1 generation) ∷ es) (entry s (min e.1 generation))) (sym same) here,
          min_second e.1 generation,
        );
      }

  -- at the first entry, which has others
  at_other : (e : Entry) (es rest : List Entry) → KeepsLeast es slots generation rest
      → KeepsLeast (e ∷ es) slots generation (e ∷ rest)
  at_other e es rest h = record {
    from = λ x there. elim (cons_cases e rest x there) [
      | inl first ↦ inl (subst (Contains (e ∷ es)) first (head_in e es))
      | inr later ↦ elim (h.from x later) [ inl old ↦ inl (cons_in e es x old) | inr new ↦ inr new ]
    ];
    kept = λ x there. elim (cons_cases e es x there) [
      | inl first ↦ subst (λ (y : Entry). (n : ℕ) × Contains (e ∷ rest) (entry y.0 n) × (n ≤ y.1)) first
          (e.1, head_in e rest, same_le e.1)
      | inr later ↦ let found = h.kept x later in (found.0, cons_in e rest (entry x.0 found.0) found.1, found.2)
    ];
    added = (h.added.0, cons_in e rest (entry slots h.added.0) h.added.1, h.added.2);
  }

  -- the entries after the pair is put among them
  put_first : (b : Bool) (e : Entry) (es : List Entry) → test e.0 ≡ b
      → KeepsLeast es slots generation
      (insert_entry (pointwise (option_eq nat_eq)) es slots (min (unwrap_or (lookup test es) generation) generation))
      → KeepsLeast (e ∷ es) slots generation
      (cond b (entry e.0 (min (unwrap_or (cond b (Some e.1) (lookup test es)) generation) generation) ∷ es)
      (e ∷ insert_entry (pointwise (option_eq nat_eq)) es slots
      (min (unwrap_or (cond b (Some e.1) (lookup test es)) generation) generation)))
  put_first true e es is h = at_same e es is
  put_first false e es is h =
      at_other e es (insert_entry (pointwise (option_eq nat_eq)) es slots (min (unwrap_or (lookup test es) generation) generation)) h

  pub keeps_least : (es : List Entry) → KeepsLeast es slots generation
      (insert_entry (pointwise (option_eq nat_eq)) es slots (min (unwrap_or (lookup test es) generation) generation))
  keeps_least [] = record {
    from = λ x there.
        inr (ap (λ (n : ℕ). entry slots n) (own generation) ∙ only_in (entry slots (min generation generation)) x there);
    kept = λ x there. absurd (none_in x there);
    added = (min generation generation, first_in (entry slots (min generation generation)), min_second generation generation);
  }
    where
      own : (n : ℕ) → n ≡ min n n
      own n = omega arith
  keeps_least (e ∷ es) = put_first (test e.0) e es refl (keeps_least es)

  -- by what the calls answer
  pub keeps_by : (before after : List Entry) (found : Option ℕ) (least : ℕ) → found ≡ lookup test before
      → least ≡ min (unwrap_or found generation) generation
      → after ≡ insert_entry (pointwise (option_eq nat_eq)) before slots least → KeepsLeast before slots generation after
  keeps_by before after found least e f g =
      let is : least ≡ min (unwrap_or (lookup test before) generation) generation =
      f ∙ ap (λ (o : Option ℕ). min (unwrap_or o generation) generation) e in
      subst (λ (list : List Entry). KeepsLeast before slots generation list)
      (sym (g ∙ ap (λ (n : ℕ). insert_entry (pointwise (option_eq nat_eq)) before slots n) is)) (keeps_least before)

-- on the way to a table
pub record IsThinning (list : List Partial) (entries : List Entry) (rest : List Partial) : Type 0 where
  pub from : (e : Entry) → Contains entries e → Contains list (partial_at e)
  pub all : (partial : Partial) → Contains list partial → Contains rest partial
      ⊎ ((least : ℕ) × Contains entries (entry partial.slots least) × (least ≤ partial.generation))
  pub left : (partial : Partial) → Contains rest partial → Contains list partial

pub IsThinning-first : (list : List Partial) (entries : List Entry) → entries ≡ [] → IsThinning list entries list
IsThinning-first list entries e = record {
  from = λ x there. absurd (none_in x (subst (λ (es : List Entry). Contains es x) e there));
  all = λ partial there. inl there;
  left = λ partial there. there;
}

trans_le : (a b c : ℕ) → a ≤ b → b ≤ c → a ≤ c
trans_le a b c l m = omega arith

pub IsThinning-next : (list rest fewer : List Partial) (entries after : List Entry) (one : Partial) → rest ≡ fewer ++ one ∷ []
    → KeepsLeast entries one.slots one.generation after → IsThinning list entries rest → IsThinning list after fewer
IsThinning-next list rest fewer entries after one e keeps h =
    let last : Contains rest one = subst (λ (l : List Partial). Contains l one) (sym e) (Contains-push fewer one) in
    record {
      from = λ x there. elim (keeps.from x there) [
        | inl old ↦ h.from x old
        | inr new ↦ subst (λ (y : Entry). Contains list (partial_at y)) new (h.left one last)
      ];
      all = λ partial there. elim (h.all partial there) [
        | inl later ↦ elim (Contains-push_cases fewer one partial (subst (λ (l : List Partial). Contains l partial) e later)) [
          | inl still ↦ inl still
          | inr same ↦ inr (subst (λ (p : Partial). (least : ℕ) × Contains after (entry p.slots least) × (least ≤ p.generation)) same keeps.added)
        ]
        | inr done ↦ let found = keeps.kept (entry partial.slots done.0) done.1 in
            inr (found.0, found.1, trans_le found.0 done.0 partial.generation found.2 done.2)
      ];
      left = λ partial there. h.left partial
          (subst (λ (l : List Partial). Contains l partial) (sym e) (Contains-append_left fewer (one ∷ []) partial there));
    }

pub IsThinning-last : (list rest : List Partial) (entries : List Entry) → rest ≡ [] → IsThinning list entries rest
    → HasLeast list entries
IsThinning-last list rest entries e h = record {
  from = h.from;
  all = λ partial there. elim (h.all partial there) [
    | inl later ↦ absurd (none_in partial (subst (λ (l : List Partial). Contains l partial) e later))
    | inr done ↦ done
  ];
}

-- on the way from a table
pub record IsListing (entries : List Entry) (found : List Partial) (rest : List Entry) : Type 0 where
  pub from : (partial : Partial) → Contains found partial → Contains entries (entry partial.slots partial.generation)
  pub all : (e : Entry) → Contains entries e → Contains rest e ⊎ Contains found (partial_at e)
  pub left : (e : Entry) → Contains rest e → Contains entries e

pub IsListing-first : (entries : List Entry) (found : List Partial) → found ≡ [] → IsListing entries found entries
IsListing-first entries found e = record {
  from = λ partial there. absurd (none_in partial (subst (λ (l : List Partial). Contains l partial) e there));
  all = λ x there. inl there;
  left = λ x there. there;
}

pub IsListing-next : (entries rest fewer : List Entry) (found new : List Partial) (e : Entry) → rest ≡ fewer ++ e ∷ []
    → new ≡ found ++ partial_at e ∷ [] → IsListing entries found rest → IsListing entries new fewer
IsListing-next entries rest fewer found new e is f h =
    let last : Contains rest e = subst (λ (l : List Entry). Contains l e) (sym is) (Contains-push fewer e) in
    subst (λ (list : List Partial). IsListing entries list fewer) (sym f) (record {
      from = λ partial there. elim (Contains-push_cases found (partial_at e) partial there) [
        | inl before ↦ h.from partial before
        | inr same ↦ subst (λ (p : Partial). Contains entries (entry p.slots p.generation)) same (h.left e last)
      ];
      all = λ x there. elim (h.all x there) [
        | inl later ↦ elim (Contains-push_cases fewer e x (subst (λ (l : List Entry). Contains l x) is later)) [
          | inl still ↦ inl still
          | inr same ↦ inr (subst (λ (y : Entry). Contains (found ++ partial_at e ∷ []) (partial_at y)) same
              (Contains-push found (partial_at e)))
        ]
        | inr done ↦ inr (Contains-append_left found (partial_at e ∷ []) (partial_at x) done)
      ];
      left = λ x there. h.left x
          (subst (λ (l : List Entry). Contains l x) (sym is) (Contains-append_left fewer (e ∷ []) x there));
    })

pub IsListing-last : (entries rest : List Entry) (found : List Partial) → rest ≡ [] → IsListing entries found rest
    → AreListed entries found
IsListing-last entries rest found e h = record {
  from = h.from;
  all = λ x there. elim (h.all x there) [
    | inl later ↦ absurd (none_in x (subst (λ (l : List Entry). Contains l x) e later))
    | inr done ↦ done
  ];
}

-- the table and back
pub Thins-by : (list thin : List Partial) (entries : List Entry) → HasLeast list entries → AreListed entries thin → Thins list thin
Thins-by list thin entries h k = record {
  from = λ partial there. h.from (entry partial.slots partial.generation) (k.from partial there);
  all = λ partial there.
      let found = h.all partial there in
      (partial_at (entry partial.slots found.0), k.all (entry partial.slots found.0) found.1, refl, found.2);
}

pub Thins-itself : (list : List Partial) → Thins list list
Thins-itself list = record {
  from = λ partial there. there;
  all = λ partial there. (partial, there, refl, same_le partial.generation);
}

pub none_left : (entries : List Entry) → (0 < length entries → ⊥) → entries ≡ []
none_left [] never = refl
none_left (e ∷ es) never = absurd (never (omega arith))
