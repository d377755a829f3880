-- Partial matches without empty slots are matches.
use Rattle.std.proofs.Common.{◌≡◌, ℕ, zero, suc, ◌<◌, ◌≤◌, arith, List, [], ◌∷◌, All, Option, Some, map, length, slice_get, slice_index_or, Contains, refl, sym, ap, ◌∙◌, subst}
use Rattle.std.specs.Prelude.{Any, IsSome}
use Rattle.std.proofs.lemmas.List.Elements.{All-nil, All-cons, All-contains_itself}
use Rattle.grind_term_graph.specs.Terms.{sort_at}
use Rattle.grind_classes.specs.Classes.{IsActive, IsPartition}
use Rattle.grind_classes.proofs.ClassLemmas.{root_in}
use Rattle.grind_schemes.specs.Instances.{IsSubstitution}
use Rattle.grind_schemes.specs.Theorems.{TheoremData}
use Rattle.grind_ematch.specs.declared.partial.Partial.{Partial}
use Rattle.grind_ematch.specs.declared.found.Match.{Match}
use Rattle.grind_ematch.specs.Matches.{Scene, IsMet, IsMatchOf, IsListedMatch, AreEqualUpToClass, ListsMatches, ListsEachMatch}
use Rattle.grind_ematch.specs.Partials.{QueryData, AreSlots, Agrees, AreBound, AreMatchesOf, MeetsTheorem, ListsTheorem}
use Rattle.grind_ematch.proofs.SceneLemmas.{some_is}

module _ (scene : Scene) where
  -- the roots of full slots
  substitutes : (vars roots : List ℕ) → AreSlots scene vars (map (λ (n : ℕ). Some n) roots)
      → IsSubstitution scene.nodes vars roots
  substitutes [] [] h = refl
  substitutes [] (root ∷ roots) h = absurd h
  substitutes (sort ∷ vars) [] h = absurd h
  substitutes (sort ∷ vars) (root ∷ roots) h =
      let rest = substitutes vars roots h.1 in
      let here = h.0.1 in
      cons_same (sort_at scene.nodes root) (Some sort) (map (sort_at scene.nodes) roots) (map (λ (s : ℕ). Some s) vars) here rest
    where
      cons_same : (a b : Option ℕ) (as' bs : List (Option ℕ)) → a ≡ b → as' ≡ bs → a ∷ as' ≡ b ∷ bs
      cons_same a b as' bs e f = cc

  active_roots : (vars roots : List ℕ) → AreSlots scene vars (map (λ (n : ℕ). Some n) roots)
      → All (IsActive scene.classes) roots
  active_roots [] [] h = All-nil (IsActive scene.classes)
  active_roots [] (root ∷ roots) h = absurd h
  active_roots (sort ∷ vars) [] h = absurd h
  active_roots (sort ∷ vars) (root ∷ roots) h =
      All-cons (IsActive scene.classes) root roots (root, h.0.0) (active_roots vars roots h.1)

  agrees_itself : (vars roots : List ℕ) → AreSlots scene vars (map (λ (n : ℕ). Some n) roots)
      → Agrees scene (map (λ (n : ℕ). Some n) roots) roots
  agrees_itself [] [] h = tt
  agrees_itself [] (root ∷ roots) h = absurd h
  agrees_itself (sort ∷ vars) [] h = absurd h
  agrees_itself (sort ∷ vars) (root ∷ roots) h = (h.0.0, agrees_itself vars roots h.1)

  equal_roots : IsPartition scene.classes → (roots subst' : List ℕ) → Agrees scene (map (λ (n : ℕ). Some n) roots) subst'
      → AreEqualUpToClass scene roots subst'
  equal_roots partition [] [] h = tt
  equal_roots partition [] (n ∷ ns) h = absurd h
  equal_roots partition (root ∷ roots) [] h = absurd h
  equal_roots partition (root ∷ roots) (n ∷ ns) h =
      ((root, root_in scene.classes root n partition h.0, h.0), equal_roots partition roots ns h.1)

all_by : {X : Type 0} (P : X → Type 0) (xs : List X) → ((x : X) → Contains xs x → P x) → All P xs
all_by P xs each k d less = each (slice_index_or xs k d) (All-contains_itself xs k d less)

any_by : {X : Type 0} (P : X → Type 0) (xs : List X) (x : X) → Contains xs x → P x → Any P xs
any_by P xs x there p = (there.0, x, there.1, there.2, p)

-- the matches of a theorem, and only they
module _ (query : QueryData) (theorem : TheoremData) (theorems : List TheoremData) (number : ℕ) (list : List Partial)
    (found : List Match) (vars : query.vars ≡ theorem.vars) (got : slice_get theorems number ≡ Some theorem)
    (lists : ListsTheorem query theorem list) (matches : AreMatchesOf number list found) where
  pub listed : ListsMatches query.scene theorems number query.most found
  unfolding MeetsTheorem
  listed other e =
      let same : theorem ≡ other = some_is theorem other (sym got ∙ e) in
      subst (λ (t : TheoremData). All (IsListedMatch query.scene t number query.most) found) same
      (all_by (IsListedMatch query.scene theorem number query.most) found (λ one there.
      let m = matches.from one there in
      let formed = lists.formed m.0 m.1 in
      let slots = subst (λ (s : List (Option ℕ)). AreSlots query.scene query.vars s) (sym m.3) formed.slots in
      let agrees = subst (λ (s : List (Option ℕ)). Agrees query.scene s one.subst) m.3
      (agrees_itself query.scene query.vars one.subst slots) in (
        m.2,
        (
          subst (λ (sorts : List ℕ). IsSubstitution query.scene.nodes sorts one.subst) vars
              (substitutes query.scene query.vars one.subst slots),
          subst (λ (g : ℕ). IsMet query.scene theorem one.subst g) (sym m.4) (lists.sound m.0 m.1 one.subst agrees),
        ),
        subst (λ (g : ℕ). g ≤ query.most) (sym m.4) formed.generation,
        active_roots query.scene query.vars one.subst slots,
      )))

  pub each_listed : IsPartition query.scene.classes → ListsEachMatch query.scene theorems number query.most found
  unfolding MeetsTheorem
  each_listed partition other e subst' g match within =
      let same : other ≡ theorem = some_is other theorem (sym e ∙ got) in
      let mine : IsMatchOf query.scene theorem subst' g = subst (λ (t : TheoremData). IsMatchOf query.scene t subst' g) same match in
      let fits = subst (λ (sorts : List ℕ). IsSubstitution query.scene.nodes sorts subst') (sym vars) mine.0 in
      let p = lists.complete subst' g fits mine.1 within in
      let m = matches.all p.0 p.1 in
      any_by (λ (one : Match). AreEqualUpToClass query.scene one.subst subst' × (one.generation ≤ g)) found m.0 m.1 (
        equal_roots query.scene partition m.0.subst subst'
            (subst (λ (s : List (Option ℕ)). Agrees query.scene s subst') (sym m.2) p.2),
        subst (λ (k : ℕ). k ≤ g) (sym m.3) p.3,
      )

-- so many slots as variables
slots_long : (scene : Scene) (vars : List ℕ) (slots : List (Option ℕ)) → AreSlots scene vars slots → length slots ≡ length vars
slots_long scene [] [] h = refl
slots_long scene [] (slot ∷ slots) h = absurd h
slots_long scene (sort ∷ vars) [] h = absurd h
slots_long scene (sort ∷ vars) (slot ∷ slots) h = ap suc (slots_long scene vars slots h.1)

-- none of their slots is empty
pub all_bound : (query : QueryData) (theorem : TheoremData) (list : List Partial) → ListsTheorem query theorem list
    → (partial : Partial) → Contains list partial → AreBound partial.slots
all_bound query theorem list h partial there variable less =
    h.bound partial there variable
    (below variable (length partial.slots) (length query.vars) less
    (slots_long query.scene query.vars partial.slots (h.formed partial there).slots))
  where
    below : (a b c : ℕ) → a < b → b ≡ c → a < c
    below a b c l e = omega arith

-- a slot at a position, of which none is empty
pub slot_is_some : (slots : List (Option ℕ)) (k : ℕ) (slot : Option ℕ) → AreBound slots → k < length slots
    → slot ≡ slice_index_or slots k slot → IsSome slot
slot_is_some slots k slot bound less is =
    let at = bound k less in
    let same : slot ≡ Some at.0 = is ∙ index_is slots k slot (Some at.0) at.1 in
    subst (λ (s : Option ℕ). IsSome s) (sym same) refl
  where
    index_is : (xs : List (Option ℕ)) (k : ℕ) (d x : Option ℕ) → slice_get xs k ≡ Some x → slice_index_or xs k d ≡ x
    index_is [] k d x e = absurd cc
    index_is (y ∷ ys) zero d x e = cc
    index_is (y ∷ ys) (suc k) d x e = index_is ys k d x e
