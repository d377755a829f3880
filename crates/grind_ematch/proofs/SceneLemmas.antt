-- What the calls on a query rest on.
use Rattle.std.proofs.Common.{take, ◌+◌, ◌≡◌, ◌↔◌, ◌⊎◌, inl, inr, ℕ, zero, suc, ◌<◌, ◌≤◌, arith, List, [], ◌∷◌, ◌++◌, All, Some, length, slice_get, slice_index_or, Contains, refl, sym, ap, ◌∙◌, subst}
use Rattle.std.proofs.lemmas.List.Elements.{Contains-push, Contains-push_cases, Contains-append_left}
use Rattle.grind_term_graph.specs.declared.head.Head.{Head}
use Rattle.grind_term_graph.specs.declared.node.Node.{Node}
use Rattle.grind_classes.specs.Classes.{members_of, IsIn, IsActive, IsPartition}
use Rattle.grind_schemes.specs.declared.scheme.Scheme.{Scheme, Var}
use Rattle.grind_ematch.specs.Matches.{Scene, Meets}
use Rattle.grind_ematch.specs.Partials.{AreTargets, MeetsOneOf, IsCandidate, AreCandidates, AddsCandidate}
use Rattle.grind_ematch.proofs.Along.{none_in, only_in, head_in, all_by}

-- what is got is within
pub got_below : {X : Type 0} (xs : List X) (k : ℕ) (x : X) → slice_get xs k ≡ Some x → k < length xs
got_below [] k x e = absurd cc
got_below (y ∷ ys) zero x e = omega arith
got_below (y ∷ ys) (suc k) x e = let less = got_below ys k x e in omega (arith, less)

pub some_is : {X : Type 0} (x y : X) → Some x ≡ Some y → x ≡ y
some_is x y e = cc

-- the arguments of an active node are active
pub args_active : (nodes : List Node) (classes ones : List (List ℕ)) (n : ℕ) (node other : Node) → classes ≡ ones
    → slice_get nodes n ≡ Some node → slice_get nodes n ≡ Some other → All (IsActive classes) node.args
    → All (IsActive ones) other.args
args_active nodes classes ones n node other e f g h =
    let same : node ≡ other = some_is node other (sym f ∙ g) in
    let there = subst (λ (it : Node). All (IsActive classes) it.args) same h in
    subst (λ (lists : List (List ℕ)). All (IsActive lists) other.args) e there

module _ (scene : Scene) (partition : IsPartition scene.classes) where
  -- all members of the class
  pub targets_all : (pattern : Scheme) (id root : ℕ) (nodes : List ℕ) → IsIn scene.classes root id
      → nodes ≡ members_of scene.classes root → AreTargets scene pattern id nodes
  unfolding MeetsOneOf
  targets_all pattern id root nodes own is = record {
    within = λ n there. (root, own, subst (λ (list : List ℕ). Contains list n) is there);
    enough = λ subst' member g together meets.
        let same : together.0 ≡ root = partition.in_one together.0 root id together.1 own in
        let here : IsIn scene.classes root member = subst (λ (r : ℕ). IsIn scene.classes r member) same together.2 in
        (member, subst (λ (list : List ℕ). Contains list member) (sym is) here, meets);
  }

  first_member : (root id : ℕ) (members : List ℕ) → Contains members id
      → (first : ℕ) × (take 1 members ≡ first ∷ []) × Contains members first
  first_member root id [] h = absurd (none_in id h)
  first_member root id (first ∷ rest) h = (first, refl, head_in first rest)

  -- for a variable one member
  pub targets_var : (number : ℕ) (pattern : Scheme) (id root : ℕ) (nodes members : List ℕ) → pattern ≡ Var number
      → IsIn scene.classes root id → members ≡ members_of scene.classes root → nodes ≡ take 1 members
      → AreTargets scene pattern id nodes
  unfolding MeetsOneOf
  targets_var number pattern id root nodes members e own is f =
      let there : Contains members id = subst (λ (list : List ℕ). Contains list id) (sym is) own in
      let first = first_member root id members there in
      let only : nodes ≡ first.0 ∷ [] = f ∙ first.1 in
      let inside : IsIn scene.classes root first.0 = subst (λ (list : List ℕ). Contains list first.0) is first.2 in
      record {
        within = λ n h.
            let same : first.0 ≡ n = only_in first.0 n (subst (λ (list : List ℕ). Contains list n) only h) in
            (root, own, subst (IsIn scene.classes root) same inside);
        enough = λ subst' member g together meets.
            let stands = subst (λ (scheme : Scheme). Meets scene subst' scheme member g) e meets in
            let other = stands.0 in
            let same : together.0 ≡ root = partition.in_one together.0 root id together.1 own in
            let here : IsIn scene.classes root member = subst (λ (r : ℕ). IsIn scene.classes r member) same together.2 in
            let still : other.2.0 ≡ root = partition.in_one other.2.0 root member other.2.2 here in
            let moved : IsIn scene.classes root other.0 = subst (λ (r : ℕ). IsIn scene.classes r other.0) still other.2.1 in (
              first.0,
              subst (λ (list : List ℕ). Contains list first.0) (sym only) (head_in first.0 []),
              subst (λ (scheme : Scheme). Meets scene subst' scheme first.0 g) (sym e)
                  ((other.0, other.1, (root, moved, inside)), stands.1),
            );
      }

-- a candidate is appended, and another node is not
pub adds_one : (scene : Scene) (head : Head) (n : ℕ) (old new : List ℕ) → IsCandidate scene head n → new ≡ old ++ n ∷ []
    → AddsCandidate scene head n old new
adds_one scene head n old new is e other = (
  λ there. elim (Contains-push_cases old n other (subst (λ (list : List ℕ). Contains list other) e there)) [
    | inl before ↦ inl before
    | inr same ↦ inr (sym same, is)
  ],
  λ either. subst (λ (list : List ℕ). Contains list other) (sym e) (elim either [
    | inl before ↦ Contains-append_left old (n ∷ []) other before
    | inr same ↦ subst (Contains (old ++ n ∷ [])) (sym same.0) (Contains-push old n)
  ]),
)

pub adds_none : (scene : Scene) (head : Head) (n : ℕ) (old : List ℕ) → (IsCandidate scene head n → ⊥)
    → AddsCandidate scene head n old old
adds_none scene head n old never other = (
  λ there. inl there,
  λ either. elim either [ inl before ↦ before | inr same ↦ absurd (never same.1) ],
)

-- the candidates below a number, and the number
pub candidates_next : (scene : Scene) (head : Head) (number n : ℕ) (old new : List ℕ) → n ≡ number
    → ((m : ℕ) → Contains old m ↔ ((m < number) × IsCandidate scene head m)) → AddsCandidate scene head n old new
    → (m : ℕ) → Contains new m ↔ ((m < number + 1) × IsCandidate scene head m)
candidates_next scene head number n old new same h adds m = (
  λ there. elim ((adds m).0 there) [
    | inl before ↦ let is = (h m).0 before in (less_more m number is.0, is.1)
    | inr now ↦ (less_same m n number now.0 same, subst (IsCandidate scene head) (sym now.0) now.1)
  ],
  λ is. elim (below_or_same m number is.0) [
    | inl less ↦ (adds m).1 (inl ((h m).1 (less, is.1)))
    | inr e ↦ let here : m ≡ n = e ∙ sym same in (adds m).1 (inr (here, subst (IsCandidate scene head) here is.1))
  ],
)
  where
    less_more : (a b : ℕ) → a < b → a < b + 1
    less_more a b l = omega arith

    less_same : (a b c : ℕ) → a ≡ b → b ≡ c → a < c + 1
    less_same a b c e f = omega arith

    below_or_same : (k n : ℕ) → k < n + 1 → (k < n) ⊎ (k ≡ n)
    below_or_same zero zero l = inr refl
    below_or_same zero (suc n) l = inl (omega arith)
    below_or_same (suc k) zero l = absurd (omega arith)
    below_or_same (suc k) (suc n) l =
        elim (below_or_same k n (omega arith)) [ inl m ↦ inl (omega arith) | inr e ↦ inr (ap suc e) ]

-- all candidates are below the number of nodes
pub candidates_all : (scene : Scene) (head : Head) (number : ℕ) (found : List ℕ) → length scene.nodes ≤ number
    → ((m : ℕ) → Contains found m ↔ ((m < number) × IsCandidate scene head m)) → AreCandidates scene head found
candidates_all scene head number found past h n = (
  λ there. ((h n).0 there).1,
  λ is. (h n).1 (far n (length scene.nodes) number (got_below scene.nodes n is.1.0 is.1.1) past, is),
)
  where
    far : (a b c : ℕ) → a < b → b ≤ c → a < c
    far a b c l m = omega arith

-- candidates are active
pub active_candidates : (scene : Scene) (head : Head) (nodes : List ℕ) → AreCandidates scene head nodes
    → All (IsActive scene.classes) nodes
active_candidates scene head nodes h = all_by (IsActive scene.classes) nodes (λ n there. ((h n).0 there).0)

-- the item at a position
pub got_at : {X : Type 0} (xs : List X) (k : ℕ) (x : X) → k < length xs → x ≡ slice_index_or xs k x → slice_get xs k ≡ Some x
got_at [] k x less is = absurd (omega arith)
got_at (y ∷ ys) zero x less is = ap (λ z. Some z) (sym is)
got_at (y ∷ ys) (suc k) x less is = got_at ys k x (omega arith) is
