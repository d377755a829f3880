-- Declarations make at most one theory.
use Rattle.std.specs.Prelude.{◌≡◌, ℕ, pos, List, [], ◌∷◌, ◌++◌, refl}
use Rattle.std.specs.List.{AllZip}
use Rattle.std.proofs.Common.{arith, sym, ap, subst, ◌∙◌}
use Rattle.grind_schemes.specs.declared.scheme.Scheme.{Scheme}
use Rattle.grind_schemes.specs.Theorems.{TheoremData, theorem_data}
use Rattle.grind_grammar.specs.Terms.{Term, Bound, Annotation, Declaration, Sort, Fun, Theorem, Goal, Limit}
use Rattle.grind_signature.specs.Signatures.{SignatureData, with_sort, with_function, with_label}
use Rattle.grind_resolution.specs.declared.meaning.BinderKind.TheVariants as kinds
use Rattle.grind_resolution.specs.Laws.{OneScheme}
use Rattle.grind_theory.specs.States.{State, opening_state, with_limit, sort_number, sort_numbers, bound_names, bound_sorts, scope_of, Names}
use Rattle.grind_theory.specs.Faults.{AreNewAfter, IsNew, IsTheoremOf, IsGoalOf}
use Rattle.grind_theory.specs.Theories.{Adds, TakesAll, state_of}
use Rattle.grind_theory.specs.Laws.{AreSameTheorems, OneTheory}
use Rattle.grind_theory.proofs.LawLemmas.{same_kind}
use Rattle.grind_theory.proofs.OneNames.{FunctionsDiffer, new_single, stays_differ}
use Rattle.grind_theory.proofs.OnePatterns.{one_patterns}
use Rattle.grind_theory.proofs.OneGoals.{one_goal, same_limits}

-- two states are the same, but for the room that the schemes of their theorems have
record AreSameStates (a b : State) : Type 0 where
  signatures : a.signature ≡ b.signature
  theorems : AllZip AreSameTheorems a.theorems b.theorems
  limits : a.limits ≡ b.limits
  sets : a.set ≡ b.set
  goals : a.goals ≡ b.goals

same_both : (a b x y : State) → x ≡ a → y ≡ b → AreSameStates a b → AreSameStates x y
same_both a b x y p q h = subst (λ v. AreSameStates v y) (sym p) (subst (AreSameStates a) (sym q) h)

theorems_push : (xs ys : List TheoremData) (x y : TheoremData) → AllZip AreSameTheorems xs ys → AreSameTheorems x y
    → AllZip AreSameTheorems (xs ++ x ∷ []) (ys ++ y ∷ [])
theorems_push [] [] x y h same = (same, tt)
theorems_push [] (b ∷ ys) x y h same = absurd h
theorems_push (a ∷ xs) [] x y h same = absurd h
theorems_push (a ∷ xs) (b ∷ ys) x y h same = (h.0, theorems_push xs ys x y h.1 same)

same_pos : (m n : ℕ) → pos m ≡ pos n → m ≡ n
same_pos m n e = cc

module _ (one_scheme : OneScheme) where
  -- the theorem of a declaration
  one_theorem : (s : SignatureData) (name : List ℕ) (bounds : List Bound) (annotations : List Annotation) (body : Term) (a b : Scheme) (ps qs : List (List Scheme))
      → FunctionsDiffer s → AreNewAfter s [] (bound_names bounds) → IsTheoremOf s bounds annotations body a ps → IsTheoremOf s bounds annotations body b qs
      → AreSameTheorems (theorem_data name (sort_numbers s (bound_sorts bounds)) a ps) (theorem_data name (sort_numbers s (bound_sorts bounds)) b qs)
  one_theorem s name bounds annotations body a b ps qs differ new p q =
      let one = one_scheme s (scope_of kinds.Variable s bounds) (new_single kinds.Variable s bounds differ new) in
      let same = one body a b p.stands q.stands in
      record {
        names = refl;
        variables = refl;
        bodies = same;
        patterns = one_patterns (Names kinds.Variable s bounds) one (sort_numbers s (bound_sorts bounds)) a b same annotations ps qs p.gives q.gives;
      }

  -- one declaration leads from the same states to the same states
  adds_same : (a b x y : State) (d : Declaration) → IsNew a d → FunctionsDiffer a.signature → AreSameStates a b → Adds a d x → Adds b d y → AreSameStates x y
  adds_same a b x y (Sort n) new differ e p q = same_both _ _ x y p q (record {
    signatures = ap (λ s. with_sort s n) e.signatures;
    theorems = e.theorems;
    limits = e.limits;
    sets = e.sets;
    goals = e.goals;
  })
  adds_same a b x y (Fun n ss r) new differ e p q = same_both _ _ x y p q (record {
    signatures = ap (λ (s : SignatureData). with_function s (record { name = n; args = sort_numbers s ss; result = sort_number s r })) e.signatures;
    theorems = e.theorems;
    limits = e.limits;
    sets = e.sets;
    goals = e.goals;
  })
  adds_same a b x y (Theorem n bs annotations t) new differ e p q =
      let same = one_theorem a.signature n bs annotations t p.0 q.0 p.1 q.1 differ new.1 p.2
      (subst (λ s. IsTheoremOf s bs annotations t q.0 q.1) (sym e.signatures) q.2) in
      let moved = subst (λ s. AreSameTheorems (theorem_data n (sort_numbers a.signature (bound_sorts bs)) p.0 p.1)
      (theorem_data n (sort_numbers s (bound_sorts bs)) q.0 q.1)) e.signatures same in
      same_both _ _ x y p.3 q.3 (record {
        signatures = ap (λ s. with_label s n) e.signatures;
        theorems = theorems_push a.theorems b.theorems _ _ e.theorems moved;
        limits = e.limits;
        sets = e.sets;
        goals = e.goals;
      })
  adds_same a b x y (Goal n bs hs t) new differ e p q =
      let single = new_single kinds.Constant a.signature bs differ new.1 in
      let same = one_goal a.signature bs (one_scheme a.signature (scope_of kinds.Constant a.signature bs) single) n hs t p.0 q.0 p.1
      (subst (λ s. IsGoalOf s n bs hs t q.0) (sym e.signatures) q.1) in
      same_both _ _ x y p.2 q.2 (record {
        signatures = ap (λ s. with_label s n) e.signatures;
        theorems = e.theorems;
        limits = e.limits;
        sets = e.sets;
        goals = λ i. e.goals i ++ same i ∷ [];
      })
  adds_same a b x y (Limit n v) new differ e p q =
      let kind = same_kind p.0 q.0 (sym p.2 ∙ q.2) in
      let number = same_pos p.1 q.1 (sym p.3 ∙ q.3) in
      same_both _ _ x y p.4 q.4 (record {
        signatures = e.signatures;
        theorems = e.theorems;
        limits = λ i. with_limit (e.limits i) (kind i) (number i);
        sets = λ i. e.sets i ++ kind i ∷ [];
        goals = e.goals;
      })

  -- and so do declarations one after another
  all_same : (ds : List Declaration) (a b x y : State) → FunctionsDiffer a.signature → AreSameStates a b → TakesAll a ds x → TakesAll b ds y → AreSameStates x y
  all_same [] a b x y differ e p q = same_both a b x y p q e
  all_same (d ∷ ds) a b x y differ e p q =
      all_same ds p.0 q.0 x y (stays_differ a p.0 d (p.1).fresh (p.1).adds differ)
      (adds_same a b p.0 q.0 d (p.1).fresh differ e (p.1).adds (q.1).adds) p.2 q.2

  nothing_same : AreSameStates opening_state opening_state
  nothing_same = record { signatures = refl; theorems = tt; limits = refl; sets = refl; goals = refl }

  pub one_theory : OneTheory
  one_theory ds a b p q =
      let same = all_same ds opening_state opening_state (state_of a p.0) (state_of b q.0) (λ i j d l w. absurd (omega arith)) nothing_same p.1 q.1 in record {
        signatures = same.signatures;
        theorems = same.theorems;
        limits = same_limits a.lemmas.limits b.lemmas.limits same.limits;
        goals = same.goals;
      }
