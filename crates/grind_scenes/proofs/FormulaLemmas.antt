-- Marks, and truths of formulas over the classes of a table's nodes.
use Rattle.std.specs.Prelude.{◌≡◌, ℕ, ◌<◌, ◌+◌, Bool, List, [], ◌∷◌, ◌++◌, All, length, Some, slice_get, slice_index_or}
use Rattle.std.proofs.Common.{arith, zero, suc, refl, sym, ap, subst, ◌∙◌, inl, inr}
use Rattle.std.proofs.lemmas.Bool.{cases_eq}
use Rattle.std.proofs.lemmas.List.{length-append}
use Rattle.std.proofs.lemmas.List.Elements.{All-nil}
use Rattle.std.proofs.lemmas.Option.{slice_get_within}
use Rattle.grind_truth_prop.specs.Given.{ArePaired, Fits}
use Rattle.grind_truth_prop.specs.Laws.{HasTable}
use Rattle.grind_truth_prop.specs.declared.types.Known.{Known}
use Rattle.grind_truth_prop.proofs.LawLemmas.{lower_at}
use Rattle.grind_scenes.specs.Scenes.{AreClassesOf}
use Rattle.grind_scenes.specs.Formulas.{AreMarks, AreMarkedFormulas}

-- the items before the last
before_last : (marks : List Bool) (x : Bool) (k : ℕ) → k < length marks → slice_get (marks ++ x ∷ []) k ≡ slice_get marks k
before_last [] x k less = absurd (omega arith)
before_last (first ∷ rest) x zero less = refl
before_last (first ∷ rest) x (suc k) less = before_last rest x k (omega arith)

-- the last item
last_item : (marks : List Bool) (x : Bool) → slice_get (marks ++ x ∷ []) (length marks) ≡ Some x
last_item [] x = refl
last_item (first ∷ rest) x = last_item rest x

mark_at : (marked : ℕ → Bool) (n : ℕ) (old : List Bool) (x : Bool) → AreMarks marked n old → x ≡ marked n
    → (k : ℕ) → k < n + 1 → slice_get (old ++ x ∷ []) k ≡ Some (marked k)
mark_at marked n old x h is k less =
    let long : length old ≡ n = h.long in
    elim (cases_eq k n) [
      | inl same ↦ ap (slice_get (old ++ x ∷ [])) (same ∙ sym long) ∙ last_item old x ∙ ap (λ (b : Bool). Some b) (is ∙ ap marked (sym same))
      | inr other ↦ before_last old x k (omega (arith, less, other, long)) ∙ h.each k (omega (arith, less, other))
    ]

-- the mark of one more node
pub next_mark : (marked : ℕ → Bool) (n : ℕ) (old new : List Bool) (x : Bool) → AreMarks marked n old → x ≡ marked n
    → new ≡ old ++ x ∷ [] → AreMarks marked (n + 1) new
next_mark marked n old new x h is e =
    let before : length old ≡ n = h.long in
    let size : length new ≡ length old + 1 = ap length e ∙ length-append old (x ∷ []) in
    record {
      long = omega (arith, size, before);
      each = λ k less. ap (λ (marks : List Bool). slice_get marks k) e ∙ mark_at marked n old x h is k less;
    }

fit_by : (known : Known) (lists : List (List ℕ)) → AreClassesOf known.terms.nodes lists → HasTable known
    → length known.holds ≡ length known.terms.nodes → length known.fails ≡ length known.terms.nodes
    → AreMarkedFormulas known → Fits known lists
fit_by known lists classes table holds fails marked =
    record {
      within = λ n h. (classes.active n).0 h;
      args = λ n node active there k d l.
          let lower = lower_at known n node table there k d l in
          let below = (classes.active n).0 active in
          (classes.active (slice_index_or node.args k d)).1 (omega (arith, lower, below));
      one_sort = classes.sorts;
      holds_count = holds;
      fails_count = fails;
      known_active = λ n it. (classes.active n).1 (elim it [
        | inl h ↦ let below = slice_get_within known.holds n _ h in omega (arith, below, holds)
        | inr f ↦ let below = slice_get_within known.fails n _ f in omega (arith, below, fails)
      ]);
      known_formula = λ n it. marked.2 n (elim it [
        | inl h ↦ let below = slice_get_within known.holds n _ h in omega (arith, below, holds)
        | inr f ↦ let below = slice_get_within known.fails n _ f in omega (arith, below, fails)
      ]);
      same_paired = subst (λ xs. All (ArePaired known lists) xs) (sym marked.1.0) (All-nil (ArePaired known lists));
      apart_paired = subst (λ xs. All (ArePaired known lists) xs) (sym marked.1.1) (All-nil (ArePaired known lists));
    }

-- marked formulas without pairs fit the classes
pub formulas_fit : (known : Known) (lists : List (List ℕ)) → AreClassesOf known.terms.nodes lists → HasTable known
    → AreMarkedFormulas known → Fits known lists
formulas_fit known lists classes table marked = fit_by known lists classes table marked.0.0 marked.0.1 marked
