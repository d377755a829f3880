-- Terms with their normal forms, one by one, and which are equal.
use Rattle.std.proofs.Common.{◌≡◌, ◌≢◌, ◌⊎◌, inl, inr, ℕ, pos, ◌+◌, ◌<◌, Bool, true, false, List, [], ◌∷◌, ◌++◌, length, Contains, Option, Some, None, MatchOption, nat_lt, arith, sym, ap, ◌∙◌, refl, subst}
use Rattle.std.proofs.lemmas.Bool.{ltb-true, ltb-false}
use Rattle.std.proofs.lemmas.List.Elements.{Contains-append_left, Contains-push, Contains-push_cases}
use Rattle.std.proofs.lemmas.Option.{none-some, same_Some}
use Rattle.grind_classes.specs.Classes.{AreTogether}
use Rattle.grind_term_graph.specs.declared.node.Node.{Node}
use Rattle.grind_polynomials.specs.declared.poly.Term.{Term}
use Rattle.grind_normal_forms.specs.declared.reduction.Reduced.{Reduced}
use Rattle.grind_normal_forms.specs.Reduction.{reduced_of}
use Rattle.grind_differences.specs.Differences.{poly_reading, poly_difference}
use Rattle.grind_claims.specs.declared.proof.Rule.{Rule}
use Rattle.grind_ring_basis.specs.declared.types.Combination.{Combination}
use Rattle.grind_ring_basis.specs.Bases.{HasNormalForm, Outgrows}
use Rattle.grind_ring_basis.specs.Lines.{IsDifferenceLine}
use Rattle.grind_ring_units.specs.declared.types.State.{State}
use Rattle.grind_ring_units.specs.declared.units.equal_terms.NormalTerm.{NormalTerm}
use Rattle.grind_ring_units.specs.declared.types.Equality.{Equality}
use Rattle.grind_ring_units.specs.Given.{equality, IsClaimed}
use Rattle.grind_ring_units.specs.EqualTerms.{HasNormalTerm, IsTakenAsEqual, AreAlike, IsEqualLine, NoEqualTerms}
use Rattle.grind_ring_units.specs.NormalTerms.{normal_term, IsNormalTermOf, NoneAt, with_found, AreNormalTerms, AreEqualBySome, NoneAmong}
use Rattle.grind_ring_units.proofs.ListLemmas.{none_listed}
use Rattle.grind_ring_units.proofs.ReadingLemmas.{read_within}
use Rattle.grind_ring_units.proofs.FindingLemmas.{normal_one, not_outgrown}

module _ (state : State) (nodes : List Node) (lists : List (List ℕ)) where
  pub terms_begin : AreNormalTerms state nodes lists 0 []
  terms_begin = record {
    only = λ it there. absurd (none_listed it there);
    each = λ n normal low has. absurd (omega arith);
  }

  -- the terms with what was found at the next node
  terms_with : (count : ℕ) (all : List NormalTerm) (found : Option NormalTerm) → AreNormalTerms state nodes lists count all
      → ((normal : Reduced) → HasNormalTerm state nodes lists count normal → Contains (with_found all found) (normal_term count normal))
      → ((it : NormalTerm) → Contains (with_found all found) it → Contains all it ⊎ HasNormalTerm state nodes lists it.node it.normal)
      → ((it : NormalTerm) → Contains all it → Contains (with_found all found) it)
      → AreNormalTerms state nodes lists (count + 1) (with_found all found)
  terms_with count all found are here which stays = record {
    only = λ it there. elim (which it there) [
      | inl old ↦ are.only it old
      | inr new ↦ new
    ];
    each = λ n normal low has. at_test n normal low has (nat_lt n count) refl;
  }
    where
      at_test : (n : ℕ) (normal : Reduced) → n < count + 1 → HasNormalTerm state nodes lists n normal → (t : Bool) → nat_lt n count ≡ t
          → Contains (with_found all found) (normal_term n normal)
      at_test n normal low has true less =
          stays (normal_term n normal) (are.each n normal (ltb-true n count less) has)
      at_test n normal low has false not_less =
          let least = ltb-false n count not_less in
          let same : count ≡ n = omega arith in
          subst (λ (m : ℕ). Contains (with_found all found) (normal_term m normal)) same
          (here normal (subst (λ (m : ℕ). HasNormalTerm state nodes lists m normal) (sym same) has))

  pub terms_none : (count : ℕ) (all : List NormalTerm) → AreNormalTerms state nodes lists count all → NoneAt state nodes lists count
      → AreNormalTerms state nodes lists (count + 1) all
  terms_none count all are none =
      terms_with count all None are (λ normal has. absurd (none normal has)) (λ it there. inl there) (λ it there. there)

  pub terms_some : (count : ℕ) (all : List NormalTerm) (it : NormalTerm) → AreNormalTerms state nodes lists count all
      → IsNormalTermOf state nodes lists count it
      → ((one other : Reduced) → HasNormalTerm state nodes lists count one → HasNormalTerm state nodes lists count other → one ≡ other)
      → AreNormalTerms state nodes lists (count + 1) (all ++ it ∷ [])
  terms_some count all it are is one_normal = terms_with count all (Some it) are here which (λ k there. Contains-append_left all (it ∷ []) k there)
    where
      here : (normal : Reduced) → HasNormalTerm state nodes lists count normal → Contains (all ++ it ∷ []) (normal_term count normal)
      here normal has =
          let same : it.normal ≡ normal = one_normal it.normal normal is.1 has in
          let whole : it ≡ normal_term count normal = λ i. record { node = is.0 i; normal = same i } in
          subst (λ (k : NormalTerm). Contains (all ++ it ∷ []) k) whole (Contains-push all it)

      which : (k : NormalTerm) → Contains (all ++ it ∷ []) k → Contains all k ⊎ HasNormalTerm state nodes lists k.node k.normal
      which k there = elim (Contains-push_cases all it k there) [
        | inl old ↦ inl old
        | inr same ↦ inr (subst (λ (x : NormalTerm). HasNormalTerm state nodes lists x.node x.normal) same
            (subst (λ (m : ℕ). HasNormalTerm state nodes lists m it.normal) (sym is.0) is.1))
      ]

  -- a term has one normal form
  pub normal_term_one : (n : ℕ) (one other : Reduced) → HasNormalTerm state nodes lists n one → HasNormalTerm state nodes lists n other
      → one ≡ other
  normal_term_one n one other this that =
      let poly : that.poly ≡ this.poly = same_Some that.poly this.poly (sym that.reading ∙ this.reading) in
      normal_one state.basis this.poly one other this.normal_is
      (subst (λ (p : List Term). HasNormalForm state.basis p other) poly that.normal_is)

  -- and none where its polynomial has none
  pub none_outgrown : (n : ℕ) (poly : List Term) → Some poly ≡ poly_reading nodes n → Outgrows state.basis poly → NoneAt state nodes lists n
  none_outgrown n poly some over normal has =
      not_outgrown state.basis has.poly normal has.normal_is
      (subst (λ (p : List Term). Outgrows state.basis p) (same_Some poly has.poly (some ∙ has.reading)) over)

  pub none_unread : (n : ℕ) → None ≡ poly_reading nodes n → NoneAt state nodes lists n
  none_unread n none normal has = none-some has.poly (none ∙ has.reading)

  pub terms_next : (count : ℕ) (all new : List NormalTerm) (found : Option NormalTerm) → AreNormalTerms state nodes lists count all
      → MatchOption found (NoneAt state nodes lists count) (λ it. IsNormalTermOf state nodes lists count it) → new ≡ with_found all found
      → AreNormalTerms state nodes lists (count + 1) new
  terms_next count all new None are none is = subst (AreNormalTerms state nodes lists (count + 1)) (sym is) (terms_none count all are none)
  terms_next count all new (Some it) are some is =
      subst (AreNormalTerms state nodes lists (count + 1)) (sym is) (terms_some count all it are some (normal_term_one count))

  -- ---- two terms
  module _ (a b : ℕ) (one other : Reduced) (first : HasNormalTerm state nodes lists a one) (second : HasNormalTerm state nodes lists b other) where
    pub same_normals : (poly : List Term) → AreAlike state nodes lists a b poly → one ≡ other
    same_normals poly alike =
        normal_term_one a one alike.normal first alike.first ∙ sym (normal_term_one b other alike.normal second alike.second)

    pub alike_answer : ¬ AreTogether lists a b → ¬ IsTakenAsEqual state a b → one ≡ other → (found : Option (List Term))
        → found ≡ poly_difference nodes a b
        → MatchOption found ((poly : List Term) → ¬ AreAlike state nodes lists a b poly) (λ poly. AreAlike state nodes lists a b poly)
    alike_answer apart not_taken same None none = λ poly alike. none-some poly (none ∙ alike.difference)
    alike_answer apart not_taken same (Some poly) some = record {
      apart = apart;
      not_taken = not_taken;
      normal = one;
      first = first;
      second = subst (λ (n : Reduced). HasNormalTerm state nodes lists b n) (sym same) second;
      difference = sym some;
    }

  pub no_line : (a b : ℕ) (poly : List Term) → AreAlike state nodes lists a b poly
      → ((rule : Rule) (from : List ℕ) → ¬ IsEqualLine state poly rule from) → ¬ AreEqualBySome state nodes lists a b
  no_line a b poly alike none equal =
      none equal.1 equal.2 (subst (λ (p : List Term). IsEqualLine state p equal.1 equal.2)
      (same_Some equal.0 poly (sym equal.3.alike.difference ∙ alike.difference)) equal.3.line_is)

  -- a term with a normal form stands in the table
  pub term_within : (n : ℕ) (normal : Reduced) → HasNormalTerm state nodes lists n normal → n < length nodes
  term_within n normal has =
      read_within nodes n has.poly has.reading

  -- where no two of the list are equal, no two terms are
  pub no_equal_terms : (all : List NormalTerm) → AreNormalTerms state nodes lists (length nodes) all
      → ((it : NormalTerm) → Contains all it → ¬ ¬ NoneAmong state nodes lists it.node all) → NoEqualTerms state nodes lists
  no_equal_terms all are none a b poly rule from equal =
      let first = are.each a equal.alike.normal (term_within a equal.alike.normal equal.alike.first) equal.alike.first in
      let second = are.each b equal.alike.normal (term_within b equal.alike.normal equal.alike.second) equal.alike.second in
      none (normal_term a equal.alike.normal) first
      (λ others. others (normal_term b equal.alike.normal) second (poly, rule, from, equal))

-- ---- lines
module _ (state : State) (poly : List Term) where
  pub no_ideal_line : ¬ IsClaimed state poly → ((line : Combination) → ¬ IsDifferenceLine state.basis poly line)
      → (rule : Rule) (from : List ℕ) → ¬ IsEqualLine state poly rule from
  no_ideal_line none no_line rule from line = elim line [
    | inl known ↦ none (known.0, known.1)
    | inr other ↦ no_line other.1 other.2
  ]

  pub not_reduced : Outgrows state.basis poly → (line : Combination) → ¬ IsDifferenceLine state.basis poly line
  not_reduced over line is = not_outgrown state.basis poly (reduced_of (pos 1) []) is.reduces over

  pub rest_not_zero : (normal : Reduced) → HasNormalForm state.basis poly normal → normal.rest ≢ [] → (line : Combination)
      → ¬ IsDifferenceLine state.basis poly line
  rest_not_zero normal is some line zero_line =
      some (ap (λ (r : Reduced). r.rest) (normal_one state.basis poly normal (reduced_of (pos 1) []) is zero_line.reduces))

-- ---- equalities that were taken
pub taken_here : (state : State) (it : Equality) (a b : ℕ) → Contains state.equalities it → (it.left ≡ a) × (it.right ≡ b)
    → IsTakenAsEqual state a b
taken_here state it a b there sides =
    let whole : it ≡ equality it.post a b = λ i. record { post = it.post; left = sides.0 i; right = sides.1 i } in
    (it.post, subst (λ (k : Equality). Contains state.equalities k) whole there)
