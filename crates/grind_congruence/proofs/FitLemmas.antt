-- Closures that fit a table of terms.
use Rattle.std.specs.Prelude.{◌≡◌, ℕ, zero, suc, ◌<◌, List, [], ◌∷◌, ◌++◌, Some, All, length, slice_get, ◌⊎◌, ◌↔◌, refl}
use Rattle.std.proofs.Common.{arith, sym, ◌∙◌, subst, inl, inr}
use Rattle.std.proofs.lemmas.List.{length-append}
use Rattle.std.proofs.lemmas.List.Elements.{All-weaker}
use Rattle.std.proofs.lemmas.Option.{same_Some}
use Rattle.grind_term_graph.specs.declared.node.Node.{Node}
use Rattle.grind_classes.specs.Classes.{IsActive}
use Rattle.grind_congruence.specs.declared.application.Application.{Application}
use Rattle.grind_congruence.specs.Congruence.{Congruence, Fits, FitsEvery, application_of}
use Rattle.grind_congruence.specs.Exact.{FitsLonger}
use Rattle.grind_congruence.proofs.EdgeLemmas.{slice_get-more, slice_get-last}
use Rattle.grind_congruence.proofs.ForestLemmas.{last_or}

pub empty_or : (xs : List ℕ) → (xs ≡ []) ⊎ (xs ≡ [] → ⊥)
empty_or [] = inl refl
empty_or (x ∷ xs) = inr (λ e. absurd cc)

-- a node with arguments that was kept still is, once another became active
stays_there : (old new : Congruence) (n : ℕ) (node : Node) (place : ℕ) (it : Application)
    → (node.args ≡ [] → new.applications ≡ old.applications)
    → ((node.args ≡ [] → ⊥) → new.applications ≡ old.applications ++ application_of n node ∷ [])
    → slice_get old.applications place ≡ Some it → slice_get new.applications place ≡ Some it
stays_there old new n node place it plain applied stands = elim (empty_or node.args) [
  | inl none ↦ subst (λ (xs : List Application). slice_get xs place ≡ Some it) (sym (plain none)) stands
  | inr has ↦ subst (λ (xs : List Application). slice_get xs place ≡ Some it) (sym (applied has))
      (slice_get-more old.applications (application_of n node ∷ []) place it stands)
]

-- a node of the table may become active once its arguments are
pub Fits-activate : (old new : Congruence) (nodes : List Node) (n : ℕ) (own : Node) → Fits old nodes
    → ((x : ℕ) → IsActive new.lists x ↔ (IsActive old.lists x ⊎ (x ≡ n))) → slice_get nodes n ≡ Some own → n < length nodes
    → All (IsActive old.lists) own.args
    → (own.args ≡ [] → new.applications ≡ old.applications)
    → ((own.args ≡ [] → ⊥) → new.applications ≡ old.applications ++ application_of n own ∷ []) → Fits new nodes
Fits-activate old new nodes n own fits active own_is inside args plain applied = record {
  within = λ x act. elim ((active x).0 act) [
    | inl before ↦ fits.within x before
    | inr e ↦ subst (λ (k : ℕ). k < length nodes) (sym e) inside
  ];
  args = λ x node act stands. elim ((active x).0 act) [
    | inl before ↦ kept node (fits.args x node before stands)
    | inr e ↦ kept node (subst (λ (it : Node). All (IsActive old.lists) it.args) (own_node x node e stands) args)
  ];
  same = λ place it stands. elim (empty_or own.args) [
    | inl none ↦ fits.same place it (subst (λ (xs : List Application). slice_get xs place ≡ Some it) (plain none) stands)
    | inr has ↦ elim (last_or old.applications (application_of n own) place it
        (subst (λ (xs : List Application). slice_get xs place ≡ Some it) (applied has) stands)) [
          | inl before ↦ fits.same place it before
          | inr last ↦ subst (λ (j : Application). slice_get nodes j.node ≡ Some j.term) (sym last.1) own_is
        ]
  ];
  each = λ x node act stands has. elim ((active x).0 act) [
    | inl before ↦
        let it = fits.each x node before stands has in
        (it.0, stays_there old new n own it.0 (application_of x node) plain applied it.1)
    | inr e ↦ (length old.applications, last_one x node e (own_node x node e stands) has)
  ];
}
  where
    kept : (node : Node) → All (IsActive old.lists) node.args → All (IsActive new.lists) node.args
    kept node all = All-weaker (IsActive old.lists) (IsActive new.lists) (λ x act. (active x).1 (inl act)) node.args all

    own_node : (x : ℕ) (node : Node) → x ≡ n → slice_get nodes x ≡ Some node → own ≡ node
    own_node x node e stands =
        same_Some own node (sym own_is ∙ subst (λ (k : ℕ). slice_get nodes k ≡ Some node) e stands)

    last_one : (x : ℕ) (node : Node) → x ≡ n → own ≡ node → (node.args ≡ [] → ⊥)
        → slice_get new.applications (length old.applications) ≡ Some (application_of x node)
    last_one x node e is has =
        subst (λ (k : ℕ). slice_get new.applications (length old.applications) ≡ Some (application_of k node)) (sym e)
        (subst (λ (it : Node). slice_get new.applications (length old.applications) ≡ Some (application_of n it)) is
        (subst (λ (xs : List Application). slice_get xs (length old.applications) ≡ Some (application_of n own))
        (sym (applied (subst (λ (it : Node). it.args ≡ [] → ⊥) (sym is) has)))
        (slice_get-last old.applications (application_of n own))))

-- the table sees of the classes only which nodes are active
pub Fits-active : (old new : Congruence) (nodes : List Node) → Fits old nodes
    → ((x : ℕ) → IsActive new.lists x ↔ IsActive old.lists x) → new.applications ≡ old.applications → Fits new nodes
Fits-active old new nodes fits active same = record {
  within = λ x act. fits.within x ((active x).0 act);
  args = λ x node act stands.
      All-weaker (IsActive old.lists) (IsActive new.lists) (λ y before. (active y).1 before) node.args (fits.args x node ((active x).0 act) stands);
  same = λ place it stands. fits.same place it (subst (λ (xs : List Application). slice_get xs place ≡ Some it) same stands);
  each = λ x node act stands has.
      let it = fits.each x node ((active x).0 act) stands has in
      (it.0, subst (λ (xs : List Application). slice_get xs it.0 ≡ Some (application_of x node)) (sym same) it.1);
}

slice_get-front : (nodes more : List Node) (n : ℕ) → n < length nodes → slice_get (nodes ++ more) n ≡ slice_get nodes n
slice_get-front [] more n below = absurd (omega arith)
slice_get-front (node ∷ nodes) more zero below = refl
slice_get-front (node ∷ nodes) more (suc n) below = slice_get-front nodes more n (omega arith)

-- what fits a table fits a longer one
pub fits_longer_table : FitsLonger
fits_longer_table closure nodes more fits = record {
  within = λ n act. let below = fits.within n act in omega (arith, length-append nodes more);
  args = λ n node act stands.
      fits.args n node act (sym (slice_get-front nodes more n (fits.within n act)) ∙ stands);
  same = λ place it stands. slice_get-more nodes more it.node it.term (fits.same place it stands);
  each = λ n node act stands has.
      fits.each n node act (sym (slice_get-front nodes more n (fits.within n act)) ∙ stands) has;
}

-- a closure without nodes fits every table
pub no_active : (n : ℕ) → IsActive [] n → ⊥
no_active n active = absurd (omega (arith, active.1.1))

pub Fits-nil : FitsEvery (record { lists = []; edges = []; table = []; applications = []; marked = [] })
Fits-nil nodes = record {
  within = λ n act. absurd (no_active n act);
  args = λ n node act stands. absurd (no_active n act);
  same = λ place it stands. absurd cc;
  each = λ n node act stands has. absurd (no_active n act);
}
