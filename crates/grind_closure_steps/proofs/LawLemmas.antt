-- Each answer's claim is typed.
use Rattle.std.specs.Prelude.{◌≡◌, ◌≢◌, ℕ, Bool, true, false, List, [], ◌∷◌, Option, Some, IsSome, All, refl}
use Rattle.std.specs.List.{AllZip}
use Rattle.std.specs.Option.{option_map}
use Rattle.std.proofs.Common.{sym, ap, subst, ◌∙◌, inl, inr}
use Rattle.std.proofs.lemmas.Option.{same_Some}
use Rattle.std.proofs.lemmas.List.Elements.{All-nil, All-cons}
use Rattle.grind_term_graph.specs.declared.node.Node.{Node}
use Rattle.grind_term_graph.specs.Terms.{prop, sort_at}
use Rattle.grind_term_graph.specs.Shape.{IsBegun}
use Rattle.grind_classes.specs.Classes.{AreTogether}
use Rattle.grind_term_rules.specs.TermRules.{IsTruth, SayEqual, true_node, false_node}
use Rattle.grind_truth_prop.specs.Kernel.{Claim, Holds, Fails, Same, Differ}
use Rattle.grind_truth_prop.specs.Given.{KnownAs, truth_node, Fits}
use Rattle.grind_truth_prop.specs.Evidence.{IsGiven}
use Rattle.grind_truth_prop.specs.Classed.{literal}
use Rattle.grind_truth_prop.specs.declared.types.Couple.{Couple}
use Rattle.grind_truth_prop.specs.declared.types.Known.{Known}
use Rattle.grind_closure_steps.specs.Laws.{TruthIsTyped, CongruentAreTyped, ClashIsTyped}
use Rattle.grind_closure_steps.specs.declared.types.ClosureStep.TheVariants as step
use Rattle.grind_closure_steps.proofs.StepLemmas.{at_place}

one_given : (known : Known) (lists : List (List ℕ)) (claim : Claim) → IsGiven known lists claim → All (IsGiven known lists) (claim ∷ [])
one_given known lists claim is = All-cons (IsGiven known lists) claim [] is (All-nil (IsGiven known lists))

two_given : (known : Known) (lists : List (List ℕ)) (one other : Claim) → IsGiven known lists one → IsGiven known lists other
    → All (IsGiven known lists) (one ∷ other ∷ [])
two_given known lists one other first second = All-cons (IsGiven known lists) one (other ∷ []) first (one_given known lists other second)

-- ---- truths

begun_sort : (nodes : List Node) (value : Bool) → IsBegun nodes → sort_at nodes (truth_node value) ≡ Some prop
begun_sort nodes true begun = ap (λ (list : List Node). sort_at list 0) begun.1
begun_sort nodes false begun = ap (λ (list : List Node). sort_at list 1) begun.1

literal_given : (known : Known) (lists : List (List ℕ)) (n : ℕ) (value : Bool) → KnownAs known n value → IsGiven known lists (literal n value)
literal_given known lists n true is = is
literal_given known lists n false is = is

formula_of : (known : Known) (lists : List (List ℕ)) (n : ℕ) (value : Bool) → Fits known lists → KnownAs known n value
    → sort_at known.terms.nodes n ≡ Some prop
formula_of known lists n true fits is = fits.known_formula n (inl is)
formula_of known lists n false fits is = fits.known_formula n (inr is)

by_truth : (n : ℕ) (value : Bool) → IsTruth (literal n value ∷ []) (Same n (truth_node value))
by_truth n true = (n, inl (refl, refl))
by_truth n false = (n, inr (refl, refl))

pub truth_is_typed : TruthIsTyped
truth_is_typed known lists node value fits table left = (
  by_truth node value,
  record {
    given = one_given known lists (literal node value) (literal_given known lists node value left.known_as);
    formed =
        let own = formula_of known lists node value fits left.known_as in
        let other = begun_sort known.terms.nodes value table.1 in
        (subst (λ (s : Option ℕ). IsSome s) (sym own) refl, own ∙ sym other);
  },
)

-- ---- congruence

equal_given : (known : Known) (lists : List (List ℕ)) (xs ys : List ℕ) (premises : List Claim) → AllZip (AreTogether lists) xs ys
    → SayEqual xs ys premises → All (IsGiven known lists) premises
equal_given known lists [] [] [] zipped say = All-nil (IsGiven known lists)
equal_given known lists [] [] (p ∷ premises) zipped say = absurd say
equal_given known lists [] (y ∷ ys) premises zipped say = absurd zipped
equal_given known lists (x ∷ xs) [] premises zipped say = absurd zipped
equal_given known lists (x ∷ xs) (y ∷ ys) [] zipped say = absurd say
equal_given known lists (x ∷ xs) (y ∷ ys) (p ∷ premises) zipped say =
    All-cons (IsGiven known lists) p premises (subst (λ (c : Claim). IsGiven known lists c) (sym say.0) zipped.0)
    (equal_given known lists xs ys premises zipped.1 say.1)

some_premises : (xs ys : List ℕ) (premises : List Claim) → ¬ (xs ≡ []) → SayEqual xs ys premises → premises ≢ []
some_premises [] ys premises has say e = has refl
some_premises (x ∷ xs) [] premises has say e = say
some_premises (x ∷ xs) (y ∷ ys) [] has say e = say
some_premises (x ∷ xs) (y ∷ ys) (p ∷ premises) has say e = absurd cc

pub congruent_are_typed : CongruentAreTyped
congruent_are_typed known lists left right one other premises found first second say =
    let nodes = known.terms.nodes in
    let it = found.congruent in
    let is_one : it.left ≡ one = same_Some it.left one (sym it.left_is ∙ first) in
    let is_other : it.right ≡ other = same_Some it.right other (sym it.right_is ∙ second) in
    let heads_are : one.head ≡ other.head = ap (λ (n : Node). n.head) (sym is_one) ∙ it.head ∙ ap (λ (n : Node). n.head) is_other in
    let sorts_are : one.sort ≡ other.sort = ap (λ (n : Node). n.sort) (sym is_one) ∙ it.sort ∙ ap (λ (n : Node). n.sort) is_other in
    let has : ¬ (one.args ≡ []) = λ e. it.has_args (ap (λ (n : Node). n.args) is_one ∙ e) in
    let zipped : AllZip (AreTogether lists) one.args other.args =
    subst (λ (n : Node). AllZip (AreTogether lists) one.args n.args) is_other
    (subst (λ (n : Node). AllZip (AreTogether lists) n.args it.right.args) is_one it.args) in
    let own : sort_at nodes left ≡ Some one.sort = ap (option_map (λ (n : Node). n.sort)) first in
    let its : sort_at nodes right ≡ Some other.sort = ap (option_map (λ (n : Node). n.sort)) second in (
      (left, right, one, other, refl, first, second, heads_are, sorts_are, some_premises one.args other.args premises has say, say),
      record {
        given = equal_given known lists one.args other.args premises zipped say;
        formed = (subst (λ (s : Option ℕ). IsSome s) (sym own) refl, own ∙ ap (λ (s : ℕ). Some s) sorts_are ∙ sym its);
      },
    )

-- ---- contradictions

pub clash_is_typed : ClashIsTyped
clash_is_typed known lists (step.Truth node value) premises found rests = absurd found
clash_is_typed known lists (step.Congruent left right) premises found rests = absurd found
clash_is_typed known lists step.BothTruths premises found rests = (
  (refl, inr (Same true_node false_node, rests, inl (true_node, false_node, refl, inl (inl (refl, refl))))),
  record {
    given = subst (λ (list : List Claim). All (IsGiven known lists) list) (sym rests) (one_given known lists (Same true_node false_node) found);
    formed = tt;
  },
)
clash_is_typed known lists (step.Numbers left right) premises found rests = (
  (refl, inr (Same left right, rests, inl (left, right, refl, inr found.0))),
  record {
    given = subst (λ (list : List Claim). All (IsGiven known lists) list) (sym rests) (one_given known lists (Same left right) found.1);
    formed = tt;
  },
)
clash_is_typed known lists (step.Apart place) premises found rests =
    let pair = rests.0 in
    let same : found.0 ≡ pair = same_Some found.0 pair (sym found.1 ∙ rests.1) in
    let together = subst (λ (it : Couple). AreTogether lists it.left it.right) same found.2 in
    let a = pair.left in let b = pair.right in (
      (refl, inl (Same a b, Differ a b, inl rests.2, inr (a, b, refl, inl refl))),
      record {
        given = subst (λ (list : List Claim). All (IsGiven known lists) list) (sym rests.2)
            (two_given known lists (Same a b) (Differ a b) together (at_place known.apart place pair rests.1));
        formed = tt;
      },
    )
clash_is_typed known lists (step.Opposed node) premises found rests = (
  (refl, inl (Holds node, Fails node, inl rests, inl (node, refl, refl))),
  record {
    given = subst (λ (list : List Claim). All (IsGiven known lists) list) (sym rests)
        (two_given known lists (Holds node) (Fails node) found.0 found.1);
    formed = tt;
  },
)
clash_is_typed known lists step.Rest premises found rests = absurd found
