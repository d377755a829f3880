-- What is known fits the classes.
use Rattle.std.specs.Prelude.{◌≡◌, ℕ, suc, List, [], ◌∷◌, Option, Some, None, All, Contains, refl}
use Rattle.std.specs.List.{filter_map, cons_option}
use Rattle.std.proofs.Common.{sym, ap, subst, ◌∙◌, inl, inr}
use Rattle.std.proofs.lemmas.Option.{same_Some}
use Rattle.std.proofs.lemmas.List.Elements.{All-nil, All-cons}
use Rattle.grind_term_graph.specs.declared.node.Node.{Node}
use Rattle.grind_term_graph.specs.Terms.{prop, sort_at}
use Rattle.grind_claims.specs.declared.claim.Claim.{Claim}
use Rattle.grind_claims.specs.declared.claim.Claim.TheVariants as claims
use Rattle.grind_report_words.specs.declared.board.Post.{Post}
use Rattle.grind_truth_prop.specs.Given.{couple, IsKnown, ArePaired}
use Rattle.grind_truth_prop.specs.declared.types.Couple.{Couple}
use Rattle.grind_journal.specs.Posts.{Stands}
use Rattle.grind_journal.specs.Joins.{Joined, posted, itself, turned, chained}
use Rattle.grind_known_posts.specs.Known.{equal_nodes, different_nodes}
use Rattle.grind_known_posts.specs.Laws.{SpeakOfActive, KnownFits}

-- joined nodes are of one sort
joined_sorts : (nodes : List Node) (active : List ℕ) (posts : List Post) → SpeakOfActive nodes active posts → {a b : ℕ}
    → Joined active posts a b → sort_at nodes a ≡ sort_at nodes b
joined_sorts nodes active posts speak (posted {a = a} {b = b} stands left right) = (speak (claims.Same a b) stands).0.1
joined_sorts nodes active posts speak (itself here) = refl
joined_sorts nodes active posts speak (turned d) = sym (joined_sorts nodes active posts speak d)
joined_sorts nodes active posts speak (chained first second) =
    joined_sorts nodes active posts speak first ∙ joined_sorts nodes active posts speak second

cons_all : (P : Couple → Type 0) (o : Option Couple) (rest : List Couple) → ((c : Couple) → o ≡ Some c → P c) → All P rest
    → All P (cons_option o rest)
cons_all P None rest first others = others
cons_all P (Some c) rest first others = All-cons P c rest (first c refl) others

-- what holds of all that the standing claims give holds of the list of it
all_said : (h : Claim → Option Couple) (P : Couple → Type 0) (posts : List Post)
    → ((claim : Claim) (c : Couple) → Stands posts claim → h claim ≡ Some c → P c) → All P (filter_map (λ (it : Post). h it.claim) posts)
all_said h P [] each = All-nil P
all_said h P (post ∷ posts) each =
    cons_all P (h post.claim) (filter_map (λ (it : Post). h it.claim) posts)
    (λ c e. each post.claim c (0, (post, refl, refl)) e)
    (all_said h P posts (λ claim c stands e. each claim c (suc stands.0, stands.1) e))

equal_is : (claim : Claim) (c : Couple) → equal_nodes claim ≡ Some c → claim ≡ claims.Same c.left c.right
equal_is (claims.Same left right) c e = ap (λ (it : Couple). claims.Same it.left it.right) (same_Some (couple left right) c e)
equal_is (claims.Holds n) c e = absurd cc
equal_is (claims.Fails n) c e = absurd cc
equal_is (claims.Differ left right) c e = absurd cc
equal_is (claims.AtMost form) c e = absurd cc
equal_is (claims.Zero poly) c e = absurd cc
equal_is claims.Absurd c e = absurd cc

different_is : (claim : Claim) (c : Couple) → different_nodes claim ≡ Some c → claim ≡ claims.Differ c.left c.right
different_is (claims.Differ left right) c e = ap (λ (it : Couple). claims.Differ it.left it.right) (same_Some (couple left right) c e)
different_is (claims.Holds n) c e = absurd cc
different_is (claims.Fails n) c e = absurd cc
different_is (claims.Same left right) c e = absurd cc
different_is (claims.AtMost form) c e = absurd cc
different_is (claims.Zero poly) c e = absurd cc
different_is claims.Absurd c e = absurd cc

pub known_fits : KnownFits
known_fits active posts read known closure knows speak speak_read fits is_active right = record {
  within = fits.within;
  args = fits.args;
  one_sort = λ a b together. joined_sorts known.terms.nodes active read speak_read ((right a b).0 together);
  holds_count = knows.marks.holds_count;
  fails_count = knows.marks.fails_count;
  known_active = λ n known_is. (is_active n).1 (truth n known_is).1;
  known_formula = λ n known_is. (truth n known_is).0;
  same_paired = subst (λ (list : List Couple). All (ArePaired known closure.lists) list) (sym knows.same)
      (all_said equal_nodes (ArePaired known closure.lists) posts paired_same);
  apart_paired = subst (λ (list : List Couple). All (ArePaired known closure.lists) list) (sym knows.apart)
      (all_said different_nodes (ArePaired known closure.lists) posts paired_apart);
}
  where
    truth : (n : ℕ) → IsKnown known n → (sort_at known.terms.nodes n ≡ Some prop) × Contains active n
    truth n (inl holds) = let it = speak (claims.Holds n) ((knows.holds n).0 holds) in (it.0, it.1)
    truth n (inr fails) = let it = speak (claims.Fails n) ((knows.fails n).0 fails) in (it.0, it.1)

    paired_same : (claim : Claim) (c : Couple) → Stands posts claim → equal_nodes claim ≡ Some c → ArePaired known closure.lists c
    paired_same claim c stands e =
        let it = speak (claims.Same c.left c.right) (subst (λ (k : Claim). Stands posts k) (equal_is claim c e) stands) in
        record { left = (is_active c.left).1 it.1.0; right = (is_active c.right).1 it.1.1; sort = it.0.1 }

    paired_apart : (claim : Claim) (c : Couple) → Stands posts claim → different_nodes claim ≡ Some c → ArePaired known closure.lists c
    paired_apart claim c stands e =
        let it = speak (claims.Differ c.left c.right) (subst (λ (k : Claim). Stands posts k) (different_is claim c e) stands) in
        record { left = (is_active c.left).1 it.1.0; right = (is_active c.right).1 it.1.1; sort = it.0.1 }
