-- The words of a branch, of a line and of a post say one alone.
use Rattle.std.proofs.Common.{◌≡◌, ℕ, List, [], ◌∷◌, ◌++◌, decimal, refl, sym, ap, ◌∙◌, subst}
use Rattle.std.specs.Prelude.{◌≢◌, codes}
use Rattle.std.specs.List.{AllByRecursion}
use Rattle.std.proofs.lemmas.List.Elements.{recursion_from_All}
use Rattle.grind_claims.specs.declared.claim.Claim.{Claim}
use Rattle.grind_claims.specs.declared.proof.Branch.{Branch}
use Rattle.grind_claims.specs.declared.proof.Line.{Line}
use Rattle.grind_claims.specs.declared.proof.Rule.{Rule}
use Rattle.grind_report_words.specs.declared.board.Post.{Post}
use Rattle.grind_report_words.specs.declared.board.Premise.{Premise}
use Rattle.grind_report_words.specs.Words.{Words, IsShort}
use Rattle.grind_report_words.specs.Claims.{IsClaim}
use Rattle.grind_report_words.specs.RuleRows.{premise_word, PremiseFits, IsRule}
use Rattle.grind_report_words.specs.Lines.{IsBranch, IsCut, IsStep, IsLine, IsPost}
use Rattle.grind_report_words.proofs.NumberSpelling.{first_is, rest_is, same_number}
use Rattle.grind_report_words.proofs.ItemLemmas.{one_claim}
use Rattle.grind_report_words.proofs.RuleLemmas.{one_rule}
use Rattle.grind_report_words.proofs.PremiseLemmas.{same_premise}

abbrev branch_of_parts : ℕ → ℕ → Claim → Branch
branch_of_parts parent after literal = record { parent = parent; after = after; literal = literal }

pub one_branch : (words : Words) (a b : Branch) → IsBranch words a → IsBranch words b → a ≡ b
one_branch words a b ha hb =
    let e : decimal a.parent ∷ decimal a.after ∷ ha.claim ≡ decimal b.parent ∷ decimal b.after ∷ hb.claim = sym ha.are ∙ hb.are in
    let rest : decimal a.after ∷ ha.claim ≡ decimal b.after ∷ hb.claim = rest_is (decimal a.parent) (decimal b.parent) (decimal a.after ∷ ha.claim) (decimal b.after ∷ hb.claim) e in
    let parent : a.parent ≡ b.parent = same_number a.parent b.parent ha.parent hb.parent (first_is (decimal a.parent) (decimal b.parent) (decimal a.after ∷ ha.claim) (decimal b.after ∷ hb.claim) e) in
    let after : a.after ≡ b.after = same_number a.after b.after ha.after hb.after (first_is (decimal a.after) (decimal b.after) ha.claim hb.claim rest) in
    let claims : ha.claim ≡ hb.claim = rest_is (decimal a.after) (decimal b.after) ha.claim hb.claim rest in
    let literal : a.literal ≡ b.literal = one_claim hb.claim a.literal b.literal (subst (λ (ws : Words). IsClaim ws a.literal) claims ha.says) hb.says in
    ap (λ (x : ℕ). branch_of_parts x a.after a.literal) parent ∙ ap (λ (x : ℕ). branch_of_parts b.parent x a.literal) after ∙ ap (λ (x : Claim). branch_of_parts b.parent b.after x) literal

-- words are parted by their first colon in one way
same_cut : (xs ys us vs : Words) → AllByRecursion (λ (word : List ℕ). word ≢ codes ":") xs → AllByRecursion (λ (word : List ℕ). word ≢ codes ":") us
    → xs ++ codes ":" ∷ ys ≡ us ++ codes ":" ∷ vs → (xs ≡ us) × (ys ≡ vs)
same_cut [] ys [] vs hx hu e = (refl, rest_is (codes ":") (codes ":") ys vs e)
same_cut [] ys (u ∷ us) vs hx hu e = absurd (hu.0 (sym (first_is (codes ":") u ys (us ++ codes ":" ∷ vs) e)))
same_cut (x ∷ xs) ys [] vs hx hu e = absurd (hx.0 (first_is x (codes ":") (xs ++ codes ":" ∷ ys) vs e))
same_cut (x ∷ xs) ys (u ∷ us) vs hx hu e =
    let one : x ≡ u = first_is x u (xs ++ codes ":" ∷ ys) (us ++ codes ":" ∷ vs) e in
    let more = same_cut xs ys us vs hx.1 hu.1 (rest_is x u (xs ++ codes ":" ∷ ys) (us ++ codes ":" ∷ vs) e) in
    let front : xs ≡ us = more.0 in
    (cc, more.1)

pub one_cut : (words before after front back : Words) → IsCut words before after → IsCut words front back → (before ≡ front) × (after ≡ back)
one_cut words before after front back one other =
    same_cut before after front back (recursion_from_All (λ (word : List ℕ). word ≢ codes ":") before one.first)
    (recursion_from_All (λ (word : List ℕ). word ≢ codes ":") front other.first) (sym one.are ∙ other.are)

module _ (P : Type 0) (word : P → List ℕ) (Fits : P → Type 0) (same_word : (p q : P) → Fits p → Fits q → word p ≡ word q → p ≡ q) where
  one_way : (words : Words) (a b : Rule) (ps qs : List P) (c d : Claim) → IsStep word Fits words a ps c → IsStep word Fits words b qs d
      → (a ≡ b) × (ps ≡ qs) × (c ≡ d)
  one_way words a b ps qs c d ha hb =
      let cut = one_cut words ha.before ha.after hb.before hb.after ha.cut hb.cut in
      let rule = one_rule P word Fits same_word hb.before a b ps qs (subst (λ (ws : Words). IsRule word Fits ws a ps) cut.0 ha.rule_is) hb.rule_is in
      (rule.0, rule.1, one_claim hb.after c d (subst (λ (ws : Words). IsClaim ws c) cut.1 ha.says) hb.says)

abbrev line_of_parts : ℕ → Rule → List ℕ → Claim → Line
line_of_parts branch rule premises claim = record { branch = branch; rule = rule; premises = premises; claim = claim }

same_line_parts : (i j : ℕ) (r s : Rule) (ps qs : List ℕ) (c d : Claim) → i ≡ j → r ≡ s → ps ≡ qs → c ≡ d → line_of_parts i r ps c ≡ line_of_parts j s qs d
same_line_parts i j r s ps qs c d e1 e2 e3 e4 =
    ap (λ (x : ℕ). line_of_parts x r ps c) e1 ∙ ap (λ (x : Rule). line_of_parts j x ps c) e2 ∙ ap (λ (x : List ℕ). line_of_parts j s x c) e3 ∙ ap (λ (x : Claim). line_of_parts j s qs x) e4

pub one_line : (words : Words) (a b : Line) → IsLine words a → IsLine words b → a ≡ b
one_line words a b ha hb =
    let e : decimal a.branch ∷ ha.step ≡ decimal b.branch ∷ hb.step = sym ha.are ∙ hb.are in
    let branch : a.branch ≡ b.branch = same_number a.branch b.branch ha.branch hb.branch (first_is (decimal a.branch) (decimal b.branch) ha.step hb.step e) in
    let steps : ha.step ≡ hb.step = rest_is (decimal a.branch) (decimal b.branch) ha.step hb.step e in
    let way = one_way ℕ decimal IsShort same_number hb.step a.rule b.rule a.premises b.premises a.claim b.claim
    (subst (λ (ws : Words). IsStep decimal IsShort ws a.rule a.premises a.claim) steps ha.says) hb.says in
    same_line_parts a.branch b.branch a.rule b.rule a.premises b.premises a.claim b.claim branch way.0 way.1 way.2

abbrev post_of_parts : ℕ → Rule → List Premise → Claim → Post
post_of_parts depth rule premises claim = record { depth = depth; rule = rule; premises = premises; claim = claim }

same_post_parts : (i j : ℕ) (r s : Rule) (ps qs : List Premise) (c d : Claim) → i ≡ j → r ≡ s → ps ≡ qs → c ≡ d → post_of_parts i r ps c ≡ post_of_parts j s qs d
same_post_parts i j r s ps qs c d e1 e2 e3 e4 =
    ap (λ (x : ℕ). post_of_parts x r ps c) e1 ∙ ap (λ (x : Rule). post_of_parts j x ps c) e2 ∙ ap (λ (x : List Premise). post_of_parts j s x c) e3 ∙ ap (λ (x : Claim). post_of_parts j s qs x) e4

pub one_post : (words : Words) (a b : Post) → IsPost words a → IsPost words b → a ≡ b
one_post words a b ha hb =
    let e : decimal a.depth ∷ ha.step ≡ decimal b.depth ∷ hb.step = sym ha.are ∙ hb.are in
    let depth : a.depth ≡ b.depth = same_number a.depth b.depth ha.depth hb.depth (first_is (decimal a.depth) (decimal b.depth) ha.step hb.step e) in
    let steps : ha.step ≡ hb.step = rest_is (decimal a.depth) (decimal b.depth) ha.step hb.step e in
    let way = one_way Premise premise_word PremiseFits same_premise hb.step a.rule b.rule a.premises b.premises a.claim b.claim
    (subst (λ (ws : Words). IsStep premise_word PremiseFits ws a.rule a.premises a.claim) steps ha.says) hb.says in
    same_post_parts a.depth b.depth a.rule b.rule a.premises b.premises a.claim b.claim depth way.0 way.1 way.2
