-- The words of a term, of a claim and of evidence say one alone.
use Rattle.std.proofs.Common.{◌≡◌, ℕ, cond, List, [], ◌∷◌, map, All, decimal, ℤ, sym, ap, ◌∙◌}
use Rattle.std.specs.Prelude.{codes, bytes_eq}
use Rattle.std.proofs.lemmas.List.{append-nil}
use Rattle.std.proofs.lemmas.List.Elements.{recursion_from_All}
use Rattle.grind_linear_forms.specs.Forms.{FormData}
use Rattle.grind_polynomials.specs.declared.poly.Term.{Term}
use Rattle.grind_claims.specs.declared.claim.Claim.{Claim}
use Rattle.grind_claims.specs.declared.claim.Claim.TheVariants as claims
use Rattle.grind_report_words.specs.declared.term.RawTerm.{RawTerm}
use Rattle.grind_report_words.specs.declared.term.RawTerm.TheVariants.{True, False, Const, Fun, Int, Not, And, Or, Implies, Eq, Le, Add, Neg, Mul}
use Rattle.grind_report_words.specs.declared.board.Evidence.{Evidence}
use Rattle.grind_report_words.specs.declared.board.Evidence.TheVariants as evidence
use Rattle.grind_report_words.specs.Words.{Words, IsShort}
use Rattle.grind_report_words.specs.Terms.{IsTerm}
use Rattle.grind_report_words.specs.Claims.{IsClaim, poly_words}
use Rattle.grind_report_words.specs.Boards.{IsEvidence}
use Rattle.grind_report_words.proofs.NumberSpelling.{first_of, rest_of, number, number_back, numbers_back, integer, integer_back, one_of, other_of, both_back}
use Rattle.grind_report_words.proofs.FormSpelling.{form_from, form_back, poly_from, poly_back}

pub short_one : (a : ℕ) → All IsShort (a ∷ []) → IsShort a
short_one a h = (recursion_from_All IsShort (a ∷ []) h).0

short_two : (a b : ℕ) → All IsShort (a ∷ b ∷ []) → IsShort a × IsShort b
short_two a b h = let both = recursion_from_All IsShort (a ∷ b ∷ []) h in (both.0, both.1.0)

term_from : Words → RawTerm
term_from words =
    cond (bytes_eq (first_of words) (codes "true")) True (cond (bytes_eq (first_of words) (codes "false")) False
    (cond (bytes_eq (first_of words) (codes "const")) (Const (first_of (rest_of words)))
    (cond (bytes_eq (first_of words) (codes "fun")) (Fun (first_of (rest_of words)) (map number (rest_of (rest_of words))))
    (cond (bytes_eq (first_of words) (codes "int")) (Int (integer (first_of (rest_of words))))
    (cond (bytes_eq (first_of words) (codes "not")) (Not (one_of words)) (cond (bytes_eq (first_of words) (codes "and")) (And (one_of words) (other_of words))
    (cond (bytes_eq (first_of words) (codes "or")) (Or (one_of words) (other_of words)) (cond (bytes_eq (first_of words) (codes "implies")) (Implies (one_of words) (other_of words))
    (cond (bytes_eq (first_of words) (codes "eq")) (Eq (one_of words) (other_of words)) (cond (bytes_eq (first_of words) (codes "le")) (Le (one_of words) (other_of words))
    (cond (bytes_eq (first_of words) (codes "add")) (Add (one_of words) (other_of words)) (cond (bytes_eq (first_of words) (codes "neg")) (Neg (one_of words)) (Mul (one_of words) (other_of words))))))))))))))

term_back : (words : Words) (t : RawTerm) → IsTerm words t → term_from words ≡ t
unfolding term_from
term_back words True h = ap term_from h.0
term_back words False h = ap term_from h.0
term_back words (Const name) h = ap term_from h.0
term_back words (Fun name args) h = ap term_from h.0 ∙ ap (Fun name) (numbers_back args (recursion_from_All IsShort args h.2))
term_back words (Int value) h = ap term_from h.0 ∙ ap (λ (z : ℤ). Int z) (integer_back value h.1)
term_back words (Not a) h = ap term_from h.0 ∙ ap (λ (x : ℕ). Not x) (number_back a (short_one a h.1))
term_back words (And a b) h = ap term_from h.0 ∙ both_back (λ (x y : ℕ). And x y) a b (short_two a b h.1)
term_back words (Or a b) h = ap term_from h.0 ∙ both_back (λ (x y : ℕ). Or x y) a b (short_two a b h.1)
term_back words (Implies a b) h = ap term_from h.0 ∙ both_back (λ (x y : ℕ). Implies x y) a b (short_two a b h.1)
term_back words (Eq a b) h = ap term_from h.0 ∙ both_back (λ (x y : ℕ). Eq x y) a b (short_two a b h.1)
term_back words (Le a b) h = ap term_from h.0 ∙ both_back (λ (x y : ℕ). Le x y) a b (short_two a b h.1)
term_back words (Add a b) h = ap term_from h.0 ∙ both_back (λ (x y : ℕ). Add x y) a b (short_two a b h.1)
term_back words (Neg a) h = ap term_from h.0 ∙ ap (λ (x : ℕ). Neg x) (number_back a (short_one a h.1))
term_back words (Mul a b) h = ap term_from h.0 ∙ both_back (λ (x y : ℕ). Mul x y) a b (short_two a b h.1)

-- the words of a term say one term
pub one_term : (words : Words) (s t : RawTerm) → IsTerm words s → IsTerm words t → s ≡ t
one_term words s t hs ht = sym (term_back words s hs) ∙ term_back words t ht

claim_from : Words → Claim
claim_from words =
    cond (bytes_eq (first_of words) (codes "holds")) (claims.Holds (one_of words))
    (cond (bytes_eq (first_of words) (codes "fails")) (claims.Fails (one_of words))
    (cond (bytes_eq (first_of words) (codes "same")) (claims.Same (one_of words) (other_of words))
    (cond (bytes_eq (first_of words) (codes "differ")) (claims.Differ (one_of words) (other_of words))
    (cond (bytes_eq (first_of words) (codes "atmost")) (claims.AtMost (form_from (rest_of words)))
    (cond (bytes_eq (first_of words) (codes "zero")) (claims.Zero (poly_from (rest_of words))) claims.Absurd)))))

claim_back : (words : Words) (claim : Claim) → IsClaim words claim → claim_from words ≡ claim
unfolding claim_from
claim_back words (claims.Holds n) h = ap claim_from h.0 ∙ ap (λ (x : ℕ). claims.Holds x) (number_back n (short_one n h.1))
claim_back words (claims.Fails n) h = ap claim_from h.0 ∙ ap (λ (x : ℕ). claims.Fails x) (number_back n (short_one n h.1))
claim_back words (claims.Same a b) h = ap claim_from h.0 ∙ both_back (λ (x y : ℕ). claims.Same x y) a b (short_two a b h.1)
claim_back words (claims.Differ a b) h = ap claim_from h.0 ∙ both_back (λ (x y : ℕ). claims.Differ x y) a b (short_two a b h.1)
claim_back words (claims.AtMost form) h = ap claim_from h.0 ∙ ap (λ (f : FormData). claims.AtMost f) (form_back form h.1)
claim_back words (claims.Zero poly) h =
    ap claim_from h.0 ∙ ap (λ (ws : Words). claims.Zero (poly_from ws)) (sym (append-nil (poly_words poly)))
    ∙ ap (λ (p : List Term). claims.Zero p) (poly_back poly [] h.1)
claim_back words claims.Absurd h = ap claim_from h.0

-- those of a claim say one claim
pub one_claim : (words : Words) (a b : Claim) → IsClaim words a → IsClaim words b → a ≡ b
one_claim words a b ha hb = sym (claim_back words a ha) ∙ claim_back words b hb

evidence_from : Words → Evidence
evidence_from words =
    cond (bytes_eq (first_of words) (codes "none")) evidence.Nothing
    (cond (bytes_eq (first_of words) (codes "instance")) (evidence.Instance (one_of words) (map number (rest_of (rest_of words))))
    (cond (bytes_eq (first_of words) (codes "node")) (evidence.Node (one_of words))
    (cond (bytes_eq (first_of words) (codes "post")) (evidence.Post (one_of words))
    (cond (bytes_eq (first_of words) (codes "pair")) (evidence.Pair (one_of words) (other_of words)) (evidence.Gap (form_from (rest_of words)))))))

evidence_back : (words : Words) (it : Evidence) → IsEvidence words it → evidence_from words ≡ it
unfolding evidence_from
evidence_back words evidence.Nothing h = ap evidence_from h.0
evidence_back words (evidence.Instance t subst) h =
    let each = recursion_from_All IsShort (t ∷ subst) h.1 in
    ap evidence_from h.0 ∙ ap (λ (x : ℕ). evidence.Instance x (map number (map decimal subst))) (number_back t each.0)
    ∙ ap (λ (ns : List ℕ). evidence.Instance t ns) (numbers_back subst each.1)
evidence_back words (evidence.Node n) h = ap evidence_from h.0 ∙ ap (λ (x : ℕ). evidence.Node x) (number_back n (short_one n h.1))
evidence_back words (evidence.Post i) h = ap evidence_from h.0 ∙ ap (λ (x : ℕ). evidence.Post x) (number_back i (short_one i h.1))
evidence_back words (evidence.Pair i j) h = ap evidence_from h.0 ∙ both_back (λ (x y : ℕ). evidence.Pair x y) i j (short_two i j h.1)
evidence_back words (evidence.Gap form) h = ap evidence_from h.0 ∙ ap (λ (f : FormData). evidence.Gap f) (form_back form h.1)

-- those of evidence say one evidence
pub one_evidence : (words : Words) (a b : Evidence) → IsEvidence words a → IsEvidence words b → a ≡ b
one_evidence words a b ha hb = sym (evidence_back words a ha) ∙ evidence_back words b hb
