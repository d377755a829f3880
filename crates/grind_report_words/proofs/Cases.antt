-- Worked cases of lines.
use Rattle.std.proofs.Common.{lit<, ◌≡◌, ◌≢◌, ℕ, ◌<◌, negsuc, List, [], ◌∷◌, refl, sym, ap, ◌∙◌, inl, inr}
use Rattle.std.specs.Prelude.{codes, decimal}
use Rattle.std.specs.Fmt.{digits, signed_decimal}
use Rattle.std.proofs.lemmas.List.Elements.{All-from_recursion}
use Rattle.grind_report_words.specs.Words.{IsShort}
use Rattle.grind_report_words.specs.RuleRows.{PremiseFits}
use Rattle.grind_report_words.specs.declared.board.Premise.TheVariants as cited
use Rattle.grind_report_words.specs.Steps.{Between, Done, report_of}
use Rattle.grind_report_words.specs.StepCases.{EmptyReport, TableLine, PairOfNodes, LeadingZero, MinusZero, TermsOfNoGoal}
use Rattle.grind_report_words.proofs.NumberSpelling.{rest_is, number, number_back, integer, integer_back, integer_minus, first_of, lower_byte, other_byte}
use Rattle.grind_report_words.proofs.StepLemmas.{begins_goal}

abbrev IsNoColon : List ℕ → Type 0
IsNoColon word = word ≢ codes ":"

above : (b : ℕ) (bytes : List ℕ) → 58 < b → IsNoColon (b ∷ bytes)
above b bytes high e = other_byte b 58 bytes [] high e

below : (b : ℕ) (bytes : List ℕ) → b < 58 → IsNoColon (b ∷ bytes)
below b bytes low e = lower_byte b 58 bytes [] low e

pub empty_report : EmptyReport
unfolding digits
empty_report = (
  Between [],
  (refl, refl),
  (Done (report_of []), inr ((refl, All-from_recursion IsShort (0 ∷ []) (lit< tt, tt)), refl), refl),
)

pub table_line : TableLine
unfolding digits
table_line = record {
  step = codes "table" ∷ codes "2" ∷ codes "4" ∷ codes "6" ∷ codes "0" ∷ codes "12" ∷ codes ":" ∷ codes "holds" ∷ codes "6" ∷ [];
  are = refl;
  branch = lit< tt;
  says = record {
    before = codes "table" ∷ codes "2" ∷ codes "4" ∷ codes "6" ∷ codes "0" ∷ codes "12" ∷ [];
    after = codes "holds" ∷ codes "6" ∷ [];
    cut = record {
      are = refl;
      first = All-from_recursion IsNoColon (codes "table" ∷ codes "2" ∷ codes "4" ∷ codes "6" ∷ codes "0" ∷ codes "12" ∷ []) (
        above 116 (codes "able") (lit< tt),
        (
          below 50 [] (lit< tt),
          (
            below 52 [] (lit< tt),
            (
              below 54 [] (lit< tt),
              (below 48 [] (lit< tt), (below 49 (codes "2") (lit< tt), tt)),
            ),
          ),
        ),
      );
    };
    rule_is = (
      (refl, All-from_recursion IsShort (0 ∷ 12 ∷ []) (lit< tt, (lit< tt, tt))),
      lit< tt,
      All-from_recursion IsShort (4 ∷ 6 ∷ []) (lit< tt, (lit< tt, tt)),
    );
    says = (refl, All-from_recursion IsShort (6 ∷ []) (lit< tt, tt));
  };
}

pub pair_of_nodes : PairOfNodes
unfolding digits
pair_of_nodes = record {
  step = codes "cong" ∷ codes "3~4" ∷ codes ":" ∷ codes "same" ∷ codes "5" ∷ codes "6" ∷ [];
  are = refl;
  depth = lit< tt;
  says = record {
    before = codes "cong" ∷ codes "3~4" ∷ [];
    after = codes "same" ∷ codes "5" ∷ codes "6" ∷ [];
    cut = record {
      are = refl;
      first = All-from_recursion IsNoColon (codes "cong" ∷ codes "3~4" ∷ []) (above 99 (codes "ong") (lit< tt), (below 51 (codes "~4") (lit< tt), tt));
    };
    rule_is = (refl, All-from_recursion PremiseFits (cited.Pair 3 4 ∷ []) ((lit< tt, lit< tt), tt));
    says = (refl, All-from_recursion IsShort (5 ∷ 6 ∷ []) (lit< tt, (lit< tt, tt)));
  };
}

one_spelled : codes "01" ≡ decimal 1 → ⊥
unfolding digits
one_spelled e = lower_byte 48 49 (codes "1") [] (lit< tt) e

pub leading_zero : LeadingZero
leading_zero n h =
    let value : number (codes "01") ≡ n = ap number h.0 ∙ number_back n h.1 in
    one_spelled (h.0 ∙ ap decimal (sym value))

minus_one_spelled : codes "-0" ≡ signed_decimal (negsuc 0) → ⊥
unfolding digits
minus_one_spelled e = lower_byte 48 49 [] [] (lit< tt) (rest_is 45 45 (48 ∷ []) (49 ∷ []) e)

pub minus_zero : MinusZero
minus_zero z h =
    let value : negsuc 0 ≡ z = sym (integer_minus (codes "0")) ∙ ap integer h.0 ∙ integer_back z h.1 in
    minus_one_spelled (h.0 ∙ ap signed_decimal (sym value))

no_goal : codes "terms" ≡ codes "goal" → ⊥
no_goal e = absurd (cc e)

no_end : codes "terms" ≡ codes "end" → ⊥
no_end e = absurd (cc e)

pub terms_of_no_goal : TermsOfNoGoal
terms_of_no_goal next (inl step) = no_goal (begins_goal [] (codes "terms" ∷ codes "5" ∷ []) next step.0)
terms_of_no_goal next (inr step) = no_end (ap first_of step.0.0)
