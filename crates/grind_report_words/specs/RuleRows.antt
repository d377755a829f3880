-- The words of rules with their premises. In a proof a premise is the number of a line; on a board it is that of a post, or two
-- nodes that earlier posts have joined.
use Rattle.std.specs.Prelude.{◌≡◌, ℕ, List, [], ◌∷◌, ◌++◌, ◌⊎◌, length, map, All, codes, decimal, ℤ}
use Rattle.std.specs.Fmt.{signed_decimal}
use Rattle.grind_polynomials.specs.declared.poly.Term.{Term}
use Rattle.grind_claims.specs.declared.proof.Rule.{Rule}
use Rattle.grind_claims.specs.declared.proof.Rule.TheVariants as rules
use Rattle.grind_report_words.specs.declared.board.Premise.{Premise}
use Rattle.grind_report_words.specs.declared.board.Premise.TheVariants as premises_of
use Rattle.grind_report_words.specs.Words.{Words, IsShort, IsWide, IsRow}
use Rattle.grind_report_words.specs.Claims.{poly_words, PolyFits}

-- the word of a premise of a post: a number, or two nodes with `~` between them
abbrev pub premise_word : Premise → List ℕ
premise_word (premises_of.Post i) = decimal i
premise_word (premises_of.Pair a b) = decimal a ++ (codes "~" ++ decimal b)

-- its numbers may stand in a report
abbrev pub PremiseFits : Premise → Type 0
PremiseFits (premises_of.Post i) = IsShort i
PremiseFits (premises_of.Pair a b) = IsShort a × IsShort b

module _ {P : Type 0} (word : P → List ℕ) (Fits : P → Type 0) where
  -- the words of factors, each with the premise that it belongs to
  abbrev pub paired : {A : Type 0} → (A → P → Words) → List A → List P → Words
  paired both [] premises = []
  paired both (factor ∷ factors) [] = []
  paired both (factor ∷ factors) (premise ∷ premises) = both factor premise ++ paired both factors premises

  -- a number stands before the premise that it belongs to
  abbrev pub factor_first : ℤ → P → Words
  factor_first factor premise = signed_decimal factor ∷ word premise ∷ []

  -- a polynomial stands after the premise that it belongs to
  abbrev pub factor_behind : List Term → P → Words
  factor_behind factor premise = word premise ∷ poly_words factor

  -- the words are these and the premises after them
  abbrev pub Cites : Words → Words → List P → Type 0
  Cites words head premises = (words ≡ head ++ map word premises) × All Fits premises

  -- the words are a title and so many premises
  abbrev pub CitesOf : ℕ → Words → List ℕ → List P → Type 0
  CitesOf count words title premises = Cites words (title ∷ []) premises × (length premises ≡ count)

  -- the words say this rule and these premises. The free nodes of `table` are counted, and listed before the premises; those
  -- of `inst` are listed to the end, since it has no premise; a factor of `combine` stands before its premise, and one of
  -- `ideal` after it
  abbrev pub IsRule : Words → Rule → List P → Type 0
  IsRule words (rules.Hyp i) premises = IsRow words (codes "hyp") (i ∷ []) × (premises ≡ [])
  IsRule words rules.Negated premises = CitesOf 0 words (codes "negated") premises
  IsRule words (rules.Inst t subst) premises = IsRow words (codes "inst") (t ∷ subst) × (premises ≡ [])
  IsRule words rules.Branch premises = CitesOf 0 words (codes "branch") premises
  IsRule words rules.Refl premises = CitesOf 0 words (codes "refl") premises
  IsRule words rules.Sym premises = CitesOf 1 words (codes "sym") premises
  IsRule words rules.Trans premises = CitesOf 2 words (codes "trans") premises
  IsRule words rules.Cong premises = Cites words (codes "cong" ∷ []) premises
  IsRule words rules.Eq premises = CitesOf 1 words (codes "eq") premises
  IsRule words rules.Back premises = CitesOf 1 words (codes "back") premises
  IsRule words rules.Truth premises = CitesOf 1 words (codes "truth") premises
  IsRule words rules.Untruth premises = CitesOf 1 words (codes "untruth") premises
  IsRule words (rules.Table free) premises =
      Cites words (codes "table" ∷ decimal (length free) ∷ map decimal free) premises × IsShort (length free) × All IsShort free
  IsRule words rules.Read premises = CitesOf 1 words (codes "read") premises
  IsRule words rules.Write premises = CitesOf 1 words (codes "write") premises
  IsRule words rules.Line premises = CitesOf 1 words (codes "line") premises
  IsRule words rules.Poly premises = CitesOf 1 words (codes "poly") premises
  IsRule words (rules.Combine divisor factors) premises =
      (words ≡ codes "combine" ∷ signed_decimal divisor ∷ paired factor_first factors premises)
      × IsWide divisor × All IsWide factors × All Fits premises × (length premises ≡ length factors)
  IsRule words rules.Pinch premises = CitesOf 2 words (codes "pinch") premises
  IsRule words rules.Strict premises = CitesOf 2 words (codes "strict") premises
  IsRule words rules.Apart premises =
      Cites words (codes "apart" ∷ []) premises × ((length premises ≡ 0) ⊎ ((length premises ≡ 1) ⊎ (length premises ≡ 3)))
  IsRule words (rules.Ideal divisor factors) premises =
      (words ≡ codes "ideal" ∷ signed_decimal divisor ∷ paired factor_behind factors premises)
      × IsWide divisor × All PolyFits factors × All Fits premises × (length premises ≡ length factors)
  IsRule words rules.Equal premises = CitesOf 1 words (codes "equal") premises
  IsRule words rules.Clash premises =
      Cites words (codes "clash" ∷ []) premises × ((length premises ≡ 1) ⊎ (length premises ≡ 2))
