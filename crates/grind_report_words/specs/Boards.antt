-- The lines of a board.
use Rattle.std.specs.Prelude.{◌≡◌, ◌≢◌, ◌<◌, ℕ, List, [], ◌∷◌, length, map, flat_map, All, Option, Some, None, codes, decimal}
use Rattle.std.specs.Fmt.{signed_decimal}
use Rattle.grind_report_words.specs.declared.board.Entry.{Entry}
use Rattle.grind_report_words.specs.declared.board.Evidence.{Evidence}
use Rattle.grind_report_words.specs.declared.board.Evidence.TheVariants as evidence
use Rattle.grind_report_words.specs.declared.board.Reason.{Reason}
use Rattle.grind_report_words.specs.declared.board.Reason.TheVariants as reason
use Rattle.grind_report_words.specs.declared.board.Value.{Value}
use Rattle.grind_report_words.specs.Words.{Words, IsShort, IsWide, IsRow}
use Rattle.grind_report_words.specs.Claims.{form_words, FormFits}

-- the word of a reason
abbrev pub reason_word : Reason → List ℕ
reason_word reason.Instances = codes "instances"
reason_word reason.Coefficient = codes "coefficient"
reason_word reason.Cuts = codes "cuts"
reason_word reason.Pairs = codes "pairs"
reason_word reason.Splits = codes "splits"
reason_word reason.Generation = codes "generation"
reason_word reason.Saturated = codes "saturated"

-- the word of a term's generation: a number, or `-` where it is not active
abbrev pub generation_word : Option ℕ → List ℕ
generation_word None = codes "-"
generation_word (Some generation) = decimal generation

-- a generation that a report may hold
abbrev pub GenerationFits : Option ℕ → Type 0
GenerationFits None = Unit {0}
GenerationFits (Some generation) = IsShort generation

-- the words are the generations of so many terms
pub record AreGenerations (words : Words) (count : ℕ) (generations : List (Option ℕ)) : Type 0 where
  pub are : words ≡ codes "generations" ∷ map generation_word generations
  pub fit : All GenerationFits generations
  pub each : length generations ≡ count

-- the words are the members of a class: its root, and the others
pub record IsClass (words : Words) (members : List ℕ) : Type 0 where
  pub are : words ≡ map decimal members
  pub fit : All IsShort members
  pub some : members ≢ []

-- the words are the cursors of the five agents
pub record AreCursors (words : Words) (cursors : List ℕ) : Type 0 where
  pub are : IsRow words (codes "cursors") cursors
  pub five : length cursors ≡ 5

-- the words are the posts of the basis, after their count
pub record IsBasis (words : Words) (basis : List ℕ) : Type 0 where
  pub are : IsRow words (codes "basis") (length basis ∷ basis)

-- the words of a value: the node, and its value
abbrev pub value_words : Value → Words
value_words value = decimal value.node ∷ signed_decimal value.value ∷ []

-- a value that a report may hold
pub record ValueFits (it : Value) : Type 0 where
  pub node : IsShort it.node
  pub value : IsWide it.value

-- the nodes of the values rise
abbrev pub AreRising : List Value → Type 0
AreRising [] = Unit {0}
AreRising (value ∷ []) = Unit {0}
AreRising (value ∷ next ∷ values) = (value.node < next.node) × AreRising (next ∷ values)

-- the words are the values, after their count, or `none` where there is no assignment
abbrev pub AreValues : Words → Option (List Value) → Type 0
AreValues words None = words ≡ codes "values" ∷ codes "none" ∷ []
AreValues words (Some values) =
    (words ≡ codes "values" ∷ decimal (length values) ∷ flat_map value_words values)
    × IsShort (length values) × All ValueFits values × AreRising values

-- the words say this instance: its theorem, and the nodes that stand for the variables
pub record IsEntry (words : Words) (entry : Entry) : Type 0 where
  pub are : words ≡ decimal entry.theorem ∷ map decimal entry.subst
  pub fit : All IsShort (entry.theorem ∷ entry.subst)

-- the words after `evidence` say this
abbrev pub IsEvidence : Words → Evidence → Type 0
IsEvidence words evidence.Nothing = IsRow words (codes "none") []
IsEvidence words (evidence.Instance t subst) = IsRow words (codes "instance") (t ∷ subst)
IsEvidence words (evidence.Node n) = IsRow words (codes "node") (n ∷ [])
IsEvidence words (evidence.Post i) = IsRow words (codes "post") (i ∷ [])
IsEvidence words (evidence.Pair i j) = IsRow words (codes "pair") (i ∷ j ∷ [])
IsEvidence words (evidence.Gap form) = (words ≡ codes "gap" ∷ form_words form) × FormFits form
