-- Two longest runs at the front of one text are one.
use Rattle.std.proofs.Common.{◌≡◌, ℕ, ◌<◌, List, [], ◌∷◌, ◌++◌, length, refl, sym, ap, ◌∙◌, subst, arith, append_assoc}
use Rattle.std.proofs.lemmas.Str.{encode_same, encode_ascii}
use lib.Utf8.{low_scalar}
use Rattle.std.specs.Prelude.{encode_utf8, encode_utf8_all}
use Rattle.std.specs.Char.{IsScalar}
use Rattle.std.specs.List.{AllByRecursion}
use Rattle.std.specs.Str.{StartsWithNoChar}
use Rattle.grind_tokens.proofs.CharacterLemmas.{no_character-nil}
use Rattle.grind_tokens.specs.Tokens.{IsText, Stops, StopsChars, IsCommentChar, EndsLine}

-- of bytes
pub one_run : (P : ℕ → Type 0) (a b x y : List ℕ) → AllByRecursion P a → AllByRecursion P b → Stops P x → Stops P y → a ++ x ≡ b ++ y → (a ≡ b) × (x ≡ y)
one_run P [] [] x y pa pb sx sy e = (refl, e)
one_run P [] (b ∷ bs) [] y pa pb sx sy e = cc
one_run P [] (b ∷ bs) (c ∷ cs) y pa pb sx sy e =
    let h : c ≡ b = cc in
    absurd (sx (subst P (sym h) pb.0))
one_run P (a ∷ as') [] x [] pa pb sx sy e = cc
one_run P (a ∷ as') [] x (c ∷ cs) pa pb sx sy e =
    let h : c ≡ a = cc in
    absurd (sy (subst P (sym h) pa.0))
one_run P (a ∷ as') (b ∷ bs) x y pa pb sx sy e =
    let h : a ≡ b = cc in
    let t : as' ++ x ≡ bs ++ y = cc in
    let r = one_run P as' bs x y pa.1 pb.1 sx sy t in
    let r0 : as' ≡ bs = r.0 in
    (cc, r.1)

-- of characters
one_row : (P : ℕ → Type 0) (cs ds x y : List ℕ) → AllByRecursion (λ c. IsScalar c × P c) cs → AllByRecursion (λ c. IsScalar c × P c) ds → StopsChars P x → StopsChars P y → encode_utf8_all cs ++ x ≡ encode_utf8_all ds ++ y → (cs ≡ ds) × (x ≡ y)
one_row P [] [] x y pc pd sx sy e = (refl, e)
one_row P [] (d ∷ ds) x y pc pd sx sy e =
    absurd (sx d pd.0.0 pd.0.1 (encode_utf8_all ds ++ y, e ∙ append_assoc (encode_utf8 d) (encode_utf8_all ds) y))
one_row P (c ∷ cs) [] x y pc pd sx sy e =
    absurd (sy c pc.0.0 pc.0.1 (encode_utf8_all cs ++ x, sym e ∙ append_assoc (encode_utf8 c) (encode_utf8_all cs) x))
one_row P (c ∷ cs) (d ∷ ds) x y pc pd sx sy e =
    let same = encode_same c d (encode_utf8_all cs ++ x) (encode_utf8_all ds ++ y)
    (sym (append_assoc (encode_utf8 c) (encode_utf8_all cs) x) ∙ e ∙ append_assoc (encode_utf8 d) (encode_utf8_all ds) y) in
    let r = one_row P cs ds x y pc.1 pd.1 sx sy same.1 in
    let head : c ≡ d = same.0 in
    let tail : cs ≡ ds = r.0 in
    (cc, r.1)

pub one_text : (P : ℕ → Type 0) (p q x y : List ℕ) → IsText P p → IsText P q → StopsChars P x → StopsChars P y → p ++ x ≡ q ++ y → (p ≡ q) × (x ≡ y)
one_text P p q x y tp tq sx sy e =
    let r = one_row P tp.0 tq.0 x y tp.2 tq.2 sx sy (ap (λ l. l ++ x) (sym tp.1) ∙ e ∙ ap (λ l. l ++ y) tq.1) in
    (tp.1 ∙ ap (λ l. encode_utf8_all l) r.0 ∙ sym tq.1, r.1)

-- a character has a byte
pub some_byte : (c : ℕ) (rest : List ℕ) → IsScalar c → ¬ ([] ≡ encode_utf8 c ++ rest)
some_byte c rest good e = no_character-nil [] refl c rest good e

-- a line's end is no part of a comment
pub ends_stops : (rest : List ℕ) → EndsLine rest → StopsChars IsCommentChar rest
ends_stops [] ends c good holds b = some_byte c b.0 good b.1
ends_stops (b ∷ bs) ends c good holds h =
    let ten : 10 ∷ bs ≡ encode_utf8 c ++ h.0 = ap (λ k. k ∷ bs) (sym ends) ∙ h.1 in
    holds (sym (encode_same 10 c bs h.0 (ap (λ l. l ++ bs) (encode_ascii 10 (omega arith)) ∙ ten)).0)

-- a line's end is a character or the end of the text
pub ends_good : (rest : List ℕ) → EndsLine rest → 0 < length rest → ¬ StartsWithNoChar rest
ends_good [] ends some none = absurd (omega arith)
ends_good (b ∷ bs) ends some none =
    none 10 bs (low_scalar 10 (omega arith)) (ap (λ k. k ∷ bs) ends ∙ ap (λ l. l ++ bs) (sym (encode_ascii 10 (omega arith))))
