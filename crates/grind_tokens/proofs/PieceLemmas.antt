-- What the rows of the table say of the piece with which a text begins.
use Rattle.std.proofs.Common.{◌≡◌, ℕ, ◌+◌, ◌*◌, ◌<◌, ◌≤◌, List, [], ◌∷◌, ◌++◌, length, drop, get_or, Some, None, refl, sym, ap, ◌∙◌, subst, arith, append_assoc, length-append, inl, inr}
use Rattle.std.proofs.Math.Seq.{drop-append_seam}
use Rattle.std.proofs.lemmas.Str.{length-encode, encode_ascii}
use Rattle.std.specs.Prelude.{encode_utf8}
use Rattle.std.specs.Char.{len_utf8, digit_value}
use Rattle.std.specs.Str.{StartsWithNoChar}
use Rattle.std.specs.Str.Parse.{digits_value_after}
use Rattle.grind_tokens.specs.declared.tokens.TokenKind.TheVariants.{Word}
use Rattle.grind_tokens.specs.Tokens.{IsBlank, IsNameChar, IsCommentChar, StopsChars, EndsLine, AreNameChars, IsBrokenComment, IsLongName}
use Rattle.grind_tokens.specs.Fronts.{Runs, BeginsWithFront, BeginsName}
use Rattle.grind_tokens.proofs.CharacterLemmas.{drop-character}

-- more digits make no smaller number
pub digits_value_after-grows : (n : ℕ) (ds : List ℕ) → n ≤ digits_value_after 10 n ds
digits_value_after-grows n [] = omega arith
digits_value_after-grows n (d ∷ ds) =
    let more = digits_value_after-grows (n * 10 + digit_value d) ds in
    omega arith

-- what stands after a run
pub runs-rest : (P : ℕ → Type 0) (text : List ℕ) (n : ℕ) → (r : Runs P text n) → drop n text ≡ r.rest
runs-rest P text n r = ap (λ k. drop k text) r.size ∙ ap (λ l. drop (length r.piece) l) r.splits ∙ drop-append_seam r.piece r.rest

-- a comment that ends its line
pub comment_front : (body : List ℕ) (n : ℕ) → Runs IsCommentChar body n → EndsLine (drop n body) → BeginsWithFront (45 ∷ 45 ∷ body) (record { kind = None; len = n + 2 })
comment_front body n r ends = record {
  piece = 45 ∷ 45 ∷ r.piece;
  rest = r.rest;
  splits = ap (λ l. 45 ∷ 45 ∷ l) r.splits;
  size = omega (arith, r.size);
  front = inr (r.piece, refl, r.good, subst EndsLine (runs-rest IsCommentChar body n r) ends);
}

-- the byte of a line feed that begins a text
first_byte : (b : ℕ) (bs after : List ℕ) (c : ℕ) → c ≡ 10 → b ∷ bs ≡ encode_utf8 c ++ after → b ≡ 10
first_byte b bs after c lf e =
    let ten : b ∷ bs ≡ 10 ∷ after = e ∙ ap (λ k. encode_utf8 k ++ after) lf ∙ ap (λ l. l ++ after) (encode_ascii 10 (omega arith)) in
    cc

-- after a run of a comment that does not end its line stands a bad byte
pub unended : (rest : List ℕ) → StopsChars IsCommentChar rest → ¬ EndsLine rest → (0 < length rest) × StartsWithNoChar rest
unended [] stops ends = absurd (ends tt)
unended (b ∷ bs) stops ends = (omega arith, λ c after good e. stops c good (λ lf. ends (first_byte b bs after c lf e)) (after, e))

pub comment_fault : (body : List ℕ) (n : ℕ) → Runs IsCommentChar body n → ¬ EndsLine (drop n body) → IsBrokenComment (45 ∷ 45 ∷ body) (2 + n)
comment_fault body n r ends =
    let behind = runs-rest IsCommentChar body n r in
    let bad = unended r.rest r.stops (subst (λ l. ¬ EndsLine l) behind ends) in
    record {
      body = r.piece;
      rest = r.rest;
      splits = ap (λ l. 45 ∷ 45 ∷ l) r.splits;
      good = r.good;
      some = bad.0;
      bad = bad.1;
      place = omega (arith, r.size);
    }

-- the name at the front of a text, of which the first character and the run after it are known
pub record Named (text : List ℕ) (n : ℕ) : Type 0 where
  pub piece : List ℕ
  pub rest : List ℕ
  pub splits : text ≡ piece ++ rest
  pub name : AreNameChars piece
  pub longest : StopsChars IsNameChar rest
  pub size : n ≡ length piece

pub named : (text : List ℕ) (c n : ℕ) → BeginsName text c → Runs IsNameChar (drop (len_utf8 c) text) n → Named text (len_utf8 c + n)
named text c n b r =
    let behind = drop-character text b.2.0 c b.2.1 in
    let e : text ≡ encode_utf8 c ++ (r.piece ++ r.rest) = b.2.1 ∙ ap (λ l. encode_utf8 c ++ l) (sym behind ∙ r.splits) in
    record {
      piece = encode_utf8 c ++ r.piece;
      rest = r.rest;
      splits = e ∙ sym (append_assoc (encode_utf8 c) r.piece r.rest);
      name = (c, r.piece, refl, b.0, b.1, r.good);
      longest = r.stops;
      size = omega (arith, length-append (encode_utf8 c) r.piece, length-encode c, r.size);
    }

pub word_front : (text : List ℕ) (n : ℕ) → Named text n → n ≤ 255 → BeginsWithFront text (record { kind = Some Word; len = n })
word_front text n m short = record {
  piece = m.piece;
  rest = m.rest;
  splits = m.splits;
  size = m.size;
  front = ((m.name, omega (arith, m.size)), m.longest);
}

pub word_fault : (text : List ℕ) (n : ℕ) → Named text n → 255 < n → IsLongName text
word_fault text n m long = record {
  piece = m.piece;
  rest = m.rest;
  splits = m.splits;
  name = m.name;
  longest = m.longest;
  long = omega (arith, m.size);
}

-- a byte of white space
pub blank_front : (text : List ℕ) → 0 < length text → IsBlank (get_or text 0 0) → BeginsWithFront text (record { kind = None; len = 1 })
blank_front [] some blank = absurd (omega arith)
blank_front (b ∷ bs) some blank = record {
  piece = b ∷ [];
  rest = bs;
  splits = refl;
  size = refl;
  front = inl (b, refl, blank);
}
