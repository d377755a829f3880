-- The characters with which a text begins, and runs of them.
use Rattle.std.proofs.Common.{◌≡◌, ℕ, ◌+◌, ◌<◌, ◌≤◌, List, [], ◌∷◌, ◌++◌, length, take, drop, refl, sym, ap, ◌∙◌, subst, arith, append_assoc, length-append, take-append-drop, min, get_or}
use Rattle.std.specs.Prelude.{encode_utf8, IsUtf8}
use Rattle.std.proofs.lemmas.List.{take-take, length-take}
use Rattle.std.proofs.Math.Seq.{drop-append_seam, take-append_seam}
use Rattle.std.proofs.lemmas.Str.{length-encode, len_utf8_bounds, IsUtf8-encode, encode_same, encode_ascii}
use lib.Utf8.{low_scalar}
use Rattle.std.specs.Char.{IsScalar, len_utf8}
use Rattle.std.specs.Str.{StartsWithNoChar, IsValidUpTo}
use Rattle.grind_tokens.specs.Tokens.{StopsChars, Begins}
use Rattle.grind_tokens.specs.Fronts.{Runs}

-- a character has one byte to four
pub encode-bounds : (c : ℕ) → (1 ≤ length (encode_utf8 c)) × (length (encode_utf8 c) ≤ 4)
encode-bounds c =
    let b = len_utf8_bounds c in
    let e = length-encode c in
    (omega arith, omega arith)

-- what stands after a character
pub drop-character : (text rest : List ℕ) (c : ℕ) → text ≡ encode_utf8 c ++ rest → drop (len_utf8 c) text ≡ rest
drop-character text rest c e =
    ap (λ l. drop (len_utf8 c) l) e ∙ ap (λ n. drop n (encode_utf8 c ++ rest)) (sym (length-encode c)) ∙ drop-append_seam (encode_utf8 c) rest

-- the front of a front is a front
pub begins_through : (text middle front : List ℕ) → Begins text middle → Begins middle front → Begins text front
begins_through text middle front a b =
    (b.0 ++ a.0, a.1 ∙ ap (λ l. l ++ a.0) b.1 ∙ append_assoc front b.0 a.0)

-- a text without bytes begins with no character
pub no_character-nil : (text : List ℕ) → length text ≡ 0 → StartsWithNoChar text
no_character-nil text empty c rest good e =
    let some = encode-bounds c in
    let size : length text ≡ length (encode_utf8 c) + length rest = ap length e ∙ length-append (encode_utf8 c) rest in
    omega arith

-- the run of a text goes on with that of what stands after a character
pub runs_more : (P : ℕ → Type 0) (text rest : List ℕ) (c n : ℕ) → text ≡ encode_utf8 c ++ rest → IsScalar c → P c → Runs P rest n → Runs P text (len_utf8 c + n)
runs_more P text rest c n e good holds r = record {
  piece = encode_utf8 c ++ r.piece;
  rest = r.rest;
  splits = e ∙ ap (λ l. encode_utf8 c ++ l) r.splits ∙ sym (append_assoc (encode_utf8 c) r.piece r.rest);
  size = omega (arith, length-append (encode_utf8 c) r.piece, length-encode c, r.size);
  good = (c ∷ r.good.0, ap (λ l. encode_utf8 c ++ l) r.good.1, ((good, holds), r.good.2));
  stops = r.stops;
}

-- a text that does not begin with such a character has no run
pub runs_end : (P : ℕ → Type 0) (text : List ℕ) → StopsChars P text → Runs P text 0
runs_end P text stops = record {
  piece = [];
  rest = text;
  splits = refl;
  size = refl;
  good = ([], refl, tt);
  stops = stops;
}

-- what a loop that counts a run keeps
pub record OnRun (P : ℕ → Type 0) (text rest : List ℕ) (len : ℕ) : Type 0 where
  pub size : len + length rest ≡ length text
  pub whole : (n : ℕ) → Runs P rest n → Runs P text (len + n)

pub on_run_more : (P : ℕ → Type 0) (text rest : List ℕ) (len c : ℕ) → OnRun P text rest len → IsScalar c → P c → Begins rest (encode_utf8 c) → OnRun P text (drop (len_utf8 c) rest) (len + len_utf8 c)
on_run_more P text rest len c before good holds b =
    let behind = drop-character rest b.0 c b.1 in
    let size : length rest ≡ length (encode_utf8 c) + length b.0 = ap length b.1 ∙ length-append (encode_utf8 c) b.0 in
    let width = length-encode c in
    let parts = before.size in
    record {
      size = rw behind (omega arith);
      whole = λ n r.
          let next = before.whole (len_utf8 c + n) (runs_more P rest b.0 c n b.1 good holds (subst (λ l. Runs P l n) behind r)) in
          let e : len + len_utf8 c + n ≡ len + (len_utf8 c + n) = omega arith in
          rw e next;
    }

pub on_run_end : (P : ℕ → Type 0) (text rest : List ℕ) (len : ℕ) → OnRun P text rest len → StopsChars P rest → Runs P text len
on_run_end P text rest len before stops =
    let last = before.whole 0 (runs_end P rest stops) in
    let e : len ≡ len + 0 = omega arith in
    rw e last

-- a text that begins with no character begins with none of which P holds
pub stops_none : (P : ℕ → Type 0) (text : List ℕ) → StartsWithNoChar text → StopsChars P text
stops_none P text none c good holds b = none c b.0 good b.1

-- a text that begins with a character of which P does not hold
pub stops_other : (P : ℕ → Type 0) (text : List ℕ) (d : ℕ) → ¬ P d → Begins text (encode_utf8 d) → StopsChars P text
stops_other P text d other b c good holds h =
    let same = encode_same c d h.0 b.0 (sym h.1 ∙ b.1) in
    other (subst P same.0 holds)

-- the front of a text that is cut
pub begins_take : (text : List ℕ) (n : ℕ) → Begins text (take n text)
begins_take text n = (drop n text, sym (take-append-drop n text))

-- a text is its first four bytes, if those are no more
pub begins_whole : (text bytes whole : List ℕ) → bytes ≡ take 4 text → whole ≡ bytes → Begins text whole
begins_whole text bytes whole e f = subst (Begins text) (sym (f ∙ e)) (begins_take text 4)

pub begins_valid : (text bytes valid : List ℕ) (n : ℕ) → bytes ≡ take 4 text → valid ≡ take n bytes → Begins text valid
begins_valid text bytes valid n e f =
    subst (Begins text) (sym (f ∙ ap (λ l. take n l) e)) (begins_through text (take 4 text) (take n (take 4 text)) (begins_take text 4) (begins_take (take 4 text) n))

pub no_character-whole : (text bytes whole : List ℕ) → bytes ≡ take 4 text → whole ≡ bytes → length whole ≡ 0 → StartsWithNoChar text
no_character-whole text bytes whole e f empty =
    let size : length whole ≡ min 4 (length text) = ap length (f ∙ e) ∙ length-take 4 text in
    no_character-nil text (omega arith)

pub no_character-valid : (text bytes valid : List ℕ) (n : ℕ) → bytes ≡ take 4 text → valid ≡ take n bytes → IsValidUpTo bytes n → length valid ≡ 0 → StartsWithNoChar text
no_character-valid text bytes valid n e f upto empty c rest good t =
    let size : length valid ≡ min n (length bytes) = ap length f ∙ length-take n bytes in
    let short = upto.short in
    let width = encode-bounds c in
    let cut : take (length (encode_utf8 c)) bytes ≡ encode_utf8 c =
    ap (λ l. take (length (encode_utf8 c)) l) e ∙ take-take (length (encode_utf8 c)) 4 text width.1 ∙ ap (λ l. take (length (encode_utf8 c)) l) t ∙ take-append_seam (encode_utf8 c) rest in
    upto.longest (length (encode_utf8 c)) (omega arith) (subst IsUtf8 (sym cut) (IsUtf8-encode c good))

-- an ASCII byte is a character
pub ascii_first : (text : List ℕ) → 0 < length text → get_or text 0 0 < 128 → IsScalar (get_or text 0 0) × Begins text (encode_utf8 (get_or text 0 0))
ascii_first [] some low = absurd (omega arith)
ascii_first (b ∷ bs) some low = (low_scalar b (omega arith), (bs, ap (λ l. l ++ bs) (sym (encode_ascii b low))))
