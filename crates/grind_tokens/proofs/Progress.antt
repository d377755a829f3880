-- What a loop that reads the tokens of a text keeps, and that each token is a piece of the text.
use Rattle.std.proofs.Common.{◌≡◌, ℕ, ◌+◌, ◌-◌, ◌<◌, ◌≤◌, List, [], ◌∷◌, ◌++◌, length, take, drop, Some, refl, sym, ap, ◌∙◌, subst, arith, append_assoc, length-append}
use Rattle.std.proofs.lemmas.List.{append-nil, length-drop}
use Rattle.std.proofs.lemmas.List.Elements.{All-from_recursion}
use Rattle.std.proofs.Math.Seq.{drop-append_seam, take-append_seam}
use Rattle.std.specs.Prelude.{slice_range, All}
use Rattle.std.specs.List.{AllByRecursion}
use Rattle.grind_tokens.specs.declared.tokens.LexRefusal.{LexRefusal}
use Rattle.grind_tokens.specs.declared.tokens.LexRefusal.TheVariants.{BadByte, NumberTooLarge, NameTooLong, Memory}
use Rattle.grind_tokens.specs.declared.tokens.TokenKind.{TokenKind}
use Rattle.grind_tokens.specs.declared.tokens.TokenKind.TheVariants.{Word, Number, Symbol}
use Rattle.grind_tokens.specs.declared.tokens.Token.{Token}
use Rattle.grind_tokens.specs.declared.pieces.Front.{Front}
use Rattle.grind_tokens.specs.Tokens.{IsToken, IsFault, TokensFrom, at_end, gap, token, TokensOf, BreaksFrom, here, Breaks, IsRefusal, IsSpelled, IsPiece}
use Rattle.grind_tokens.specs.Fronts.{BeginsWithFront, tokens_of}
use Rattle.grind_tokens.proofs.Readings.{front_not_empty, reads_front, breaks_front}

-- what is read of a text so far: the tokens out, up to an offset, and the bytes from there on
pub record Reads (text : List ℕ) (out : List Token) (at : ℕ) (rest : List ℕ) : Type 0 where
  pub offset : at + length rest ≡ length text
  pub whole : (ts : List Token) → TokensFrom at rest ts → TokensOf text (out ++ ts)
  pub breaks : (e : LexRefusal) → BreaksFrom at rest e → Breaks text e

pub reads_start : (text : List ℕ) → Reads text [] 0 text
reads_start text = record { offset = omega arith; whole = λ ts t. t; breaks = λ e t. t }

-- a piece has a byte, and not more than the text
pub front-some : (text : List ℕ) (f : Front) → BeginsWithFront text f → 0 < f.len
front-some text f b = let some = front_not_empty f.kind b.piece b.rest b.front in omega (arith, b.size)

pub front-within : (text : List ℕ) (f : Front) → BeginsWithFront text f → f.len ≤ length text
front-within text f b = omega (arith, b.size, ap length b.splits, length-append b.piece b.rest)

-- what stands after it
front-rest : (text : List ℕ) (f : Front) → (b : BeginsWithFront text f) → drop f.len text ≡ b.rest
front-rest text f b = ap (λ n. drop n text) b.size ∙ ap (λ l. drop (length b.piece) l) b.splits ∙ drop-append_seam b.piece b.rest

pub reads_more : (text : List ℕ) (out : List Token) (at : ℕ) (rest : List ℕ) (f : Front) → Reads text out at rest → BeginsWithFront rest f → Reads text (out ++ tokens_of f.kind at (at + f.len)) (at + f.len) (drop f.len rest)
reads_more text out at rest f before b =
    let behind = front-rest rest f b in
    record {
      offset = omega (arith, length-drop f.len rest, front-within rest f b, before.offset);
      whole = λ ts t. subst (TokensOf text) (sym (append_assoc out (tokens_of f.kind at (at + f.len)) ts))
          (before.whole (tokens_of f.kind at (at + f.len) ++ ts)
          (subst (λ n. TokensFrom at rest (tokens_of f.kind at (at + n) ++ ts)) (sym b.size)
          (reads_front at rest ts f.kind b.piece b.rest b.splits b.front
          (subst (λ n. TokensFrom (at + n) b.rest ts) b.size (subst (λ l. TokensFrom (at + f.len) l ts) behind t)))));
      breaks = λ e t. before.breaks e
          (breaks_front at rest e f.kind b.piece b.rest b.splits b.front
          (subst (λ n. BreaksFrom (at + n) b.rest e) b.size (subst (λ l. BreaksFrom (at + f.len) l e) behind t)));
    }

pub reads_end : (text : List ℕ) (out : List Token) (at : ℕ) (rest : List ℕ) → Reads text out at rest → length rest ≤ 0 → TokensOf text out
reads_end text out at [] before ended = subst (TokensOf text) (append-nil out) (before.whole [] at_end)
reads_end text out at (b ∷ bs) before ended = absurd (omega arith)

refusal_of : (text : List ℕ) (e : LexRefusal) → Breaks text e → IsRefusal text e
refusal_of text (BadByte offset) t = t
refusal_of text (NumberTooLarge offset) t = t
refusal_of text (NameTooLong offset) t = t
refusal_of text Memory t = tt

pub reads_fault : (text : List ℕ) (out : List Token) (at : ℕ) (rest : List ℕ) (e : LexRefusal) → Reads text out at rest → IsFault at rest e → IsRefusal text e
reads_fault text out at rest e before f = refusal_of text e (before.breaks e (here f))

-- the bytes of a token spell it
spelled : (kind : TokenKind) (piece rest : List ℕ) → IsToken kind piece rest → IsSpelled kind piece
spelled Word piece rest g = g.0
spelled (Number n) piece rest g = g.0
spelled (Symbol s) piece rest g = g.0

-- the tokens of what stands after some bytes are pieces of the whole
pieces_of : {at : ℕ} {text : List ℕ} {ts : List Token} (before whole : List ℕ) → whole ≡ before ++ text → at ≡ length before → TokensFrom at text ts → AllByRecursion (IsPiece whole) ts
pieces_of before whole w a at_end = tt
pieces_of before whole w a (gap p r e g t) =
    pieces_of (before ++ p) whole (w ∙ ap (λ l. before ++ l) e ∙ sym (append_assoc before p r)) (ap (λ n. n + length p) a ∙ sym (length-append before p)) t
pieces_of {at} before whole w a (token k p r e g t) =
    let some = front_not_empty (Some k) p r g in
    let parts : whole ≡ before ++ (p ++ r) = w ∙ ap (λ l. before ++ l) e in
    let size : length whole ≡ length before + (length p + length r) = ap length parts ∙ length-append before (p ++ r) ∙ ap (λ n. length before + n) (length-append p r) in
    let span : at + length p - at ≡ length p = omega arith in
    let cut : slice_range whole at (at + length p) ≡ p =
    ap (λ n. take n (drop at whole)) span ∙ ap (λ l. take (length p) l) (ap (λ n. drop n whole) a ∙ ap (λ l. drop (length before) l) parts ∙ drop-append_seam before (p ++ r)) ∙ take-append_seam p r in (
      record { not_empty = omega arith; within = omega arith; spelled = subst (IsSpelled k) (sym cut) (spelled k p r g) },
      pieces_of (before ++ p) whole (parts ∙ sym (append_assoc before p r)) (ap (λ n. n + length p) a ∙ sym (length-append before p)) t,
    )

-- each token of a text is a piece of it
pub tokens_are_pieces : (text : List ℕ) (ts : List Token) → TokensOf text ts → All (IsPiece text) ts
tokens_are_pieces text ts t = All-from_recursion (IsPiece text) ts (pieces_of [] text refl refl t)
