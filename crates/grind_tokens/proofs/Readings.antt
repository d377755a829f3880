-- Lists of tokens and first faults of one text.
use Rattle.std.proofs.Common.{◌≡◌, ℕ, ◌+◌, ◌<◌, List, [], ◌∷◌, ◌++◌, length, Option, Some, None, refl, sym, ap, ◌∙◌, subst, inl, inr, arith, length-append}
use Rattle.std.proofs.lemmas.List.{append-nil}
use Rattle.grind_tokens.specs.declared.tokens.LexRefusal.{LexRefusal}
use Rattle.grind_tokens.specs.declared.tokens.LexRefusal.TheVariants.{BadByte, NumberTooLarge, NameTooLong, Memory}
use Rattle.grind_tokens.specs.declared.tokens.TokenKind.{TokenKind}
use Rattle.grind_tokens.specs.declared.tokens.TokenKind.TheVariants.{Word, Number, Symbol}
use Rattle.grind_tokens.specs.declared.tokens.Token.{Token}
use Rattle.grind_tokens.specs.Tokens.{spelling, dashes, Begins, IsLongest, IsFault, TokensFrom, at_end, gap, token, BreaksFrom, here, past_gap, past_token}
use Rattle.grind_tokens.specs.Fronts.{IsFront, tokens_of}
use Rattle.grind_tokens.proofs.RunLemmas.{some_byte}
use Rattle.grind_tokens.proofs.Starts.{symbol_some, Start, blank, comment, word, number, mark, stray, broken, large, long, Opens, opens_some}
use Rattle.grind_tokens.proofs.OneStart.{same_front, one_start}

-- what a beginning is to a reader at an offset: a piece of a kind and a length, or a fault
data Shown : Type 0 where
  piece_of : Option TokenKind → ℕ → Shown
  fault_of : LexRefusal → Shown

abbrev shown : ℕ → Start → Shown
shown at blank = piece_of None 1
shown at (comment n) = piece_of None n
shown at (word n) = piece_of (Some Word) n
shown at (number z n) = piece_of (Some (Number z)) n
shown at (mark s) = piece_of (Some (Symbol s)) (length (spelling s))
shown at stray = fault_of (BadByte at)
shown at (broken n) = fault_of (BadByte (at + n))
shown at large = fault_of (NumberTooLarge at)
shown at long = fault_of (NameTooLong at)

abbrev kind_in : Shown → Option TokenKind
kind_in (piece_of k n) = k
kind_in (fault_of e) = None

abbrev size_in : Shown → ℕ
size_in (piece_of k n) = n
size_in (fault_of e) = 0

abbrev fault_in : Shown → LexRefusal
fault_in (piece_of k n) = Memory
fault_in (fault_of e) = e

abbrev is_piece : Shown → ℕ
is_piece (piece_of k n) = 1
is_piece (fault_of e) = 0

-- a piece at the front is one of the beginnings
front_start : (at : ℕ) (text : List ℕ) (kind : Option TokenKind) (piece rest : List ℕ) → text ≡ piece ++ rest → IsFront kind piece rest → (a : Start) × Opens text a × (shown at a ≡ piece_of kind (length piece))
front_start at [] None piece rest e (inl g) = let h : 0 ≡ length piece + length rest = ap length e ∙ length-append piece rest in let k : length piece ≡ 1 = ap length g.1 in absurd (omega arith)
front_start at (b ∷ bs) None piece rest e (inl g) =
    let h : b ∷ bs ≡ g.0 ∷ rest = e ∙ ap (λ l. l ++ rest) g.1 in
    let k : g.0 ≡ b = cc in
    (blank, subst (λ x. Opens (x ∷ bs) blank) k g.2, ap (λ l. piece_of None (length l)) (sym g.1))
front_start at text None piece rest e (inr g) =
    let size : 2 + length g.0 ≡ length piece = sym (ap length g.1 ∙ length-append dashes g.0) in
    (comment (2 + length g.0), (g.0, rest, e ∙ ap (λ l. l ++ rest) g.1, g.2, g.3, refl), ap (piece_of None) size)
front_start at text (Some Word) piece rest e g = (word (length piece), (piece, rest, e, g.0.0, g.1, refl, g.0.1), refl)
front_start at text (Some (Number z)) piece rest e g = (number z (length piece), (piece, rest, e, g.0.0, g.1, refl, g.0.1, g.0.2), refl)
front_start at text (Some (Symbol s)) piece rest e g =
    (mark s, ((rest, e ∙ ap (λ l. l ++ rest) g.0), subst (λ l. IsLongest s l) (sym e) g.1, subst (λ l. ¬ Begins l dashes) (sym e) g.2), ap (λ l. piece_of (Some (Symbol s)) (length l)) (sym g.0))

-- so is a fault
fault_start : (at : ℕ) (text : List ℕ) (e : LexRefusal) → IsFault at text e → (a : Start) × Opens text a × (shown at a ≡ fault_of e)
fault_start at text (BadByte offset) (inl g) = (stray, g.1, ap (λ n. fault_of (BadByte n)) (sym g.0))
fault_start at text (BadByte offset) (inr g) = (broken g.0, g.2, ap (λ n. fault_of (BadByte n)) (sym g.1))
fault_start at text (NumberTooLarge offset) g = (large, g.1, ap (λ n. fault_of (NumberTooLarge n)) (sym g.0))
fault_start at text (NameTooLong offset) g = (long, g.1, ap (λ n. fault_of (NameTooLong n)) (sym g.0))
fault_start at text Memory g = absurd g

-- two pieces at the front of one text are one
one_front : (text : List ℕ) (k j : Option TokenKind) (p r q s : List ℕ) → text ≡ p ++ r → text ≡ q ++ s → IsFront k p r → IsFront j q s → (k ≡ j) × (p ≡ q) × (r ≡ s)
one_front text k j p r q s e f g h =
    let a = front_start 0 text k p r e g in
    let b = front_start 0 text j q s f h in
    let same : piece_of k (length p) ≡ piece_of j (length q) = sym a.2 ∙ ap (shown 0) (one_start text a.0 b.0 a.1 b.1) ∙ b.2 in
    let cut = same_front p q r s (ap size_in same) (sym e ∙ f) in
    (ap kind_in same, cut.0, cut.1)

-- where a piece begins, no fault begins
no_fault : (at : ℕ) (text : List ℕ) (k : Option TokenKind) (p r : List ℕ) (x : LexRefusal) → text ≡ p ++ r → IsFront k p r → ¬ IsFault at text x
no_fault at text k p r x e g f =
    let a = front_start at text k p r e g in
    let b = fault_start at text x f in
    let same : piece_of k (length p) ≡ fault_of x = sym a.2 ∙ ap (shown at) (one_start text a.0 b.0 a.1 b.1) ∙ b.2 in
    let n : is_piece (piece_of k (length p)) ≡ is_piece (fault_of x) = ap is_piece same in
    absurd (omega arith)

-- at most one fault begins a text
one_fault : (at : ℕ) (text : List ℕ) (x y : LexRefusal) → IsFault at text x → IsFault at text y → x ≡ y
one_fault at text x y f g =
    let a = fault_start at text x f in
    let b = fault_start at text y g in
    let same : fault_of x ≡ fault_of y = sym a.2 ∙ ap (shown at) (one_start text a.0 b.0 a.1 b.1) ∙ b.2 in
    ap fault_in same

-- a piece at the front has a byte
pub front_not_empty : (kind : Option TokenKind) (piece rest : List ℕ) → IsFront kind piece rest → 0 < length piece
front_not_empty kind (b ∷ bs) rest g = omega arith
front_not_empty None [] rest (inl g) = let size = ap length g.1 in absurd (omega arith)
front_not_empty None [] rest (inr g) = let size = ap length g.1 in absurd (omega arith)
front_not_empty (Some Word) [] rest g = absurd (some_byte g.0.0.0 g.0.0.1 g.0.0.3 g.0.0.2)
front_not_empty (Some (Number z)) [] rest g = let size = g.0.0.0 in absurd (omega arith)
front_not_empty (Some (Symbol s)) [] rest g = absurd (symbol_some s [] (g.0 ∙ sym (append-nil (spelling s))))

-- a piece at the front gives its tokens before those of the rest
pub reads_front : (at : ℕ) (text : List ℕ) (ts : List Token) (kind : Option TokenKind) (piece rest : List ℕ) → text ≡ piece ++ rest → IsFront kind piece rest → TokensFrom (at + length piece) rest ts → TokensFrom at text (tokens_of kind at (at + length piece) ++ ts)
reads_front at text ts None piece rest e g t = gap piece rest e g t
reads_front at text ts (Some kind) piece rest e g t = token kind piece rest e g t

-- and the fault of the rest is that of the whole
pub breaks_front : (at : ℕ) (text : List ℕ) (x : LexRefusal) (kind : Option TokenKind) (piece rest : List ℕ) → text ≡ piece ++ rest → IsFront kind piece rest → BreaksFrom (at + length piece) rest x → BreaksFrom at text x
breaks_front at text x None piece rest e g t = past_gap piece rest e g t
breaks_front at text x (Some kind) piece rest e g t = past_token kind piece rest e g t

-- equal lists put in place
moved : (at : ℕ) (p q r s : List ℕ) (ts : List Token) → p ≡ q → r ≡ s → TokensFrom (at + length p) r ts → TokensFrom (at + length q) s ts
moved at p q r s ts e f t = subst (λ x. TokensFrom (at + length q) x ts) f (subst (λ x. TokensFrom (at + length x) r ts) e t)

moved_break : (at : ℕ) (p q r s : List ℕ) (x : LexRefusal) → p ≡ q → r ≡ s → BreaksFrom (at + length p) r x → BreaksFrom (at + length q) s x
moved_break at p q r s x e f t = subst (λ l. BreaksFrom (at + length q) l x) f (subst (λ l. BreaksFrom (at + length l) r x) e t)

-- a text with a piece at the front has bytes
not_nil : (kind : Option TokenKind) (piece rest : List ℕ) → [] ≡ piece ++ rest → ¬ IsFront kind piece rest
not_nil kind piece rest e g =
    let some = front_not_empty kind piece rest g in
    let none = ap length e ∙ length-append piece rest in
    absurd (omega arith)

-- after a piece at the front stand the tokens of the rest
rest_of : {at : ℕ} {text : List ℕ} {ts : List Token} (kind : Option TokenKind) (piece rest : List ℕ) → TokensFrom at text ts → text ≡ piece ++ rest → IsFront kind piece rest → (us : List Token) × TokensFrom (at + length piece) rest us × (ts ≡ tokens_of kind at (at + length piece) ++ us)
rest_of kind piece rest at_end e g = absurd (not_nil kind piece rest e g)
rest_of {at} {text} {ts} kind piece rest (gap p r e' g' t) e g =
    let o = one_front text None kind p r piece rest e' e g' g in
    (ts, moved at p piece r rest ts o.1 o.2 t, ap (λ k. tokens_of k at (at + length piece) ++ ts) o.0)
rest_of {at} {text} kind piece rest (token {ts} k p r e' g' t) e g =
    let o = one_front text (Some k) kind p r piece rest e' e g' g in
    (ts, moved at p piece r rest ts o.1 o.2 t, ap (λ q. tokens_of (Some k) at (at + length q) ++ ts) o.1 ∙ ap (λ j. tokens_of j at (at + length piece) ++ ts) o.0)

-- after a piece at the front stands the fault of the rest
break_of : {at : ℕ} {text : List ℕ} {x : LexRefusal} (kind : Option TokenKind) (piece rest : List ℕ) → BreaksFrom at text x → text ≡ piece ++ rest → IsFront kind piece rest → BreaksFrom (at + length piece) rest x
break_of {at} {text} {x} kind piece rest (here f) e g = absurd (no_fault at text kind piece rest x e g f)
break_of {at} {text} {x} kind piece rest (past_gap p r e' g' t) e g =
    let o = one_front text None kind p r piece rest e' e g' g in
    moved_break at p piece r rest x o.1 o.2 t
break_of {at} {text} {x} kind piece rest (past_token k p r e' g' t) e g =
    let o = one_front text (Some k) kind p r piece rest e' e g' g in
    moved_break at p piece r rest x o.1 o.2 t

-- a text without bytes has no tokens in its list, and no fault
ended : {at : ℕ} {text : List ℕ} {ts : List Token} → TokensFrom at text ts → text ≡ [] → ts ≡ []
ended at_end e = refl
ended (gap p r e' g t) e = absurd (not_nil None p r (sym e ∙ e') g)
ended (token k p r e' g t) e = absurd (not_nil (Some k) p r (sym e ∙ e') g)

unbroken : {at : ℕ} {text : List ℕ} {x : LexRefusal} → BreaksFrom at text x → ¬ (text ≡ [])
unbroken {at} {text} {x} (here f) e =
    let a = fault_start at text x f in
    opens_some a.0 (subst (λ l. Opens l a.0) e a.1)
unbroken (past_gap p r e' g t) e = not_nil None p r (sym e ∙ e') g
unbroken (past_token k p r e' g t) e = not_nil (Some k) p r (sym e ∙ e') g

-- at most one list of tokens stands for a text
pub one_from : {at : ℕ} {text : List ℕ} {a b : List Token} → TokensFrom at text a → TokensFrom at text b → a ≡ b
one_from at_end u = sym (ended u refl)
one_from (gap p r e g t) u =
    let o = rest_of None p r u e g in
    one_from t o.1 ∙ sym o.2
one_from {at} (token k p r e g t) u =
    let o = rest_of (Some k) p r u e g in
    ap (λ l. tokens_of (Some k) at (at + length p) ++ l) (one_from t o.1) ∙ sym o.2

-- a text that has tokens has no fault
pub not_both : {at : ℕ} {text : List ℕ} {ts : List Token} {x : LexRefusal} → TokensFrom at text ts → ¬ BreaksFrom at text x
not_both at_end u = unbroken u refl
not_both (gap p r e g t) u = not_both t (break_of None p r u e g)
not_both (token k p r e g t) u = not_both t (break_of (Some k) p r u e g)

-- at most one fault is the first
break_here : {at : ℕ} {text : List ℕ} (x y : LexRefusal) → IsFault at text x → BreaksFrom at text y → x ≡ y
break_here {at} {text} x y f (here g) = one_fault at text x y f g
break_here {at} {text} x y f (past_gap p r e g t) = absurd (no_fault at text None p r x e g f)
break_here {at} {text} x y f (past_token k p r e g t) = absurd (no_fault at text (Some k) p r x e g f)

pub one_break : {at : ℕ} {text : List ℕ} {x y : LexRefusal} → BreaksFrom at text x → BreaksFrom at text y → x ≡ y
one_break {x} {y} (here f) u = break_here x y f u
one_break (past_gap p r e g t) u = one_break t (break_of None p r u e g)
one_break (past_token k p r e g t) u = one_break t (break_of (Some k) p r u e g)
