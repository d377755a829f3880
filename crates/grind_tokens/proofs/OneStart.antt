-- A text begins with at most one piece or fault.
use Rattle.std.proofs.Common.{◌≡◌, ℕ, ◌+◌, ◌*◌, List, [], ◌∷◌, ◌++◌, length, if◌then◌else◌, ◌==◌, refl, sym, ap, ◌∙◌, subst, inl, inr, arith}
use Rattle.std.specs.Prelude.{pos, encode_utf8}
use Rattle.std.specs.Str.Parse.{digits_value}
use Rattle.unicode_ident.proofs.IdentLemmas.{is_xid_start-is_xid_continue, is_xid_continue-ascii}
use Rattle.grind_tokens.specs.declared.tokens.Sym.{Sym}
use Rattle.grind_tokens.specs.declared.tokens.Sym.TheVariants.{Dot, Comma, Colon, Semicolon, LeftParen, RightParen, LeftSquare, RightSquare, Eq, Ne, Lt, Le, Iff, Gt, Ge, Plus, Minus, Star, And, Or, Not, Arrow, Turnstile}
use Rattle.grind_tokens.specs.Tokens.{IsNameStart, IsNameChar, IsDigit, IsCommentChar, IsText, Begins, StopsChars, EndsLine, AreNameChars, spelling, dashes, IsLongest}
use Rattle.grind_tokens.proofs.CharacterLemmas.{stops_none}
use Rattle.grind_tokens.proofs.RunLemmas.{one_run, one_text, ends_stops, ends_good}
use Rattle.grind_tokens.proofs.Starts.{Start, blank, comment, word, number, mark, stray, broken, large, long, Opens, clash, not_stray}

-- two lists of one length at the front of one text are one
pub same_front : (a b x y : List ℕ) → length a ≡ length b → a ++ x ≡ b ++ y → (a ≡ b) × (x ≡ y)
same_front [] [] x y l e = (refl, e)
same_front [] (b ∷ bs) x y l e = absurd (omega arith)
same_front (a ∷ as') [] x y l e = absurd (omega arith)
same_front (a ∷ as') (b ∷ bs) x y l e =
    let h : a ≡ b = cc in
    let t : as' ++ x ≡ bs ++ y = cc in
    let r = same_front as' bs x y (omega arith) t in
    let r0 : as' ≡ bs = r.0 in
    (cc, r.1)

-- what may begin a name may stand in one
name_char : (c : ℕ) → IsNameStart c → IsNameChar c
name_char c (inl e) = subst IsNameChar (sym e) (is_xid_continue-ascii 95 (omega arith))
name_char c (inr e) = is_xid_start-is_xid_continue c e

-- a name is a run of such characters
pub name_text : (p : List ℕ) → AreNameChars p → IsText IsNameChar p
name_text p n = (n.0 ∷ n.5.0, n.2 ∙ ap (λ l. encode_utf8 n.0 ++ l) n.5.1, ((n.3, name_char n.0 n.4), n.5.2))

one_name : (p q x y : List ℕ) → AreNameChars p → AreNameChars q → StopsChars IsNameChar x → StopsChars IsNameChar y → p ++ x ≡ q ++ y → p ≡ q
one_name p q x y np nq sx sy e = (one_text IsNameChar p q x y (name_text p np) (name_text q nq) sx sy e).0

-- the body of a comment
body_of : (text p r q s : List ℕ) → text ≡ dashes ++ (p ++ r) → text ≡ dashes ++ (q ++ s) → p ++ r ≡ q ++ s
body_of text p r q s e f = let g : 45 ∷ 45 ∷ (p ++ r) ≡ 45 ∷ 45 ∷ (q ++ s) = sym e ∙ f in cc

one_body : (text p r q s : List ℕ) → text ≡ dashes ++ (p ++ r) → text ≡ dashes ++ (q ++ s) → IsText IsCommentChar p → IsText IsCommentChar q → StopsChars IsCommentChar r → StopsChars IsCommentChar s → (p ≡ q) × (r ≡ s)
one_body text p r q s e f tp tq sr ss = one_text IsCommentChar p q r s tp tq sr ss (body_of text p r q s e f)

-- a number that tells the spellings of symbols apart: each byte times its place
number_of : ℕ → List ℕ → ℕ
number_of place [] = 0
number_of place (b ∷ bs) = place * b + number_of (place + 1) bs

sym_with : ℕ → Sym
sym_with k = if k == 46 then Dot else (if k == 44 then Comma else (if k == 58 then Colon else (if k == 59 then Semicolon else (if k == 40 then LeftParen else (if k == 41 then RightParen else (if k == 91 then LeftSquare else (if k == 93 then RightSquare else (if k == 61 then Eq else (if k == 155 then Ne else (if k == 60 then Lt else (if k == 182 then Le else (if k == 336 then Iff else (if k == 62 then Gt else (if k == 184 then Ge else (if k == 43 then Plus else (if k == 45 then Minus else (if k == 42 then Star else (if k == 231 then And else (if k == 186 then Or else (if k == 126 then Not else (if k == 169 then Arrow else (Turnstile))))))))))))))))))))))

-- the symbol that bytes spell
sym_of : List ℕ → Sym
sym_of bytes = sym_with (number_of 1 bytes)

sym_of-spelling : (s : Sym) → sym_of (spelling s) ≡ s
unfolding sym_of sym_with number_of
sym_of-spelling Dot = refl
sym_of-spelling Comma = refl
sym_of-spelling Colon = refl
sym_of-spelling Semicolon = refl
sym_of-spelling LeftParen = refl
sym_of-spelling RightParen = refl
sym_of-spelling LeftSquare = refl
sym_of-spelling RightSquare = refl
sym_of-spelling Eq = refl
sym_of-spelling Ne = refl
sym_of-spelling Lt = refl
sym_of-spelling Le = refl
sym_of-spelling Iff = refl
sym_of-spelling Gt = refl
sym_of-spelling Ge = refl
sym_of-spelling Plus = refl
sym_of-spelling Minus = refl
sym_of-spelling Star = refl
sym_of-spelling And = refl
sym_of-spelling Or = refl
sym_of-spelling Not = refl
sym_of-spelling Arrow = refl
sym_of-spelling Turnstile = refl

-- two symbols at the front of one text, each the longest, are one
one_symbol : (text : List ℕ) (a b : Sym) → Begins text (spelling a) → Begins text (spelling b) → IsLongest a text → IsLongest b text → a ≡ b
one_symbol text a b g h la lb =
    let low = la b h in
    let high = lb a g in
    let f = same_front (spelling a) (spelling b) g.0 h.0 (omega arith) (sym g.1 ∙ h.1) in
    sym (sym_of-spelling a) ∙ ap sym_of f.0 ∙ sym_of-spelling b

pub one_start : (text : List ℕ) (a b : Start) → Opens text a → Opens text b → a ≡ b
one_start text stray stray g h = refl
one_start text stray b g h = absurd (let e = not_stray text b g h in omega arith)
one_start text a stray g h = absurd (let e = not_stray text a h g in omega arith)
one_start text blank blank g h = refl
one_start text (comment n) (comment m) g h =
    let same = one_body text g.0 g.1 h.0 h.1 g.2 h.2 g.3 h.3 (ends_stops g.1 g.4) (ends_stops h.1 h.4) in
    ap comment (g.5 ∙ ap (λ l. 2 + length l) same.0 ∙ sym h.5)
one_start text (comment n) (broken m) g h =
    let same = one_body text g.0 g.1 h.body h.rest g.2 h.splits g.3 h.good (ends_stops g.1 g.4) (stops_none IsCommentChar h.rest h.bad) in
    absurd (ends_good h.rest (subst EndsLine same.1 g.4) h.some h.bad)
one_start text (broken n) (comment m) g h =
    let same = one_body text h.0 h.1 g.body g.rest h.2 g.splits h.3 g.good (ends_stops h.1 h.4) (stops_none IsCommentChar g.rest g.bad) in
    absurd (ends_good g.rest (subst EndsLine same.1 h.4) g.some g.bad)
one_start text (broken n) (broken m) g h =
    let same = one_body text g.body g.rest h.body h.rest g.splits h.splits g.good h.good (stops_none IsCommentChar g.rest g.bad) (stops_none IsCommentChar h.rest h.bad) in
    ap broken (g.place ∙ ap (λ l. length dashes + length l) same.0 ∙ sym h.place)
one_start text (comment n) (mark s) g h = absurd (h.2 (g.0 ++ g.1, g.2))
one_start text (mark s) (comment n) g h = absurd (g.2 (h.0 ++ h.1, h.2))
one_start text (broken n) (mark s) g h = absurd (h.2 (g.body ++ g.rest, g.splits))
one_start text (mark s) (broken n) g h = absurd (g.2 (h.body ++ h.rest, h.splits))
one_start text (mark s) (mark t) g h = ap mark (one_symbol text s t g.0 h.0 g.1 h.1)
one_start text (word n) (word m) g h =
    let same = one_name g.0 h.0 g.1 h.1 g.3 h.3 g.4 h.4 (sym g.2 ∙ h.2) in
    ap word (g.5 ∙ ap length same ∙ sym h.5)
one_start text (word n) long g h =
    let same = ap length (one_name g.0 h.piece g.1 h.rest g.3 h.name g.4 h.longest (sym g.2 ∙ h.splits)) in
    let short = g.6 in
    let more = h.long in
    absurd (omega arith)
one_start text long (word n) g h =
    let same = ap length (one_name h.0 g.piece h.1 g.rest h.3 g.name h.4 g.longest (sym h.2 ∙ g.splits)) in
    let short = h.6 in
    let more = g.long in
    absurd (omega arith)
one_start text long long g h = refl
one_start text (number z n) (number w m) g h =
    let same = one_run IsDigit g.0 h.0 g.1 h.1 g.3.1 h.3.1 g.4 h.4 (sym g.2 ∙ h.2) in
    let size : n ≡ m = g.5 ∙ ap length same.0 ∙ sym h.5 in
    let value : z ≡ w = g.7 ∙ ap (λ l. pos (digits_value 10 l)) same.0 ∙ sym h.7 in
    cc
one_start text (number z n) large g h =
    let same = one_run IsDigit g.0 h.piece g.1 h.rest g.3.1 h.digits.1 g.4 h.longest (sym g.2 ∙ h.splits) in
    let value = ap (λ l. digits_value 10 l) same.0 in
    let small = g.6 in
    let more = h.large in
    absurd (omega arith)
one_start text large (number z n) g h =
    let same = one_run IsDigit h.0 g.piece h.1 g.rest h.3.1 g.digits.1 h.4 g.longest (sym h.2 ∙ g.splits) in
    let value = ap (λ l. digits_value 10 l) same.0 in
    let small = h.6 in
    let more = g.large in
    absurd (omega arith)
one_start text large large g h = refl
one_start text a b g h = absurd (let e = clash text a b g h (λ k. omega arith) (λ k. omega arith) in omega arith)
