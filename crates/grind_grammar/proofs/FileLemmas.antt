-- Lexemes are one list of declarations at most, or are refused in one way.
use Rattle.std.proofs.Common.{◌≡◌, ◌≢◌, ℕ, zero, suc, ◌<◌, ◌⊎◌, inl, inr, Bool, true, false, List, [], ◌∷◌, ◌++◌, length, Result, Ok, Err, refl, sym, ◌∙◌, ap, subst, arith}
use Rattle.std.proofs.lemmas.List.Elements.{All-nil, All-cons, All-head, All-tail}
use Rattle.grind_tokens.specs.declared.tokens.Sym.TheVariants as symbols
use Rattle.grind_grammar.specs.Terms.{Declaration}
use Rattle.grind_grammar.specs.Lexemes.{Lexeme, Symbol}
use Rattle.grind_grammar.specs.Files.{depth_limit, Fault, Syntax, TooDeep, IsPiece, IsDeclaration, IsFaulty, IsFaultyEnd, end_too_many_open, unended, DeclarationsOf, nothing, declared, RefusedAt, here, at_end, later}
use Rattle.grind_grammar.specs.Laws.{OneParse, NoneRefused, OneRefusal, EachJudged}
use Rattle.grind_grammar.specs.Reading.{is_symbol, within, judged}
use Rattle.grind_grammar.proofs.ReadLemmas.{is_symbol_is, is_symbol_same}
use Rattle.grind_grammar.proofs.PieceLemmas.{within_is, within_yes, judged_ok, judged_err, ok_judged, err_judged}

-- pieces

IsNoDot : Lexeme → Type 0
IsNoDot l = l ≢ Symbol symbols.Dot

tails : {x y : Lexeme} {a b : List Lexeme} → x ∷ a ≡ y ∷ b → a ≡ b
tails e = cc

heads : {x y : Lexeme} {a b : List Lexeme} → x ∷ a ≡ y ∷ b → x ≡ y
heads e = cc

same_cons : {x y : Lexeme} {a b : List Lexeme} → x ≡ y → a ≡ b → x ∷ a ≡ y ∷ b
same_cons e f = cc

pub no_dot_in : (piece rest : List Lexeme) → IsPiece (piece ++ Symbol symbols.Dot ∷ rest) → ⊥
no_dot_in [] rest h = All-head (λ l. l ≢ Symbol symbols.Dot) (Symbol symbols.Dot) rest h refl
no_dot_in (l ∷ piece) rest h = no_dot_in piece rest (All-tail (λ l. l ≢ Symbol symbols.Dot) l _ h)

pub one_piece : (p q r s : List Lexeme) → IsPiece p → IsPiece q → p ++ Symbol symbols.Dot ∷ r ≡ q ++ Symbol symbols.Dot ∷ s → (p ≡ q) × (r ≡ s)
one_piece [] [] r s h k e = (refl, tails e)
one_piece [] (m ∷ q) r s h k e = absurd (All-head (λ l. l ≢ Symbol symbols.Dot) m q k (sym (heads e)))
one_piece (l ∷ p) [] r s h k e = absurd (All-head (λ l. l ≢ Symbol symbols.Dot) l p h (heads e))
one_piece (l ∷ p) (m ∷ q) r s h k e =
    let f = one_piece p q r s (All-tail (λ l. l ≢ Symbol symbols.Dot) l p h) (All-tail (λ l. l ≢ Symbol symbols.Dot) m q k) (tails e) in
    (same_cons (heads e) f.0, f.1)

no_end : (piece rest : List Lexeme) → [] ≡ piece ++ Symbol symbols.Dot ∷ rest → ⊥
no_end [] rest e = absurd cc
no_end (l ∷ piece) rest e = absurd cc

-- the verdict on a piece is one

ok_is : {a b : Declaration} {x : Result Declaration Fault} → x ≡ Ok a → x ≡ Ok b → a ≡ b
ok_is e f = cc

err_is : {a b : Fault} {x : Result Declaration Fault} → x ≡ Err a → x ≡ Err b → a ≡ b
err_is e f = cc

ok_not_err : {a : Declaration} {b : Fault} {x : Result Declaration Fault} → x ≡ Ok a → x ≡ Err b → ⊥
ok_not_err e f = absurd cc

one_declaration : {p q : List Lexeme} {d e : Declaration} → p ≡ q → IsDeclaration p d → IsDeclaration q e → d ≡ e
one_declaration {p = p} {q = q} {d = d} {e = e} same h k = ok_is (ok_judged p d h) (ap judged same ∙ ok_judged q e k)

not_both : {p q : List Lexeme} {d : Declaration} {f : Fault} → p ≡ q → IsDeclaration p d → IsFaulty q f → ⊥
not_both {p = p} {q = q} {d = d} {f = f} same h k = ok_not_err (ok_judged p d h) (ap judged same ∙ err_judged q f k)

one_fault : {p q : List Lexeme} {f g : Fault} → p ≡ q → IsFaulty p f → IsFaulty q g → f ≡ g
one_fault {p = p} {q = q} {f = f} {g = g} same h k = err_is (err_judged p f h) (ap judged same ∙ err_judged q g k)

one_end : {p : List Lexeme} {f g : Fault} → IsFaultyEnd p f → IsFaultyEnd p g → f ≡ g
one_end (end_too_many_open h) (end_too_many_open k) = refl
one_end (end_too_many_open h) (unended w) = absurd (h w)
one_end (unended w) (end_too_many_open k) = absurd (k w)
one_end (unended w) (unended v) = refl

-- runs

same_decls : {a b : Declaration} {as' bs : List Declaration} → a ≡ b → as' ≡ bs → a ∷ as' ≡ b ∷ bs
same_decls e f = cc

pub one_run : {ls : List Lexeme} {a b : List Declaration} → DeclarationsOf ls a → DeclarationsOf ls b → a ≡ b
one_run nothing nothing = refl
one_run nothing (declared {piece = q} {rest = s} k e g gs) = absurd (no_end q s e)
one_run (declared {piece = p} {rest = r} h e f fs) nothing = absurd (no_end p r e)
one_run (declared {piece = p} {rest = r} h e f fs) (declared {piece = q} {rest = s} {declarations = b} k g i is') =
    let m = one_piece p q r s h k (sym e ∙ g) in
    same_decls (one_declaration m.0 f i) (one_run fs (subst (λ l. DeclarationsOf l b) (sym m.1) is'))

pub run_not_refused : {ls : List Lexeme} {ds : List Declaration} {n : ℕ} {f : Fault} → DeclarationsOf ls ds → RefusedAt ls n f → ⊥
run_not_refused nothing (here {piece = q} s k e x) = no_end q s e
run_not_refused nothing (at_end k l x) = omega (arith, l)
run_not_refused nothing (later {piece = q} {rest = s} k e d x) = no_end q s e
run_not_refused (declared {piece = p} {rest = r} h e d ds) (here {piece = q} s k g x) =
    not_both ((one_piece p q r s h k (sym e ∙ g)).0) d x
run_not_refused (declared {piece = p} {rest = r} h e d ds) (at_end k l x) = no_dot_in p r (subst IsPiece e k)
run_not_refused (declared {piece = p} {rest = r} h e d ds) (later {piece = q} {rest = s} {number = n} {fault = f} k g i x) =
    run_not_refused ds (subst (λ l. RefusedAt l n f) (sym ((one_piece p q r s h k (sym e ∙ g)).1)) x)

pub one_refusal : {ls : List Lexeme} {a b : ℕ} {f g : Fault} → RefusedAt ls a f → RefusedAt ls b g → (a ≡ b) × (f ≡ g)
one_refusal (here {piece = p} r h e x) (here {piece = q} s k i y) = (refl, one_fault (one_piece p q r s h k (sym e ∙ i)).0 x y)
one_refusal (here {piece = p} r h e x) (at_end k l y) = absurd (no_dot_in p r (subst IsPiece e k))
one_refusal (here {piece = p} r h e x) (later {piece = q} {rest = s} k i d y) = absurd (not_both (sym (one_piece p q r s h k (sym e ∙ i)).0) d x)
one_refusal (at_end h l x) (here {piece = q} s k i y) = absurd (no_dot_in q s (subst IsPiece i h))
one_refusal (at_end h l x) (at_end k m y) = (refl, one_end x y)
one_refusal (at_end h l x) (later {piece = q} {rest = s} k i d y) = absurd (no_dot_in q s (subst IsPiece i h))
one_refusal (later {piece = p} {rest = r} h e d x) (here {piece = q} s k i y) = absurd (not_both (one_piece p q r s h k (sym e ∙ i)).0 d y)
one_refusal (later {piece = p} {rest = r} h e d x) (at_end k l y) = absurd (no_dot_in p r (subst IsPiece e k))
one_refusal (later {piece = p} {rest = r} h e d x) (later {piece = q} {rest = s} {number = n} {fault = g} k i c y) =
    let m = one_refusal x (subst (λ l. RefusedAt l n g) (sym (one_piece p q r s h k (sym e ∙ i)).1) y) in
    (ap suc m.0, m.1)

-- each file is judged

-- a first dot, or none
pub Cut : List Lexeme → Type 0
Cut ls = IsPiece ls ⊎ ((piece : List Lexeme) × (rest : List Lexeme) × IsPiece piece × (ls ≡ piece ++ Symbol symbols.Dot ∷ rest) × (length rest < length ls))

pub no_dot : (l : Lexeme) → is_symbol symbols.Dot l ≡ false → l ≢ Symbol symbols.Dot
no_dot l e h = let f = sym (is_symbol_same symbols.Dot) ∙ ap (is_symbol symbols.Dot) (sym h) ∙ e in absurd cc

cut_with : (l : Lexeme) (ls : List Lexeme) (b : Bool) → is_symbol symbols.Dot l ≡ b → Cut ls → Cut (l ∷ ls)
unfolding Cut
cut_with l ls true e c = inr ([], ls, All-nil (λ l. l ≢ Symbol symbols.Dot), same_cons (is_symbol_is symbols.Dot l e) refl, omega arith)
cut_with l ls false e (inl h) = inl (All-cons (λ l. l ≢ Symbol symbols.Dot) l ls (no_dot l e) h)
cut_with l ls false e (inr c) =
    let f = c.4 in
    inr (l ∷ c.0, c.1, All-cons (λ l. l ≢ Symbol symbols.Dot) l c.0 (no_dot l e) c.2, ap (λ m. l ∷ m) c.3, omega (arith, f))

pub cut : (ls : List Lexeme) → Cut ls
unfolding Cut
cut [] = inl (All-nil (λ l. l ≢ Symbol symbols.Dot))
cut (l ∷ ls) = cut_with l ls _ refl (cut ls)

abbrev Judged : List Lexeme → Type 0
Judged ls = ((declarations : List Declaration) × DeclarationsOf ls declarations) ⊎ ((number : ℕ) × (fault : Fault) × RefusedAt ls number fault)

end_judged : (ls : List Lexeme) → IsPiece ls → 0 < length ls → (b : Bool) → within depth_limit 0 ls ≡ b → Judged ls
end_judged ls h l true e = inr (1, Syntax, at_end h l (unended (within_is depth_limit 0 ls e)))
end_judged ls h l false e = inr (1, TooDeep, at_end h l (end_too_many_open (λ w. open_both (sym (within_yes depth_limit 0 ls w) ∙ e))))
  where
    open_both : true ≡ false → ⊥
    open_both f = absurd cc

last_judged : (ls : List Lexeme) → IsPiece ls → Judged ls
last_judged [] h = inl ([], nothing)
last_judged (l ∷ ls) h = end_judged (l ∷ ls) h (omega arith) _ refl

piece_judged : (ls piece rest : List Lexeme) → IsPiece piece → ls ≡ piece ++ Symbol symbols.Dot ∷ rest → (r : Result Declaration Fault) → judged piece ≡ r → Judged rest → Judged ls
piece_judged ls piece rest h e (Ok d) f (inl g) = inl (d ∷ g.0, declared h e (judged_ok piece d f) g.1)
piece_judged ls piece rest h e (Ok d) f (inr g) = inr (suc g.0, g.1, later h e (judged_ok piece d f) g.2)
piece_judged ls piece rest h e (Err x) f g = inr (1, x, here rest h e (judged_err piece x f))

judged_with : (fuel : ℕ) (ls : List Lexeme) → length ls < fuel → Cut ls → ((rest : List Lexeme) → length rest < length ls → Judged rest) → Judged ls
unfolding Cut
judged_with fuel ls h (inl c) further = last_judged ls c
judged_with fuel ls h (inr c) further = piece_judged ls c.0 c.1 c.2 c.3 _ refl (further c.1 c.4)

judged_up_to : (fuel : ℕ) (ls : List Lexeme) → length ls < fuel → Judged ls
judged_up_to zero ls h = absurd (omega (arith, h))
judged_up_to (suc fuel) ls h = judged_with (suc fuel) ls h (cut ls) (λ rest l. judged_up_to fuel rest (omega (arith, l, h)))

pub one_parse : OneParse
one_parse ls a b h k = one_run h k

pub none_refused : NoneRefused
none_refused ls ds n f h k = run_not_refused h k

pub one_refusal_at_most : OneRefusal
one_refusal_at_most ls a b f g h k = one_refusal h k

pub each_judged : EachJudged
each_judged ls = judged_up_to (suc (length ls)) ls (omega arith)
