-- The reading function judges each piece as the grammar does.
use Rattle.std.proofs.Common.{◌≡◌, ℕ, inl, inr, Bool, true, false, List, [], ◌∷◌, Option, Some, None, Result, Ok, Err, refl, sym, ◌∙◌, ap, subst, arith, leb-true, le-leb}
use Rattle.std.specs.Prelude.{if◌then◌else◌, nat_le, ◌&&◌}
use Rattle.grind_grammar.specs.Terms.{Declaration, DeclarationFits}
use Rattle.grind_grammar.specs.Lexemes.{Lexeme}
use Rattle.grind_grammar.specs.Grammar.{Declares}
use Rattle.grind_grammar.specs.Parentheses.{open_after, Within}
use Rattle.grind_grammar.specs.Files.{depth_limit, Fault, Syntax, TooDeep, IsDeclaration, IsFaulty, too_many_open, ungrammatical, too_deep}
use Rattle.grind_grammar.specs.Reading.{Read, read, within, whole, judged, declaration}
use Rattle.grind_grammar.proofs.ReadLemmas.{nothing_read, some_is, read_is}
use Rattle.grind_grammar.proofs.FitLemmas.{IsGiven, fit_declaration, declaration_given}
use Rattle.grind_grammar.proofs.DeclarationSound.{declaration_sound}
use Rattle.grind_grammar.proofs.DeclarationDone.{declaration_done}

-- parentheses

both_true : (a b : Bool) → (a && b) ≡ true → (a ≡ true) × (b ≡ true)
both_true true b e = (refl, e)
both_true false b e = absurd cc

pub within_is : (limit count : ℕ) (ls : List Lexeme) → within limit count ls ≡ true → Within limit count ls
unfolding within
within_is limit count [] e = tt
within_is limit count (l ∷ ls) e =
    let h = both_true (nat_le (open_after count l) limit) _ e in
    (leb-true _ _ h.0, within_is limit (open_after count l) ls h.1)

pub within_yes : (limit count : ℕ) (ls : List Lexeme) → Within limit count ls → within limit count ls ≡ true
unfolding within
within_yes limit count [] w = refl
within_yes limit count (l ∷ ls) w = rw (le-leb _ _ w.0, within_yes limit (open_after count l) ls w.1) refl

within_no : (limit count : ℕ) (ls : List Lexeme) (b : Bool) → ¬ Within limit count ls → within limit count ls ≡ b → b ≡ false
within_no limit count ls true h e = absurd (h (within_is limit count ls e))
within_no limit count ls false h e = refl

-- a piece is judged to be a declaration, or to have a fault, as it is or has
pub IsJudged : List Lexeme → Result Declaration Fault → Type 0
IsJudged piece (Ok d) = IsDeclaration piece d
IsJudged piece (Err f) = IsFaulty piece f

abbrev read_piece : List Lexeme → Read (Option Declaration)
read_piece piece = declaration depth_limit depth_limit piece

reads_piece : (piece : List Lexeme) (d : Declaration) → Within depth_limit 0 piece → Declares piece d [] → read_piece piece ≡ read (fit_declaration depth_limit d) []
reads_piece piece d w p = declaration_done depth_limit depth_limit 0 depth_limit (omega arith) p w (omega arith)

fitted : (piece : List Lexeme) (d e : Declaration) → Within depth_limit 0 piece → Declares piece e [] → Some d ≡ fit_declaration depth_limit e →
    IsGiven (DeclarationFits depth_limit) (fit_declaration depth_limit) e → IsDeclaration piece d
fitted piece d e w p h (inl g) =
    subst (IsDeclaration piece) (sym (some_is (h ∙ g.1))) (record { within = w; declares = p; fits = g.0 })
fitted piece d e w p h (inr g) = absurd (nothing_read (sym (h ∙ g.1)))

unfitted : (piece : List Lexeme) (e : Declaration) → Within depth_limit 0 piece → Declares piece e [] → None ≡ fit_declaration depth_limit e →
    IsGiven (DeclarationFits depth_limit) (fit_declaration depth_limit) e → IsFaulty piece TooDeep
unfitted piece e w p h (inl g) = absurd (nothing_read (h ∙ g.1))
unfitted piece e w p h (inr g) = too_deep w p g.0

whole_judged : (piece : List Lexeme) → Within depth_limit 0 piece → (r : Read (Option Declaration)) → read_piece piece ≡ r → IsJudged piece (whole r)
unfolding whole IsJudged
whole_judged piece w None e = ungrammatical w (λ d p. nothing_read (sym e ∙ reads_piece piece d w p))
whole_judged piece w (Some (Some d, [])) e =
    let k = declaration_sound depth_limit depth_limit piece (Some d) [] e in
    fitted piece d k.0 w k.1 k.2 (declaration_given depth_limit k.0)
whole_judged piece w (Some (None, [])) e =
    let k = declaration_sound depth_limit depth_limit piece None [] e in
    unfitted piece k.0 w k.1 k.2 (declaration_given depth_limit k.0)
whole_judged piece w (Some (o, l ∷ ls)) e = ungrammatical w (λ d p. no_rest (read_is (sym e ∙ reads_piece piece d w p)).1)
  where
    no_rest : l ∷ ls ≡ [] → ⊥
    no_rest h = absurd cc

piece_judged : (piece : List Lexeme) (b : Bool) → within depth_limit 0 piece ≡ b → IsJudged piece (if b then whole (read_piece piece) else Err TooDeep)
unfolding IsJudged
piece_judged piece true e = whole_judged piece (within_is depth_limit 0 piece e) _ refl
piece_judged piece false e = too_many_open (λ w. true_not_false (sym (within_yes depth_limit 0 piece w) ∙ e))
  where
    true_not_false : true ≡ false → ⊥
    true_not_false h = absurd cc

pub is_judged : (piece : List Lexeme) → IsJudged piece (judged piece)
unfolding judged
is_judged piece = piece_judged piece _ refl

pub judged_ok : (piece : List Lexeme) (d : Declaration) → judged piece ≡ Ok d → IsDeclaration piece d
unfolding IsJudged
judged_ok piece d e = subst (IsJudged piece) e (is_judged piece)

pub judged_err : (piece : List Lexeme) (f : Fault) → judged piece ≡ Err f → IsFaulty piece f
unfolding IsJudged
judged_err piece f e = subst (IsJudged piece) e (is_judged piece)

-- and each verdict of the grammar is the reading function's

judged_within : (piece : List Lexeme) → Within depth_limit 0 piece → judged piece ≡ whole (read_piece piece)
unfolding judged
judged_within piece w = rw (within_yes depth_limit 0 piece w) refl

given_ok : (d : Declaration) → DeclarationFits depth_limit d → IsGiven (DeclarationFits depth_limit) (fit_declaration depth_limit) d →
    whole (read (fit_declaration depth_limit d) []) ≡ Ok d
unfolding whole
given_ok d h (inl g) = rw g.1 refl
given_ok d h (inr g) = absurd (g.0 h)

given_none : (d : Declaration) → ¬ DeclarationFits depth_limit d → IsGiven (DeclarationFits depth_limit) (fit_declaration depth_limit) d →
    whole (read (fit_declaration depth_limit d) []) ≡ Err TooDeep
unfolding whole
given_none d h (inl g) = absurd (h g.0)
given_none d h (inr g) = rw g.1 refl

pub ok_judged : (piece : List Lexeme) (d : Declaration) → IsDeclaration piece d → judged piece ≡ Ok d
ok_judged piece d k =
    judged_within piece k.within ∙ ap whole (reads_piece piece d k.within k.declares) ∙ given_ok d k.fits (declaration_given depth_limit d)

syntax_judged : (piece : List Lexeme) → ((d : Declaration) → ¬ Declares piece d []) → (r : Result Declaration Fault) → IsJudged piece r → Within depth_limit 0 piece → r ≡ Err Syntax
unfolding IsJudged
syntax_judged piece h (Ok d) k w = absurd (h d k.declares)
syntax_judged piece h (Err Syntax) k w = refl
syntax_judged piece h (Err TooDeep) (too_many_open g) w = absurd (g w)
syntax_judged piece h (Err TooDeep) (too_deep {declaration = d} v p g) w = absurd (h d p)

pub err_judged : (piece : List Lexeme) (f : Fault) → IsFaulty piece f → judged piece ≡ Err f
unfolding judged
err_judged piece _ (too_many_open h) = rw (within_no depth_limit 0 piece _ h refl) refl
err_judged piece _ (ungrammatical w h) = syntax_judged piece h (judged piece) (is_judged piece) w
err_judged piece _ (too_deep {declaration = d} w p g) =
    judged_within piece w ∙ ap whole (reads_piece piece d w p) ∙ given_none d g (declaration_given depth_limit d)
