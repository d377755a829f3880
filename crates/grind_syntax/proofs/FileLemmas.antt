-- Pieces and files.
use Rattle.std.proofs.Common.{◌≡◌, ◌≢◌, ℕ, suc, ◌+◌, ◌<◌, ◌≤◌, Bool, true, false, List, [], ◌∷◌, ◌++◌, length, Option, Some, None, Ok, Err, All, refl, sym, ◌∙◌, ap, subst, arith, append_assoc, length-append}
use Rattle.std.specs.Prelude.{map, nat_le, ◌&&◌, take, drop, Result}
use Rattle.std.proofs.lemmas.Bool.Decides.{nat_tests}
use Rattle.std.proofs.lemmas.List.{map-append}
use Rattle.std.proofs.lemmas.List.Elements.{All-nil, All-cons, All-head, All-tail}
use Rattle.grind_tokens.specs.Tokens.{IsPiece}
use Rattle.grind_tokens.specs.declared.tokens.Sym.TheVariants as symbols
use Rattle.grind_tokens.specs.declared.tokens.TokenKind.{TokenKind}
use Rattle.grind_tokens.specs.declared.tokens.TokenKind.TheVariants as kinds
use Rattle.grind_tokens.specs.declared.tokens.Token.{Token}
use Rattle.grind_grammar.specs.declared.syntax.Annot.{Annot}
use Rattle.grind_grammar.specs.declared.syntax.Annot.TheVariants as annots
use Rattle.grind_grammar.specs.declared.syntax.Decl.{Decl}
use Rattle.grind_grammar.specs.declared.syntax.Decl.TheVariants as decls
use Rattle.grind_grammar.specs.Terms.{Declaration}
use Rattle.grind_grammar.specs.Lexemes.{Lexeme, Symbol, lexemes, lexeme, lexeme_between}
use Rattle.grind_grammar.specs.Keeps.{KeepsEach, KeepsTree, KeepsName, KeepsBound, KeepsAnnotation, KeepsDecl, KeepsDecls, name_of, term_of, IsPlaced, IsPlacedTree}
use Rattle.grind_grammar.specs.Parentheses.{Within, open_after}
use Rattle.grind_grammar.specs.Reading.{within, judged, whole, read, declaration}
use Rattle.grind_grammar.specs.Files as files
use Rattle.grind_grammar.specs.Files.{depth_limit, Fault, Syntax, TooDeep, IsDeclaration, IsFaulty, IsFaultyEnd, end_too_many_open, unended, DeclarationsOf, nothing, declared, RefusedAt, here, at_end, later}
use Rattle.grind_syntax.specs.Places.{Placed, bound_of, IsPlacedBound}
use Rattle.grind_syntax.specs.Annotated.{annotation_of, IsPlacedAnnotation}
use Rattle.grind_syntax.specs.KeptDeclarations.{declaration_kept, IsPlacedDeclaration}
use Rattle.grind_syntax.specs.Pieces.{AreUndotted, BeginsWithDot, IsCut, open_after_kind}
use Rattle.grind_syntax.specs.declared.parse.SyntaxRefusal.{SyntaxRefusal}
use Rattle.grind_syntax.specs.declared.parse.SyntaxRefusal.TheVariants as refusals
use Rattle.grind_syntax.specs.Refusals.{FileSoFar, IsRefusal, IsVerdict, IsEndRefusal}
use Rattle.grind_syntax.proofs.Fronts.{lexemes_length}

-- the tokens of a text stand in it
pub placed_pieces : (text : List ℕ) (tokens : List Token) → All (IsPiece text) tokens → Placed text tokens
placed_pieces text tokens h = λ k d within. let piece = h k d within in let filled = piece.not_empty in (omega arith, piece.within)

-- parentheses

pub no_token : (limit count : ℕ) (text : List ℕ) (tokens : List Token) → length tokens ≡ 0 → within limit count (lexemes text tokens) ≡ true
unfolding within
no_token limit count text [] e = refl
no_token limit count text (token ∷ tokens) e = absurd (omega arith)

open_kind : (count : ℕ) (text : List ℕ) (start end : ℕ) (kind : TokenKind) → open_after count (lexeme_between text start end kind) ≡ open_after_kind count kind
open_kind count text start end kinds.Word = refl
open_kind count text start end (kinds.Number value) = refl
open_kind count text start end (kinds.Symbol s) = refl

pub token_fits : (limit count : ℕ) (text : List ℕ) (token : Token) (rest : List Token) → open_after_kind count token.kind ≤ limit →
    within limit count (lexemes text (token ∷ rest)) ≡ within limit (open_after_kind count token.kind) (lexemes text rest)
unfolding within
token_fits limit count text token rest h =
    let same = open_kind count text token.start token.end token.kind in
    let e : nat_le (open_after_kind count token.kind) limit ≡ true = grind (arith, nat_tests) in
    rw same (rw e refl)

pub token_over : (limit count : ℕ) (text : List ℕ) (token : Token) (rest : List Token) → limit < open_after_kind count token.kind →
    within limit count (lexemes text (token ∷ rest)) ≡ false
unfolding within
token_over limit count text token rest h =
    let same = open_kind count text token.start token.end token.kind in
    let e : nat_le (open_after_kind count token.kind) limit ≡ false = grind (arith, nat_tests) in
    rw same (rw e refl)

and_true : (a b : Bool) → (a && b) ≡ true → (a ≡ true) × (b ≡ true)
and_true true b e = (refl, e)
and_true false b e = absurd cc

low : (a b : ℕ) → nat_le a b ≡ true → a ≤ b
low a b e = grind (arith, nat_tests)

pub within_is : (limit count : ℕ) (ls : List Lexeme) → within limit count ls ≡ true → Within limit count ls
unfolding within
within_is limit count [] e = tt
within_is limit count (l ∷ ls) e =
    let h = and_true (nat_le (open_after count l) limit) _ e in
    (low (open_after count l) limit h.0, within_is limit (open_after count l) ls h.1)

both_true : (a b : Bool) → a ≡ true → b ≡ true → (a && b) ≡ true
both_true true b e f = f
both_true false b e f = absurd cc

is_low : (a b : ℕ) → a ≤ b → nat_le a b ≡ true
is_low a b e = grind (arith, nat_tests)

within_yes : (limit count : ℕ) (ls : List Lexeme) → Within limit count ls → within limit count ls ≡ true
unfolding within
within_yes limit count [] h = refl
within_yes limit count (l ∷ ls) h =
    both_true (nat_le (open_after count l) limit) _ (is_low (open_after count l) limit h.0) (within_yes limit (open_after count l) ls h.1)

pub not_within : (limit count : ℕ) (ls : List Lexeme) → within limit count ls ≡ false → ¬ Within limit count ls
not_within limit count ls e h = let f = within_yes limit count ls h in absurd cc

-- pieces

all_of_it : {A : Type 0} (xs : List A) → xs ++ [] ≡ xs
all_of_it [] = refl
all_of_it (x ∷ xs) = ap (λ ys. x ∷ ys) (all_of_it xs)

lexemes_append : (text : List ℕ) (a b : List Token) → lexemes text (a ++ b) ≡ lexemes text a ++ lexemes text b
lexemes_append text [] b = refl
lexemes_append text (t ∷ a) b = ap (λ ls. lexeme text t ∷ ls) (lexemes_append text a b)

no_dot : (text : List ℕ) (start end : ℕ) (kind : TokenKind) → kind ≢ kinds.Symbol symbols.Dot →
    lexeme_between text start end kind ≢ Symbol symbols.Dot
no_dot text start end kinds.Word h e = absurd cc
no_dot text start end (kinds.Number value) h e = absurd cc
no_dot text start end (kinds.Symbol s) h e = let f : s ≡ symbols.Dot = cc in h (ap kinds.Symbol f)

pub undotted_piece : (text : List ℕ) (tokens : List Token) → AreUndotted tokens → files.IsPiece (lexemes text tokens)
undotted_piece text [] h = All-nil (λ l. l ≢ Symbol symbols.Dot)
undotted_piece text (t ∷ tokens) h =
    All-cons (λ l. l ≢ Symbol symbols.Dot) (lexeme text t) (lexemes text tokens)
    (no_dot text t.start t.end t.kind (All-head (λ t. t.kind ≢ kinds.Symbol symbols.Dot) t tokens h))
    (undotted_piece text tokens (All-tail (λ t. t.kind ≢ kinds.Symbol symbols.Dot) t tokens h))

abbrev IsInside : List ℕ → Token → Type 0
IsInside text token = (token.start ≤ token.end) × (token.end ≤ length text)

placed_append : (text : List ℕ) (a b : List Token) → Placed text (a ++ b) → Placed text a × Placed text b
placed_append text [] b h = (All-nil (IsInside text), h)
placed_append text (t ∷ a) b h =
    let k = placed_append text a b (All-tail (IsInside text) t (a ++ b) h) in
    (All-cons (IsInside text) t a (All-head (IsInside text) t (a ++ b) h) k.0, k.1)

front_is : {A : Type 0} (front behind : List A) → take (length front) (front ++ behind) ≡ front
front_is [] behind = refl
front_is (x ∷ front) behind = ap (λ xs. x ∷ xs) (front_is front behind)

behind_is : {A : Type 0} (front behind : List A) → drop (length front) (front ++ behind) ≡ behind
behind_is [] behind = refl
behind_is (x ∷ front) behind = behind_is front behind

pub piece_is : (tokens piece behind : List Token) (count : ℕ) → tokens ≡ piece ++ behind → length piece ≡ count → take count tokens ≡ piece
piece_is tokens piece behind count e n = rw (e, ← n) (front_is piece behind)

pub rest_is : (tokens piece behind : List Token) (count : ℕ) → tokens ≡ piece ++ behind → length piece ≡ count → drop count tokens ≡ behind
rest_is tokens piece behind count e n = rw (e, ← n) (behind_is piece behind)

pub placed_piece : (text : List ℕ) (tokens piece behind : List Token) → tokens ≡ piece ++ behind → Placed text tokens → Placed text piece
placed_piece text tokens piece behind e h = (placed_append text piece behind (subst (Placed text) e h)).0

dot_lexeme : (text : List ℕ) (t : Token) → t.kind ≡ kinds.Symbol symbols.Dot → lexeme text t ≡ Symbol symbols.Dot
dot_lexeme text t e = ap (lexeme_between text t.start t.end) e

dot_first : (text : List ℕ) (t : Token) (behind : List Token) → t.kind ≡ kinds.Symbol symbols.Dot → lexemes text (t ∷ behind) ≡ Symbol symbols.Dot ∷ lexemes text behind
dot_first text t behind e = ap (λ l. l ∷ lexemes text behind) (dot_lexeme text t e)

split_whole : (text : List ℕ) (tokens piece behind : List Token) (left : List Lexeme) → tokens ≡ piece ++ behind →
    lexemes text behind ≡ Symbol symbols.Dot ∷ left → lexemes text tokens ≡ lexemes text piece ++ Symbol symbols.Dot ∷ left
split_whole text tokens piece behind left e h = ap (lexemes text) e ∙ lexemes_append text piece behind ∙ ap (λ ls. lexemes text piece ++ ls) h

pub nothing_left : {A : Type 0} (xs : List A) → length xs ≡ 0 → xs ≡ []
nothing_left [] e = refl
nothing_left (x ∷ xs) e = absurd (omega arith)

pub cut_here : (tokens piece after left : List Token) (dot : Token) → tokens ≡ piece ++ after → BeginsWithDot after → after ≡ dot ∷ left → IsCut tokens piece left
cut_here tokens piece after left dot e h f = record { dot = dot; is_dot = subst BeginsWithDot f h; whole = e ∙ ap (λ xs. piece ++ xs) f }

pub cut_lexemes : (text : List ℕ) (tokens piece left : List Token) → IsCut tokens piece left →
    lexemes text tokens ≡ lexemes text piece ++ Symbol symbols.Dot ∷ lexemes text left
cut_lexemes text tokens piece left h = split_whole text tokens piece (h.dot ∷ left) (lexemes text left) h.whole (dot_first text h.dot left h.is_dot)

pub cut_shorter : (tokens piece left : List Token) → IsCut tokens piece left → length left < length tokens
cut_shorter tokens piece left h =
    let counts = ap length h.whole ∙ length-append piece (h.dot ∷ left) in omega arith

pub cut_placed : (text : List ℕ) (tokens piece left : List Token) → IsCut tokens piece left → Placed text tokens → Placed text left
cut_placed text tokens piece left h k =
    All-tail (IsInside text) h.dot left (placed_append text piece (h.dot ∷ left) (subst (Placed text) h.whole k)).1

pub only_piece : (tokens piece behind : List Token) → tokens ≡ piece ++ behind → behind ≡ [] → piece ≡ tokens
only_piece tokens piece behind e h = sym (e ∙ ap (λ xs. piece ++ xs) h ∙ all_of_it piece)

-- what was kept is what the declaration says

keeps_all : {A B : Type 0} (keeps : A → B → Type 0) (P : A → Type 0) (f : A → B) → ((x : A) → P x → keeps x (f x)) → (xs : List A) → All P xs → KeepsEach keeps xs (map f xs)
keeps_all keeps P f step [] h = tt
keeps_all keeps P f step (x ∷ xs) h = (step x (All-head P x xs h), keeps_all keeps P f step xs (All-tail P x xs h))

keeps_annotation : (text : List ℕ) (a : Annot) → IsPlacedAnnotation text a → KeepsAnnotation text a (annotation_of text a)
keeps_annotation text annots.Left h = tt
keeps_annotation text annots.Right h = tt
keeps_annotation text annots.Hyps h = tt
keeps_annotation text annots.Concl h = tt
keeps_annotation text (annots.Pattern trees) h = keeps_all (KeepsTree text) (IsPlacedTree text) (term_of text) (λ t k. (k, refl)) trees h

keeps_declaration : (text : List ℕ) (d : Decl) → IsPlacedDeclaration text d → KeepsDecl text d (declaration_kept text d)
keeps_declaration text (decls.Sort name) h = (h, refl)
keeps_declaration text (decls.Fun name args result) h =
    ((h.0, refl), keeps_all (KeepsName text) (IsPlaced text) (name_of text) (λ n k. (k, refl)) args h.1, (h.2, refl))
keeps_declaration text (decls.Theorem name binders annots body) h = (
  (h.0, refl),
  keeps_all (KeepsBound text) (IsPlacedBound text) (bound_of text) (λ b k. ((k.0, refl), (k.1, refl))) binders h.1,
  keeps_all (KeepsAnnotation text) (IsPlacedAnnotation text) (annotation_of text) (keeps_annotation text) annots h.2,
  (h.3, refl),
)
keeps_declaration text (decls.Goal name binders hyps show) h = (
  (h.0, refl),
  keeps_all (KeepsBound text) (IsPlacedBound text) (bound_of text) (λ b k. ((k.0, refl), (k.1, refl))) binders h.1,
  keeps_all (KeepsTree text) (IsPlacedTree text) (term_of text) (λ t k. (k, refl)) hyps h.2,
  (h.3, refl),
)
keeps_declaration text (decls.Limit name value) h = ((h, refl), refl)

pub keeps_declarations : (text : List ℕ) (kept : List Decl) → All (IsPlacedDeclaration text) kept → KeepsDecls text kept (map (declaration_kept text) kept)
keeps_declarations text kept h = keeps_all (KeepsDecl text) (IsPlacedDeclaration text) (declaration_kept text) (keeps_declaration text) kept h

-- the verdict on a piece

pub judged_open : (piece : List Lexeme) → within depth_limit 0 piece ≡ false → judged piece ≡ Err TooDeep
unfolding judged
judged_open piece e = rw e refl

module _ (piece : List Lexeme) (w : within depth_limit 0 piece ≡ true) where
  pub judged_none : declaration depth_limit depth_limit piece ≡ None → judged piece ≡ Err Syntax
  unfolding judged whole
  judged_none e = rw w (rw e refl)

  judged_by : (given : Option Declaration) (left : List Lexeme) → declaration depth_limit depth_limit piece ≡ read given left → judged piece ≡ whole (read given left)
  unfolding judged
  judged_by given left e = rw w (ap whole e)

  rest_left : (given : Option Declaration) (left : List Lexeme) → 0 < length left → whole (read given left) ≡ Err Syntax
  unfolding whole
  rest_left given [] h = absurd (omega arith)
  rest_left given (l ∷ left) h = refl

  pub judged_left : (given : Option Declaration) (left : List Lexeme) → declaration depth_limit depth_limit piece ≡ read given left → 0 < length left → judged piece ≡ Err Syntax
  judged_left given left e h = judged_by given left e ∙ rest_left given left h

  all_read : (given : Option Declaration) (left : List Lexeme) → length left ≡ 0 → whole (read given left) ≡ whole (read given [])
  all_read given [] e = refl
  all_read given (l ∷ left) e = absurd (omega arith)

  too_deep_whole : whole (read None []) ≡ Err TooDeep
  unfolding whole
  too_deep_whole = refl

  good_whole : (d : Declaration) → whole (read (Some d) []) ≡ Ok d
  unfolding whole
  good_whole d = refl

  pub judged_deep : (left : List Lexeme) → declaration depth_limit depth_limit piece ≡ read None left → length left ≡ 0 → judged piece ≡ Err TooDeep
  judged_deep left e h = judged_by None left e ∙ all_read None left h ∙ too_deep_whole

  pub judged_good : (d : Declaration) (left : List Lexeme) → declaration depth_limit depth_limit piece ≡ read (Some d) left → length left ≡ 0 → judged piece ≡ Ok d
  judged_good d left e h = judged_by (Some d) left e ∙ all_read (Some d) left h ∙ good_whole d

-- files

pub file_begin : (text : List ℕ) (ls : List Lexeme) → FileSoFar text ls [] ls 0
file_begin text ls = record { completes = λ ds h. h; refuses = λ number fault h. let same : number ≡ 0 + number = omega arith in subst (λ n. RefusedAt ls n fault) same h }

pub file_more : (text : List ℕ) (all : List Lexeme) (kept more : List Decl) (rest : List Lexeme) (count : ℕ) (piece left : List Lexeme) (d : Decl) →
    FileSoFar text all kept rest count → more ≡ kept ++ d ∷ [] → files.IsPiece piece → rest ≡ piece ++ Symbol symbols.Dot ∷ left →
    IsDeclaration piece (declaration_kept text d) → FileSoFar text all more left (count + 1)
file_more text all kept more rest count piece left d h e undotted split good = record {
  completes = λ ds k.
      let grown : map (declaration_kept text) more ++ ds ≡ map (declaration_kept text) kept ++ declaration_kept text d ∷ ds =
      ap (λ xs. map (declaration_kept text) xs ++ ds) e ∙ ap (λ xs. xs ++ ds) (map-append (declaration_kept text) kept (d ∷ []))
      ∙ append_assoc (map (declaration_kept text) kept) (declaration_kept text d ∷ []) ds in
      subst (DeclarationsOf all) (sym grown) (h.completes (declaration_kept text d ∷ ds) (declared undotted split good k));
  refuses = λ number fault k.
      let same : count + suc number ≡ count + 1 + number = omega arith in
      subst (λ n. RefusedAt all n fault) same (h.refuses (suc number) fault (later undotted split good k));
}

no_more : (xs : List Declaration) → xs ++ [] ≡ xs
no_more [] = refl
no_more (x ∷ xs) = ap (λ ys. x ∷ ys) (no_more xs)

pub file_end : (text : List ℕ) (all : List Lexeme) (kept : List Decl) (rest : List Token) (count : ℕ) → FileSoFar text all kept (lexemes text rest) count →
    length rest ≡ 0 → DeclarationsOf all (map (declaration_kept text) kept)
file_end text all kept [] count h e = subst (DeclarationsOf all) (no_more (map (declaration_kept text) kept)) (h.completes [] nothing)
file_end text all kept (t ∷ rest) count h e = absurd (omega arith)

-- refusals

pub refused_here : (all : List Lexeme) (verdict : Result Declaration Fault) (number : ℕ) (r : SyntaxRefusal) → IsVerdict verdict number r →
    ((fault : Fault) → verdict ≡ Err fault → RefusedAt all number fault) → IsRefusal all r
refused_here all verdict number (refusals.Syntax decl) h step = subst (λ n. RefusedAt all n Syntax) (sym h.0) (step Syntax h.1)
refused_here all verdict number (refusals.TooDeep decl) h step = subst (λ n. RefusedAt all n TooDeep) (sym h.0) (step TooDeep h.1)
refused_here all verdict number refusals.Memory h step = tt

pub refused_at_end : (all piece : List Lexeme) (number : ℕ) (r : SyntaxRefusal) → IsEndRefusal piece number r →
    ((fault : Fault) → IsFaultyEnd piece fault → RefusedAt all number fault) → IsRefusal all r
refused_at_end all piece number (refusals.Syntax decl) h step = subst (λ n. RefusedAt all n Syntax) (sym h.0) (step Syntax h.1)
refused_at_end all piece number (refusals.TooDeep decl) h step = subst (λ n. RefusedAt all n TooDeep) (sym h.0) (step TooDeep h.1)
refused_at_end all piece number refusals.Memory h step = absurd h

pub first_is_bad : (text : List ℕ) (all : List Lexeme) (kept : List Decl) (rest : List Lexeme) (count : ℕ) (piece left : List Lexeme) (fault : Fault) →
    FileSoFar text all kept rest count → files.IsPiece piece → rest ≡ piece ++ Symbol symbols.Dot ∷ left → IsFaulty piece fault →
    RefusedAt all (count + 1) fault
first_is_bad text all kept rest count piece left fault h undotted split bad = h.refuses 1 fault (here left undotted split bad)

pub end_is_bad : (text : List ℕ) (all : List Lexeme) (kept : List Decl) (rest : List Token) (count : ℕ) (piece : List Token) (fault : Fault) →
    FileSoFar text all kept (lexemes text rest) count → AreUndotted piece → piece ≡ rest → 0 < length rest → IsFaultyEnd (lexemes text piece) fault →
    RefusedAt all (count + 1) fault
end_is_bad text all kept rest count piece fault h undotted same some bad =
    let filled : 0 < length (lexemes text piece) = rw (lexemes_length text piece, same) some in
    h.refuses 1 fault (subst (λ xs. RefusedAt (lexemes text xs) 1 fault) same (at_end (undotted_piece text piece undotted) filled bad))
