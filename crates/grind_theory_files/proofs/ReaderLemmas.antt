-- From the declarations of a file to its theory, or to the refusal of its bytes.
use Rattle.std.proofs.Common.{◌≡◌, ℕ, zero, suc, ◌⊎◌, inl, inr, List, [], ◌∷◌, All, Contains, Result, Err, refl, sym, subst, arith}
use Rattle.std.specs.Prelude.{slice_range}
use Rattle.std.specs.List.{AllByRecursion}
use Rattle.std.proofs.lemmas.List.Elements.{All-head, All-tail}
use Rattle.grind_tokens.specs.declared.tokens.Token.{Token}
use Rattle.grind_tokens.specs.declared.tokens.TokenKind.{TokenKind}
use Rattle.grind_tokens.specs.declared.tokens.TokenKind.TheVariants as kinds
use Rattle.grind_tokens.specs.Tokens.{IsName, IsSpelled, IsPiece, IsPlain, NamesArePlain}
use Rattle.grind_grammar.specs.declared.syntax.Decl.{Decl}
use Rattle.grind_grammar.specs.Lexemes.{Word, lexeme, lexeme_between, lexemes}
use Rattle.grind_grammar.specs.Terms.{Declaration, Sort, Fun, Theorem, Goal, Limit}
use Rattle.grind_grammar.specs.Laws.{declared_names, NamesAreWords}
use Rattle.grind_schemes.specs.Labels.{IsLabel}
use Rattle.grind_theory.specs.Kept.{HasLabels, AreKept}
use Rattle.grind_theory.specs.Building.{IsTheoryRead, AreRefused}
use Rattle.grind_theory.specs.States.{bound_names}
use Rattle.grind_theory.specs.declared.theory.Fault.{Fault}
use Rattle.grind_theory.specs.declared.theory.Theory.{Theory}
use Rattle.grind_theory.specs.declared.theory.TheoryRefusal.{TheoryRefusal}
use Rattle.grind_theory.specs.declared.theory.TheoryRefusal.TheVariants as declared
use Rattle.grind_theory_files.specs.declared.reader.ReaderRefusal.{ReaderRefusal}
use Rattle.grind_theory_files.specs.TheoryFiles.{TheoryOf}
use Rattle.grind_theory_files.specs.Reading.{IsRefusal, IsOfDeclarations, AreTokens, AreDeclarations}

-- members of lists

first_member : {A : Type 0} (x : A) (xs : List A) → Contains (x ∷ xs) x
first_member x xs = (0, omega arith, refl)

later_member : {A : Type 0} (x : A) (xs : List A) (y : A) → Contains xs y → Contains (x ∷ xs) y
later_member x xs y has = (suc has.0, omega (arith, has.1), has.2)

member_cases : {A : Type 0} (x : A) (xs : List A) (y : A) → Contains (x ∷ xs) y → (x ≡ y) ⊎ Contains xs y
member_cases x xs y (zero, within, is) = inl is
member_cases x xs y (suc k, within, is) = inr (k, omega (arith, within), is)

-- the words of a text are names of tokens, and these are labels

words_equal : (a b : List ℕ) → Word a ≡ Word b → a ≡ b
words_equal a b e = cc

spelled_word : (text : List ℕ) (start end : ℕ) (kind : TokenKind) (name : List ℕ) → lexeme_between text start end kind ≡ Word name →
    IsSpelled kind (slice_range text start end) → IsName name
spelled_word text start end kinds.Word name is spelled = subst IsName (words_equal (slice_range text start end) name is) spelled
spelled_word text start end (kinds.Number value) name is spelled = absurd cc
spelled_word text start end (kinds.Symbol sym) name is spelled = absurd cc

word_is_name : (text : List ℕ) (tokens : List Token) (name : List ℕ) → All (IsPiece text) tokens → Contains (lexemes text tokens) (Word name) → IsName name
word_is_name text [] name pieces has = absurd (omega (arith, has.1))
word_is_name text (token ∷ tokens) name pieces has = elim (member_cases (lexeme text token) (lexemes text tokens) (Word name) has) [
  | inl is ↦ spelled_word text token.start token.end token.kind name is (All-head (IsPiece text) token tokens pieces).spelled
  | inr later ↦ word_is_name text tokens name (All-tail (IsPiece text) token tokens pieces) later
]

plain_is_label : (bytes : List ℕ) → IsPlain bytes → IsLabel bytes
plain_is_label bytes plain = record { nonempty = let some = plain.not_empty in omega arith; short = plain.short; solid = plain.unbroken }

-- each name is a label

each_label : (names : List (List ℕ)) → ((name : List ℕ) → Contains names name → IsLabel name) → AllByRecursion IsLabel names
each_label [] labels = tt
each_label (name ∷ names) labels =
    (labels name (first_member name names), each_label names (λ later has. labels later (later_member name names later has)))

has_labels : (d : Declaration) → ((name : List ℕ) → Contains (declared_names d) name → IsLabel name) → HasLabels d
has_labels (Sort name) labels = labels name (first_member name [])
has_labels (Fun name sorts result) labels = labels name (first_member name [])
has_labels (Theorem name bounds annotations body) labels = labels name (first_member name (bound_names bounds))
has_labels (Goal name bounds hyps show) labels = (
  labels name (first_member name (bound_names bounds)),
  each_label (bound_names bounds) (λ later has. labels later (later_member name (bound_names bounds) later has)),
)
has_labels (Limit name value) labels = tt

all_have_labels : (ds : List Declaration) → ((d : Declaration) → Contains ds d → HasLabels d) → AllByRecursion HasLabels ds
all_have_labels [] labels = tt
all_have_labels (d ∷ ds) labels = (labels d (first_member d ds), all_have_labels ds (λ later has. labels later (later_member d ds later has)))

-- the code keeps declarations whose names are labels
pub are_kept : NamesArePlain → NamesAreWords → (bytes : List ℕ) (tokens : List Token) (kept : List Decl) → AreTokens bytes tokens →
    AreDeclarations bytes tokens kept → AreKept bytes kept
are_kept plain words bytes tokens kept of (ds, declares, keeps) = (
  ds,
  keeps,
  all_have_labels ds (λ d among. has_labels d (λ name has. plain_is_label name (plain name
      (word_is_name bytes tokens name of.1 (words (lexemes bytes tokens) ds d name declares among has))))),
)

-- the theory of the declarations is that of the bytes
pub theory_read : (bytes : List ℕ) (tokens : List Token) (kept : List Decl) (theory : Theory) → AreTokens bytes tokens →
    AreDeclarations bytes tokens kept → IsTheoryRead bytes kept theory → TheoryOf bytes theory
theory_read bytes tokens kept theory of (ds, declares, keeps) read =
    (tokens, ds, record { tokens_of = of.0; declarations_of = declares }, read ds keeps)

-- declarations that are refused make the bytes refused
pub refused_declarations : {A : Type 0} (bytes : List ℕ) (tokens : List Token) (kept : List Decl) (answer : Result A TheoryRefusal) (refusal : TheoryRefusal)
    (made : ReaderRefusal) → AreTokens bytes tokens → AreDeclarations bytes tokens kept → answer ≡ Err refusal →
    ((decl : ℕ) (fault : Fault) → answer ≡ Err (declared.Bad decl fault) → AreRefused bytes kept decl fault) → IsOfDeclarations refusal made →
    IsRefusal bytes made
refused_declarations bytes tokens kept answer (declared.Bad decl fault) made of (ds, declares, keeps) is refused e =
    subst (IsRefusal bytes) (sym e) (tokens, ds, record { tokens_of = of.0; declarations_of = declares }, refused decl fault is ds keeps)
refused_declarations bytes tokens kept answer declared.Memory made of declares is refused e = subst (IsRefusal bytes) (sym e) tt
