-- What bytes are: one theory, or refused for one thing.
use Rattle.std.proofs.Common.{◌≡◌, ℕ, List, ap, subst, ◌∙◌}
use Rattle.grind_tokens.specs.declared.tokens.Token.{Token}
use Rattle.grind_tokens.specs.Tokens.{OneReading, NotBoth, OneBreak}
use Rattle.grind_grammar.specs.Lexemes.{lexemes}
use Rattle.grind_grammar.specs.Terms.{Declaration}
use Rattle.grind_grammar.specs.Files.{Fault, Syntax, TooDeep, DeclarationsOf}
use Rattle.grind_grammar.specs.Files as files
use Rattle.grind_grammar.specs.Laws as grammar
use Rattle.grind_theory.specs.declared.theory.Fault.{Fault as TheFault}
use Rattle.grind_theory.specs.States.{opening_state}
use Rattle.grind_theory.specs.Theories.{IsTheoryOf, RefusedAt}
use Rattle.grind_theory.specs.Laws as laws
use Rattle.grind_command.specs.declared.refusal.Refusal.TheVariants as refusals
use Rattle.grind_theory_files.specs.TheoryFiles.{Declares, IsUngrammatical, OneTheoryOf, RefusedHaveNone, OneRefusalOf}

-- equal numbers and faults make equal refusals
same_syntax : (m n : ℕ) → m ≡ n → refusals.Syntax m ≡ refusals.Syntax n
same_syntax m n e = ap refusals.Syntax e

same_deep : (m n : ℕ) → m ≡ n → refusals.TooDeep m ≡ refusals.TooDeep n
same_deep m n e = ap refusals.TooDeep e

same_bad : (m n : ℕ) (f g : TheFault) → m ≡ n → f ≡ g → refusals.Bad m f ≡ refusals.Bad n g
same_bad m n f g e h = ap (λ k. refusals.Bad k f) e ∙ ap (refusals.Bad n) h

module _ (reading : OneReading) (lexed : NotBoth) (one_break : OneBreak) (parse : grammar.OneParse) (parsed : grammar.NoneRefused) (one_bad : grammar.OneRefusal) (theory : laws.OneTheory) (taken : laws.NoneRefused) (one_fault : laws.OneRefusal) where
  -- the bytes are one list of declarations
  same_declarations : (bytes : List ℕ) (ts us : List Token) (ds es : List Declaration) → Declares bytes ts ds → Declares bytes us es → ds ≡ es
  same_declarations bytes ts us ds es p q =
      parse (lexemes bytes us) ds es
      (subst (λ (t : List Token). DeclarationsOf (lexemes bytes t) ds) (reading bytes ts us p.tokens_of q.tokens_of) p.declarations_of)
      q.declarations_of

  pub one_theory : OneTheoryOf
  one_theory bytes a b (ts, ds, p, of) (us, es, q, other) =
      theory es a b (subst (λ (d : List Declaration). IsTheoryOf d a) (same_declarations bytes ts us ds es p q) of) other

  -- bytes that are declarations are not refused by the grammar
  declares_apart : (bytes : List ℕ) (ts : List Token) (ds : List Declaration) (number : ℕ) (fault : Fault) → Declares bytes ts ds → IsUngrammatical bytes number fault → ⊥
  declares_apart bytes ts ds number fault p (us, of, r) =
      parsed (lexemes bytes ts) ds number fault p.declarations_of
      (subst (λ (t : List Token). files.RefusedAt (lexemes bytes t) number fault) (reading bytes us ts of p.tokens_of) r)

  pub refused_none : RefusedHaveNone
  refused_none bytes (refusals.Lex refusal) r theory (ts, ds, p, of) = lexed bytes ts refusal p.tokens_of r
  refused_none bytes (refusals.Syntax decl) r theory (ts, ds, p, of) = declares_apart bytes ts ds decl Syntax p r
  refused_none bytes (refusals.TooDeep decl) r theory (ts, ds, p, of) = declares_apart bytes ts ds decl TooDeep p r
  refused_none bytes (refusals.Bad decl fault) (us, es, q, r) theory (ts, ds, p, of) =
      taken ds theory decl fault of
      (subst (λ (d : List Declaration). RefusedAt opening_state d decl fault) (same_declarations bytes us ts es ds q p) r)

  -- the grammar refuses bytes at one declaration at most, with one fault
  one_ungrammatical : (bytes : List ℕ) (m n : ℕ) (f g : Fault) → IsUngrammatical bytes m f → IsUngrammatical bytes n g → (m ≡ n) × (f ≡ g)
  one_ungrammatical bytes m n f g (ts, of, r) (us, also, s) =
      one_bad (lexemes bytes us) m n f g
      (subst (λ (t : List Token). files.RefusedAt (lexemes bytes t) m f) (reading bytes ts us of also) r) s

  pub one_refusal : OneRefusalOf
  one_refusal bytes (refusals.Lex m) (refusals.Lex n) r s = ap refusals.Lex (one_break bytes m n r s)
  one_refusal bytes (refusals.Lex m) (refusals.Syntax n) r (us, of, s) = absurd (lexed bytes us m of r)
  one_refusal bytes (refusals.Lex m) (refusals.TooDeep n) r (us, of, s) = absurd (lexed bytes us m of r)
  one_refusal bytes (refusals.Lex m) (refusals.Bad n g) r (us, es, q, s) = absurd (lexed bytes us m q.tokens_of r)
  one_refusal bytes (refusals.Syntax m) (refusals.Lex n) (ts, of, r) s = absurd (lexed bytes ts n of s)
  one_refusal bytes (refusals.Syntax m) (refusals.Syntax n) r s = same_syntax m n (one_ungrammatical bytes m n Syntax Syntax r s).0
  one_refusal bytes (refusals.Syntax m) (refusals.TooDeep n) r s = absurd (let e : Syntax ≡ TooDeep = (one_ungrammatical bytes m n Syntax TooDeep r s).1 in cc)
  one_refusal bytes (refusals.Syntax m) (refusals.Bad n g) r (us, es, q, s) = absurd (declares_apart bytes us es m Syntax q r)
  one_refusal bytes (refusals.TooDeep m) (refusals.Lex n) (ts, of, r) s = absurd (lexed bytes ts n of s)
  one_refusal bytes (refusals.TooDeep m) (refusals.Syntax n) r s = absurd (let e : TooDeep ≡ Syntax = (one_ungrammatical bytes m n TooDeep Syntax r s).1 in cc)
  one_refusal bytes (refusals.TooDeep m) (refusals.TooDeep n) r s = same_deep m n (one_ungrammatical bytes m n TooDeep TooDeep r s).0
  one_refusal bytes (refusals.TooDeep m) (refusals.Bad n g) r (us, es, q, s) = absurd (declares_apart bytes us es m TooDeep q r)
  one_refusal bytes (refusals.Bad m f) (refusals.Lex n) (ts, ds, p, r) s = absurd (lexed bytes ts n p.tokens_of s)
  one_refusal bytes (refusals.Bad m f) (refusals.Syntax n) (ts, ds, p, r) s = absurd (declares_apart bytes ts ds n Syntax p s)
  one_refusal bytes (refusals.Bad m f) (refusals.TooDeep n) (ts, ds, p, r) s = absurd (declares_apart bytes ts ds n TooDeep p s)
  one_refusal bytes (refusals.Bad m f) (refusals.Bad n g) (ts, ds, p, r) (us, es, q, s) =
      let one = one_fault es m n f g
      (subst (λ (d : List Declaration). RefusedAt opening_state d m f) (same_declarations bytes ts us ds es p q) r) s in
      same_bad m n f g one.0 one.1
