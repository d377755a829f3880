-- A name can stand as one word of a line.
use Rattle.std.proofs.Common.{◌≡◌, ◌≢◌, ℕ, ◌<◌, Bool, true, false, not, ◌||◌, ◌==◌, List, [], ◌∷◌, length, get_or, refl, sym, ap, ◌∙◌, subst, inl, inr, arith}
use Rattle.std.proofs.lemmas.Bool.{cases_lt, and_from}
use Rattle.std.proofs.lemmas.List.{get_or_default}
use Rattle.std.proofs.lemmas.Str.{NoCharPasses-byte}
use Rattle.std.specs.Prelude.{IsUtf8}
use Rattle.std.specs.Char.{IsScalar, is_ascii_alphanumeric}
use Rattle.std.specs.List.{AllByRecursion}
use Rattle.std.specs.Str.{all_scalars, NonePass}
use Rattle.unicode_ident.specs.Ident.{is_xid_continue}
use Rattle.unicode_ident.proofs.IdentLemmas.{is_xid_continue-ascii}
use Rattle.grind_tokens.specs.Tokens.{IsNameChar, IsText, AreNameChars, IsName, IsPlain}
use Rattle.grind_tokens.proofs.RunLemmas.{some_byte}
use Rattle.grind_tokens.proofs.OneStart.{name_text}

-- the characters that a test takes are of UTF-8
text_scalars : (P : ℕ → Type 0) (cs : List ℕ) → AllByRecursion (λ c. IsScalar c × P c) cs → all_scalars cs ≡ true
text_scalars P [] a = refl
text_scalars P (c ∷ cs) a = and_from _ _ a.0.0 (text_scalars P cs a.1)

text_utf8 : (P : ℕ → Type 0) (bytes : List ℕ) → IsText P bytes → IsUtf8 bytes
text_utf8 P bytes t = (t.0, (text_scalars P t.0 t.2, sym t.1))

-- no character of a name is outside of names
none_outside : (cs : List ℕ) → AllByRecursion (λ c. IsScalar c × IsNameChar c) cs → NonePass (λ c. not (is_xid_continue c)) cs
none_outside [] a = tt
none_outside (c ∷ cs) a = (ap not a.0.1, none_outside cs a.1)

not_not : (b : Bool) → not b ≡ false → b ≡ true
not_not true e = refl
not_not false e = sym e

-- the ASCII characters that may stand in a name
plain_ascii : (b : ℕ) → (is_ascii_alphanumeric b || (b == 95)) ≡ true → (b ≢ 32) × (b ≢ 10)
plain_ascii b e = (grind arith, grind arith)

plain_byte : (bytes : List ℕ) (i d : ℕ) → IsText IsNameChar bytes → i < length bytes → (get_or bytes i d ≢ 32) × (get_or bytes i d ≢ 10)
plain_byte bytes i d t within =
    let b = get_or bytes i d in
    let same : get_or bytes i 0 ≡ b = get_or_default bytes i 0 d within in
    elim (cases_lt b 128) as (λ w. (b ≢ 32) × (b ≢ 10)) [
      | inl low ↦ plain_ascii b (sym (is_xid_continue-ascii b low) ∙ not_not (is_xid_continue b) (subst (λ k. not (is_xid_continue k) ≡ false) same (NoCharPasses-byte (λ k. not (is_xid_continue k)) bytes i (t.0, sym t.1, none_outside t.0 t.2) within (subst (λ k. k < 128) (sym same) low))))
      | inr high ↦ (λ e. omega arith, λ e. omega arith)
    ]

name_some : (bytes : List ℕ) → AreNameChars bytes → 0 < length bytes
name_some [] n = absurd (some_byte n.0 n.1 n.3 n.2)
name_some (b ∷ bs) n = omega arith

pub names_are_plain : (bytes : List ℕ) → IsName bytes → IsPlain bytes
names_are_plain bytes n = record {
  not_empty = name_some bytes n.0;
  short = n.1;
  unbroken = λ i d within. plain_byte bytes i d (name_text bytes n.0) within;
  utf8 = text_utf8 IsNameChar bytes (name_text bytes n.0);
}
