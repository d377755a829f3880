-- Bytes after bytes, on a sink.
use Rattle.std.proofs.Common.{◌≡◌, ℕ, List, [], ◌++◌, Option, Some, None, refl, ap, sym, ◌∙◌, append_assoc, append-nil, inl, inr}
use Rattle.grind_outside.specs.declared.refusal.SinkRefusal.{SinkRefusal}
use Rattle.grind_outside.specs.Outside.{appended, IsFront}
use Rattle.grind_command.specs.Notes.{Notes, WasRefused}

pub appended-append : (o : Option (List ℕ)) (a b : List ℕ) → appended (appended o a) b ≡ appended o (a ++ b)
appended-append None a b = refl
appended-append (Some w) a b = ap Some (append_assoc w a b)

pub appended-nil : (o : Option (List ℕ)) → appended o [] ≡ o
appended-nil None = refl
appended-nil (Some w) = ap Some (append-nil w)

-- a front of the first part is one of the whole
pub IsFront-append : (front a b : List ℕ) → IsFront front a → IsFront front (a ++ b)
IsFront-append front a b f = (f.0 ++ b, ap (λ l. l ++ b) f.1 ∙ append_assoc front f.0 b)

-- the first part, and a front of the second, is a front of the whole
pub IsFront-behind : (a front b : List ℕ) → IsFront front b → IsFront (a ++ front) (a ++ b)
IsFront-behind a front b f = (f.0, ap (λ l. a ++ l) f.1 ∙ sym (append_assoc a front f.0))

module _ {E : Type 0} (written : E → Option (List ℕ)) (refuses : E → List ℕ → SinkRefusal → E → Type 0) where
  -- the whole line was written
  pub Notes-whole : (old new : E) (line : List ℕ) → written new ≡ appended (written old) line → Notes written refuses old new line
  Notes-whole old new line e = (line, ([], sym (append-nil line)), e, inl refl)

  -- a put of the first part was refused
  pub Notes-refused : (old new : E) (a b : List ℕ) → ((front : List ℕ) × IsFront front a × (written new ≡ appended (written old) front)) → WasRefused refuses new → Notes written refuses old new (a ++ b)
  Notes-refused old new a b part refused = (part.0, IsFront-append part.0 a b part.1, part.2, inr refused)

  -- the first part was written, and then the second as far as it goes
  pub Notes-behind : (old mid new : E) (a b : List ℕ) → written mid ≡ appended (written old) a → Notes written refuses mid new b → Notes written refuses old new (a ++ b)
  Notes-behind old mid new a b e n = (
    a ++ n.0,
    IsFront-behind a n.0 b n.1,
    n.2 ∙ ap (λ o. appended o n.0) e ∙ appended-append (written old) a n.0,
    elim n.3 [ inl w ↦ inl (ap (λ l. a ++ l) w) | inr r ↦ inr r ],
  )

  -- the only part was refused
  pub Notes-last : (old new : E) (a : List ℕ) → ((front : List ℕ) × IsFront front a × (written new ≡ appended (written old) front)) → WasRefused refuses new → Notes written refuses old new a
  Notes-last old new a part refused = (part.0, part.1, part.2, inr refused)
