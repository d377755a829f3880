-- The longest symbol with which a text begins, if there is one.
use Rattle.std.proofs.Common.{◌≡◌, ℕ, ◌≤◌, ◌⊎◌, List, [], ◌∷◌, ◌++◌, length, refl, ap, ◌∙◌, inl, inr, arith}
use Rattle.std.proofs.lemmas.Bool.{cases_lt, cases_eq}
use Rattle.std.specs.List.{AllByRecursion}
use Rattle.grind_tokens.specs.declared.tokens.Sym.{Sym}
use Rattle.grind_tokens.specs.declared.tokens.Sym.TheVariants.{Dot, Comma, Colon, Semicolon, LeftParen, RightParen, LeftSquare, RightSquare, Eq, Ne, Lt, Le, Iff, Gt, Ge, Plus, Minus, Star, And, Or, Not, Arrow, Turnstile}
use Rattle.grind_tokens.specs.Tokens.{Begins, spelling, IsLongest}

head_of : (b f : ℕ) (bs fs : List ℕ) → b ∷ bs ≡ f ∷ fs → b ≡ f
head_of b f bs fs e = cc

tail_of : (b f : ℕ) (bs fs : List ℕ) → b ∷ bs ≡ f ∷ fs → bs ≡ fs
tail_of b f bs fs e = cc

at_most : (a b c : ℕ) → a ≤ b → b ≤ c → a ≤ c
at_most a b c h k = omega arith

-- the text begins with the bytes, or it does not
pub starts : (front text : List ℕ) → Begins text front ⊎ ¬ Begins text front
starts [] text = inl (text, refl)
starts (f ∷ fs) [] = inr (λ h. let e = h.1 in cc)
starts (f ∷ fs) (b ∷ bs) =
    elim (cases_eq b f) as (λ w. Begins (b ∷ bs) (f ∷ fs) ⊎ ¬ Begins (b ∷ bs) (f ∷ fs)) [
      | inl e ↦ elim (starts fs bs) as (λ w. Begins (b ∷ bs) (f ∷ fs) ⊎ ¬ Begins (b ∷ bs) (f ∷ fs)) [
        | inl h ↦ inl (h.0, ap (λ x. x ∷ bs) e ∙ ap (λ l. f ∷ l) h.1)
        | inr n ↦ inr (λ h. n (h.0, tail_of b f bs (fs ++ h.0) h.1))
      ]
      | inr n ↦ inr (λ h. n (head_of b f bs (fs ++ h.0) h.1))
    ]

-- the choice among some symbols
data Choice (text : List ℕ) (ss : List Sym) : Type 0 where
  chosen : (s : Sym) → Begins text (spelling s) → AllByRecursion (λ t. Begins text (spelling t) → length (spelling t) ≤ length (spelling s)) ss → Choice text ss
  nothing : AllByRecursion (λ t. ¬ Begins text (spelling t)) ss → Choice text ss

weaker : (text : List ℕ) (s u : Sym) (ss : List Sym) → length (spelling s) ≤ length (spelling u) → AllByRecursion (λ t. Begins text (spelling t) → length (spelling t) ≤ length (spelling s)) ss → AllByRecursion (λ t. Begins text (spelling t) → length (spelling t) ≤ length (spelling u)) ss
weaker text s u [] le a = tt
weaker text s u (t ∷ ss) le a = (λ h. at_most _ _ _ (a.0 h) le, weaker text s u ss le a.1)

from_none : (text : List ℕ) (u : Sym) (ss : List Sym) → AllByRecursion (λ t. ¬ Begins text (spelling t)) ss → AllByRecursion (λ t. Begins text (spelling t) → length (spelling t) ≤ length (spelling u)) ss
from_none text u [] a = tt
from_none text u (t ∷ ss) a = (λ h. absurd (a.0 h), from_none text u ss a.1)

join : (text : List ℕ) (t : Sym) (ss : List Sym) → Begins text (spelling t) ⊎ ¬ Begins text (spelling t) → Choice text ss → Choice text (t ∷ ss)
join text t ss (inl b) (nothing n) = chosen t b (λ h. omega arith, from_none text t ss n)
join text t ss (inr a) (nothing n) = nothing (a, n)
join text t ss (inr a) (chosen s b m) = chosen s b (λ h. absurd (a h), m)
join text t ss (inl a) (chosen s b m) =
    elim (cases_lt (length (spelling s)) (length (spelling t))) as (λ w. Choice text (t ∷ ss)) [
      | inl lt ↦ chosen t a (λ h. omega arith, weaker text s t ss (omega arith) m)
      | inr ge ↦ chosen s b (λ h. ge, m)
    ]

pick : (text : List ℕ) (ss : List Sym) → Choice text ss
pick text [] = nothing tt
pick text (t ∷ ss) = join text t ss (starts (spelling t) text) (pick text ss)

-- each symbol
abbrev every : List Sym
every = Dot ∷ Comma ∷ Colon ∷ Semicolon ∷ LeftParen ∷ RightParen ∷ LeftSquare ∷ RightSquare ∷ Eq ∷ Ne ∷ Lt ∷ Le ∷ Iff ∷ Gt ∷ Ge ∷ Plus ∷ Minus ∷ Star ∷ And ∷ Or ∷ Not ∷ Arrow ∷ Turnstile ∷ []

in_every : (P : Sym → Type 0) → AllByRecursion P every → (t : Sym) → P t
in_every P a Dot = a.0
in_every P a Comma = a.1.0
in_every P a Colon = a.1.1.0
in_every P a Semicolon = a.1.1.1.0
in_every P a LeftParen = a.1.1.1.1.0
in_every P a RightParen = a.1.1.1.1.1.0
in_every P a LeftSquare = a.1.1.1.1.1.1.0
in_every P a RightSquare = a.1.1.1.1.1.1.1.0
in_every P a Eq = a.1.1.1.1.1.1.1.1.0
in_every P a Ne = a.1.1.1.1.1.1.1.1.1.0
in_every P a Lt = a.1.1.1.1.1.1.1.1.1.1.0
in_every P a Le = a.1.1.1.1.1.1.1.1.1.1.1.0
in_every P a Iff = a.1.1.1.1.1.1.1.1.1.1.1.1.0
in_every P a Gt = a.1.1.1.1.1.1.1.1.1.1.1.1.1.0
in_every P a Ge = a.1.1.1.1.1.1.1.1.1.1.1.1.1.1.0
in_every P a Plus = a.1.1.1.1.1.1.1.1.1.1.1.1.1.1.1.0
in_every P a Minus = a.1.1.1.1.1.1.1.1.1.1.1.1.1.1.1.1.0
in_every P a Star = a.1.1.1.1.1.1.1.1.1.1.1.1.1.1.1.1.1.0
in_every P a And = a.1.1.1.1.1.1.1.1.1.1.1.1.1.1.1.1.1.1.0
in_every P a Or = a.1.1.1.1.1.1.1.1.1.1.1.1.1.1.1.1.1.1.1.0
in_every P a Not = a.1.1.1.1.1.1.1.1.1.1.1.1.1.1.1.1.1.1.1.1.0
in_every P a Arrow = a.1.1.1.1.1.1.1.1.1.1.1.1.1.1.1.1.1.1.1.1.1.0
in_every P a Turnstile = a.1.1.1.1.1.1.1.1.1.1.1.1.1.1.1.1.1.1.1.1.1.1.0

decided : (text : List ℕ) → Choice text every → ((s : Sym) × Begins text (spelling s) × IsLongest s text) ⊎ ((s : Sym) → ¬ Begins text (spelling s))
decided text (chosen s b m) = inl (s, b, in_every (λ t. Begins text (spelling t) → length (spelling t) ≤ length (spelling s)) m)
decided text (nothing n) = inr (in_every (λ t. ¬ Begins text (spelling t)) n)

pub longest : (text : List ℕ) → ((s : Sym) × Begins text (spelling s) × IsLongest s text) ⊎ ((s : Sym) → ¬ Begins text (spelling s))
longest text = decided text (pick text every)
