-- The value of a cut, and that there is one.
use Rattle.std.proofs.Common.{◌≡◌, ◌≢◌, ℕ, List, [], ◌∷◌, ◌++◌, length, ℤ, pos, ◌*ℤ◌, ◌≤ℤ◌, ◌<ℤ◌, arith, sym, ap, ◌∙◌, refl}
use Rattle.std.proofs.lemmas.List.{append_assoc, append-nil, map-append}
use Rattle.std.proofs.lemmas.List.Elements.{All-nil}
use lib.IntN.{*ℤ-zero}
use Rattle.grind_lemmas.specs.Products.{ProductsAssociate, ProductsDistribute, ProductsCancel}
use Rattle.grind_lemmas.specs.Rounding.{CeilingsBound, OneCeiling}
use Rattle.grind_linear_forms.specs.declared.form.Part.{Part}
use Rattle.grind_linear_forms.specs.Forms.{FormData, form_data, part_of}
use Rattle.grind_linear_forms.specs.Cuts.{times, Divides, DividesAll, IsCut}
use Rattle.grind_linear_forms.specs.Values.{parts_value, form_value}
use Rattle.grind_linear_forms.proofs.Linear.{linear}

module _ (associate : ProductsAssociate) (distribute : ProductsDistribute) (v : ℕ → ℤ) (g : ℤ) where
  value-times : (parts : List Part) → parts_value v (times g parts) ≡ g *ℤ parts_value v parts
  value-times [] = sym (*ℤ-zero g)
  value-times (part ∷ rest) =
      let more = value-times rest in
      let one = distribute g (part.coefficient *ℤ v part.node) (parts_value v rest) in
      let two = associate g part.coefficient (v part.node) in omega (arith, linear)

  pub cut-at_most : (bound : CeilingsBound) (form cut : FormData) → pos 0 <ℤ g → IsCut form g cut
      → form_value v form ≤ℤ pos 0 → form_value v cut ≤ℤ pos 0
  cut-at_most bound form cut positive is h =
      let parts = ap (parts_value v) is.parts_of ∙ value-times cut.parts in
      bound form.constant g cut.constant (parts_value v cut.parts) positive is.constant_of (omega (arith, linear))

module _ (cancel : ProductsCancel) (g : ℤ) (nonzero : g ≢ pos 0) where
  times-injective : (one other : List Part) → times g one ≡ times g other → one ≡ other
  times-injective [] [] e = refl
  times-injective [] (y ∷ ys) e = absurd cc
  times-injective (x ∷ xs) [] e = absurd cc
  times-injective (x ∷ xs) (y ∷ ys) e =
      let heads : part_of x.node (g *ℤ x.coefficient) ≡ part_of y.node (g *ℤ y.coefficient) = cc in
      let tails : times g xs ≡ times g ys = cc in
      let nodes : x.node ≡ y.node = ap (λ (part : Part). part.node) heads in
      let products : g *ℤ x.coefficient ≡ g *ℤ y.coefficient = ap (λ (part : Part). part.coefficient) heads in
      let same = cancel g x.coefficient y.coefficient nonzero products in
      let parts : x ≡ y = λ i. part_of (nodes i) (same i) in
      λ i. parts i ∷ times-injective xs ys tails i

  pub cut-unique : (single : OneCeiling) (form one other : FormData) → pos 0 <ℤ g → IsCut form g one → IsCut form g other
      → one ≡ other
  cut-unique single form one other positive first second =
      let parts = times-injective one.parts other.parts (sym first.parts_of ∙ second.parts_of) in
      let constants = single form.constant g one.constant other.constant positive first.constant_of second.constant_of in
      λ i. form_data (parts i) (constants i)

pub positive-nonzero : (g : ℤ) → pos 0 <ℤ g → g ≢ pos 0
positive-nonzero g positive e = omega (arith, linear)

-- ---- the steps of the loops
pub divides_none : (g : ℤ) (parts : List Part) → length parts ≡ 0 → DividesAll g parts
divides_none g [] e = All-nil (Divides g)
divides_none g (part ∷ rest) e = absurd (omega arith)

-- one more coefficient is divided
pub divided_step : (g : ℤ) (whole done new rest xs : List Part) (x : Part) (quotient : ℤ) → rest ≡ x ∷ xs
    → x.coefficient ≡ g *ℤ quotient → new ≡ done ++ part_of x.node quotient ∷ [] → times g done ++ rest ≡ whole
    → times g new ++ xs ≡ whole
divided_step g whole done new rest xs x quotient rest_is e new_is so_far =
    let part : part_of x.node (g *ℤ quotient) ≡ x = ap (part_of x.node) (sym e) in
    ap (λ (parts : List Part). times g parts ++ xs) new_is
    ∙ ap (λ (parts : List Part). parts ++ xs) (map-append (λ (part : Part). part_of part.node (g *ℤ part.coefficient)) done (part_of x.node quotient ∷ []))
    ∙ append_assoc (times g done) (part_of x.node (g *ℤ quotient) ∷ []) xs
    ∙ ap (λ (part : Part). times g done ++ (part ∷ xs)) part ∙ ap (λ (parts : List Part). times g done ++ parts) (sym rest_is) ∙ so_far

pub divided_end : (g : ℤ) (whole done rest : List Part) → length rest ≡ 0 → times g done ++ rest ≡ whole → whole ≡ times g done
divided_end g whole done [] e so_far = sym so_far ∙ append-nil (times g done)
divided_end g whole done (x ∷ rest) e so_far = absurd (omega arith)
