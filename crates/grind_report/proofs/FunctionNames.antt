-- The name of a function, from what a signature answers and keeps.
use Rattle.std.proofs.Common.{◌≡◌, ℕ, ◌<◌, List, length, slice_get, get_or, Some, Option, sym, ap, subst, ◌∙◌, inl, inr, arith}
use Rattle.std.specs.Option.{option_map}
use Rattle.std.proofs.lemmas.Option.{slice_get_cases, slice_get-map, slice_get_within, get_or_from_slice_get}
use Rattle.grind_schemes.specs.Labels.{IsLabel}
use Rattle.grind_signature.specs.Signatures.{Function, SignatureData, IsSignature, function_names}
use Rattle.grind_report.specs.Naming.{function_name}
use Rattle.grind_report.proofs.NamedNodes.{function_name_is}

-- what is the name of each function found there is its name
pub name_found : (signature : SignatureData) (number : ℕ) (name : List ℕ) → number < length signature.functions
    → ((f : Function) → slice_get signature.functions number ≡ Some f → name ≡ f.name) → name ≡ function_name signature number
name_found signature number name low says =
    elim (slice_get_cases signature.functions number).1 [
      | inl found ↦ says found.0 found.2 ∙ sym (function_name_is signature number found.0 found.2)
      | inr past ↦ absurd (omega (arith, past.0))
    ]

-- and it is a label
pub name_labelled : (signature : SignatureData) (number : ℕ) → number < length signature.functions → IsSignature signature → IsLabel (function_name signature number)
name_labelled signature number low keeps =
    elim (slice_get_cases signature.functions number).1 [
      | inl found ↦
          let name : List ℕ = found.0.name in
          let names = function_names signature.functions in
          let stands : slice_get names number ≡ Some name = slice_get-map (λ (f : Function). f.name) signature.functions number ∙ ap (λ (o : Option Function). option_map (λ (f : Function). f.name) o) found.2 in
          let here : get_or names number name ≡ name = get_or_from_slice_get names number name name stands in
          let label : IsLabel (get_or names number name) = keeps.functions number name (slice_get_within names number name stands) in
          subst IsLabel (here ∙ sym (function_name_is signature number found.0 found.2)) label
      | inr past ↦ absurd (omega (arith, past.0))
    ]
