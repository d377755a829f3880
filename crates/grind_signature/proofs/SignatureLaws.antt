-- A signature stays one when a new name is declared.
use Rattle.std.specs.Prelude.{◌≡◌, ◌≢◌, ℕ, ◌≤◌, List, [], ◌∷◌, ◌++◌, length, Contains, Result, Ok, Err, OnOk, OnErr}
use Rattle.std.specs.List.{AllPairs}
use Rattle.std.proofs.Common.{arith, sym, subst, inl, inr}
use Rattle.std.proofs.lemmas.List.{length-append, map-append}
use Rattle.std.proofs.lemmas.List.Elements.{All-push, Contains-push_cases, Contains-get_or}
use Rattle.std.proofs.lemmas.List.Quantifiers.{all_pairs_push}
use Rattle.grind_schemes.specs.Labels.{IsLabel}
use Rattle.grind_signature.specs.Signatures.{Function, SignatureData, function_names, IsHeld, signature_data, with_sort, with_function, with_label, IsFunctionOver, IsSignature}

pub differ_push : (names : List (List ℕ)) (name : List ℕ) → AllPairs (λ a b. a ≢ b) names → ¬ Contains names name → AllPairs (λ a b. a ≢ b) (names ++ name ∷ [])
differ_push names name h new =
    all_pairs_push (λ a b. a ≢ b) names name h (λ k d l e. new (subst (Contains names) e (Contains-get_or names k d l)))

apart_left : (names others : List (List ℕ)) (name : List ℕ) → ((n : List ℕ) → Contains names n → ¬ Contains others n) → ¬ Contains others name
    → (n : List ℕ) → Contains (names ++ name ∷ []) n → ¬ Contains others n
apart_left names others name h new n has other =
    elim (Contains-push_cases names name n has) [ inl c ↦ h n c other | inr e ↦ new (subst (Contains others) (sym e) other) ]

apart_right : (names others : List (List ℕ)) (name : List ℕ) → ((n : List ℕ) → Contains names n → ¬ Contains others n) → ¬ Contains names name
    → (n : List ℕ) → Contains names n → ¬ Contains (others ++ name ∷ []) n
apart_right names others name h new n has other =
    elim (Contains-push_cases others name n other) [ inl c ↦ h n has c | inr e ↦ new (subst (Contains names) (sym e) has) ]

more_sorts : (m n : ℕ) → m ≤ n → (f : Function) → IsFunctionOver m f → IsFunctionOver n f
more_sorts m n l f h = record {
  args = λ k d b. let a = h.args k d b in omega arith;
  result = let r = h.result in omega arith;
  few = h.few;
}

function_names-push : (functions : List Function) (f : Function) → function_names (functions ++ f ∷ []) ≡ function_names functions ++ f.name ∷ []
function_names-push functions f = map-append (λ (g : Function). g.name) functions (f ∷ [])

pub with_sort-keeps : (s : SignatureData) (name : List ℕ) → IsSignature s → IsLabel name → ¬ IsHeld s name → IsSignature (with_sort s name)
with_sort-keeps s name h label new = record {
  sorts_differ = differ_push s.sorts name h.sorts_differ (λ c. new (inl c));
  functions_differ = h.functions_differ;
  labels_differ = h.labels_differ;
  sort_no_function = apart_left s.sorts (function_names s.functions) name h.sort_no_function (λ c. new (inr (inl c)));
  sort_no_label = apart_left s.sorts s.labels name h.sort_no_label (λ c. new (inr (inr c)));
  function_no_label = h.function_no_label;
  sorts = All-push IsLabel s.sorts name h.sorts label;
  functions = h.functions;
  labels = h.labels;
  arities = λ k d l. more_sorts (length s.sorts) (length (s.sorts ++ name ∷ [])) (omega (arith, length-append s.sorts (name ∷ []))) _ (h.arities k d l);
}

pub with_label-keeps : (s : SignatureData) (name : List ℕ) → IsSignature s → IsLabel name → ¬ IsHeld s name → IsSignature (with_label s name)
with_label-keeps s name h label new = record {
  sorts_differ = h.sorts_differ;
  functions_differ = h.functions_differ;
  labels_differ = differ_push s.labels name h.labels_differ (λ c. new (inr (inr c)));
  sort_no_function = h.sort_no_function;
  sort_no_label = apart_right s.sorts s.labels name h.sort_no_label (λ c. new (inl c));
  function_no_label = apart_right (function_names s.functions) s.labels name h.function_no_label (λ c. new (inr (inl c)));
  sorts = h.sorts;
  functions = h.functions;
  labels = All-push IsLabel s.labels name h.labels label;
  arities = h.arities;
}

pub with_function-keeps : (s : SignatureData) (f : Function) → IsSignature s → IsLabel f.name → ¬ IsHeld s f.name → IsFunctionOver (length s.sorts) f
    → IsSignature (with_function s f)
with_function-keeps s f h label new over =
    let e = function_names-push s.functions f in record {
      sorts_differ = h.sorts_differ;
      functions_differ = rw e (differ_push (function_names s.functions) f.name h.functions_differ (λ c. new (inr (inl c))));
      labels_differ = h.labels_differ;
      sort_no_function = rw e (apart_right s.sorts (function_names s.functions) f.name h.sort_no_function (λ c. new (inl c)));
      sort_no_label = h.sort_no_label;
      function_no_label = rw e (apart_left (function_names s.functions) s.labels f.name h.function_no_label (λ c. new (inr (inr c))));
      sorts = h.sorts;
      functions = rw e (All-push IsLabel (function_names s.functions) f.name h.functions label);
      labels = h.labels;
      arities = All-push (IsFunctionOver (length s.sorts)) s.functions f h.arities over;
    }

-- the same after a call that adds a name or refuses
pub keeps_sort : {V E : Type 0} (r : Result V E) (s : SignatureData) (name : List ℕ) (now : List (List ℕ)) → OnOk r (now ≡ s.sorts ++ name ∷ []) → OnErr r (now ≡ s.sorts)
    → IsSignature s → IsLabel name → ¬ IsHeld s name → IsSignature (signature_data now s.functions s.labels)
keeps_sort (Ok v) s name now ok err h label new = rw ok (with_sort-keeps s name h label new)
keeps_sort (Err e) s name now ok err h label new = rw err h

pub keeps_label : {V E : Type 0} (r : Result V E) (s : SignatureData) (name : List ℕ) (now : List (List ℕ)) → OnOk r (now ≡ s.labels ++ name ∷ []) → OnErr r (now ≡ s.labels)
    → IsSignature s → IsLabel name → ¬ IsHeld s name → IsSignature (signature_data s.sorts s.functions now)
keeps_label (Ok v) s name now ok err h label new = rw ok (with_label-keeps s name h label new)
keeps_label (Err e) s name now ok err h label new = rw err h

pub keeps_function : {V E : Type 0} (r : Result V E) (s : SignatureData) (f : Function) (now : List Function) → OnOk r (now ≡ s.functions ++ f ∷ []) → OnErr r (now ≡ s.functions)
    → IsSignature s → IsLabel f.name → ¬ IsHeld s f.name → IsFunctionOver (length s.sorts) f → IsSignature (signature_data s.sorts now s.labels)
keeps_function (Ok v) s f now ok err h label new over = rw ok (with_function-keeps s f h label new over)
keeps_function (Err e) s f now ok err h label new over = rw err h
