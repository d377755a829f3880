use Rattle.std.proofs.Common.{arith, sym, ap, subst, ◌∙◌, true≢false, ◌<◌, ◌≤◌, All, length}
use Rattle.std.proofs.lemmas.List.{length-map}
use Rattle.grind_grammar.specs.Terms.{Fun}
use Rattle.grind_grammar.specs.Keeps.{name_of}
use Rattle.grind_signature.specs.Signatures.{IsHeld}
use Rattle.grind_theory.specs.declared.theory.Fault.TheVariants as faults
use Rattle.grind_theory.specs.States.{sort_number}
use Rattle.grind_theory.specs.Kept.{names_of}
use Rattle.grind_theory.specs.Declaring.{SortsFound}
use Rattle.grind_theory.proofs.FunTaking.{answered, sorts_within, fun-no_own, fun-formulas, fun-many, fun-taken}
use Rattle.grind_theory.proofs.sorts.declare_fun.Goals as goal

pub returns-in_default-clause-faulty : goal.returns-in_default-clause-faulty
returns-in_default-clause-faulty c = λ fault e.
    let names = names_of c.args.text.now c.args.fun.now.args.now in
    let name = name_of c.args.text.now c.args.fun.now.name in
    let own = name_of c.args.text.now c.args.fun.now.own in
    let new : ¬ IsHeld c.args.signature.now c.bytes_of-bytes.result.now = λ held. true≢false (sym (c.holds.ensures.value.1 held) ∙ c.if-holds.false) in
    answered c.args.signature.now (Fun name names own) faults.Unknown fault
    (fun-no_own c.args.signature.now name own c.bytes_of-bytes.result.now c.bytes_of.result.now names c.bytes_of-bytes.ensures c.bytes_of.ensures new
    (sym c.find_sort.ensures ∙ c.in_default.is)) e

pub returns-then-not-has_no_formulas-clause-faulty : goal.returns-then-not-has_no_formulas-clause-faulty
returns-then-not-has_no_formulas-clause-faulty c = λ fault e.
    let names = names_of c.args.text.now c.args.fun.now.args.now in
    let name = name_of c.args.text.now c.args.fun.now.name in
    let own = name_of c.args.text.now c.args.fun.now.own in
    let new : ¬ IsHeld c.args.signature.now c.bytes_of-bytes.result.now = λ held. true≢false (sym (c.holds.ensures.value.1 held) ∙ c.if-holds.false) in
    let found = subst (SortsFound c.args.signature.now names) c.in-Some-found.is c.in-Ok.ensures in
    answered c.args.signature.now (Fun name names own) faults.Sort fault
    (fun-formulas c.args.signature.now name own c.bytes_of-bytes.result.now c.bytes_of.result.now names c.bytes_of-bytes.ensures c.bytes_of.ensures new
    c.in-Some.sort (sym c.find_sort.ensures ∙ c.in-Some.is) found.0 c.as_slice-sorts.result.now (c.as_slice-sorts.ensures.value ∙ found.1) c.has_no_formulas.result c.has_no_formulas.ensures
    (λ h. true≢false (sym h ∙ c.if-not-has_no_formulas.true))) e

pub returns-then-sorts-gt16-clause-faulty : goal.returns-then-sorts-gt16-clause-faulty
returns-then-sorts-gt16-clause-faulty c = λ fault e.
    let names = names_of c.args.text.now c.args.fun.now.args.now in
    let name = name_of c.args.text.now c.args.fun.now.name in
    let own = name_of c.args.text.now c.args.fun.now.own in
    let new : ¬ IsHeld c.args.signature.now c.bytes_of-bytes.result.now = λ held. true≢false (sym (c.holds.ensures.value.1 held) ∙ c.if-holds.false) in
    let found = subst (SortsFound c.args.signature.now names) c.in-Some-found.is c.in-Ok.ensures in
    let count = ap length (c.as_slice-sorts.ensures.value ∙ found.1) ∙ length-map names (sort_number c.args.signature.now) in
    answered c.args.signature.now (Fun name names own) faults.Size fault
    (fun-many c.args.signature.now name own c.bytes_of-bytes.result.now c.bytes_of.result.now names c.bytes_of-bytes.ensures c.bytes_of.ensures new
    c.in-Some.sort (sym c.find_sort.ensures ∙ c.in-Some.is) found.0 c.as_slice-sorts.result.now (c.as_slice-sorts.ensures.value ∙ found.1) c.has_no_formulas.result c.has_no_formulas.ensures
    c.if-not-has_no_formulas.false (λ few. absurd (omega (arith, count, c.if-sorts-gt16.true)))) e

pub declare_fun-requires-clause-args : goal.declare_fun-requires-clause-args
declare_fun-requires-clause-args c =
    let names = names_of c.args.text.now c.args.fun.now.args.now in
    let found = subst (SortsFound c.args.signature.now names) c.in-Some-found.is c.in-Ok.ensures in
    subst (All (λ sort. sort < length c.args.signature.now.sorts)) (sym (c.as_slice-sorts.ensures.value ∙ found.1)) (sorts_within c.args.signature.now names found.0)

pub returns-in-Ok-declare_fun-clause-ok : goal.returns-in-Ok-declare_fun-clause-ok
returns-in-Ok-declare_fun-clause-ok c =
    let names = names_of c.args.text.now c.args.fun.now.args.now in
    let name = name_of c.args.text.now c.args.fun.now.name in
    let own = name_of c.args.text.now c.args.fun.now.own in
    let new : ¬ IsHeld c.args.signature.now c.bytes_of-bytes.result.now = λ held. true≢false (sym (c.holds.ensures.value.1 held) ∙ c.if-holds.false) in
    let found = subst (SortsFound c.args.signature.now names) c.in-Some-found.is c.in-Ok.ensures in
    let count = ap length (c.as_slice-sorts.ensures.value ∙ found.1) ∙ length-map names (sort_number c.args.signature.now) in
    let few : length names ≤ 16 = omega (arith, count, c.if-sorts-gt16.false) in
    fun-taken c.args.signature.now name own c.bytes_of-bytes.result.now c.bytes_of.result.now names c.bytes_of-bytes.ensures c.bytes_of.ensures new
    c.in-Some.sort (sym c.find_sort.ensures ∙ c.in-Some.is) found.0 c.as_slice-sorts.result.now (c.as_slice-sorts.ensures.value ∙ found.1) c.has_no_formulas.result
    c.has_no_formulas.ensures c.if-not-has_no_formulas.false c.declare_fun.new.self few c.in-Ok-declare_fun.ensures.ok
