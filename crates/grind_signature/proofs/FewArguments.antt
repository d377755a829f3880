-- How many arguments a function of a signature has.
use Rattle.std.specs.Prelude.{◌≡◌, ℕ, ◌<◌, ◌≤◌, List, [], length, Some, slice_get}
use Rattle.std.proofs.Common.{arith, ap, get_or}
use Rattle.std.proofs.lemmas.Option.{slice_get-get_or}
use Rattle.grind_signature.specs.Signatures.{Function, SignatureData, IsSignature}

-- a function of a signature has at most sixteen arguments
pub few_arguments : (s : SignatureData) (f : ℕ) (args : List ℕ) → IsSignature s → f < length s.functions
    → ((g : Function) → slice_get s.functions f ≡ Some g → args ≡ g.args) → length args ≤ 16
few_arguments s f args h below is =
    let d : Function = record { name = []; args = []; result = 0 } in
    let e = slice_get-get_or s.functions f d below in
    let p = ap length (is (get_or s.functions f d) e) in
    let over = h.arities f d below in
    let few = over.few in
    omega arith
