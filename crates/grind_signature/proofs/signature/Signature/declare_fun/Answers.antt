use Rattle.std.proofs.Common.{arith, sym, ap, subst, ◌∙◌, ◌≡◌, length}
use Rattle.grind_signature.specs.Signatures.{SignatureData, signature_data, IsHeld}
use Rattle.grind_signature.proofs.SignatureLaws.{keeps_function}
use Rattle.std.proofs.Common.{true≢false}
use Rattle.grind_signature.proofs.signature.Signature.declare_fun.Goals as goal

pub invariant_of-self : goal.invariant_of-self
invariant_of-self c =
    let same : length c.args.self.now.sorts ≡ length c.self.inside.sorts = ap (λ (s : SignatureData). length s.sorts) (sym c.self.view_is) in
    keeps_function c.add.result (signature_data c.self.inside.sorts c.self.inside.functions c.self.inside.labels) (record { name = c.args.name.now; args = c.args.args.now; result = c.args.own }) c.add.new.self c.add.ensures.ok c.add.ensures.err
    c.self.invariant c.requires.label
    (λ held. true≢false (sym (c.holds.ensures.value.1 (subst (λ s. IsHeld s c.args.name.now) c.self.view_is held)) ∙ c.if-holds.false))
    (record { args = λ k d l. let a = c.requires.args k d l in omega arith; result = let r = c.requires.own in omega arith; few = c.requires.few })
