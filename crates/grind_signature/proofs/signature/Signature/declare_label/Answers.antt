use Rattle.std.proofs.Common.{sym, subst, ◌∙◌}
use Rattle.grind_signature.specs.Signatures.{signature_data, IsHeld}
use Rattle.grind_signature.proofs.SignatureLaws.{keeps_label}
use Rattle.std.proofs.Common.{true≢false}
use Rattle.grind_signature.proofs.signature.Signature.declare_label.Goals as goal

pub invariant_of-self : goal.invariant_of-self
invariant_of-self c =
    keeps_label c.add.result (signature_data c.self.inside.sorts c.self.inside.functions c.self.inside.labels) c.args.name.now c.add.new.self c.add.ensures.ok c.add.ensures.err
    c.self.invariant c.requires
    (λ held. true≢false (sym (c.holds.ensures.value.1 (subst (λ s. IsHeld s c.args.name.now) c.self.view_is held)) ∙ c.if-holds.false))
