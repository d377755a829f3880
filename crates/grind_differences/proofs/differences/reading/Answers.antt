use Rattle.std.proofs.Common.{rules, ◌≡◌, None, IsErrOf, true≢false, sym, ◌∙◌}
use Rattle.grind_linear_forms.specs.declared.form.FormRefusal.TheVariants as refusal
use Rattle.grind_differences.specs.Differences.{reading}
use Rattle.grind_differences.proofs.BoundLemmas.{reading-number, reading-other}
use Rattle.grind_differences.proofs.differences.reading.Goals as goal

pub returns-then-not-is_number : goal.returns-then-not-is_number
returns-then-not-is_number c =
    sym (reading-other c.args.terms.now.nodes c.args.node
    (λ e. true≢false (sym (c.is_number.ensures.1 e) ∙ c.if-not-is_number.true)))

pub returns-in-Ok : goal.returns-in-Ok
returns-in-Ok c =
    sym (reading-number c.args.terms.now.nodes c.args.node (c.is_number.ensures.0 c.if-not-is_number.false) ∙ c.in-Ok.ensures.ok)

pub returns-in-Err-Overflow : goal.returns-in-Err-Overflow
returns-in-Err-Overflow c =
    let leads : IsErrOf c.linear_of.result refusal.Overflow → None ≡ reading c.args.terms.now.nodes c.args.node = λ e.
    sym (reading-number c.args.terms.now.nodes c.args.node (c.is_number.ensures.0 c.if-not-is_number.false) ∙ c.linear_of.ensures.overflow e) in
    search rules
