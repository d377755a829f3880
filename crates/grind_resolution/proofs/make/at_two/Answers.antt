use Rattle.std.proofs.Common.{refl, ap, ◌∙◌, [], ◌∷◌, ◌++◌}
use Rattle.grind_resolution.proofs.make.at_two.Goals as goal

pub returns : goal.returns
returns c = (
  c.push-2.new.self,
  c.in_ok-push-2.ensures.items
      ∙ ap (λ items. items ++ c.args.right ∷ []) (c.in_ok-push.ensures.items ∙ ap (λ items. items ++ c.args.left ∷ []) c.new-args.ensures.items),
  refl,
)
