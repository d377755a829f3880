use Rattle.std.proofs.Common.{refl, ap, ◌∙◌, [], ◌∷◌, ◌++◌}
use Rattle.grind_resolution.proofs.make.at_one.Goals as goal

pub returns : goal.returns
returns c = (c.push.new.self, c.in_ok-push.ensures.items ∙ ap (λ items. items ++ c.args.part ∷ []) c.new-args.ensures.items, refl)
