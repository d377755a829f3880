use Rattle.std.proofs.Common.{◌∙◌, sym}
use Rattle.std.proofs.lemmas.Bool.Decides.{Decides-eqb}
use Rattle.grind_classes.proofs.ClassLemmas.{together_by_roots}
use Rattle.grind_classes.proofs.classes.Classes.same.Goals as goal

pub returns : goal.returns
returns c =
    let one = Decides-eqb c.root.result c.root-2.result in
    let roots = together_by_roots c.args.self.now.lists c.root.result c.root-2.result c.args.a c.args.b c.root.ensures.partition
    c.root.ensures.within c.root-2.ensures.within in
    (λ found. roots.0 (one.0 (sym c.eq.ensures ∙ found)), λ together. c.eq.ensures ∙ one.1 (roots.1 together))
