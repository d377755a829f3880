use Rattle.grind_linear_forms.proofs.CutLemmas.{cut-unique, positive-nonzero}
use Rattle.grind_linear_forms.proofs.laws.one_cut.Goals as goal

pub returns : goal.returns
returns c = λ form one other g positive first second.
    cut-unique c.products_cancel.ensures g (positive-nonzero g positive) c.one_ceiling.ensures form one other positive first second
