use Rattle.grind_linear_forms.proofs.CutLemmas.{cut-at_most}
use Rattle.grind_linear_forms.proofs.laws.cuts_stay_below.Goals as goal

pub returns : goal.returns
returns c = λ v form cut g positive is h.
    cut-at_most c.products_associate.ensures c.products_distribute.ensures v g c.ceilings_bound.ensures form cut positive is h
