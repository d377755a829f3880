use Rattle.grind_resolution.proofs.Givens.{gives-unique}
use Rattle.grind_resolution.proofs.laws.one_meaning.Goals as goal

pub returns : goal.returns
returns c = λ s scope keeps distinct apart name a b h k. gives-unique s scope keeps distinct apart name b a k h
