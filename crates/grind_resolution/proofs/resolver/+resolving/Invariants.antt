use Rattle.grind_resolution.specs.Contexts.{gives_in}
use Rattle.grind_resolution.proofs.ResolvedTerms.{AreUnderway}
use Rattle.grind_resolution.proofs.resolver.+resolving.Given as goal

-- the schemes so far, and those of the rest, are those of all
abbrev pub invariant-resolve_all-loop-part : goal.invariant-resolve_all-loop-part
invariant-resolve_all-loop-part l = AreUnderway (gives_in l.context) l.context.text.now l.parts l.part-index l.done.items
