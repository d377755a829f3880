-- When two schemes are one, whatever room their lists of arguments have.
use Rattle.std.specs.Prelude.{◌≡◌}
use Rattle.grind_schemes.specs.declared.scheme.Scheme.{Scheme, Var, Apply', Row_of-Scheme, end_of-Scheme, more_of-Scheme}

abbrev mutual
  -- the same variable, or the same head and sort at the same arguments
  pub AreSame : Scheme → Scheme → Type 0
  AreSame (Var i) (Var j) = i ≡ j
  AreSame (Var i) (Apply' other own form others) = ⊥
  AreSame (Apply' head sort shape args) (Var j) = ⊥
  AreSame (Apply' head sort shape args) (Apply' other own form others) =
      (head ≡ other) × (sort ≡ own) × AreSameRows args others

  pub AreSameRows : {m n : _} → Row_of-Scheme m → Row_of-Scheme n → Type 0
  AreSameRows end_of-Scheme end_of-Scheme = Unit {0}
  AreSameRows end_of-Scheme (more_of-Scheme other others) = ⊥
  AreSameRows (more_of-Scheme first rest) end_of-Scheme = ⊥
  AreSameRows (more_of-Scheme first rest) (more_of-Scheme other others) = AreSame first other × AreSameRows rest others
