-- What is declared so far, and what the sorts, binders and limits of a declaration stand for.
use Rattle.std.specs.Prelude.{ℕ, List, [], map, position, unwrap_or, codes}
use Rattle.std.specs.Str.{bytes_eq}
use Rattle.grind_schemes.specs.declared.goal.Constant.{Constant}
use Rattle.grind_schemes.specs.declared.limits.Limits.{Limits}
use Rattle.grind_schemes.specs.Goals.{GoalData}
use Rattle.grind_schemes.specs.Theorems.{TheoremData}
use Rattle.grind_grammar.specs.Terms.{Bound}
use Rattle.grind_signature.specs.Signatures.{SignatureData, opening}
use Rattle.grind_resolution.specs.declared.meaning.BinderKind.{BinderKind}
use Rattle.grind_resolution.specs.Scopes.{ScopeData, Given, scope_data, Gives}
use Rattle.grind_theory.specs.declared.limits.LimitKind.{LimitKind}
use Rattle.grind_theory.specs.declared.limits.LimitKind.TheVariants as kinds

-- the name of a limit
abbrev pub limit_name : LimitKind → List ℕ
limit_name kinds.Splits = codes "splits"
limit_name kinds.Generation = codes "generation"
limit_name kinds.Instances = codes "instances"
limit_name kinds.Cuts = codes "cuts"
limit_name kinds.Pairs = codes "pairs"

-- the greatest value that it may be set to; the least is 0
abbrev pub greatest : LimitKind → ℕ
greatest kinds.Splits = 12
greatest kinds.Generation = 20
greatest kinds.Instances = 2000
greatest kinds.Cuts = 10000
greatest kinds.Pairs = 2000

-- the values of the limits
pub record LimitsData : Type 0 where
  pub splits : ℕ
  pub generation : ℕ
  pub instances : ℕ
  pub cuts : ℕ
  pub pairs : ℕ

abbrev pub limits_data : Limits → LimitsData
limits_data l =
    record { splits = l.splits; generation = l.generation; instances = l.instances; cuts = l.cuts; pairs = l.pairs }

-- the limits where none is set
abbrev pub opening_limits : LimitsData
opening_limits = record { splits = 9; generation = 8; instances = 1000; cuts = 2000; pairs = 500 }

-- the limits with this one set to the value
abbrev pub with_limit : LimitsData → LimitKind → ℕ → LimitsData
with_limit l kinds.Splits n =
    record { splits = n; generation = l.generation; instances = l.instances; cuts = l.cuts; pairs = l.pairs }
with_limit l kinds.Generation n =
    record { splits = l.splits; generation = n; instances = l.instances; cuts = l.cuts; pairs = l.pairs }
with_limit l kinds.Instances n =
    record { splits = l.splits; generation = l.generation; instances = n; cuts = l.cuts; pairs = l.pairs }
with_limit l kinds.Cuts n =
    record { splits = l.splits; generation = l.generation; instances = l.instances; cuts = n; pairs = l.pairs }
with_limit l kinds.Pairs n =
    record { splits = l.splits; generation = l.generation; instances = l.instances; cuts = l.cuts; pairs = n }

-- what is declared so far: the names, the theorems, the values of the limits and which of them were set, and the goals
pub record State : Type 0 where
  pub signature : SignatureData
  pub theorems : List TheoremData
  pub limits : LimitsData
  pub set : List LimitKind
  pub goals : List GoalData

abbrev pub state_data : SignatureData → List TheoremData → LimitsData → List LimitKind → List GoalData → State
state_data signature theorems limits set goals =
    record { signature = signature; theorems = theorems; limits = limits; set = set; goals = goals }

-- nothing is declared but Prop and Int, and no limit is set
abbrev pub opening_state : State
opening_state = state_data opening [] opening_limits [] []

-- the number of the sort of that name
abbrev pub sort_number : SignatureData → List ℕ → ℕ
sort_number s name = unwrap_or (position (bytes_eq name) s.sorts) 0

abbrev pub sort_numbers : SignatureData → List (List ℕ) → List ℕ
sort_numbers s names = map (sort_number s) names

-- the names and the sorts of binders, as they are written
abbrev pub bound_names : List Bound → List (List ℕ)
bound_names bounds = map (λ (b : Bound). b.name) bounds

abbrev pub bound_sorts : List Bound → List (List ℕ)
bound_sorts bounds = map (λ (b : Bound). b.sort) bounds

-- the constants or variables that the binders make
abbrev pub constant_of : SignatureData → Bound → Constant
constant_of s b = record { name = b.name; sort = sort_number s b.sort }

abbrev pub constants_of : SignatureData → List Bound → List Constant
constants_of s bounds = map (constant_of s) bounds

-- what a name stands for under the signature and these binders
abbrev pub scope_of : BinderKind → SignatureData → List Bound → ScopeData
scope_of kind s bounds = scope_data kind (constants_of s bounds)

abbrev pub Names : BinderKind → SignatureData → List Bound → List ℕ → Given → Type 0
Names kind s bounds = Gives s (scope_of kind s bounds)
