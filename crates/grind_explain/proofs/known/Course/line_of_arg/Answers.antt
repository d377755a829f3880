use Rattle.std.specs.Prelude.{◌≡◌, ◌<◌, ℕ, List, All, length}
use Rattle.std.proofs.Common.{sym, subst}
use Rattle.std.proofs.lemmas.Option.{slice_get_within}
use Rattle.grind_congruence.specs.declared.edge.Edge.{Edge}
use Rattle.grind_congruence.specs.Edges.{Leads}
use Rattle.grind_explain.specs.Deriving.{IsKnown}
use Rattle.grind_explain.proofs.NotedLemmas.{Goes-none, Goes-weaker}
use Rattle.grind_explain.proofs.KnownLemmas.{way_read, known_all, IsPlanned-way}
use Rattle.grind_explain.proofs.known.Course.line_of_arg.Goals as goal

pub returns-in-Some-clause-goes : goal.returns-in-Some-clause-goes
returns-in-Some-clause-goes c = Goes-none c.args.proof.now c.args.told.now

pub bounds-as_slice-number : goal.bounds-as_slice-number
bounds-as_slice-number c =
    let it = c.requires.given.ways c.args.a c.args.b c.number_of-number.result c.number_of-number.ensures in
    subst (λ (ways : List (List ℕ)). c.number_of-number.result < length ways) (sym c.as_slice.ensures.value)
    (slice_get_within c.args.self.now.plan.now.ways c.number_of-number.result it.0 it.1)

pub chain-requires-clause-within : goal.chain-requires-clause-within
chain-requires-clause-within c = c.requires.given.fits.within c.args.a c.requires.active

pub chain-requires-clause-known : goal.chain-requires-clause-known
chain-requires-clause-known c =
    let it = c.requires.given.ways c.args.a c.args.b c.number_of-number.result c.number_of-number.ensures in
    let same : c.as_slice-2.result.now ≡ it.0 =
    way_read c.args.self.now.plan.now.ways c.as_slice.result.now c.number_of-number.result c.index-as_slice-number.result it.0
    c.as_slice-2.result.now c.as_slice.ensures.value it.1 c.index-as_slice-number.is c.as_slice-2.ensures.value in
    let all = known_all c.args.self.now.closure.now.edges c.args.self.now.plan.now.needed c.args.told.now c.requires.known.0 it.0 c.requires.known.1
    (it.2.among c.requires.known.0 c.requires.known.2) it.3 in
    subst (λ (edges : List Edge). All (IsKnown edges c.args.told.now) c.as_slice-2.result.now) (sym c.edges.ensures.value)
    (subst (λ (places : List ℕ). All (IsKnown c.args.self.now.closure.now.edges c.args.told.now) places) (sym same) all)

pub chain-requires-clause-leads : goal.chain-requires-clause-leads
chain-requires-clause-leads c =
    let it = c.requires.given.ways c.args.a c.args.b c.number_of-number.result c.number_of-number.ensures in
    let same : c.as_slice-2.result.now ≡ it.0 =
    way_read c.args.self.now.plan.now.ways c.as_slice.result.now c.number_of-number.result c.index-as_slice-number.result it.0
    c.as_slice-2.result.now c.as_slice.ensures.value it.1 c.index-as_slice-number.is c.as_slice-2.ensures.value in
    let leads : Leads c.edges.result.now c.as_slice-2.result.now c.args.a c.args.b =
    subst (λ (edges : List Edge). Leads edges c.as_slice-2.result.now c.args.a c.args.b) (sym c.edges.ensures.value)
    (subst (λ (places : List ℕ). Leads c.args.self.now.closure.now.edges places c.args.a c.args.b) (sym same) it.2.leads) in
    (c.args.b, leads)

pub returns-clause-tells : goal.returns-clause-tells
returns-clause-tells c =
    let it = c.requires.given.ways c.args.a c.args.b c.number_of-number.result c.number_of-number.ensures in
    let same : c.as_slice-2.result.now ≡ it.0 =
    way_read c.args.self.now.plan.now.ways c.as_slice.result.now c.number_of-number.result c.index-as_slice-number.result it.0
    c.as_slice-2.result.now c.as_slice.ensures.value it.1 c.index-as_slice-number.is c.as_slice-2.ensures.value in
    c.in_ok-line.ensures.tells c.args.b
    (subst (λ (edges : List Edge). Leads edges c.as_slice-2.result.now c.args.a c.args.b) (sym c.edges.ensures.value)
    (subst (λ (places : List ℕ). Leads c.args.self.now.closure.now.edges places c.args.a c.args.b) (sym same) it.2.leads))

pub returns-clause-goes : goal.returns-clause-goes
returns-clause-goes c =
    let it = c.requires.given.ways c.args.a c.args.b c.number_of-number.result c.number_of-number.ensures in
    let same : c.as_slice-2.result.now ≡ it.0 =
    way_read c.args.self.now.plan.now.ways c.as_slice.result.now c.number_of-number.result c.index-as_slice-number.result it.0
    c.as_slice-2.result.now c.as_slice.ensures.value it.1 c.index-as_slice-number.is c.as_slice-2.ensures.value in
    Goes-weaker c.args.proof.now c.chain.new.proof c.args.told.now c.chain.new.told
    (λ x y h. IsPlanned-way c.args.self.now.closure.now.edges _ c.args.self.now.whys.now c.args.self.now.plan.now c.args.a c.args.b
    c.number_of-number.result it.0 c.as_slice-2.result.now x y c.number_of-number.ensures it.1 same c.edges.ensures.value h)
    c.in_ok-line.ensures.goes
