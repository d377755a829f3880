use Rattle.std.specs.Prelude.{◌<◌, ◌≤◌, ℕ, List, length}
use Rattle.std.proofs.Common.{arith, ap}
use Rattle.grind_classes.specs.Classes.{members_of}
use Rattle.grind_classes.proofs.MergeLemmas.{joinable, IsMerge-left, IsMerge-right, IsPartition-joined, AreMergedAt-swap, together-joined, active-joined}
use Rattle.grind_classes.proofs.classes.Classes.merge.Goals as goal

pub returns-then-members-clause-lists : goal.returns-then-members-clause-lists
returns-then-members-clause-lists c = λ ra rb in_a in_b.
    let order : length (members_of c.args.self.now.lists c.root-right.result) ≤ length (members_of c.args.self.now.lists c.root-left.result) =
    omega (arith, c.if-members.true, ap {B = ℕ} (λ (xs : List ℕ). length xs) c.members.ensures.value, ap {B = ℕ} (λ (xs : List ℕ). length xs) c.members-2.ensures.value) in
    IsMerge-left c.args.self.now.lists c.append.new.self.lists c.args.a c.args.b c.root-left.result c.root-right.result c.in_ok-moved.moved
    ra rb c.root-left.ensures.partition c.root-left.ensures.within c.root-right.ensures.within order
    c.in_ok-moved.ensures.lists c.in_ok-moved.ensures.count in_a in_b

pub returns-then-members-clause-together : goal.returns-then-members-clause-together
returns-then-members-clause-together c = λ x y.
    let can = joinable c.args.self.now.lists c.root-left.result c.root-right.result c.args.a c.args.b c.root-left.ensures.partition
    c.root-left.ensures.own c.root-right.ensures.own c.root-left.ensures.within c.root-right.ensures.within c.requires.apart in
    rw c.in_ok-moved.ensures.lists (together-joined c.args.self.now.lists c.root-left.result c.root-right.result c.args.a c.args.b x y can.0
    c.root-left.ensures.within c.root-right.ensures.within)

pub returns-then-members-clause-active : goal.returns-then-members-clause-active
returns-then-members-clause-active c = λ x.
    let can = joinable c.args.self.now.lists c.root-left.result c.root-right.result c.args.a c.args.b c.root-left.ensures.partition
    c.root-left.ensures.own c.root-right.ensures.own c.root-left.ensures.within c.root-right.ensures.within c.requires.apart in
    rw c.in_ok-moved.ensures.lists (active-joined c.args.self.now.lists c.root-left.result c.root-right.result x can.0)

pub returns-then-members-clause-partition : goal.returns-then-members-clause-partition
returns-then-members-clause-partition c =
    let can = joinable c.args.self.now.lists c.root-left.result c.root-right.result c.args.a c.args.b c.root-left.ensures.partition
    c.root-left.ensures.own c.root-right.ensures.own c.root-left.ensures.within c.root-right.ensures.within c.requires.apart in
    rw c.in_ok-moved.ensures.lists (IsPartition-joined c.args.self.now.lists c.root-left.result c.root-right.result can.0)

pub returns-clause-lists : goal.returns-clause-lists
returns-clause-lists c = λ ra rb in_a in_b.
    let order : length (members_of c.args.self.now.lists c.root-left.result) < length (members_of c.args.self.now.lists c.root-right.result) =
    omega (arith, c.if-members.false, ap {B = ℕ} (λ (xs : List ℕ). length xs) c.members.ensures.value, ap {B = ℕ} (λ (xs : List ℕ). length xs) c.members-2.ensures.value) in
    IsMerge-right c.args.self.now.lists c.append-2.new.self.lists c.args.a c.args.b c.root-left.result c.root-right.result c.in_ok-moved-2.moved
    ra rb c.root-left.ensures.partition c.root-left.ensures.within c.root-right.ensures.within order
    c.in_ok-moved-2.ensures.lists c.in_ok-moved-2.ensures.count in_a in_b

pub returns-clause-together : goal.returns-clause-together
returns-clause-together c = λ x y.
    let can = joinable c.args.self.now.lists c.root-left.result c.root-right.result c.args.a c.args.b c.root-left.ensures.partition
    c.root-left.ensures.own c.root-right.ensures.own c.root-left.ensures.within c.root-right.ensures.within c.requires.apart in
    rw c.in_ok-moved-2.ensures.lists (AreMergedAt-swap c.args.self.now.lists c.args.b c.args.a _ x y
    (together-joined c.args.self.now.lists c.root-right.result c.root-left.result c.args.b c.args.a x y can.1
    c.root-right.ensures.within c.root-left.ensures.within))

pub returns-clause-active : goal.returns-clause-active
returns-clause-active c = λ x.
    let can = joinable c.args.self.now.lists c.root-left.result c.root-right.result c.args.a c.args.b c.root-left.ensures.partition
    c.root-left.ensures.own c.root-right.ensures.own c.root-left.ensures.within c.root-right.ensures.within c.requires.apart in
    rw c.in_ok-moved-2.ensures.lists (active-joined c.args.self.now.lists c.root-right.result c.root-left.result x can.1)

pub returns-clause-partition : goal.returns-clause-partition
returns-clause-partition c =
    let can = joinable c.args.self.now.lists c.root-left.result c.root-right.result c.args.a c.args.b c.root-left.ensures.partition
    c.root-left.ensures.own c.root-right.ensures.own c.root-left.ensures.within c.root-right.ensures.within c.requires.apart in
    rw c.in_ok-moved-2.ensures.lists (IsPartition-joined c.args.self.now.lists c.root-right.result c.root-left.result can.1)
