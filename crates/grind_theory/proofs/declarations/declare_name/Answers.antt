use Rattle.std.proofs.Common.{rules, sym, ap, ◌∙◌, FitsSigned, to_z, of_z}
use Rattle.std.specs.Int.{w128}
use Rattle.std.proofs.lemmas.Int.{to_z-of_z}
use Rattle.grind_grammar.specs.Terms.{Sort, Fun, Limit}
use Rattle.grind_grammar.specs.Keeps.{name_of}
use Rattle.grind_theory.specs.Kept.{names_of, declaration_of}
use Rattle.grind_theory.proofs.DeclTaking.{added_ok, added_declared, limit_ok, has_fault, has_limit_fault}
use Rattle.grind_theory.proofs.declarations.declare_name.Goals as goal

pub returns-in-Sort-clause-ok : goal.returns-in-Sort-clause-ok
returns-in-Sort-clause-ok c =
    let text = c.args.text.now in
    added_ok text c.args.decl.now (Sort (name_of text c.in-Sort.name)) c.args.building.now
    (ap (declaration_of text) c.in-Sort.is) c.declare_sort.result c.declare_sort.new.signature c.declare_sort.ensures.ok

pub returns-in-Sort-clause-declared : goal.returns-in-Sort-clause-declared
returns-in-Sort-clause-declared c =
    let text = c.args.text.now in
    added_declared text c.args.decl.now (Sort (name_of text c.in-Sort.name)) c.args.building.now
    (ap (declaration_of text) c.in-Sort.is) c.declare_sort.result c.declare_sort.new.signature c.declare_sort.ensures.ok

pub returns-in-Fun-clause-ok : goal.returns-in-Fun-clause-ok
returns-in-Fun-clause-ok c =
    let text = c.args.text.now in
    added_ok text c.args.decl.now (Fun (name_of text c.in-Fun.name) (names_of text c.as_slice.result.now) (name_of text c.in-Fun.result)) c.args.building.now
    (ap (declaration_of text) c.in-Fun.is ∙ ap (λ names. Fun (name_of text c.in-Fun.name) (names_of text names) (name_of text c.in-Fun.result)) (sym c.as_slice.ensures.value)) c.declare_fun.result c.declare_fun.new.signature c.declare_fun.ensures.ok

pub returns-in-Fun-clause-faulty : goal.returns-in-Fun-clause-faulty
returns-in-Fun-clause-faulty c =
    let text = c.args.text.now in
    λ fault e. has_fault text c.args.decl.now (Fun (name_of text c.in-Fun.name) (names_of text c.as_slice.result.now) (name_of text c.in-Fun.result)) c.args.building.now
    (ap (declaration_of text) c.in-Fun.is ∙ ap (λ names. Fun (name_of text c.in-Fun.name) (names_of text names) (name_of text c.in-Fun.result)) (sym c.as_slice.ensures.value)) fault (c.declare_fun.ensures.faulty fault e)

pub returns-in-Fun-clause-declared : goal.returns-in-Fun-clause-declared
returns-in-Fun-clause-declared c =
    let text = c.args.text.now in
    added_declared text c.args.decl.now (Fun (name_of text c.in-Fun.name) (names_of text c.as_slice.result.now) (name_of text c.in-Fun.result)) c.args.building.now
    (ap (declaration_of text) c.in-Fun.is ∙ ap (λ names. Fun (name_of text c.in-Fun.name) (names_of text names) (name_of text c.in-Fun.result)) (sym c.as_slice.ensures.value)) c.declare_fun.result c.declare_fun.new.signature c.declare_fun.ensures.ok

pub returns-in-Limit-clause-ok : goal.returns-in-Limit-clause-ok
returns-in-Limit-clause-ok c =
    let text = c.args.text.now in
    let fits : FitsSigned w128 c.in-Limit.value = search rules in
    limit_ok text c.args.decl.now (Limit (name_of text c.in-Limit.name) (to_z w128 (of_z w128 c.in-Limit.value))) c.args.building.now
    (ap (declaration_of text) c.in-Limit.is ∙ ap (Limit (name_of text c.in-Limit.name)) (sym (to_z-of_z w128 c.in-Limit.value fits))) c.declare_limit.result c.declare_limit.new.limits c.declare_limit.new.set c.declare_limit.ensures.ok

pub returns-in-Limit-clause-faulty : goal.returns-in-Limit-clause-faulty
returns-in-Limit-clause-faulty c =
    let text = c.args.text.now in
    let fits : FitsSigned w128 c.in-Limit.value = search rules in
    λ fault e. has_limit_fault text c.args.decl.now (Limit (name_of text c.in-Limit.name) (to_z w128 (of_z w128 c.in-Limit.value))) c.args.building.now
    (ap (declaration_of text) c.in-Limit.is ∙ ap (Limit (name_of text c.in-Limit.name)) (sym (to_z-of_z w128 c.in-Limit.value fits))) fault (c.declare_limit.ensures.faulty fault e)
