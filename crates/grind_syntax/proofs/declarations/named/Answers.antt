use Rattle.std.proofs.Common.{◌≡◌, ◌∙◌, true, false, rules, codes, FitsSigned}
use Rattle.std.specs.Int.{w128}
use Rattle.std.proofs.lemmas.Int.{to_z-of_z}
use Rattle.std.specs.Str.{bytes_eq}
use Rattle.grind_grammar.specs.Keeps.{name_of}
use Rattle.grind_grammar.specs.Files.{depth_limit}
use Rattle.grind_syntax.proofs.DeclarationLemmas.{is_sort_declaration, is_function, is_theorem, is_goal, is_limit, is_none, limit_read, limit_none}
use Rattle.grind_syntax.specs.Sources.{ahead}
use Rattle.grind_syntax.proofs.declarations.named.Goals as goal

pub returns-then-is_same-clause-is : goal.returns-then-is_same-clause-is
returns-then-is_same-clause-is c =
    let source = c.args.source.now in
    let text = source.text.now in
    let ls = ahead source c.args.at in
    let is : bytes_eq (name_of text c.args.keyword) (codes "sort") ≡ true = cc in
    is_sort_declaration depth_limit depth_limit (name_of text c.args.keyword) (name_of text c.args.name) ls is

pub returns-then-is_same-2-clause-is : goal.returns-then-is_same-2-clause-is
returns-then-is_same-2-clause-is c =
    let source = c.args.source.now in
    let text = source.text.now in
    let ls = ahead source c.args.at in
    let not_sort : bytes_eq (name_of text c.args.keyword) (codes "sort") ≡ false = cc in
    let is : bytes_eq (name_of text c.args.keyword) (codes "fun") ≡ true = cc in
    rw (is_function depth_limit depth_limit (name_of text c.args.keyword) (name_of text c.args.name) ls not_sort is) c.in_ok-answer.ensures.is

pub returns-then-is_same-3-clause-is : goal.returns-then-is_same-3-clause-is
returns-then-is_same-3-clause-is c =
    let source = c.args.source.now in
    let text = source.text.now in
    let ls = ahead source c.args.at in
    let not_sort : bytes_eq (name_of text c.args.keyword) (codes "sort") ≡ false = cc in
    let not_fun : bytes_eq (name_of text c.args.keyword) (codes "fun") ≡ false = cc in
    let is : bytes_eq (name_of text c.args.keyword) (codes "theorem") ≡ true = cc in
    rw (is_theorem depth_limit depth_limit (name_of text c.args.keyword) (name_of text c.args.name) ls not_sort not_fun is) c.in_ok-answer-2.ensures.is

pub returns-then-is_same-4-clause-is : goal.returns-then-is_same-4-clause-is
returns-then-is_same-4-clause-is c =
    let source = c.args.source.now in
    let text = source.text.now in
    let ls = ahead source c.args.at in
    let not_sort : bytes_eq (name_of text c.args.keyword) (codes "sort") ≡ false = cc in
    let not_fun : bytes_eq (name_of text c.args.keyword) (codes "fun") ≡ false = cc in
    let not_theorem : bytes_eq (name_of text c.args.keyword) (codes "theorem") ≡ false = cc in
    let is : bytes_eq (name_of text c.args.keyword) (codes "goal") ≡ true = cc in
    rw (is_goal depth_limit depth_limit (name_of text c.args.keyword) (name_of text c.args.name) ls not_sort not_fun not_theorem is) c.in_ok-answer-3.ensures.is

pub returns-then-not-is_same-clause-is : goal.returns-then-not-is_same-clause-is
returns-then-not-is_same-clause-is c =
    let source = c.args.source.now in
    let text = source.text.now in
    let ls = ahead source c.args.at in
    let not_sort : bytes_eq (name_of text c.args.keyword) (codes "sort") ≡ false = cc in
    let not_fun : bytes_eq (name_of text c.args.keyword) (codes "fun") ≡ false = cc in
    let not_theorem : bytes_eq (name_of text c.args.keyword) (codes "theorem") ≡ false = cc in
    let not_goal : bytes_eq (name_of text c.args.keyword) (codes "goal") ≡ false = cc in
    let not_limit : bytes_eq (name_of text c.args.keyword) (codes "limit") ≡ false = cc in
    is_none depth_limit depth_limit (name_of text c.args.keyword) (name_of text c.args.name) ls not_sort not_fun not_theorem not_goal not_limit

pub returns-in_default-clause-is : goal.returns-in_default-clause-is
returns-in_default-clause-is c =
    let source = c.args.source.now in
    let text = source.text.now in
    let ls = ahead source c.args.at in
    let not_sort : bytes_eq (name_of text c.args.keyword) (codes "sort") ≡ false = cc in
    let not_fun : bytes_eq (name_of text c.args.keyword) (codes "fun") ≡ false = cc in
    let not_theorem : bytes_eq (name_of text c.args.keyword) (codes "theorem") ≡ false = cc in
    let not_goal : bytes_eq (name_of text c.args.keyword) (codes "goal") ≡ false = cc in
    let is : bytes_eq (name_of text c.args.keyword) (codes "limit") ≡ true = cc in
    is_limit depth_limit depth_limit (name_of text c.args.keyword) (name_of text c.args.name) ls not_sort not_fun not_theorem not_goal is ∙ limit_none (name_of text c.args.name) ls c.in_default.ensures.is

pub returns-clause-is : goal.returns-clause-is
returns-clause-is c =
    let source = c.args.source.now in
    let text = source.text.now in
    let ls = ahead source c.args.at in
    let not_sort : bytes_eq (name_of text c.args.keyword) (codes "sort") ≡ false = cc in
    let not_fun : bytes_eq (name_of text c.args.keyword) (codes "fun") ≡ false = cc in
    let not_theorem : bytes_eq (name_of text c.args.keyword) (codes "theorem") ≡ false = cc in
    let not_goal : bytes_eq (name_of text c.args.keyword) (codes "goal") ≡ false = cc in
    let is : bytes_eq (name_of text c.args.keyword) (codes "limit") ≡ true = cc in
    let fits : FitsSigned w128 c.in-Some.value = search rules in
    let read_value = is_limit depth_limit depth_limit (name_of text c.args.keyword) (name_of text c.args.name) ls not_sort not_fun not_theorem not_goal is ∙ limit_read (name_of text c.args.name) ls c.in-Some.value _ c.in-Some.ensures.is in
    simp (to_z-of_z w128 c.in-Some.value fits) read_value
