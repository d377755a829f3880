use Rattle.std.proofs.Common.{◌∙◌, ◌++◌, ap, sym}
use Rattle.std.specs.Prelude.{map}
use Rattle.grind_grammar.specs.Keeps.{IsPlaced, name_of}
use Rattle.grind_grammar.specs.Reading as reading
use Rattle.grind_syntax.proofs.Items.{reach_past}
use Rattle.grind_syntax.proofs.ListLemmas.{kept_more, all_more, names_more, names_second, names_all, names_end_second}
use Rattle.grind_syntax.specs.Sources.{ahead}
use Rattle.grind_syntax.proofs.lists.names.Goals as goal

pub loop-name-preserved : goal.loop-name-preserved
loop-name-preserved c =
    let source = c.args.source.now in
    let text = source.text.now in
    let made = kept_more (name_of text) c.loop-name.names c.push.new.self c.in-Some.name c.in_ok-push.ensures.ok in
    let more = names_more (ahead source c.args.at) (ahead source c.loop-name.rest) (ahead source c.in-Some.left)
    (map (name_of text) c.loop-name.names) (name_of text c.in-Some.name) c.loop-name.invariant.so_far c.in-Some.ensures.is in
    record {
      so_far = more ∙ ap (λ xs. xs ++ (reading.names (ahead source c.in-Some.left)).0) (sym made);
      further = c.loop-name.invariant.further
          ∙ names_second (ahead source c.loop-name.rest) (name_of text c.in-Some.name) (ahead source c.in-Some.left) c.in-Some.ensures.is;
      kept = all_more (IsPlaced text) c.loop-name.names c.push.new.self c.in-Some.name c.in_ok-push.ensures.ok c.loop-name.invariant.kept c.in-Some.ensures.left.0;
      behind = reach_past source c.args.at c.loop-name.rest c.in-Some.left c.loop-name.invariant.behind c.in-Some.ensures.left.1;
    }

pub returns-clause-names : goal.returns-clause-names
returns-clause-names c =
    let source = c.args.source.now in
    let text = source.text.now in
    names_all (ahead source c.args.at) (ahead source c.loop-name.rest) (map (name_of text) c.loop-name.names) c.loop-name.invariant.so_far
    c.in_default.ensures.is

pub returns-clause-rest : goal.returns-clause-rest
returns-clause-rest c =
    let source = c.args.source.now in
    let text = source.text.now in
    c.loop-name.invariant.further ∙ names_end_second (ahead source c.loop-name.rest) c.in_default.ensures.is
