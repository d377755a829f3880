use Rattle.std.proofs.Common.{◌≡◌, ◌∷◌, List, rules}
use Rattle.grind_grammar.specs.Lexemes.{Lexeme, Symbol}
use Rattle.grind_syntax.specs.Sources.{ahead}
use Rattle.grind_syntax.proofs.Fronts.{symbol_front, no_symbol_front}
use Rattle.grind_syntax.proofs.names.symbol_at.Goals as goal

pub returns-in_err-found-clause-is : goal.returns-in_err-found-clause-is
returns-in_err-found-clause-is c =
    rw c.from_residual.ensures (no_symbol_front c.args.sym (ahead c.args.source.now c.args.at) (λ rest e. c.in_err-found.ensures.is c.args.sym rest e))

pub returns-then-eq-clause-is : goal.returns-then-eq-clause-is
returns-then-eq-clause-is c =
    let is : ahead c.args.source.now c.args.at ≡ Symbol c.args.sym ∷ ahead c.args.source.now c.in_ok-found.left = search rules in
    symbol_front c.args.sym (ahead c.args.source.now c.args.at) _ is

pub returns-clause-is : goal.returns-clause-is
returns-clause-is c =
    let not : (rest : List Lexeme) → ahead c.args.source.now c.args.at ≡ Symbol c.args.sym ∷ rest → ⊥ = search rules in
    no_symbol_front c.args.sym (ahead c.args.source.now c.args.at) not
