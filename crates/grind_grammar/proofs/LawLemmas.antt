-- The laws of the reading function.
use Rattle.std.proofs.Common.{sym, subst}
use Rattle.grind_grammar.specs.Terms.{Fits, DeclarationFits}
use Rattle.grind_grammar.specs.Laws.{IsGivenIf, FormulasAreSound, SumsAreSound, DeclarationsAreSound, FormulasAreComplete, SumsAreComplete, DeclarationsAreComplete, PiecesAreJudged, FaultsAreJudged}
use Rattle.grind_grammar.specs.Reading.{fit, formula}
use Rattle.grind_grammar.proofs.FitLemmas.{fit_given, fit_declaration, declaration_given}
use Rattle.grind_grammar.proofs.TermSound.{formula_sound, sum_sound}
use Rattle.grind_grammar.proofs.DeclarationSound.{declaration_sound}
use Rattle.grind_grammar.proofs.DeclarationDone.{formula_at, sum_at, declaration_done}
use Rattle.grind_grammar.proofs.PieceLemmas.{judged_ok, judged_err, ok_judged, err_judged}

pub formulas_sound : FormulasAreSound
formulas_sound limit room ls rest o h =
    let k = formula_sound limit room ls o rest h in (k.0, k.1, subst (IsGivenIf (Fits limit) k.0) (sym k.2) (fit_given limit k.0))

pub sums_sound : SumsAreSound
sums_sound limit room ls rest o h =
    let k = sum_sound limit (formula limit room) (formula_sound limit room) ls o rest h in
    (k.0, k.1, subst (IsGivenIf (Fits limit) k.0) (sym k.2) (fit_given limit k.0))

pub declarations_sound : DeclarationsAreSound
declarations_sound limit room ls rest o h =
    let k = declaration_sound limit room ls o rest h in
    (k.0, k.1, subst (IsGivenIf (DeclarationFits limit) k.0) (sym k.2) (declaration_given limit k.0))

pub formulas_complete : FormulasAreComplete
formulas_complete limit most count room ls rest t d w h s =
    (fit limit t, (formula_at limit most count room h ls t rest d w s).reads, fit_given limit t)

pub sums_complete : SumsAreComplete
sums_complete limit most count room ls rest t d w h s =
    (fit limit t, (sum_at limit most count room h ls t rest d w s).reads, fit_given limit t)

pub declarations_complete : DeclarationsAreComplete
declarations_complete limit most count room ls rest d p w h s =
    (fit_declaration limit d, declaration_done limit most count room h p w s, declaration_given limit d)

pub pieces_judged : PiecesAreJudged
pieces_judged piece d = (judged_ok piece d, ok_judged piece d)

pub faults_judged : FaultsAreJudged
faults_judged piece f = (judged_err piece f, err_judged piece f)
