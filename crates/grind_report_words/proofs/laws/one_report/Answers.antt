use Rattle.grind_report_words.proofs.Pages.{one_report}
use Rattle.grind_report_words.proofs.StepLemmas.{one_step}
use Rattle.grind_report_words.proofs.laws.one_report.Goals as goal

pub returns-clause-report : goal.returns-clause-report
returns-clause-report c = one_report

pub returns-clause-step : goal.returns-clause-step
returns-clause-step c = one_step
