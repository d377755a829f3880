-- Where reading stops, the next line is the malformed one.
use Rattle.std.proofs.Common.{◌≡◌, ℕ, zero, suc, ◌+◌, ◌<◌, ◌≤◌, List, [], ◌∷◌, ◌++◌, length, take, drop, All, refl, sym, ap, ◌∙◌, subst, append_assoc, arith, length-append, inl, inr}
use Rattle.std.specs.Prelude.{◌⊎◌}
use Rattle.std.proofs.lemmas.List.{take-append-drop, length-take-le}
use Rattle.std.proofs.lemmas.List.Elements.{All-drop, All-head}
use Rattle.grind_report_words.specs.declared.report.Report.{Report}
use Rattle.grind_report_words.specs.Words.{Words}
use Rattle.grind_report_words.specs.Steps.{State, AtStart, Done, Reads}
use Rattle.grind_report_words.specs.Reports.{line_bytes, page_bytes, IsSolidLine, AreLinesOf, ArePage, ReportOf, BeginsWith, StopsAfter}
use Rattle.grind_report_words.specs.Laws.{StopsAtMalformed}
use Rattle.grind_report_words.proofs.NumberSpelling.{first_is, rest_is, cancel}
use Rattle.grind_report_words.proofs.StepLemmas.{one_end}
use Rattle.grind_report_words.proofs.Endings.{parted, beginnings_end}
use Rattle.grind_report_words.proofs.Pages.{page_of, lines_of, fewer_lines}

-- lists of one length at the front of one list are one
same_front : (xs ys us vs : List Words) → length xs ≡ length us → xs ++ ys ≡ us ++ vs → xs ≡ us
same_front [] ys [] vs len e = refl
same_front [] ys (u ∷ us) vs len e = absurd (omega (arith, len))
same_front (x ∷ xs) ys [] vs len e = absurd (omega (arith, len))
same_front (x ∷ xs) ys (u ∷ us) vs len e =
    let shorter : length xs ≡ length us = omega (arith, len) in
    let one : x ≡ u = first_is x u (xs ++ ys) (us ++ vs) e in
    let more : xs ≡ us = same_front xs ys us vs shorter (rest_is x u (xs ++ ys) (us ++ vs) e) in
    cc

-- the first lines of bytes, and more of them
record GoesOn (page : List Words) (rest : List ℕ) (longer : List Words) (after : List ℕ) : Type 0 where
  extra : List Words
  whole : longer ≡ page ++ extra
  between : rest ≡ page_bytes extra ++ after
  solid : All IsSolidLine extra

goes_on : (bytes : List ℕ) (page : List Words) (rest : List ℕ) (longer : List Words) (after : List ℕ) → AreLinesOf bytes page rest
    → AreLinesOf bytes longer after → length page ≤ length longer → GoesOn page rest longer after
goes_on bytes page rest longer after lines more below =
    let count : ℕ = length page in
    let front : List Words = take count longer in
    let back : List Words = drop count longer in
    let fewer = fewer_lines bytes count longer after more in
    let long : length page ≡ length front = sym (length-take-le count longer below) in
    let pages : page ++ page_of rest ≡ front ++ page_of (page_bytes back ++ after) =
    sym (lines_of bytes page rest lines) ∙ lines_of bytes front (page_bytes back ++ after) fewer in
    let same : page ≡ front = same_front page (page_of rest) front (page_of (page_bytes back ++ after)) long pages in
    let spelled : page_bytes page ++ rest ≡ page_bytes page ++ (page_bytes back ++ after) =
    sym lines.are ∙ fewer.are ∙ ap (λ (all : List Words). page_bytes all ++ (page_bytes back ++ after)) (sym same) in
    record {
      extra = back;
      whole = sym (take-append-drop count longer) ∙ ap (λ (all : List Words). all ++ back) (sym same);
      between = cancel (page_bytes page) rest (page_bytes back ++ after) spelled;
      solid = All-drop IsSolidLine count longer more.solid;
    }

-- lines after those that lead somewhere go on from there
on_from : (page extra : List Words) (there last : State) → Reads AtStart page there → Reads AtStart (page ++ extra) last → Reads there extra last
on_from page extra there last reads whole =
    let inside = parted page extra AtStart last whole in
    subst (λ (s : State). Reads s extra last) (one_end page AtStart inside.0 there inside.1 reads) inside.2

-- after the report no line is read
none_after_done : (report : Report) (extra : List Words) (last : State) → 0 < length extra → Reads (Done report) extra last → ⊥
none_after_done report [] last some reads = omega (arith, some)
none_after_done report (line ∷ extra) last some reads = elim reads.1 [ ]

module _ (bytes : List ℕ) (page : List Words) (rest : List ℕ) (there : State) (stops : StopsAfter bytes page rest there) where
  -- lines that follow would take a step
  next_line : (extra : List Words) (after : List ℕ) (last : State) → rest ≡ page_bytes extra ++ after → All IsSolidLine extra → 0 < length extra
      → Reads there extra last → ⊥
  next_line [] after last e solid some reads = omega (arith, some)
  next_line (line ∷ extra) after last e solid some reads =
      stops.no_step line (page_bytes extra ++ after) reads.0 (All-head IsSolidLine line extra solid)
      (e ∙ append_assoc (line_bytes line) (page_bytes extra) after) reads.1

  no_report_longer : (report : Report) (whole : List Words) → AreLinesOf bytes whole [] → ArePage whole report → length page ≤ length whole → ⊥
  no_report_longer report whole lines reads below =
      let more = goes_on bytes page rest whole [] stops.lines lines below in
      let on : Reads there more.extra (Done report) =
      on_from page more.extra there (Done report) stops.reads (subst (λ (all : List Words). ArePage all report) more.whole reads) in
      none_or_some more.extra (Done report) more.between more.solid on refl
    where
      none_or_some : (extra : List Words) (last : State) → rest ≡ page_bytes extra ++ [] → All IsSolidLine extra → Reads there extra last
          → last ≡ Done report → ⊥
      none_or_some [] last e solid on is = stops.no_end report (on ∙ is) e
      none_or_some (line ∷ extra) last e solid on is = next_line (line ∷ extra) [] last e solid (omega arith) on

  no_report_shorter : (report : Report) (whole : List Words) → AreLinesOf bytes whole [] → ArePage whole report → length whole < length page → ⊥
  no_report_shorter report whole lines reads below =
      let more = goes_on bytes whole [] page rest lines stops.lines (omega (arith, below)) in
      let long : length page ≡ length whole + length more.extra =
      ap (λ (all : List Words). length all) more.whole ∙ length-append whole more.extra in
      none_after_done report more.extra there (omega (arith, long, below))
      (on_from whole more.extra (Done report) there reads (subst (λ (all : List Words). Reads AtStart all there) more.whole stops.reads))

  no_report : (report : Report) → ReportOf bytes report → ⊥
  no_report report (whole, lines, reads) = by (longer (length page) (length whole))
    where
      longer : (m n : ℕ) → (m ≤ n) ⊎ (n < m)
      longer zero n = inl (omega arith)
      longer (suc m) zero = inr (omega arith)
      longer (suc m) (suc n) = elim (longer m n) [ inl low ↦ inl (omega (arith, low)) | inr high ↦ inr (omega (arith, high)) ]

      by : (length page ≤ length whole) ⊎ (length whole < length page) → ⊥
      by (inl low) = no_report_longer report whole lines reads low
      by (inr high) = no_report_shorter report whole lines reads high

  no_more : BeginsWith bytes (length page + 1) → ⊥
  no_more (longer, after, lines, long, begins) =
      let more = goes_on bytes page rest longer after stops.lines lines (omega (arith, long)) in
      let counts : length longer ≡ length page + length more.extra =
      ap (λ (all : List Words). length all) more.whole ∙ length-append page more.extra in
      let steps = (beginnings_end longer).0 begins in
      next_line more.extra after steps.0 more.between more.solid (omega (arith, long, counts))
      (on_from page more.extra there steps.0 stops.reads (subst (λ (all : List Words). Reads AtStart all steps.0) more.whole steps.1))

pub stops_at_malformed : StopsAtMalformed
stops_at_malformed bytes page rest there stops = record {
  none = no_report bytes page rest there stops;
  before = (length page, omega arith, (page, rest, stops.lines, refl, (beginnings_end page).1 (there, stops.reads)));
  here = no_more bytes page rest there stops;
}
