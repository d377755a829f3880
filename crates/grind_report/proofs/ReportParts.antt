-- The bytes of a report are those of its header, its blocks and its end.
use Rattle.std.proofs.Common.{◌≡◌, ℕ, ◌<◌, ◌^◌, List, [], ◌∷◌, ◌++◌, length, All, refl, sym, ap, ◌∙◌}
use Rattle.std.specs.List.{flat_map}
use Rattle.std.proofs.lemmas.Grind.{flat_map-append}
use Rattle.std.proofs.lemmas.List.{append-nil}
use Rattle.grind_report.specs.Report.{Block, Report, BlockFits, ReportOf, block_page, block_bytes, header_bytes, end_words, end_bytes, line_bytes, spelled, report_page}

blocks_bytes : (blocks : List Block) → spelled (flat_map block_page blocks) ≡ flat_map block_bytes blocks
blocks_bytes [] = refl
blocks_bytes (block ∷ blocks) =
    flat_map-append line_bytes (block_page block) (flat_map block_page blocks) ∙ ap (λ (bytes : List ℕ). block_bytes block ++ bytes) (blocks_bytes blocks)

report_bytes : (report : Report) → spelled (report_page report) ≡ header_bytes ++ (flat_map block_bytes report.blocks ++ end_bytes (length report.blocks))
report_bytes report =
    let last = end_words (length report.blocks) in
    let pages = flat_map block_page report.blocks in
    ap (λ (bytes : List ℕ). header_bytes ++ bytes)
    (flat_map-append line_bytes pages (last ∷ []) ∙ ap (λ (bytes : List ℕ). spelled pages ++ bytes) (append-nil (line_bytes last))
    ∙ ap (λ (bytes : List ℕ). bytes ++ line_bytes last) (blocks_bytes report.blocks))

-- blocks that fit make a report
pub report_of_parts : (blocks : List Block) → All BlockFits blocks → length blocks < 2 ^ 32
    → ReportOf (header_bytes ++ (flat_map block_bytes blocks ++ end_bytes (length blocks))) (record { blocks = blocks })
report_of_parts blocks fits few =
    (record { blocks = fits; block_count = few }, sym (report_bytes (record { blocks = blocks })))
