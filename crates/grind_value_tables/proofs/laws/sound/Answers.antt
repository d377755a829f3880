use Rattle.grind_value_tables.proofs.SoundLines.{sound_lines}
use Rattle.grind_value_tables.proofs.laws.sound.Goals as goal

pub returns : goal.returns
returns c = sound_lines (record {
  differences = c.differences_have_their_values.ensures;
  poly_differences = c.poly_differences_have_their_values.ensures;
  multiples = c.multiples_have_their_values.ensures;
  forms_of_polys = c.forms_of_polys_have_their_values.ensures;
  cuts = c.cuts_stay_below.ensures;
  sums = c.sums_have_their_values.ensures;
  poly_sums = c.sums_have_their_values-2.ensures;
})
