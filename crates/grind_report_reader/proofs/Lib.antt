pub mod NumeralLemmas
