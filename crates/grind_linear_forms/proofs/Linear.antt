-- The kit's facts on whole numbers, without those on products: each product is an unknown.
use borrow.Author.Differences.{fits_out, fits_in, same_out, Apart-out, lt_T, le_T, lt_not, le_not, lt-true, lt-false, le-true, le-false, lt_out, le_out, same_in, lt_in, le_in, below_in, at_most_in, sum_is_lem, neg_is}

pub ruleset linear = (fits_out, fits_in, same_out, Apart-out, lt_T, le_T, lt_not, le_not, lt-true, lt-false, le-true, le-false, lt_out, le_out, same_in, lt_in, le_in, below_in, at_most_in, sum_is_lem, neg_is)
