mod ReaderLemmas
mod TheoryLaws
