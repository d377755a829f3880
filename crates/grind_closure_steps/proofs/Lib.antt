mod StepLemmas
mod LawLemmas
