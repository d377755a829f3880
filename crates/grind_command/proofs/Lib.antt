pub mod NotesLemmas
