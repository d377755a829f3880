pub mod Clauses
pub mod Orders
pub mod CountLemmas
pub mod ValueLemmas
