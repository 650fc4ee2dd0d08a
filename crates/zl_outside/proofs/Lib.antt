pub mod CountLemmas
mod KnownReads
mod SinkLemmas
pub mod WriteLemmas
