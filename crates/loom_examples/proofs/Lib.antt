pub mod RowLemmas
pub mod ScriptLemmas
pub mod Tables
