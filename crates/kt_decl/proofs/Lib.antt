pub mod ListSteps
pub mod MarkLemmas
pub mod SearchLemmas
pub mod RankLemmas
pub mod ClassSteps
pub mod AboveLemmas
pub mod RowLemmas
pub mod TableLemmas
