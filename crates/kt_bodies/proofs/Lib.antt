pub mod TreeFolds
