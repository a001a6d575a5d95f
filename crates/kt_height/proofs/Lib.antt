pub mod HeightFolds
