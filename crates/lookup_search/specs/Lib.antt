pub mod KeyAnswers
