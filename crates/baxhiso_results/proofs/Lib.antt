mod AnswerResults
