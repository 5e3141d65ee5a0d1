pub mod AnswerLines
pub mod EntriesRead
pub mod LinesRead
pub mod OpeningLinesRead
pub mod OpeningListsRead
pub mod OpeningsRead
pub mod RecordsRead
pub mod Recording
