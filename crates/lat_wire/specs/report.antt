pub mod NoteText
pub mod ReportText
pub mod Noted
pub mod Rows
pub mod RefusedText
