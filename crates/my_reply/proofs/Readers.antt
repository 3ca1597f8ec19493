-- What a reader finds is what the relation of its packet says, a file for each packet.
pub mod ColumnCountLaws
pub mod ColumnLaws
pub mod EofLaws
pub mod ErrLaws
pub mod EventLaws
pub mod OkLaws
pub mod ReplyLaws
