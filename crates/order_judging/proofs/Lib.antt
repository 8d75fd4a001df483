pub mod LineParts
pub mod SameReplies
pub mod Placed
pub mod Judged
