pub mod Entries
pub mod Counts
pub mod Located
pub mod Placed
pub mod HeadersRead
pub mod SectionsRead
pub mod SymbolsRead
pub mod Views
