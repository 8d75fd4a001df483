pub mod Beside
pub mod FilesRead
pub mod Overviews
pub mod Tops
