pub mod Books
pub mod FileText
