pub mod Said
pub mod ServeSaid
mod Cut
