pub mod LineAgain
pub mod Places
pub mod ReadLaws
pub mod Same
pub mod Scans
pub mod TileAgain
