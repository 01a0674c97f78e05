pub mod Played
pub mod LastTiles
pub mod Saves
pub mod Replayed
pub mod Rising
