pub mod Layers
pub mod Same
pub mod Seen
pub mod SheetKind
pub mod SheetLaws
