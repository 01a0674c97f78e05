pub mod Colours
pub mod Cuts
pub mod Damage
pub mod Sheets
pub mod ShownTexts
pub mod Typing
