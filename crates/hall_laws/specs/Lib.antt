-- What the entries of a history tell by themselves, and the laws over legal histories.
pub mod History
pub mod Parcels
