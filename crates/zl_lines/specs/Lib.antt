-- The list of the definitions.
pub mod RoomForm
