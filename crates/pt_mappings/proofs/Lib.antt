pub mod RoomLemmas
pub mod DisplayLemmas
