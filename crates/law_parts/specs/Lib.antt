pub mod part_slots
pub mod plain_slots
pub mod act_parts
pub mod script_parts
