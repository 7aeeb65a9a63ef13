pub mod RunLaws
pub mod StandLaws
