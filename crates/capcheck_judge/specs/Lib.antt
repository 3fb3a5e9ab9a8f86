pub mod Handles
pub mod HeapAnswers
pub mod Holding
pub mod RunAnswers
pub mod RunHandles
pub mod RunPlaces
pub mod RunTakings
pub mod Takings
