pub mod RunLines
pub mod RunHeads
pub mod RunParts
pub mod RunRanges
pub mod SpaceLaws
pub mod UsualLines
