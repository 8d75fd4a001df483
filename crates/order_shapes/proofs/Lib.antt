pub mod KeptShapes
pub mod SameInstruction
