-- Moves at different sites can be made in either order.
pub mod Effects
pub mod Touches
pub mod Contents
pub mod Locals
pub mod Independent
pub mod Sites
