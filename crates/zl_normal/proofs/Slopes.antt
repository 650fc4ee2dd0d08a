-- Slopes in the flows of a normal form.
pub mod FlowValues
pub mod Moving
pub mod StillUsed
pub mod MovingOperators
pub mod MovingForms
pub mod MovingPlaces
pub mod SlopeWires
pub mod SlopeOperators
pub mod SlopeForms
pub mod AllSlopes
pub mod NarrowSlopes
pub mod WideSlopes
pub mod SlopeFaults
pub mod FineSlopes
