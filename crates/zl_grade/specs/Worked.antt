-- Worked forms with their grades.
pub mod StillOverMoving
pub mod MovingTimesStill
pub mod UpOfASquare
pub mod SquareInAState
