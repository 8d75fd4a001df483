-- What the proofs of the moves use: when nothing bars a move, what it keeps of every processor, and facts about single
-- moves.
pub mod Allows
pub mod KeptStages
pub mod KeptEnds
pub mod KeptSidings
pub mod KeptMoves
pub mod KeptCalls
pub mod KeptServe
pub mod KeptTemplates
pub mod Guesses
pub mod Meetings
pub mod Riding
pub mod Sending
pub mod Entering
pub mod Returning
pub mod Exits
pub mod Served
pub mod Asked
