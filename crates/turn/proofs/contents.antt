-- What content comes to, turn by turn.

-- every turn goes on, and not past the end; so content is its first turn and then content
pub mod TurnsAdvance
-- what a turn comes to, by what is seen
pub mod TurnsSeen
