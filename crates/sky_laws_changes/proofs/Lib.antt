pub mod WriteLists
pub mod Places
pub mod TableWrites
pub mod HeldValues
pub mod HeldRows
pub mod PlainMarks
pub mod RowMarks
pub mod Cuts
pub mod CutCalls
pub mod SetTriggers
pub mod ListedTables
pub mod ToldEvents
pub mod CutTells
pub mod Replays
pub mod StayingListed
pub mod TickPlaces
pub mod BatchLaws
mod WorkedChanges
