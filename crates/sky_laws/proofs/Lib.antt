mod WorkedLines
mod WorkedForms
mod WorkedMoments
pub mod WorkedScripts
mod WorkedClock
mod WorkedDrops
mod WorkedConsumers
mod WorkedRetries
mod WorkedRotations
mod WorkedNodes
mod WorkedOpening
mod WorkedRows
mod WorkedBatches
mod WorkedLives
pub mod LeastBadWord
pub mod BadWordLaw
pub mod OrderById
mod DueMoments
mod QueuesInUse
pub mod PendingOwners
pub mod PlainStatements
pub mod SwitchingCalls
pub mod OwnedPuts
pub mod PendingCalls
pub mod PendingSwitches
pub mod Periods
pub mod MadeSwitches
pub mod RotationLaws
pub mod FinishedBatches
pub mod EventsOnce
pub mod Listings
pub mod WereActive
pub mod RowLaws
pub mod Staying
mod HomeLaws
pub mod LockLaws
pub mod NodeLaws
pub mod WritableTables
pub mod Writers
pub mod WriteOrder
pub mod Subscriptions
pub mod RetryLaws
pub mod RetryMoments
pub mod RetriesListed
pub mod ListedOnce
pub mod BusyQueues
pub mod EventIds
pub mod WritesTold
pub mod IdsFollowWrites
mod WorkedWrites
mod WorkedTriggers
mod WorkedWorkers
mod WorkedCopies
mod WorkedApplies
mod WorkedReplays
