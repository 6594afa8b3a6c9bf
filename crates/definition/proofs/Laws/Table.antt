-- The cases marked *, that each number is given, the balance of the smallest lists, what one wrong severity changes, which alarms the headline
-- leaves aside, how raises are counted, which texts a raise may have, what a suppression's end does, and what a panel's block is, proved by
-- computation of the definition. Nothing cites them.
pub mod Calls
pub mod Shown
pub mod Computed
pub mod Stations
pub mod Key
pub mod Marked
pub mod EachNumber
pub mod RunMade
pub mod YearlyBalance
pub mod WrongSeverity
pub mod Headline
pub mod Raises
pub mod Characters
pub mod Suppressions
pub mod Panels
pub mod TwinRaises
