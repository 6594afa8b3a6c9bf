-- Twins stay twins, legal stations stay legal, stations that are near stay so; demand 3, the balance, the reach and the claim on lamps hold.
pub mod Blank
pub mod KeptLegal
pub mod TwinStations
pub mod MaskRegister
pub mod MaskAnswer
pub mod ReadTwins
pub mod TextLimits
pub mod ClaimHolds
pub mod LampsHold
pub mod BalanceHolds
pub mod NearStations
pub mod NearSteps
pub mod ReadApart
pub mod NearRegisters
pub mod ReachHolds
pub mod TwinSteps
