-- Steps on stations: what they keep, two of them side by side, what the code of one promises, and that none takes from an ended free chain.
pub mod LegalMoves
pub mod LegalSteps
pub mod ChangedLegal
pub mod Answers
pub mod StationBook
pub mod SoundStation
pub mod MoveSteps
pub mod SoundChains
pub mod Replies
pub mod SideBySide
pub mod PairedChains
pub mod Alike
pub mod AlikeSteps
pub mod Surplus
