-- The register as chains of opaque payloads: legal books, the check of one, and the four moves. For the code of `register`, `register_check`
-- and `model`, and for the laws of stations.
pub mod Occurrences
pub mod RecordAt
pub mod Split
pub mod LegalChange
pub mod Header
pub mod ChangedChain
pub mod Relink
pub mod TransferBytes
pub mod ReadBack
pub mod SoundNumbers
pub mod Transfer
pub mod Append
pub mod Release
pub mod Replace
pub mod Count
pub mod LinkPaths
pub mod Pigeonhole
pub mod CheckSound
pub mod CheckComplete
pub mod BookTests
pub mod CheckParts
pub mod LinkLoops
pub mod NextMove
pub mod Opening
pub mod Contents
