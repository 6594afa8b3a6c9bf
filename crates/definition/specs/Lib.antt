-- Document 01, in its order, as the requests of document 02 have amended it

-- "The call enters"
pub mod Limits
pub mod Value
pub mod Reader
pub mod Parse
pub mod Utf8
-- "Cause names"
pub mod White
pub mod Cause
-- "The key"
pub mod Key
-- "The register"
pub mod Chain
pub mod Book
pub mod Alarm
pub mod Slot
pub mod Record
pub mod Station
pub mod Opening
pub mod Sound
-- "Steps"
pub mod Steps
-- "Answer bytes"
pub mod Answer
pub mod Reports
pub mod Perform
pub mod Numbers
-- "Lists"
pub mod Lists
pub mod Twins
pub mod Mask
pub mod Panel
pub mod Claim
pub mod Balance
pub mod Reach
pub mod Lamps
-- the words of contracts inside the code
pub mod Clauses
