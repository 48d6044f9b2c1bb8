-- Demand 3 is History's calls-cut and last-writer, over Step, one call; Answered has them of the answers of running code. Refusals is the
-- table of refusals, Numbers says that the kept numbers are all, Sound that calls leave no fault, Past what the past cannot touch, and
-- Nested that the nested layout holds the same coefficient probabilities.
pub mod Runs
pub mod Writes
pub mod Refusals
pub mod Step
pub mod History
pub mod Answered
pub mod Numbers
pub mod Sound
pub mod Past
pub mod Nested
