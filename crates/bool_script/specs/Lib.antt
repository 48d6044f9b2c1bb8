-- What the contracts cite: what a script's reads ask for, and where they leave a decoder (Script), the fresh decoder of an engine (Engines),
-- and the line that tells what the bare decoder answers (Line).
pub mod Script
pub mod Line
pub mod Engines
