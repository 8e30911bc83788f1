-- What the elementary functions are, and what is promised of them.
pub mod Root
pub mod RootPromise
pub mod RootSteps
pub mod Sine
pub mod SinePromise
pub mod FixedSteps
pub mod Arctangent
pub mod ArctangentSteps
pub mod ArctangentPromise
