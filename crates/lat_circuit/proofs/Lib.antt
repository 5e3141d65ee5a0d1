mod Numbers
mod Texts
mod Runs
mod LinkSteps
pub mod StepsThen
pub mod Messages
pub mod Hears
pub mod Sending
pub mod Packs
pub mod Sends
pub mod Agreeing
pub mod HeardStarts
pub mod Answering
pub mod HeardRun
pub mod HeardParts
pub mod Holding
