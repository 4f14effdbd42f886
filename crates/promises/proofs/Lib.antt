-- The promises, proved.
pub mod Functions
pub mod Entry
pub mod ExamplesCalls
pub mod ExamplesArrival
pub mod ExamplesJobs
pub mod ExamplesCuts
pub mod ExamplesHappen
pub mod Examples
pub mod Promises
