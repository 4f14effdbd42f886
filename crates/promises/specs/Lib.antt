-- What is promised: a run made of calls of the functions, and the examples.
pub mod Functions
pub mod Examples
