-- What a job stores after its signature, and what a store changes of the image.
pub mod Stores
pub mod Storing
