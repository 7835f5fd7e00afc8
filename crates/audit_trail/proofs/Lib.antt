mod Examples
mod Faults
mod Steps
mod Words
