mod Stays
mod ByWord
mod Does
mod Scripts
mod Refused
mod Calls
mod Lawful
