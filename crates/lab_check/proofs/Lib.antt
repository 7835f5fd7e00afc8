mod Later
mod Taken
