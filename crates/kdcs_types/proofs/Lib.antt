mod AtPlaces
mod Numbers
mod Capacity
