mod Order
mod Laws
mod Places
mod Answered
