pub mod HalfUsed
mod LineSent
