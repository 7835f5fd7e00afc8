pub mod OneHalf
