mod Eight
mod Failed
mod Grown
mod Neighbours
mod ShortItems
mod SetsSoFar
mod Short
