mod Turns
mod Shares
mod Joins
mod Ends
mod Gathered
