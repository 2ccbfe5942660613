mod Clocks
mod Lengths
