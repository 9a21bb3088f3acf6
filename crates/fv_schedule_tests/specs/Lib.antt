pub mod TwoLoops
