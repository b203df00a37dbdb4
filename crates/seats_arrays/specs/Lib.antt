pub mod SeatArrays
pub mod SeatArraysLaws
