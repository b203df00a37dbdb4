pub mod SeatCalls
