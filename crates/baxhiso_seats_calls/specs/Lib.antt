pub mod SeatCCalls
pub mod SeatCCallsLaws
