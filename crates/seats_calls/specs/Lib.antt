pub mod SeatEvents
pub mod SeatEventsLaws
