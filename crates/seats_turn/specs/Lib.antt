pub mod SeatViews
pub mod SeatViewsLaws
