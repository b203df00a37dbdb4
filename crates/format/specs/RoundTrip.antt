-- A packed node reads back as its record: by the form of the node, and `RoundTrip` for every record.
pub mod ReadBack
pub mod RoundTripNext
pub mod RoundTripOne
pub mod RoundTripAny
pub mod RoundTrip
