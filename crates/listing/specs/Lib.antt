pub mod Listing
pub mod HeldLines
pub mod ListingLaws
pub mod Lined
