pub mod SeatsTable
