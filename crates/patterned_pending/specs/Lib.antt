pub mod PendingWalks
