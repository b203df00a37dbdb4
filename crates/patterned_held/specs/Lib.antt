pub mod HeldPatterns
