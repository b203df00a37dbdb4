pub mod LevelWrites
