-- Whether a reading can go on: at most 256 levels, a held bound of at most 255 bytes, and the length of the file that is lent.
-- Assumes nothing.
use Rattle.std.specs.Prelude.{Bool, ◌&&◌, ℕ, leb, eqb}
use Rattle.format.specs.Limits.{max_path, max_levels}

abbrev pub state_right : ℕ → ℕ → ℕ → ℕ → Bool
state_right levels bound_len held len = leb levels max_levels && (leb bound_len max_path && eqb held len)
