-- What the answers of opening stand for: document 01's number and values for each case.
--     checksum_is c     the checksum, none in versions 1 and 2
--     meta_is m         what the file says
--     opening_is r      what opening answered
-- Assumes nothing.
use Rattle.std.proofs.Math.Option.{Option, none, some}
use Rattle.std.specs.Prelude.{Option as Maybe, Some, None, ℕ, Ok, Err, Result}
use Rattle.format.specs.declared.Refusal.{Refusal}
use Rattle.format.specs.Opening as F
use Rattle.format.specs.Opening.{Opening, opened, refused}
use Rattle.fst.specs.declared.Meta.{Meta}

abbrev pub checksum_is : Maybe ℕ → Option ℕ
checksum_is (Some n) = some n
checksum_is None = none

abbrev pub meta_is : Meta → F.Meta
meta_is m = record { version = m.version; ty = m.ty; len = m.len; root = m.root; checksum = checksum_is m.checksum }

abbrev pub opening_is : Result Meta Refusal → Opening
opening_is (Ok m) = opened (meta_is m)
opening_is (Err n) = refused n
