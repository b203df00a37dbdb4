-- The premises of `carry_own` can be met: the file of the rows is admitted and can be converted, so that what is said of carried readings is not empty.
--     convertible_W      W1 can be converted
--     own_W              what `carry_own` says of it, after three calls, with nothing assumed
-- Assumes nothing.
use Rattle.std.specs.Prelude.{◌≡◌, refl, Bool, true, ◌&&◌, false, List, [], ◌∷◌, ℕ, zero, suc, ◌<◌, ltb, length, get_or}
use Rattle.std.proofs.Common.{ap, arith, ltb-true}
use Rattle.std.proofs.lemmas.Bool.{and_parts}
use Rattle.format.specs.Bytes.{bytes_of}
use Rattle.format.specs.Opening.{Meta}
use Rattle.format.specs.Strings.{unbounded}
use Rattle.converting.specs.Converting.{converted}
use Rattle.convert_rows.specs.Rows.{W1, meta_is, opens_W}
use Rattle.convert_rows.specs.RowsAdmitted.{admitted_W, vanished_W}
use Rattle.carrying_own.specs.CarryOwn.{own_calls, Convertible, CarryOwn}
use Rattle.carrying_own.specs.CarryOwnLaws.{own_calls_same, carry_own}

bytes_test : List ℕ → Bool
bytes_test [] = true
bytes_test (b ∷ bs) = ltb b 256 && bytes_test bs

all_bytes : (bs : List ℕ) → bytes_test bs ≡ true → (i : ℕ) → get_or bs i 0 < 256
unfolding bytes_test
all_bytes [] h i = omega arith
all_bytes (b ∷ bs) h zero = ltb-true b 256 (and_parts (ltb b 256) (bytes_test bs) h).0
all_bytes (b ∷ bs) h (suc i) = all_bytes bs (and_parts (ltb b 256) (bytes_test bs) h).1 i

bytes_W : bytes_test W1 ≡ true
unfolding bytes_test bytes_of
bytes_W = refl

version_W : admitted_W.meta.version ≡ 1
version_W =
    let o = admitted_W.opens in
    let p = opens_W in
    let is : admitted_W.meta ≡ meta_is 27 = cc in
    ap (λ (m : Meta). m.version) is

pub convertible_W : Convertible admitted_W
convertible_W = record { version_is = version_W; bytes = all_bytes W1 bytes_W; small = omega (arith, vanished_W.1.0) }

pub own_W : CarryOwn admitted_W unbounded unbounded (own_calls W1 (255 ∷ 255 ∷ 254 ∷ [])) (own_calls (converted admitted_W) (255 ∷ 255 ∷ 254 ∷ []))
own_W =
    carry_own admitted_W convertible_W unbounded unbounded (omega arith) (omega arith) (own_calls W1 (255 ∷ 255 ∷ 254 ∷ []))
    (own_calls (converted admitted_W) (255 ∷ 255 ∷ 254 ∷ [])) (own_calls_same W1 (converted admitted_W) (255 ∷ 255 ∷ 254 ∷ []))
