-- What carrying gives back, against the definition (crate carrying).
--     carried_is r, carried_plain_is r, carried_by_is r     what carrying answered: of the reading inside, of a plain reading, and of one by pattern
--     PatternedCarried q given r        the answer for a reading by pattern, where the definition answers q; the pattern is the one given
-- Assumes nothing.
use Rattle.std.specs.Prelude.{◌≡◌, Ok, Err, Result}
use Rattle.format.specs.declared.Refusal.{Refusal}
use Rattle.stream_start.specs.declared.Reading.{Reading}
use Rattle.stream_start.specs.Views.{view_is}
use Rattle.stream.specs.declared.Plain.{Plain}
use Rattle.stream.specs.Plains.{plain_is}
use Rattle.patterned.specs.declared.Patterned.{Patterned}
use Rattle.carrying.specs.Carry as C

abbrev pub carried_is : Result Reading Refusal → C.Carried
carried_is (Ok r) = C.Carried.carried (view_is r)
carried_is (Err n) = C.Carried.refused n

abbrev pub carried_plain_is : Result Plain Refusal → C.CarriedPlain
carried_plain_is (Ok p) = C.CarriedPlain.carried (plain_is p)
carried_plain_is (Err n) = C.CarriedPlain.refused n

abbrev pub carried_by_is : Result Patterned Refusal → C.Carried
carried_by_is (Ok x) = C.Carried.carried (view_is x.reading)
carried_by_is (Err n) = C.Carried.refused n

pub record PatternedCarried (q : C.Carried) (given : Patterned) (r : Result Patterned Refusal) : Type 0 where
  pub answer : carried_by_is r ≡ q
  pub pattern : (x : Patterned) → r ≡ Ok x → x.pattern ≡ given.pattern
