-- The types that walks name: numbers, lent slices and arrays of them, and the MIR type of a reference.
--     lent k R, given k R      a `&mut` and a `&` of the signature, at its lifetime k, or the pointer of such a slice of R
--     on R, seen R             the same of a reference that the function makes
-- Assumes nothing.
use Rattle.std.specs.Prelude.{ℕ}
use mir.Syntax.{w8, w64, Ty, ty_int, ty_ref, named, erased, mut, imm}
use Rattle.std.specs.Borrow.{RattleType, Array}
use denote.Memory.{pointee}
use denote.Plain.{UInt, Boolean}

abbrev pub word : Ty
word = ty_int w64

abbrev pub byte : Ty
byte = ty_int w8

abbrev pub Word : RattleType
Word = UInt w64

abbrev pub Byte : RattleType
Byte = UInt w8

abbrev pub lent : ℕ → RattleType → Ty
lent k R = ty_ref (named k) mut (pointee R.written)

abbrev pub given : ℕ → RattleType → Ty
given k R = ty_ref (named k) imm (pointee R.written)

abbrev pub on : RattleType → Ty
on R = ty_ref erased mut (pointee R.written)

abbrev pub seen : RattleType → Ty
seen R = ty_ref erased imm (pointee R.written)

-- ---- the arrays of 256

abbrev pub Words : RattleType
Words = Array Word 256

abbrev pub Bytes : RattleType
Bytes = Array Byte 256

abbrev pub Flags : RattleType
Flags = Array Boolean 256
