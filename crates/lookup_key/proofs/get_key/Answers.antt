-- What opening and the search answered lead to an equation of `get_key`.
-- Assumes nothing.
use Rattle.std.proofs.Common.{◌≡◌, ◌≤◌, ℕ, List, ◌++◌, drop, length, arith, sym, ap, ◌∙◌}
use Rattle.std.specs.Prelude.{Ok, Err, Some, None}
use Rattle.format.specs.Limits.{max_path}
use Rattle.format.specs.declared.Refusal.{Refusal}
use Rattle.format.specs.Opening as O
use Rattle.format.specs.Paths.{fst_of}
use Rattle.format.specs.Lookup as L
use Rattle.format.specs.Lookup.{get_key, get_key_from}
use Rattle.format.specs.Laws.LookupLaws.{get_key_opened, get_key_blank, get_key_refused, get_key_space}
use Rattle.format.specs.Laws.OpeningLaws.{version_blank, version_some}
use Rattle.fst.specs.Open.{meta_is}
use Rattle.lookup_search.specs.KeyAnswers.{key_is, KeyFits}
use Rattle.lookup_key.proofs.KeyWritings.{written_none, written_refused, written_key}
use Rattle.lookup_key.proofs.get_key.Goals as goal

-- a file that opens and has bytes, with a buffer long enough, is searched from its root
searched : (file : List ℕ) (value len : ℕ) (m : O.Meta) → O.opened m ≡ O.opening file → max_path ≤ len → ¬ (m.version ≡ 0) → {r : L.KeyAnswer}
    → r ≡ get_key_from max_path (fst_of file m) m.root value → get_key file value len ≡ r
searched file value len m opens long some e = get_key_opened file value len m (sym opens) long (version_some file m (sym opens) some) ∙ sym e

-- the file does not open
pub returns-in_err-m : goal.returns-in_err-m
returns-in_err-m c =
    let a = c.args in
    let told : c.from_residual.result ≡ Err c.in_err-m.field-0.0 = grind arith in
    rw told (written_refused _ a.key.now _ (get_key_refused a.file.now a.value (length a.key.now) _ (sym c.in_err-m.ensures)))

-- the buffer is under 255 bytes: SPACE
pub returns-then-short : goal.returns-then-short
returns-then-short c =
    let a = c.args in
    written_refused _ a.key.now Refusal.Space (get_key_space a.file.now a.value (length a.key.now) (meta_is c.in_ok-m.m) (sym c.in_ok-m.ensures) c.if-short.true)

-- version 0: the file has no bytes
pub returns-then-m-eq0 : goal.returns-then-m-eq0
returns-then-m-eq0 c =
    let a = c.args in
    let m = meta_is c.in_ok-m.m in
    let opens : O.opening a.file.now ≡ O.opened m = sym c.in_ok-m.ensures in
    written_none _ a.key.now
    (get_key_blank a.file.now a.value (length a.key.now) m opens c.if-short.false (version_blank a.file.now m opens c.if-m-eq0.true))

-- the search is refused
pub returns-in_err-found : goal.returns-in_err-found
returns-in_err-found c =
    let a = c.args in
    let told : c.from_residual-in_err-found.result ≡ Err c.in_err-found.field-0.0 = grind arith in
    rw told
    (written_refused _ a.key.now _
    (searched a.file.now a.value (length a.key.now) (meta_is c.in_ok-m.m) c.in_ok-m.ensures c.if-short.false c.if-m-eq0.false
    (rw c.over.ensures at c.in_err-found.ensures.path_after)))

-- a key is found
pub returns-in-Some : goal.returns-in-Some
returns-in-Some c =
    let a = c.args in
    let path = c.find_key.new.path in
    let is : key_is (Ok (Some c.in-Some.n)) path ≡ get_key_from max_path (fst_of a.file.now (meta_is c.in_ok-m.m)) c.in_ok-m.m.root a.value
    = rw (c.over.ensures, c.in-Some.is) at c.in_ok-found.ensures.path_after in
    let fits : KeyFits (Ok (Some c.in-Some.n)) path = rw c.in-Some.is at c.in_ok-found.ensures.key_fits in
    written_key _ path a.key.now _ _
    (searched a.file.now a.value (length a.key.now) (meta_is c.in_ok-m.m) c.in_ok-m.ensures c.if-short.false c.if-m-eq0.false is)
    (omega (arith, fits.len, fits.fits)) (ap (λ l. l ++ drop c.in-Some.n a.key.now) c.copy_from_slice.ensures.after)

-- no key is found
pub returns-in_default : goal.returns-in_default
returns-in_default c =
    let a = c.args in
    let is : key_is (Ok None) c.find_key.new.path ≡ get_key_from max_path (fst_of a.file.now (meta_is c.in_ok-m.m)) c.in_ok-m.m.root a.value
    = rw (c.over.ensures, c.in_default.is) at c.in_ok-found.ensures.path_after in
    rw c.in_default.is
    (written_none _ a.key.now
    (searched a.file.now a.value (length a.key.now) (meta_is c.in_ok-m.m) c.in_ok-m.ensures c.if-short.false c.if-m-eq0.false is))
