-- The lines of an admitted file: its held keys, ascending, each once with its value, and then the two numbers.
--     lines_run              the lines of a reading from start to end
--     listed                 the claim over the held keys (`HeldLines`)
--     lists_same             a listing has one list of lines
-- Assumes nothing.
use Rattle.std.specs.Prelude.{◌≡◌, refl, List, [], ◌∷◌, ◌++◌, map, ℕ, suc, ◌+◌, ◌≤◌, length}
use Rattle.std.proofs.Common.{sym, ◌∙◌, ap, add-zero, arith}
use Rattle.format.specs.Limits.{max_path}
use Rattle.format.specs.Paths.{Fst, fst_of}
use Rattle.format.specs.Admitted.{Admitted}
use Rattle.format.specs.Strings.{unbounded}
use Rattle.reading.proofs.RunLaws.{counted_capped}
use Rattle.reading.specs.Demand.{Extra, one_more, no_more, Entry, capped}
use Rattle.reading.specs.WholeRun.{Whole}
use Rattle.reading.proofs.WholeLaws.{between_all}
use Rattle.plain.specs.Numbers.{TableFits}
use Rattle.plain.specs.Plain.{Plain, plain_with}
use Rattle.plain.specs.PlainRun.{RunsPlain, run_end, run_key, WholePlain}
use Rattle.plain.proofs.PlainRunLaws.{whole_plain}
use Rattle.listing.specs.HeldLines.{line_for, HeldLines}
use Rattle.listing_lines.specs.Lines.{end_line}
use Rattle.listing.specs.Listing.{State, state, more, last, line_of, Lists, last_line, line_more}

-- ---- the lines of a reading from start to end

lines_run : {s : List ℕ} {r r' : Plain} {es : List Entry} → RunsPlain s max_path r es r' → (n : ℕ)
    → Lists s (state r (capped n)) (map line_for es ++ (end_line (capped (n + length es)) r'.view.total ∷ []))
unfolding line_of
lines_run {r = r} (run_end {p' = r'} e) n =
    let z : n + 0 ≡ n = add-zero n in
    rw z (last_line {st = state r (capped n)} {st' = state r' (capped n)} (end_line (capped n) r'.view.total) (rw e))
lines_run {r = r} (run_key {p₁ = r₁} {es = es} e is rest) n =
    let z : n + 1 + length es ≡ n + suc (length es) = omega arith in
    line_more {st = state r (capped n)} {st' = state r₁ (capped (n + 1))} (line_for e) (rw is (ap (λ (k : ℕ). more (line_for e) (state r₁ k)) (counted_capped n))) (rw z at (lines_run rest (n + 1)))

-- ---- the claim

-- nothing passes where there is no upper bound
none_beyond : (f : Fst) (e : ℕ) → Extra f unbounded unbounded e → e ≡ 0
none_beyond f e (one_more x b) = elim b.1.1 [ ]
none_beyond f e (no_more h) = refl

-- with a table that has an entry for each byte and is as filled for the file, or of which no entry is read
pub listed : {s : List ℕ} (A : Admitted s) (c : List ℕ) → length s ≤ length c → TableFits (fst_of s A.meta) unbounded unbounded c → HeldLines A c
listed {s} A c long fits =
    let P : WholePlain A unbounded unbounded c max_path = whole_plain A unbounded unbounded (omega arith) (omega arith) c long fits max_path (omega arith) in
    let W : Whole A unbounded unbounded max_path = P.whole in
    let t = W.total (λ x. elim x.passes [ ]) in
    let z = none_beyond (fst_of s A.meta) t.1 t.3 in
    let m : t.0 + t.1 ≡ t.0 = omega (arith, z) in
    let n : W.last.total ≡ capped t.0 = t.4 ∙ ap capped m in
    let k : 0 + length W.entries ≡ length W.entries = omega arith in
    record {
      reading = plain_with W.reading (length W.entries);
      starts = P.starts;
      entries = W.entries;
      ascending = W.ascending;
      held = λ e on. (W.held e on).0;
      all = λ k v h. W.none_left k v h (between_all k);
      followed = t.0;
      number =
          record {
            strings = t.2.strings;
            rising = t.2.rising;
            such = λ x on. (t.2.such x on).0;
            all = λ x b. t.2.all x (b, between_all x);
            number = t.2.number;
          };
      lists = rw (k, n) at (lines_run P.runs 0);
    }

-- ---- one list of lines

more_not_last : {b c : List ℕ} {st st' : State} → ¬ (more b st ≡ last c st')
more_not_last e = let z : ◌≡◌ {A = ℕ} 0 1 = cc in omega arith

last_same : {b c : List ℕ} {st st' : State} → last b st ≡ last c st' → b ≡ c
last_same e = cc

more_same : {b c : List ℕ} {st st' : State} → more b st ≡ more c st' → (b ≡ c) × (st ≡ st')
more_same e = (cc, cc)

pub lists_same : {s : List ℕ} {st : State} {ls ls' : List (List ℕ)} → Lists s st ls → Lists s st ls' → ls ≡ ls'
lists_same (last_line b e) (last_line c d) = ap (λ (x : List ℕ). x ∷ []) (last_same (sym e ∙ d))
lists_same (last_line b e) (line_more c d q) = absurd (more_not_last (sym d ∙ e))
lists_same (line_more b e p) (last_line c d) = absurd (more_not_last (sym e ∙ d))
lists_same {s} (line_more {st' = st₁} {ls = ls₁} b e p) (line_more {st' = st₂} {ls = ls₂} c d q) =
    let w = more_same (sym e ∙ d) in
    let same : ls₁ ≡ ls₂ = lists_same p (rw (sym w.1) at q) in
    rw (w.0, same)
