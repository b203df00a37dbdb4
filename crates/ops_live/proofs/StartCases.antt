-- The start of a reading of a page, against `R.start`.
--     begins_unopened, begins_bound     the refusals before the walk
--     blank_told, short_both            what the walk asks for
--     start_halted, begins_to           what it comes to
-- Assumes nothing.
use mathlib.Core.Path.{◌≡◌, refl, sym, ap₂, subst, ◌∙◌}
use Rattle.format.specs.declared.Refusal.{Refusal}
use mathlib.Core.Bool.{true, false}
use mathlib.Core.Option.{Option}
use mathlib.Core.List.{List}
use Prim.Native.Nat.{ℕ, ◌-◌, ◌≤◌}
use lib.Dec.{leb}
use lib.ListN.{length, drop}
use Rattle.buffers.specs.DecideLaws.{decides_and, decides_le}
use Rattle.format.specs.Limits.{max_path, max_sum, BOUND}
use Rattle.format.specs.Opening as O
use Rattle.format.specs.Opening.{Meta, opening}
use Rattle.format.specs.Paths.{Fst, fst_with, fst_of}
use Rattle.format.specs.Strings.{Bound}
use Rattle.format.specs.Laws.OpeningLaws.{version_blank, version_some}
use Rattle.reading.specs.Reading as R
use Rattle.reading.specs.Reading.{Level, got, bounds_test, bound_bytes, start, started}
use Rattle.stream_start.specs.Views.{stack_is, stack_of, empty_is}
use Rattle.stream_start.specs.StackLaws.{stack_length}
use Rattle.stream_start.specs.Starts.{BlankTold, pending_from, walk_from, reading_at, start_from}
use Rattle.stream_start.specs.StartLaws.{start_opened, from_reading, reading_halted, reading_levels}
use Rattle.range_bound.specs.Besides.{Beside}
use Rattle.range_node.specs.Entries.{SoundTo}
use Rattle.range_turn.specs.StartStateLaws.{start_state, start_sound, stack_sound}
use Rattle.range_fill.specs.RangedRows.{OpensAs, Ready, view_from}
use Rattle.ops_live.specs.declared.Live.{Live}
use Rattle.ops_live.specs.Lives.{BeginsTo}

module _ (s : List ℕ) (lo hi : Bound) where
  pub begins_unopened : (n : Refusal) → opening s ≡ O.Opening.refused n → start s lo hi ≡ R.Started.refused n
  unfolding start
  begins_unopened n e = rw e

  pub begins_bound : (m : Meta) → opening s ≡ O.opened m → bounds_test lo hi ≡ false → start s lo hi ≡ R.Started.refused BOUND
  unfolding start
  begins_bound m opens e = rw (opens, e)

pub short_both : (lo hi : Bound) → bounds_test lo hi ≡ true → (length (bound_bytes lo) ≤ max_path) × (length (bound_bytes hi) ≤ max_path)
short_both lo hi short =
    (decides_and (leb (length (bound_bytes lo)) max_path) (leb (length (bound_bytes hi)) max_path) (decides_le (length (bound_bytes lo)) max_path)
    (decides_le (length (bound_bytes hi)) max_path)).yes short

module _ {s : List ℕ} {version root : ℕ} (o : OpensAs s version root) where
  pub blank_told : BlankTold s version
  blank_told = record {
    blank = λ z. version_blank s o.meta o.opens (o.version_is ∙ z);
    some = λ ne. version_some s o.meta o.opens (λ z. ne (sym o.version_is ∙ z));
  }

  module _ (lo hi : Bound) (short : bounds_test lo hi ≡ true) (empty : Option ℕ) (pending : empty ≡ pending_from (fst_with s version root) lo) where
    abbrev f : Fst
    f = fst_with s version root

    abbrev n : ℕ
    n = length (bound_bytes hi)

    start_is : R.start s lo hi ≡ reading_at (length s) hi n empty (walk_from f lo)
    start_is =
        start_opened s lo hi o.meta o.opens
        ∙ ap₂ (λ (v r : ℕ). start_from (fst_with s v r) lo hi) o.version_is o.root_is
        ∙ sym (from_reading f lo hi short hi n empty (walk_from f lo) refl refl pending refl)

    pub start_halted : (k : Refusal) → R.Sought.halted k ≡ walk_from f lo → R.start s lo hi ≡ R.Started.refused k
    start_halted k e = start_is ∙ sym (reading_halted (length s) hi n empty k e)

    start_began : (levels : List Level) → got levels ≡ walk_from f lo → R.start s lo hi ≡ started (view_from (length s) hi n empty levels)
    start_began levels e = start_is ∙ sym (reading_levels (length s) hi n empty levels e)

    -- each level is that of a node that the start judged
    start_ready : (k : ℕ) (xs is ps os : List ℕ) → got (stack_is k xs is ps os) ≡ walk_from f lo → Ready s version root k xs hi
    start_ready k xs is ps os e =
        let r = view_from (length s) hi n empty (stack_is k xs is ps os) in
        let began = start_began (stack_is k xs is ps os) e in
        record {
          opens = o;
          few = rw (stack_length k xs is ps os) at (start_state s lo hi r began).few;
          sounds =
              subst (λ (v : ℕ). SoundTo (fst_with s v root) xs k) o.version_is
              (subst (λ (x : ℕ). SoundTo (fst_with s o.meta.version x) xs k) o.root_is
              (stack_sound (fst_of s o.meta) k xs is ps os (start_sound s lo hi r o.meta o.opens began)));
          short = (short_both lo hi short).1;
        }

-- the reading that the walk leaves
pub begins_to : (s : List ℕ) (lo hi : Bound) (l : Live) → OpensAs s l.version l.root → bounds_test lo hi ≡ true → empty_is l.empty ≡ pending_from (fst_with s l.version l.root) lo
    → l.keys ≡ max_sum → got (stack_of l.levels l.stack) ≡ walk_from (fst_with s l.version l.root) lo
    → Beside hi (bound_bytes hi) (drop 1 l.stack.inps) (l.levels - 1) l.standing.same l.standing.over → BeginsTo s hi l (start s lo hi)
begins_to s lo hi l o short pending keys walked beside =
    record {
      is = start_began o lo hi short (empty_is l.empty) pending (stack_of l.levels l.stack) walked;
      fit = record {
        ready = start_ready o lo hi short (empty_is l.empty) pending l.levels l.stack.addrs l.stack.inps l.stack.trans l.stack.outs walked;
        beside = beside;
      };
      keys = keys;
    }

-- so few levels
pub levels_few : (s : List ℕ) (lo hi : Bound) (version root k : ℕ) (xs is ps os : List ℕ) → OpensAs s version root → bounds_test lo hi ≡ true
    → got (stack_is k xs is ps os) ≡ walk_from (fst_with s version root) lo → k ≤ 256
levels_few s lo hi version root k xs is ps os o short walked = (start_ready o lo hi short (pending_from (fst_with s version root) lo) refl k xs is ps os walked).few
