-- From what judging all nodes ensures to what admission answers.
--     AllJudged s ..      a file that opens, tables with room, cleared, and the nodes judged with the verdict v
--     judged_admits, judged_refused     the two ways out: as judged, and with both tables wiped
-- Assumes nothing.
use mathlib.Core.Path.{◌≡◌, refl, sym, ap, ◌∙◌, subst}
use Rattle.std.specs.Prelude.{Ok, Err, Result, ⊤}
use Rattle.std.specs.Result.{is_err}
use Rattle.std.proofs.Common.{true, false, true≢false}
use Rattle.format.specs.declared.Refusal.{Refusal}
use mathlib.Core.Logic.{◌⊎◌}
use mathlib.Core.List.{List}
use Prim.Native.Nat.{ℕ, ◌≤◌, ◌<◌}
use native.Mathlib.Decide.{ℕ_discrete}
use native.Mathlib.Omega.{arith}
use lib.ListN.{length}
use Rattle.format.specs.Limits.{SPACE}
use Rattle.format.specs.Opening.{opening}
use Rattle.format.specs.Laws.OpeningLaws.{blank_root, root_inside}
use Rattle.format.specs.Paths.{Fst, fst_of}
use Rattle.fst.specs.declared.Meta.{Meta}
use Rattle.fst.specs.Open.{meta_is, opening_is}
use Rattle.admission_node.specs.Entries.{Kept}
use Rattle.format.specs.Paths.{fst_with}
use Rattle.admission.specs.Outcome.{Holds, Wiped, RefusedFor, not_opened, no_space, no_nodes, too_deep, too_heavy, Admits, Outcome, Opens, Cleared, JudgeRefused, JudgeCase, Judges}
use Rattle.admission_node.specs.KeptLaws.{kept_then}
use Rattle.admission.specs.WipingLaws.{length_wiped, wiped_kept, wiped_at, wiped_after}

-- ---- refused before the tables are touched

pub space_refused : {s : List ℕ} {v root : ℕ} (d₀ s₀ : List ℕ) → Opens s v root → (length d₀ < length s) ⊎ (length s₀ < length s) → RefusedFor s d₀ s₀ d₀ s₀ SPACE
space_refused d₀ s₀ o short = no_space o.meta o.opens refl short refl refl

module _ {s : List ℕ} {r : Result Meta Refusal} (e : opening_is r ≡ opening s) where
  pub opening_refused : (d₀ s₀ : List ℕ) (n : Refusal) → r ≡ Err n → RefusedFor s d₀ s₀ d₀ s₀ n
  opening_refused d₀ s₀ n is = not_opened (sym e ∙ ap opening_is is) refl refl

  pub opening_opens : (m : Meta) → r ≡ Ok m → Opens s m.version m.root
  opening_opens m is = record { meta = meta_is m; opens = sym e ∙ ap opening_is is; version = refl; root_is = refl }

-- ---- refused with tables wiped, or admitted

pub wiped_cleared : {s d t : List ℕ} {v root : ℕ} (d₀ s₀ : List ℕ) → Opens s v root → length s ≤ length d₀ → length s ≤ length s₀
    → Wiped (length s) d₀ d → Wiped (length s) s₀ t → Cleared s d t root
wiped_cleared {s} {d} {t} d₀ s₀ o rd rs wd ws =
    record {
      root_inside = λ ne.
          elim (ℕ_discrete (length s) 0) [
            | yes z ↦ absurd (ne (omega (arith, o.root_is, blank_root s o.meta o.opens z)))
            | no z ↦ omega (arith, o.root_is, root_inside s o.meta o.opens (omega arith))
          ];
      room_depths = omega (arith, length_wiped (length s) d₀ d rd wd);
      room_sums = omega (arith, length_wiped (length s) s₀ t rs ws);
      depths = wiped_at (length s) d₀ d wd;
      sums = wiped_at (length s) s₀ t ws;
    }

pub record AllJudged (s : List ℕ) (version root : ℕ) (d₀ s₀ d₁ s₁ d t : List ℕ) (v : Result ⊤ Refusal) : Type 0 where
  pub open_file : Opens s version root
  pub room_depths : length s ≤ length d₀
  pub room_sums : length s ≤ length s₀
  pub depths_wiped : Wiped (length s) d₀ d₁
  pub sums_wiped : Wiped (length s) s₀ s₁
  pub judged : Judges (fst_with s version root) d₁ s₁ d t v

opens_fst : {s : List ℕ} {v root : ℕ} (o : Opens s v root) → fst_with s v root ≡ fst_of s o.meta
opens_fst o = rw (o.version, o.root_is)

holds_after : {g : ℕ → ℕ} {P : ℕ → Type 0} {n : ℕ} {d₀ d₁ d : List ℕ} → Kept n d₀ d₁ → Holds g P n d₁ d → Holds g P n d₀ d
holds_after k h = record { on = h.on; off = h.off; kept = kept_then k h.kept }

module _ {s : List ℕ} {version root : ℕ} {d₀ s₀ d₁ s₁ d t : List ℕ} {v : Result ⊤ Refusal} (j : AllJudged s version root d₀ s₀ d₁ s₁ d t v) where
  depths_cleared : Kept (length s) d₀ d₁
  depths_cleared = wiped_kept (length s) d₀ d₁ j.room_depths j.depths_wiped

  sums_cleared : Kept (length s) s₀ s₁
  sums_cleared = wiped_kept (length s) s₀ s₁ j.room_sums j.sums_wiped

  pub depths_kept : Kept (length s) d₀ d
  depths_kept = kept_then depths_cleared j.judged.depths_kept

  pub sums_kept : Kept (length s) s₀ t
  sums_kept = kept_then sums_cleared j.judged.sums_kept

  -- what was found, of the file as it opens
  case : (w : Result ⊤ Refusal) → v ≡ w → JudgeCase (fst_of s j.open_file.meta) d₁ s₁ d t w
  case w e =
      subst (λ x. JudgeCase (fst_of s j.open_file.meta) d₁ s₁ d t x) e
      (subst (λ (f : Fst). JudgeCase f d₁ s₁ d t v) (opens_fst j.open_file) j.judged.found)

  good_admits : v ≡ Ok tt → Admits s d₀ s₀ d t
  good_admits e =
      let g = case (Ok tt) e in
      record {
        admitted =
            record {
              meta = j.open_file.meta;
              nodes = g.nodes;
              opens = j.open_file.opens;
              chained = g.chained;
              shallow = g.shallow;
              light = g.light;
            };
        room_depths = j.room_depths;
        room_sums = j.room_sums;
        depths = holds_after depths_cleared g.depths;
        sums = holds_after sums_cleared g.sums;
      }

  -- a file with a wrong node, and both tables wiped
  wrong_refused : {d' t' : List ℕ} (n : Refusal) → Wiped (length s) d d' → Wiped (length s) t t' → v ≡ Err n → RefusedFor s d₀ s₀ d' t' n
  wrong_refused {d'} {t'} n wiped_d wiped_t e = by (case (Err n) e)
    where
      wd : Wiped (length s) d₀ d'
      wd = wiped_after depths_kept wiped_d

      ws : Wiped (length s) s₀ t'
      ws = wiped_after sums_kept wiped_t

      by : JudgeRefused (fst_of s j.open_file.meta) n → RefusedFor s d₀ s₀ d' t' n
      by (JudgeRefused.lost is none) = no_nodes j.open_file.meta j.open_file.opens j.room_depths j.room_sums is none wd ws
      by (JudgeRefused.deep is l nodes long) = too_deep j.open_file.meta l j.open_file.opens j.room_depths j.room_sums is nodes long wd ws
      by (JudgeRefused.heavy is l nodes shallow large) =
          too_heavy j.open_file.meta l j.open_file.opens j.room_depths j.room_sums is nodes shallow large wd ws

  pub judged_admits : is_err v ≡ false → Outcome s d₀ s₀ d t v
  judged_admits sound = go v refl sound
    where
      go : (w : Result ⊤ Refusal) → v ≡ w → is_err w ≡ false → Outcome s d₀ s₀ d t v
      go (Ok tt) is e = subst (λ x. Outcome s d₀ s₀ d t x) (sym is) (good_admits is)
      go (Err n) is e = absurd (true≢false e)

  pub judged_refused : {d' t' : List ℕ} → Wiped (length s) d d' → Wiped (length s) t t' → is_err v ≡ true → Outcome s d₀ s₀ d' t' v
  judged_refused {d'} {t'} wiped_d wiped_t wrong = go v refl wrong
    where
      go : (w : Result ⊤ Refusal) → v ≡ w → is_err w ≡ true → Outcome s d₀ s₀ d' t' v
      go (Ok tt) is e = absurd (true≢false (sym e))
      go (Err n) is e = subst (λ x. Outcome s d₀ s₀ d' t' x) (sym is) (wrong_refused n wiped_d wiped_t is)
