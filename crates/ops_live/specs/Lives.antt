-- What a reading of a page stands for, and its start and its step, against `R.start` and `next_plain` (crate plain).
--     no_live                      a reading that is still to be started
--     view_from f hi l t           what a reading l of the file f says, up to the bound hi, with the total t
--     kind_for hi, plain_of f hi l t     the plain reading that it stands for
--     Fit f hi l                   it can be gone on from: each level is that of a judged node
--     BeginsAs, OverAs             its start; its end
--     TurnTold                     a turn, against a call of next
--     StepGave                     a step, against a call of next on the plain reading
--     KeyPut                       the bytes of its key were put among the eight
--     AllStand fs n hi ls all      the first n readings ls stand for those of the cards all
-- Assumes nothing.
use Rattle.std.specs.Prelude.{◌≡◌, List, [], ℕ, ◌-◌, ◌<◌, length, drop, get_or, false, Ok, Err, Some, None, Result, Option, ⊤}
use Rattle.std.specs.declared.ops.Bound.{Bound}
use Rattle.std.specs.declared.ops.Bound.TheVariants.{Included, Excluded, Unbounded}
use Rattle.format.specs.declared.Refusal.{Refusal}
use Rattle.format.specs.Limits.{max_path, max_sum}
use Rattle.format.specs.Strings as S
use Rattle.format.specs.Strings.{unbounded, included, excluded}
use Rattle.reading.specs.Reading as R
use Rattle.reading.specs.Reading.{View, key, end, next, bound_bytes}
use Rattle.plain.specs.Plain.{next_plain}
use Rattle.stream_levels.specs.Stacks.{no_levels}
use Rattle.stream_start.specs.Views.{empty_is, stack_of}
use Rattle.stream_step.specs.declared.Step.{Step}
use Rattle.stream.specs.declared.Plain.{Plain}
use Rattle.stream.specs.Plains.{plain_is, CallGave}
use Rattle.range_bound.specs.Besides.{Beside}
use Rattle.range_fill.specs.RangedRows.{Ready}
use Rattle.ops_keys.specs.declared.Place.{Place}
use Rattle.ops_keys.specs.Heads.{BytesPut}
use Rattle.ops_round.specs.declared.Card.{Card}
use Rattle.ops_live.specs.declared.Live.{Live}

abbrev pub no_live : Live
no_live = record {
  version = 0;
  root = 0;
  empty = None;
  keys = 0;
  standing = record { same = 0; over = false };
  levels = 0;
  stack = no_levels;
}

-- ---- what it stands for

abbrev pub view_from : List ℕ → S.Bound → Live → ℕ → View
view_from f hi l t = record {
  len = length f;
  bound = hi;
  bound_len = length (bound_bytes hi);
  empty = empty_is l.empty;
  total = t;
  levels = stack_of l.levels l.stack;
}

abbrev pub kind_for : S.Bound → Bound ⊤
kind_for unbounded = Unbounded
kind_for (included b) = Included (record {})
kind_for (excluded b) = Excluded (record {})

abbrev pub plain_of : List ℕ → S.Bound → Live → ℕ → Plain
plain_of f hi l t = record {
  reading = record {
    len = length f;
    kind = kind_for hi;
    bound_len = length (bound_bytes hi);
    bound = bound_bytes hi;
    empty_output = l.empty;
    total = t;
    levels = l.levels;
    stack = l.stack;
  };
  keys = l.keys;
}

pub record Fit (f : List ℕ) (hi : S.Bound) (l : Live) : Type 0 where
  pub ready : Ready f l.version l.root l.levels l.stack.addrs hi
  pub beside : Beside hi (bound_bytes hi) (drop 1 l.stack.inps) (l.levels - 1) l.standing.same l.standing.over

-- ---- its start and its end

pub record BeginsTo (f : List ℕ) (hi : S.Bound) (l : Live) (w : R.Started) : Type 0 where
  pub is : w ≡ R.started (view_from f hi l 0)
  pub fit : Fit f hi l
  pub keys : l.keys ≡ max_sum

abbrev pub BeginsAs : List ℕ → S.Bound → Live → R.Started → Result ⊤ Refusal → Type 0
BeginsAs f hi l w (Ok u) = BeginsTo f hi l w
BeginsAs f hi l w (Err c) = w ≡ R.Started.refused c

pub record OverAs (l₀ l : Live) : Type 0 where
  pub version : l.version ≡ l₀.version
  pub root : l.root ≡ l₀.root
  pub keys : l.keys ≡ l₀.keys
  pub empty : l.empty ≡ None
  pub levels : l.levels ≡ 0
  pub same : l.standing.same ≡ 0
  pub over : l.standing.over ≡ false

-- ---- its step

-- what is answered for an answer of next
abbrev pub Answers : Result (Option ℕ) Refusal → R.Answer → Type 0
Answers (Ok (Some v)) a = (k : List ℕ) × (a ≡ key k v)
Answers (Ok None) a = a ≡ end
Answers (Err c) a = a ≡ R.Answer.refused c

-- the reading of a call of next is l, with some total
pub record GoesTo (f : List ℕ) (hi : S.Bound) (l₀ l : Live) (w : R.Step) : Type 0 where
  pub total : ℕ
  pub reading : w.reading ≡ view_from f hi l total
  pub fit : Fit f hi l
  pub keys : l.keys ≡ l₀.keys

abbrev pub Leaves : List ℕ → S.Bound → ℕ → Live → Live → R.Step → Result (Option ℕ) Refusal → Type 0
Leaves f hi t l₀ l w (Ok a) = GoesTo f hi l₀ l w
Leaves f hi t l₀ l w (Err c) = w.reading ≡ view_from f hi l₀ t

pub record TurnTold (f : List ℕ) (hi : S.Bound) (t : ℕ) (l₀ l : Live) (r : Result (Option ℕ) Refusal) : Type 0 where
  pub answer : Answers r (next f (view_from f hi l₀ t) max_path).answer
  pub leaves : Leaves f hi t l₀ l (next f (view_from f hi l₀ t) max_path) r

-- what is answered for the answer of a call
abbrev pub CallAnswers : Result (Option ℕ) Refusal → Result (Option (ℕ × ℕ)) Refusal → Type 0
CallAnswers (Ok (Some v)) a = (n : ℕ) × (a ≡ Ok (Some (n, v)))
CallAnswers (Ok None) a = a ≡ Ok None
CallAnswers (Err c) a = a ≡ Err c

pub record StandsFor (f : List ℕ) (hi : S.Bound) (l : Live) (p : Plain) : Type 0 where
  pub total : ℕ
  pub is : p ≡ plain_of f hi l total
  pub fit : Fit f hi l

abbrev pub StandsAfter : List ℕ → S.Bound → Live → Plain → Result (Option ℕ) Refusal → Type 0
StandsAfter f hi l p (Ok a) = StandsFor f hi l p
StandsAfter f hi l p (Err c) = ⊤

pub record StepGave (f : List ℕ) (hi : S.Bound) (t : ℕ) (l₀ l : Live) (r : Result (Option ℕ) Refusal) : Type 0 where
  pub call : Step Plain
  pub gave : CallGave (next_plain f (plain_is (plain_of f hi l₀ t)) max_path) call
  pub answer : CallAnswers r call.answer
  pub after : StandsAfter f hi l call.reading r

abbrev pub KeyPut : Live → ℕ → List ℕ → List ℕ → Place → Type 0
KeyPut l i ks₀ ks h = (f : List ℕ) (hi : S.Bound) (t : ℕ) → BytesPut (plain_of f hi l t) i ks₀ ks h

-- ---- the readings of a page

pub record AllStand (fs : List (List ℕ)) (n : ℕ) (hi : S.Bound) (ls : List Live) (all : List Card) : Type 0 where
  pub lives : length ls ≡ 8
  pub eight : length all ≡ 8
  pub at : (i : ℕ) (d : Live) (e : Card) → i < n → StandsFor (get_or fs i []) hi (get_or ls i d) (get_or all i e).reading
