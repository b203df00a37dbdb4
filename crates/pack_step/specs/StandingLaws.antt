-- Laws of packing that stops at each finished node.
--     judged_list, -tables, -cells, -room, -sound      what is judged before the run
--     stands_refused, stands_next, stands_done     where packing stands
--     begin_refused, begin_started, begin_asked, begin_stands      the start
--     node_of_turn, node_asked_of, steps_next, steps_no_room      a node that is not the root
--     root_in_pair, steps_placed, steps_full     the root
-- Assumes nothing.
use Rattle.std.specs.Prelude.{◌≡◌, ⊤, Option, None, Some, Ok, Err, Result, refl, Bool, true, false, List, ℕ, ◌+◌, ◌*◌, ◌/◌, ◌%◌, ◌≤◌, ◌<◌, length, replicate}
use Rattle.std.proofs.Common.{sym, ap, ◌∙◌, subst, ⊎_elim, arith}
use Rattle.std.proofs.lemmas.List.{length-replicate}
use Rattle.format.specs.declared.Refusal.{Refusal}
use Rattle.format.specs.Packed.{BuilderNode}
use Rattle.format.specs.Limits.{LIST, SPACE}
use Rattle.packing.specs.Lists.{IsList, count_in, pairs_of}
use Rattle.packing.specs.Registry.{hash_of, row_of, intern}
use Rattle.packing.specs.Packing.{pack_nodes, refused, pack_answer}
use Rattle.packing.proofs.ListedLaws.{answer_list, answer_tables, answer_cells, answer_room}
use Rattle.packing.proofs.TrailerLaws.{length_file}
use Rattle.packing_rows.specs.WorkTables.{Tables}
use Rattle.pack_cell.specs.Cells.{empty}
use Rattle.pack_intern.specs.Interning.{cells_is, build_is, InternIs}
use Rattle.pack_intern.specs.declared.Placed.{Placed}
use Rattle.pack_close.specs.Closing.{node_from, CanFinish}
use Rattle.pack_close.specs.OpenNodes.{tables_of, no_open}
use Rattle.pack_close.specs.declared.Open.{Open}
use Rattle.pack_cell.specs.declared.Cell.{Cell}
use Rattle.pack_row.specs.Row.{put_pair, TakenFrom}
use Rattle.pack_row.specs.RowLaws.{row_ready, row_interned}
use Rattle.pack_run.specs.Running.{Blank, RunAt, Runs}
use Rattle.pack_blank.specs.PackBlank.{tables_test}
use Rattle.pack_blank.specs.PackBlankLaws.{sizes, zeros_again, blank_of}
use Rattle.pack_node.specs.declared.Due.{Due}
use Rattle.pack_node.specs.NodeSteps.{NodeAt, NodeAsked, NodeSteps}
use Rattle.pack_node.specs.NodeStepsLaws.{row_of_record, put_length}
use Rattle.pack_ahead.specs.declared.Way.{Way}
use Rattle.pack_ahead.specs.Ahead.{way_with, Underway, Started, GoesAhead, row_next, RowAsked}
use Rattle.pack_ahead.specs.AheadLaws.{underway_none, root_asked, root_done, row_asked}
use Rattle.pack_step.specs.declared.Turn.{Turn}
use Rattle.pack_step.specs.declared.Turn.TheVariants.{Next, Done}
use Rattle.pack_step.specs.Standing.{Sound, Judged, Going, Ended, ended_as, Standing, StepAsked, Steps}

-- ---- a result is one thing

err_ok : {A : Type 0} {why : Refusal} {a : A} → ¬ (◌≡◌ {A = Result A Refusal} (Err why) (Ok a))
err_ok e = let z : ◌≡◌ {A = ℕ} 0 1 = cc in omega arith

next_done : {n : Due} {p : Placed} → ¬ (◌≡◌ {A = Result Turn Refusal} (Ok (Next n)) (Ok (Done p)))
next_done e = let z : ◌≡◌ {A = ℕ} 0 1 = cc in omega arith

err_same : {A : Type 0} {k m : Refusal} → ◌≡◌ {A = Result A Refusal} (Err k) (Err m) → k ≡ m
err_same e = cc

next_same : {n m : Due} → ◌≡◌ {A = Result Turn Refusal} (Ok (Next n)) (Ok (Next m)) → n ≡ m
next_same e = cc

done_same : {p q : Placed} → ◌≡◌ {A = Result Turn Refusal} (Ok (Done p)) (Ok (Done q)) → p ≡ q
done_same e = cc

placed_same : {p q : Placed} → ◌≡◌ {A = Result Placed Refusal} (Ok p) (Ok q) → p ≡ q
placed_same e = cc

-- ---- before the run

module _ (s : List ℕ) (tables : Bool) (cells room : ℕ) where
  refused_first : {why : Refusal} → ((limit : ℕ) → pack_answer limit s tables cells room ≡ refused why) → Judged s tables cells room (Err why)
  refused_first f = record { sound = λ z. absurd (err_ok z); refuses = λ k z limit. f limit ∙ ap refused (err_same z) }

  pub judged_list : ¬ IsList s → Judged s tables cells room (Err LIST)
  judged_list no_list = refused_first (λ limit. answer_list limit s tables cells room no_list)

  pub judged_tables : IsList s → tables ≡ false → Judged s tables cells room (Err SPACE)
  judged_tables ok e = refused_first (λ limit. answer_tables limit s tables cells room ok e)

  pub judged_cells : IsList s → tables ≡ true → cells < 2 → Judged s tables cells room (Err SPACE)
  judged_cells ok e few = refused_first (λ limit. answer_cells limit s tables cells room ok e few)

  -- the output has no room for the nodes with the ends
  pub no_room : Sound s tables cells → room < 32 + length (pack_nodes (pairs_of s) cells).build.nodes → (limit : ℕ) → pack_answer limit s tables cells room ≡ refused SPACE
  no_room ok short limit =
      answer_room limit s tables cells room ok.list ok.fit ok.two (omega (arith, short, length_file (length (pairs_of s)) (pack_nodes (pairs_of s) cells)))

  pub judged_room : IsList s → tables ≡ true → 2 ≤ cells → room < 32 → Judged s tables cells room (Err SPACE)
  judged_room ok e two short = refused_first (no_room (record { list = ok; fit = e; two = two }) (omega arith))

  pub judged_sound : IsList s → tables ≡ true → 2 ≤ cells → 32 ≤ room → Judged s tables cells room (Ok tt)
  judged_sound ok e two long = record { sound = λ z. (record { list = ok; fit = e; two = two }, long); refuses = λ k z. absurd (err_ok (sym z)) }

  -- ---- where packing stands

  module _ {out : List ℕ} {table : List Cell} where
    ended_refused : {why : Refusal} → ((limit : ℕ) → pack_answer limit s tables cells room ≡ refused why) → Ended s tables cells room out table (Err why)
    ended_refused f = record { done = λ p z. absurd (err_ok z); refuses = λ k z limit. f limit ∙ ap refused (err_same z) }

    ended_done : (p : Placed) → Sound s tables cells × RunAt (pack_nodes (pairs_of s) cells) out table p.addr p.next → Ended s tables cells room out table (Ok p)
    ended_done p w = record {
      done = λ q z. subst (λ (k : Placed). Sound s tables cells × RunAt (pack_nodes (pairs_of s) cells) out table k.addr k.next) (placed_same z) w;
      refuses = λ k z. absurd (err_ok (sym z));
    }

    module _ {T : Tables} (long : length out ≡ room) (count : length table ≡ cells) where
      pub stands_refused : {why : Refusal} → ((limit : ℕ) → pack_answer limit s tables cells room ≡ refused why) → Standing s tables cells room out table T (Err why)
      stands_refused {why} f = record { long = long; count = count; on = λ n z. absurd (err_ok z); ended = go }
        where
          go : (r : Result Placed Refusal) → Err why ≡ ended_as r → Ended s tables cells room out table r
          go (Ok p) z = absurd (err_ok z)
          go (Err k) z = ended_refused (λ limit. f limit ∙ ap refused (err_same z))

      pub stands_next : (n : Due) → Going s tables cells out table T n → Standing s tables cells room out table T (Ok (Next n))
      stands_next n g = record { long = long; count = count; on = λ m z. subst (Going s tables cells out table T) (next_same z) g; ended = go }
        where
          go : (r : Result Placed Refusal) → Ok (Next n) ≡ ended_as r → Ended s tables cells room out table r
          go (Ok p) z = absurd (next_done z)
          go (Err k) z = absurd (err_ok (sym z))

      pub stands_done : (p : Placed) → Sound s tables cells × RunAt (pack_nodes (pairs_of s) cells) out table p.addr p.next → Standing s tables cells room out table T (Ok (Done p))
      stands_done p w = record { long = long; count = count; on = λ m z. absurd (next_done (sym z)); ended = go }
        where
          go : (r : Result Placed Refusal) → Ok (Done p) ≡ ended_as r → Ended s tables cells room out table r
          go (Ok q) z = ended_done q (subst (λ (k : Placed). Sound s tables cells × RunAt (pack_nodes (pairs_of s) cells) out table k.addr k.next) (done_same z) w)
          go (Err k) z = absurd (err_ok (sym z))

  pub begin_refused : {T : Tables} {r : Result ⊤ Refusal} {why : Refusal} → Judged s tables cells room r → r ≡ Err why
      → (out : List ℕ) (table : List Cell) → out ≡ replicate room 0 → table ≡ replicate cells empty → Standing s tables cells room out table T (Err why)
  begin_refused {why = why} j e out table o_is t_is = stands_refused (ap length o_is ∙ length-replicate room 0) (ap length t_is ∙ length-replicate cells empty) (j.refuses why e)

-- ---- the start

module _ (s : List ℕ) (cells room : ℕ) (inputs leasts targets : List ℕ) (o : Open)
    (sound : Sound s (tables_test (length inputs) (length leasts) (length targets)) cells) (long : 32 ≤ room) (none : o ≡ no_open) where
  at_start : (out : List ℕ) (table : List Cell) → out ≡ replicate room 0 → table ≡ replicate cells empty
      → Underway s cells out table (tables_of inputs leasts targets o) 16 (way_with 0 0 0)
  at_start out table o_is t_is =
      let lo : length out ≡ room = ap length o_is ∙ length-replicate room 0 in
      let lt : length table ≡ cells = ap length t_is ∙ length-replicate cells empty in
      let b : Blank out table = blank_of out table (zeros_again 0 room o_is) (zeros_again empty cells t_is) (omega (arith, sound.two, lt)) (omega (arith, long, lo)) in
      let z = sizes (length inputs) (length leasts) (length targets) sound.fit in
      rw none
      (subst (λ (n : ℕ). Underway s n out table (tables_of inputs leasts targets no_open) 16 (way_with 0 0 0)) lt
      (underway_none s out table b inputs leasts targets z.0 z.1 z.2))

  pub begin_started : Started s o (way_with 0 0 0)
  begin_started = record {
    cells = cells;
    out = replicate room 0;
    table = replicate cells empty;
    inputs = inputs;
    leasts = leasts;
    targets = targets;
    next = 16;
    underway = at_start (replicate room 0) (replicate cells empty) refl refl;
  }

  module _ {o' : Open} {w : Way} (go : GoesAhead s o (way_with 0 0 0) o' w) where
    after : (out : List ℕ) (table : List Cell) → out ≡ replicate room 0 → table ≡ replicate cells empty
        → Underway s cells out table (tables_of inputs leasts targets o') 16 w
    after out table o_is t_is = go.gone.on cells out table inputs leasts targets 16 (at_start out table o_is t_is)

    pub begin_asked : RowAsked cells w.depth (tables_of inputs leasts targets o')
    begin_asked = row_asked (after (replicate room 0) (replicate cells empty) refl refl) sound.two

    pub begin_stands : {row : ℕ} → (row ≡ 2 * (hash_of (row_next (tables_of inputs leasts targets o') w.depth) % (cells / 2))) × (row + 1 < cells)
        → (out : List ℕ) (table : List Cell) → out ≡ replicate room 0 → table ≡ replicate cells empty
        → Standing s (tables_test (length inputs) (length leasts) (length targets)) cells room out table (tables_of inputs leasts targets o')
        (Ok (Next (record { next = 16; way = w; row = row })))
    begin_stands row out table o_is t_is =
        stands_next s (tables_test (length inputs) (length leasts) (length targets)) cells room (ap length o_is ∙ length-replicate room 0) (ap length t_is ∙ length-replicate cells empty) _
        (record {
          sound = sound;
          underway = after out table o_is t_is;
          node = go.stops;
          row = row.0;
          within = row.1;
        })

-- ---- a step

module _ (pair : List Cell) {s : List ℕ} {cells : ℕ} {out : List ℕ} {T : Tables} {n : Due} {tables : Bool} {table : List Cell}
    (st : Standing s tables cells (length out) out table T (Ok (Next n))) (taken : TakenFrom table n.row pair) where
  G : Going s tables cells out table T n
  G = st.on n refl

  u : Underway s cells out table T n.next n.way
  u = G.underway

  pub node_of_turn : NodeAt s cells out table T n.next n.way n.row
  node_of_turn = record {
    list = G.sound.list;
    two = G.sound.two;
    count = st.count;
    underway = u;
    node = G.node;
    row_is = G.row;
    within = G.within;
  }

  -- ---- the root

  module _ (top : n.way.depth ≡ 0) where
    none_left : count_in s ≤ n.way.keys
    none_left = ⊎_elim (λ l. absurd (omega arith)) (λ l. l) G.node

    abbrev node : BuilderNode
    node = node_from T 0 0

    F : CanFinish out n.next table T 0 0
    F = root_asked u G.sound.list G.sound.two top none_left

    pub root_in_pair : CanFinish out n.next pair T 0 0
    root_in_pair = record {
      ready = row_ready out n.next table n.row pair F.ready taken;
      fits = F.fits;
      low = F.low;
      few = F.few;
      inputs_long = F.inputs_long;
      leasts_long = F.leasts_long;
      targets_long = F.targets_long;
      high = F.high;
      value_high = F.value_high;
    }

    root_row : n.row ≡ row_of (cells_is table) node
    root_row = row_of_record node_of_turn node (ap (row_next T) top)

    module _ (back : List Cell) {out' : List ℕ} {p : Option Placed} (w : InternIs (intern (build_is out n.next pair) node) n.next out' back p) (same : length out' ≡ length out) where
      runs : Runs (pack_nodes (pairs_of s) cells) out' (put_pair table n.row back) p
      runs = root_done u G.sound.list G.sound.two top none_left (row_interned out n.next table n.row pair F.ready taken node root_row w)

      root_count : length (put_pair table n.row back) ≡ cells
      root_count = put_length table n.row back ∙ st.count

      pub root_stands : {T' : Tables} (at : Placed) → p ≡ Some at → Standing s tables cells (length out) out' (put_pair table n.row back) T' (Ok (Done at))
      root_stands at p_is = stands_done s tables cells (length out) same root_count at (G.sound, runs.at at p_is)

      pub root_full : {T' : Tables} → p ≡ None → Standing s tables cells (length out) out' (put_pair table n.row back) T' (Err SPACE)
      root_full f = stands_refused s tables cells (length out) same root_count (no_room s tables cells (length out) G.sound (omega (arith, runs.full f, same)))

module _ {s : List ℕ} {cells : ℕ} {out : List ℕ} {pair : List Cell} {T : Tables} {n : Due} (top : n.way.depth ≡ 0) (back : List Cell) {out' : List ℕ} {T' : Tables} {p : Option Placed}
    (w : InternIs (intern (build_is out n.next pair) (node_from T 0 0)) n.next out' back p)
    (same : length out' ≡ length out) where
  pub steps_placed : (at : Placed) → p ≡ Some at → Steps s cells out pair T n out' back T' (Ok (Done at))
  steps_placed at e = record { stands = λ tables table st taken. root_stands pair st taken top back w same at e; less = omega arith }

  pub steps_full : p ≡ None → Steps s cells out pair T n out' back T' (Err SPACE)
  steps_full e = record { stands = λ tables table st taken. root_full pair st taken top back w same e; less = omega arith }

-- ---- a node that is not the root

pub node_asked_of : {s : List ℕ} {cells : ℕ} {out : List ℕ} {pair : List Cell} {T : Tables} {n : Due} → StepAsked s cells out pair T n → 0 < n.way.depth
    → NodeAsked s cells out pair T n.next n.way
node_asked_of {pair = pair} {n = n} a l = record { table = a.table; row = n.row; at = node_of_turn pair a.standing a.taken; taken = a.taken; low = l }

module _ {s : List ℕ} {cells : ℕ} {out : List ℕ} {pair : List Cell} {T : Tables} {n : Due} {out' : List ℕ} {back : List Cell} {T' : Tables} {m : Option Due}
    (w : NodeSteps s cells out pair T n.next n.way out' back T' m) (same : length out' ≡ length out) where
  module _ (tables : Bool) (table : List Cell) (st : Standing s tables cells (length out) out table T (Ok (Next n))) (taken : TakenFrom table n.row pair) where
    g : Going s tables cells out table T n
    g = st.on n refl

    count' : length (put_pair table n.row back) ≡ cells
    count' = put_length table n.row back ∙ st.count

    full_stands : m ≡ None → Standing s tables cells (length out) out' (put_pair table n.row back) T' (Err SPACE)
    full_stands d =
        let short = w.full d table n.row (node_of_turn pair st taken) taken in
        stands_refused s tables cells (length out) same count' (no_room s tables cells (length out) g.sound (omega (arith, short, same)))

    next_stands : (k : Due) → m ≡ Some k → Standing s tables cells (length out) out' (put_pair table n.row back) T' (Ok (Next k))
    next_stands k d =
        let A = w.at k d table n.row (node_of_turn pair st taken) taken in
        stands_next s tables cells (length out) same count' k
        (record {
          sound = g.sound;
          underway = A.underway;
          node = A.node;
          row = A.row_is;
          within = A.within;
        })

  pub steps_next : (k : Due) → m ≡ Some k → Steps s cells out pair T n out' back T' (Ok (Next k))
  steps_next k d = record {
    stands = λ tables table st taken. next_stands tables table st taken k d;
    less = let l = w.less k d in omega arith;
  }

  pub steps_no_room : m ≡ None → Steps s cells out pair T n out' back T' (Err SPACE)
  steps_no_room d = record { stands = λ tables table st taken. full_stands tables table st taken d; less = omega arith }
