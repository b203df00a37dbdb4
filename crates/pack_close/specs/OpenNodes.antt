-- The open nodes by depth, as the four arrays of an `Open` hold them.
--     tables_of            the working tables, with what an Open keeps for each depth
--     tables_in            the same, of the tables as the code has them together
--     no_open              an Open of which every entry is 0 or false
-- Assumes nothing.
use Rattle.std.specs.Prelude.{false, List, ℕ, replicate}
use Rattle.packing_rows.specs.WorkTables.{Tables, tables_with}
use Rattle.pack_close.specs.declared.Open.{Open}
use Rattle.pack_close.specs.declared.Tables as code

abbrev pub tables_of : List ℕ → List ℕ → List ℕ → Open → Tables
tables_of inputs leasts targets nodes = tables_with inputs leasts targets nodes.counts nodes.led nodes.finals nodes.values

abbrev pub tables_in : code.Tables → Tables
tables_in t = tables_of t.inputs.now t.leasts.now t.targets.now t.nodes

abbrev pub no_open : Open
no_open = record { counts = replicate 256 0; led = replicate 256 0; finals = replicate 256 false; values = replicate 256 0 }
