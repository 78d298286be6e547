use Rattle.std.proofs.Common.{◌≤◌, length}
use Rattle.std.specs.Io.KnownBytes.{Consumes}
use Rattle.cave_runs.proofs.reading.read_all.Given as goal

-- what was taken so far, within the limit
abbrev pub invariant-loop : goal.invariant-loop
invariant-loop g l = record {
  taken : Consumes (g.R.Read.remaining l.initial.reader) (g.R.Read.remaining l.reader) l.bytes.items;
  within : length l.bytes.items ≤ l.limit;
}
