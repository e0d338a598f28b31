-- `put_all`: the bytes before the index were added.
use Rattle.std.specs.Prelude.{Some}
use Rattle.std.proofs.Common.{drop}
use Rattle.text.proofs.Laying.{Parts}
use Rattle.text.proofs.put_all.Given as goal

abbrev pub invariant-loop-byte : goal.invariant-loop-byte
invariant-loop-byte l = Parts l.bytes (drop l.byte-index l.bytes) l.initial.out l.initial.at l.out (Some l.at)
