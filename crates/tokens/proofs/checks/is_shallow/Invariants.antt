-- `checks::is_shallow` meets its contract.
use Rattle.std.specs.Slice.Iter.{chunks_exact_rest, chunks_exact_size}
use Rattle.tokens.proofs.Nesting.{Shallow}
use Rattle.tokens.proofs.checks.is_shallow.Given as goal

abbrev pub invariant-loop-chunk : goal.invariant-loop-chunk
invariant-loop-chunk l = Shallow l.kinds l.most (chunks_exact_size l.chunk-iterator) (chunks_exact_rest l.chunk-iterator)
