use Rattle.std.proofs.Common.{◌≡◌, ◌+◌, ◌++◌, length, take}
use Rattle.std.specs.Iterator.Adapters.{enumerate_source, enumerate_count}
use Rattle.std.specs.Slice.Iter.{chunks_exact_rest, chunks_exact_size}
use Rattle.embed.specs.Numbers.{lines_of}
use Rattle.embed.proofs.numbers.read_lines.Given as goal

abbrev pub invariant-loop-k : goal.invariant-loop-k
invariant-loop-k l = record {
  size : chunks_exact_size (enumerate_source l.k-iterator) ≡ 3;
  counted : enumerate_count l.k-iterator + length (lines_of (chunks_exact_rest (enumerate_source l.k-iterator))) ≡ length (lines_of l.numbers);
  read : take (enumerate_count l.k-iterator) l.places ++ lines_of (chunks_exact_rest (enumerate_source l.k-iterator)) ≡ lines_of l.numbers;
}
