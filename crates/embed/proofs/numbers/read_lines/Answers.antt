use Rattle.std.proofs.Common.{◌∙◌, ap, length, arith}
use Rattle.std.specs.Iterator.Adapters.{enumerate_source, enumerate_count}
use Rattle.std.specs.Slice.Iter.{chunks_exact_rest}
use Rattle.embed.specs.Numbers.{lines_of}
use Rattle.embed.proofs.Reading.{lines_length, next_line, read_more, read_all}
use Rattle.embed.proofs.numbers.read_lines.Goals as goal

pub loop-k-preserved : goal.loop-k-preserved
loop-k-preserved c =
    let it = c.loop-k.k-iterator in
    let i = c.loop-k.invariant in
    let h = c.in-Some.ensures.steps in
    let old = chunks_exact_rest (enumerate_source it) in
    let new = chunks_exact_rest (enumerate_source c.next.new.self) in
    let three = h.0.1.1 ∙ i.size in
    let all = lines_of c.args.numbers.now in
    let more = ap length (next_line old c.in-Some.three.now new c.line_of.result h.0.1.0 three c.line_of.ensures) in
    let count = h.2 in
    let long = lines_length c.args.numbers.now in
    let first = h.1 in
    record {
      size = h.0.0 ∙ i.size;
      counted = omega arith;
      read = rw count (read_more old c.in-Some.three.now new c.line_of.result h.0.1.0 three c.line_of.ensures all c.loop-k.places c.in-Some.k (enumerate_count it) first (omega arith) i.read);
    }

pub returns : goal.returns
returns c =
    let it = c.loop-k.k-iterator in
    let i = c.loop-k.invariant in
    let h = c.in-None.ensures.steps in
    let size = i.size in
    let few = h.0.1.0 in
    read_all c.args.numbers.now (chunks_exact_rest (enumerate_source it)) c.loop-k.places (enumerate_count it) (omega arith) i.counted i.read
