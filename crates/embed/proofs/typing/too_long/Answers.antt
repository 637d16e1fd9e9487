use Rattle.std.proofs.Common.{◌≡◌, ◌+◌, ◌++◌, length, drop, codes, ap, ◌∙◌, arith}
use Rattle.embed.proofs.Sessions.{too_long_line}
use Rattle.embed.proofs.typing.too_long.Goals as goal

pub returns : goal.returns
returns c =
    let bytes : c.bytes-bytes.result.now ≡ codes "refused 41\n" = c.bytes-bytes.ensures ∙ (c.refused-answer.ensures ∙ too_long_line) in
    let eleven : length c.bytes-bytes.result.now ≡ 11 = ap length bytes in
    let places = c.args.places.now in
    record { told = λ l. (ap (λ n. record { read = length c.args.input.now; written = n }) eleven, c.put.ensures ∙ (ap (λ zs. zs ++ drop (0 + length zs) places) bytes)); untold = λ l. absurd (let r = c.if-places-lt-ROOM.false in let b : ⊥ = omega arith in b) }
