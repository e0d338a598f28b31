-- `split_block` meets its contract: the first six bytes are those of a block that fits.
use Rattle.std.proofs.Common.{◌∙◌, sym, refl, arith}
use Rattle.sheet_file.proofs.Blocks.{splits, payload_long}
use Rattle.sheet_file.proofs.split_block.Goals as goal

pub returns : goal.returns
returns c =
    let bytes = c.args.bytes.now in
    let n = c.from_le_bytes-n.result in
    let l = payload_long bytes n c.if-bytes-lt-HEAD.false c.if-bytes-n.false in
    record {
      is = splits bytes c.args.kind n (λ i. (c.type_inv.bytes i).fits) c.if-bytes-lt-HEAD.false c.from_le_bytes-n.ensures (sym c.from_le_bytes.ensures ∙ c.if-from_le_bytes-kind.false) c.if-n-gt-LARGEST.false c.if-bytes-n.false;
      payload_from = record { memory = refl; place = omega arith };
      rest_from = record { memory = refl; place = omega (arith, l) };
    }
